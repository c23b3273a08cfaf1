use Rattle.std.proofs.Common.{length, ◌∙◌, pos, ◌+ℤ◌, rules}
use Rattle.model.specs.Machine.{region}
use Rattle.model.specs.Access.{explicit_access, offset, store_width}
use Rattle.model.specs.Regions.{write}
use Rattle.words.proofs.Residues.{word_lt}
use Rattle.memory.proofs.Widths.{store_is_width}
use Rattle.memory.proofs.Fits.{passed_fits}
use Rattle.load_store.proofs.hstore.Goals as goal

-- what passed lies in memory
pub finish_store-requires : goal.finish_store-requires
finish_store-requires c =
    let a = c.args in
    let rs = a.m.now.hfi.regions in
    let access = explicit_access rs a.region write (offset a.offset.operand a.offset.imm) (store_width a.k) in
    rw (c.explicit_address-first.ensures, c.region_at.ensures)
    (passed_fits a.m.now.hfi.mode (length a.mem.now) access (store_is_width a.k)
    (word_lt 64 (pos (region rs a.region).base +ℤ offset a.offset.operand a.offset.imm)) (search rules)
    (c.check_explicit-verdict.ensures ∙ rw (c.bit.ensures, c.store_width.ensures)))
