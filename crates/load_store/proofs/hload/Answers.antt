use Rattle.std.proofs.Common.{length, ◌∙◌, pos, ◌+ℤ◌, rules}
use Rattle.model.specs.Machine.{region}
use Rattle.model.specs.Access.{explicit_access, offset, load_width}
use Rattle.model.specs.Regions.{read}
use Rattle.words.proofs.Residues.{word_lt}
use Rattle.memory.proofs.Widths.{load_is_width}
use Rattle.memory.proofs.Fits.{passed_fits}
use Rattle.load_store.proofs.hload.Goals as goal

-- what passed lies in memory
pub finish_load-requires : goal.finish_load-requires
finish_load-requires c =
    let a = c.args in
    let rs = a.m.now.hfi.regions in
    let access = explicit_access rs a.region read (offset a.offset.operand a.offset.imm) (load_width a.k) in (
      c.requires,
      rw (c.explicit_address-first.ensures, c.region_at.ensures)
          (passed_fits a.m.now.hfi.mode (length a.mem.now) access (load_is_width a.k)
          (word_lt 64 (pos (region rs a.region).base +ℤ offset a.offset.operand a.offset.imm)) (search rules)
          (c.check_explicit-verdict.ensures ∙ rw (c.bit.ensures, c.load_width.ensures))),
    )
