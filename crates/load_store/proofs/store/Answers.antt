use Rattle.std.proofs.Common.{length, ◌∙◌, rules}
use Rattle.model.specs.Access.{data_access, store_width}
use Rattle.model.specs.Regions.{write}
use Rattle.memory.proofs.Widths.{store_is_width}
use Rattle.memory.proofs.Fits.{passed_fits}
use Rattle.load_store.proofs.store.Goals as goal

-- what passed lies in memory
pub finish_store-requires : goal.finish_store-requires
finish_store-requires c =
    let a = c.args in
    let access = data_access a.m.now.hfi.regions write a.a (store_width a.k) in
    passed_fits a.m.now.hfi.mode (length a.mem.now) access (store_is_width a.k) (search rules) (search rules)
    (c.check_data-verdict.ensures ∙ rw (c.bit.ensures, c.store_width.ensures))
