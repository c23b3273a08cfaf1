use Rattle.std.proofs.Common.{length, ◌∙◌, rules}
use Rattle.model.specs.Access.{data_access, load_width}
use Rattle.model.specs.Regions.{read}
use Rattle.memory.proofs.Widths.{load_is_width}
use Rattle.memory.proofs.Fits.{passed_fits}
use Rattle.load_store.proofs.load.Goals as goal

-- what passed lies in memory
pub finish_load-requires : goal.finish_load-requires
finish_load-requires c =
    let a = c.args in
    let access = data_access a.m.now.hfi.regions read a.a (load_width a.k) in (
      c.requires,
      passed_fits a.m.now.hfi.mode (length a.mem.now) access (load_is_width a.k) (search rules) (search rules)
          (c.check_data-verdict.ensures ∙ rw (c.bit.ensures, c.load_width.ensures)),
    )
