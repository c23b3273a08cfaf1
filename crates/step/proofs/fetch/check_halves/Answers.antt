use Rattle.std.proofs.Common.{length, refl, rules}
use Rattle.model.specs.Access.{fetch_access}
use Rattle.memory.proofs.Fits.{passed_fits}
use Rattle.step.proofs.fetch.check_halves.Goals as goal

-- what passed lies in memory
pub read-requires : goal.read-requires
read-requires c =
    let a = c.args in
    let h = a.h.now in
    (refl, passed_fits h.mode (length a.mem.now) (fetch_access h.regions a.pc) refl (search rules) (search rules) c.check_fetch.ensures c.in_ok-check_fetch.was)
