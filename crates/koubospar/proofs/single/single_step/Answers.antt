use Rattle.koubospar.proofs.Once.{single}
use Rattle.koubospar.proofs.single.single_step.Goals as goal

pub returns : goal.returns
returns c = rw c.as_step.ensures (single _ _ _ _ c.run_call.ensures)
