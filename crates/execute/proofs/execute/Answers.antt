use Rattle.std.proofs.Common.{sym, ap, ◌∙◌}
use Rattle.model.specs.Step.{execute_instruction}
use Rattle.model.specs.Outcome.{allowed}
use Rattle.model.specs.Hfi.{hfi_stop}
use Rattle.execute.proofs.execute.Goals as goal

pub returns-in-System : goal.returns-in-System
unfolding execute_instruction allowed hfi_stop
returns-in-System c = c.system.ensures _ _ ∙ ap (execute_instruction _ _ _) (sym c.in-System.is)
