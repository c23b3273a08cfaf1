-- A run of one step, read as a step. No promise rests on this file: what is made by it is proved to be model's step call.
-- Assumes nothing.
use Rattle.std.specs.Prelude.{cond, eqb}
use Rattle.model.specs.Outcome.{StepAnswer}
use Rattle.model.specs.Run.{RunAnswer}

-- what a run of one step answers, as the step's own answer
abbrev pub as_step : RunAnswer → StepAnswer
as_step r =
    cond (eqb r.count 1) (record { stop = 0; address = 0; machine = r.machine })
    (record { stop = r.stop; address = r.address; machine = r.machine })
