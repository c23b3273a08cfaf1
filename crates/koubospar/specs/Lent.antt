-- What a call on a lent machine answers, with the machine that it left, as the model's answer of the call by value.
-- StepStop and RunStop are declared in src/lent.rt, TurnStop in src/scheduled.rt, Machine in model/src/lib.rt, Scheduler in scheduler/src/lib.rt.
-- Assumes nothing.
use Rattle.std.specs.Prelude.{Bool}
use Rattle.model.specs.declared.Machine.{Machine}
use Rattle.model.specs.Outcome.{StepAnswer}
use Rattle.model.specs.Run.{RunAnswer}
use Rattle.koubospar.specs.declared.lent.StepStop.{StepStop}
use Rattle.koubospar.specs.declared.lent.RunStop.{RunStop}
use Rattle.scheduler.specs.declared.Scheduler.{Scheduler}
use Rattle.scheduler.specs.Turn.{TurnAnswer}
use Rattle.scheduler.specs.Turn.{PutAnswer}
use Rattle.koubospar.specs.declared.scheduled.TurnStop.{TurnStop}

abbrev pub stop_with : StepStop → Machine → StepAnswer
stop_with r m = record { stop = r.stop; address = r.address; machine = m }

abbrev pub run_stop_with : RunStop → Machine → RunAnswer
run_stop_with r m = record { stop = r.stop; count = r.count; address = r.address; machine = m }

-- a turn's answer with the slots that it left, and whether a machine was put there
abbrev pub turn_stop_with : TurnStop → Scheduler → TurnAnswer
turn_stop_with r s = record { slot = r.slot; stop = r.stop; count = r.count; address = r.address; scheduler = s }

abbrev pub put_with : Bool → Scheduler → PutAnswer
put_with done s = record { done = done; scheduler = s }
