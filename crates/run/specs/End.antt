-- What ended a run of a machine in place, with the machine after it, as the model's answer. No promise rests on this file: each is proved to be
-- what model's run answers.
-- End is declared in src/lib.rt, Machine in model/src/lib.rt. Assumes nothing.
use Rattle.model.specs.Run.{RunAnswer}
use Rattle.model.specs.Stops.{stop_number, stop_address}
use Rattle.model.specs.declared.Machine.{Machine}
use Rattle.run.specs.declared.End.{End}

abbrev pub end_with : End → Machine → RunAnswer
end_with e m = record { stop = stop_number e.stop; count = e.count; address = stop_address e.stop; machine = m }
