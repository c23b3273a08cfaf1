use Rattle.std.proofs.Common.{◌≡◌, ◌-◌}
use Rattle.model.specs.Machine.{inside}
use Rattle.model.specs.Run.{run}
use Rattle.run.proofs.run.Given as goal

-- what is left of the run, from here, ends as the whole of it does
abbrev pub invariant-loop-count : goal.invariant-loop-count
invariant-loop-count l = run l.began (l.budget - l.count) l.count l.m l.mem ≡ run (inside l.fn.m.hfi) l.budget 0 l.fn.m l.fn.mem
