-- With the pairs that are still to come, memory has them all.
use Rattle.calls.specs.Stored.{put_doubleword, filled}
use Rattle.calls.proofs.Pairs.{StillToPut}
use Rattle.calls.proofs.stored.fill.Given as goal

abbrev pub invariant-loop-a : goal.invariant-loop-a
invariant-loop-a l = StillToPut (goal.iterator-loop-a).next_gives put_doubleword 16 l.mem l.fields (filled l.initial.mem l.fn.line)
