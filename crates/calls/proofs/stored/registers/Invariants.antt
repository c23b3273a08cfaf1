-- With the pairs that are still to come, x has them all.
use Rattle.std.proofs.Common.{set}
use Rattle.calls.specs.Stored.{registers_of}
use Rattle.calls.proofs.Pairs.{StillToPut}
use Rattle.calls.proofs.stored.registers.Given as goal

abbrev pub invariant-loop-i : goal.invariant-loop-i
invariant-loop-i l = StillToPut (goal.iterator-loop-i).next_gives set 10 l.x l.fields (registers_of l.fn.line)
