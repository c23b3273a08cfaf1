-- Asking the slots from number d-index + 1 on comes to asking them all.
use Rattle.std.proofs.Common.{◌≡◌, ◌+◌, ◌-◌}
use Rattle.scheduler.specs.Turn.{slots_refusal}
use Rattle.turn.proofs.refusal.slots_refusal.Given as goal

abbrev pub invariant-loop-d : goal.invariant-loop-d
invariant-loop-d l = slots_refusal l.fn.slots (l.fn.count - l.d-index) (l.d-index + 1) ≡ slots_refusal l.fn.slots l.fn.count 1
