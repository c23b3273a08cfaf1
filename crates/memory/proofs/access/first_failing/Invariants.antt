use Rattle.std.proofs.Common.{◌≡◌, ◌-◌, ◌<◌, ℕ, Bool}
use Rattle.model.specs.Access.{scan}
use Rattle.memory.proofs.access.first_failing.Given as goal

abbrev pub invariant-loop-i : goal.invariant-loop-i
invariant-loop-i g l = (ok : ℕ → Bool) → ((i : ℕ) (t : Bool) → i < l.n → goal.F-post g l.passes i t → t ≡ ok i) → scan ok l.i (l.n - l.i) ≡ scan ok 0 l.n

abbrev pub decreases-loop-i : goal.decreases-loop-i
decreases-loop-i g l = l.n - l.i
