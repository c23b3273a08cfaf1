-- Each register so far that is not 0 was handed on, and answered by no error.
use Rattle.std.proofs.Common.{ℕ, ◌<◌, get_or, Ok}
use Rattle.columns.proofs.each_register.Given as goal

abbrev pub invariant-loop-i : goal.invariant-loop-i
invariant-loop-i g l =
    (k : ℕ) → k < l.i → 0 < get_or l.x k 0 → goal.F-post g l.show k (get_or l.x k 0) (Ok tt)
