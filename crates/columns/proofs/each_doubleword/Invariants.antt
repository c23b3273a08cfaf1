-- Each doubleword so far that is not 0 was handed on, and answered by no error.
use Rattle.std.proofs.Common.{ℕ, ◌*◌, ◌<◌, Ok}
use Rattle.columns.specs.Doublewords.{doubleword}
use Rattle.columns.proofs.each_doubleword.Given as goal

abbrev pub invariant-loop-i : goal.invariant-loop-i
invariant-loop-i g l =
    (k : ℕ) → k < l.i → 0 < doubleword l.mem k → goal.F-post g l.show (8 * k) (doubleword l.mem k) (Ok tt)
