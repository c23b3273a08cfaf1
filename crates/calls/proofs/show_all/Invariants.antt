-- Each call leaves less of the text.
use Rattle.std.proofs.Common.{length}
use Rattle.calls.proofs.show_all.Given as goal

abbrev pub decreases-loop-call : goal.decreases-loop-call
decreases-loop-call g l = length l.left
