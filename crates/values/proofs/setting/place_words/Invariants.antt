-- After i turns the first i words stand in memory.
use Rattle.std.proofs.Common.{◌≡◌, length}
use Rattle.values.specs.Setting.{placed}
use Rattle.values.proofs.setting.place_words.Given as goal

abbrev pub invariant-loop-i : goal.invariant-loop-i
invariant-loop-i l = (length l.mem ≡ length l.initial.mem) × (l.mem ≡ placed l.r l.from l.initial.mem l.a l.i)
