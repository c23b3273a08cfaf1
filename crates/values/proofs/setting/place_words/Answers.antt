use Rattle.std.proofs.Common.{add-one, rules}
use Rattle.values.specs.Setting.{placed}
use Rattle.values.proofs.setting.place_words.Goals as goal

pub loop-i-init : goal.loop-i-init
unfolding placed
loop-i-init c = search rules

pub loop-i-preserved : goal.loop-i-preserved
unfolding placed
loop-i-preserved c = (search rules, rw (add-one c.loop-i.i) cc)
