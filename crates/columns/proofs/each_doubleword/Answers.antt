use Rattle.std.proofs.Common.{arith}
use Rattle.columns.specs.Doublewords.{doubleword}
use Rattle.columns.proofs.each_doubleword.Goals.{then-v-ne0+in_ok-show, else-v-ne0}
use Rattle.columns.proofs.each_doubleword.Goals as goal

pub loop-i-preserved : goal.loop-i-preserved
unfolding doubleword
loop-i-preserved g c k within positive =
    elim c.if-v-ne0.branch [
      | then-v-ne0+in_ok-show w ↦ grind arith
      | else-v-ne0 w ↦ grind arith
    ]
