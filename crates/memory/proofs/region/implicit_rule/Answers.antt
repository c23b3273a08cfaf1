use Rattle.std.proofs.Common.{◌<◌, ap, ◌∙◌, arith, pow_pos, pow_mono}
use Rattle.std.proofs.lemmas.Nat.{one_shl}
use Rattle.model.specs.Regions.{implicit_rule_at}
use Rattle.memory.proofs.Rules.{implicit_law}
use Rattle.memory.proofs.region.implicit_rule.Goals as goal

pub overflow_sub-result : goal.overflow_sub-result
overflow_sub-result c =
    let k = c.mask_zeros-k.result in
    let l : k < 64 = omega arith in
    let p = pow_mono c.if-k-gt48.false in
    rw (one_shl k 64 l) (omega (arith, pow_pos k))

pub returns : goal.returns
returns c =
    let r = c.args.r in
    let k = c.mask_zeros-k in
    implicit_law k.result r.base r.bound c.if-k-gt48.false ∙ ap (λ z. implicit_rule_at z r.base r.bound) k.ensures
