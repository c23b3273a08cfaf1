use Rattle.std.proofs.Common.{sym, ◌∙◌}
use mathlib.Core.Bool.{xor}
use Rattle.words.proofs.Quotients.{signed_by_zero, signed_quotient}
use Rattle.words.proofs.integer.divide_signed.Goals as goal

pub returns-then-b-eq0 : goal.returns-then-b-eq0
returns-then-b-eq0 c = c.ones-top.ensures ∙ sym (signed_by_zero c.args.width c.args.a c.args.b c.if-b-eq0.true)

-- the code's `^` on truth values is `xor` opened
pub returns : goal.returns
unfolding xor
returns c =
    c.with_sign.ensures
    ∙ signed_quotient c.args.width c.args.a c.args.b c.magnitude.ensures c.magnitude-2.ensures c.is_negative.ensures c.is_negative-2.ensures c.requires.3 c.if-b-eq0.false
