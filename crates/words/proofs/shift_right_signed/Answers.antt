use Rattle.std.proofs.Common.{sym, ◌∙◌}
use Rattle.words.proofs.Signed.{negative, shift_high}
use Rattle.words.proofs.shift_right_signed.Goals as goal

pub returns-then-is_negative : goal.returns-then-is_negative
returns-then-is_negative c =
    let e = negative c.args.width c.args.x (sym c.is_negative.ensures ∙ c.if-is_negative.true) in
    shift_high c.args.width c.args.x c.args.n _ c.ones-top.ensures c.requires.3 e.0
