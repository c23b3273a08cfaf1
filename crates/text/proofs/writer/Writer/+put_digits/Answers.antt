-- It goes as the definition of `digits` does.
use Rattle.std.proofs.Common.{[], ◌∷◌, ◌++◌, ◌-◌, ◌/◌, sym, ap, ◌∙◌, arith}
use Rattle.text.specs.Number.{digits}
use Rattle.text.proofs.Numbers.{digits_le, digits_none, digits_one, digits_more}
use Rattle.text.proofs.Writing.{put_none, put_as, put_then}
use Rattle.text.proofs.writer.Writer.+put_digits.Goals as goal

pub returns-then-room-eq0 : goal.returns-then-room-eq0
returns-then-room-eq0 t c = put_as (sym (digits_none c.args.base c.args.room c.args.n c.if-room-eq0.true)) (put_none _)

pub returns-then-n-base : goal.returns-then-n-base
returns-then-n-base t c =
    let one = digits_one c.args.base c.args.room c.args.n c.if-room-eq0.false c.if-n-base.true in
    put_as (ap (λ b. b ∷ []) c.digit_byte.ensures ∙ sym one) c.put_byte.ensures

pub put_byte-requires-2 : goal.put_byte-requires-2
put_byte-requires-2 t c = omega (arith, c.put_digits.ensures.wrote.after, digits_le c.args.base (c.args.room - 1) (c.args.n / c.args.base))

pub returns : goal.returns
returns t c =
    let a = c.args in
    let more = digits_more a.base a.room a.n c.if-room-eq0.false c.if-n-base.false in
    put_as
    (ap (λ b. digits a.base (a.room - 1) (a.n / a.base) ++ (b ∷ [])) c.digit_byte-2.ensures ∙ sym more)
    (put_then c.put_digits.ensures c.put_byte-2.ensures)
