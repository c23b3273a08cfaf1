use Rattle.std.proofs.Common.{◌∙◌, lt_of_le_of_lt, rules}
use native.Mathlib.Nat.{mod-le}
use Rattle.words.proofs.Quotients.{magnitude_lt, remainder_unsigned, signed_remainder}
use Rattle.words.proofs.integer.remainder_signed.Goals as goal

pub with_sign-requires : goal.with_sign-requires
with_sign-requires c =
    let m = magnitude_lt c.args.width c.args.a c.requires.2 c.magnitude.ensures in
    let e = c.remainder.ensures ∙ remainder_unsigned 64 _ _ (search rules) in
    (c.requires.0, c.requires.1, rw e (lt_of_le_of_lt (mod-le _ _) m))

pub returns : goal.returns
returns c =
    let e = c.remainder.ensures ∙ remainder_unsigned 64 _ _ (search rules) in
    c.with_sign.ensures
    ∙ rw e (signed_remainder c.args.width c.args.a c.args.b c.magnitude.ensures c.magnitude-2.ensures c.is_negative.ensures)
