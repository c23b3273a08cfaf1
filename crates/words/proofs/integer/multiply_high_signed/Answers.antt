use Rattle.std.proofs.Common.{pos, ap, ◌∙◌, rules}
use lib.IntN.{*ℤ_comm}
use Rattle.words.specs.Word.{signed}
use Rattle.words.specs.Integer.{high_half}
use Rattle.words.proofs.Residues.{word_signed}
use Rattle.words.proofs.Products.{high_less}
use Rattle.words.proofs.integer.multiply_high_signed.Goals as goal

pub returns : goal.returns
returns c =
    let a = c.args in
    let y = signed 64 a.a in
    let m = c.multiply_high_mixed.ensures ∙ ap (high_half 64) (*ℤ_comm y (pos a.b)) in
    high_less a.b a.a _ _ y (search rules) (word_signed 64 a.a (search rules)) c.excess.ensures m ∙ ap (high_half 64) (*ℤ_comm (signed 64 a.b) y)
