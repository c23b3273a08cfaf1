-- The low two bits tell half-words from long words: no number is legal as both.
-- Assumes nothing.
use mathlib.Core.Path.{◌≡◌, refl, ap, ◌∙◌}
use mathlib.Core.Bool.{Bool, true, false, ◌&&◌}
use mathlib.Core.List.{List, [], ◌∷◌}
use Prim.Native.Nat.{ℕ, ◌%◌, ◌^◌}
use native.Mathlib.Omega.{arith}
use lib.Dec.{eqb}
use borrow.Author.Tests.{eqb-true, eq-eqb, ne_eqb}
use Rattle.std.proofs.Common.{Option, Some, None}
use Rattle.std.proofs.lemmas.Option.{none-some}
use Rattle.std.proofs.lemmas.Bool.{and_parts}
use Rattle.words.specs.Word.{field}
use Rattle.instructions.specs.Table.{lookup}
use Rattle.instructions.specs.Fields.{fields_of}
use Rattle.instructions.specs.Decode.{groups, decode_word}
use Rattle.instructions.specs.declared.instruction.Instruction.{Instruction}
use Rattle.instructions.proofs.Tables.{cond_ind}
use Rattle.compressed.specs.Expand.{expand_half, is_long}

-- a half-word has not both low bits
pub half_low : (h : ℕ) (i : Instruction) → expand_half h ≡ Some i → field h 0 2 ≡ 3 → ⊥
unfolding expand_half
half_low h i e t = none-some i (none ∙ e)
  where
    none : None ≡ expand_half h
    none = rw t refl

-- every number of the rows ends in 11
abbrev ends_in_ones : List (ℕ × Option Instruction) → Bool
ends_in_ones [] = true
ends_in_ones (r ∷ rs) = eqb (field r.0 0 2) 3 && ends_in_ones rs

found_low : (rs : List (ℕ × Option Instruction)) (n : ℕ) (i : Instruction) → ends_in_ones rs ≡ true → lookup None rs n ≡ Some i → field n 0 2 ≡ 3
found_low [] n i t e = absurd (none-some i e)
found_low (r ∷ rs) n i t e =
    let p = and_parts (eqb (field r.0 0 2) 3) (ends_in_ones rs) t in
    cond_ind (λ (d : Option Instruction). d ≡ Some i → field n 0 2 ≡ 3) (eqb n r.0)
    (λ u q. ap (λ (k : ℕ). field k 0 2) (eqb-true n r.0 u) ∙ eqb-true _ 3 p.0)
    (found_low rs n i p.1)
    e

-- a long word has both: every opcode ends in 11
pub long_low : (w : ℕ) (i : Instruction) → decode_word w ≡ Some i → field w 0 2 ≡ 3
unfolding decode_word
long_low w i e = let l : field (field w 0 7) 0 2 ≡ 3 = found_low (groups (fields_of w)) (field w 0 7) i refl e in omega arith

-- so the test that a fetch makes tells which it is
pub half_not_long : (h : ℕ) (i : Instruction) → expand_half h ≡ Some i → is_long h ≡ false
half_not_long h i e = ne_eqb (field h 0 2) 3 (half_low h i e)

pub word_long : (w : ℕ) (i : Instruction) → decode_word w ≡ Some i → is_long (w % 2 ^ 16) ≡ true
word_long w i e = let l = long_low w i e in eq-eqb (field (w % 2 ^ 16) 0 2) 3 (omega (arith, l))

pub not_both : (n : ℕ) (i j : Instruction) → decode_word n ≡ Some i → expand_half n ≡ Some j → ⊥
not_both n i j d e = half_low n j e (long_low n i d)
