-- A word and its six fields are one and the same.
-- Assumes nothing.
use mathlib.Core.Path.{◌≡◌, ◌∙◌}
use Prim.Native.Nat.{ℕ, ◌+◌, ◌*◌, ◌^◌, ◌<◌}
use native.Mathlib.Omega.{arith}
use Rattle.words.specs.Word.{field}
use Rattle.words.proofs.Fields.{field_all, field_cut}
use Rattle.instructions.specs.Fields.{fields_of, word_of}
use Rattle.instructions.specs.InWord.{InWord}
use Rattle.instructions.specs.declared.fields.Fields.{Fields}

-- fields are equal, each by itself
pub same : {o o' d d' f f' a a' b b' s s' : ℕ} → o ≡ o' → d ≡ d' → f ≡ f' → a ≡ a' → b ≡ b' → s ≡ s'
    → ◌≡◌ {A = Fields} (record { opcode = o; rd = d; funct3 = f; rs1 = a; rs2 = b; funct7 = s })
    (record { opcode = o'; rd = d'; funct3 = f'; rs1 = a'; rs2 = b'; funct7 = s' })
same o d f a b s = cc

-- the fields of any word are in their places
pub fields_in_word : (w : ℕ) → InWord (fields_of w)
fields_in_word w = omega arith

-- the fields of the word that they make
pub fields_of_word : (f : Fields) → InWord f → fields_of (word_of f) ≡ f
fields_of_word f r = same (omega arith) (omega arith) (omega arith) (omega arith) (omega arith) (omega arith)

-- the word of the fields that it is cut into: each cut in turn is undone
pub word_of_fields : (w : ℕ) → w < 2 ^ 32 → word_of (fields_of w) ≡ w
word_of_fields w h =
    glue (field w 0 7) (field w 7 5) (field w 12 3) (field w 15 5) (field w 20 5) (field w 25 7)
    (field_cut w 0 7 5) (field_cut w 0 12 3) (field_cut w 0 15 5) (field_cut w 0 20 5) (field_cut w 0 25 7) ∙ field_all w 32 h
  where
    glue : (o d f a b s : ℕ) {w12 w15 w20 w25 w32 : ℕ} → d * 2 ^ 7 + o ≡ w12 → f * 2 ^ 12 + w12 ≡ w15 → a * 2 ^ 15 + w15 ≡ w20
        → b * 2 ^ 20 + w20 ≡ w25 → s * 2 ^ 25 + w25 ≡ w32 → s * 2 ^ 25 + b * 2 ^ 20 + a * 2 ^ 15 + f * 2 ^ 12 + d * 2 ^ 7 + o ≡ w32
    glue o d f a b s p q r t u = omega arith

pub word_lt : (f : Fields) → InWord f → word_of f < 2 ^ 32
word_lt f r = omega arith
