-- Decoding and encoding undo each other, and their numbers are document 01's.
-- Assumes nothing.
use mathlib.Core.Path.{◌≡◌, refl, sym, ap, ◌∙◌}
use mathlib.Core.Bool.{Bool, true, false, cond}
use mathlib.Core.Logic.{◌↔◌}
use Prim.Native.Nat.{ℕ, ◌^◌, ◌<◌}
use native.Mathlib.Omega.{arith}
use Rattle.std.proofs.Common.{Option, Some, None}
use Rattle.std.proofs.lemmas.Option.{cond_some}
use Rattle.instructions.specs.Fields.{fields_of, word_of}
use Rattle.instructions.specs.Decode.{decode_fields, decode_word}
use Rattle.instructions.specs.Encode.{encode_fields, in_range, encode_word}
use Rattle.instructions.specs.Answers.{decode_number, encode_number, word_answered}
use Rattle.instructions.specs.declared.instruction.Instruction.{Instruction}
use Rattle.instructions.proofs.Words.{fields_in_word, fields_of_word, word_of_fields, word_lt}
use Rattle.instructions.proofs.DecodeEncode.{encode_in_word, decode_encode}
use Rattle.instructions.proofs.EncodeDecode.{Back, back}

-- ---- what the two answers tell

encoded : (i : Instruction) (w : ℕ) → encode_word i ≡ Some w → (in_range i ≡ true) × (w ≡ word_of (encode_fields i))
unfolding encode_word
encoded i w e = let p = cond_some (in_range i) (word_of (encode_fields i)) w e in (p.0, sym p.1)

decoded : (w : ℕ) (i : Instruction) → decode_word w ≡ Some i → Back (fields_of w) (Some i)
unfolding decode_word
decoded w i e = rw e at (back (fields_of w) (fields_in_word w))

-- ---- the round trips

-- a word that an instruction is encoded to is decoded to it
pub decode_of_encode : (i : Instruction) (w : ℕ) → encode_word i ≡ Some w → decode_word w ≡ Some i
unfolding decode_word
decode_of_encode i w e =
    let t = encoded i w e in
    ap (λ (x : ℕ). decode_fields (fields_of x)) t.1 ∙ ap decode_fields (fields_of_word (encode_fields i) (encode_in_word i t.0))
    ∙ decode_encode i t.0

-- a word that is decoded to an instruction is the one that the instruction is encoded to
pub encode_of_decode : (w : ℕ) (i : Instruction) → w < 2 ^ 32 → decode_word w ≡ Some i → encode_word i ≡ Some w
unfolding encode_word
encode_of_decode w i h e = let b = decoded w i e in rw (b.1, b.0) (ap Some (word_of_fields w h))

-- an instruction's word has 32 bits
pub encode_fits : (i : Instruction) (w : ℕ) → encode_word i ≡ Some w → w < 2 ^ 32
encode_fits i w e = let t = encoded i w e in rw t.1 (word_lt (encode_fields i) (encode_in_word i t.0))

-- what is decoded has every field in its range
pub decoded_range : (w : ℕ) (i : Instruction) → decode_word w ≡ Some i → in_range i ≡ true
decoded_range w i e = (decoded w i e).1

-- no legal word has two instructions
pub one_instruction : (w : ℕ) (i j : Instruction) → decode_word w ≡ Some i → decode_word w ≡ Some j → i ≡ j
one_instruction w i j p q = cc

-- two instructions with the same word are equal
pub one_word : (i j : Instruction) (w : ℕ) → encode_word i ≡ Some w → encode_word j ≡ Some w → i ≡ j
one_word i j w p q = one_instruction w i j (decode_of_encode i w p) (decode_of_encode j w q)

-- two legal words with the same instruction are equal
pub one_legal_word : (v w : ℕ) (i : Instruction) → v < 2 ^ 32 → w < 2 ^ 32 → decode_word v ≡ Some i → decode_word w ≡ Some i → v ≡ w
one_legal_word v w i h l p q = let e = encode_of_decode v i h p in let f = encode_of_decode w i l q in cc

-- ---- the numbers

-- decoding answers 13 for an illegal word and only then
pub decode_number_lem : (w : ℕ) → (decode_number (decode_word w) ≡ 13) ↔ (decode_word w ≡ None)
decode_number_lem w = (go (decode_word w), ap decode_number)
  where
    go : (d : Option Instruction) → decode_number d ≡ 13 → d ≡ None
    go (Some i) e = absurd (omega arith)
    go None e = refl

-- a word is illegal exactly if no instruction is encoded to it
pub illegal_exactly : (w : ℕ) → w < 2 ^ 32 → (decode_word w ≡ None) ↔ ((i : Instruction) → encode_word i ≡ Some w → ⊥)
illegal_exactly w h = (none, λ f. go f (decode_word w) refl)
  where
    none : decode_word w ≡ None → (i : Instruction) → encode_word i ≡ Some w → ⊥
    none e i f =
        let g = decode_of_encode i w f in
        cc

    go : ((i : Instruction) → encode_word i ≡ Some w → ⊥) → (d : Option Instruction) → decode_word w ≡ d → d ≡ None
    go f (Some i) e = absurd (f i (encode_of_decode w i h e))
    go f None e = refl

-- encoding answers 5 if a field of the instruction is outside its range and only then
pub encode_number_lem : (i : Instruction) → (encode_number (encode_word i) ≡ 5) ↔ (in_range i ≡ false)
unfolding encode_word
encode_number_lem i = (go (in_range i), λ h. rw h refl)
  where
    go : (b : Bool) → encode_number (cond b (Some (word_of (encode_fields i))) None) ≡ 5 → b ≡ false
    go true e = absurd (omega arith)
    go false e = refl

-- .. and then with word 0
pub refused_word : (i : Instruction) → encode_number (encode_word i) ≡ 5 → word_answered (encode_word i) ≡ 0
refused_word i e = go (encode_word i) e
  where
    go : (a : Option ℕ) → encode_number a ≡ 5 → word_answered a ≡ 0
    go (Some w) e = absurd (omega arith)
    go None e = refl

-- an answer 0 comes with the instruction's word
pub answered_word : (i : Instruction) (w : ℕ) → encode_number (encode_word i) ≡ 0 → word_answered (encode_word i) ≡ w → encode_word i ≡ Some w
answered_word i w n e = go (encode_word i) n e
  where
    go : (a : Option ℕ) → encode_number a ≡ 0 → word_answered a ≡ w → a ≡ Some w
    go (Some v) n e = ap Some e
    go None n e = absurd (omega arith)
