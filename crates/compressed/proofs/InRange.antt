-- Every expansion is an instruction that encode takes, so that it has a long word.
-- Assumes nothing.
use mathlib.Core.Path.{◌≡◌, refl, sym, ap, ◌∙◌}
use mathlib.Core.Bool.{Bool, true, false, cond}
use mathlib.Core.List.{List, [], ◌∷◌}
use Prim.Native.Nat.{ℕ, ◌^◌, ◌<◌, ◌≤◌}
use native.Mathlib.Nat.{lt_of_lt_of_le}
use native.Mathlib.Omega.{arith}
use lib.Dec.{ltb, lit<, lit≤}
use lib.Pow.{pow_pos, pow_mono}
use borrow.Author.Tests.{lt-ltb, eq-eqb}
use Rattle.std.proofs.Common.{Some}
use Rattle.std.proofs.lemmas.Option.{none-some, same_Some}
use Rattle.std.proofs.lemmas.Bool.{and_from}
use Rattle.words.specs.Word.{field, sext, fits_signed, width}
use Rattle.words.proofs.Fields.{field_lt, Fit, Are, lay_lt, lay_read}
use Rattle.words.proofs.Extend.{sext_field, low_fits, sext_wider}
use Rattle.instructions.specs.Encode.{two, multiple, in_range, encode_fields, encode_word}
use Rattle.instructions.specs.Fields.{word_of}
use Rattle.instructions.specs.declared.instruction.Instruction.{Instruction}
use Rattle.instructions.specs.Decode.{decode_word}
use Rattle.instructions.proofs.RoundTrip.{decode_of_encode}
use Rattle.instructions.proofs.Tests.{two_of}
use Rattle.compressed.specs.Immediates.{rd, rs2, short, Scattered, pieces_at, pieces, zero_extended, sign_extended, addi4spn, word_offset, double_offset, six_bits, addi16sp, upper, jump_offset, branch_offset, word_from_stack, double_from_stack, word_to_stack, double_to_stack}
use Rattle.compressed.specs.Table.{Line, takes, table}
use Rattle.compressed.specs.Expand.{expand_by, expand_half}

-- ---- registers and immediates, of whatever places

module _ (h : ℕ) where
  rd_lt : rd h < 32
  rd_lt = field_lt h 7 5

  rs2_lt : rs2 h < 32
  rs2_lt = field_lt h 2 5

  short_lt : (k : ℕ) → short h k < 32
  short_lt k = let l = field_lt h k 3 in omega arith

  fit_at : (ps : List (ℕ × ℕ)) (low : ℕ) → Fit (pieces_at h ps low)
  fit_at [] low = (pow_pos low, tt)
  fit_at (p ∷ ps) low = (field_lt h p.0 p.1, fit_at ps low)

  -- the zeros below
  low_zero : (y : ℕ) (ps : List (ℕ × ℕ)) (low : ℕ) → Are y (pieces_at h ps low) → field y 0 low ≡ 0
  low_zero y [] low a = a.0
  low_zero y (p ∷ ps) low a = low_zero y ps low a.1

  module _ (s : Scattered) where
    fit : Fit (pieces h s)
    fit = fit_at s.places s.low

    pub bits_lt : zero_extended h s < 2 ^ width (pieces h s)
    bits_lt = lay_lt (pieces h s) fit

    zero_fits : width (pieces h s) ≤ 11 → fits_signed 12 (zero_extended h s) ≡ true
    zero_fits l = low_fits 12 (zero_extended h s) (lit≤ tt) (lt_of_lt_of_le bits_lt (pow_mono l))

    sign_fits : (n : ℕ) → 0 < width (pieces h s) → width (pieces h s) ≤ n → n ≤ 64 → fits_signed n (sign_extended h s) ≡ true
    sign_fits n p l u = sext_wider (width (pieces h s)) n (zero_extended h s) p l u bits_lt

    sign_multiple : (n : ℕ) → 0 < width (pieces h s) → width (pieces h s) ≤ n → n ≤ 64 → multiple n s.low (sign_extended h s) ≡ true
    sign_multiple n p l u =
        let y = sign_extended h s in
        let w : width (pieces h s) ≤ 64 = omega arith in
        let a = lay_read y (pieces h s) fit (sext_field (width (pieces h s)) (zero_extended h s) w bits_lt) in
        and_from _ _ (sign_fits n p l u) (eq-eqb _ 0 (low_zero y s.places s.low a))

  amount_fits : ltb (zero_extended h six_bits) 64 ≡ true
  amount_fits = lt-ltb (zero_extended h six_bits) 64 (bits_lt six_bits)

x0_lt : 0 < 32
x0_lt = lit< tt

x1_lt : 1 < 32
x1_lt = lit< tt

x2_lt : 2 < 32
x2_lt = lit< tt

three : {a b c : ℕ} → a < 32 → b < 32 → c < 32 → two a b (ltb c 32) ≡ true
three {a} {b} {c} p q r = two_of p q (lt-ltb c 32 r)

-- ---- the lines

abbrev Ranged : Line → Type 0
Ranged l = (h : ℕ) → in_range (l.expansion h) ≡ true

abbrev AllRanged : List Line → Type 0
AllRanged [] = Unit {0}
AllRanged (l ∷ ls) = Ranged l × AllRanged ls

lines_ranged : AllRanged table
unfolding sext
lines_ranged = (
  (λ h. two_of (short_lt h 2) x2_lt (zero_fits h addi4spn (lit≤ tt))),
  (
    (λ h. two_of (short_lt h 2) (short_lt h 7) (zero_fits h word_offset (lit≤ tt))),
    (
      (λ h. two_of (short_lt h 2) (short_lt h 7) (zero_fits h double_offset (lit≤ tt))),
      (
        (λ h. two_of (short_lt h 7) (short_lt h 2) (zero_fits h word_offset (lit≤ tt))),
        (
          (λ h. two_of (short_lt h 7) (short_lt h 2) (zero_fits h double_offset (lit≤ tt))),
          (
            (λ h. two_of x0_lt x0_lt (sign_fits h six_bits 12 (lit< tt) (lit≤ tt) (lit≤ tt))),
            (
              (λ h. two_of (rd_lt h) (rd_lt h) (sign_fits h six_bits 12 (lit< tt) (lit≤ tt) (lit≤ tt))),
              (
                (λ h. two_of (rd_lt h) (rd_lt h) (sign_fits h six_bits 12 (lit< tt) (lit≤ tt) (lit≤ tt))),
                (
                  (λ h. two_of (rd_lt h) x0_lt (sign_fits h six_bits 12 (lit< tt) (lit≤ tt) (lit≤ tt))),
                  (
                    (λ h. two_of x2_lt x2_lt (sign_fits h addi16sp 12 (lit< tt) (lit≤ tt) (lit≤ tt))),
                    (
                      (λ h. and_from _ _ (lt-ltb (rd h) 32 (rd_lt h)) (sign_multiple h upper 32 (lit< tt) (lit≤ tt) (lit≤ tt))),
                      (
                        (λ h. two_of (short_lt h 7) (short_lt h 7) (amount_fits h)),
                        (
                          (λ h. two_of (short_lt h 7) (short_lt h 7) (amount_fits h)),
                          (
                            (λ h. two_of (short_lt h 7) (short_lt h 7) (sign_fits h six_bits 12 (lit< tt) (lit≤ tt) (lit≤ tt))),
                            (
                              (λ h. three (short_lt h 7) (short_lt h 7) (short_lt h 2)),
                              (
                                (λ h. three (short_lt h 7) (short_lt h 7) (short_lt h 2)),
                                (
                                  (λ h. three (short_lt h 7) (short_lt h 7) (short_lt h 2)),
                                  (
                                    (λ h. three (short_lt h 7) (short_lt h 7) (short_lt h 2)),
                                    (
                                      (λ h. three (short_lt h 7) (short_lt h 7) (short_lt h 2)),
                                      (
                                        (λ h. three (short_lt h 7) (short_lt h 7) (short_lt h 2)),
                                        (
                                          (λ h. and_from _ _ (lt-ltb 0 32 x0_lt) (sign_multiple h jump_offset 21 (lit< tt) (lit≤ tt) (lit≤ tt))),
                                          (
                                            (λ h. two_of (short_lt h 7) x0_lt (sign_multiple h branch_offset 13 (lit< tt) (lit≤ tt) (lit≤ tt))),
                                            (
                                              (λ h. two_of (short_lt h 7) x0_lt (sign_multiple h branch_offset 13 (lit< tt) (lit≤ tt) (lit≤ tt))),
                                              (
                                                (λ h. two_of (rd_lt h) (rd_lt h) (amount_fits h)),
                                                (
                                                  (λ h. two_of (rd_lt h) x2_lt (zero_fits h word_from_stack (lit≤ tt))),
                                                  (
                                                    (λ h. two_of (rd_lt h) x2_lt (zero_fits h double_from_stack (lit≤ tt))),
                                                    (
                                                      (λ h. two_of x0_lt (rd_lt h) refl),
                                                      (
                                                        (λ h. three (rd_lt h) x0_lt (rs2_lt h)),
                                                        (
                                                          (λ h. refl),
                                                          (
                                                            (λ h. two_of x1_lt (rd_lt h) refl),
                                                            (
                                                              (λ h. three (rd_lt h) (rd_lt h) (rs2_lt h)),
                                                              (
                                                                (λ h. two_of x2_lt (rs2_lt h) (zero_fits h word_to_stack (lit≤ tt))),
                                                                (
                                                                  (λ h. two_of x2_lt (rs2_lt h) (zero_fits h double_to_stack (lit≤ tt))),
                                                                  tt,
                                                                ),
                                                              ),
                                                            ),
                                                          ),
                                                        ),
                                                      ),
                                                    ),
                                                  ),
                                                ),
                                              ),
                                            ),
                                          ),
                                        ),
                                      ),
                                    ),
                                  ),
                                ),
                              ),
                            ),
                          ),
                        ),
                      ),
                    ),
                  ),
                ),
              ),
            ),
          ),
        ),
      ),
    ),
  ),
)

ranged : (ls : List Line) → AllRanged ls → (h : ℕ) (i : Instruction) → expand_by ls h ≡ Some i → in_range i ≡ true
ranged [] a h i e = absurd (none-some i e)
ranged (l ∷ ls) a h i e = go (takes h l) (ranged ls a.1 h i) e
  where
    go : (b : Bool) → (expand_by ls h ≡ Some i → in_range i ≡ true) → cond b (Some (l.expansion h)) (expand_by ls h) ≡ Some i → in_range i ≡ true
    go true later q = ap in_range (sym (same_Some _ i q)) ∙ a.0 h
    go false later q = later q

-- each field of an expansion is in its range
pub expanded_range : (h : ℕ) (i : Instruction) → expand_half h ≡ Some i → in_range i ≡ true
unfolding expand_half
expanded_range h i e = ranged table lines_ranged h i e

-- so it has a long word
pub expanded_word : (h : ℕ) (i : Instruction) → expand_half h ≡ Some i → encode_word i ≡ Some (word_of (encode_fields i))
unfolding encode_word
expanded_word h i e = rw (expanded_range h i e) refl

-- which decodes to it
pub expanded_decodes : (h : ℕ) (i : Instruction) → expand_half h ≡ Some i → decode_word (word_of (encode_fields i)) ≡ Some i
expanded_decodes h i e = decode_of_encode i _ (expanded_word h i e)
