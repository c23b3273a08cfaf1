-- Quotients and remainders over the width, by magnitudes and signs.
-- Assumes nothing.
use Rattle.std.proofs.Common.{◌≡◌, ℕ, zero, suc, Option, Some, None, ◌+◌, ◌-◌, ◌/◌, ◌%◌, ◌^◌, ◌<◌, Bool, true, false, cond, not, ◌&&◌, eqb, ℤ, pos, negsuc, neg_ℤ, nat_abs, sym, refl, ap, ◌∙◌, true≢false, lt_of_lt_of_le, lt_of_le_of_lt, lt_irrefl, mod-eq_of_lt, div-le_self, arith, pow_pos, lt-ltb, eq-eqb, ne_eqb, eqb-true}
use Rattle.std.specs.Option.{SomeIff, unwrap_or}
use mathlib.Core.Bool.{xor}
use native.Mathlib.Nat.{mod-zero, mod-le, mod_self}
use lib.Pow.{ones_lt}
use lib.Signed.{quot_z, rem_z, non_neg}
use borrow.Author.Tests.{eqb-false, not-true, not-false}
use Rattle.words.specs.Word.{signed, word}
use Rattle.words.specs.Integer.{quotient, remainder}
use Rattle.words.proofs.Signed.{negative, not_negative}
use Rattle.words.proofs.Residues.{word_lt, word_neg}

-- n or -n
abbrev pub signed_by : Bool → ℕ → ℤ
signed_by below n = cond below (neg_ℤ (pos n)) (pos n)

pub quot_signs : (n d : ℤ) → quot_z n d ≡ signed_by (xor (not (non_neg n)) (not (non_neg d))) (nat_abs n / nat_abs d)
unfolding xor
quot_signs (pos n) (pos d) = refl
quot_signs (pos n) (negsuc d) = refl
quot_signs (negsuc n) (pos d) = refl
quot_signs (negsuc n) (negsuc d) = refl

pub rem_sign : (n d : ℤ) → rem_z n d ≡ signed_by (not (non_neg n)) (nat_abs n % nat_abs d)
rem_sign (pos n) d = refl
rem_sign (negsuc n) d = refl

-- ---- the magnitude of k bits read as signed

magnitude_negative : (k x : ℕ) → x < 2 ^ k → not (non_neg (signed k x)) ≡ true → 2 ^ k - 1 - x + 1 ≡ nat_abs (signed k x)
magnitude_negative k x h e = rw (negative k x e).0 (omega arith)

magnitude_positive : (k x : ℕ) → not (non_neg (signed k x)) ≡ false → x ≡ nat_abs (signed k x)
magnitude_positive k x e = rw (not_negative k x e) refl

-- the magnitude is the number itself, or its opposite's bits
pub magnitude_word : (k x : ℕ) (p : Bool) → x < 2 ^ k → p ≡ not (non_neg (signed k x)) → word k (signed_by p x) ≡ nat_abs (signed k x)
magnitude_word k x true h e =
    let n = negative k x (sym e) in
    let l : 0 < x = lt_of_lt_of_le (pow_pos (k - 1)) n.1 in
    let m = magnitude_negative k x h (sym e) in
    word_neg k x (nat_abs (signed k x)) (omega arith) (ap (λ (r : ℕ). r % 2 ^ k) (omega arith) ∙ mod_self (2 ^ k))
magnitude_word k x false h e = mod-eq_of_lt h ∙ magnitude_positive k x (sym e)

-- only 0 has the magnitude 0
pub magnitude_zero : (k x : ℕ) {m : ℕ} → x < 2 ^ k → m ≡ nat_abs (signed k x) → m ≡ 0 → x ≡ 0
magnitude_zero k x {m} h d e = go (not (non_neg (signed k x))) refl
  where
    go : (b : Bool) → not (non_neg (signed k x)) ≡ b → x ≡ 0
    go true f = absurd (lt_irrefl 0 (omega (arith, magnitude_negative k x h f)))
    go false f = magnitude_positive k x f ∙ sym d ∙ e

pub magnitude_lt : (k x : ℕ) {m : ℕ} → x < 2 ^ k → m ≡ nat_abs (signed k x) → m < 2 ^ k
magnitude_lt k x {m} h d = go (not (non_neg (signed k x))) refl
  where
    go : (b : Bool) → not (non_neg (signed k x)) ≡ b → m < 2 ^ k
    go true f = omega (arith, magnitude_negative k x h f, (negative k x f).1, pow_pos (k - 1))
    go false f = omega (arith, magnitude_positive k x f)

-- ---- the bits of a magnitude with a sign

-- a sign and something to apply it to
pub to_negate : (below : Bool) (m : ℕ) → (below && not (eqb m 0)) ≡ true → (below ≡ true) × (0 < m)
to_negate true m e = (refl, omega (arith, eqb-false m 0 (not-true (eqb m 0) e)))
to_negate false m e = absurd (true≢false (sym e))

-- `top - m + 1`
pub sign_applied : (k m top : ℕ) (below : Bool) → m < 2 ^ k → top ≡ 2 ^ k - 1 → (below && not (eqb m 0)) ≡ true
    → top - m + 1 ≡ word k (signed_by below m)
sign_applied k m top below l e b =
    let h = (to_negate below m b).1 in
    rw (to_negate below m b).0 (sym (word_neg k m (top - m + 1) (omega arith) (ap (λ (n : ℕ). n % 2 ^ k) (omega arith) ∙ mod_self (2 ^ k))))

pub sign_absent : (k m : ℕ) (below : Bool) → m < 2 ^ k → (below && not (eqb m 0)) ≡ false → m ≡ word k (signed_by below m)
sign_absent k m true l e = let z = eqb-true m 0 (not-false (eqb m 0) e) in rw z (sym (mod-eq_of_lt (omega arith)))
sign_absent k m false l e = sym (mod-eq_of_lt l)

-- ---- quotients

pub quotient_by_zero : (w : ℕ) (n d : ℤ) → nat_abs d ≡ 0 → quotient w n d ≡ 2 ^ w - 1
unfolding quotient
quotient_by_zero w n d e = rw (eq-eqb (nat_abs d) 0 e) refl

quotient_word : (w : ℕ) (n d : ℤ) → (nat_abs d ≡ 0 → ⊥) → quotient w n d ≡ word w (quot_z n d)
unfolding quotient
quotient_word w n d e = rw (ne_eqb (nat_abs d) 0 e) refl

pub quotient_lt : (w : ℕ) (n d : ℤ) → quotient w n d < 2 ^ w
unfolding quotient
quotient_lt w n d = go (eqb (nat_abs d) 0) refl
  where
    go : (b : Bool) → eqb (nat_abs d) 0 ≡ b → quotient w n d < 2 ^ w
    go true e = rw e (ones_lt w)
    go false e = rw e (word_lt w (quot_z n d))

pub quotient_unsigned : (w a b : ℕ) → a < 2 ^ w → (b ≡ 0 → ⊥) → quotient w (pos a) (pos b) ≡ a / b
quotient_unsigned w a b h e = quotient_word w (pos a) (pos b) e ∙ mod-eq_of_lt (lt_of_le_of_lt (div-le_self a b) h)

-- the checked quotient, and all ones where there is none
pub quotient_checked : (w a b : ℕ) {t : ℕ} (q : Option ℕ) → a < 2 ^ w → SomeIff q (0 < b) (a / b) → t ≡ 2 ^ w - 1 → unwrap_or q t ≡ quotient w (pos a) (pos b)
quotient_checked w a zero None h s e = e ∙ sym (quotient_by_zero w (pos a) (pos 0) refl)
quotient_checked w a (suc b) None h s e = absurd (s (omega arith))
quotient_checked w a b (Some x) h s e = s.1 ∙ sym (quotient_unsigned w a b h (λ z. omega (arith, s.0, z)))

-- ---- remainders

pub rem_zero : (n d : ℤ) → nat_abs d ≡ 0 → n ≡ rem_z n d
rem_zero (pos n) d e = ap pos (sym (ap (λ (m : ℕ). n % m) e ∙ mod-zero n))
rem_zero (negsuc n) d e = ap (λ (m : ℕ). neg_ℤ (pos m)) (sym (ap (λ (m : ℕ). suc n % m) e ∙ mod-zero (suc n)))

-- by zero too
pub remainder_word : (w : ℕ) (n d : ℤ) → remainder w n d ≡ word w (rem_z n d)
unfolding remainder
remainder_word w n d = go (eqb (nat_abs d) 0) refl
  where
    go : (b : Bool) → eqb (nat_abs d) 0 ≡ b → remainder w n d ≡ word w (rem_z n d)
    go true e = rw e (ap (word w) (rem_zero n d (eqb-true (nat_abs d) 0 e)))
    go false e = rw e refl

pub remainder_lt : (w : ℕ) (n d : ℤ) → remainder w n d < 2 ^ w
remainder_lt w n d = rw (remainder_word w n d) (word_lt w (rem_z n d))

pub remainder_unsigned : (w a b : ℕ) → a < 2 ^ w → remainder w (pos a) (pos b) ≡ a % b
remainder_unsigned w a b h = remainder_word w (pos a) (pos b) ∙ mod-eq_of_lt (lt_of_le_of_lt (mod-le a b) h)

-- the checked remainder, and the dividend where there is none
pub remainder_checked : (w a b : ℕ) (q : Option ℕ) → a < 2 ^ w → SomeIff q (0 < b) (a % b) → unwrap_or q a ≡ remainder w (pos a) (pos b)
remainder_checked w a zero None h s = sym (remainder_unsigned w a 0 h ∙ mod-zero a)
remainder_checked w a (suc b) None h s = absurd (s (omega arith))
remainder_checked w a b (Some x) h s = s.1 ∙ sym (remainder_unsigned w a b h)

-- ---- signed operands: their magnitudes m and n, and whether they are negative, p and q

signed_zero : (w : ℕ) → nat_abs (signed w 0) ≡ 0
signed_zero w = rw (lt-ltb 0 (2 ^ (w - 1)) (pow_pos (w - 1))) refl

pub signed_by_zero : (w a b : ℕ) → b ≡ 0 → quotient w (signed w a) (signed w b) ≡ 2 ^ w - 1
signed_by_zero w a b e = quotient_by_zero w (signed w a) (signed w b) (ap (λ (n : ℕ). nat_abs (signed w n)) e ∙ signed_zero w)

pub signed_quotient : (w a b : ℕ) {m n : ℕ} {p q : Bool} → m ≡ nat_abs (signed w a) → n ≡ nat_abs (signed w b) → p ≡ not (non_neg (signed w a))
    → q ≡ not (non_neg (signed w b)) → b < 2 ^ w → (b ≡ 0 → ⊥) → word w (signed_by (xor p q) (m / n)) ≡ quotient w (signed w a) (signed w b)
signed_quotient w a b em en ep eq h z =
    rw (em, en, ep, eq) (ap (word w) (sym (quot_signs (signed w a) (signed w b))) ∙ sym (quotient_word w (signed w a) (signed w b) (λ e. z (magnitude_zero w b h refl e))))

pub signed_remainder : (w a b : ℕ) {m n : ℕ} {p : Bool} → m ≡ nat_abs (signed w a) → n ≡ nat_abs (signed w b) → p ≡ not (non_neg (signed w a))
    → word w (signed_by p (m % n)) ≡ remainder w (signed w a) (signed w b)
signed_remainder w a b em en ep =
    rw (em, en, ep) (ap (word w) (sym (rem_sign (signed w a) (signed w b))) ∙ sym (remainder_word w (signed w a) (signed w b)))
