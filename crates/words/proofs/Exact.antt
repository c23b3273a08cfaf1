-- What the definitions of specs/Integer come to, over the width: a product's halves are the whole product, and the cases of
-- division that document 02 names.
-- Assumes nothing.
use Rattle.std.proofs.Common.{◌≡◌, ℕ, zero, suc, ◌+◌, ◌-◌, ◌*◌, ◌%◌, ◌^◌, ◌<◌, ◌≤◌, Bool, true, false, ltb, ℤ, pos, negsuc, ◌*ℤ◌, neg_ℤ, nat_abs, sym, refl, ap, ◌∙◌, le_refl, lt_of_le_of_lt, le_of_lt, mul-le-mul_right, mod-eq_of_lt, div-one, arith, pow_pos, pow-add, ltb-false, ltb-true, le-ltb, lt-ltb}
use native.Mathlib.Nat.{mod-one, mul-lt-mul_of_pos_left}
use lib.Pow.{recompose}
use lib.Signed.{mag}
use Rattle.words.specs.Word.{signed, word}
use Rattle.words.specs.Integer.{low_half, high_half, quotient, remainder}
use Rattle.words.proofs.Extend.{halves}
use Rattle.words.proofs.Residues.{word_lt}
use Rattle.words.proofs.Products.{product_lt}
use Rattle.words.proofs.Quotients.{quotient_by_zero, remainder_word, rem_zero}

-- ---- products

-- the two halves side by side are the product's bits
side_by_side : (w : ℕ) (z : ℤ) → high_half w z * 2 ^ w + low_half w z ≡ word (w + w) z
unfolding high_half low_half
side_by_side w z = rw div-one (recompose w w (word_lt (w + w) z))

-- bits that can hold a number stand for it
signed_word : (k : ℕ) (z : ℤ) → 0 < k → mag z < 2 ^ (k - 1) → signed k (word k z) ≡ z
signed_word k (pos n) h l =
    let e : n % 2 ^ k ≡ n = mod-eq_of_lt (omega (arith, halves k h)) in
    rw (e, lt-ltb n (2 ^ (k - 1)) l) refl
signed_word k (negsuc n) h l =
    let e : n % 2 ^ k ≡ n = mod-eq_of_lt (omega (arith, halves k h)) in
    let p : 2 ^ (k - 1) ≤ 2 ^ k - suc n = omega (arith, halves k h) in
    rw (e, le-ltb (2 ^ k - suc n) (2 ^ (k - 1)) p) (ap negsuc (omega (arith, halves k h)))

mag_le : (n : ℕ) → mag (neg_ℤ (pos n)) ≤ n
mag_le zero = omega arith
mag_le (suc n) = omega arith

mag_product : (y z : ℤ) → mag (y *ℤ z) ≤ nat_abs y * nat_abs z
mag_product (pos a) (pos b) = omega arith
mag_product (pos a) (negsuc b) = mag_le (a * suc b)
mag_product (negsuc a) (pos b) = mag_le (suc a * b)
mag_product (negsuc a) (negsuc b) = omega arith

whole_product : (w : ℕ) (y z : ℤ) → 0 < w → nat_abs y ≤ 2 ^ (w - 1) → nat_abs z < 2 ^ w
    → signed (w + w) (high_half w (y *ℤ z) * 2 ^ w + low_half w (y *ℤ z)) ≡ y *ℤ z
whole_product w y z h l k =
    let e : w - 1 + w ≡ w + w - 1 = omega arith in
    let p : nat_abs y * nat_abs z < 2 ^ (w + w - 1) =
    rw (← e, pow-add 2 (w - 1) w) (lt_of_le_of_lt (mul-le-mul_right (nat_abs z) l) (mul-lt-mul_of_pos_left k (pow_pos (w - 1)))) in
    ap (signed (w + w)) (side_by_side w (y *ℤ z)) ∙ signed_word (w + w) (y *ℤ z) (omega arith) (lt_of_le_of_lt (mag_product y z) p)

-- what a signed operand can be
signed_bound : (w a : ℕ) → 0 < w → a < 2 ^ w → nat_abs (signed w a) ≤ 2 ^ (w - 1)
signed_bound w a h l = go (ltb a (2 ^ (w - 1))) refl
  where
    go : (b : Bool) → ltb a (2 ^ (w - 1)) ≡ b → nat_abs (signed w a) ≤ 2 ^ (w - 1)
    go true e = rw e (le_of_lt (ltb-true a (2 ^ (w - 1)) e))
    go false e = rw e (omega (arith, ltb-false a (2 ^ (w - 1)) e, halves w h))

-- "The high half of a product is exact for signed, unsigned and mixed operands": above the low half it stands for the very
-- product
pub whole_signed : (w a b : ℕ) → 0 < w → a < 2 ^ w → b < 2 ^ w
    → let z = signed w a *ℤ signed w b in signed (w + w) (high_half w z * 2 ^ w + low_half w z) ≡ z
whole_signed w a b h l k =
    let m : 2 ^ (w - 1) < 2 ^ w = omega (arith, halves w h, pow_pos (w - 1)) in
    whole_product w (signed w a) (signed w b) h (signed_bound w a h l) (lt_of_le_of_lt (signed_bound w b h k) m)

pub whole_mixed : (w a b : ℕ) → 0 < w → a < 2 ^ w → b < 2 ^ w
    → let z = signed w a *ℤ pos b in signed (w + w) (high_half w z * 2 ^ w + low_half w z) ≡ z
whole_mixed w a b h l k = whole_product w (signed w a) (pos b) h (signed_bound w a h l) k

pub whole_unsigned : (w a b : ℕ) → a < 2 ^ w → b < 2 ^ w
    → let z = pos a *ℤ pos b in pos (high_half w z * 2 ^ w + low_half w z) ≡ z
whole_unsigned w a b h l = ap pos (side_by_side w (pos a *ℤ pos b) ∙ mod-eq_of_lt (product_lt w a b h l))

-- ---- division

-- "Division by zero gives all ones as quotient and the dividend as remainder."
pub by_zero : (w a : ℕ) (n d : ℤ) → word w n ≡ a → nat_abs d ≡ 0 → (quotient w n d ≡ 2 ^ w - 1) × (remainder w n d ≡ a)
by_zero w a n d e z = (quotient_by_zero w n d z, remainder_word w n d ∙ ap (word w) (sym (rem_zero n d z)) ∙ e)

-- "The most negative number divided by -1 gives itself, with remainder 0."
pub overflow : (w : ℕ) → 0 < w
    → (quotient w (signed w (2 ^ (w - 1))) (signed w (2 ^ w - 1)) ≡ 2 ^ (w - 1)) × (remainder w (signed w (2 ^ (w - 1))) (signed w (2 ^ w - 1)) ≡ 0)
unfolding quotient remainder
overflow w h =
    let p : suc (2 ^ w - suc (2 ^ (w - 1))) ≡ 2 ^ (w - 1) = omega (arith, halves w h, pow_pos (w - 1)) in
    let q : 2 ^ w - suc (2 ^ w - 1) ≡ 0 = omega (arith, pow_pos w) in
    let l : 2 ^ (w - 1) ≤ 2 ^ w - 1 = omega (arith, halves w h, pow_pos (w - 1)) in
    let m : 2 ^ (w - 1) < 2 ^ w = omega (arith, halves w h, pow_pos (w - 1)) in
    rw (le-ltb (2 ^ (w - 1)) (2 ^ (w - 1)) (le_refl (2 ^ (w - 1))), le-ltb (2 ^ w - 1) (2 ^ (w - 1)) l, q, p, div-one, mod-one) (mod-eq_of_lt m, mod-eq_of_lt (pow_pos w))
