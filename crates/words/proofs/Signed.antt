-- The order of signed numbers, the test for the sign of a number, and its shift to the right, by the code's way.
-- Assumes nothing.
use Rattle.std.proofs.Common.{◌≡◌, ℕ, suc, ◌+◌, ◌-◌, ◌/◌, ◌^◌, ◌<◌, ◌≤◌, Bool, true, false, not, ltb, pos, negsuc, sym, refl, ap, ◌∙◌, true≢false, lt_of_le_of_lt, mod-eq_of_lt, div-le_self, arith, pow_pos, ltb-false, ltb-true, le-ltb, lt-ltb}
use lib.Pow.{ones_split, high, ones_lt}
use lib.Bits.{bit_xor}
use lib.Signed.{lt_z, shr_z, non_neg}
use Rattle.words.specs.Word.{signed, word}
use Rattle.words.proofs.Extend.{xor_clear, xor_set, halves}

same_order : (m n p q : ℕ) → (m < n → p < q) → (n ≤ m → q ≤ p) → ltb m n ≡ ltb p q
same_order m n p q f g = go (ltb m n) refl
  where
    go : (b : Bool) → ltb m n ≡ b → ltb m n ≡ ltb p q
    go true e = e ∙ sym (lt-ltb p q (f (ltb-true m n e)))
    go false e = e ∙ sym (le-ltb p q (g (ltb-false m n e)))

-- `(a ^ 2^63) < (b ^ 2^63)`
pub flipped_order : (a b : ℕ) → a < 2 ^ 64 → b < 2 ^ 64 → ltb (bit_xor a (2 ^ 63)) (bit_xor b (2 ^ 63)) ≡ lt_z (signed 64 a) (signed 64 b)
flipped_order a b ha hb = go (ltb a (2 ^ 63)) (ltb b (2 ^ 63)) refl refl
  where
    go : (s t : Bool) → ltb a (2 ^ 63) ≡ s → ltb b (2 ^ 63) ≡ t → ltb (bit_xor a (2 ^ 63)) (bit_xor b (2 ^ 63)) ≡ lt_z (signed 64 a) (signed 64 b)
    go true true e d =
        let h = xor_clear 63 a (ltb-true a (2 ^ 63) e) in
        let l = xor_clear 63 b (ltb-true b (2 ^ 63) d) in
        rw (e, d, h, l) (same_order (2 ^ 63 + a) (2 ^ 63 + b) a b (λ t. omega arith) (λ t. omega arith))
    go true false e d =
        let p = ltb-true a (2 ^ 63) e in
        let q = ltb-false b (2 ^ 63) d in
        let h = xor_clear 63 a p in
        let l = xor_set 63 b q (omega arith) in
        rw (e, d, h, l) (le-ltb (2 ^ 63 + a) (b - 2 ^ 63) (omega arith))
    go false true e d =
        let p = ltb-false a (2 ^ 63) e in
        let q = ltb-true b (2 ^ 63) d in
        let h = xor_set 63 a p (omega arith) in
        let l = xor_clear 63 b q in
        rw (e, d, h, l) (lt-ltb (a - 2 ^ 63) (2 ^ 63 + b) (omega arith))
    go false false e d =
        let p = ltb-false a (2 ^ 63) e in
        let q = ltb-false b (2 ^ 63) d in
        let h = xor_set 63 a p (omega arith) in
        let l = xor_set 63 b q (omega arith) in
        rw (e, d, h, l) (same_order (a - 2 ^ 63) (b - 2 ^ 63) (2 ^ 64 - suc b) (2 ^ 64 - suc a) (λ t. omega arith) (λ t. omega arith))

-- `u64::MAX >> (64 - k)`
pub all_ones : (k : ℕ) → k ≤ 64 → 0xffffffffffffffff / 2 ^ (64 - k) ≡ 2 ^ k - 1
all_ones k h =
    let e : k + (64 - k) ≡ 64 = omega arith in
    ap (λ (n : ℕ). (2 ^ n - 1) / 2 ^ (64 - k)) (sym e) ∙ ap (λ (n : ℕ). n / 2 ^ (64 - k)) (ones_split k (64 - k)) ∙ high (2 ^ k - 1) (64 - k) (ones_lt (64 - k))

-- the test for the sign bit
pub sign_test : (k x : ℕ) → 0 < k → ltb ((2 ^ k - 1) / 2 ^ 1) x ≡ not (non_neg (signed k x))
sign_test k x h = go (ltb x (2 ^ (k - 1))) refl
  where
    go : (b : Bool) → ltb x (2 ^ (k - 1)) ≡ b → ltb ((2 ^ k - 1) / 2 ^ 1) x ≡ not (non_neg (signed k x))
    go true e = rw e (le-ltb _ x (omega (arith, ltb-true x (2 ^ (k - 1)) e, halves k h)))
    go false e = rw e (lt-ltb _ x (omega (arith, ltb-false x (2 ^ (k - 1)) e, halves k h, pow_pos (k - 1))))

-- what is read with the sign bit set, and with it clear
pub negative : (k x : ℕ) → not (non_neg (signed k x)) ≡ true → (signed k x ≡ negsuc (2 ^ k - suc x)) × (2 ^ (k - 1) ≤ x)
negative k x = go (ltb x (2 ^ (k - 1))) refl
  where
    go : (b : Bool) → ltb x (2 ^ (k - 1)) ≡ b → not (non_neg (signed k x)) ≡ true
        → (signed k x ≡ negsuc (2 ^ k - suc x)) × (2 ^ (k - 1) ≤ x)
    go true e f = absurd (true≢false (sym (rw e at f)))
    go false e f = (rw e refl, ltb-false x (2 ^ (k - 1)) e)

pub not_negative : (k x : ℕ) → not (non_neg (signed k x)) ≡ false → signed k x ≡ pos x
not_negative k x = go (ltb x (2 ^ (k - 1))) refl
  where
    go : (b : Bool) → ltb x (2 ^ (k - 1)) ≡ b → not (non_neg (signed k x)) ≡ false → signed k x ≡ pos x
    go true e f = rw e refl
    go false e f = absurd (true≢false (rw e at f))

-- a number without the sign bit is shifted as it is
pub shift_low : (k x n : ℕ) → x < 2 ^ k → signed k x ≡ pos x → x / 2 ^ n ≡ word k (shr_z (signed k x) (2 ^ n))
shift_low k x n l e = rw e (sym (mod-eq_of_lt (lt_of_le_of_lt (div-le_self x (2 ^ n)) l)))

-- of one with it the complement is
pub shift_high : (k x n top : ℕ) → top ≡ 2 ^ k - 1 → x < 2 ^ k → signed k x ≡ negsuc (2 ^ k - suc x)
    → top - (top - x) / 2 ^ n ≡ word k (shr_z (signed k x) (2 ^ n))
shift_high k x n top t l e =
    let c : top - x ≡ 2 ^ k - suc x = omega arith in
    let q = (2 ^ k - suc x) / 2 ^ n in
    let b : q ≤ 2 ^ k - suc x = div-le_self (2 ^ k - suc x) (2 ^ n) in
    let d : q < 2 ^ k = omega arith in
    rw (e, c) (rw (mod-eq_of_lt d) (omega arith))
