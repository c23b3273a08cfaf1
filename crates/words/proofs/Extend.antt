-- Sign extension: what it is on each half, that it keeps the low bits, and the code's way to it.
-- Assumes nothing.
use Rattle.std.proofs.Common.{◌≡◌, ℕ, suc, ◌+◌, ◌-◌, ◌*◌, ◌%◌, ◌^◌, ◌<◌, ◌≤◌, Bool, true, false, ltb, sym, refl, ap, ◌∙◌, ap₂, lt_of_lt_of_le, le_of_lt, mod-eq_of_lt, one-mul, sub-add_cancel, div-one, arith, pow_pos, pow_mono, pow-add, ltb-false, ltb-true, le-ltb, lt-ltb, eq-eqb, eqb-true}
use native.Mathlib.Nat.{add-mul-mod_self_right}
use lib.Pow.{pow-lt, high_ones}
use lib.Bits.{bit_xor, xor_comm, xor_shifted, xor_block, xor_zero_r}
use Rattle.std.proofs.lemmas.Nat.{one_shl}
use Rattle.words.specs.Word.{field, sext, fits_signed}

-- k bits are two halves
pub halves : (k : ℕ) → 0 < k → 2 ^ k ≡ 2 ^ (k - 1) + 2 ^ (k - 1)
halves k h =
    let e : k - 1 + 1 ≡ k = omega arith in
    ap (λ (n : ℕ). 2 ^ n) (sym e) ∙ pow-add 2 (k - 1) 1 ∙ omega arith

-- a number below the sign bit is itself
pub sext_low_half : (k x : ℕ) → x < 2 ^ (k - 1) → x < 2 ^ 64 → sext k x ≡ x
unfolding sext
sext_low_half k x h l = rw (lt-ltb x (2 ^ (k - 1)) h) (mod-eq_of_lt l)

-- one with the sign bit gets all the bits above it
pub sext_high_half : (k x : ℕ) → k ≤ 64 → 2 ^ (k - 1) ≤ x → x < 2 ^ k → sext k x ≡ x + (2 ^ 64 - 2 ^ k)
unfolding sext
sext_high_half k x h l u =
    let p : 2 ^ k ≤ 2 ^ 64 = pow_mono h in
    let q : 2 ^ k - suc x < 2 ^ 64 = omega arith in
    rw (le-ltb x (2 ^ (k - 1)) l) (rw (mod-eq_of_lt q) (omega arith))

-- the low bits of what is extended are the number
pub sext_field : (k x : ℕ) → k ≤ 64 → x < 2 ^ k → field (sext k x) 0 k ≡ x
sext_field k x h l = go (ltb x (2 ^ (k - 1))) refl
  where
    go : (b : Bool) → ltb x (2 ^ (k - 1)) ≡ b → field (sext k x) 0 k ≡ x
    go true t = rw (sext_low_half k x (ltb-true _ _ t) (lt_of_lt_of_le l (pow_mono h)), div-one) (mod-eq_of_lt l)
    go false t =
        let e : 2 ^ 64 - 2 ^ k ≡ (2 ^ (64 - k) - 1) * 2 ^ k =
        ap (λ (n : ℕ). 2 ^ n - 2 ^ k) (sym (sub-add_cancel h)) ∙ high_ones (64 - k) k in
        rw (sext_high_half k x h (ltb-false _ _ t) l, e, div-one, add-mul-mod_self_right) (mod-eq_of_lt l)

-- what is extended can be expressed
pub sext_fits : (k x : ℕ) → k ≤ 64 → x < 2 ^ k → fits_signed k (sext k x) ≡ true
sext_fits k x h l = eq-eqb _ _ (ap (sext k) (sext_field k x h l))

-- what can be expressed is the extension of its low bits
pub fits_sext : (k x : ℕ) {n : ℕ} → n ≡ field x 0 k → fits_signed k x ≡ true → sext k n ≡ x
fits_sext k x e h = ap (sext k) e ∙ eqb-true _ x h

-- a number below the sign bit of k bits can be expressed by them
pub low_fits : (k x : ℕ) → k ≤ 64 → x < 2 ^ (k - 1) → fits_signed k x ≡ true
low_fits k x h l =
    let p : 2 ^ (k - 1) ≤ 2 ^ k = pow_mono (omega arith) in
    let u : x < 2 ^ k = lt_of_lt_of_le l p in
    let e : field x 0 k ≡ x = rw div-one (mod-eq_of_lt u) in
    eq-eqb _ _ (ap (sext k) e ∙ sext_low_half k x l (lt_of_lt_of_le u (pow_mono h)))

-- what k bits can express, more bits can
pub sext_wider : (k n x : ℕ) → 0 < k → k ≤ n → n ≤ 64 → x < 2 ^ k → fits_signed n (sext k x) ≡ true
sext_wider k n x p l u b = go (ltb x (2 ^ (k - 1))) refl
  where
    go : (t : Bool) → ltb x (2 ^ (k - 1)) ≡ t → fits_signed n (sext k x) ≡ true
    go true t =
        let s = ltb-true x (2 ^ (k - 1)) t in
        let c : 2 ^ (k - 1) ≤ 2 ^ (n - 1) = pow_mono (omega arith) in
        let d : k ≤ 64 = omega arith in
        rw (sext_low_half k x s (lt_of_lt_of_le b (pow_mono d))) (low_fits n x u (lt_of_lt_of_le s c))
    go false t =
        let s = ltb-false x (2 ^ (k - 1)) t in
        let c : 2 ^ (k - 1) ≤ 2 ^ (n - 1) = pow_mono (omega arith) in
        let d : 2 ^ k ≤ 2 ^ n = pow_mono l in
        let f : 2 ^ n ≤ 2 ^ 64 = pow_mono u in
        let v = halves k p in
        let w : 2 ^ n ≡ 2 ^ (n - 1) + 2 ^ (n - 1) = halves n (omega arith) in
        let z : x + (2 ^ n - 2 ^ k) < 2 ^ n = omega arith in
        let e : sext k x ≡ sext n (x + (2 ^ n - 2 ^ k)) =
        sext_high_half k x (omega arith) s b ∙ sym (sext_high_half n (x + (2 ^ n - 2 ^ k)) u (omega arith) z ∙ omega arith) in
        rw e (sext_fits n (x + (2 ^ n - 2 ^ k)) u z)

-- flipping bit j of a number below 2^j sets it
pub xor_clear : (j x : ℕ) → x < 2 ^ j → bit_xor x (2 ^ j) ≡ 2 ^ j + x
xor_clear j x l =
    xor_comm x (2 ^ j) ∙ ap (λ (n : ℕ). bit_xor n x) (sym (one-mul (2 ^ j))) ∙ xor_shifted 1 j x l ∙ ap (λ (n : ℕ). n + x) (one-mul (2 ^ j))

-- flipping the highest bit of one that has it clears it
pub xor_set : (j x : ℕ) → 2 ^ j ≤ x → x < 2 ^ j + 2 ^ j → bit_xor x (2 ^ j) ≡ x - 2 ^ j
xor_set j x l u =
    let y : x - 2 ^ j < 2 ^ j = omega arith in
    let a : x ≡ 1 * 2 ^ j + (x - 2 ^ j) = omega arith in
    let b : 2 ^ j ≡ 1 * 2 ^ j + 0 = omega arith in
    let q : bit_xor x (2 ^ j) ≡ 0 * 2 ^ j + (x - 2 ^ j) =
    ap₂ bit_xor a b ∙ xor_block j 1 1 (x - 2 ^ j) 0 y (pow_pos j) ∙ ap (λ (n : ℕ). 0 * 2 ^ j + n) (xor_zero_r (x - 2 ^ j)) in
    omega arith

-- `(x ^ sign) - sign` of k bits, wrapping
pub flip_law : (k x : ℕ) → 0 < k → k < 64 → x < 2 ^ k
    → (bit_xor x (1 * 2 ^ (k - 1) % 2 ^ 64) + (2 ^ 64 - 1 * 2 ^ (k - 1) % 2 ^ 64)) % 2 ^ 64 ≡ sext k x
flip_law k x h u l = rw (one_shl (k - 1) 64 (omega arith)) (go (ltb x (2 ^ (k - 1))) refl (omega arith))
  where
    go : (b : Bool) → ltb x (2 ^ (k - 1)) ≡ b → k - 1 < 63 → (bit_xor x (2 ^ (k - 1)) + (2 ^ 64 - 2 ^ (k - 1))) % 2 ^ 64 ≡ sext k x
    go true t j =
        let s = ltb-true x (2 ^ (k - 1)) t in
        let p : 2 ^ (k - 1) < 2 ^ 63 = pow-lt j in
        let q = xor_clear (k - 1) x s in
        let d : (bit_xor x (2 ^ (k - 1)) + (2 ^ 64 - 2 ^ (k - 1))) % 2 ^ 64 ≡ x = omega arith in
        d ∙ sym (sext_low_half k x s (lt_of_lt_of_le l (pow_mono (le_of_lt u))))
    go false t j =
        let s = ltb-false x (2 ^ (k - 1)) t in
        let w = halves k h in
        let p : 2 ^ (k - 1) < 2 ^ 63 = pow-lt j in
        let q = xor_set (k - 1) x s (omega arith) in
        let d : (bit_xor x (2 ^ (k - 1)) + (2 ^ 64 - 2 ^ (k - 1))) % 2 ^ 64 ≡ x + (2 ^ 64 - 2 ^ k) = omega arith in
        d ∙ sym (sext_high_half k x (le_of_lt u) s l)
