-- Products: their halves over the width, a way to them by halves of 32 bits, and the signed ones from the unsigned.
-- Assumes nothing.
use Rattle.std.proofs.Common.{◌≡◌, ℕ, suc, ◌+◌, ◌-◌, ◌*◌, ◌/◌, ◌%◌, ◌^◌, ◌<◌, ◌≤◌, Bool, true, false, cond, ltb, ℤ, pos, negsuc, ◌*ℤ◌, sym, refl, ap, ◌∙◌, ap₂, lt_of_lt_of_le, lt_of_le_of_lt, le_of_lt, add_assoc, mod-lt, mod-eq_of_lt, mul_assoc, suc-mul, add-mul, mul-le-mul, mul-le-mul_left, mul-lt-mul_of_pos_right, mul-add, mul_right_comm, div-one, arith, pow_pos, pow_mono, pow-add, w64, Fits}
use native.Mathlib.Nat.{mul-mul-mul_comm, mod-mod, add-mul-div_right, add-mul-mod_self_left, mod-add-mod, add-mod-mod}
use lib.Signed.{non_neg}
use lib.Pow.{field, shr_mod, high_ones, suc_ones}
use Rattle.words.specs.Word.{signed, word}
use Rattle.words.specs.Integer.{low_half, high_half}
use Rattle.words.proofs.Residues.{word_lt, word_narrow, word_mul, word_signed}

-- ---- the low half

low_word : (w : ℕ) (z : ℤ) → low_half w z ≡ word w z
unfolding low_half
low_word w z = rw div-one (word_narrow w w z)

-- whichever way the operands are read: y and z are any numbers that have the operands' bits
pub low_product : (w : ℕ) (y z : ℤ) → low_half w (y *ℤ z) ≡ word w y * word w z % 2 ^ w
low_product w y z = low_word w (y *ℤ z) ∙ word_mul w y z

pub low_signed : (w a b : ℕ) → a < 2 ^ w → b < 2 ^ w → low_half w (signed w a *ℤ signed w b) ≡ a * b % 2 ^ w
low_signed w a b h l =
    low_product w (signed w a) (signed w b) ∙ ap₂ (λ (m n : ℕ). m * n % 2 ^ w) (word_signed w a h) (word_signed w b l)

-- ---- the products of halves

cross_terms : (p q r s h : ℕ) → (p * h + q) * (r * h + s) ≡ p * r * (h * h) + (p * s * h + q * r * h) + q * s
cross_terms p q r s h =
    let e : (p * h + q) * (r * h + s) ≡ p * r * (h * h) + p * s * h + (q * r * h + q * s) =
    add-mul (p * h) q (r * h + s) ∙ ap₂ (λ (m n : ℕ). m + n) (mul-add (p * h) (r * h) s ∙ ap₂ (λ (m n : ℕ). m + n) (mul-mul-mul_comm p h r h) (mul_right_comm p h s)) (mul-add q (r * h) s ∙ ap (λ (m : ℕ). m + q * s) (sym (mul_assoc q r h))) in
    omega arith

-- a product is exactly what the four products of the operands' halves make
pub exact : (a b : ℕ)
    → a * b ≡ a / 2 ^ 32 * (b / 2 ^ 32) * 2 ^ 64 + (a / 2 ^ 32 * (b % 2 ^ 32) * 2 ^ 32 + a % 2 ^ 32 * (b / 2 ^ 32) * 2 ^ 32) + a % 2 ^ 32 * (b % 2 ^ 32)
exact a b =
    let p : a ≡ a / 2 ^ 32 * 2 ^ 32 + a % 2 ^ 32 = omega arith in
    let q : b ≡ b / 2 ^ 32 * 2 ^ 32 + b % 2 ^ 32 = omega arith in
    ap₂ (λ (m n : ℕ). m * n) p q ∙ cross_terms (a / 2 ^ 32) (a % 2 ^ 32) (b / 2 ^ 32) (b % 2 ^ 32) (2 ^ 32)

-- a product of two halves leaves room for two halves more
pub half_product : (m n : ℕ) → m < 2 ^ 32 → n < 2 ^ 32 → m * n ≤ 0xfffffffe00000001
half_product m n h l =
    let p : m ≤ 0xffffffff = omega arith in
    let q : n ≤ 0xffffffff = omega arith in
    mul-le-mul p q

pub half_products : {a b : ℕ} → Fits w64 a → Fits w64 b
    → (a % 2 ^ 32 * (b % 2 ^ 32) ≤ 0xfffffffe00000001) × (a / 2 ^ 32 * (b % 2 ^ 32) ≤ 0xfffffffe00000001)
    × (a % 2 ^ 32 * (b / 2 ^ 32) ≤ 0xfffffffe00000001) × (a / 2 ^ 32 * (b / 2 ^ 32) ≤ 0xfffffffe00000001)
half_products {a} {b} h l =
    let p : a % 2 ^ 32 < 2 ^ 32 = omega arith in
    let q : a / 2 ^ 32 < 2 ^ 32 = omega arith in
    let r : b % 2 ^ 32 < 2 ^ 32 = omega arith in
    let s : b / 2 ^ 32 < 2 ^ 32 = omega arith in
    (half_product _ _ p r, half_product _ _ q r, half_product _ _ p s, half_product _ _ q s)

-- ---- the high half

high_lt : (w : ℕ) (z : ℤ) → high_half w z < 2 ^ w
unfolding high_half
high_lt w z = mod-lt _ (pow_pos w)

high_field : (w x : ℕ) → x % 2 ^ (w + w) / 2 ^ w % 2 ^ w ≡ x / 2 ^ w % 2 ^ w
high_field w x = ap (λ (n : ℕ). n % 2 ^ w) (field x w w) ∙ mod-mod (x / 2 ^ w) (2 ^ w)

high_product : (w : ℕ) (y z : ℤ) {x : ℕ} → word (w + w) y * word (w + w) z ≡ x → high_half w (y *ℤ z) ≡ x / 2 ^ w % 2 ^ w
unfolding high_half
high_product w y z e =
    ap (λ (n : ℕ). n / 2 ^ w % 2 ^ w) (word_mul (w + w) y z) ∙ high_field w _ ∙ ap (λ (n : ℕ). n / 2 ^ w % 2 ^ w) e

pub product_lt : (w a b : ℕ) → a < 2 ^ w → b < 2 ^ w → a * b < 2 ^ (w + w)
product_lt w a b h l = rw (pow-add 2 w w) (lt_of_le_of_lt (mul-le-mul_left a (le_of_lt l)) (mul-lt-mul_of_pos_right h (pow_pos w)))

-- of two unsigned numbers
pub high_unsigned : (w a b : ℕ) → a < 2 ^ w → b < 2 ^ w → high_half w (pos a *ℤ pos b) ≡ a * b / 2 ^ w
unfolding high_half
high_unsigned w a b h l = high_field w (a * b) ∙ shr_mod w w (product_lt w a b h l)

-- a number with the sign bit set, in twice its bits
word_negative : (w a : ℕ) → a < 2 ^ w → word (w + w) (negsuc (2 ^ w - suc a)) ≡ a + (2 ^ w - 1) * 2 ^ w
word_negative w a l =
    let p : 2 ^ w ≤ 2 ^ (w + w) = pow_mono (omega arith) in
    let q : 2 ^ w - suc a < 2 ^ (w + w) = omega arith in
    rw (mod-eq_of_lt q) (omega (arith, high_ones w w))

high_negative : (w a : ℕ) (z : ℤ) → a < 2 ^ w → (high_half w (negsuc (2 ^ w - suc a) *ℤ z) + word w z) % 2 ^ w ≡ high_half w (pos a *ℤ z)
high_negative w a z l =
    let m = 2 ^ w in
    let y = word (w + w) z in
    let q = a * y / m in
    let p : a < 2 ^ (w + w) = lt_of_lt_of_le l (pow_mono (omega arith)) in
    let s : word (w + w) (negsuc (m - suc a)) * y ≡ a * y + (m - 1) * y * m =
    ap (λ (n : ℕ). n * y) (word_negative w a l) ∙ add-mul a ((m - 1) * m) y ∙ ap (λ (n : ℕ). a * y + n) (mul_right_comm (m - 1) m y) in
    let t : high_half w (negsuc (m - suc a) *ℤ z) ≡ (q + (m - 1) * y) % m =
    high_product w (negsuc (m - suc a)) z s ∙ ap (λ (n : ℕ). n % m) (add-mul-div_right (a * y) ((m - 1) * y) (pow_pos w)) in
    let u : high_half w (pos a *ℤ z) ≡ q % m = high_product w (pos a) z (ap (λ (n : ℕ). n * y) (mod-eq_of_lt p)) in
    let v : q + (m - 1) * y + y ≡ q + m * y =
    add_assoc q ((m - 1) * y) y ∙ ap (λ (n : ℕ). q + n) (sym (suc-mul (m - 1) y) ∙ ap (λ (n : ℕ). n * y) (suc_ones w)) in
    rw (t, u, ← word_narrow w w z)
    (mod-add-mod (q + (m - 1) * y) m (y % m) ∙ add-mod-mod (q + (m - 1) * y) y m ∙ ap (λ (n : ℕ). n % m) v ∙ add-mul-mod_self_left q m y)

-- What it changes to read a factor as signed: with the sign bit set, the high half is less by the other factor's bits.
pub high_signed : (w a : ℕ) (z : ℤ) → a < 2 ^ w
    → (high_half w (signed w a *ℤ z) + cond (non_neg (signed w a)) 0 (word w z)) % 2 ^ w ≡ high_half w (pos a *ℤ z)
high_signed w a z l = go (ltb a (2 ^ (w - 1))) refl
  where
    go : (b : Bool) → ltb a (2 ^ (w - 1)) ≡ b
        → (high_half w (signed w a *ℤ z) + cond (non_neg (signed w a)) 0 (word w z)) % 2 ^ w ≡ high_half w (pos a *ℤ z)
    go true e = rw e (ap (λ (n : ℕ). n % 2 ^ w) (omega arith) ∙ mod-eq_of_lt (high_lt w (pos a *ℤ z)))
    go false e = rw e (high_negative w a z l)

-- ---- a product by the products of halves

-- `ll + (hl + lh << 32)`, wrapping
pub low_halves : (a b c : ℕ) → c ≡ (a / 2 ^ 32 * (b % 2 ^ 32) + a % 2 ^ 32 * (b / 2 ^ 32)) % 2 ^ 64
    → (a % 2 ^ 32 * (b % 2 ^ 32) + c * 2 ^ 32 % 2 ^ 64) % 2 ^ 64 ≡ a * b % 2 ^ 64
low_halves a b c e = omega (arith, exact a b)

-- what the products of halves come to, with the carries of the lower ones
pub high_halves : (a b low middle cross : ℕ) → low ≡ a % 2 ^ 32 * (b % 2 ^ 32)
    → middle ≡ a / 2 ^ 32 * (b % 2 ^ 32) + low / 2 ^ 32
    → cross ≡ a % 2 ^ 32 * (b / 2 ^ 32) + middle % 2 ^ 32
    → a / 2 ^ 32 * (b / 2 ^ 32) + middle / 2 ^ 32 + cross / 2 ^ 32 ≡ a * b / 2 ^ 64
high_halves a b low middle cross e f g = omega (arith, exact a b)

-- ---- the code's way
difference : (r h s : ℕ) → r < 2 ^ 64 → h < 2 ^ 64 → (r + s) % 2 ^ 64 ≡ (h + s) % 2 ^ 64 → r ≡ h
difference r h s l k e = omega arith

cond_lt : (b : Bool) {x y n : ℕ} → x < n → y < n → cond b x y < n
cond_lt true p q = p
cond_lt false p q = q

-- the high half with a factor read as signed, by a wrapping difference from the one with it read as unsigned; y has z's bits
pub high_less : (a y h s : ℕ) (z : ℤ) → a < 2 ^ 64 → word 64 z ≡ y → s ≡ cond (non_neg (signed 64 a)) 0 y
    → h ≡ high_half 64 (pos a *ℤ z) → (h + (2 ^ 64 - s)) % 2 ^ 64 ≡ high_half 64 (signed 64 a *ℤ z)
high_less a y h s z l e f g =
    let k : s ≡ cond (non_neg (signed 64 a)) 0 (word 64 z) = f ∙ ap (cond (non_neg (signed 64 a)) 0) (sym e) in
    let m = cond_lt (non_neg (signed 64 a)) (pow_pos 64) (word_lt 64 z) in
    let b : h < 2 ^ 64 = rw g (high_lt 64 (pos a *ℤ z)) in
    let d : s < 2 ^ 64 = rw k m in
    let t : ((h + (2 ^ 64 - s)) % 2 ^ 64 + s) % 2 ^ 64 ≡ h = omega arith in
    difference _ _ s (omega arith) (high_lt 64 (signed 64 a *ℤ z))
    (t ∙ g ∙ sym (high_signed 64 a z l) ∙ ap (λ (n : ℕ). (high_half 64 (signed 64 a *ℤ z) + n) % 2 ^ 64) (sym k))
