-- The bits of a whole number as its residue: they are kept by products, and fewer bits are a part of more.
-- Assumes nothing.
use Rattle.std.proofs.Common.{◌≡◌, ℕ, zero, suc, ◌+◌, ◌-◌, ◌*◌, ◌/◌, ◌%◌, ◌^◌, ◌<◌, Bool, true, false, ltb, ℤ, pos, negsuc, ◌*ℤ◌, neg_ℤ, sym, refl, ap, ◌∙◌, mod-lt, mod-eq_of_lt, mul_comm, add-mul, add_comm, mul-add, mul_right_comm, arith, pow_pos, pow-add}
use native.Mathlib.Nat.{mod-add-mod, add-mod-mod, mod-add-div', add-mul-mod_self_right, mul-mod_left, suc-mod}
use lib.Pow.{mod-mod-pow}
use Rattle.words.specs.Word.{signed, word}

mod_mul_left : (a b m : ℕ) → a % m * b % m ≡ a * b % m
mod_mul_left a b m =
    let e : a * b ≡ a % m * b + a / m * b * m =
    ap (λ (n : ℕ). n * b) (sym (mod-add-div' a m)) ∙ add-mul (a % m) (a / m * m) b ∙ ap (λ (n : ℕ). a % m * b + n) (mul_right_comm (a / m) m b) in
    sym (add-mul-mod_self_right (a % m * b) (a / m * b) m) ∙ ap (λ (n : ℕ). n % m) (sym e)

mod_mul_right : (a b m : ℕ) → a * (b % m) % m ≡ a * b % m
mod_mul_right a b m =
    ap (λ (n : ℕ). n % m) (mul_comm a (b % m)) ∙ mod_mul_left b a m ∙ ap (λ (n : ℕ). n % m) (mul_comm b a)

product_mod : (a b m : ℕ) → a % m * (b % m) % m ≡ a * b % m
product_mod a b m = mod_mul_left a (b % m) m ∙ mod_mul_right a b m

-- two numbers with the same opposite have the same residue
opposite : (x y t m : ℕ) → (x + t) % m ≡ 0 → (y + t) % m ≡ 0 → x % m ≡ y % m
opposite x y t m p q =
    let l : (x + (y + t)) % m ≡ x % m = sym (add-mod-mod x (y + t) m) ∙ rw q (ap (λ (n : ℕ). n % m) (omega arith)) in
    let r : (x + (y + t)) % m ≡ y % m =
    ap (λ (n : ℕ). n % m) (omega arith) ∙ sym (mod-add-mod (x + t) m y) ∙ rw p (ap (λ (n : ℕ). n % m) (omega arith)) in
    sym l ∙ r

-- a negative number's bits and its magnitude are opposite
word_opposite : (k n t : ℕ) → t % 2 ^ k ≡ suc n % 2 ^ k → (word k (negsuc n) + t) % 2 ^ k ≡ 0
word_opposite k n t e =
    let h = mod-lt n (pow_pos k) in
    let s : word k (negsuc n) + suc (n % 2 ^ k) ≡ 1 * 2 ^ k = omega arith in
    sym (add-mod-mod (word k (negsuc n)) t (2 ^ k))
    ∙ ap (λ (m : ℕ). (word k (negsuc n) + m) % 2 ^ k) (e ∙ suc-mod n (2 ^ k))
    ∙ add-mod-mod (word k (negsuc n)) (suc (n % 2 ^ k)) (2 ^ k)
    ∙ ap (λ (m : ℕ). m % 2 ^ k) s
    ∙ mul-mod_left 1 (2 ^ k)

-- it is a residue
pub word_lt : (k : ℕ) (z : ℤ) → word k z < 2 ^ k
word_lt k (pos n) = mod-lt n (pow_pos k)
word_lt k (negsuc n) = let h = mod-lt n (pow_pos k) in omega arith

-- the bits of -n
pub word_neg : (k n r : ℕ) → r < 2 ^ k → (r + n) % 2 ^ k ≡ 0 → word k (neg_ℤ (pos n)) ≡ r
word_neg k zero r h e =
    let p : 0 % 2 ^ k ≡ 0 = mod-eq_of_lt (pow_pos k) in
    let d : (r + 0) % 2 ^ k ≡ r = ap (λ (m : ℕ). m % 2 ^ k) (omega arith) ∙ mod-eq_of_lt h in
    p ∙ sym e ∙ d
word_neg k (suc n) r h e =
    sym (mod-eq_of_lt (word_lt k (negsuc n))) ∙ opposite (word k (negsuc n)) r (suc n) (2 ^ k) (word_opposite k n (suc n) refl) e ∙ mod-eq_of_lt h

-- fewer bits
pub word_narrow : (j k : ℕ) (z : ℤ) → word (j + k) z % 2 ^ k ≡ word k z
word_narrow j k (pos n) = mod-mod-pow n j k
word_narrow j k (negsuc n) =
    let x = word (j + k) (negsuc n) in
    let h = mod-lt n (pow_pos (j + k)) in
    let t : suc (n % 2 ^ (j + k)) % 2 ^ k ≡ suc n % 2 ^ k =
    suc-mod (n % 2 ^ (j + k)) (2 ^ k) ∙ ap (λ (m : ℕ). suc m % 2 ^ k) (mod-mod-pow n j k) ∙ sym (suc-mod n (2 ^ k)) in
    let s : x + suc (n % 2 ^ (j + k)) ≡ 2 ^ j * 2 ^ k = omega (arith, pow-add 2 j k) in
    opposite x (word k (negsuc n)) (suc (n % 2 ^ (j + k))) (2 ^ k) (ap (λ (m : ℕ). m % 2 ^ k) s ∙ mul-mod_left (2 ^ j) (2 ^ k)) (word_opposite k n _ t)
    ∙ mod-eq_of_lt (word_lt k (negsuc n))

-- one factor negative
mul_opposite : (k x n : ℕ) → (x * word k (negsuc n) + x * suc n) % 2 ^ k ≡ 0
mul_opposite k x n =
    let r = word k (negsuc n) in
    ap (λ (m : ℕ). m % 2 ^ k) (sym (mul-add x r (suc n))) ∙ sym (mod_mul_right x (r + suc n) (2 ^ k)) ∙ rw (word_opposite k n (suc n) refl) (ap (λ (m : ℕ). m % 2 ^ k) (omega arith) ∙ mod-eq_of_lt (pow_pos k))

mul_negsuc : (k a b : ℕ) → word k (neg_ℤ (pos (a * suc b))) ≡ a % 2 ^ k * word k (negsuc b) % 2 ^ k
mul_negsuc k a b =
    let r = word k (negsuc b) in
    word_neg k (a * suc b) (a % 2 ^ k * r % 2 ^ k) (mod-lt _ (pow_pos k)) (rw (mod_mul_left a r (2 ^ k)) (mod-add-mod (a * r) (2 ^ k) (a * suc b)) ∙ mul_opposite k a b)

-- the bits of a product are those of the product of the bits
pub word_mul : (k : ℕ) (y z : ℤ) → word k (y *ℤ z) ≡ word k y * word k z % 2 ^ k
word_mul k (pos a) (pos b) = sym (product_mod a b (2 ^ k))
word_mul k (pos a) (negsuc b) = mul_negsuc k a b
word_mul k (negsuc a) (pos b) =
    ap (λ (m : ℕ). word k (neg_ℤ (pos m))) (mul_comm (suc a) b) ∙ mul_negsuc k b a ∙ ap (λ (m : ℕ). m % 2 ^ k) (mul_comm (b % 2 ^ k) (word k (negsuc a)))
word_mul k (negsuc a) (negsuc b) =
    let r = word k (negsuc a) in
    let s = word k (negsuc b) in
    let p : suc a * suc b + r * suc b ≡ suc b * r + suc b * suc a =
    add_comm (suc a * suc b) (r * suc b) ∙ sym (add-mul r (suc a) (suc b)) ∙ mul_comm (r + suc a) (suc b) ∙ mul-add (suc b) r (suc a) in
    opposite (suc a * suc b) (r * s) (r * suc b) (2 ^ k) (ap (λ (m : ℕ). m % 2 ^ k) p ∙ mul_opposite k (suc b) a) (mul_opposite k r b)

-- the bits that a signed number was read from
pub word_signed : (k x : ℕ) → x < 2 ^ k → word k (signed k x) ≡ x
word_signed k x h = go (ltb x (2 ^ (k - 1))) refl
  where
    go : (b : Bool) → ltb x (2 ^ (k - 1)) ≡ b → word k (signed k x) ≡ x
    go true e = rw e (mod-eq_of_lt h)
    go false e =
        let d : 2 ^ k - suc x < 2 ^ k = omega arith in
        rw e (rw (mod-eq_of_lt d) (omega arith))
