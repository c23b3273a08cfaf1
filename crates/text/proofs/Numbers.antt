-- Digits and the numbers that they spell.
use mathlib.Core.Path.{◌≡◌, refl, ap, ◌∙◌}
use mathlib.Core.Bool.{Bool, true, false, cond}
use mathlib.Core.List.{List, [], ◌∷◌, ◌++◌}
use Prim.Native.Nat.{ℕ, zero, suc, ◌+◌, ◌*◌, ◌-◌, ◌/◌, ◌%◌, ◌^◌, ◌<◌, ◌≤◌}
use native.Mathlib.Numerals.{add-one}
use native.Mathlib.Nat.{pow-zero, pow-succ', mul-le-mul_left, mul_comm, mod-lt, le-div_iff_mul-le, pow-le-pow_right, lt_of_lt_of_le, div-add-mod', div-lt_iff_lt-mul}
use native.Mathlib.Omega.{arith}
use lib.Dec.{ltb, lit<}
use lib.ListN.{length, get_or, drop, drop_of_length-le, length-append}
use lib.Seq.{drop-cons}
use borrow.Author.Tests.{lt-ltb, le-ltb, le-leb, lt-leb, ne_eqb, ltb-true, ltb-false}
use Rattle.text.specs.Scan.{count}
use Rattle.text.specs.Number.{digit_value, spelled, digit_byte, digits}
use Rattle.text.proofs.Scanning.{count_append}

-- ---- reading: v is spelled by the digits before position i
pub spelled_on : (s : List ℕ) (i base v : ℕ) → i < length s
    → spelled base v (drop i s) ≡ spelled base (v * base + digit_value (get_or s i 0)) (drop (i + 1) s)
unfolding spelled
spelled_on s i base v h = rw (drop-cons s i 0 h, add-one i)

pub spelled_off : (s : List ℕ) (i base v : ℕ) → length s ≤ i → spelled base v (drop i s) ≡ v
unfolding spelled
spelled_off s i base v h = rw (drop_of_length-le s h)

-- i digits are below 16 ^ i, in every base up to 16
pub spelled_more : (base v d i : ℕ) → base ≤ 16 → v < 16 ^ i → d < 16 → v * base + d < 16 ^ (i + 1)
spelled_more base v d i b h k = rw (add-one i, pow-succ') (omega (arith, mul-le-mul_left v b))

-- so one digit more after at most 15 fits 64 bits
pub spelled_fits : (base v i : ℕ) → base ≤ 16 → v < 16 ^ i → i < 16 → v * base + 16 ≤ 2 ^ 64
spelled_fits base v i b h k =
    let m : i ≤ 15 = omega arith in
    let top : 16 ^ i ≤ 16 ^ 15 = pow-le-pow_right (lit< tt) m in
    omega (arith, mul-le-mul_left v b, lt_of_lt_of_le h top)

-- ---- printing: one digit is left, or more than one
module _ (base k n : ℕ) (z : k ≡ 0 → ⊥) where
  digits_on : digits base k n ≡ cond (ltb n base) (digit_byte n ∷ []) (digits base (k - 1) (n / base) ++ (digit_byte (n % base) ∷ []))
  unfolding digits
  digits_on =
      let e : k ≡ suc (k - 1) = omega arith in
      ap (λ j. digits base j n) e

  pub digits_one : n < base → digits base k n ≡ digit_byte n ∷ []
  digits_one h = digits_on ∙ rw (lt-ltb n base h)

  pub digits_more : base ≤ n → digits base k n ≡ digits base (k - 1) (n / base) ++ (digit_byte (n % base) ∷ [])
  digits_more h = digits_on ∙ rw (le-ltb n base h)

pub digits_none : (base k n : ℕ) → k ≡ 0 → digits base k n ≡ []
unfolding digits
digits_none base k n e = ap (λ j. digits base j n) e

-- What holds of the digits of every number: it holds of no digits, of one digit, and of one digit more.
-- P k n s speaks of the digits s of n, for which k positions are given. All laws below are cases of this one induction.
module _ (base : ℕ) (P : ℕ → ℕ → List ℕ → Type 0)
    (none : (n : ℕ) → P 0 n [])
    (one : (k n : ℕ) → n < base → P (suc k) n (digit_byte n ∷ []))
    (more : (k n : ℕ) (s : List ℕ) → base ≤ n → P k (n / base) s → P (suc k) n (s ++ (digit_byte (n % base) ∷ []))) where
  digits_ind : (k n : ℕ) → P k n (digits base k n)
  unfolding digits
  digits_ind zero n = none n
  digits_ind (suc k) n = by (ltb n base) refl (digits_ind k (n / base))
    where
      by : (t : Bool) → ltb n base ≡ t → P k (n / base) (digits base k (n / base))
          → P (suc k) n (cond t (digit_byte n ∷ []) (digits base k (n / base) ++ (digit_byte (n % base) ∷ [])))
      by true e h = one k n (ltb-true n base e)
      by false e h = more k n (digits base k (n / base)) (ltb-false n base e) h

-- at most k of them, and at least one
pub digits_le : (base k n : ℕ) → length (digits base k n) ≤ k
digits_le base =
    digits_ind base (λ k n s. length s ≤ k)
    (λ n. omega arith)
    (λ k n h. omega arith)
    (λ k n s h r. rw length-append (omega arith))

pub digits_some : (base k n : ℕ) → 0 < k → 1 ≤ length (digits base k n)
digits_some base =
    digits_ind base (λ k n s. 0 < k → 1 ≤ length s)
    (λ n z. omega arith)
    (λ k n h z. omega arith)
    (λ k n s h r z. rw length-append (omega arith))

-- ---- what digits are not: neither comma nor 0a, which stand below 0-9
byte_high : (t : Bool) (d : ℕ) → 48 ≤ cond t (48 + d) (87 + d)
byte_high true d = omega arith
byte_high false d = omega arith

byte_without : (c d : ℕ) → c < 48 → count c (digit_byte d ∷ []) ≡ 0
unfolding count
byte_without c d h =
    let n : digit_byte d ≡ c → ⊥ = λ e. omega (arith, byte_high (ltb d 10) d) in
    rw (ne_eqb (digit_byte d) c n)

pub nil_without : (c : ℕ) → count c [] ≡ 0
unfolding count
nil_without c = refl

pub digits_without : (c base k n : ℕ) → c < 48 → count c (digits base k n) ≡ 0
digits_without c base k n z =
    digits_ind base (λ k n s. count c s ≡ 0)
    (λ n. nil_without c)
    (λ k n h. byte_without c n z)
    (λ k n s h r. omega (arith, count_append c s (digit_byte (n % base) ∷ []), byte_without c (n % base) z))
    k n

-- ---- the value of what is printed
value_byte : (d : ℕ) → d < 16 → digit_value (digit_byte d) ≡ d
value_byte d h = by (ltb d 10) refl
  where
    by : (t : Bool) → ltb d 10 ≡ t → digit_value (cond t (48 + d) (87 + d)) ≡ d
    by true e =
        let s : d < 10 = ltb-true d 10 e in
        let a : 48 ≤ 48 + d = omega arith in
        let b : 48 + d ≤ 57 = omega arith in
        rw (le-leb 48 (48 + d) a) (rw (le-leb (48 + d) 57 b) (omega arith))
    by false e =
        let s : 10 ≤ d = ltb-false d 10 e in
        let a : 48 ≤ 87 + d = omega arith in
        let b : 57 < 87 + d = omega arith in
        let f : 97 ≤ 87 + d = omega arith in
        let g : 87 + d ≤ 102 = omega arith in
        rw (le-leb 48 (87 + d) a) (rw (lt-leb (87 + d) 57 b) (rw (le-leb 97 (87 + d) f) (rw (le-leb (87 + d) 102 g) (omega arith))))

spelled_append : (base v : ℕ) (s t : List ℕ) → spelled base v (s ++ t) ≡ spelled base (spelled base v s) t
unfolding spelled
spelled_append base v [] t = refl
spelled_append base v (b ∷ bs) t = spelled_append base (v * base + digit_value b) bs t

spelled_one : (base v b : ℕ) → spelled base v (b ∷ []) ≡ v * base + digit_value b
unfolding spelled
spelled_one base v b = refl

spelled_nil : (base v : ℕ) → spelled base v [] ≡ v
unfolding spelled
spelled_nil base v = refl

-- n / base has one digit less
fewer : (base k n : ℕ) → 0 < base → n < base ^ suc k → n / base < base ^ k
fewer base k n z h = (div-lt_iff_lt-mul z).1 (rw (pow-succ', mul_comm base (base ^ k)) at h)

pub spelled_digits : (base k n : ℕ) → 1 < base → base ≤ 16 → n < base ^ k → spelled base 0 (digits base k n) ≡ n
spelled_digits base k n p q =
    let z : 0 < base = omega arith in
    digits_ind base (λ k n s. n < base ^ k → spelled base 0 s ≡ n)
    (λ n h. omega (arith, pow-zero base, spelled_nil base 0))
    (λ k n l h. let d : n < 16 = omega arith in omega (arith, spelled_one base 0 (digit_byte n), value_byte n d))
    (λ k n s l r h.
    let d : n % base < 16 = omega (arith, mod-lt n z) in
    spelled_append base 0 s (digit_byte (n % base) ∷ [])
    ∙ ap (λ v. spelled base v (digit_byte (n % base) ∷ [])) (r (fewer base k n z h))
    ∙ spelled_one base (n / base) (digit_byte (n % base))
    ∙ ap (λ v. n / base * base + v) (value_byte (n % base) d)
    ∙ div-add-mod' n base)
    k n

-- no leading zero: a number that is not 0 has a first digit, and that is not 0
byte_zero : (t : Bool) (d : ℕ) → 0 < d → cond t (48 + d) (87 + d) ≡ 48 → ⊥
byte_zero true d h e = omega arith
byte_zero false d h e = omega arith

lead_append : (s t : List ℕ) → (get_or s 0 48 ≡ 48 → ⊥) → get_or (s ++ t) 0 48 ≡ 48 → ⊥
lead_append [] t p e = let z : ◌≡◌ {A = ℕ} 48 48 = refl in p z
lead_append (b ∷ bs) t p e = p e

pub digits_lead : (base k n : ℕ) → 1 < base → 0 < n → n < base ^ k → get_or (digits base k n) 0 48 ≡ 48 → ⊥
digits_lead base k n p =
    let z : 0 < base = omega arith in
    digits_ind base (λ k n s. 0 < n → n < base ^ k → get_or s 0 48 ≡ 48 → ⊥)
    (λ n q h e. omega (arith, pow-zero base))
    (λ k n l q h e. byte_zero (ltb n 10) n q e)
    (λ k n s l r q h e.
    lead_append s (digit_byte (n % base) ∷ []) (r ((le-div_iff_mul-le z).1 (omega arith)) (fewer base k n z h)) e)
    k n
