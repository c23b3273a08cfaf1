-- A number of n + m bytes is one of n bytes below one of m, in reads and writes.
-- Assumes nothing.
use Rattle.std.proofs.Common.{◌≡◌, ℕ, zero, suc, ◌+◌, ◌*◌, ◌/◌, ◌%◌, ◌^◌, List, get_or, set, sym, refl, ap, ◌∙◌, ap₂, mul_assoc, mul_comm, div-one, arith}
use native.Mathlib.Nat.{pow-succ', div-div-eq-div-mul}
use Rattle.model.specs.Bytes.{byte_of, value, written}

-- byte i of the access at a + j is byte j + i of the access at a
pub value_from : (mem : List ℕ) (a j n i : ℕ) → value mem (a + j) i n ≡ value mem a (j + i) n
unfolding value
value_from mem a j zero i = refl
value_from mem a j (suc n) i =
    let e : (a + j + i) % 2 ^ 64 ≡ (a + (j + i)) % 2 ^ 64 = omega arith in
    let s : j + suc i ≡ suc (j + i) = omega arith in
    ap₂ (λ b v. get_or mem b 0 + 256 * v) e (value_from mem a j n (suc i) ∙ ap (λ k. value mem a k n) s)

pub value_cut : (mem : List ℕ) (a n m i : ℕ) → value mem a i (n + m) ≡ value mem a (i + n) m * 256 ^ n + value mem a i n
unfolding value
value_cut mem a zero m i =
    let e : 0 + m ≡ m = omega arith in
    let s : i + 0 ≡ i = omega arith in
    rw (e, s) (omega arith)
value_cut mem a (suc n) m i =
    let e : suc n + m ≡ suc (n + m) = omega arith in
    let s : i + suc n ≡ suc i + n = omega arith in
    let w = value mem a (suc i + n) m in
    let q : w * 256 ^ suc n ≡ 256 * (w * 256 ^ n) =
    ap (λ p. w * p) (pow-succ' 256 n) ∙ sym (mul_assoc w 256 (256 ^ n)) ∙ ap (λ p. p * 256 ^ n) (mul_comm w 256) ∙ mul_assoc 256 w (256 ^ n) in
    rw (e, s) (omega (arith, q, value_cut mem a n m (suc i)))

pub read_halves : (mem : List ℕ) (a n m : ℕ) → value mem (a + n) 0 m * 256 ^ n + value mem a 0 n ≡ value mem a 0 (n + m)
read_halves mem a n m =
    let s : n + 0 ≡ 0 + n = omega arith in
    ap (λ v. v * 256 ^ n + value mem a 0 n) (value_from mem a n m 0 ∙ ap (λ k. value mem a k m) s) ∙ sym (value_cut mem a n m 0)

pub written_from : (mem : List ℕ) (a j n i v : ℕ) → written mem (a + j) i n v ≡ written mem a (j + i) n v
unfolding written
written_from mem a j zero i v = refl
written_from mem a j (suc n) i v =
    let e : (a + j + i) % 2 ^ 64 ≡ (a + (j + i)) % 2 ^ 64 = omega arith in
    let s : j + suc i ≡ suc (j + i) = omega arith in
    written_from (set mem (byte_of (a + j) i) (v % 256)) a j n (suc i) (v / 256)
    ∙ ap₂ (λ b k. written (set mem b (v % 256)) a k n (v / 256)) e s

pub written_cut : (mem : List ℕ) (a n m i v : ℕ) → written mem a i (n + m) v ≡ written (written mem a i n v) a (i + n) m (v / 256 ^ n)
unfolding written
written_cut mem a zero m i v =
    let e : 0 + m ≡ m = omega arith in
    let s : i ≡ i + 0 = omega arith in
    ap (λ k. written mem a i k v) e ∙ ap₂ (λ j x. written mem a j m x) s (sym (div-one v))
written_cut mem a (suc n) m i v =
    let e : suc n + m ≡ suc (n + m) = omega arith in
    let s : suc i + n ≡ i + suc n = omega arith in
    let q : v / 256 / 256 ^ n ≡ v / 256 ^ suc n = div-div-eq-div-mul v 256 (256 ^ n) ∙ ap (λ p. v / p) (sym (pow-succ' 256 n)) in
    ap (λ k. written mem a i k v) e
    ∙ written_cut (set mem (byte_of a i) (v % 256)) a n m (suc i) (v / 256)
    ∙ ap₂ (λ j x. written (written (set mem (byte_of a i) (v % 256)) a (suc i) n (v / 256)) a j m x) s q

pub write_halves : (mem : List ℕ) (a n m v : ℕ) → written (written mem a 0 n v) (a + n) 0 m (v / 256 ^ n) ≡ written mem a 0 (n + m) v
write_halves mem a n m v =
    let s : n + 0 ≡ 0 + n = omega arith in
    written_from (written mem a 0 n v) a n m 0 (v / 256 ^ n)
    ∙ ap (λ k. written (written mem a 0 n v) a k m (v / 256 ^ n)) s ∙ sym (written_cut mem a n m 0 v)
