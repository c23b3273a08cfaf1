-- The number of n bytes, and n bytes written, as std's from_le_bytes and to_le_bytes have them.
-- Assumes nothing.
use Rattle.std.proofs.Common.{◌≡◌, ℕ, zero, suc, ◌+◌, ◌-◌, ◌*◌, ◌/◌, ◌%◌, ◌^◌, ◌<◌, ◌≤◌, List, [], ◌∷◌, ◌++◌, length, take, drop, replicate, get_or, set, sym, refl, ap, ◌∙◌, div-one, arith}
use Rattle.std.specs.Int.{w64, byte_at, bytes_low_first, from_le_bytes, to_le_bytes}
use Rattle.std.proofs.lemmas.Nat.{pow-add}
use Rattle.std.proofs.Math.Nat.{pow-suc}
use Rattle.std.proofs.Math.Seq.{take-suc-set}
use Rattle.std.proofs.lemmas.List.{append_assoc, drop-drop, drop-set-lt, get_or-append-add, get_or-drop, get_or-take, get_or_append_left, length-drop, length-set, length-take-le, take-append-drop}
use native.Mathlib.Nat.{pow-succ', div-div-eq-div-mul}
use Rattle.model.specs.Bytes.{byte_of, value, written}
use Rattle.memory.proofs.Halves.{value_cut}

value_same : (xs ys : List ℕ) (a b i n : ℕ) → ((j : ℕ) → i ≤ j → j < i + n → get_or xs (byte_of a j) 0 ≡ get_or ys (byte_of b j) 0)
    → value xs a i n ≡ value ys b i n
unfolding value
value_same xs ys a b i zero h = refl
value_same xs ys a b i (suc n) h = rw (h i (omega arith) (omega arith), value_same xs ys a b (suc i) n (λ j p q. h j (omega arith) (omega arith))) refl

value_zeros : (xs : List ℕ) (a i n : ℕ) → ((j : ℕ) → i ≤ j → j < i + n → get_or xs (byte_of a j) 0 ≡ 0) → value xs a i n ≡ 0
unfolding value
value_zeros xs a i zero h = refl
value_zeros xs a i (suc n) h = rw (h i (omega arith) (omega arith), value_zeros xs a (suc i) n (λ j p q. h j (omega arith) (omega arith))) refl

-- the number of the bytes bs, of which n are the access's and the others zeros
pub le_value : (bs mem : List ℕ) (a n : ℕ) → n ≤ 8 → ((j : ℕ) → j < n → get_or bs j 0 ≡ get_or mem (byte_of a j) 0) → ((j : ℕ) → n ≤ j → j < 8 → get_or bs j 0 ≡ 0)
    → from_le_bytes w64 bs ≡ value mem a 0 n
unfolding value
le_value bs mem a n l h z =
    let whole : from_le_bytes w64 bs ≡ value bs 0 0 8 = omega arith in
    let e : 8 ≡ n + (8 - n) = omega arith in
    let s : 0 + n ≡ n = omega arith in
    let top : value bs 0 (0 + n) (8 - n) ≡ 0 = value_zeros bs 0 (0 + n) (8 - n) (λ j p q. let b : byte_of 0 j ≡ j = omega arith in rw b (z j (omega arith) (omega arith))) in
    let low : value bs 0 0 n ≡ value mem a 0 n = value_same bs mem 0 a 0 n (λ j p q. let b : byte_of 0 j ≡ j = omega arith in rw b (h j (omega arith))) in
    whole ∙ ap (λ k. value bs 0 0 k) e ∙ value_cut bs 0 n (8 - n) 0 ∙ rw (top, low) (omega arith)

-- bytes as bits
in_bits : (n : ℕ) → 256 ^ n ≡ 2 ^ (8 * n)
in_bits zero = refl
in_bits (suc n) =
    let e : 8 * suc n ≡ 8 + 8 * n = omega arith in
    rw e (pow-succ' 256 n ∙ ap (λ p. 256 * p) (in_bits n) ∙ sym (pow-add 2 8 (8 * n)))

bytes_fit : (mem : List ℕ) (a i n : ℕ) → ((j : ℕ) → get_or mem j 0 < 256) → value mem a i n < 256 ^ n
unfolding value
bytes_fit mem a i zero h = omega arith
bytes_fit mem a i (suc n) h = rw (pow-succ' 256 n) (omega (arith, h (byte_of a i), bytes_fit mem a (suc i) n h))

pub value_fits : (mem : List ℕ) (a n : ℕ) → ((j : ℕ) → get_or mem j 0 < 256) → value mem a 0 n < 2 ^ (8 * n)
value_fits mem a n h = rw (← in_bits n) (bytes_fit mem a 0 n h)

byte_at_place : (k x : ℕ) → byte_at k x ≡ x / 256 ^ k % 256
byte_at_place zero x = ap (λ (y : ℕ). y % 256) (sym (div-one x))
byte_at_place (suc k) x = refl

pub take_low_bytes : (i k n x : ℕ) → n ≤ k → take n (bytes_low_first i k x) ≡ bytes_low_first i n x
take_low_bytes i k zero x h = refl
take_low_bytes i zero (suc n) x h = absurd (omega arith)
take_low_bytes i (suc k) (suc n) x h = ap (λ (r : List ℕ). byte_at i x ∷ r) (take_low_bytes (suc i) k n x (omega arith))

-- n bytes of v from byte i on, put in their place
written_bytes : (mem : List ℕ) (a i n v : ℕ) → a + i + n ≤ length mem → length mem < 2 ^ 64
    → written mem a i n (v / 256 ^ i) ≡ take (a + i) mem ++ (bytes_low_first i n v ++ drop (a + i + n) mem)
unfolding written
written_bytes mem a i zero v l m =
    let z : a + i + 0 ≡ a + i = omega arith in
    rw z (sym (take-append-drop (a + i) mem))
written_bytes mem a i (suc n) v l m =
    let k = a + i in
    let b = v / 256 ^ i % 256 in
    let now = set mem k b in
    let len = length-set mem k b in
    let f : byte_of a i ≡ k = omega arith in
    let s : a + suc i ≡ suc k = omega arith in
    let t : k + suc n ≡ suc k + n = omega arith in
    let d : v / 256 ^ i / 256 ≡ v / 256 ^ suc i = div-div-eq-div-mul v (256 ^ i) 256 ∙ ap (λ p. v / p) (sym (pow-suc 256 i)) in
    let front : take (suc k) now ≡ take k mem ++ (b ∷ []) = take-suc-set mem k b (omega arith) in
    let back : drop (suc k + n) now ≡ drop (suc k + n) mem = drop-set-lt (suc k + n) mem k b (omega arith) in
    rw (f, d, t, byte_at_place i v)
    (written_bytes now a (suc i) n v (omega (arith, len)) (omega (arith, len)) ∙ rw (s, front, back) (append_assoc (take k mem) (b ∷ []) _))

-- the low n bytes of v copied to their place
pub le_written : (mem : List ℕ) (a n v : ℕ) → a + n ≤ length mem → length mem < 2 ^ 64 → n ≤ 8
    → take a mem ++ (take n (to_le_bytes w64 v) ++ drop n (drop a mem)) ≡ written mem a 0 n v
le_written mem a n v l m h =
    let z : a + 0 ≡ a = omega arith in
    let d : v / 256 ^ 0 ≡ v = div-one v in
    let w = written_bytes mem a 0 n v (omega arith) m in
    rw (take_low_bytes 0 8 n v h, drop-drop n a mem) (sym (ap (λ x. written mem a 0 n x) (sym d) ∙ w ∙ rw z refl))

abbrev zeros : ℕ → List ℕ
zeros k = replicate k 0

zero_at : (k i : ℕ) → get_or (zeros k) i 0 ≡ 0
zero_at zero i = refl
zero_at (suc k) zero = refl
zero_at (suc k) (suc i) = zero_at k i

-- the bytes of the access copied to the front of eight zeros
pub value_read : (mem : List ℕ) (a n : ℕ) → a + n ≤ length mem → length mem < 2 ^ 64 → n ≤ 8
    → from_le_bytes w64 (take n (drop a mem) ++ drop n (replicate {A = ℕ} 8 0)) ≡ value mem a 0 n
value_read mem a n l m h = le_value _ mem a n h near far
  where
    ys : List ℕ
    ys = take n (drop a mem)

    count : length ys ≡ n
    count = length-take-le n (drop a mem) (let e = length-drop a mem in omega (arith, e))

    near : (j : ℕ) → j < n → get_or (ys ++ drop n (zeros 8)) j 0 ≡ get_or mem (byte_of a j) 0
    near j p =
        let b : byte_of a j ≡ a + j = omega arith in
        rw b (get_or_append_left ys (drop n (zeros 8)) 0 j (omega (arith, count)) ∙ get_or-take n (drop a mem) j 0 p ∙ get_or-drop a mem j 0)

    far : (j : ℕ) → n ≤ j → j < 8 → get_or (ys ++ drop n (zeros 8)) j 0 ≡ 0
    far j p q =
        let s : j ≡ length ys + (j - n) = omega (arith, count) in
        rw s (get_or-append-add ys (drop n (zeros 8)) (j - n) 0 ∙ get_or-drop n (zeros 8) (j - n) 0 ∙ zero_at 8 _)
