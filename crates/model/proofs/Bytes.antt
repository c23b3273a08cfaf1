-- What a read depends on, and what a write changes: exactly its bytes.
-- Assumes nothing.
use mathlib.Core.Path.{◌≡◌, refl, sym, ◌∙◌}
use mathlib.Core.Logic.{◌≢◌}
use mathlib.Core.List.{List}
use Prim.Native.Nat.{ℕ, zero, suc, ◌+◌, ◌*◌, ◌/◌, ◌%◌, ◌<◌, ◌≤◌}
use native.Mathlib.Decide.{ℕ_discrete, dec_lt}
use native.Mathlib.Omega.{arith}
use lib.ListN.{length, get_or, set, length-set}
use lib.Seq.{get_or-set_same, get_or-set_other, set_out}
use Rattle.model.specs.Bytes.{byte_of, value, written}

-- two memories with the same bytes in the access give the same number
pub value_same : (s t : List ℕ) (a n i : ℕ) → ((j : ℕ) → i ≤ j → j < i + n → get_or s (byte_of a j) 0 ≡ get_or t (byte_of a j) 0)
    → value s a i n ≡ value t a i n
unfolding value
value_same s t a zero i h = refl
value_same s t a (suc n) i h =
    cc (h i (omega arith) (omega arith), value_same s t a n (suc i) (λ j p q. h j (omega arith) (omega arith)))

-- a word of four bytes is two halves
pub value_halves : (s : List ℕ) (a : ℕ) → value s a 0 4 ≡ value s a 0 2 + 65536 * value s (byte_of a 2) 0 2
unfolding value
value_halves s a =
    let p : byte_of (byte_of a 2) 0 ≡ byte_of a 2 = omega arith in
    let q : byte_of (byte_of a 2) 1 ≡ byte_of a 3 = omega arith in
    rw (p, q) (omega arith)

pub length_written : (n i : ℕ) (s : List ℕ) (a v : ℕ) → length (written s a i n v) ≡ length s
unfolding written
length_written zero i s a v = refl
length_written (suc n) i s a v =
    length_written n (suc i) (set s (byte_of a i) (v % 256)) a (v / 256) ∙ length-set s (byte_of a i) (v % 256)

-- a byte that is the same in both stays so where one value is put at one place of both
set_same : (s t : List ℕ) (x v b : ℕ) → length s ≡ length t → get_or s b 0 ≡ get_or t b 0 → get_or (set s x v) b 0 ≡ get_or (set t x v) b 0
set_same s t x v b l e = go (ℕ_discrete b x) (dec_lt x (length s))
  where
    go : Dec (b ≡ x) → Dec (x < length s) → get_or (set s x v) b 0 ≡ get_or (set t x v) b 0
    go (no r) d = get_or-set_other s x b v 0 r ∙ e ∙ sym (get_or-set_other t x b v 0 r)
    go (yes r) (yes p) = rw r (get_or-set_same s x v 0 p ∙ sym (get_or-set_same t x v 0 (omega arith)))
    go (yes r) (no p) = rw (set_out s x v (omega (arith, p)), set_out t x v (omega (arith, p))) e

pub written_same : (n i : ℕ) (s t : List ℕ) (a v b : ℕ) → length s ≡ length t → get_or s b 0 ≡ get_or t b 0
    → get_or (written s a i n v) b 0 ≡ get_or (written t a i n v) b 0
unfolding written
written_same zero i s t a v b l e = e
written_same (suc n) i s t a v b l e =
    written_same n (suc i) (set s (byte_of a i) (v % 256)) (set t (byte_of a i) (v % 256)) a (v / 256) b
    (length-set s (byte_of a i) (v % 256) ∙ l ∙ sym (length-set t (byte_of a i) (v % 256)))
    (set_same s t (byte_of a i) (v % 256) b l e)

-- a byte that is none of the access's keeps its value
pub written_other : (n i : ℕ) (s : List ℕ) (a v b : ℕ) → ((j : ℕ) → i ≤ j → j < i + n → b ≢ byte_of a j)
    → get_or (written s a i n v) b 0 ≡ get_or s b 0
unfolding written
written_other zero i s a v b h = refl
written_other (suc n) i s a v b h =
    written_other n (suc i) (set s (byte_of a i) (v % 256)) a (v / 256) b (λ j p q. h j (omega arith) (omega arith))
    ∙ get_or-set_other s (byte_of a i) b (v % 256) 0 (h i (omega arith) (omega arith))
