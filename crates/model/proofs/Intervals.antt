-- Which bytes a region reaches: an implicit region that keeps its rule matches an interval of addresses, any other none;
-- an explicit region that keeps its rule grants its own bytes alone, and ends at 2^48 or before.
-- Assumes nothing.
use mathlib.Core.Path.{◌≡◌, refl, sym, ap, ◌∙◌}
use mathlib.Core.Bool.{Bool, true, false, not, cond, ◌&&◌}
use Prim.Native.Nat.{ℕ, zero, suc, ◌+◌, ◌-◌, ◌*◌, ◌/◌, ◌%◌, ◌^◌, ◌<◌, ◌≤◌}
use native.Mathlib.Nat.{mod-lt, pow-suc}
use native.Mathlib.Omega.{arith}
use lib.Dec.{eqb, leb}
use lib.Pow.{split, high, high_ones, pow_pos}
use lib.Bits.{bit_and, shifted_even, shifted_half}
use lib.Count.{count_trailing_zeros, trailing_of_zero}
use lib.IntN.{ℤ, pos, ◌+ℤ◌}
use borrow.Author.Tests.{leb-true, le-leb, lt-ltb, eqb-true, eqb-false, eq-eqb, not-true}
use Rattle.std.proofs.lemmas.Nat.Bits.{and_high_mask}
use Rattle.std.proofs.lemmas.Bool.{and_parts}
use Rattle.words.specs.Word.{word}
use Rattle.model.specs.Regions.{mask_zeros, implicit_rule, implicit_rule_at, large, permits, small_rule, large_rule, explicit_rule, matches, below, explicit_grants}
use Rattle.model.specs.Bytes.{byte_of}
use Rattle.model.specs.declared.Region.{Region}
use Rattle.model.proofs.Offset.{below_inside}

-- ---- implicit regions

-- what the rule says of the region's numbers
pub record Kept (r : Region) : Type 0 where
  pub small : mask_zeros r.bound ≤ 48
  pub shape : r.bound ≡ 2 ^ 64 - 2 ^ mask_zeros r.bound
  pub aligned : r.base % 2 ^ mask_zeros r.bound ≡ 0
  pub low : r.base + 2 ^ mask_zeros r.bound ≤ 2 ^ 48

pub implicit_kept : (r : Region) → implicit_rule r ≡ true → Kept r
implicit_kept r h =
    let k = mask_zeros r.bound in
    let shape = eqb r.bound (2 ^ 64 - 2 ^ k) in
    let aligned = eqb (r.base % 2 ^ k) 0 in
    let low = leb (r.base + 2 ^ k) (2 ^ 48) in
    let p = and_parts (leb k 48) (shape && (aligned && low)) h in
    let q = and_parts shape (aligned && low) p.1 in
    let s = and_parts aligned low q.1 in
    record {
      small = leb-true k 48 p.0;
      shape = eqb-true r.bound (2 ^ 64 - 2 ^ k) q.0;
      aligned = eqb-true (r.base % 2 ^ k) 0 s.0;
      low = leb-true (r.base + 2 ^ k) (2 ^ 48) s.1;
    }

-- an address and-ed with the mask of a region that keeps its rule loses its low bits
region_masked : (r : Region) (a : ℕ) → Kept r → a < 2 ^ 64 → bit_and a r.bound ≡ a / 2 ^ mask_zeros r.bound * 2 ^ mask_zeros r.bound
region_masked r a h l = let s : mask_zeros r.bound ≤ 64 = omega arith in ap (bit_and a) h.shape ∙ and_high_mask 64 (mask_zeros r.bound) s a l

-- the numbers that a multiple of 2^k is left of are the 2^k from it on
rounded : (a base k : ℕ) → base % 2 ^ k ≡ 0 → base ≤ a → a < base + 2 ^ k → a / 2 ^ k * 2 ^ k ≡ base
rounded a base k m h l =
    let b : base / 2 ^ k * 2 ^ k ≡ base = omega (arith, split base k) in
    let s : a ≡ base / 2 ^ k * 2 ^ k + (a - base) = omega arith in
    let d : a - base < 2 ^ k = omega arith in
    ap (λ (x : ℕ). x * 2 ^ k) (ap (λ (x : ℕ). x / 2 ^ k) s ∙ high (base / 2 ^ k) k d) ∙ b

-- a matched address is base or one of the 2^k from it on
pub matches_inside : (r : Region) (a : ℕ) → a < 2 ^ 64 → matches r a ≡ true
    → (r.base ≤ a) × (a < r.base + 2 ^ mask_zeros r.bound)
unfolding matches
matches_inside r a l h =
    let p = and_parts (implicit_rule r) (eqb (bit_and a r.bound) r.base) h in
    let e = sym (region_masked r a (implicit_kept r p.0) l) ∙ eqb-true (bit_and a r.bound) r.base p.1 in
    omega (arith, e, split a (mask_zeros r.bound), mod-lt a (pow_pos (mask_zeros r.bound)))

-- and each of those is matched
pub inside_matches : (r : Region) (a : ℕ) → implicit_rule r ≡ true → r.base ≤ a → a < r.base + 2 ^ mask_zeros r.bound → matches r a ≡ true
unfolding matches
inside_matches r a h p q =
    let t = implicit_kept r h in
    let l : a < 2 ^ 64 = omega (arith, t.low) in
    rw h (eq-eqb (bit_and a r.bound) r.base (region_masked r a t l ∙ rounded a r.base (mask_zeros r.bound) t.aligned p q))

-- a matched address is below 2^48
pub matches_low : (r : Region) (a : ℕ) → a < 2 ^ 64 → matches r a ≡ true → a < 2 ^ 48
unfolding matches
matches_low r a l h =
    let p = and_parts (implicit_rule r) (eqb (bit_and a r.bound) r.base) h in
    omega (arith, (implicit_kept r p.0).low, (matches_inside r a l h).1)

-- a region that breaks its rule matches nothing
pub broken_matches_none : (r : Region) (a : ℕ) → implicit_rule r ≡ false → matches r a ≡ false
unfolding matches
broken_matches_none r a h = rw h refl

-- mask 0 matches nothing
pub zero_matches_none : (r : Region) (a : ℕ) → r.bound ≡ 0 → matches r a ≡ false
zero_matches_none r a h =
    broken_matches_none r a (ap (λ (m : ℕ). implicit_rule_at (mask_zeros m) r.base m) h ∙ ap (λ (k : ℕ). implicit_rule_at k r.base 0) (trailing_of_zero 64))

-- a base that is not a multiple of 2^k matches nothing
pub misaligned_matches_none : (r : Region) (a : ℕ) → (r.base % 2 ^ mask_zeros r.bound ≡ 0 → ⊥) → matches r a ≡ false
misaligned_matches_none r a h = go (implicit_rule r) refl
  where
    go : (b : Bool) → implicit_rule r ≡ b → matches r a ≡ false
    go true e = absurd (h (implicit_kept r e).aligned)
    go false e = broken_matches_none r a e

-- the mask 2^64 - 2^k has k trailing zeros
odd_zeros : (d m k : ℕ) → m % 2 ≡ 1 → k < d → count_trailing_zeros d (m * 2 ^ k) ≡ k
unfolding count_trailing_zeros
odd_zeros zero m k o h = absurd (omega arith)
odd_zeros (suc d) m zero o h =
    let e : m * 2 ^ 0 ≡ m = omega arith in
    rw (e, o) refl
odd_zeros (suc d) m (suc k) o h = rw (shifted_even m k, shifted_half m k) (ap suc (odd_zeros d m k o (omega arith)))

mask_zeros_lem : (k : ℕ) → k < 64 → mask_zeros (2 ^ 64 - 2 ^ k) ≡ k
mask_zeros_lem k h =
    let e : suc (63 - k) + k ≡ 64 = omega arith in
    let o : (2 ^ suc (63 - k) - 1) % 2 ≡ 1 = rw (pow-suc 2 (63 - k)) (omega (arith, pow_pos (63 - k))) in
    ap mask_zeros (ap (λ (n : ℕ). 2 ^ n - 2 ^ k) (sym e) ∙ high_ones (suc (63 - k)) k) ∙ odd_zeros 64 (2 ^ suc (63 - k) - 1) k o h

-- so each aligned block of 2^k bytes below 2^48 is what some region matches
pub block_keeps : (k base permission : ℕ) → k ≤ 48 → base % 2 ^ k ≡ 0 → base + 2 ^ k ≤ 2 ^ 48
    → implicit_rule (record { base = base; bound = 2 ^ 64 - 2 ^ k; permission = permission }) ≡ true
block_keeps k base permission h m l =
    ap (λ (n : ℕ). implicit_rule_at n base (2 ^ 64 - 2 ^ k)) (mask_zeros_lem k (omega arith))
    ∙ rw (le-leb k 48 h, eq-eqb (2 ^ 64 - 2 ^ k) (2 ^ 64 - 2 ^ k) refl, eq-eqb (base % 2 ^ k) 0 m, le-leb (base + 2 ^ k) (2 ^ 48) l) refl

-- ---- explicit regions

small_ends : (r : Region) → small_rule r ≡ true → (0 < r.bound) × (r.base + r.bound ≤ 2 ^ 48)
small_ends r h =
    let shared = eqb (r.base / 2 ^ 32) ((r.base + r.bound - 1) / 2 ^ 32) in
    let low = leb (r.base + r.bound) (2 ^ 48) in
    let p = and_parts (leb 1 r.bound) (leb r.bound (2 ^ 32) && (shared && low)) h in
    let q = and_parts (leb r.bound (2 ^ 32)) (shared && low) p.1 in
    (omega (arith, leb-true 1 r.bound p.0), leb-true (r.base + r.bound) (2 ^ 48) (and_parts shared low q.1).1)

large_ends : (r : Region) → large_rule r ≡ true → (0 < r.bound) × (r.base + r.bound ≤ 2 ^ 48)
large_ends r h =
    let even = eqb (r.bound % 65536) 0 in
    let some = not (eqb r.bound 0) in
    let low = leb (r.base + r.bound) (2 ^ 48) in
    let p = and_parts (eqb (r.base % 65536) 0) (even && (some && low)) h in
    let q = and_parts some low (and_parts even (some && low) p.1).1 in
    let n = eqb-false r.bound 0 (not-true (eqb r.bound 0) q.0) in
    (omega (arith, n), leb-true (r.base + r.bound) (2 ^ 48) q.1)

-- a region that keeps its rule is not empty and ends at 2^48 or before
pub explicit_ends : (r : Region) → explicit_rule r ≡ true → (0 < r.bound) × (r.base + r.bound ≤ 2 ^ 48)
unfolding explicit_rule
explicit_ends r h = go (permits large r) h
  where
    go : (b : Bool) → cond b (large_rule r) (small_rule r) ≡ true → (0 < r.bound) × (r.base + r.bound ≤ 2 ^ 48)
    go true e = large_ends r e
    go false e = small_ends r e

-- a granted byte lies in the region
pub granted_inside : (r : Region) (p : ℕ) (offset : ℤ) (i : ℕ) → explicit_grants r p offset i ≡ true
    → (r.base ≤ byte_of (word 64 (pos r.base +ℤ offset)) i) × (byte_of (word 64 (pos r.base +ℤ offset)) i < r.base + r.bound)
unfolding explicit_grants
granted_inside r p offset i g =
    let h = and_parts (explicit_rule r) (permits p r && below (offset +ℤ pos i) r.bound) g in
    let q = and_parts (permits p r) (below (offset +ℤ pos i) r.bound) h.1 in
    below_inside r.base r.bound i offset (omega (arith, (explicit_ends r h.0).1)) q.1

-- and, of a region that keeps its rule and has the permission, each byte that lies in it is granted at its distance from base
pub inside_granted : (r : Region) (p n : ℕ) → explicit_rule r ≡ true → permits p r ≡ true → n < r.bound → explicit_grants r p (pos n) 0 ≡ true
unfolding explicit_grants
inside_granted r p n k m l = rw (k, m, le-leb 0 (n + 0) (omega arith)) (lt-ltb (n + 0) r.bound (omega arith))
