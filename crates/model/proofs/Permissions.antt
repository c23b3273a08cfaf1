-- "permission bits": of all numbers, which are the permissions that a region may have.
-- Assumes nothing.
use mathlib.Core.Path.{◌≡◌, refl, sym, ◌∙◌}
use mathlib.Core.Bool.{Bool, true, false, cond, not, ◌&&◌}
use mathlib.Core.List.{List, [], ◌∷◌}
use Prim.Native.Nat.{ℕ, zero, suc, ◌<◌, ◌≤◌}
use native.Mathlib.Omega.{arith}
use lib.Dec.{eqb, leb, lit≤}
use lib.Bits.{bit_and, and_le_r}
use borrow.Author.Tests.{eqb-true, eqb-false, ne_eqb, leb-true, leb-false, not-true}
use Rattle.std.proofs.lemmas.Bool.{and_parts}
use Rattle.instructions.specs.HWords.{among}
use Rattle.model.specs.Regions.{RegionKind, explicit, implicit_data, implicit_code, region_kind, permission_bits, permission_fits}
use Rattle.model.proofs.Forbidden.{every, of_each}

-- by the bits read 1, write 2, execute 4 and large 8
abbrev pub fitting : RegionKind → List ℕ
fitting explicit = 0 ∷ 1 ∷ 2 ∷ 3 ∷ 8 ∷ 9 ∷ 10 ∷ 11 ∷ []
fitting implicit_data = 0 ∷ 1 ∷ 2 ∷ 3 ∷ []
fitting implicit_code = 0 ∷ 4 ∷ []

-- a test of every number below n
abbrev all_below : ℕ → (ℕ → Bool) → Bool
all_below zero t = true
all_below (suc n) t = t n && all_below n t

below : (n : ℕ) (t : ℕ → Bool) → all_below n t ≡ true → (p : ℕ) → p < n → t p ≡ true
below zero t h p l = absurd (omega (arith, l))
below (suc n) t h p l =
    let q = and_parts (t n) (all_below n t) h in
    go (eqb p n) refl q.0 (λ k. below n t q.1 p k)
  where
    go : (b : Bool) → eqb p n ≡ b → t n ≡ true → (p < n → t p ≡ true) → t p ≡ true
    go true e x f = rw (eqb-true p n e) x
    go false e x f = let z = eqb-false p n e in f (omega (arith, z, l))

-- no number above the bits that there are fits, and of those below 16 these, by a computed check
module _ (k : RegionKind) (p : ℕ) where
  abbrev same : ℕ → Bool
  same v = cond (eqb (bit_and v (permission_bits k)) v) (among v (fitting k)) (not (among v (fitting k)))

  high_bits : permission_bits k ≤ 15 → every (λ v. leb v 15) (fitting k) ≡ true → 15 < p → eqb (bit_and p (permission_bits k)) p ≡ among p (fitting k)
  high_bits l h g =
      let c = and_le_r p (permission_bits k) in
      ne_eqb _ p (λ e. omega (arith, e, c, l, g)) ∙ sym (go (among p (fitting k)) refl)
    where
      go : (b : Bool) → among p (fitting k) ≡ b → among p (fitting k) ≡ false
      go true e = let z = leb-true p 15 (of_each (λ v. leb v 15) (fitting k) p h e) in absurd (omega (arith, z, g))
      go false e = e

  low_bits : all_below 16 same ≡ true → p < 16 → eqb (bit_and p (permission_bits k)) p ≡ among p (fitting k)
  low_bits h l = go (eqb (bit_and p (permission_bits k)) p) (among p (fitting k)) (below 16 same h p l)
    where
      go : (a b : Bool) → cond a b (not b) ≡ true → a ≡ b
      go true b e = sym e
      go false b e = sym (not-true b e)

  fitting_bits : permission_bits k ≤ 15 → every (λ v. leb v 15) (fitting k) ≡ true → all_below 16 same ≡ true → eqb (bit_and p (permission_bits k)) p ≡ among p (fitting k)
  fitting_bits l h s = go (leb p 15) refl
    where
      go : (b : Bool) → leb p 15 ≡ b → eqb (bit_and p (permission_bits k)) p ≡ among p (fitting k)
      go true e = let z = leb-true p 15 e in low_bits s (omega (arith, z))
      go false e = high_bits l h (leb-false p 15 e)

pub permissions_fitting : (n p : ℕ) → permission_fits n p ≡ among p (fitting (region_kind n))
permissions_fitting n p = go (region_kind n)
  where
    go : (k : RegionKind) → eqb (bit_and p (permission_bits k)) p ≡ among p (fitting k)
    go explicit = fitting_bits explicit p (lit≤ tt) refl refl
    go implicit_data = fitting_bits implicit_data p (lit≤ tt) refl refl
    go implicit_code = fitting_bits implicit_code p (lit≤ tt) refl refl
