-- Laws of the search for the first index that fails a test.
-- Assumes nothing.
use mathlib.Core.Path.{◌≡◌, refl, ap, ◌∙◌}
use mathlib.Core.Bool.{Bool, true, false, cond}
use Prim.Native.Nat.{ℕ, zero, suc, ◌+◌, ◌-◌, ◌<◌, ◌≤◌}
use native.Mathlib.Decide.{ℕ_discrete}
use native.Mathlib.Omega.{arith}
use Rattle.model.specs.Access.{scan}

-- a loop from 0 to n has n - i indices still to go at i
module _ (ok : ℕ → Bool) (i n : ℕ) where
  pub scan_next : i < n → ok i ≡ true → scan ok i (n - i) ≡ scan ok (i + 1) (n - (i + 1))
  unfolding scan
  scan_next p q =
      let e : n - i ≡ suc (n - (i + 1)) = omega arith in
      let f : i + 1 ≡ suc i = omega arith in
      rw (e, f) (rw q refl)

  pub scan_here : i < n → ok i ≡ false → scan ok i (n - i) ≡ i
  unfolding scan
  scan_here p q = let e : n - i ≡ suc (n - (i + 1)) = omega arith in rw e (rw q refl)

  pub scan_end : n ≤ i → scan ok i (n - i) ≡ i
  unfolding scan
  scan_end p = let e : n - i ≡ 0 = omega arith in rw e refl

-- a search that ends past its indices passed the test at each
pub scan_passed : (ok : ℕ → Bool) (k i : ℕ) → i + k ≤ scan ok i k → (j : ℕ) → i ≤ j → j < i + k → ok j ≡ true
unfolding scan
scan_passed ok zero i h j p q = absurd (omega arith)
scan_passed ok (suc k) i h j p q = go (ok i) refl h (ℕ_discrete j i) (λ h2 p2. scan_passed ok k (suc i) h2 j p2 (omega arith))
  where
    go : (b : Bool) → ok i ≡ b → i + suc k ≤ cond b (scan ok (suc i) k) i → Dec (j ≡ i)
        → (suc i + k ≤ scan ok (suc i) k → suc i ≤ j → ok j ≡ true) → ok j ≡ true
    go true e g (yes r) ih = ap ok r ∙ e
    go true e g (no r) ih = ih (omega (arith, g)) (omega (arith, r))
    go false e g d ih = absurd (omega (arith, g))

-- and where every index passes, it ends past them
pub scan_all : (ok : ℕ → Bool) (k i : ℕ) → ((j : ℕ) → i ≤ j → j < i + k → ok j ≡ true) → scan ok i k ≡ i + k
unfolding scan
scan_all ok zero i h = omega arith
scan_all ok (suc k) i h =
    rw (h i (omega arith) (omega arith)) (scan_all ok k (suc i) (λ j p q. h j (omega arith) (omega arith)) ∙ omega arith)
