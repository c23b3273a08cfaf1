-- Tables of rows found by a number.
-- Assumes nothing.
use Rattle.std.specs.Prelude.{◌≡◌, cond, List, [], ◌∷◌, ℕ, ◌^◌, ◌<◌, eqb, Some, None}

-- what stands in the row with number n, or `none`
abbrev pub lookup : {X : Type 0} → X → List (ℕ × X) → ℕ → X
lookup none [] n = none
lookup none (r ∷ rs) n = cond (eqb n r.0) r.1 (lookup none rs n)

-- what is made of the kind whose code is n, or `none`
abbrev pub of_code : {K X : Type 0} → (K → ℕ) → (K → X) → X → List K → ℕ → X
of_code code make none [] n = none
of_code code make none (k ∷ ks) n = cond (eqb n (code k)) (make k) (of_code code make none ks n)

-- a kind's code has `bits` bits, and finds the kind
pub record Found {K : Type 0} (code : K → ℕ) (kinds : List K) (bits : ℕ) (k : K) : Type 0 where
  pub small : code k < 2 ^ bits
  pub found : of_code code Some None kinds (code k) ≡ Some k
