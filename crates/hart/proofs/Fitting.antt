-- The permissions of regions that are counted from 0, as an iterator counts them.
-- Assumes nothing.
use mathlib.Core.Path.{◌≡◌, refl, ap, ◌∙◌}
use mathlib.Core.Bool.{◌&&◌}
use mathlib.Core.List.{List, [], ◌∷◌}
use Prim.Native.Nat.{ℕ, suc, ◌+◌}
use native.Mathlib.Omega.{arith}
use Rattle.std.specs.List.{list_all, enumerate_from}
use Rattle.model.specs.Regions.{permission_fits}
use Rattle.model.specs.WellFormed.{permissions_fit}
use Rattle.model.specs.declared.Region.{Region}

pub fits_is : (n : ℕ) (rs : List Region) → permissions_fit (n + 1) rs ≡ list_all (λ (p : ℕ × Region). permission_fits (p.0 + 1) p.1.permission) (enumerate_from n rs)
fits_is n [] = refl
fits_is n (r ∷ rs) =
    let s : suc (n + 1) ≡ n + 1 + 1 = omega arith in
    ap (λ b. permission_fits (n + 1) r.permission && b) (ap (λ k. permissions_fit k rs) s ∙ fits_is (n + 1) rs)
