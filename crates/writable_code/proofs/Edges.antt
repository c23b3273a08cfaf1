-- A test at the edges of the regions, one region after another, counted from 0 as an iterator counts them.
-- Assumes nothing.
use mathlib.Core.Path.{◌≡◌, refl, ap, sym, ◌∙◌}
use mathlib.Core.Bool.{Bool, ◌||◌, or_assoc}
use mathlib.Core.List.{List, [], ◌∷◌, ◌++◌}
use Prim.Native.Nat.{ℕ, suc, ◌+◌}
use native.Mathlib.Omega.{arith}
use Rattle.std.specs.List.{list_any, enumerate_from}
use Rattle.model.specs.Regions.{region_kind}
use Rattle.model.specs.WritableCode.{edges_of, edges, some}
use Rattle.model.specs.declared.Region.{Region}

some_of_both : (p : ℕ → Bool) (bs cs : List ℕ) → some p (bs ++ cs) ≡ (some p bs || some p cs)
some_of_both p [] cs = refl
some_of_both p (b ∷ bs) cs = ap (λ t. p b || t) (some_of_both p bs cs) ∙ sym (or_assoc (p b) (some p bs) (some p cs))

pub edges_any : (p : ℕ → Bool) (n : ℕ) (rs : List Region)
    → some p (edges (n + 1) rs) ≡ list_any (λ (q : ℕ × Region). some p (edges_of (region_kind (q.0 + 1)) q.1)) (enumerate_from n rs)
edges_any p n [] = refl
edges_any p n (r ∷ rs) =
    let s : suc (n + 1) ≡ n + 1 + 1 = omega arith in
    some_of_both p (edges_of (region_kind (n + 1)) r) (edges (suc (n + 1)) rs)
    ∙ ap (λ b. some p (edges_of (region_kind (n + 1)) r) || b) (ap (λ k. some p (edges k rs)) s ∙ edges_any p (n + 1) rs)
