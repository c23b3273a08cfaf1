-- The explicit regions of a list of numbers, as an iterator asks them.
-- Assumes nothing.
use mathlib.Core.Path.{◌≡◌, refl, ap}
use mathlib.Core.Bool.{◌||◌}
use mathlib.Core.List.{List, [], ◌∷◌}
use Prim.Native.Nat.{ℕ}
use Rattle.std.specs.List.{list_any}
use Rattle.model.specs.Machine.{region}
use Rattle.model.specs.WritableCode.{covers, explicit_covers}
use Rattle.model.specs.declared.Region.{Region}

pub covers_any : (rs : List Region) (ns : List ℕ) (wanted a : ℕ) → explicit_covers rs ns wanted a ≡ list_any (λ n. covers wanted a (region rs n)) ns
unfolding explicit_covers
covers_any rs [] wanted a = refl
covers_any rs (n ∷ ns) wanted a = ap (λ b. covers wanted a (region rs n) || b) (covers_any rs ns wanted a)
