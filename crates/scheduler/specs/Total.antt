-- Document 02, Job 9: "The reported total starts at 0, and each turn adds its run's count, modulo 2^64."
-- Assumes nothing.
use Rattle.std.specs.Prelude.{◌≡◌, List, [], ◌∷◌, ℕ, ◌+◌, ◌<◌, ◌^◌}
use Rattle.model.specs.Machine.{sum}
use Rattle.scheduler.specs.Turns.{Given, left, State, Follow, after_all}

-- each turn gets the total that the last one left; all else may be any
pub record SameTotal (p q : State) : Type 0 where
  pub total : q.scheduler.total ≡ p.scheduler.total

-- the counts that the turns answered, as a whole number
abbrev pub counts : List Given → ℕ
counts [] = 0
counts (g ∷ gs) = (left g).result.count + counts gs

abbrev pub Total : Type 0
Total = (p : State) (gs : List Given) → p.scheduler.total < 2 ^ 64 → Follow SameTotal p gs
    → (after_all p gs).scheduler.total ≡ sum p.scheduler.total (counts gs)
