-- Document 02, Job 9: "Over turns that each get the place and deck count the last one left, a deck that stays unstopped gets its turn before
-- any other deck gets two."
-- Assumes nothing.
use Rattle.std.specs.Prelude.{◌≡◌, false, List, [], ◌∷◌, ℕ, ◌≤◌, length}
use Rattle.scheduler.specs.Turn.{slot, stopped}
use Rattle.scheduler.specs.Turns.{Given, State, Follow, turns_of}

-- "turns that each get the place and deck count the last one left"; machines, stops, total, memory and allowance may be any
pub record SamePlace (p q : State) : Type 0 where
  pub place : q.scheduler.place ≡ p.scheduler.place
  pub count : q.scheduler.count ≡ p.scheduler.count

-- "a deck that stays unstopped": slot n, before each of the turns
abbrev pub StaysUnstopped : ℕ → List Given → Type 0
StaysUnstopped n [] = Unit {0}
StaysUnstopped n (g ∷ gs) = (stopped (slot g.scheduler.slots n) ≡ false) × StaysUnstopped n gs

-- of any turns in which slot n gets none, no other slot k gets two. Turns that are refused are among them; they are nobody's
abbrev pub Fairness : Type 0
Fairness = (p : State) (gs : List Given) (n k : ℕ) → Follow SamePlace p gs → StaysUnstopped n gs → 1 ≤ n → n ≤ p.scheduler.count
    → 1 ≤ k → turns_of n gs ≡ [] → length (turns_of k gs) ≤ 1
