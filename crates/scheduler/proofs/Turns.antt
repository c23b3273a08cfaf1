-- Laws of turns one after another.
-- Assumes nothing.
use mathlib.Core.Path.{◌≡◌, refl, ap}
use mathlib.Core.List.{List, [], ◌∷◌}
use Prim.Native.Nat.{ℕ}
use borrow.Author.Tests.{eq-eqb, ne_eqb}
use Rattle.scheduler.specs.Turn.{Left}
use Rattle.scheduler.specs.Turns.{Given, left, State, after, Follow, turns_of, in_turn}
use Rattle.scheduler.proofs.Turn.{Turn, turn_is}
use Rattle.scheduler.proofs.Turn.Turn.{none, took}

pub count_kept : (g : Given) → (after g).scheduler.count ≡ g.scheduler.count
count_kept g = go (turn_is g.scheduler g.memory g.allowance)
  where
    go : Turn g.scheduler g.memory g.allowance → (after g).scheduler.count ≡ g.scheduler.count
    go (none stop e) = ap (λ (l : Left). l.result.scheduler.count) e
    go (took n t) = ap (λ (l : Left). l.result.scheduler.count) t.left

-- ---- a slot's turns

pub mine : (n : ℕ) (g : Given) (gs : List Given) → (left g).result.slot ≡ n → turns_of n (g ∷ gs) ≡ g ∷ turns_of n gs
unfolding turns_of
mine n g gs e = rw (eq-eqb _ _ e) refl

pub others : (n : ℕ) (g : Given) (gs : List Given) → ((left g).result.slot ≡ n → ⊥) → turns_of n (g ∷ gs) ≡ turns_of n gs
unfolding turns_of
others n g gs e = rw (ne_eqb _ _ e) refl

-- ---- a main loop that changes nothing between the turns

-- it leaves alone whatever a page asks of a state and itself
pub in_turn_follows : (Keeps : State → State → Type 0) → ((q : State) → Keeps q q) → (p : State) (allowances : List ℕ) → Follow Keeps p (in_turn p allowances)
unfolding in_turn
in_turn_follows Keeps same p [] = tt
in_turn_follows Keeps same p (a ∷ rest) =
    let g : Given = record { scheduler = p.scheduler; memory = p.memory; allowance = a } in (same p, in_turn_follows Keeps same (after g) rest)
