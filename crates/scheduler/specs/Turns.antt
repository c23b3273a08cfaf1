-- Turns one after another. The main loop may do anything between them; what it leaves alone is said by each theorem.
-- Scheduler is declared in src/lib.rt, Left in Turn.antt. Assumes nothing.
use Rattle.std.specs.Prelude.{cond, List, [], ◌∷◌, ℕ, eqb}
use Rattle.scheduler.specs.Turn.{Left, turn_call}
use Rattle.scheduler.specs.declared.Scheduler.{Scheduler}

-- what a turn is given
pub record Given : Type 0 where
  pub scheduler : Scheduler
  pub memory : List ℕ
  pub allowance : ℕ

-- and what it leaves
abbrev pub left : Given → Left
left g = turn_call g.scheduler g.memory g.allowance

-- between turns: a scheduler and a memory
pub record State : Type 0 where
  pub scheduler : Scheduler
  pub memory : List ℕ

abbrev pub before : Given → State
before g = record { scheduler = g.scheduler; memory = g.memory }

abbrev pub after : Given → State
after g = record { scheduler = (left g).result.scheduler; memory = (left g).memory }

-- each turn is given what Keeps asks of the state that the one before it left; the first, of the state p
abbrev pub Follow : (State → State → Type 0) → State → List Given → Type 0
Follow Keeps p [] = Unit {0}
Follow Keeps p (g ∷ gs) = Keeps p (before g) × Follow Keeps (after g) gs

-- the state after the last of them
abbrev pub after_all : State → List Given → State
after_all p [] = p
after_all p (g ∷ gs) = after_all (after g) gs

-- slot n's turns among them
unfoldable pub turns_of : ℕ → List Given → List Given
turns_of n [] = []
turns_of n (g ∷ gs) = cond (eqb (left g).result.slot n) (g ∷ turns_of n gs) (turns_of n gs)

-- the turns, one for each allowance, of a main loop that changes nothing between them
unfoldable pub in_turn : State → List ℕ → List Given
in_turn p [] = []
in_turn p (a ∷ rest) =
    let g : Given = record { scheduler = p.scheduler; memory = p.memory; allowance = a } in
    g ∷ in_turn (after g) rest
