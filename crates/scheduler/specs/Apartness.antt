-- Document 02, Job 9: "Take the decks unstopped before the turns compared. Where none can write a byte that another of them can read, write or
-- execute, each one's machine, stops and own bytes after its turns are as if it alone had made as many turns, with the same
-- allowances, from the same memory."
-- Assumes nothing.
use Rattle.std.specs.Prelude.{◌≡◌, false, List, [], ◌∷◌, map, ℕ, ◌≤◌, ◌<◌, length, get_or}
use Rattle.model.specs.Reach.{Readable, Writable, Executable}
use Rattle.model.specs.declared.Region.{Region}
use Rattle.scheduler.specs.Turn.{slot, stopped}
use Rattle.scheduler.specs.Turns.{Given, left, State, Follow, after_all, turns_of, in_turn}
use Rattle.scheduler.specs.declared.Scheduler.{Scheduler}

-- "This holds while the main loop changes none of machines, stops, deck count and memory."; place, total and allowance may be any, and what
-- stands above the count
pub record Untouched (p q : State) : Type 0 where
  pub slots : (n : ℕ) → 1 ≤ n → n ≤ p.scheduler.count → slot q.scheduler.slots n ≡ slot p.scheduler.slots n
  pub count : q.scheduler.count ≡ p.scheduler.count
  pub memory : q.memory ≡ p.memory

-- "A deck's own bytes are those it can read, write or execute."
pub data Own (rs : List Region) (b : ℕ) : Type 0 where
  readable : Readable rs b → Own rs b
  writable : Writable rs b → Own rs b
  executable : Executable rs b → Own rs b

-- the regions of slot n's machine
abbrev pub regions_at : Scheduler → ℕ → List Region
regions_at s n = (slot s.slots n).machine.hfi.regions

-- "the decks unstopped before the turns compared": slot n is one of them
pub record Taking (s : Scheduler) (n : ℕ) : Type 0 where
  pub first : 1 ≤ n
  pub last : n ≤ s.count
  pub unstopped : stopped (slot s.slots n) ≡ false

-- "none can write a byte that another of them can read, write or execute": no byte of the memory, whatever lies above it
abbrev pub Apart : State → Type 0
Apart p =
    (n k b : ℕ) → b < length p.memory → Taking p.scheduler n → Taking p.scheduler k → (n ≡ k → ⊥)
    → Writable (regions_at p.scheduler k) b → Own (regions_at p.scheduler n) b → ⊥

-- "it alone": a scheduler of one slot, with slot n's machine, over the same memory
abbrev pub alone : State → ℕ → State
alone p n =
    record {
      scheduler = record { slots = slot p.scheduler.slots n ∷ []; count = 1; place = 1; total = 0 };
      memory = p.memory;
    }

-- "as many turns, with the same allowances"
abbrev pub alone_turns : State → ℕ → List Given → List Given
alone_turns p n gs = in_turn (alone p n) (map (λ (g : Given). g.allowance) (turns_of n gs))

-- what a turn tells of its run: stop, count and address. That it was its slot's is turns_of and, alone, its_own below
pub record Told : Type 0 where
  pub stop : ℕ
  pub count : ℕ
  pub address : ℕ

abbrev pub told : Given → Told
told g = record { stop = (left g).result.stop; count = (left g).result.count; address = (left g).result.address }

-- turns gs from p on, and turns us from q on, where slot n stands alone
pub record Alike (p q : State) (n : ℕ) (gs us : List Given) : Type 0 where
  -- "each one's machine", and the stop that its slot has at the end
  pub slots : slot (after_all p gs).scheduler.slots n ≡ slot (after_all q us).scheduler.slots 1
  -- its "stops": of each of its turns, with count and address; and each turn alone is a turn of its own
  pub turns : map told (turns_of n gs) ≡ map told us
  pub its_own : turns_of 1 us ≡ us
  -- "and own bytes"
  pub bytes : (b : ℕ) → Own (regions_at p.scheduler n) b → get_or (after_all p gs).memory b 0 ≡ get_or (after_all q us).memory b 0

-- for any turns, refused ones and stops among them
abbrev pub Apartness : Type 0
Apartness = (p : State) (gs : List Given) (n : ℕ) → Follow Untouched p gs → Apart p → Taking p.scheduler n
    → Alike p (alone p n) n gs (alone_turns p n gs)
