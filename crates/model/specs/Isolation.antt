-- Demand 3, as one claim about whole runs: the run call that demand 2 defines, refused runs and the leaving step included.
-- Quotations here are of the demand, of document 01, "What demand 3 compares", and, where 02 is said, of document 02.
-- Machine is declared in src/lib.rt, Ended in Run.antt. Assumes nothing.
use Rattle.std.specs.Prelude.{◌≡◌, List, ℕ, length, get_or}
use Rattle.words.specs.Word.{field}
use Rattle.model.specs.Reach.{Readable, Writable, Executable}
use Rattle.model.specs.Run.{Ended, run_call}
use Rattle.model.specs.declared.Machine.{Machine}

-- "any machine in HFI mode with regions locked": "Regions are locked when option bit 0 is set."
pub record Locked (m : Machine) : Type 0 where
  pub mode : m.hfi.mode ≡ 1
  pub lock : field m.hfi.options 0 1 ≡ 1

-- "any two memories of one length that agree wherever the recipe may read or execute", "judged by the regions of the
-- machine its run starts from"
pub record Agree (m : Machine) (s t : List ℕ) : Type 0 where
  pub lengths : length s ≡ length t
  pub readable : (a : ℕ) → Readable m.hfi.regions a → get_or s a 0 ≡ get_or t a 0
  pub executable : (a : ℕ) → Executable m.hfi.regions a → get_or s a 0 ≡ get_or t a 0

-- what two runs from m, over s and over t, leave: e and f
pub record Isolated (m : Machine) (s t : List ℕ) (e f : Ended) : Type 0 where
  -- "both runs give the same stop, count, address and final machine": "The step count is that of the completed steps, a leaving
  -- one included. The address is the one given with the stop. The final machine is the whole record."
  pub answers : e.result ≡ f.result
  -- "Each run has its own memory, compared at every address in it": neither memory changes its length
  pub lengths : (length e.memory ≡ length s) × (length f.memory ≡ length t)
  -- "every byte that agreed at the start agrees at the end"
  pub agreeing : (a : ℕ) → get_or s a 0 ≡ get_or t a 0 → get_or e.memory a 0 ≡ get_or f.memory a 0
  -- "no byte that the recipe may not write has changed", in either run
  pub unwritten : (a : ℕ) → (Writable m.hfi.regions a → ⊥) → (get_or e.memory a 0 ≡ get_or s a 0) × (get_or f.memory a 0 ≡ get_or t a 0)
  -- "a locked run leaves every executable byte as it found it" (02, Job 5), in either run
  pub unchanged : (a : ℕ) → Executable m.hfi.regions a → (get_or e.memory a 0 ≡ get_or s a 0) × (get_or f.memory a 0 ≡ get_or t a 0)

-- "for every budget and every stop"
abbrev pub Isolation : Type 0
Isolation = (m : Machine) (s t : List ℕ) (budget : ℕ) → Locked m → Agree m s t → Isolated m s t (run_call m s budget) (run_call m t budget)
