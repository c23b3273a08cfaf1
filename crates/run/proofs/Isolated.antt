-- Demand 3 read off the contract of the code's run, so that nobody has to join the two: two calls of `run_call`, or of `koubospar_run`, each of
-- which met its contract, from one machine in HFI mode with regions locked, over memories of one length that agree wherever it may
-- read or execute.
-- Assumes nothing.
use mathlib.Core.Path.{◌≡◌, ap, ◌∙◌}
use mathlib.Core.List.{List}
use Prim.Native.Nat.{ℕ, ◌≤◌}
use lib.ListN.{length, get_or}
use Rattle.words.specs.Word.{field}
use Rattle.model.specs.Reach.{Readable, Writable, Executable}
use Rattle.model.specs.Stops.{stop_number, stop_address}
use Rattle.model.specs.Run.{Ended, RunAnswer, run_answer, ran_with, run_call}
use Rattle.model.specs.Isolation.{Locked}
use Rattle.model.specs.declared.Machine.{Machine}
use Rattle.model.specs.declared.Ran.{Ran}
use Rattle.model.proofs.Moves.{settings}
use Rattle.model.proofs.Isolation.{runs_isolated}
use Rattle.model.proofs.Stops.{same_stop}
use Rattle.model.proofs.Runs.{count_at_most, locked_keeps, locked_executable}

-- ---- of an answer by the documents' numbers. `koubospar_run` answers so: its clause is `Called` of what it answers with the machine that it left
-- (`run_stop_with`)

-- what is promised of a call on m and the memory s: the answer r, and the memory s' after it
abbrev pub Called : Machine → List ℕ → ℕ → RunAnswer → List ℕ → Type 0
Called m s budget r s' = ran_with r s' ≡ run_call m s budget

pub calls_isolated : (m : Machine) (s t : List ℕ) (budget : ℕ) (r q : RunAnswer) (s' t' : List ℕ) → Called m s budget r s' → Called m t budget q t'
    → m.hfi.mode ≡ 1 → field m.hfi.options 0 1 ≡ 1 → length s ≡ length t
    → ((a : ℕ) → Readable m.hfi.regions a → get_or s a 0 ≡ get_or t a 0)
    → ((a : ℕ) → Executable m.hfi.regions a → get_or s a 0 ≡ get_or t a 0)
    -- "both runs give the same stop, count, address and final machine"
    → (r.stop ≡ q.stop)
    × (r.count ≡ q.count)
    × (r.address ≡ q.address)
    × (r.machine ≡ q.machine)
    -- "Each run has its own memory, compared at every address in it"
    × (length s' ≡ length s)
    × (length t' ≡ length t)
    -- "every byte that agreed at the start agrees at the end"
    × ((a : ℕ) → get_or s a 0 ≡ get_or t a 0 → get_or s' a 0 ≡ get_or t' a 0)
    -- "no byte that the recipe may not write has changed"
    × ((a : ℕ) → (Writable m.hfi.regions a → ⊥) → get_or s' a 0 ≡ get_or s a 0)
    × ((a : ℕ) → (Writable m.hfi.regions a → ⊥) → get_or t' a 0 ≡ get_or t a 0)
    -- "a locked run leaves every executable byte as it found it" (02, Job 5)
    × ((a : ℕ) → Executable m.hfi.regions a → get_or s' a 0 ≡ get_or s a 0)
    × ((a : ℕ) → Executable m.hfi.regions a → get_or t' a 0 ≡ get_or t a 0)
calls_isolated m s t budget r q s' t' e f = runs_isolated m s t budget (ran_with r s') (ran_with q t') e f

-- "From then on a locked run leaves every executable byte as it found it" (02, Job 5), of one call
pub call_executable : (m : Machine) (s : List ℕ) (budget : ℕ) (r : RunAnswer) (s' : List ℕ) → Called m s budget r s' → Locked m
    → (a : ℕ) → Executable m.hfi.regions a → get_or s' a 0 ≡ get_or s a 0
call_executable m s budget r s' e l a x = ap (λ (o : Ended). get_or o.memory a 0) e ∙ locked_executable m s budget l a x

-- a call from a locked machine leaves its regions, options, handler and selector as they were
pub call_keeps : (m : Machine) (s : List ℕ) (budget : ℕ) (r : RunAnswer) (s' : List ℕ) → Called m s budget r s' → Locked m
    → settings r.machine ≡ settings m
call_keeps m s budget r s' e l = ap (λ (o : Ended). settings o.result.machine) e ∙ locked_keeps m s budget l

-- a call's count is at most its budget
pub call_count : (m : Machine) (s : List ℕ) (budget : ℕ) (r : RunAnswer) (s' : List ℕ) → Called m s budget r s' → r.count ≤ budget
call_count m s budget r s' e = rw (ap (λ o. o.result.count) e) (count_at_most m s budget)

-- ---- of what `run_call` itself answers: its clause is `CalledRan`

abbrev pub CalledRan : Machine → List ℕ → ℕ → Ran → List ℕ → Type 0
CalledRan m s budget r s' = Called m s budget (run_answer r) s'

pub ran_isolated : (m : Machine) (s t : List ℕ) (budget : ℕ) (r q : Ran) (s' t' : List ℕ) → CalledRan m s budget r s' → CalledRan m t budget q t'
    → m.hfi.mode ≡ 1 → field m.hfi.options 0 1 ≡ 1 → length s ≡ length t
    → ((a : ℕ) → Readable m.hfi.regions a → get_or s a 0 ≡ get_or t a 0)
    → ((a : ℕ) → Executable m.hfi.regions a → get_or s a 0 ≡ get_or t a 0)
    -- as above; all fields of what the code answers, and the stop's two numbers
    → (r.stop ≡ q.stop)
    × (stop_number r.stop ≡ stop_number q.stop)
    × (r.count ≡ q.count)
    × (stop_address r.stop ≡ stop_address q.stop)
    × (r.machine ≡ q.machine)
    × (length s' ≡ length s)
    × (length t' ≡ length t)
    × ((a : ℕ) → get_or s a 0 ≡ get_or t a 0 → get_or s' a 0 ≡ get_or t' a 0)
    × ((a : ℕ) → (Writable m.hfi.regions a → ⊥) → get_or s' a 0 ≡ get_or s a 0)
    × ((a : ℕ) → (Writable m.hfi.regions a → ⊥) → get_or t' a 0 ≡ get_or t a 0)
    × ((a : ℕ) → Executable m.hfi.regions a → get_or s' a 0 ≡ get_or s a 0)
    × ((a : ℕ) → Executable m.hfi.regions a → get_or t' a 0 ≡ get_or t a 0)
ran_isolated m s t budget r q s' t' e f mode lock lengths readable executable =
    let i = calls_isolated m s t budget (run_answer r) (run_answer q) s' t' e f mode lock lengths readable executable in
    (same_stop r.stop q.stop i.0 i.2, i.0, i.1, i.2, i.3, i.4, i.5, i.6, i.7, i.8, i.9, i.10)

pub ran_executable : (m : Machine) (s : List ℕ) (budget : ℕ) (r : Ran) (s' : List ℕ) → CalledRan m s budget r s' → Locked m
    → (a : ℕ) → Executable m.hfi.regions a → get_or s' a 0 ≡ get_or s a 0
ran_executable m s budget r s' e l a x = call_executable m s budget (run_answer r) s' e l a x

pub ran_keeps : (m : Machine) (s : List ℕ) (budget : ℕ) (r : Ran) (s' : List ℕ) → CalledRan m s budget r s' → Locked m
    → settings r.machine ≡ settings m
ran_keeps m s budget r s' e l = call_keeps m s budget (run_answer r) s' e l

pub ran_count : (m : Machine) (s : List ℕ) (budget : ℕ) (r : Ran) (s' : List ℕ) → CalledRan m s budget r s' → r.count ≤ budget
ran_count m s budget r s' e = call_count m s budget (run_answer r) s' e
