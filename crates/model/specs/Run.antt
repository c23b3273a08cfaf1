-- A run: steps until one of the documents' questions stops it.
-- Machine and Ran are declared in src/lib.rt, Outcome in Outcome.antt. Assumes nothing.
use Rattle.std.specs.Prelude.{Bool, cond, not, ◌&&◌, List, ℕ, zero, suc, eqb, ltb, length}
use Rattle.model.specs.Machine.{inside}
use Rattle.model.specs.WellFormed.{well_formed}
use Rattle.model.specs.WritableCode.{exposes_code}
use Rattle.model.specs.Outcome.{Outcome}
use Rattle.model.specs.Step.{step, longest}
use Rattle.model.specs.declared.Machine.{Machine}
use Rattle.model.specs.Stops.{stop_number, stop_address}
use Rattle.model.specs.declared.Ran.{Ran}

-- the documents' number, the count of completed steps, the absent address of 12 and 17, and the machine
pub record RunAnswer : Type 0 where
  pub stop : ℕ
  pub count : ℕ
  pub address : ℕ
  pub machine : Machine

-- what the code answers, by the documents' number and address of its stop
abbrev pub run_answer : Ran → RunAnswer
run_answer r = record { stop = stop_number r.stop; count = r.count; address = stop_address r.stop; machine = r.machine }

-- what a run answers, and the memory that it leaves
pub record Ended : Type 0 where
  pub result : RunAnswer
  pub memory : List ℕ

abbrev pub ended : ℕ → ℕ → ℕ → Machine → List ℕ → Ended
ended stop count address m mem =
    record { result = record { stop = stop; count = count; address = address; machine = m }; memory = mem }

-- the answer of a call, and the memory after it
abbrev pub ran_with : RunAnswer → List ℕ → Ended
ran_with r mem = record { result = r; memory = mem }

-- with a budget of `remaining` steps still, after `count` completed steps of a run that began in HFI mode or not.
-- "Before each step of a run: does the budget have a step left? No: 21." "After a step of a run that began in HFI mode: is the
-- mode still on? No: 20." "For 10 to 19 the stopping step isn't counted .. 20 counts its step." So for 22 to 25: "22 what 14 leaves", "Nothing else about
-- these stops changes" (02, Jobs 5 and 6). "A step leaves the sandbox when mode is 1 before it and 0 after it; a run that began in HFI mode ends there
-- with 20."
-- `one` makes a step: the step itself or, which makes the same run (proofs/Runs.antt), the step call
unfoldable pub run_by : (Machine → List ℕ → Outcome) → Bool → ℕ → ℕ → Machine → List ℕ → Ended
run_by one began zero count m mem = ended 21 count 0 m mem
run_by one began (suc remaining) count m mem =
    let o = one m mem in
    let goes_on = run_by one began remaining (suc count) o.result.machine o.memory in
    cond (eqb o.result.stop 0)
    (cond (began && not (inside o.result.machine.hfi)) (ended 20 (suc count) 0 o.result.machine o.memory) goes_on)
    (ended o.result.stop count o.result.address o.result.machine o.memory)

abbrev pub run : Bool → ℕ → ℕ → Machine → List ℕ → Ended
run = run_by step

-- "2. (Run) Is the budget at most 1,000,000? No: 2."
abbrev pub largest_budget : ℕ
largest_budget = 1000000

-- questions 1, 2, "3. Is the machine well formed? No: 3." and "4, for a step or run given such a machine in locked HFI mode,
-- asked after 3" (02, Job 5), once, before the first step: it cannot arise later (proofs/Runs.antt); then the run. "For 1 to 3 nothing
-- changes and the count is 0."; "4 leaves what 3 leaves, count 0"
unfoldable pub run_call : Machine → List ℕ → ℕ → Ended
run_call m mem budget =
    cond (ltb longest (length mem)) (ended 1 0 0 m mem)
    (cond (ltb largest_budget budget) (ended 2 0 0 m mem)
    (cond (well_formed m) (cond (exposes_code m.hfi) (ended 4 0 0 m mem) (run (inside m.hfi) budget 0 m mem)) (ended 3 0 0 m mem)))
