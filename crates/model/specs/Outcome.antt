-- What a step answers, and the memory that it leaves.
-- Machine and Stepped are declared in src/lib.rt, Denied and Stop in src/stop.rt. Assumes nothing.
use Rattle.std.specs.Prelude.{cond, List, ℕ, ◌%◌, eqb, Result, Ok, Err, ⊤}
use Rattle.model.specs.Machine.{set_reg, with_fault, machine}
use Rattle.model.specs.declared.Machine.{Machine}
use Rattle.model.specs.Access.{Verdict}
use Rattle.model.specs.declared.stop.Denied.TheVariants.{Refused, Absent}
use Rattle.model.specs.Stops.{number_of, address_of}
use Rattle.model.specs.declared.stop.Stop.{Stop}
use Rattle.model.specs.declared.Stepped.{Stepped}

-- the documents' number (0 for a completed step), the absent address of 12 and 17, and the machine
pub record StepAnswer : Type 0 where
  pub stop : ℕ
  pub address : ℕ
  pub machine : Machine

pub record Outcome : Type 0 where
  pub result : StepAnswer
  pub memory : List ℕ

abbrev pub outcome : ℕ → ℕ → Machine → List ℕ → Outcome
outcome stop address m mem = record { result = record { stop = stop; address = address; machine = m }; memory = mem }

-- what the code answers, by the documents' number and address of its stop
abbrev pub answer_of : Result ⊤ Stop → Machine → StepAnswer
answer_of r m = record { stop = number_of r; address = address_of r; machine = m }

abbrev pub step_answer : Stepped → StepAnswer
step_answer r = answer_of r.stop r.machine

-- the answer of a call, and the memory after it
abbrev pub stepped_with : StepAnswer → List ℕ → Outcome
stepped_with r mem = record { result = r; memory = mem }

-- "A completed step answers 0"
abbrev pub completed : Machine → List ℕ → Outcome
completed m mem = outcome 0 0 m mem

-- "For 10 to 19 the stopping step isn't counted and changes nothing"; "22 what 14 leaves" (02, Job 5), as 23 to 25 do: "Nothing else about these
-- stops changes" (02, Job 6); "12 and 17 also give the first absent address .. all others give 0 there"
abbrev pub stopped : ℕ → Machine → List ℕ → Outcome
stopped stop m mem = outcome stop 0 m mem

-- the machine with v in rd, and pc after the instruction
abbrev pub assigned : Machine → ℕ → ℕ → ℕ → Machine
assigned m next rd v = machine (set_reg m.x rd v) next m.hfi

-- the machine as it was, but for pc
abbrev pub with_pc : Machine → ℕ → Machine
with_pc m next = machine m.x next m.hfi

-- ---- questions that lead to a stop, or to the rest of the step

-- "8. Does HFI allow it?", by the number that its rules give (Hfi.antt): 0 where HFI allows the instruction
unfoldable pub allowed : Machine → List ℕ → ℕ → Outcome → Outcome
allowed m mem stop rest = cond (eqb stop 0) rest (stopped stop m mem)

-- "9. Is the target of .. an enter with jump a multiple of" 2? "No: 15." "15 remains only for the target of an enter with jump, which must be
-- a multiple of 2" (02, Job 8)
unfoldable pub aligned : Machine → List ℕ → ℕ → Outcome → Outcome
aligned m mem target rest = cond (eqb (target % 2) 0) rest (stopped 15 m mem)

-- "11 and 16 write the fault record"
abbrev pub faulted : Machine → ℕ → ℕ → ℕ → Machine
faulted m op at region =
    machine m.x m.pc (with_fault m.hfi (record { occurred = 1; region = region; op = op; address = at }))

-- questions 5 and 6, or 10 and 11, by the verdict on the access: the number `refused`, or the number `absent` with its address
unfoldable pub settle : Machine → List ℕ → ℕ → ℕ → ℕ → Verdict → Outcome → Outcome
settle m mem op refused absent (Err (Refused at region)) rest = stopped refused (faulted m op at region) mem
settle m mem op refused absent (Err (Absent at)) rest = outcome absent at m mem
settle m mem op refused absent (Ok tt) rest = rest
