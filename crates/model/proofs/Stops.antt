-- No stop, no refusal of a call and no broken rule has the number 0, which a completed step answers; and a stop's number and address tell it, so that
-- a contract or a theorem on the documents' number and address speaks of the stop itself.
-- Assumes nothing.
use Rattle.std.proofs.Common.{◌≡◌, ℕ, false, eqb, cond, Result, Ok, Err, [], ◌∷◌, refl, sym, ap, ap₂, ◌∙◌}
use Rattle.std.specs.Prelude.{⊤}
use borrow.Author.Tests.{eqb-false}
use Rattle.instructions.specs.Table.{lookup}
use Rattle.model.specs.Stops.{call_refusal_number, number_of_rule, stop_number, stop_address, number_of, address_of}
use Rattle.model.specs.Outcome.{StepAnswer, step_answer}
use Rattle.model.specs.Run.{RunAnswer, run_answer}
use Rattle.model.specs.declared.Stepped.{Stepped}
use Rattle.model.specs.declared.Ran.{Ran}
use Rattle.model.specs.declared.stop.CallRefusal.{CallRefusal}
use Rattle.model.specs.declared.stop.CallRefusal.TheVariants.{MemoryTooLong, NotWellFormed, WritableCode}
use Rattle.model.specs.declared.stop.Rule.{Rule}
use Rattle.model.specs.declared.stop.Rule.TheVariants.{Operand, WritableCode as EntersWritableCode, AlreadyInside, NotInside, Locked}
use Rattle.model.specs.declared.stop.Stop.{Stop}
use Rattle.model.specs.declared.stop.Stop.TheVariants.{CallRefused, BudgetTooLarge, OddPc, FetchRefused, FetchAbsent, IllegalWord, Broken, OddTarget, AccessRefused, AccessAbsent, SystemCall, Breakpoint, LeftSandbox, OutOfBudget}

pub call_refusal_stops : (r : CallRefusal) → eqb (call_refusal_number r) 0 ≡ false
call_refusal_stops MemoryTooLong = refl
call_refusal_stops NotWellFormed = refl
call_refusal_stops WritableCode = refl

pub rule_stops : (r : Rule) → eqb (number_of_rule r) 0 ≡ false
rule_stops Operand = refl
rule_stops EntersWritableCode = refl
rule_stops AlreadyInside = refl
rule_stops NotInside = refl
rule_stops Locked = refl

pub stops : (s : Stop) → eqb (stop_number s) 0 ≡ false
stops (CallRefused refusal) = call_refusal_stops refusal
stops BudgetTooLarge = refl
stops OddPc = refl
stops FetchRefused = refl
stops (FetchAbsent at) = refl
stops IllegalWord = refl
stops (Broken rule) = rule_stops rule
stops OddTarget = refl
stops AccessRefused = refl
stops (AccessAbsent at) = refl
stops SystemCall = refl
stops Breakpoint = refl
stops LeftSandbox = refl
stops OutOfBudget = refl

pub stop_never_zero : (s : Stop) → stop_number s ≡ 0 → ⊥
stop_never_zero s = eqb-false (stop_number s) 0 (stops s)

-- ---- the number and the address tell the stop

-- the stop of a number; of one that no stop has, whatever one
abbrev told : ℕ → ℕ → Stop
told number at =
    lookup OutOfBudget (
    (1, CallRefused MemoryTooLong) ∷ (2, BudgetTooLarge) ∷ (3, CallRefused NotWellFormed) ∷ (4, CallRefused WritableCode)
    ∷ (10, OddPc) ∷ (11, FetchRefused) ∷ (12, FetchAbsent at) ∷ (13, IllegalWord)
    ∷ (14, Broken Operand) ∷ (22, Broken EntersWritableCode) ∷ (23, Broken AlreadyInside) ∷ (24, Broken NotInside) ∷ (25, Broken Locked)
    ∷ (15, OddTarget) ∷ (16, AccessRefused) ∷ (17, AccessAbsent at)
    ∷ (18, SystemCall) ∷ (19, Breakpoint) ∷ (20, LeftSandbox) ∷ (21, OutOfBudget) ∷ []
    ) number

tells : (s : Stop) → told (stop_number s) (stop_address s) ≡ s
tells (CallRefused MemoryTooLong) = refl
tells (CallRefused NotWellFormed) = refl
tells (CallRefused WritableCode) = refl
tells BudgetTooLarge = refl
tells OddPc = refl
tells FetchRefused = refl
tells (FetchAbsent at) = refl
tells IllegalWord = refl
tells (Broken Operand) = refl
tells (Broken EntersWritableCode) = refl
tells (Broken AlreadyInside) = refl
tells (Broken NotInside) = refl
tells (Broken Locked) = refl
tells OddTarget = refl
tells AccessRefused = refl
tells (AccessAbsent at) = refl
tells SystemCall = refl
tells Breakpoint = refl
tells LeftSandbox = refl
tells OutOfBudget = refl

pub same_stop : (s t : Stop) → stop_number s ≡ stop_number t → stop_address s ≡ stop_address t → s ≡ t
same_stop s t e f = sym (tells s) ∙ (ap₂ told e f ∙ tells t)

-- of a step that completed or stopped
abbrev told_of : ℕ → ℕ → Result ⊤ Stop
told_of number at = cond (eqb number 0) (Ok tt) (Err (told number at))

tells_of : (r : Result ⊤ Stop) → told_of (number_of r) (address_of r) ≡ r
tells_of (Ok tt) = refl
tells_of (Err s) = rw (stops s) (ap Err (tells s))

pub same_end : (r q : Result ⊤ Stop) → number_of r ≡ number_of q → address_of r ≡ address_of q → r ≡ q
same_end r q e f = sym (tells_of r) ∙ (ap₂ told_of e f ∙ tells_of q)

-- so what a step or a run answers is, whole, what its contract says
pub same_step : (r q : Stepped) → step_answer r ≡ step_answer q → r ≡ q
same_step r q e =
    let s = same_end r.stop q.stop (ap (λ (a : StepAnswer). a.stop) e) (ap (λ (a : StepAnswer). a.address) e) in
    let m = ap (λ (a : StepAnswer). a.machine) e in
    λ i. record { stop = s i; machine = m i }

pub same_run : (r q : Ran) → run_answer r ≡ run_answer q → r ≡ q
same_run r q e =
    let s = same_stop r.stop q.stop (ap (λ (a : RunAnswer). a.stop) e) (ap (λ (a : RunAnswer). a.address) e) in
    let n = ap (λ (a : RunAnswer). a.count) e in
    let m = ap (λ (a : RunAnswer). a.machine) e in
    λ i. record { stop = s i; count = n i; machine = m i }
