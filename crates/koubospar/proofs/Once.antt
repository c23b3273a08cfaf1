-- A run of one step is the step: what the run answers for a completed step, 20 or 21, is put back to 0.
-- Assumes nothing.
use mathlib.Core.Path.{◌≡◌, refl, sym, ap, ◌∙◌}
use mathlib.Core.Bool.{Bool, true, false, cond, not, ◌&&◌}
use mathlib.Core.List.{List}
use Prim.Native.Nat.{ℕ}
use lib.Dec.{eqb, ltb}
use lib.ListN.{length}
use borrow.Author.Tests.{eqb-true}
use Rattle.model.specs.Machine.{inside}
use Rattle.model.specs.Outcome.{Outcome, stopped, stepped_with}
use Rattle.model.specs.WellFormed.{well_formed}
use Rattle.model.specs.WritableCode.{exposes_code}
use Rattle.model.specs.Step.{step, longest, step_call}
use Rattle.model.specs.Run.{Ended, ended, ran_with, run_by, run, run_call}
use Rattle.model.specs.declared.Machine.{Machine}
use Rattle.model.specs.Run.{RunAnswer}
use Rattle.model.proofs.Runs.{no_address}
use Rattle.koubospar.specs.Single.{as_step}

abbrev as_outcome : Ended → Outcome
as_outcome e = stepped_with (as_step e.result) e.memory

one : (o : Outcome) (b c : Bool) → eqb o.result.stop 0 ≡ b → (o.result.stop ≡ 0 → o.result.address ≡ 0)
    → as_outcome (cond b (cond c (ended 20 1 0 o.result.machine o.memory) (ended 21 1 0 o.result.machine o.memory))
    (ended o.result.stop 0 o.result.address o.result.machine o.memory))
    ≡ o
one o true true t p =
    let e = eqb-true o.result.stop 0 t in
    λ i. record { result = record { stop = sym e i; address = sym (p e) i; machine = o.result.machine }; memory = o.memory }
one o true false t p =
    let e = eqb-true o.result.stop 0 t in
    λ i. record { result = record { stop = sym e i; address = sym (p e) i; machine = o.result.machine }; memory = o.memory }
one o false c t p = refl

run_once : (began : Bool) (m : Machine) (mem : List ℕ) → as_outcome (run began 1 0 m mem) ≡ step m mem
unfolding run_by
run_once began m mem =
    let o = step m mem in
    one o (eqb o.result.stop 0) (began && not (inside o.result.machine.hfi)) refl (no_address m mem)

call_once : (m : Machine) (mem : List ℕ) → as_outcome (run_call m mem 1) ≡ step_call m mem
unfolding run_call step_call
call_once m mem =
    go (ltb longest (length mem)) (well_formed m) (exposes_code m.hfi) (run (inside m.hfi) 1 0 m mem) (step m mem) (run_once (inside m.hfi) m mem)
  where
    go : (a b c : Bool) (r : Ended) (o : Outcome) → as_outcome r ≡ o
        → as_outcome (cond a (ended 1 0 0 m mem) (cond b (cond c (ended 4 0 0 m mem) r) (ended 3 0 0 m mem)))
        ≡ cond a (stopped 1 m mem) (cond b (cond c (stopped 4 m mem) o) (stopped 3 m mem))
    go true b c r o e = refl
    go false true true r o e = refl
    go false true false r o e = e
    go false false c r o e = refl

-- so the answer of a run with budget 1 is, as a step's, the step's
pub single : (m : Machine) (mem : List ℕ) (r : RunAnswer) (s : List ℕ) → ran_with r s ≡ run_call m mem 1 → stepped_with (as_step r) s ≡ step_call m mem
single m mem r s e = ap as_outcome e ∙ call_once m mem
