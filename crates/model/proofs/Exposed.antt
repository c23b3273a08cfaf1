-- Document 02, Job 5, "Refused: 4 ..": which machines a step or run refuses with 4, both ways and in the document's words; and that 4 cannot arise
-- inside a run that began without it. Which words stop with 22 is in Broken.antt.
-- Assumes nothing.
use mathlib.Core.Path.{◌≡◌, refl}
use mathlib.Core.Bool.{Bool, true, false, cond}
use mathlib.Core.List.{List}
use Prim.Native.Nat.{ℕ, ◌<◌, ◌≤◌}
use native.Mathlib.Omega.{arith}
use lib.Dec.{ltb}
use lib.ListN.{length}
use borrow.Author.Tests.{ltb-false, lt-ltb, le-ltb}
use Rattle.std.proofs.lemmas.Bool.{both_ways, and_parts}
use Rattle.model.specs.Machine.{inside, locked}
use Rattle.model.specs.WellFormed.{well_formed}
use Rattle.model.specs.WritableCode.{WritableCode, writable_code, exposes_code}
use Rattle.model.specs.Outcome.{stopped}
use Rattle.model.specs.Step.{step, longest, step_call}
use Rattle.model.specs.Run.{ended, run, run_call, largest_budget}
use Rattle.model.specs.Isolation.{Locked}
use Rattle.model.specs.declared.Machine.{Machine}
use Rattle.model.proofs.WritableCode.{code_tested, tested_code}
use Rattle.model.proofs.Runs.{is_locked, locked_is, run_not_refused, step_not_refused, run_unexposed}

-- ---- the state

-- "With the lock bit set and HFI mode on", and a byte that is both
pub record Exposed (m : Machine) : Type 0 where
  pub lock : Locked m
  pub code : WritableCode m.hfi.regions

pub exposed : (m : Machine) → exposes_code m.hfi ≡ true → Exposed m
unfolding exposes_code
exposed m t =
    let p = and_parts (locked m.hfi) (writable_code m.hfi.regions) t in
    record { lock = locked_is m p.0; code = tested_code m.hfi.regions p.1 }

pub exposes : (m : Machine) → Exposed m → exposes_code m.hfi ≡ true
unfolding exposes_code
exposes m x = rw (is_locked m x.lock) (code_tested m.hfi.regions x.code)

-- ---- "4, for a step or run given such a machine in locked HFI mode, asked after 3"

-- the questions before 4 are answered yes, and a byte is both
pub record Given (m : Machine) (mem : List ℕ) : Type 0 where
  pub short : length mem ≤ longest
  pub formed : well_formed m ≡ true
  pub exposed : Exposed m

pub run_refused : (m : Machine) (mem : List ℕ) (budget : ℕ) → Given m mem → budget ≤ largest_budget → run_call m mem budget ≡ ended 4 0 0 m mem
unfolding run_call
run_refused m mem budget a b = rw (le-ltb longest (length mem) a.short, le-ltb largest_budget budget b, a.formed, exposes m a.exposed) refl

pub step_refused : (m : Machine) (mem : List ℕ) → Given m mem → step_call m mem ≡ stopped 4 m mem
unfolding step_call
step_refused m mem a = rw (le-ltb longest (length mem) a.short, a.formed, exposes m a.exposed) refl

-- and no other step or run answers 4
pub only_run : (m : Machine) (mem : List ℕ) (budget : ℕ) → (run_call m mem budget).result.stop ≡ 4 → Given m mem × (budget ≤ largest_budget)
unfolding run_call
only_run m mem budget q = go (ltb longest (length mem)) (ltb largest_budget budget) (well_formed m) (exposes_code m.hfi) refl refl refl refl q
  where
    go : (a b c d : Bool) → ltb longest (length mem) ≡ a → ltb largest_budget budget ≡ b → well_formed m ≡ c → exposes_code m.hfi ≡ d
        → (cond a (ended 1 0 0 m mem) (cond b (ended 2 0 0 m mem)
        (cond c (cond d (ended 4 0 0 m mem) (run (inside m.hfi) budget 0 m mem)) (ended 3 0 0 m mem)))).result.stop ≡ 4
        → Given m mem × (budget ≤ largest_budget)
    go true b c d l n w x e = absurd (omega (arith, e))
    go false true c d l n w x e = absurd (omega (arith, e))
    go false false false d l n w x e = absurd (omega (arith, e))
    go false false true true l n w x e = (record { short = ltb-false _ _ l; formed = w; exposed = exposed m x }, ltb-false _ _ n)
    go false false true false l n w x e = absurd (run_not_refused (inside m.hfi) budget 0 m mem (omega (arith, e)) (omega (arith, e)))

pub only_step : (m : Machine) (mem : List ℕ) → (step_call m mem).result.stop ≡ 4 → Given m mem
unfolding step_call
only_step m mem q = go (ltb longest (length mem)) (well_formed m) (exposes_code m.hfi) refl refl refl q
  where
    go : (a c d : Bool) → ltb longest (length mem) ≡ a → well_formed m ≡ c → exposes_code m.hfi ≡ d
        → (cond a (stopped 1 m mem) (cond c (cond d (stopped 4 m mem) (step m mem)) (stopped 3 m mem))).result.stop ≡ 4 → Given m mem
    go true c d l w x e = absurd (omega (arith, e))
    go false false d l w x e = absurd (omega (arith, e))
    go false true true l w x e = record { short = ltb-false _ _ l; formed = w; exposed = exposed m x }
    go false true false l w x e = absurd (step_not_refused m mem (omega (arith, e)) (omega (arith, e)))

-- 1 and 3 come before it
pub step_too_long : (m : Machine) (mem : List ℕ) → longest < length mem → step_call m mem ≡ stopped 1 m mem
unfolding step_call
step_too_long m mem l = rw (lt-ltb longest (length mem) l) refl

pub step_unformed : (m : Machine) (mem : List ℕ) → length mem ≤ longest → well_formed m ≡ false → step_call m mem ≡ stopped 3 m mem
unfolding step_call
step_unformed m mem l w = rw (le-ltb longest (length mem) l, w) refl

-- a call that 1 to 4 let pass makes its step, or its run, and adds nothing to it
pub record Comes (m : Machine) (mem : List ℕ) : Type 0 where
  pub short : length mem ≤ longest
  pub formed : well_formed m ≡ true
  pub safe : Exposed m → ⊥

unexposed : (m : Machine) → (Exposed m → ⊥) → exposes_code m.hfi ≡ false
unexposed m n = go (exposes_code m.hfi) refl
  where
    go : (b : Bool) → exposes_code m.hfi ≡ b → exposes_code m.hfi ≡ false
    go true e = absurd (n (exposed m e))
    go false e = e

pub step_made : (m : Machine) (mem : List ℕ) → Comes m mem → step_call m mem ≡ step m mem
unfolding step_call
step_made m mem c = rw (le-ltb longest (length mem) c.short, c.formed, unexposed m c.safe) refl

pub run_made : (m : Machine) (mem : List ℕ) (budget : ℕ) → Comes m mem → budget ≤ largest_budget → run_call m mem budget ≡ run (inside m.hfi) budget 0 m mem
unfolding run_call
run_made m mem budget c b = rw (le-ltb longest (length mem) c.short, le-ltb largest_budget budget b, c.formed, unexposed m c.safe) refl

-- "From then on": 4 cannot arise inside a run that began without it. A run asks it once, and its steps are those of the step call, which asks
-- it every time (run_is_step_calls in Runs.antt); and what a run leaves, after whatever budget, is no such machine
pub never_arises : (m : Machine) (mem : List ℕ) (budget : ℕ) → (Exposed m → ⊥) → Exposed (run_call m mem budget).result.machine → ⊥
never_arises m mem budget n x = go (exposes_code m.hfi) refl
  where
    go : (b : Bool) → exposes_code m.hfi ≡ b → ⊥
    go true e = n (exposed m e)
    go false e = both_ways _ (run_unexposed m mem budget e) (exposes _ x)
