-- Laws of one turn: what is asked of the slots, and that a turn either changes nothing or is one run of one slot.
-- Assumes nothing.
use mathlib.Core.Path.{◌≡◌, refl, ap, sym, ◌∙◌}
use mathlib.Core.Bool.{Bool, true, false, cond}
use mathlib.Core.List.{List}
use Prim.Native.Nat.{ℕ, zero, suc, ◌+◌, ◌-◌, ◌<◌, ◌≤◌}
use native.Mathlib.Omega.{arith}
use lib.Dec.{eqb, ltb}
use lib.ListN.{length}
use borrow.Author.Tests.{eqb-true, eqb-false, ne_eqb, eq-eqb}
use Rattle.model.specs.Machine.{locked}
use Rattle.model.specs.WellFormed.{well_formed}
use Rattle.model.specs.WritableCode.{exposes_code}
use Rattle.model.specs.Step.{longest}
use Rattle.model.specs.Run.{run_call}
use Rattle.scheduler.specs.Turn.{most_slots, largest_allowance, within, slot, stopped, place_in, next_slot, slot_refusal, slots_refusal, refusal, turned_with, no_turn, took_turn, turn_call}
use Rattle.scheduler.specs.declared.Slot.{Slot}
use Rattle.scheduler.specs.declared.Scheduler.{Scheduler}
use Rattle.scheduler.proofs.Round.{Numbered, within_numbered, place_numbered, found_unstopped}

-- ---- one slot

-- what is asked of a slot that is not stopped, answered yes
pub record Ready (d : Slot) : Type 0 where
  pub formed : well_formed d.machine ≡ true
  pub unexposed : exposes_code d.machine.hfi ≡ false
  pub lock : locked d.machine.hfi ≡ true

pub slot_ready : (d : Slot) → stopped d ≡ false → slot_refusal d ≡ 0 → Ready d
unfolding slot_refusal
slot_ready d u e = go (well_formed d.machine) (exposes_code d.machine.hfi) (locked d.machine.hfi) refl refl refl (rw u at e)
  where
    go : (a b c : Bool) → well_formed d.machine ≡ a → exposes_code d.machine.hfi ≡ b → locked d.machine.hfi ≡ c
        → ◌≡◌ {A = ℕ} (cond a (cond b 4 (cond c 0 52)) 3) 0 → Ready d
    go true false true f x l e = record { formed = f; unexposed = x; lock = l }
    go true false false f x l e = absurd (omega (arith, e))
    go true true c f x l e = absurd (omega (arith, e))
    go false b c f x l e = absurd (omega (arith, e))

pub ready_slot : (d : Slot) → stopped d ≡ false → Ready d → slot_refusal d ≡ 0
unfolding slot_refusal
ready_slot d u r = rw (u, r.formed, r.unexposed, r.lock) refl

-- ---- the slots, for the loop and for the turn

pub slots_none : (ds : List Slot) (k n : ℕ) → k ≤ 0 → slots_refusal ds k n ≡ 0
unfolding slots_refusal
slots_none ds k n h = let e : k ≡ 0 = omega arith in rw e refl

pub slots_here : (ds : List Slot) (k n : ℕ) → 0 < k → (slot_refusal (slot ds n) ≡ 0 → ⊥) → slots_refusal ds k n ≡ slot_refusal (slot ds n)
unfolding slots_refusal
slots_here ds k n h r = let e : k ≡ suc (k - 1) = omega arith in ap (λ i. slots_refusal ds i n) e ∙ rw (ne_eqb _ _ r) refl

pub slots_on : (ds : List Slot) (k n : ℕ) → 0 < k → slot_refusal (slot ds n) ≡ 0 → slots_refusal ds k n ≡ slots_refusal ds (k - 1) (n + 1)
unfolding slots_refusal
slots_on ds k n h r =
    let e : k ≡ suc (k - 1) = omega arith in
    let t : n + 1 ≡ suc n = omega arith in
    ap (λ i. slots_refusal ds i n) e ∙ rw (eq-eqb _ _ r, t) refl

-- where none of them is refused, each one passes
pub slots_each : (ds : List Slot) (k n i : ℕ) → slots_refusal ds k n ≡ 0 → n ≤ i → i < n + k → slot_refusal (slot ds i) ≡ 0
unfolding slots_refusal
slots_each ds zero n i e l h = absurd (omega (arith, l, h))
slots_each ds (suc k) n i e l h = go (eqb (slot_refusal (slot ds n)) 0) refl e (slots_each ds k (suc n) i)
  where
    go : (b : Bool) → eqb (slot_refusal (slot ds n)) 0 ≡ b → cond b (slots_refusal ds k (suc n)) (slot_refusal (slot ds n)) ≡ 0
        → (slots_refusal ds k (suc n) ≡ 0 → suc n ≤ i → i < suc n + k → slot_refusal (slot ds i) ≡ 0) → slot_refusal (slot ds i) ≡ 0
    go false q f later = absurd (eqb-false _ 0 q f)
    go true q f later = here (eqb n i) refl
      where
        here : (c : Bool) → eqb n i ≡ c → slot_refusal (slot ds i) ≡ 0
        here true s = rw (sym (eqb-true n i s)) (eqb-true _ 0 q)
        here false s = let z = eqb-false n i s in later f (omega (arith, l, z)) (omega (arith, h))

-- ---- the questions of a turn

pub record Accepted (s : Scheduler) (size allowance : ℕ) : Type 0 where
  pub short : ltb longest size ≡ false
  pub count : within most_slots s.count ≡ true
  pub allowed : within largest_allowance allowance ≡ true
  pub slots : slots_refusal s.slots s.count 1 ≡ 0

pub accepted : (s : Scheduler) (size allowance : ℕ) → refusal s size allowance ≡ 0 → Accepted s size allowance
unfolding refusal
accepted s size allowance e = go (ltb longest size) (within most_slots s.count) (within largest_allowance allowance) refl refl refl e
  where
    go : (a b c : Bool) → ltb longest size ≡ a → within most_slots s.count ≡ b → within largest_allowance allowance ≡ c
        → cond a 1 (cond b (cond c (slots_refusal s.slots s.count 1) 51) 50) ≡ 0 → Accepted s size allowance
    go true b c f g h e = absurd (omega (arith, e))
    go false false c f g h e = absurd (omega (arith, e))
    go false true false f g h e = absurd (omega (arith, e))
    go false true true f g h e = record { short = f; count = g; allowed = h; slots = e }

pub accepting : (s : Scheduler) (size allowance : ℕ) → Accepted s size allowance → refusal s size allowance ≡ 0
unfolding refusal
accepting s size allowance a = rw (a.short, a.count, a.allowed) a.slots

-- ---- a turn

-- slot n made a run that answered e: it was asked, and passed
pub record Took (s : Scheduler) (mem : List ℕ) (allowance n : ℕ) : Type 0 where
  pub asked : Accepted s (length mem) allowance
  pub next : next_slot s ≡ n
  pub numbered : Numbered s.count n
  pub unstopped : stopped (slot s.slots n) ≡ false
  pub ready : Ready (slot s.slots n)
  pub left : turn_call s mem allowance ≡ (let e = run_call (slot s.slots n).machine mem allowance in turned_with (took_turn s n e.result) e.memory)

-- a turn makes no run and changes nothing, or is a run of one slot
pub data Turn (s : Scheduler) (mem : List ℕ) (allowance : ℕ) : Type 0 where
  none : (stop : ℕ) → turn_call s mem allowance ≡ turned_with (no_turn stop s) mem → Turn s mem allowance
  took : (n : ℕ) → Took s mem allowance n → Turn s mem allowance

-- where it is asked and passes, the turn is the next slot's
pub turn_runs : (s : Scheduler) (mem : List ℕ) (allowance n : ℕ) → refusal s (length mem) allowance ≡ 0 → next_slot s ≡ n → (n ≡ 0 → ⊥)
    → turn_call s mem allowance ≡ (let e = run_call (slot s.slots n).machine mem allowance in turned_with (took_turn s n e.result) e.memory)
unfolding turn_call
turn_runs s mem allowance n r e z = rw (eq-eqb _ 0 r, e, ne_eqb n 0 z) refl

pub turn_is : (s : Scheduler) (mem : List ℕ) (allowance : ℕ) → Turn s mem allowance
unfolding turn_call
turn_is s mem allowance = go (eqb (refusal s (length mem) allowance) 0) refl (eqb (next_slot s) 0) refl
  where
    taken : eqb (refusal s (length mem) allowance) 0 ≡ true → eqb (next_slot s) 0 ≡ false → Turn s mem allowance
    taken e f =
        let a = accepted s (length mem) allowance (eqb-true _ 0 e) in
        let c = within_numbered most_slots s.count a.count in
        let u = found_unstopped s.slots s.count s.count (place_in s.count s.place) (place_numbered s.count s.place c.low) (eqb-false _ 0 f) in
        let r = slots_each s.slots s.count 1 (next_slot s) a.slots u.0.low (let h = u.0.high in omega (arith, h)) in
        Turn.took (next_slot s) (record {
          asked = a;
          next = refl;
          numbered = u.0;
          unstopped = u.1;
          ready = slot_ready _ u.1 r;
          left = rw (e, f) refl;
        })

    go : (b : Bool) → eqb (refusal s (length mem) allowance) 0 ≡ b → (c : Bool) → eqb (next_slot s) 0 ≡ c → Turn s mem allowance
    go true e false f = taken e f
    go true e true f = Turn.none 0 (rw (e, f) refl)
    go false e c f = Turn.none (refusal s (length mem) allowance) (rw e refl)
