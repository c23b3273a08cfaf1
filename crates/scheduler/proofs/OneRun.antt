-- What a turn and a put are, in the document's words and without took_turn, advanced and set: one run of one slot's machine, or nothing; and a machine
-- in one slot.
-- Assumes nothing.
use mathlib.Core.Path.{◌≡◌, refl, ap, sym, ◌∙◌}
use mathlib.Core.Bool.{Bool, true, false, false≢true}
use borrow.Author.Tests.{eqb-false, eq-eqb, ne_eqb}
use lib.Dec.{eqb}
use mathlib.Core.List.{List}
use Prim.Native.Nat.{ℕ, ◌-◌, ◌<◌, ◌≤◌}
use native.Mathlib.Omega.{arith}
use lib.ListN.{length}
use Rattle.model.specs.Run.{run_call}
use Rattle.model.specs.declared.Machine.{Machine}
use Rattle.scheduler.specs.Turn.{most_slots, within, slot, stopped, place_in, next_slot, refusal, Left, turned_with, no_turn, turn_call, put_call}
use Rattle.scheduler.specs.declared.Slot.{Slot}
use Rattle.scheduler.specs.declared.Scheduler.{Scheduler}
use Rattle.scheduler.specs.Turn.{PutAnswer}
use Rattle.scheduler.proofs.Round.{Numbered, first_found, distance_below, place_numbered, numbered_within}
use Rattle.scheduler.proofs.Turn.{Took, Turn, turn_is, turn_runs}
use Rattle.scheduler.proofs.Turn.Turn.{none, took}
use Rattle.scheduler.proofs.Apartness.{there, slot_same, slot_other}

-- "A turn is one run, with the allowance as its budget": slot n's; "It answers the deck and its run's stop, count and address."
pub record OneRun (s : Scheduler) (mem : List ℕ) (allowance n : ℕ) (l : Left) : Type 0 where
  pub numbered : Numbered s.count n
  pub unstopped : stopped (slot s.slots n) ≡ false
  pub stop : l.result.stop ≡ (run_call (slot s.slots n).machine mem allowance).result.stop
  pub count : l.result.count ≡ (run_call (slot s.slots n).machine mem allowance).result.count
  pub address : l.result.address ≡ (run_call (slot s.slots n).machine mem allowance).result.address
  pub machine : (slot l.result.scheduler.slots n).machine ≡ (run_call (slot s.slots n).machine mem allowance).result.machine
  pub kept : (slot l.result.scheduler.slots n).stop ≡ (run_call (slot s.slots n).machine mem allowance).result.stop
  pub memory : l.memory ≡ (run_call (slot s.slots n).machine mem allowance).memory
  -- of the other slots, those above the count too, nothing has changed
  pub others : (k : ℕ) → 1 ≤ k → (n ≡ k → ⊥) → slot l.result.scheduler.slots k ≡ slot s.slots k
  pub counted : l.result.scheduler.count ≡ s.count

pub one_run : (s : Scheduler) (mem : List ℕ) (allowance n : ℕ) → 1 ≤ n → (turn_call s mem allowance).result.slot ≡ n → OneRun s mem allowance n (turn_call s mem allowance)
one_run s mem allowance n low e = go (turn_is s mem allowance)
  where
    go : Turn s mem allowance → OneRun s mem allowance n (turn_call s mem allowance)
    go (none stop i) = let z = ap (λ (l : Left). l.result.slot) i in absurd (omega (arith, z, e, low))
    go (took k t) =
        let same : k ≡ n = sym (ap (λ (l : Left). l.result.slot) t.left) ∙ e in
        rw (sym same) (of k t)
      where
        of : (k : ℕ) → Took s mem allowance k → OneRun s mem allowance k (turn_call s mem allowance)
        of k t =
            let d : Slot = let e = run_call (slot s.slots k).machine mem allowance in record { machine = e.result.machine; stop = e.result.stop } in
            let own = ap (λ (l : Left). slot l.result.scheduler.slots k) t.left ∙ slot_same s.slots k d (there s.slots k t.ready) in
            record {
              numbered = t.numbered;
              unstopped = t.unstopped;
              stop = ap (λ (l : Left). l.result.stop) t.left;
              count = ap (λ (l : Left). l.result.count) t.left;
              address = ap (λ (l : Left). l.result.address) t.left;
              machine = ap (λ (c : Slot). c.machine) own;
              kept = ap (λ (c : Slot). c.stop) own;
              memory = ap (λ (l : Left). l.memory) t.left;
              others = λ j l ne. ap (λ (l : Left). slot l.result.scheduler.slots j) t.left ∙ slot_other s.slots k j d t.numbered.low l ne;
              counted = ap (λ (l : Left). l.result.scheduler.count) t.left;
            }

-- where no run is made, nothing has changed, and count and address are 0
pub no_run : (s : Scheduler) (mem : List ℕ) (allowance : ℕ) → (turn_call s mem allowance).result.slot ≡ 0
    → turn_call s mem allowance ≡ turned_with (record { slot = 0; stop = (turn_call s mem allowance).result.stop; count = 0; address = 0; scheduler = s }) mem
no_run s mem allowance e = go (turn_is s mem allowance)
  where
    go : Turn s mem allowance → turn_call s mem allowance ≡ turned_with (record { slot = 0; stop = (turn_call s mem allowance).result.stop; count = 0; address = 0; scheduler = s }) mem
    go (none stop i) = i ∙ ap (λ x. turned_with (no_turn x s) mem) (sym (ap (λ (l : Left). l.result.stop) i))
    go (took k t) = let z = ap (λ (l : Left). l.result.slot) t.left in let low = t.numbered.low in absurd (omega (arith, z, e, low))

-- and a turn that is not refused is some slot's, if one is not stopped: no turn is idle while a slot waits
pub no_idle : (s : Scheduler) (mem : List ℕ) (allowance n : ℕ) → refusal s (length mem) allowance ≡ 0 → 1 ≤ n → n ≤ s.count → stopped (slot s.slots n) ≡ false
    → (turn_call s mem allowance).result.slot ≡ 0 → ⊥
no_idle s mem allowance n r low high u e =
    let p : Numbered s.count n = record { low = low; high = high } in
    let m = place_numbered s.count s.place (omega (arith, low, high)) in
    let f = first_found s.slots s.count s.count (place_in s.count s.place) n m p u (distance_below s.count (place_in s.count s.place) n m p) in
    let one = f.numbered.low in
    let t = turn_runs s mem allowance (next_slot s) r refl (λ z. omega (arith, z, one)) in
    let z = ap (λ (l : Left). l.result.slot) t in
    omega (arith, z, e, one)

-- "With all decks stopped a turn makes no run, changes nothing and answers 0 for deck, stop, count and address."
pub all_stopped_lem : (s : Scheduler) (mem : List ℕ) (allowance : ℕ) → refusal s (length mem) allowance ≡ 0
    → ((n : ℕ) → 1 ≤ n → n ≤ s.count → stopped (slot s.slots n) ≡ true)
    → turn_call s mem allowance ≡ turned_with (record { slot = 0; stop = 0; count = 0; address = 0; scheduler = s }) mem
unfolding turn_call
all_stopped_lem s mem allowance r all = go (eqb (next_slot s) 0) refl
  where
    go : (b : Bool) → eqb (next_slot s) 0 ≡ b → turn_call s mem allowance ≡ turned_with (record { slot = 0; stop = 0; count = 0; address = 0; scheduler = s }) mem
    go true f = rw (eq-eqb _ 0 r, f) refl
    go false f = taken (turn_is s mem allowance) (ap (λ (l : Left). l.result.slot) (turn_runs s mem allowance (next_slot s) r refl (eqb-false _ 0 f)))
      where
        taken : Turn s mem allowance → (turn_call s mem allowance).result.slot ≡ next_slot s
            → turn_call s mem allowance ≡ turned_with (record { slot = 0; stop = 0; count = 0; address = 0; scheduler = s }) mem
        taken (none stop i) z = absurd (eqb-false _ 0 f (sym z ∙ ap (λ (l : Left). l.result.slot) i))
        taken (took n t) z = absurd (false≢true (sym t.unstopped ∙ all n t.numbered.low t.numbered.high))

-- what is refused changes nothing, and is told
pub refused_turn : (s : Scheduler) (mem : List ℕ) (allowance : ℕ) → (refusal s (length mem) allowance ≡ 0 → ⊥)
    → turn_call s mem allowance ≡ turned_with (record { slot = 0; stop = refusal s (length mem) allowance; count = 0; address = 0; scheduler = s }) mem
unfolding turn_call
refused_turn s mem allowance r = rw (ne_eqb _ 0 r) refl

-- ---- "until the main loop puts a machine there again"

pub record PutThere (s : Scheduler) (n : ℕ) (m : Machine) (p : PutAnswer) : Type 0 where
  pub done : p.done ≡ true
  pub own : n - 1 < length s.slots → slot p.scheduler.slots n ≡ record { machine = m; stop = 0 }
  pub others : (k : ℕ) → 1 ≤ k → (n ≡ k → ⊥) → slot p.scheduler.slots k ≡ slot s.slots k
  pub count : p.scheduler.count ≡ s.count
  pub place : p.scheduler.place ≡ s.place
  pub total : p.scheduler.total ≡ s.total

pub put_there : (s : Scheduler) (n : ℕ) (m : Machine) → 1 ≤ n → n ≤ most_slots → PutThere s n m (put_call s n m)
unfolding put_call
put_there s n m low high =
    rw (numbered_within most_slots n (record { low = low; high = high })) (record {
      done = refl;
      own = slot_same s.slots n (record { machine = m; stop = 0 });
      others = λ k l ne. slot_other s.slots n k (record { machine = m; stop = 0 }) low l ne;
      count = refl;
      place = refl;
      total = refl;
    })

pub put_nowhere : (s : Scheduler) (n : ℕ) (m : Machine) → within most_slots n ≡ false → put_call s n m ≡ record { done = false; scheduler = s }
unfolding put_call
put_nowhere s n m w = rw w refl
