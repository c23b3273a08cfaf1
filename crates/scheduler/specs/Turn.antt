-- One turn of several machines over one memory: document 02, Job 9, whose sentences are quoted. What the document calls a deck
-- is a slot here.
-- Slot, Scheduler, Turned and Refusal are declared in src/lib.rt, Machine in model/src/lib.rt. Assumes nothing.
use Rattle.std.specs.Prelude.{Bool, true, false, cond, not, ◌&&◌, ◌||◌, List, ℕ, zero, suc, ◌-◌, eqb, leb, ltb, length, get_or, set, replicate, Option, Some, None, Result, Ok, Err, ⊤}
use Rattle.model.specs.Machine.{sum, locked, zero_regions}
use Rattle.model.specs.WellFormed.{well_formed}
use Rattle.model.specs.WritableCode.{exposes_code}
use Rattle.model.specs.Step.{longest}
use Rattle.model.specs.Run.{RunAnswer, run_call}
use Rattle.model.specs.declared.Machine.{Machine}
use Rattle.scheduler.specs.declared.Slot.{Slot}
use Rattle.scheduler.specs.declared.Scheduler.{Scheduler}
use Rattle.model.specs.Stops.{call_refusal_number, stop_number, stop_address}
use Rattle.scheduler.specs.declared.Turned.{Turned}
use Rattle.scheduler.specs.declared.Refusal.{Refusal}
use Rattle.scheduler.specs.declared.Refusal.TheVariants.{CallRefused, SlotCount, Allowance, Unlocked}

-- "Take 1 to 4 machines and a step allowance of 1 to 10,000."
abbrev pub most_slots : ℕ
most_slots = 4

abbrev pub largest_allowance : ℕ
largest_allowance = 10000

abbrev pub within : ℕ → ℕ → Bool
within most n = leb 1 n && leb n most

-- ---- slots

-- where there is none: a slot with a machine of zeros, which 52 refuses
abbrev pub no_slot : Slot
no_slot =
    record {
      machine = record {
        x = replicate 32 0;
        pc = 0;
        hfi = record {
          mode = 0;
          reason = 0;
          epc = 0;
          options = 0;
          handler = 0;
          selector = 0;
          regions = zero_regions;
          fault = record { occurred = 0; region = 0; op = 0; address = 0 };
        };
      };
      stop = 0;
    }

-- "Decks are numbered from 1"
abbrev pub slot : List Slot → ℕ → Slot
slot ds n = get_or ds (n - 1) no_slot

-- "A deck that stops with anything but 21 is passed over until the main loop puts a machine there again": its stop is that of
-- its last turn, and 0 before its first
abbrev pub stopped : Slot → Bool
stopped d = not (eqb d.stop 0 || eqb d.stop 21)

-- ---- whose turn it is

-- "the place starts at 1; a place outside the deck count is taken as 1"
abbrev pub place_in : ℕ → ℕ → ℕ
place_in count place = cond (within count place) place 1

-- "the deck after that one, likewise round"
abbrev pub following : ℕ → ℕ → ℕ
following count n = cond (ltb n count) (suc n) 1

-- the first of k slots that is not stopped, from n on and round; 0 if there is none
unfoldable pub first_unstopped : List Slot → ℕ → ℕ → ℕ → ℕ
first_unstopped ds count zero n = 0
first_unstopped ds count (suc k) n = cond (stopped (slot ds n)) (first_unstopped ds count k (following count n)) n

-- "the first deck not stopped, from the place on and round to the first": each of the slots is asked once
abbrev pub next_slot : Scheduler → ℕ
next_slot s = first_unstopped s.slots s.count s.count (place_in s.count s.place)

-- ---- refusals: a number, or 0 for none

-- of the code's refusals: "Refused: 50, the deck count; 51, the allowance; 52, a machine that isn't in locked HFI mode", and 1, 3 and 4
abbrev pub refusal_number : Refusal → ℕ
refusal_number (CallRefused refusal) = call_refusal_number refusal
refusal_number SlotCount = 50
refusal_number Allowance = 51
refusal_number Unlocked = 52

-- 0 where there is none
abbrev pub refused_number : Result ⊤ Refusal → ℕ
refused_number (Ok tt) = 0
refused_number (Err r) = refusal_number r

-- "stopped ones left out, 3, 4, 52": "52, a machine that isn't in locked HFI mode"
unfoldable pub slot_refusal : Slot → ℕ
slot_refusal d =
    cond (stopped d) 0
    (cond (well_formed d.machine) (cond (exposes_code d.machine.hfi) 4 (cond (locked d.machine.hfi) 0 52)) 3)

-- "deck by deck": k slots from n on
unfoldable pub slots_refusal : List Slot → ℕ → ℕ → ℕ
slots_refusal ds zero n = 0
slots_refusal ds (suc k) n = let r = slot_refusal (slot ds n) in cond (eqb r 0) (slots_refusal ds k (suc n)) r

-- "Refused: 50, the deck count; 51, the allowance; .. the order is 1, 50, 51, then deck by deck from 1"
unfoldable pub refusal : Scheduler → ℕ → ℕ → ℕ
refusal s size allowance =
    cond (ltb longest size) 1
    (cond (within most_slots s.count) (cond (within largest_allowance allowance) (slots_refusal s.slots s.count 1) 51) 50)

-- ---- the turn

-- the slot whose turn it was, its run's stop, count and address, and the scheduler
pub record TurnAnswer : Type 0 where
  pub slot : ℕ
  pub stop : ℕ
  pub count : ℕ
  pub address : ℕ
  pub scheduler : Scheduler

-- what a turn answers, and the memory that it leaves
pub record Left : Type 0 where
  pub result : TurnAnswer
  pub memory : List ℕ

-- the answer of a call, and the memory after it
abbrev pub turned_with : TurnAnswer → List ℕ → Left
turned_with r mem = record { result = r; memory = mem }

-- no run is made: "deck, count and address are then 0, and nothing has changed"
abbrev pub no_turn : ℕ → Scheduler → TurnAnswer
no_turn stop s = record { slot = 0; stop = stop; count = 0; address = 0; scheduler = s }

-- "then the place becomes the deck after that one"; "each turn adds its run's count, modulo 2^64"
abbrev pub advanced : Scheduler → ℕ → RunAnswer → Scheduler
advanced s n r =
    record {
      slots = set s.slots (n - 1) (record { machine = r.machine; stop = r.stop });
      count = s.count;
      place = following s.count n;
      total = sum s.total r.count;
    }

-- "It answers the deck and its run's stop, count and address."
abbrev pub took_turn : Scheduler → ℕ → RunAnswer → TurnAnswer
took_turn s n r = record { slot = n; stop = r.stop; count = r.count; address = r.address; scheduler = advanced s n r }

-- "A turn is one run, with the allowance as its budget": the run call of Run.antt. "With all decks stopped a turn makes no run, changes
-- nothing and answers 0 for deck, stop, count and address."
unfoldable pub turn_call : Scheduler → List ℕ → ℕ → Left
turn_call s mem allowance =
    let r = refusal s (length mem) allowance in
    let n = next_slot s in
    let e = run_call (slot s.slots n).machine mem allowance in
    cond (eqb r 0)
    (cond (eqb n 0) (turned_with (no_turn 0 s) mem) (turned_with (took_turn s n e.result) e.memory))
    (turned_with (no_turn r s) mem)

-- what the code answers, and the scheduler after it: a refusal; that all slots are stopped; or the run of a slot
abbrev pub turn_answer : Result (Option Turned) Refusal → Scheduler → TurnAnswer
turn_answer (Err r) s = no_turn (refusal_number r) s
turn_answer (Ok None) s = no_turn 0 s
turn_answer (Ok (Some t)) s = record { slot = t.slot; stop = stop_number t.stop; count = t.count; address = stop_address t.stop; scheduler = s }

-- ---- "until the main loop puts a machine there again"

-- whether it was put there, and the scheduler
pub record PutAnswer : Type 0 where
  pub done : Bool
  pub scheduler : Scheduler

abbrev pub put_answer : Bool → Scheduler → PutAnswer
put_answer done s = record { done = done; scheduler = s }

-- into slot n, which then has had no turn; a number that no slot has changes nothing
unfoldable pub put_call : Scheduler → ℕ → Machine → PutAnswer
put_call s n m =
    cond (within most_slots n)
    (record {
      done = true;
      scheduler = record {
        slots = set s.slots (n - 1) (record { machine = m; stop = 0 });
        count = s.count;
        place = s.place;
        total = s.total;
      };
    })
    (record { done = false; scheduler = s })
