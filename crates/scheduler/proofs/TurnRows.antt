-- Document 02, Job 9, as rows of tables that computed checks cover: which slots are stopped, whose turn it is, what a turn is refused for, and
-- whole turns with what they leave.
-- Assumes nothing.
use mathlib.Core.Path.{◌≡◌, refl}
use mathlib.Core.Bool.{Bool, true, false}
use mathlib.Core.List.{List, [], ◌∷◌, ◌++◌, map}
use Prim.Native.Nat.{ℕ, ◌+◌, ◌-◌, ◌^◌}
use lib.Count.{count_trailing_zeros}
use Rattle.words.specs.Word.{sext}
use Rattle.instructions.specs.Decode.{decode_word}
use Rattle.compressed.specs.Expand.{expand_half}
use Rattle.model.specs.Bytes.{value, written}
use Rattle.model.specs.Outcome.{allowed, aligned, settle}
use Rattle.model.specs.WellFormed.{state_fits, well_formed}
use Rattle.model.specs.Hfi.{hfi_stop, hfi_perform}
use Rattle.model.specs.Regions.{explicit_rule, matches, first_match, implicit_grants, explicit_grants}
use Rattle.model.specs.WritableCode.{explicit_covers, writable_code, exposes_code}
use Rattle.model.specs.Access.{scan, first_refused, first_absent, verdict}
use Rattle.model.specs.Step.{load, store, perform, execute_instruction, execute_word, fetching, execute_fetched, step}
use Rattle.model.specs.Run.{run_by, run_call}
use Rattle.model.specs.declared.Machine.{Machine}
use Rattle.model.proofs.Rows.{x, pc, mode, reason, epc, options, base, bound, permission, occurred, fault_region, op, faulting, bytes, with}
use Rattle.scheduler.specs.Turn.{stopped, first_unstopped, next_slot, slot_refusal, slots_refusal, refusal, Left, turned_with, no_turn, turn_call, put_call}
use Rattle.scheduler.specs.declared.Slot.{Slot}
use Rattle.scheduler.specs.declared.Scheduler.{Scheduler}
use Rattle.scheduler.specs.Turn.{PutAnswer}

-- ---- slots

-- a machine in locked HFI mode, with sixteen bytes of code from 0 on and eight bytes at 16 that it may write
abbrev guest : List (ℕ × ℕ)
guest = (mode, 1) ∷ (options, 1) ∷ (base 1, 16) ∷ (bound 1, 8) ∷ (permission 1, 3) ∷ (base 3, 0) ∷ (bound 3, 2 ^ 64 - 16) ∷ (permission 3, 4) ∷ []

-- the guest but for these places, in a slot with a stop
abbrev slot_with : List (ℕ × ℕ) → ℕ → Slot
slot_with ps stop = record { machine = with (guest ++ ps); stop = stop }

abbrev fresh : Slot
fresh = slot_with [] 0

abbrev spent : Slot
spent = slot_with [] 21

-- each of these is refused if it is asked
abbrev ill_formed : ℕ → Slot
ill_formed stop = slot_with ((x 0, 1) ∷ []) stop

abbrev exposing : ℕ → Slot
exposing stop = slot_with ((base 1, 8) ∷ []) stop

abbrev unlocked : ℕ → Slot
unlocked stop = slot_with ((options, 14) ∷ []) stop

abbrev outside : ℕ → Slot
outside stop = slot_with ((mode, 0) ∷ []) stop

abbrev four : Slot → Slot → Slot → Slot → List Slot
four a b c d = a ∷ b ∷ c ∷ d ∷ []

abbrev scheduled : List Slot → ℕ → ℕ → ℕ → Scheduler
scheduled ds count place total = record { slots = ds; count = count; place = place; total = total }

abbrev all_fresh : List Slot
all_fresh = four fresh fresh fresh fresh

-- ---- which slots are stopped, by the stops 0 to 25 and numbers that no run gives

abbrev stops : List ℕ
stops = 0 ∷ 1 ∷ 2 ∷ 3 ∷ 4 ∷ 10 ∷ 11 ∷ 12 ∷ 13 ∷ 14 ∷ 15 ∷ 16 ∷ 17 ∷ 18 ∷ 19 ∷ 20 ∷ 21 ∷ 22 ∷ 23 ∷ 24 ∷ 25 ∷ 26 ∷ 50 ∷ 51 ∷ 52 ∷ (2 ^ 32) ∷ (2 ^ 32 + 21) ∷ (2 ^ 64 - 1) ∷ []

-- "A deck that stops with anything but 21 is passed over", and one that has had no turn is not
pub stopped_rows : map (λ s. stopped (record { machine = with []; stop = s })) stops
    ≡ false ∷ true ∷ true ∷ true ∷ true ∷ true ∷ true ∷ true ∷ true ∷ true ∷ true ∷ true ∷ true ∷ true ∷ true ∷ true ∷ false ∷ true ∷ true ∷ true ∷ true ∷ true
    ∷ true ∷ true ∷ true ∷ true ∷ true ∷ true ∷ []
stopped_rows = refl

-- ---- whose turn it is

abbrev next : List Slot → ℕ → ℕ → ℕ
next ds count place = next_slot (scheduled ds count place 0)

abbrev halted : Slot
halted = slot_with [] 18

pub next_rows :
    -- "from the place on"
    next all_fresh 4 1 ∷ next all_fresh 4 2 ∷ next all_fresh 4 4
    -- "a place outside the deck count is taken as 1"
    ∷ next all_fresh 4 0 ∷ next all_fresh 4 5 ∷ next all_fresh 3 4 ∷ next all_fresh 1 2 ∷ next (four halted fresh fresh fresh) 3 4
    -- however far outside
    ∷ next all_fresh 4 6 ∷ next all_fresh 4 7 ∷ next all_fresh 3 5 ∷ next all_fresh 4 (2 ^ 64 - 1) ∷ next (four halted fresh fresh fresh) 3 6
    -- "the first deck not stopped", "and round to the first"
    ∷ next (four fresh halted spent fresh) 4 2 ∷ next (four fresh halted halted halted) 4 2 ∷ next (four halted spent halted halted) 4 3
    ∷ next (four spent fresh halted fresh) 3 3 ∷ next (four halted halted halted fresh) 4 1
    -- a slot above the count has no turn
    ∷ next (four halted halted halted fresh) 3 1 ∷ next (four halted halted fresh fresh) 2 3
    ∷ next (four halted halted halted halted) 4 2 ∷ []
    ≡ 1 ∷ 2 ∷ 4 ∷ 1 ∷ 1 ∷ 1 ∷ 1 ∷ 2 ∷ 1 ∷ 1 ∷ 1 ∷ 1 ∷ 2 ∷ 3 ∷ 1 ∷ 2 ∷ 1 ∷ 4 ∷ 0 ∷ 0 ∷ 0 ∷ []
unfolding first_unstopped
next_rows = refl

-- ---- refusals

abbrev longest : ℕ
longest = 16777216

abbrev refused : List Slot → ℕ → ℕ → ℕ → ℕ
refused ds count size allowance = refusal (scheduled ds count 1 0) size allowance

pub refusal_rows :
    -- "the order is 1, 50, 51, then deck by deck from 1"
    refused (four (ill_formed 0) fresh fresh fresh) 0 (longest + 1) 0 ∷ refused (four (ill_formed 0) fresh fresh fresh) 0 longest 0
    ∷ refused (four (ill_formed 0) fresh fresh fresh) 1 longest 0 ∷ refused (four (ill_formed 0) fresh fresh fresh) 1 longest 1
    -- "1 to 4 machines and a step allowance of 1 to 10,000"
    ∷ refused all_fresh 0 0 1 ∷ refused all_fresh 1 0 1 ∷ refused all_fresh 4 0 1 ∷ refused all_fresh 5 0 1 ∷ refused all_fresh (2 ^ 64 - 1) 0 1
    ∷ refused all_fresh 4 0 0 ∷ refused all_fresh 4 0 10000 ∷ refused all_fresh 4 0 10001 ∷ refused all_fresh 4 0 (2 ^ 64 - 1)
    -- "3, 4, 52" of one deck
    ∷ refused (four (slot_with ((x 0, 1) ∷ (base 1, 8) ∷ []) 0) fresh fresh fresh) 1 0 1
    ∷ refused (four (slot_with ((x 0, 1) ∷ (mode, 0) ∷ []) 0) fresh fresh fresh) 1 0 1
    ∷ refused (four (exposing 0) fresh fresh fresh) 1 0 1
    ∷ refused (four (unlocked 0) fresh fresh fresh) 1 0 1 ∷ refused (four (outside 0) fresh fresh fresh) 1 0 1
    ∷ refused (four (slot_with ((base 1, 8) ∷ (options, 14) ∷ []) 0) fresh fresh fresh) 1 0 1
    -- "deck by deck": the first that is refused, whatever a later one is refused for
    ∷ refused (four fresh (unlocked 21) (ill_formed 0) (exposing 0)) 4 0 1 ∷ refused (four fresh fresh (exposing 21) (ill_formed 0)) 4 0 1
    ∷ refused (four fresh fresh spent (ill_formed 21)) 4 0 1 ∷ refused (four fresh fresh spent (ill_formed 21)) 3 0 1
    -- "stopped ones left out"
    ∷ refused (four (ill_formed 3) (exposing 4) (outside 20) (unlocked 25)) 4 0 1 ∷ refused (four (ill_formed 19) fresh (outside 21) fresh) 4 0 1
    -- a count above four is told before the allowance and the slots
    ∷ refused (four (ill_formed 0) fresh fresh fresh) 5 0 0 ∷ refused (four (ill_formed 0) fresh fresh fresh) 5 0 1
    -- with all slots stopped, 1, 50 and 51 are asked nevertheless
    ∷ refused (four halted halted halted halted) 4 (longest + 1) 1 ∷ refused (four halted halted halted halted) 5 0 1 ∷ refused (four halted halted halted halted) 4 0 0
    -- from slot 1, wherever the place is
    ∷ refusal (scheduled (four fresh (unlocked 0) (ill_formed 0) fresh) 4 3 0) 0 1 ∷ refusal (scheduled (four (exposing 0) fresh (ill_formed 0) fresh) 4 9 0) 0 1
    -- locked, whatever the other options
    ∷ refused (four (slot_with ((options, 15) ∷ []) 0) fresh fresh fresh) 1 0 1 ∷ refused (four (slot_with ((base 1, 8) ∷ (options, 15) ∷ []) 0) fresh fresh fresh) 1 0 1
    -- where there is no slot
    ∷ refused [] 1 0 1 ∷ []
    ≡ 1 ∷ 50 ∷ 51 ∷ 3 ∷ 50 ∷ 0 ∷ 0 ∷ 50 ∷ 50 ∷ 51 ∷ 0 ∷ 51 ∷ 51 ∷ 3 ∷ 3 ∷ 4 ∷ 52 ∷ 52 ∷ 52 ∷ 52 ∷ 4 ∷ 3 ∷ 0 ∷ 0 ∷ 52
    ∷ 50 ∷ 50 ∷ 1 ∷ 50 ∷ 51 ∷ 52 ∷ 4 ∷ 0 ∷ 4 ∷ 52 ∷ []
unfolding refusal slots_refusal slot_refusal count_trailing_zeros state_fits well_formed matches explicit_rule first_match implicit_grants explicit_grants explicit_covers writable_code exposes_code
refusal_rows = refl

-- ---- whole turns

-- slot, stop, count and address; place and total; each slot's stop and pc; and the memory
abbrev seen : Left → List ℕ
seen l =
    let s = l.result.scheduler in
    (l.result.slot ∷ l.result.stop ∷ l.result.count ∷ l.result.address ∷ s.count ∷ s.place ∷ s.total ∷ [])
    ++ map (λ (d : Slot). d.stop) s.slots ++ map (λ (d : Slot). d.machine.pc) s.slots ++ l.memory

-- addi x7, x0, 7; hsb x7, 0(x0); jal x0, -8
abbrev loop : List ℕ
loop = 0x00700393 ∷ 0x0070002b ∷ 0xff9ff06f ∷ []

-- with the byte at 16, which a guest writes
abbrev loaded : List ℕ
loaded = bytes loop ++ (0 ∷ 0 ∷ 0 ∷ 0 ∷ 9 ∷ [])

abbrev afterwards : List ℕ
afterwards = bytes loop ++ (0 ∷ 0 ∷ 0 ∷ 0 ∷ 7 ∷ [])

abbrev turn : List Slot → ℕ → ℕ → ℕ → ℕ → List ℕ
turn ds count place total allowance = seen (turn_call (scheduled ds count place total) loaded allowance)

-- its fetch is refused
abbrev astray : Slot
astray = slot_with ((pc, 32) ∷ []) 0

unfoldable pub questions : List (List ℕ)
questions =
    -- "one run, with the allowance as its budget"; "then the place becomes the deck after that one"; "adds its run's count"
    turn all_fresh 4 1 0 2
    ∷ turn all_fresh 4 1 5 1
    ∷ turn all_fresh 4 2 0 3
    ∷ turn all_fresh 4 3 0 3
    ∷ turn all_fresh 3 3 0 3
    -- "likewise round", and round the count, not the four
    ∷ turn all_fresh 4 4 0 2
    ∷ turn all_fresh 2 2 0 2
    ∷ turn all_fresh 1 1 0 2
    -- what stands above the count stays
    ∷ turn (four halted spent (slot_with ((pc, 4) ∷ []) 18) (slot_with ((pc, 4) ∷ []) 21)) 2 1 0 2
    -- "a place outside the deck count is taken as 1"
    ∷ turn all_fresh 4 0 0 2
    ∷ turn all_fresh 3 4 0 2
    -- a stopped slot is passed over, also by the place
    ∷ turn (four halted fresh halted fresh) 4 1 0 2
    ∷ turn (four fresh halted halted halted) 4 2 0 2
    -- a run that stops: its stop stays with the slot, and its fault record with the machine
    ∷ turn (four astray fresh fresh fresh) 4 1 7 2
    ∷ turn (four fresh (slot_with ((pc, 12) ∷ []) 0) fresh fresh) 4 2 7 2
    -- "modulo 2^64"
    ∷ turn all_fresh 4 1 (2 ^ 64 - 1) 2
    -- "With all decks stopped a turn makes no run, changes nothing and answers 0": a place outside stays, too
    ∷ turn (four halted halted halted fresh) 3 9 5 2
    -- refused: "deck, count and address are then 0, and nothing has changed"
    ∷ turn all_fresh 5 3 5 2
    ∷ turn all_fresh 4 3 5 0
    ∷ turn (four fresh fresh fresh (outside 21)) 4 1 5 2
    ∷ turn (four fresh fresh (ill_formed 0) fresh) 4 9 5 2
    ∷ []

unfoldable pub answers : List (List ℕ)
answers =
    (1 ∷ 21 ∷ 2 ∷ 0 ∷ 4 ∷ 2 ∷ 2 ∷ 21 ∷ 0 ∷ 0 ∷ 0 ∷ 8 ∷ 0 ∷ 0 ∷ 0 ∷ afterwards)
    ∷ (1 ∷ 21 ∷ 1 ∷ 0 ∷ 4 ∷ 2 ∷ 6 ∷ 21 ∷ 0 ∷ 0 ∷ 0 ∷ 4 ∷ 0 ∷ 0 ∷ 0 ∷ loaded)
    ∷ (2 ∷ 21 ∷ 3 ∷ 0 ∷ 4 ∷ 3 ∷ 3 ∷ 0 ∷ 21 ∷ 0 ∷ 0 ∷ 0 ∷ 0 ∷ 0 ∷ 0 ∷ afterwards)
    ∷ (3 ∷ 21 ∷ 3 ∷ 0 ∷ 4 ∷ 4 ∷ 3 ∷ 0 ∷ 0 ∷ 21 ∷ 0 ∷ 0 ∷ 0 ∷ 0 ∷ 0 ∷ afterwards)
    ∷ (3 ∷ 21 ∷ 3 ∷ 0 ∷ 3 ∷ 1 ∷ 3 ∷ 0 ∷ 0 ∷ 21 ∷ 0 ∷ 0 ∷ 0 ∷ 0 ∷ 0 ∷ afterwards)
    ∷ (4 ∷ 21 ∷ 2 ∷ 0 ∷ 4 ∷ 1 ∷ 2 ∷ 0 ∷ 0 ∷ 0 ∷ 21 ∷ 0 ∷ 0 ∷ 0 ∷ 8 ∷ afterwards)
    ∷ (2 ∷ 21 ∷ 2 ∷ 0 ∷ 2 ∷ 1 ∷ 2 ∷ 0 ∷ 21 ∷ 0 ∷ 0 ∷ 0 ∷ 8 ∷ 0 ∷ 0 ∷ afterwards)
    ∷ (1 ∷ 21 ∷ 2 ∷ 0 ∷ 1 ∷ 1 ∷ 2 ∷ 21 ∷ 0 ∷ 0 ∷ 0 ∷ 8 ∷ 0 ∷ 0 ∷ 0 ∷ afterwards)
    ∷ (2 ∷ 21 ∷ 2 ∷ 0 ∷ 2 ∷ 1 ∷ 2 ∷ 18 ∷ 21 ∷ 18 ∷ 21 ∷ 0 ∷ 8 ∷ 4 ∷ 4 ∷ afterwards)
    ∷ (1 ∷ 21 ∷ 2 ∷ 0 ∷ 4 ∷ 2 ∷ 2 ∷ 21 ∷ 0 ∷ 0 ∷ 0 ∷ 8 ∷ 0 ∷ 0 ∷ 0 ∷ afterwards)
    ∷ (1 ∷ 21 ∷ 2 ∷ 0 ∷ 3 ∷ 2 ∷ 2 ∷ 21 ∷ 0 ∷ 0 ∷ 0 ∷ 8 ∷ 0 ∷ 0 ∷ 0 ∷ afterwards)
    ∷ (2 ∷ 21 ∷ 2 ∷ 0 ∷ 4 ∷ 3 ∷ 2 ∷ 18 ∷ 21 ∷ 18 ∷ 0 ∷ 0 ∷ 8 ∷ 0 ∷ 0 ∷ afterwards)
    ∷ (1 ∷ 21 ∷ 2 ∷ 0 ∷ 4 ∷ 2 ∷ 2 ∷ 21 ∷ 18 ∷ 18 ∷ 18 ∷ 8 ∷ 0 ∷ 0 ∷ 0 ∷ afterwards)
    ∷ (1 ∷ 11 ∷ 0 ∷ 0 ∷ 4 ∷ 2 ∷ 7 ∷ 11 ∷ 0 ∷ 0 ∷ 0 ∷ 32 ∷ 0 ∷ 0 ∷ 0 ∷ loaded)
    ∷ (2 ∷ 13 ∷ 0 ∷ 0 ∷ 4 ∷ 3 ∷ 7 ∷ 0 ∷ 13 ∷ 0 ∷ 0 ∷ 0 ∷ 12 ∷ 0 ∷ 0 ∷ loaded)
    ∷ (1 ∷ 21 ∷ 2 ∷ 0 ∷ 4 ∷ 2 ∷ 1 ∷ 21 ∷ 0 ∷ 0 ∷ 0 ∷ 8 ∷ 0 ∷ 0 ∷ 0 ∷ afterwards)
    ∷ (0 ∷ 0 ∷ 0 ∷ 0 ∷ 3 ∷ 9 ∷ 5 ∷ 18 ∷ 18 ∷ 18 ∷ 0 ∷ 0 ∷ 0 ∷ 0 ∷ 0 ∷ loaded)
    ∷ (0 ∷ 50 ∷ 0 ∷ 0 ∷ 5 ∷ 3 ∷ 5 ∷ 0 ∷ 0 ∷ 0 ∷ 0 ∷ 0 ∷ 0 ∷ 0 ∷ 0 ∷ loaded)
    ∷ (0 ∷ 51 ∷ 0 ∷ 0 ∷ 4 ∷ 3 ∷ 5 ∷ 0 ∷ 0 ∷ 0 ∷ 0 ∷ 0 ∷ 0 ∷ 0 ∷ 0 ∷ loaded)
    ∷ (0 ∷ 52 ∷ 0 ∷ 0 ∷ 4 ∷ 1 ∷ 5 ∷ 0 ∷ 0 ∷ 0 ∷ 21 ∷ 0 ∷ 0 ∷ 0 ∷ 0 ∷ loaded)
    ∷ (0 ∷ 3 ∷ 0 ∷ 0 ∷ 4 ∷ 9 ∷ 5 ∷ 0 ∷ 0 ∷ 0 ∷ 0 ∷ 0 ∷ 0 ∷ 0 ∷ 0 ∷ loaded)
    ∷ []

pub turn_rows : questions ≡ answers
unfolding questions answers turn_call first_unstopped refusal slots_refusal slot_refusal count_trailing_zeros sext decode_word expand_half matches explicit_rule first_match implicit_grants explicit_grants explicit_covers writable_code exposes_code scan first_refused first_absent verdict value written allowed aligned settle state_fits well_formed hfi_stop hfi_perform load store perform execute_instruction execute_word fetching execute_fetched step run_by run_call
turn_rows = refl

-- ---- whole turns once more, with all that they leave: every slot, stopped ones and those above the count too, every place of a machine, and the memory

-- registers, reason, exit pc and fault record that no turn may lose
abbrev marked : List (ℕ × ℕ) → ℕ → Slot
marked ps stop = slot_with ((x 5, 5) ∷ (x 31, 6) ∷ (reason, 2) ∷ (epc, 8) ∷ (occurred, 1) ∷ (op, 3) ∷ (faulting, 64) ∷ ps) stop

abbrev aside : List Slot
aside = marked [] 18 ∷ marked [] 21 ∷ marked ((mode, 0) ∷ (pc, 4) ∷ []) 20 ∷ []

-- slot 1 of three takes the turn; slot 4 is above the count
abbrev first_of : Slot → ℕ → ℕ → Scheduler
first_of d place total = scheduled (d ∷ aside) 3 place total

-- slot 4 is above the count
abbrev all_stopped : ℕ → Scheduler
all_stopped place = scheduled (four (marked [] 18) (marked [] 13) (marked ((mode, 0) ∷ []) 20) (marked [] 0)) 3 place 5

abbrev took : ℕ → ℕ → ℕ → Slot → ℕ → List ℕ → Left
took stop count address d total mem = turned_with (record { slot = 1; stop = stop; count = count; address = address; scheduler = first_of d 2 total }) mem

-- addi x7, x0, 7; hsb x7, 0(x0); the word w; and five bytes more
abbrev then : ℕ → List ℕ → List ℕ
then w rest = bytes (0x00700393 ∷ 0x0070002b ∷ w ∷ []) ++ (0 ∷ 0 ∷ 0 ∷ 0 ∷ rest)

abbrev stored : ℕ → List (ℕ × ℕ) → ℕ → Slot
stored p ps stop = marked ((x 7, 7) ∷ (pc, p) ∷ ps) stop

-- its code is at 64, where there is no memory
abbrev absent : ℕ → Slot
absent stop = marked ((base 3, 64) ∷ (pc, 64) ∷ []) stop

unfoldable pub wholes : List Left
wholes =
    -- 21
    turn_call (first_of (marked [] 0) 1 5) loaded 2
    -- 20: its step is counted, its store stays, and its machine is the one that left
    ∷ turn_call (first_of (marked [] 0) 1 5) (then 0x0400005b (9 ∷ [])) 9
    -- 18 (ecall) and 13: what it did before stays
    ∷ turn_call (first_of (marked [] 21) 1 5) (then 0x00000073 (9 ∷ [])) 9
    ∷ turn_call (first_of (marked [] 21) 1 5) (then 0 (9 ∷ [])) 9
    -- 12 and 17: the address too
    ∷ turn_call (first_of (absent 0) 1 5) (then 0 (9 ∷ [])) 9
    ∷ turn_call (first_of (marked [] 0) 1 5) (then 0 []) 9
    -- 16: hsb x7, 8(x0), and the fault record stays
    ∷ turn_call (first_of (marked [] 0) 1 5) (then 0x0070042b (9 ∷ [])) 9
    -- many steps
    ∷ turn_call (first_of (marked [] 0) 1 5) (bytes (0x0000006f ∷ [])) 100
    -- no run: all stopped, and refused
    ∷ turn_call (all_stopped 9) loaded 2
    ∷ turn_call (all_stopped 9) loaded 0
    ∷ turn_call (first_of (marked [] 0) 9 5) loaded 0
    ∷ turn_call (first_of (marked ((x 0, 1) ∷ []) 0) 9 5) loaded 2
    ∷ []

unfoldable pub whole_left : List Left
whole_left =
    took 21 2 0 (stored 8 [] 21) 7 afterwards
    ∷ took 20 3 0 (stored 12 ((mode, 0) ∷ (reason, 1) ∷ (epc, 8) ∷ []) 20) 8 (then 0x0400005b (7 ∷ []))
    ∷ took 18 2 0 (stored 8 [] 18) 7 (then 0x00000073 (7 ∷ []))
    ∷ took 13 2 0 (stored 8 [] 13) 7 (then 0 (7 ∷ []))
    ∷ took 12 0 64 (absent 12) 5 (then 0 (9 ∷ []))
    ∷ took 17 1 16 (stored 4 [] 17) 6 (then 0 [])
    ∷ took 16 2 0 (stored 8 ((occurred, 1) ∷ (fault_region, 1) ∷ (op, 2) ∷ (faulting, 24) ∷ []) 16) 7 (then 0x0070042b (7 ∷ []))
    ∷ took 21 100 0 (marked [] 21) 105 (bytes (0x0000006f ∷ []))
    ∷ turned_with (no_turn 0 (all_stopped 9)) loaded
    ∷ turned_with (no_turn 51 (all_stopped 9)) loaded
    ∷ turned_with (no_turn 51 (first_of (marked [] 0) 9 5)) loaded
    ∷ turned_with (no_turn 3 (first_of (marked ((x 0, 1) ∷ []) 0) 9 5)) loaded
    ∷ []

pub whole_rows : wholes ≡ whole_left
unfolding wholes whole_left turn_call first_unstopped refusal slots_refusal slot_refusal count_trailing_zeros sext decode_word expand_half matches explicit_rule first_match implicit_grants explicit_grants explicit_covers writable_code exposes_code scan first_refused first_absent verdict value written allowed aligned settle state_fits well_formed hfi_stop hfi_perform load store perform execute_instruction execute_word fetching execute_fetched step run_by run_call
whole_rows = refl

-- ---- a machine put into a slot

-- whether it was done, count, place, total, and each slot's stop and pc
abbrev after_put : PutAnswer → List ℕ
after_put p = (p.scheduler.count ∷ p.scheduler.place ∷ p.scheduler.total ∷ []) ++ map (λ (d : Slot). d.stop) p.scheduler.slots ++ map (λ (d : Slot). d.machine.pc) p.scheduler.slots

abbrev put : ℕ → List ℕ
put n = after_put (put_call (scheduled (four halted halted halted halted) 2 9 5) n (with (guest ++ ((pc, 8) ∷ []))))

unfoldable pub puts : List (List ℕ)
puts = put 0 ∷ put 1 ∷ put 4 ∷ put 5 ∷ []

-- "until the main loop puts a machine there again": it is no longer stopped, and nothing else has changed
pub put_rows : puts
    ≡ (2 ∷ 9 ∷ 5 ∷ 18 ∷ 18 ∷ 18 ∷ 18 ∷ 0 ∷ 0 ∷ 0 ∷ 0 ∷ [])
    ∷ (2 ∷ 9 ∷ 5 ∷ 0 ∷ 18 ∷ 18 ∷ 18 ∷ 8 ∷ 0 ∷ 0 ∷ 0 ∷ [])
    ∷ (2 ∷ 9 ∷ 5 ∷ 18 ∷ 18 ∷ 18 ∷ 0 ∷ 0 ∷ 0 ∷ 0 ∷ 8 ∷ [])
    ∷ (2 ∷ 9 ∷ 5 ∷ 18 ∷ 18 ∷ 18 ∷ 18 ∷ 0 ∷ 0 ∷ 0 ∷ 0 ∷ []) ∷ []
unfolding puts put_call
put_rows = refl

pub done_rows : map (λ n. (put_call (scheduled all_fresh 2 9 5) n (with guest)).done) (0 ∷ 1 ∷ 2 ∷ 3 ∷ 4 ∷ 5 ∷ []) ≡ false ∷ true ∷ true ∷ true ∷ true ∷ false ∷ []
unfolding put_call
done_rows = refl

-- whatever the machine and whatever was in the slot, a machine that was running there too: the slot has it as it is, and nothing else has changed
abbrev bad : Machine
bad = with ((x 0, 1) ∷ (x 5, 5) ∷ (pc, 8) ∷ (reason, 1) ∷ (epc, 8) ∷ (options, 16) ∷ (occurred, 1) ∷ [])

abbrev whole_put : ℕ → PutAnswer
whole_put n = put_call (first_of (marked [] 18) 2 7) n bad

abbrev has : Bool → List Slot → PutAnswer
has done ds = record { done = done; scheduler = scheduled ds 3 2 7 }

pub whole_put_rows : map whole_put (0 ∷ 1 ∷ 2 ∷ 3 ∷ 4 ∷ 5 ∷ (2 ^ 64 - 1) ∷ [])
    ≡ (let d : Slot = record { machine = bad; stop = 0 } in let a = marked [] 18 in let r = marked [] 21 in let o = marked ((mode, 0) ∷ (pc, 4) ∷ []) 20 in
    has false (four a a r o) ∷ has true (four d a r o) ∷ has true (four a d r o) ∷ has true (four a a d o) ∷ has true (four a a r d) ∷ has false (four a a r o) ∷ has false (four a a r o) ∷ [])
unfolding put_call state_fits well_formed
whole_put_rows = refl
