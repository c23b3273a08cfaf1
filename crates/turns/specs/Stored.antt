-- What a stored record of turns says (README.md has the columns). No promise rests on this file but that of what the test program reads.
-- Assumes nothing.
use Rattle.std.specs.Prelude.{cond, List, ◌++◌, map, ℕ, ◌+◌, ◌*◌, take, drop, get_or, set, replicate}
use Rattle.model.specs.Machine.{no_region, regions_from}
use Rattle.std.specs.List.{range_with_len}
use Rattle.text.specs.Number.{number}
use Rattle.text.specs.Scan.{first_that, is}
use Rattle.scheduler.specs.Turn.{most_slots, within, slot}
use Rattle.scheduler.specs.declared.Slot.{Slot}

-- the first 40 columns up to a space
abbrev pub name_of : List ℕ → List ℕ
name_of r = take (first_that (is 32) (take 40 r)) (take 40 r)

-- number i of the 82 that follow
abbrev pub number_at : List ℕ → ℕ → ℕ
number_at r i = number 16 (take 16 (drop (40 + 16 * i) r))

unfoldable pub numbers_of : List ℕ → List ℕ
numbers_of r = map (number_at r) (range_with_len 0 82)

-- a slot whose numbers stand from place k on; what a record does not say is 0
abbrev pub slot_of : List ℕ → ℕ → Slot
slot_of ns k =
    record {
      machine = record {
        x = set (set (replicate 32 0) 5 (get_or ns (k + 2) 0)) 6 (get_or ns (k + 3) 0);
        pc = get_or ns (k + 1) 0;
        hfi = record {
          mode = get_or ns (k + 5) 0;
          reason = 0;
          epc = 0;
          options = get_or ns (k + 4) 0;
          handler = 0;
          selector = 0;
          regions = regions_from ns (k + 6) 3 ++ replicate 7 no_region;
          fault = record { occurred = 0; region = 0; op = 0; address = 0 };
        };
      };
      stop = get_or ns k 0;
    }

-- the slot whose machine is put: the first where there is none of that number
abbrev pub put_slot : List Slot → ℕ → Slot
put_slot ds n = cond (within most_slots n) (slot ds n) (slot ds 1)
