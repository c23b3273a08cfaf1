-- Questions put to the definitions, and their answers: the rows of the tables beside it.
-- Assumes nothing.
use mathlib.Core.Bool.{Bool}
use mathlib.Core.List.{List, [], ◌∷◌}
use Prim.Native.Nat.{ℕ, ◌+◌, ◌-◌, ◌*◌, ◌/◌, ◌%◌}
use lib.ListN.{get_or, set, take, drop, replicate}
use Rattle.std.proofs.Common.{Option}
use Rattle.instructions.specs.declared.instruction.Instruction.{Instruction}
use Rattle.instructions.specs.Decode.{decode_word}
use Rattle.model.specs.Machine.{last_region, regions_from, machine}
use Rattle.model.specs.Regions.{matches, explicit_rule}
use Rattle.model.specs.WellFormed.{well_formed}
use Rattle.model.specs.WritableCode.{writable_code}
use Rattle.model.specs.Step.{step_call, resume_call}
use Rattle.model.specs.Run.{run_call}
use Rattle.model.specs.declared.Region.{Region}
use Rattle.model.specs.declared.Machine.{Machine}

-- ---- machines, by what they have in the places of the record that are not 0

abbrev pub x : ℕ → ℕ
x n = n

abbrev pub pc : ℕ
pc = 32

abbrev pub mode : ℕ
mode = 33

abbrev pub reason : ℕ
reason = 34

abbrev pub epc : ℕ
epc = 35

abbrev pub options : ℕ
options = 36

abbrev pub handler : ℕ
handler = 37

abbrev pub selector : ℕ
selector = 38

-- region n's three numbers
abbrev pub base : ℕ → ℕ
base n = 36 + 3 * n

abbrev pub bound : ℕ → ℕ
bound n = 37 + 3 * n

abbrev pub permission : ℕ → ℕ
permission n = 38 + 3 * n

-- the fault record's four
abbrev pub occurred : ℕ
occurred = base (last_region + 1)

abbrev pub fault_region : ℕ
fault_region = occurred + 1

abbrev pub op : ℕ
op = occurred + 2

abbrev pub faulting : ℕ
faulting = occurred + 3

-- numbers with v put in place n, for each pair (n, v); a later pair counts
abbrev pub puts : List ℕ → List (ℕ × ℕ) → List ℕ
puts ns [] = ns
puts ns (p ∷ ps) = puts (set ns p.0 p.1) ps

abbrev pub region_of : ℕ → ℕ → ℕ → Region
region_of b n p = record { base = b; bound = n; permission = p }

-- what is far down the list is read from the rest of it, which computes faster
abbrev machine_in : List ℕ → Machine
machine_in ns =
    let control = drop pc ns in
    let regions = drop (base 1 - pc) control in
    let fault = drop (3 * last_region) regions in
    machine (take 32 ns) (get_or control 0 0)
    (record {
      mode = get_or control (mode - pc) 0;
      reason = get_or control (reason - pc) 0;
      epc = get_or control (epc - pc) 0;
      options = get_or control (options - pc) 0;
      handler = get_or control (handler - pc) 0;
      selector = get_or control (selector - pc) 0;
      regions = regions_from regions 0 last_region;
      fault = record { occurred = get_or fault 0 0; region = get_or fault 1 0; op = get_or fault 2 0; address = get_or fault 3 0 };
    })

-- the machine that is all 0 but for these places
abbrev pub with : List (ℕ × ℕ) → Machine
with ps = machine_in (puts (replicate (faulting + 1) 0) ps)

-- ---- memories

-- the bytes of words, one word after another from address 0 on
abbrev pub bytes : List ℕ → List ℕ
bytes [] = []
bytes (w ∷ ws) = w % 256 ∷ w / 256 % 256 ∷ w / 65536 % 256 ∷ w / 16777216 ∷ bytes ws

-- ---- questions and answers

pub data Question : Type 0 where
  -- what a word is
  decoding : ℕ → Question
  -- does an implicit region match the byte at an address?
  matching : Region → ℕ → Question
  -- does an explicit region keep its rule?
  ruling : Region → Question
  -- is some byte both writable and executable, by these regions?
  exposing : List Region → Question
  -- is a machine well formed?
  judging : Machine → Question
  -- the calls: a step, a run with its budget, a resumption with its value
  stepping : Machine → List ℕ → Question
  running : Machine → List ℕ → ℕ → Question
  resuming : Machine → ℕ → Question

pub data Answer : Type 0 where
  decoded : Option Instruction → Answer
  told : Bool → Answer
  -- stop, count, address, machine and memory; a step and a resumption have no count, a resumption no memory
  gave : ℕ → ℕ → ℕ → Machine → List ℕ → Answer

abbrev pub answered : Question → Answer
answered (decoding w) = decoded (decode_word w)
answered (matching r a) = told (matches r a)
answered (ruling r) = told (explicit_rule r)
answered (exposing rs) = told (writable_code rs)
answered (judging m) = told (well_formed m)
answered (stepping m mem) = let o = step_call m mem in gave o.result.stop 0 o.result.address o.result.machine o.memory
answered (running m mem budget) =
    let e = run_call m mem budget in gave e.result.stop e.result.count e.result.address e.result.machine e.memory
answered (resuming m v) = let r = resume_call m v in gave r.stop 0 r.address r.machine []

-- a question with the answer that it must have
abbrev pub Row : Type 0
Row = Question × Answer

-- what the definitions answer to the questions of a table, and what the table says; a check is that the two lists are one
abbrev pub found : List Row → List Answer
found [] = []
found (r ∷ rs) = answered r.0 ∷ found rs

abbrev pub stated : List Row → List Answer
stated [] = []
stated (r ∷ rs) = r.1 ∷ stated rs
