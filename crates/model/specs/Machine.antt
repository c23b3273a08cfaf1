-- Reading and changing the parts of the machine.
-- Region, Fault, HfiState and Machine are declared in src/lib.rt, Choice in src/permission.rt. Assumes nothing.
use Rattle.std.specs.Prelude.{Bool, false, cond, List, [], ◌∷◌, ℕ, zero, suc, ◌+◌, ◌-◌, ◌%◌, ◌^◌, eqb, get_or, set, replicate}
use Rattle.words.specs.Word.{field}
use Rattle.model.specs.declared.Region.{Region}
use Rattle.model.specs.declared.Fault.{Fault}
use Rattle.model.specs.declared.HfiState.{HfiState}
use Rattle.model.specs.declared.Machine.{Machine}
use Rattle.model.specs.declared.permission.Choice.{Choice}
use Rattle.model.specs.declared.permission.Choice.TheVariants.{LockRegions, RedirectCalls, RedirectExits}

-- "Sums of addresses and registers are taken modulo 2^64."
abbrev pub sum : ℕ → ℕ → ℕ
sum a b = (a + b) % 2 ^ 64

-- register i
abbrev pub reg : List ℕ → ℕ → ℕ
reg x i = get_or x i 0

-- the registers with v in register i; x0 stays 0
abbrev pub set_reg : List ℕ → ℕ → ℕ → List ℕ
set_reg x i v = cond (eqb i 0) x (set x i v)

-- bit n of a number that holds bits
abbrev pub bit : ℕ → ℕ → Bool
bit n x = eqb (field x n 1) 1

-- ---- the fault record's op: "0 none, 1 load, 2 store, 3 fetch"

abbrev pub load_op : ℕ
load_op = 1

abbrev pub store_op : ℕ
store_op = 2

abbrev pub fetch_op : ℕ
fetch_op = 3

-- ---- options and mode

-- "options (4 bits)"
abbrev pub largest_options : ℕ
largest_options = 15

-- in HFI mode
abbrev pub inside : HfiState → Bool
inside h = eqb h.mode 1

-- "Options: bit 0 lock regions, bit 1 redirect system calls, bit 2 redirect exits, bit 3 serialize. Bit 3 is kept and has no
-- effect on single steps." Locking and the redirection of calls are asked only in HFI mode, so the mode is part of both; an
-- exit is in HFI mode anyway.

-- the bits that code asks
abbrev pub option_bit : Choice → ℕ
option_bit LockRegions = 0
option_bit RedirectCalls = 1
option_bit RedirectExits = 2

-- "Lock follows 000 chapter 3 (1 forbids)"; ".. in HFI mode when locked"
abbrev pub locked : HfiState → Bool
locked h = cond (inside h) (bit 0 h.options) false

-- "ECALL in HFI mode with bit 1 set"
abbrev pub redirects_calls : HfiState → Bool
redirects_calls h = cond (inside h) (bit 1 h.options) false

-- "if exits are redirected"
abbrev pub redirects_exits : HfiState → Bool
redirects_exits h = bit 2 h.options

-- ---- regions by number, from 1 on; number 0 is no region: question 8 refuses an instruction with it, and it grants nothing

-- the highest number, and the record has as many regions: "Selector, selected number and fault region go up to 10" (02, Job 7)
abbrev pub last_region : ℕ
last_region = 10

abbrev pub no_region : Region
no_region = record { base = 0; bound = 0; permission = 0 }

abbrev pub region : List Region → ℕ → Region
region rs n = get_or rs (n - 1) no_region

abbrev pub set_region : List Region → ℕ → Region → List Region
set_region rs n r = set rs (n - 1) r

abbrev pub with_base : Region → ℕ → Region
with_base r v = record { base = v; bound = r.bound; permission = r.permission }

abbrev pub with_bound : Region → ℕ → Region
with_bound r v = record { base = r.base; bound = v; permission = r.permission }

abbrev pub with_permission : Region → ℕ → Region
with_permission r v = record { base = r.base; bound = r.bound; permission = v }

-- "Reset zeroes regions and selector": all the regions
abbrev pub zero_regions : List Region
zero_regions = replicate last_region no_region

-- n regions of three numbers each, from place k of a list on
abbrev pub regions_from : List ℕ → ℕ → ℕ → List Region
regions_from vs k zero = []
regions_from vs k (suc n) =
    record { base = get_or vs k 0; bound = get_or vs (k + 1) 0; permission = get_or vs (k + 2) 0 } ∷ regions_from vs (k + 3) n

-- ---- the HFI state, changed in some fields

-- "Enter: mode 1, options stored, occurred cleared."
abbrev pub entered : HfiState → ℕ → HfiState
entered h options =
    record {
      mode = 1;
      reason = h.reason;
      epc = h.epc;
      options = options;
      handler = h.handler;
      selector = h.selector;
      regions = h.regions;
      fault = record { occurred = 0; region = h.fault.region; op = h.fault.op; address = h.fault.address };
    }

-- "mode 0, reason .., exit pc is this pc"
abbrev pub exited : HfiState → ℕ → ℕ → HfiState
exited h reason pc =
    record {
      mode = 0;
      reason = reason;
      epc = pc;
      options = h.options;
      handler = h.handler;
      selector = h.selector;
      regions = h.regions;
      fault = h.fault;
    }

abbrev pub with_handler : HfiState → ℕ → HfiState
with_handler h v =
    record {
      mode = h.mode;
      reason = h.reason;
      epc = h.epc;
      options = h.options;
      handler = v;
      selector = h.selector;
      regions = h.regions;
      fault = h.fault;
    }

abbrev pub with_selector : HfiState → ℕ → HfiState
with_selector h v =
    record {
      mode = h.mode;
      reason = h.reason;
      epc = h.epc;
      options = h.options;
      handler = h.handler;
      selector = v;
      regions = h.regions;
      fault = h.fault;
    }

abbrev pub with_regions : HfiState → List Region → HfiState
with_regions h rs =
    record {
      mode = h.mode;
      reason = h.reason;
      epc = h.epc;
      options = h.options;
      handler = h.handler;
      selector = h.selector;
      regions = rs;
      fault = h.fault;
    }

abbrev pub with_fault : HfiState → Fault → HfiState
with_fault h f =
    record {
      mode = h.mode;
      reason = h.reason;
      epc = h.epc;
      options = h.options;
      handler = h.handler;
      selector = h.selector;
      regions = h.regions;
      fault = f;
    }

abbrev pub machine : List ℕ → ℕ → HfiState → Machine
machine x pc h = record { x = x; pc = pc; hfi = h }
