-- Another number in each place of the machine's record, and what stands in each place. Places count the record's 64-bit words.
-- No promise rests on this file: it serves the test of the record's layout (c/try).
-- Region, Fault and Machine are declared in model/src/lib.rt. Assumes nothing.
use Rattle.std.specs.Prelude.{cond, List, [], ◌∷◌, ℕ, zero, suc, ◌+◌, ◌-◌, ◌*◌, ◌/◌, ◌%◌, ltb, replicate, set, get_or}
use Rattle.instructions.specs.Table.{lookup}
use Rattle.model.specs.Machine.{reg, no_region, last_region}
use Rattle.model.specs.declared.Region.{Region}
use Rattle.model.specs.declared.Fault.{Fault}
use Rattle.model.specs.declared.Machine.{Machine}

-- k regions, the first with n in its first place
abbrev numbered_from : ℕ → ℕ → List Region
numbered_from n zero = []
numbered_from n (suc k) = record { base = n; bound = n + 1; permission = n + 2 } ∷ numbered_from (n + 3) k

-- the places of the first region and of the fault record
abbrev pub first_region : ℕ
first_region = 39

abbrev pub first_fault : ℕ
first_fault = first_region + 3 * last_region

abbrev pub probe : Machine
probe =
    record {
      x = set (set (replicate 32 0) 0 1000) 31 1031;
      pc = 1032;
      hfi = record {
        mode = 1033;
        reason = 1034;
        epc = 1035;
        options = 1036;
        handler = 1037;
        selector = 1038;
        regions = numbered_from (1000 + first_region) last_region;
        fault = record { occurred = 1000 + first_fault; region = 1001 + first_fault; op = 1002 + first_fault; address = 1003 + first_fault };
      };
    }

abbrev pub in_hart : Machine → List (ℕ × ℕ)
in_hart m =
    (0, reg m.x 0) ∷ (31, reg m.x 31) ∷ (32, m.pc)
    ∷ (33, m.hfi.mode) ∷ (34, m.hfi.reason) ∷ (35, m.hfi.epc)
    ∷ (36, m.hfi.options) ∷ (37, m.hfi.handler) ∷ (38, m.hfi.selector)
    ∷ []

abbrev pub in_region : Region → List (ℕ × ℕ)
in_region r = (0, r.base) ∷ (1, r.bound) ∷ (2, r.permission) ∷ []

abbrev pub in_fault : Fault → List (ℕ × ℕ)
in_fault f = (0, f.occurred) ∷ (1, f.region) ∷ (2, f.op) ∷ (3, f.address) ∷ []

abbrev pub at_place : Machine → ℕ → ℕ
at_place m i =
    let k = i - first_region in
    cond (ltb i first_region) (lookup 0 (in_hart m) i)
    (cond (ltb i first_fault) (lookup 0 (in_region (get_or m.hfi.regions (k / 3) no_region)) (k % 3))
    (lookup 0 (in_fault m.hfi.fault) (i - first_fault)))
