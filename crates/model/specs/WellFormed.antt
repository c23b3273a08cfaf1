-- Document 01, "Well formed means: ..".
-- Region, Fault, HfiState and Machine are declared in src/lib.rt. Assumes nothing.
use Rattle.std.specs.Prelude.{Bool, true, ◌&&◌, List, [], ◌∷◌, ℕ, suc, eqb, leb}
use Rattle.std.specs.Int.Bits.{bit_and}
use Rattle.model.specs.Machine.{reg, fetch_op, largest_options, last_region}
use Rattle.model.specs.Regions.{permission_fits}
use Rattle.model.specs.declared.Region.{Region}
use Rattle.model.specs.declared.Fault.{Fault}
use Rattle.model.specs.declared.HfiState.{HfiState}
use Rattle.model.specs.declared.Machine.{Machine}

-- a handler with bits 0, 1, 62, 63 cleared
abbrev pub clear_handler : ℕ → ℕ
clear_handler v = bit_and v 0x3ffffffffffffffc

-- "only the permission bits listed", of each region from number n on
abbrev pub permissions_fit : ℕ → List Region → Bool
permissions_fit n [] = true
permissions_fit n (r ∷ rs) = permission_fits n r.permission && permissions_fit (suc n) rs

-- "occurred at most 1, fault region and op at most 3", and the fault region at most 10 (02, Job 7)
abbrev pub fault_fits : Fault → Bool
fault_fits f = leb f.occurred 1 && (leb f.region last_region && leb f.op fetch_op)

-- "mode at most 1, reason at most 2, options at most 15; handler bits 0, 1, 62, 63 clear; selector 0 to 3, 0 for none", which
-- goes up to 10 (02, Job 7)
unfoldable pub state_fits : HfiState → Bool
state_fits h =
    leb h.mode 1 && (leb h.reason 2 && (leb h.options largest_options
    && (eqb (clear_handler h.handler) h.handler && (leb h.selector last_region
    && (permissions_fit 1 h.regions && fault_fits h.fault)))))

-- "x0 is 0", and the rest
unfoldable pub well_formed : Machine → Bool
well_formed m = eqb (reg m.x 0) 0 && state_fits m.hfi
