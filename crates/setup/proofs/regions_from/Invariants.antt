-- Storing the rest of the regions here comes to storing them all.
use Rattle.std.proofs.Common.{◌≡◌, ◌-◌, ◌++◌, length, replicate}
use Rattle.model.specs.Machine.{last_region, no_region, regions_from}
use Rattle.setup.proofs.Regions.{stored_from}
use Rattle.setup.proofs.regions_from.Given as goal

abbrev pub invariant-loop-i : goal.invariant-loop-i
invariant-loop-i l =
    (length l.regions ≡ last_region)
    × (stored_from l.values l.first l.n l.i l.regions ≡ regions_from l.values l.first l.n ++ replicate (last_region - l.n) no_region)
