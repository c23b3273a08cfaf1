-- The definitions' kind of region for each of the code's. No promise rests on this file: what a step answers speaks of regions by number.
-- RegionKind is declared in src/regions.rt. Assumes nothing.
use Rattle.model.specs.Regions.{RegionKind, explicit, implicit_data, implicit_code}
use Rattle.hart.specs.declared.regions.RegionKind.{RegionKind as Kind}
use Rattle.hart.specs.declared.regions.RegionKind.TheVariants.{Explicit, ImplicitData, ImplicitCode}

abbrev pub kind_of : Kind → RegionKind
kind_of Explicit = explicit
kind_of ImplicitData = implicit_data
kind_of ImplicitCode = implicit_code
