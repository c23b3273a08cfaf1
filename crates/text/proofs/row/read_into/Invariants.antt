-- The slots have the fields so far.
use Rattle.std.proofs.Common.{◌≡◌, map}
use Rattle.text.specs.Split.{row_as, values_of, widths_of}
use Rattle.text.proofs.Rows.{row_by}
use Rattle.text.proofs.row.read_into.Given as goal

abbrev pub invariant-loop-f : goal.invariant-loop-f
invariant-loop-f l = row_as l.count l.slots ≡ row_by (values_of l.fn.slots) (widths_of l.fn.slots) (map (λ f. f.now) l.yielded)
