-- The numbers and the widths of the fields so far.
use Rattle.std.proofs.Common.{◌≡◌, map}
use Rattle.text.specs.Split.{row_with}
use Rattle.text.proofs.Rows.{row_by}
use Rattle.text.proofs.row.read_over.Given as goal

abbrev pub invariant-loop-piece : goal.invariant-loop-piece
invariant-loop-piece l = row_with l.n l.values l.widths ≡ row_by l.fn.values l.fn.widths (map (λ f. f.now) l.yielded)
