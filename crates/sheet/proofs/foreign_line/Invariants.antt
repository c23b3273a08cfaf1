-- The bytes before this one are a sheet's, and `lineno` is the number of its line.
use Rattle.std.proofs.Common.{◌≡◌, ◌+◌, drop}
use Rattle.text.specs.Scan.{first_that, line_number}
use Rattle.sheet.specs.Sheet.{foreign}
use Rattle.sheet.proofs.foreign_line.Given as goal

abbrev pub invariant-loop-b : goal.invariant-loop-b
invariant-loop-b l = (l.lineno ≡ line_number l.s l.b-index) × (l.b-index + first_that foreign (drop l.b-index l.s) ≡ first_that foreign l.s)
