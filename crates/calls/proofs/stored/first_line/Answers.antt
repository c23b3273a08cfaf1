-- A text's first line ends at its first 0a.
use Rattle.std.proofs.Common.{[], refl, sym, ap, ◌∙◌}
use Rattle.text.specs.Scan.{newline}
use Rattle.text.specs.Split.{lines}
use Rattle.text.proofs.Splitting.{split_first}
use Rattle.calls.proofs.Lines.{other_lines}
use Rattle.calls.proofs.stored.first_line.Goals as goal

pub returns-clause-line : goal.returns-clause-line
returns-clause-line c = c.split_byte.ensures.0 ∙ sym (split_first newline [] _ refl)

pub returns-clause-left : goal.returns-clause-left
returns-clause-left c = ap lines c.split_byte.ensures.1 ∙ other_lines c.args.s.now
