-- The first line ends at its first 0a.
use Rattle.std.proofs.Common.{[], refl, sym, ◌∙◌}
use Rattle.text.specs.Scan.{newline}
use Rattle.text.proofs.Splitting.{split_first}
use Rattle.text.proofs.field.line_at.Goals as goal

pub returns : goal.returns
returns c = rw c.rest.ensures.0 at c.split_byte.ensures.0 ∙ sym (split_first newline [] _ refl)
