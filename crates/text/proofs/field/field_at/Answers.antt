-- The first field ends at its first comma.
use Rattle.std.proofs.Common.{[], ◌∷◌, refl, sym, ◌∙◌}
use Rattle.text.specs.Scan.{comma}
use Rattle.text.proofs.Splitting.{split_first}
use Rattle.text.proofs.field.field_at.Goals as goal

pub returns : goal.returns
returns c = rw c.rest.ensures.0 at c.split_byte.ensures.0 ∙ sym (split_first comma ([] ∷ []) _ refl)
