-- The values are those of line 1.
use Rattle.std.proofs.Common.{ap, ◌∙◌}
use Rattle.sheet.proofs.read_sheet.Goals as goal

pub ask_sheet-requires : goal.ask_sheet-requires
ask_sheet-requires c = (c.requires, c.line_at-line.ensures, c.apart-asked.ensures.1 ∙ ap (λ r. r.question) c.read_setup.ensures)
