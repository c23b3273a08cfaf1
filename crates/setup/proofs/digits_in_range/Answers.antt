-- The fields before the budget, then the budget.
use Rattle.std.proofs.Common.{sym, ◌∙◌}
use lib.ListN.{get_or-map}
use Rattle.std.proofs.lemmas.List.{take-map}
use Rattle.setup.specs.Setup.{regions_in, budget_field}
use Rattle.setup.proofs.digits_in_range.Goals as goal

pub returns-then-all_wide : goal.returns-then-all_wide
returns-then-all_wide c =
    let fs = c.args.fields.now in
    let k = budget_field (regions_in c.args.form) in
    let last = c.budget_field-last.ensures in
    let wide = rw last at (sym c.all_wide.ensures ∙ c.if-all_wide.true) in
    rw (last, get_or-map (λ f. f.width) fs k (record { value = 0; width = 0 }), take-map (λ f. f.width) k fs, wide)

pub returns-else-all_wide : goal.returns-else-all_wide
returns-else-all_wide c =
    let fs = c.args.fields.now in
    let k = budget_field (regions_in c.args.form) in
    let wide = rw c.budget_field-last.ensures at (sym c.all_wide.ensures ∙ c.if-all_wide.false) in
    rw (take-map (λ f. f.width) k fs, wide) c.if-all_wide.false
