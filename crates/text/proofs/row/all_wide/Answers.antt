-- Each width is tested.
use Rattle.std.proofs.Common.{sym, ◌∙◌, rules}
use borrow.Author.Tests.{tests}
use Rattle.std.proofs.lemmas.Iterator.{YieldsList-from_slice}
use Rattle.std.proofs.lemmas.Iterator.Search.{all_from_yields_List}
use Rattle.text.specs.Split.{wide}
use Rattle.text.proofs.Rows.{wide_is}
use Rattle.text.proofs.row.all_wide.Goals as goal

pub returns : goal.returns
returns c =
    let fs = c.args.fields.now in
    all_from_yields_List (λ f. wide f.width) _ _ c.all.result c.all.ensures.ran (YieldsList-from_slice fs cc) (λ x b q k. search (rules, tests)) ∙ sym (wide_is fs)
