-- Each permission is tested.
use Rattle.std.proofs.Common.{leb, sym, ◌∙◌, rules}
use borrow.Author.Tests.{tests}
use Rattle.std.proofs.lemmas.Iterator.{YieldsList-from_slice}
use Rattle.std.proofs.lemmas.Iterator.Search.{all_from_yields_List}
use Rattle.setup.proofs.Regions.{in_range_is}
use Rattle.setup.proofs.permissions_in_range.Goals as goal

pub returns : goal.returns
returns c =
    let rs = c.args.rs.now in
    all_from_yields_List (λ r. leb r.permission 0xff) _ _ c.all.result c.all.ensures.ran (YieldsList-from_slice rs cc) (λ x b q k. search (rules, tests)) ∙ sym (in_range_is rs)
