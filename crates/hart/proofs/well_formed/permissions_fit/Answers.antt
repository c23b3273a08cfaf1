-- Each region's permission is tested.
use Rattle.std.proofs.Common.{sym, ◌+◌, ◌∙◌, rules}
use borrow.Author.Tests.{tests}
use Rattle.std.proofs.lemmas.Iterator.{YieldsList-from_slice}
use Rattle.std.proofs.lemmas.Iterator.Consumers.{YieldsList-from_enumerate}
use Rattle.std.proofs.lemmas.Iterator.Search.{all_from_yields_List}
use Rattle.model.specs.Regions.{permission_fits}
use Rattle.hart.proofs.Fitting.{fits_is}
use Rattle.hart.proofs.well_formed.permissions_fit.Goals as goal

pub returns : goal.returns
returns c =
    let rs = c.args.rs.now in
    all_from_yields_List (λ p. permission_fits (p.0 + 1) p.1.permission) _ _ c.all.result c.all.ensures.ran (YieldsList-from_enumerate (YieldsList-from_slice rs cc) cc) (λ x b q k. search (rules, tests)) ∙ sym (fits_is 0 rs)
