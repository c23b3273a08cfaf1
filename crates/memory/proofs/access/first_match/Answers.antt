use Rattle.std.proofs.Common.{◌∙◌, rules}
use borrow.Author.Tests.{tests}
use Rattle.std.proofs.lemmas.Iterator.{YieldsList-from_slice}
use Rattle.std.proofs.lemmas.Iterator.Consumers.{YieldsList-from_copied}
use Rattle.std.proofs.lemmas.Iterator.Search.{find_from_yields_List}
use Rattle.model.specs.Machine.{region}
use Rattle.model.specs.Regions.{matches}
use Rattle.memory.proofs.Whole.{match_found}
use Rattle.memory.proofs.access.first_match.Goals as goal

pub returns : goal.returns
returns c =
    let a = c.args in
    let found = find_from_yields_List (λ n. matches (region a.rs.now n) a.a) _ _ c.find.result c.find.ensures.ran (YieldsList-from_copied (YieldsList-from_slice a.ns.now cc)) (λ x b q k. search (rules, tests)) in
    c.unwrap_or.ensures ∙ match_found a.rs.now a.ns.now a.a c.find.result found
