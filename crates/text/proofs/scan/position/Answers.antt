-- The search answers the first place, or none.
use Rattle.std.proofs.Common.{◌∙◌, arith, rules}
use borrow.Author.Tests.{tests}
use Rattle.std.proofs.lemmas.Iterator.{YieldsList-from_slice}
use Rattle.std.proofs.lemmas.Iterator.Search.{position_from_yields_List}
use Rattle.text.specs.Scan.{is}
use Rattle.text.proofs.Scanning.{first_found, first_le}
use Rattle.text.proofs.scan.position.Goals as goal

pub returns : goal.returns
returns c =
    let s = c.args.s.now in
    let found = position_from_yields_List (is c.args.c) _ _ c.position.result c.position.ensures.ran (YieldsList-from_slice s cc) (λ x b q k. search (rules, tests)) in
    let first = c.unwrap_or.ensures ∙ first_found (is c.args.c) s c.position.result found in
    (first, omega (arith, first, first_le (is c.args.c) s))
