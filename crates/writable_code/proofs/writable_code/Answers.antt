-- Each region's edges are asked.
use Rattle.std.proofs.Common.{sym, ◌+◌, ◌∙◌, rules}
use borrow.Author.Tests.{tests}
use Rattle.std.proofs.lemmas.Iterator.{YieldsList-from_slice}
use Rattle.std.proofs.lemmas.Iterator.Consumers.{YieldsList-from_enumerate}
use Rattle.std.proofs.lemmas.Iterator.Search.{any_from_yields_List}
use Rattle.model.specs.Regions.{region_kind}
use Rattle.model.specs.WritableCode.{both_at, edges_of, some, writable_code}
use Rattle.writable_code.proofs.Edges.{edges_any}
use Rattle.writable_code.proofs.writable_code.Goals as goal

pub returns : goal.returns
unfolding writable_code
returns c =
    let rs = c.args.rs.now in
    any_from_yields_List (λ p. some (both_at rs) (edges_of (region_kind (p.0 + 1)) p.1)) _ _ c.any.result c.any.ensures.ran (YieldsList-from_enumerate (YieldsList-from_slice rs cc) cc) (λ x b q k. search (rules, tests)) ∙ sym (edges_any (both_at rs) 0 rs)
