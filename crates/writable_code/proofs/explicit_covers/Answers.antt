-- Each region is asked.
use Rattle.std.proofs.Common.{sym, ◌∙◌, rules}
use borrow.Author.Tests.{tests}
use Rattle.std.proofs.lemmas.Iterator.{YieldsList-from_slice}
use Rattle.std.proofs.lemmas.Iterator.Search.{any_from_yields_List}
use Rattle.model.specs.Machine.{region}
use Rattle.model.specs.WritableCode.{covers}
use Rattle.writable_code.proofs.Explicit.{covers_any}
use Rattle.writable_code.proofs.explicit_covers.Goals as goal

pub returns : goal.returns
returns c =
    let rs = c.args.rs.now in
    let ns = c.args.ns.now in
    let wanted = c.args.wanted in
    any_from_yields_List (λ n. covers wanted c.args.a (region rs n)) _ _ c.any.result c.any.ensures.ran (YieldsList-from_slice ns cc) (λ x b q k. search (rules, tests)) ∙ sym (covers_any rs ns wanted c.args.a)
