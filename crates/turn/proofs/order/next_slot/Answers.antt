use Rattle.std.proofs.Common.{rules, ◌≡◌, unwrap_or, ℕ, ap, sym, ◌∙◌, refl}
use Rattle.std.specs.Prelude.{Option, Some, None, option_map}
use borrow.Author.Tests.{tests}
use Rattle.std.proofs.lemmas.Iterator.{YieldsList-from_range}
use Rattle.std.proofs.lemmas.Iterator.Consumers.{YieldsList-from_chain}
use Rattle.std.proofs.lemmas.Iterator.Search.{find_from_yields_List}
use Rattle.scheduler.specs.Turn.{place_in}
use Rattle.turn.proofs.Ranges.{YieldsList-from_range_inclusive}
use Rattle.turn.proofs.Asked.{unstopped, first_asked}
use Rattle.turn.proofs.order.next_slot.Goals as goal

same : (o : Option ℕ) → unwrap_or o 0 ≡ unwrap_or (option_map (λ n. n) o) 0
same None = refl
same (Some n) = refl

pub returns-clause-value : goal.returns-clause-value
returns-clause-value c =
    let s = c.args.s.now in
    let p = place_in s.count s.place in
    let found =
    find_from_yields_List (unstopped s.slots) _ _ c.find.result c.find.ensures.ran
    (YieldsList-from_chain (YieldsList-from_range_inclusive p s.count _ (search rules) (search rules) (search rules) refl)
    (YieldsList-from_range 1 p _ (search rules) refl) (search rules) (search rules))
    (λ x b q k. search (rules, tests)) in
    same c.find.result ∙ ap (λ o. unwrap_or o 0) found ∙ sym (first_asked s.slots s.count s.place)
