use Rattle.std.proofs.Common.{rules, ◌≡◌}
use Rattle.std.proofs.lemmas.List.FromFn.{fill_by_all}
use borrow.Author.Tests.{tests}
use Rattle.turns.specs.Stored.{number_at, numbers_of}
use Rattle.turn.proofs.FromFn.{made_at}
use Rattle.turns.proofs.stored.numbers.Goals as goal

pub returns : goal.returns
unfolding numbers_of
returns c =
    let r = c.args.r.now in
    fill_by_all (number_at r) _ 82 0 c.from_fn.ensures.items.long
    (λ i h. made_at _ _ (λ i n. n ≡ number_at r i) (λ i y q k. search (rules, tests)) _ 82 c.from_fn.ensures.items i h 0)
