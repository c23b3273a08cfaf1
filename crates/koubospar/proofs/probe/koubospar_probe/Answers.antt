use Rattle.std.proofs.Common.{rules, ◌≡◌, ◌+◌, ◌*◌, ℕ, refl}
use Rattle.std.proofs.lemmas.List.FromFn.{fill_by_all}
use borrow.Author.Tests.{tests}
use Rattle.model.specs.Machine.{no_region}
use Rattle.model.specs.declared.Region.{Region}
use Rattle.turn.proofs.FromFn.{made_at}
use Rattle.koubospar.proofs.probe.koubospar_probe.Goals as goal

region : ℕ → Region
region i = record { base = 1039 + 3 * i; bound = 1039 + 3 * i + 1; permission = 1039 + 3 * i + 2 }

pub returns : goal.returns
unfolding region
returns c =
    let items = c.from_fn-regions.ensures.items in
    rw (fill_by_all region _ 10 no_region items.long (λ i h. made_at _ _ (λ i r. r ≡ region i) (λ i y q k. search (rules, tests)) _ 10 items i h no_region)) refl
