-- The state line's values are its fields' numbers.
use Rattle.std.proofs.Common.{◌≡◌, refl, ap, ◌∙◌}
use Rattle.calls.specs.Stored.{state_values}
use Rattle.calls.proofs.stored.machine.Goals as goal

pub returns : goal.returns
returns c =
    let read : c.values-v.result ≡ state_values c.args.c.now.state.now = c.values-v.ensures ∙ ap (λ r. r.values) c.read_row.ensures in
    rw (c.registers.ensures, c.regions_from.ensures, read) refl
