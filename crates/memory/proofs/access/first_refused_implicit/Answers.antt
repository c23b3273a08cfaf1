use Rattle.std.proofs.Common.{true, cond, eqb, rules}
use Rattle.model.specs.Bytes.{byte_of}
use Rattle.model.specs.Regions.{implicit_grants}
use Rattle.model.specs.Access.{first_refused}
use Rattle.memory.proofs.access.first_refused_implicit.Goals as goal

pub returns : goal.returns
unfolding first_refused
returns c =
    let a = c.args in
    c.first_failing.ensures
    (λ i. cond (eqb a.h.now.mode 0) true (implicit_grants a.h.now.regions a.access.regions.now a.access.wanted (byte_of a.access.first i)))
    (λ i t h p. search rules)
