use Rattle.std.proofs.Common.{ap, ◌∙◌}
use Rattle.model.specs.Access.{explicit_access, offset, first_refused}
use Rattle.memory.specs.Loops.{explicit_refused, explicit_first, presence_of}
use Rattle.memory.proofs.Loops.{granted_verdict}
use Rattle.memory.proofs.access.check_explicit.Goals as goal

pub returns : goal.returns
unfolding first_refused
returns c =
    let a = c.args in
    let e = c.region_at-r.ensures in
    granted_verdict a.h.now.mode a.len (explicit_access a.h.now.regions a.number a.wanted (offset a.offset.operand a.offset.imm) a.n)
    (c.first_refused_explicit-i.ensures ∙ ap (λ r. explicit_refused a.h.now.mode r a.wanted (offset a.offset.operand a.offset.imm) a.n) e) c.if-i-n.false
    (c.presence.ensures ∙ ap (λ f. presence_of a.len f a.n) (c.explicit_address-a.ensures ∙ ap (λ r. explicit_first r (offset a.offset.operand a.offset.imm)) e))
