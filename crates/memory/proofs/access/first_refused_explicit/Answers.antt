use Rattle.std.proofs.Common.{◌≡◌, ℕ, ◌^◌, true, cond, ◌&&◌, ◌||◌, eqb, ltb, refl, ◌∙◌, lit≤, arith, rules}
use Rattle.model.specs.Bytes.{byte_of}
use Rattle.model.specs.Regions.{explicit_grants}
use Rattle.model.specs.Access.{offset}
use Rattle.memory.proofs.Loops.{explicit_asked, explicit_whole}
use Rattle.memory.proofs.access.first_refused_explicit.Goals as goal

-- the code's FAR
abbrev far : ℕ
far = 2 ^ 62

pub returns-then-n-r : goal.returns-then-n-r
returns-then-n-r c =
    let a = c.args in
    explicit_whole far a.h.now.mode a.r a.wanted a.offset.operand a.offset.imm a.n (lit≤ tt) (lit≤ tt) a.offset.short c.requires.1
    c.explicit_rule.ensures c.permits.ensures (search rules) c.if-ok.true (rw (← c.sum-sum.ensures) c.if-sum-r.true) (rw (← c.sum-sum.ensures) c.if-n-r.true)

pub returns : goal.returns
returns c =
    let a = c.args in
    c.first_failing.ensures
    (λ i. cond (eqb a.h.now.mode 0) true (explicit_grants a.r a.wanted (offset a.offset.operand a.offset.imm) i))
    (λ i t h p.
    let said : t ≡ (eqb a.h.now.mode 0 || (((c.explicit_rule.result && c.permits.result) && ltb a.offset.operand far) && ltb (byte_of c.sum-sum.result i) a.r.bound)) = search rules in
    said ∙ explicit_asked far a.h.now.mode a.r a.wanted a.offset.operand a.offset.imm i (lit≤ tt) (lit≤ tt) a.offset.short (omega (arith, h, c.requires.1))
    c.explicit_rule.ensures c.permits.ensures c.sum-sum.ensures refl)
