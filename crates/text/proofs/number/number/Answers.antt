-- A digit more multiplies v by the base and adds its value; 16 digits fit 64 bits.
use Rattle.std.proofs.Common.{◌+◌, ◌*◌, drop, sym, ap, ◌∙◌, arith, rules}
use borrow.Author.Tests.{le-leb}
use Rattle.text.specs.Number.{spelled}
use Rattle.text.proofs.Numbers.{spelled_on, spelled_off, spelled_more, spelled_fits}
use Rattle.text.proofs.number.number.Goals as goal

pub overflow_mul-v : goal.overflow_mul-v
overflow_mul-v c = omega (arith, spelled_fits c.args.base c.loop-b.v c.loop-b.b-index c.requires c.loop-b.invariant.1 (omega arith))

pub overflow_add-v : goal.overflow_add-v
overflow_add-v c = omega (arith, spelled_fits c.args.base c.loop-b.v c.loop-b.b-index c.requires c.loop-b.invariant.1 (omega arith))

pub loop-b-preserved : goal.loop-b-preserved
loop-b-preserved c =
    let l = c.loop-b in
    let base = c.args.base in
    let s = c.args.s.now in (
      search rules,
      spelled_more base l.v c.digit_value.result l.b-index c.requires l.invariant.1 c.digit_value.ensures.1,
      ap (λ d. spelled base (l.v * base + d) (drop (l.b-index + 1) s)) c.digit_value.ensures.0
          ∙ sym (spelled_on s l.b-index base l.v c.loop-b-test.true)
          ∙ l.invariant.2,
    )

pub returns : goal.returns
returns c =
    simp (le-leb _ _ c.loop-b.invariant.0)
    (sym (spelled_off _ _ c.args.base _ c.loop-b-test.false) ∙ c.loop-b.invariant.2)
