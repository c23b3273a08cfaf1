-- A pair more, a last number without a value, or the line's end.
use Rattle.std.proofs.Common.{ap, sym, ◌∙◌, rules}
use borrow.Author.Tests.{tests}
use Rattle.std.proofs.lemmas.Iterator.Splits.{YieldsList-from_slice_split}
use Rattle.std.proofs.lemmas.Iterator.Adapters.{YieldsList-from_skip}
use Rattle.text.specs.Scan.{is, comma}
use Rattle.calls.specs.Stored.{put_doubleword}
use Rattle.calls.proofs.Pairs.{put_start, put_two, put_lone, put_empty, put_none}
use Rattle.calls.proofs.stored.fill.Goals as goal

pub loop-a-init : goal.loop-a-init
loop-a-init c =
    put_start c.args.mem.now c.args.line.now (YieldsList-from_skip 1 (YieldsList-from_slice_split _ (is comma) c.args.line.now (cc) (cc) (cc) (λ x b q k. search (rules, tests))) (cc))

pub loop-a-preserved : goal.loop-a-preserved
loop-a-preserved c =
    let more = put_two c.loop-a.invariant c.next.ensures.steps c.next-in-Some.ensures.steps c.in-Some.is c.in-Some-next.is in
    rw (c.put-in-Some.ensures, c.number-in-Some.ensures, c.number-in-Some-2.ensures) more

pub returns-then-not-is_empty : goal.returns-then-not-is_empty
returns-then-not-is_empty c =
    c.put.ensures
    ∙ ap (λ n. put_doubleword c.loop-a.mem n 0) c.number.ensures
    ∙ put_lone c.loop-a.invariant c.next.ensures.steps c.next-in-Some.ensures.steps c.in-Some.is c.in_default-next.is (sym c.is_empty.ensures ∙ c.if-not-is_empty.true)

pub returns-else-not-is_empty : goal.returns-else-not-is_empty
returns-else-not-is_empty c =
    put_empty c.loop-a.invariant c.next.ensures.steps c.next-in-Some.ensures.steps c.in-Some.is c.in_default-next.is (sym c.is_empty.ensures ∙ c.if-not-is_empty.false)

pub returns-in_default : goal.returns-in_default
returns-in_default c = put_none c.loop-a.invariant c.next.ensures.steps c.in_default.is
