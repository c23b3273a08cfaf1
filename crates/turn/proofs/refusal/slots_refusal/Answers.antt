use Rattle.std.proofs.Common.{◌≡◌, ◌+◌, ◌-◌, ◌<◌, length, sym, ap, ◌∙◌, arith, rules}
use lib.Seq.{length-take-le}
use Rattle.scheduler.specs.Turn.{slot, slot_refusal, slots_refusal, refused_number}
use Rattle.scheduler.specs.declared.Slot.{Slot}
use Rattle.scheduler.proofs.Turn.{slots_none, slots_here, slots_on}
use Rattle.turn.proofs.Refusals.{never_zero, taken_slot}
use Rattle.turn.proofs.refusal.slots_refusal.Goals as goal

pub returns-in_err-slot_refusal : goal.returns-in_err-slot_refusal
returns-in_err-slot_refusal c =
    let ds = c.args.slots.now in
    let l = c.loop-d in
    let long : length ds ≡ 4 = search rules in
    let all = length-take-le c.args.count ds (omega (arith, c.requires, long)) in
    let less : l.d-index < c.args.count = omega (arith, c.loop-d-test.true, all) in
    let it = taken_slot ds c.args.count l.d-index _ less (omega (arith, c.requires, long)) in
    let said = c.in_err-slot_refusal.ensures ∙ ap (λ (d : Slot). slot_refusal d) it in
    let r : refused_number c.from_residual.result ≡ slot_refusal (slot ds (l.d-index + 1)) = search (rules, said) in
    let here = slots_here ds (c.args.count - l.d-index) (l.d-index + 1) (omega (arith, less)) (λ e. never_zero c.in_err-slot_refusal.field-0.0 (said ∙ e)) in
    r ∙ sym here ∙ l.invariant

pub loop-d-preserved : goal.loop-d-preserved
loop-d-preserved c =
    let ds = c.args.slots.now in
    let l = c.loop-d in
    let long : length ds ≡ 4 = search rules in
    let all = length-take-le c.args.count ds (omega (arith, c.requires, long)) in
    let less : l.d-index < c.args.count = omega (arith, c.loop-d-test.true, all) in
    let it = taken_slot ds c.args.count l.d-index _ less (omega (arith, c.requires, long)) in
    let r : slot_refusal (slot ds (l.d-index + 1)) ≡ 0 = ap (λ (d : Slot). slot_refusal d) (sym it) ∙ sym c.in_ok-slot_refusal.ensures in
    let one : c.args.count - (l.d-index + 1) ≡ c.args.count - l.d-index - 1 = omega arith in
    ap (λ k. slots_refusal ds k (l.d-index + 1 + 1)) one ∙ sym (slots_on ds (c.args.count - l.d-index) (l.d-index + 1) (omega (arith, less)) r) ∙ l.invariant

pub returns : goal.returns
returns c =
    let ds = c.args.slots.now in
    let l = c.loop-d in
    let long : length ds ≡ 4 = search rules in
    let all = length-take-le c.args.count ds (omega (arith, c.requires, long)) in
    sym (slots_none ds (c.args.count - l.d-index) (l.d-index + 1) (omega (arith, c.loop-d-test.false, all))) ∙ l.invariant
