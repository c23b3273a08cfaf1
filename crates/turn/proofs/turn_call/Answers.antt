-- A turn is refused, or all slots are stopped, or the next slot makes its run.
use Rattle.std.proofs.Common.{◌≡◌, ℕ, ◌≤◌, length, sym, ap, ◌∙◌, arith, rules}
use borrow.Author.Tests.{eq-eqb, ne_eqb}
use Rattle.model.specs.Run.{Ended, run_call}
use Rattle.scheduler.specs.Turn.{most_slots, refusal, refusal_number, next_slot, TurnAnswer, turn_answer, turned_with, no_turn, took_turn, turn_call}
use Rattle.scheduler.specs.declared.Slot.{Slot}
use Rattle.scheduler.specs.declared.Scheduler.{Scheduler}
use Rattle.scheduler.proofs.Round.{within_numbered}
use Rattle.scheduler.proofs.Turn.{accepted, turn_runs}
use Rattle.turn.proofs.Refusals.{never_zero}
use Rattle.turn.proofs.turn_call.Goals as goal

pub returns-in_err-refusal-clause-answer : goal.returns-in_err-refusal-clause-answer
unfolding turn_call
returns-in_err-refusal-clause-answer c =
    let s = c.args.s.now in
    let mem = c.args.mem.now in
    let why = c.in_err-refusal.field-0.0 in
    let said : refusal_number why ≡ refusal s (length mem) c.args.allowance = c.in_err-refusal.ensures in
    let r : turn_answer c.from_residual.result s ≡ no_turn (refusal_number why) s = search rules in
    rw (ne_eqb (refusal s (length mem) c.args.allowance) 0 (λ e. never_zero why (said ∙ e)))
    (ap (λ (t : TurnAnswer). turned_with t mem) r ∙ ap (λ k. turned_with (no_turn k s) mem) said)

-- a turn that is not refused has 1 to 4 slots
in_slots : (s : Scheduler) (size allowance n : ℕ) → refusal s size allowance ≡ 0 → (1 ≤ n) × (n ≤ s.count) → (1 ≤ n) × (n ≤ most_slots)
in_slots s size allowance n e h = let k = within_numbered most_slots s.count (accepted s size allowance e).count in (h.0, omega (arith, h.1, k.high))

pub slot_at-requires : goal.slot_at-requires
slot_at-requires c = in_slots c.args.s.now (length c.args.mem.now) c.args.allowance c.in-Some.n (sym c.in_ok-refusal.ensures) c.in-Some.ensures.numbered

pub took_turn-requires : goal.took_turn-requires
took_turn-requires c = in_slots c.args.s.now (length c.args.mem.now) c.args.allowance c.in-Some.n (sym c.in_ok-refusal.ensures) c.in-Some.ensures.numbered

pub returns-in_default-clause-answer : goal.returns-in_default-clause-answer
unfolding turn_call
returns-in_default-clause-answer c =
    let s = c.args.s.now in
    rw (eq-eqb (refusal s (length c.args.mem.now) c.args.allowance) 0 (sym c.in_ok-refusal.ensures), eq-eqb (next_slot s) 0 (sym c.in_default.ensures.value))

pub returns-clause-answer : goal.returns-clause-answer
returns-clause-answer c =
    let s = c.args.s.now in
    let mem = c.args.mem.now in
    let n = c.in-Some.n in
    let ran = c.run_call-r.ensures ∙ ap (λ (d : Slot). run_call d.machine mem c.args.allowance) c.slot_at.ensures in
    ap (λ (t : TurnAnswer). turned_with t c.run_call-r.new.mem) c.took_turn.ensures.answer
    ∙ ap (λ (e : Ended). turned_with (took_turn s n e.result) e.memory) ran
    ∙ sym (turn_runs s mem c.args.allowance n (sym c.in_ok-refusal.ensures) (sym c.in-Some.ensures.value)
    (λ e. omega (arith, e, c.in-Some.ensures.numbered.0)))

-- the slot is the next one's
pub returns-clause-made : goal.returns-clause-made
returns-clause-made c =
    rw c.took_turn.ensures.whose (in_slots c.args.s.now (length c.args.mem.now) c.args.allowance c.in-Some.n (sym c.in_ok-refusal.ensures) c.in-Some.ensures.numbered)
