-- What a turn answers is, whole, what its contract says: a refusal, that all slots are stopped, and the turn of a slot are three records of the definitions,
-- where a turn that was made has a slot.
-- Assumes nothing.
use Rattle.std.proofs.Common.{◌≡◌, ℕ, ◌≤◌, Option, Some, None, Result, Ok, Err, [], ◌∷◌, refl, sym, ap, ◌∙◌, arith}
use Rattle.std.specs.Prelude.{IfOk, IfSome}
use Rattle.instructions.specs.Table.{lookup}
use Rattle.model.specs.declared.stop.CallRefusal.TheVariants.{MemoryTooLong, NotWellFormed, WritableCode}
use Rattle.model.proofs.Stops.{same_stop}
use Rattle.scheduler.specs.Turn.{refusal_number, TurnAnswer, turn_answer}
use Rattle.scheduler.specs.declared.Scheduler.{Scheduler}
use Rattle.scheduler.specs.declared.Turned.{Turned}
use Rattle.scheduler.specs.declared.Refusal.{Refusal}
use Rattle.scheduler.specs.declared.Refusal.TheVariants.{CallRefused, SlotCount, Allowance, Unlocked}
use Rattle.turn.proofs.Refusals.{never_zero}

-- the refusal of a number; of one that no refusal has, whatever one
abbrev told : ℕ → Refusal
told number =
    lookup Unlocked (
    (1, CallRefused MemoryTooLong) ∷ (3, CallRefused NotWellFormed) ∷ (4, CallRefused WritableCode)
    ∷ (50, SlotCount) ∷ (51, Allowance) ∷ (52, Unlocked) ∷ []
    ) number

tells : (r : Refusal) → told (refusal_number r) ≡ r
tells (CallRefused MemoryTooLong) = refl
tells (CallRefused NotWellFormed) = refl
tells (CallRefused WritableCode) = refl
tells SlotCount = refl
tells Allowance = refl
tells Unlocked = refl

pub same_refusal : (r q : Refusal) → refusal_number r ≡ refusal_number q → r ≡ q
same_refusal r q e = sym (tells r) ∙ (ap told e ∙ tells q)

-- a turn that was made has a slot
abbrev pub Made : Result (Option Turned) Refusal → Type 0
Made r = IfOk r (λ o. IfSome o (λ t. 1 ≤ t.slot))

pub same_turn : (r q : Result (Option Turned) Refusal) (s t : Scheduler) → Made r → Made q → turn_answer r s ≡ turn_answer q t → r ≡ q
same_turn (Err a) (Err b) s t m n e = ap Err (same_refusal a b (ap (λ (x : TurnAnswer). x.stop) e))
same_turn (Err a) (Ok None) s t m n e = absurd (never_zero a (ap (λ (x : TurnAnswer). x.stop) e))
same_turn (Err a) (Ok (Some u)) s t m n e = let slot = ap (λ (x : TurnAnswer). x.slot) e in absurd (omega (arith, slot, n))
same_turn (Ok None) (Err b) s t m n e = absurd (never_zero b (sym (ap (λ (x : TurnAnswer). x.stop) e)))
same_turn (Ok None) (Ok None) s t m n e = refl
same_turn (Ok None) (Ok (Some u)) s t m n e = let slot = ap (λ (x : TurnAnswer). x.slot) e in absurd (omega (arith, slot, n))
same_turn (Ok (Some u)) (Err b) s t m n e = let slot = ap (λ (x : TurnAnswer). x.slot) e in absurd (omega (arith, slot, m))
same_turn (Ok (Some u)) (Ok None) s t m n e = let slot = ap (λ (x : TurnAnswer). x.slot) e in absurd (omega (arith, slot, m))
same_turn (Ok (Some u)) (Ok (Some v)) s t m n e =
    let slot = ap (λ (x : TurnAnswer). x.slot) e in
    let stop = same_stop u.stop v.stop (ap (λ (x : TurnAnswer). x.stop) e) (ap (λ (x : TurnAnswer). x.address) e) in
    let count = ap (λ (x : TurnAnswer). x.count) e in
    λ i. Ok (Some (record { slot = slot i; stop = stop i; count = count i }))
