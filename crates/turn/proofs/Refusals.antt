-- No refusal has the number 0; and the slots that are asked.
-- Assumes nothing.
use Rattle.std.proofs.Common.{◌≡◌, List, [], ◌∷◌, ℕ, zero, suc, ◌+◌, ◌-◌, ◌<◌, ◌≤◌, length, refl, sym, ap, ◌∙◌, arith}
use Rattle.std.proofs.lemmas.List.{get_or-take, get_or_default}
use lib.ListN.{get_or, take}
use Rattle.scheduler.specs.Turn.{refusal_number, slot, no_slot}
use Rattle.scheduler.specs.declared.Slot.{Slot}
use Rattle.scheduler.specs.declared.Refusal.{Refusal}
use Rattle.scheduler.specs.declared.Refusal.TheVariants.{CallRefused, SlotCount, Allowance, Unlocked}
use Rattle.model.specs.declared.stop.CallRefusal.TheVariants.{MemoryTooLong, NotWellFormed, WritableCode}

pub never_zero : (r : Refusal) → refusal_number r ≡ 0 → ⊥
never_zero (CallRefused MemoryTooLong) e = absurd (omega (arith, e))
never_zero SlotCount e = absurd (omega (arith, e))
never_zero Allowance e = absurd (omega (arith, e))
never_zero (CallRefused NotWellFormed) e = absurd (omega (arith, e))
never_zero (CallRefused WritableCode) e = absurd (omega (arith, e))
never_zero Unlocked e = absurd (omega (arith, e))

-- a slot that is there, whatever is read where there is none
-- a slot of the first k, by its place, whatever is read where there is none
pub taken_slot : (ds : List Slot) (k i : ℕ) (e : Slot) → i < k → k ≤ length ds → get_or (take k ds) i e ≡ slot ds (i + 1)
taken_slot ds k i e l h =
    let back : i + 1 - 1 ≡ i = omega arith in
    get_or-take k ds i e l ∙ get_or_default ds i e no_slot (omega (arith, l, h)) ∙ ap (λ j. get_or ds j no_slot) (sym back)
