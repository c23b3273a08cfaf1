-- The words of opcode 5b by what question 8 may ask of them, and two of the table's answers, word by word.
-- They stand apart from Broken.antt, so that an edit of the table that moves a proof here is refused there, by what is false.
-- Assumes nothing.
use mathlib.Core.Path.{◌≡◌, refl}
use mathlib.Core.Bool.{Bool, true, false, ◌&&◌, ◌||◌}
use Prim.Native.Nat.{ℕ}
use lib.Dec.{eqb, leb}
use Rattle.std.proofs.lemmas.Bool.{both_ways}
use Rattle.instructions.specs.Kinds.{hfi_code}
use Rattle.instructions.specs.declared.kind.HfiKind.{HfiKind}
use Rattle.instructions.specs.declared.kind.HfiKind.TheVariants.{Enter, EnterJump, Exit, SelectRegion, SetBase, GetBase, SetBound, GetBound, SetPermission, GetPermission, SetHandler, GetHandler, ResetRegions}
use Rattle.model.specs.Machine.{locked}
use Rattle.model.specs.Hfi.{first_broken, word_rules}
use Rattle.model.specs.declared.HfiState.{HfiState}

-- either enter form
pub data Enters : HfiKind → Type 0 where
  plain : Enters Enter
  jump : Enters EnterJump

-- "funct7 3 to 9, 11 or 12"
abbrev pub lockable : HfiKind → Bool
lockable k = (leb 3 (hfi_code k) && leb (hfi_code k) 9) || (eqb (hfi_code k) 11 || eqb (hfi_code k) 12)

-- "funct7 4 to 9"
abbrev pub of_selection : HfiKind → Bool
of_selection k = leb 4 (hfi_code k) && leb (hfi_code k) 9

module _ (h : HfiState) (a : ℕ) where
  abbrev pub stop : HfiKind → ℕ
  stop k = first_broken (word_rules h k a)

  -- both enter forms have the rules of the plain one
  pub enter_forms : (k : HfiKind) → Enters k → word_rules h k a ≡ word_rules h Enter a
  enter_forms k Enters.plain = refl
  enter_forms k Enters.jump = refl

  pub locked_25 : (k : HfiKind) → lockable k ≡ true → locked h ≡ true → stop k ≡ 25
  locked_25 Enter t l = absurd (both_ways _ refl t)
  locked_25 EnterJump t l = absurd (both_ways _ refl t)
  locked_25 Exit t l = absurd (both_ways _ refl t)
  locked_25 SelectRegion t l = rw l refl
  locked_25 SetBase t l = rw l refl
  locked_25 GetBase t l = rw l refl
  locked_25 SetBound t l = rw l refl
  locked_25 GetBound t l = rw l refl
  locked_25 SetPermission t l = rw l refl
  locked_25 GetPermission t l = rw l refl
  locked_25 SetHandler t l = absurd (both_ways _ refl t)
  locked_25 GetHandler t l = rw l refl
  locked_25 ResetRegions t l = rw l refl

  pub unselected_14 : (k : HfiKind) → of_selection k ≡ true → locked h ≡ false → eqb h.selector 0 ≡ true → stop k ≡ 14
  unselected_14 Enter t l s = absurd (both_ways _ refl t)
  unselected_14 EnterJump t l s = absurd (both_ways _ refl t)
  unselected_14 Exit t l s = absurd (both_ways _ refl t)
  unselected_14 SelectRegion t l s = absurd (both_ways _ refl t)
  unselected_14 SetBase t l s = rw (l, s) refl
  unselected_14 GetBase t l s = rw (l, s) refl
  unselected_14 SetBound t l s = rw (l, s) refl
  unselected_14 GetBound t l s = rw (l, s) refl
  unselected_14 SetPermission t l s = rw (l, s) refl
  unselected_14 GetPermission t l s = rw (l, s) refl
  unselected_14 SetHandler t l s = absurd (both_ways _ refl t)
  unselected_14 GetHandler t l s = absurd (both_ways _ refl t)
  unselected_14 ResetRegions t l s = absurd (both_ways _ refl t)
