-- Laws of question 8's table, once for all its rules: what numbers it gives, and what holds where it allows an instruction. Proofs that go on
-- from here say "any stop of question 8" and name no number.
-- Assumes nothing.
use mathlib.Core.Path.{◌≡◌, refl, sym, ◌∙◌}
use mathlib.Core.Bool.{Bool, true, false, cond, not, ◌&&◌, false≢true}
use mathlib.Core.List.{List, [], ◌∷◌}
use Prim.Native.Nat.{ℕ}
use lib.Dec.{eqb}
use borrow.Author.Tests.{eqb-true, not-true}
use Rattle.std.proofs.lemmas.Bool.{and_parts}
use Rattle.instructions.specs.declared.kind.HfiKind.{HfiKind}
use Rattle.instructions.specs.declared.kind.HfiKind.TheVariants.{Enter, EnterJump, Exit, SelectRegion, SetBase, GetBase, SetBound, GetBound, SetPermission, GetPermission, SetHandler, GetHandler, ResetRegions}
use Rattle.instructions.specs.declared.instruction.Instruction.{Instruction}
use Rattle.instructions.specs.declared.instruction.Instruction.TheVariants.{Upper, Jal, Jalr, Branch, Load, Store, Immediate, Shift, Addiw, ShiftWord, Register, RegisterWord, Fence, System, HLoad, HStore, Hfi}
use Rattle.instructions.specs.HWords.{among}
use Rattle.model.specs.Hfi.{first_broken, word_rules, rules, hfi_stop}
use Rattle.model.specs.declared.HfiState.{HfiState}
use Rattle.model.specs.declared.Machine.{Machine}

-- ---- numbers in a list

abbrev pub every : {A : Type 0} → (A → Bool) → List A → Bool
every p [] = true
every p (a ∷ rest) = p a && every p rest

-- what holds of every number of a list holds of one that is among them
pub of_each : (p : ℕ → Bool) (ns : List ℕ) (n : ℕ) → every p ns ≡ true → among n ns ≡ true → p n ≡ true
of_each p [] n h e = absurd (false≢true e)
of_each p (a ∷ ns) n h e =
    let q = and_parts (p a) (every p ns) h in
    go (eqb n a) refl q.0 (λ u. of_each p ns n q.1 u) e
  where
    go : (b : Bool) → eqb n a ≡ b → p a ≡ true → (among n ns ≡ true → p n ≡ true) → cond b true (among n ns) ≡ true → p n ≡ true
    go true t x f u = rw (eqb-true n a t) x
    go false t x f u = f u

-- ---- the stops of question 8

-- in the order in which they are asked
abbrev pub hfi_stops : List ℕ
hfi_stops = 23 ∷ 24 ∷ 25 ∷ 14 ∷ 22 ∷ []

abbrev pub is_hfi_stop : ℕ → Bool
is_hfi_stop n = among n hfi_stops

-- the table has no other numbers
abbrev listed : List (Bool × ℕ) → Bool
listed = every (λ rule. is_hfi_stop rule.1)

word_listed : (h : HfiState) (k : HfiKind) (a : ℕ) → listed (word_rules h k a) ≡ true
word_listed h Enter a = refl
word_listed h EnterJump a = refl
word_listed h Exit a = refl
word_listed h SelectRegion a = refl
word_listed h SetBase a = refl
word_listed h GetBase a = refl
word_listed h SetBound a = refl
word_listed h GetBound a = refl
word_listed h SetPermission a = refl
word_listed h GetPermission a = refl
word_listed h SetHandler a = refl
word_listed h GetHandler a = refl
word_listed h ResetRegions a = refl

all_listed : (m : Machine) (i : Instruction) → listed (rules m i) ≡ true
all_listed m (Upper k rd imm) = refl
all_listed m (Jal rd offset) = refl
all_listed m (Jalr rd rs1 imm) = refl
all_listed m (Branch k rs1 rs2 offset) = refl
all_listed m (Load k rd rs1 imm) = refl
all_listed m (Store k rs1 rs2 imm) = refl
all_listed m (Immediate k rd rs1 imm) = refl
all_listed m (Shift k rd rs1 amount) = refl
all_listed m (Addiw rd rs1 imm) = refl
all_listed m (ShiftWord k rd rs1 amount) = refl
all_listed m (Register k rd rs1 rs2) = refl
all_listed m (RegisterWord k rd rs1 rs2) = refl
all_listed m (Fence fm pred succ rs1 rd) = refl
all_listed m (System k) = refl
all_listed m (HLoad k chosen rd rs1 imm) = refl
all_listed m (HStore k chosen rs1 rs2 imm) = refl
all_listed m (Hfi k rd rs1 rs2) = word_listed m.hfi k _

-- so that 0 says that no rule is broken
pub stop_nonzero : (n : ℕ) → is_hfi_stop n ≡ true → eqb n 0 ≡ false
stop_nonzero n e = not-true (eqb n 0) (of_each (λ n. not (eqb n 0)) hfi_stops n refl e)

abbrev pub breaks_none : List (Bool × ℕ) → Bool
breaks_none = every (λ rule. not rule.0)

unbroken : (rs : List (Bool × ℕ)) → listed rs ≡ true → eqb (first_broken rs) 0 ≡ true → breaks_none rs ≡ true
unbroken [] h e = refl
unbroken (r ∷ rs) h e = let p = and_parts (is_hfi_stop r.1) (listed rs) h in go r.0 p.0 (λ u. unbroken rs p.1 u) e
  where
    go : (b : Bool) → is_hfi_stop r.1 ≡ true → (eqb (first_broken rs) 0 ≡ true → breaks_none rs ≡ true)
        → eqb (cond b r.1 (first_broken rs)) 0 ≡ true → (not b && breaks_none rs) ≡ true
    go true n f u = sym (stop_nonzero r.1 n) ∙ u
    go false n f u = f u

first_listed : (rs : List (Bool × ℕ)) → listed rs ≡ true → eqb (first_broken rs) 0 ≡ false → is_hfi_stop (first_broken rs) ≡ true
first_listed [] h e = sym e
first_listed (r ∷ rs) h e = let p = and_parts (is_hfi_stop r.1) (listed rs) h in go r.0 p.0 (λ u. first_listed rs p.1 u) e
  where
    go : (b : Bool) → is_hfi_stop r.1 ≡ true → (eqb (first_broken rs) 0 ≡ false → is_hfi_stop (first_broken rs) ≡ true)
        → eqb (cond b r.1 (first_broken rs)) 0 ≡ false → is_hfi_stop (cond b r.1 (first_broken rs)) ≡ true
    go true n f u = n
    go false n f u = f u

-- an instruction that HFI allows breaks no rule; one that it does not allow gets one of these stops
pub allowed_breaks_none : (m : Machine) (i : Instruction) → eqb (hfi_stop m i) 0 ≡ true → breaks_none (rules m i) ≡ true
unfolding hfi_stop
allowed_breaks_none m i = unbroken (rules m i) (all_listed m i)

pub forbidden_listed : (m : Machine) (i : Instruction) → eqb (hfi_stop m i) 0 ≡ false → is_hfi_stop (hfi_stop m i) ≡ true
unfolding hfi_stop
forbidden_listed m i = first_listed (rules m i) (all_listed m i)
