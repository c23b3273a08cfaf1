-- Laws of tables: what holds of each row holds of what is found, and each kind is found under its code.
-- Assumes nothing.
use mathlib.Core.Path.{◌≡◌, refl, ap, ◌∙◌}
use mathlib.Core.Bool.{Bool, true, false, cond, ◌&&◌}
use mathlib.Core.List.{List, [], ◌∷◌}
use Prim.Native.Nat.{ℕ, ◌≤◌}
use native.Mathlib.Omega.{arith}
use lib.Dec.{eqb, ltb}
use borrow.Author.Tests.{eqb-true, ltb-true, ne_eqb}
use Rattle.std.proofs.Common.{Option, Some, None, rules}
use Rattle.std.proofs.lemmas.Option.{none-some, same_Some}
use Rattle.std.proofs.lemmas.Bool.{and_parts}
use Rattle.words.specs.Word.{field}
use Rattle.instructions.specs.declared.instruction.Instruction.{Instruction}
use Rattle.instructions.specs.Table.{lookup, of_code, Found}
use Rattle.instructions.specs.Kinds.{upper_code, upper_kinds, branch_code, branch_kinds, load_code, load_kinds, store_code, store_kinds, immediate_code, immediate_kinds, shift_code, shift_kinds, shift_word_code, shift_word_kinds, register_code, register_kinds, register_word_code, register_word_kinds, system_code, system_kinds, hfi_code, hfi_kinds}
use Rattle.instructions.specs.Decode.{immediate_at, otherwise}
use Rattle.instructions.specs.declared.kind.UpperKind.{UpperKind}
use Rattle.instructions.specs.declared.kind.BranchKind.{BranchKind}
use Rattle.instructions.specs.declared.kind.LoadKind.{LoadKind}
use Rattle.instructions.specs.declared.kind.StoreKind.{StoreKind}
use Rattle.instructions.specs.declared.kind.ImmediateKind.{ImmediateKind}
use Rattle.instructions.specs.declared.kind.ShiftKind.{ShiftKind}
use Rattle.instructions.specs.declared.kind.ShiftWordKind.{ShiftWordKind}
use Rattle.instructions.specs.declared.kind.RegisterKind.{RegisterKind}
use Rattle.instructions.specs.declared.kind.RegisterWordKind.{RegisterWordKind}
use Rattle.instructions.specs.declared.kind.SystemKind.{SystemKind}
use Rattle.instructions.specs.declared.kind.HfiKind.{HfiKind}

-- ---- what is found

-- a choice has what both of its sides have, the first where the test holds
pub cond_ind : {X : Type 0} (P : X → Type 0) {x y : X} (b : Bool) → (b ≡ true → P x) → P y → P (cond b x y)
cond_ind P true p q = p refl
cond_ind P false p q = q

-- what is shown of one row, and of the rows after it
infixr 4 ◌⊗◌
pub ◌⊗◌ : {A B : Type 0} → A → B → A × B
a ⊗ b = (a, b)

-- what holds of the row with number n
abbrev pub Rows : {X : Type 0} → (X → Type 0) → List (ℕ × X) → ℕ → Type 0
Rows P [] n = Unit {0}
Rows P (r ∷ rs) n = (n ≡ r.0 → P r.1) × Rows P rs n

pub lookup_ind : {X : Type 0} (P : X → Type 0) (none : X) (rs : List (ℕ × X)) (n : ℕ) → P none → Rows P rs n → P (lookup none rs n)
lookup_ind P none [] n p h = p
lookup_ind P none (r ∷ rs) n p h =
    cond_ind P (eqb n r.0) (λ e. h.0 (eqb-true n r.0 e)) (lookup_ind P none rs n p h.1)

-- what holds of each kind whose code is n, and where there is none, holds of what is found under n
pub code_ind : {K X : Type 0} (P : X → Type 0) (code : K → ℕ) (make : K → X) (none : X) (ks : List K) (n : ℕ)
    → P none → ((k : K) → n ≡ code k → P (make k)) → P (of_code code make none ks n)
code_ind P code make none [] n p h = p
code_ind P code make none (k ∷ ks) n p h =
    cond_ind P (eqb n (code k)) (λ e. h k (eqb-true n (code k) e)) (code_ind P code make none ks n p h)

-- each code is below a bound
abbrev pub below : {K : Type 0} → (K → ℕ) → ℕ → List K → Bool
below code bound [] = true
below code bound (k ∷ ks) = ltb (code k) bound && below code bound ks

-- what is made of the kind that is found is y, where a test tells so and the kind that is found passes it
pub code_told : {K X : Type 0} (code : K → ℕ) (test : K → Bool) (make : K → X) (none y : X) (ks : List K) (n : ℕ)
    → of_code code test false ks n ≡ true → ((k : K) → test k ≡ true → make k ≡ y) → of_code code make none ks n ≡ y
code_told code test make none y [] n t h = cc
code_told code test make none y (k ∷ ks) n t h = go (eqb n (code k)) t (λ u. code_told code test make none y ks n u h)
  where
    go : (b : Bool) → cond b (test k) (of_code code test false ks n) ≡ true
        → (of_code code test false ks n ≡ true → of_code code make none ks n ≡ y) → cond b (make k) (of_code code make none ks n) ≡ y
    go true t f = h k t
    go false t f = f t

-- under a number past every code there is none
pub code_past : {K X : Type 0} (code : K → ℕ) (make : K → X) (none : X) (ks : List K) (bound n : ℕ)
    → below code bound ks ≡ true → bound ≤ n → of_code code make none ks n ≡ none
code_past code make none [] bound n t h = refl
code_past code make none (k ∷ ks) bound n t h =
    let p = and_parts (ltb (code k) bound) (below code bound ks) t in
    let l = ltb-true (code k) bound p.0 in
    rw (ne_eqb n (code k) (λ e. omega arith)) (code_past code make none ks bound n p.1 h)

-- ---- each kind's code fits its field, and finds the kind

-- what is made of the kind that is found
made : {K X : Type 0} (code : K → ℕ) (make : K → X) (none : X) (ks : List K) (n : ℕ) (k : K)
    → of_code code Some None ks n ≡ Some k → of_code code make none ks n ≡ make k
made code make none [] n k e = absurd (none-some k e)
made code make none (j ∷ js) n k e = go (eqb n (code j)) e (made code make none js n k)
  where
    go : (b : Bool) → cond b (Some j) (of_code code Some None js n) ≡ Some k
        → (of_code code Some None js n ≡ Some k → of_code code make none js n ≡ make k)
        → cond b (make j) (of_code code make none js n) ≡ make k
    go true e f = ap make (same_Some j k e)
    go false e f = f e

pub made_of : {K : Type 0} {code : K → ℕ} {kinds : List K} {bits : ℕ} {k : K} → Found code kinds bits k
    → {X : Type 0} (make : K → X) (none : X) → of_code code make none kinds (code k) ≡ make k
made_of {K} {code} {kinds} {bits} {k} h make none = made code make none kinds (code k) k h.found

-- .. with a value that is known to be another
pub found_with : {K : Type 0} {code : K → ℕ} {kinds : List K} {bits : ℕ} {k : K} → Found code kinds bits k
    → {X : Type 0} (make : K → ℕ → X) (none : X) {y x : ℕ} → y ≡ x → of_code code (λ (j : K). make j y) none kinds (code k) ≡ make k x
found_with {K} {k = k} h make none {y} e = made_of h (λ (j : K). make j y) none ∙ ap (make k) e

pub upper_code_lem : (k : UpperKind) → Found upper_code upper_kinds 7 k
upper_code_lem = search rules

pub branch_code_lem : (k : BranchKind) → Found branch_code branch_kinds 3 k
branch_code_lem = search rules

pub load_code_lem : (k : LoadKind) → Found load_code load_kinds 3 k
load_code_lem = search rules

pub store_code_lem : (k : StoreKind) → Found store_code store_kinds 3 k
store_code_lem = search rules

pub immediate_code_lem : (k : ImmediateKind) → Found immediate_code immediate_kinds 3 k
immediate_code_lem = search rules

pub shift_code_lem : (k : ShiftKind) → Found shift_code shift_kinds 9 k
shift_code_lem = search rules

pub shift_word_code_lem : (k : ShiftWordKind) → Found shift_word_code shift_word_kinds 10 k
shift_word_code_lem = search rules

pub register_code_lem : (k : RegisterKind) → Found register_code register_kinds 10 k
register_code_lem = search rules

pub register_word_code_lem : (k : RegisterWordKind) → Found register_word_code register_word_kinds 10 k
register_word_code_lem = search rules

pub system_code_lem : (k : SystemKind) → Found system_code system_kinds 12 k
system_code_lem = search rules

pub hfi_code_lem : (k : HfiKind) → Found hfi_code hfi_kinds 7 k
hfi_code_lem = search rules

-- ---- codes that share an opcode

-- the funct3 of a shift is that of no other immediate operation
pub shift_apart : (k : ShiftKind) (rd rs1 imm : ℕ) (d : Option Instruction) → otherwise (immediate_at (field (shift_code k) 0 3) rd rs1 imm) d ≡ d
shift_apart ShiftKind.Slli rd rs1 imm d = refl
shift_apart ShiftKind.Srli rd rs1 imm d = refl
shift_apart ShiftKind.Srai rd rs1 imm d = refl

-- a shift of words has not the funct3 of ADDIW
pub shift_word_apart : (k : ShiftWordKind) → eqb (field (shift_word_code k) 0 3) 0 ≡ false
shift_word_apart ShiftWordKind.Slliw = refl
shift_word_apart ShiftWordKind.Srliw = refl
shift_word_apart ShiftWordKind.Sraiw = refl
