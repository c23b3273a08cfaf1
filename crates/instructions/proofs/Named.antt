-- Document 01's table of opcode 5b, and the code's. Named is declared in src/hfi_table.rt.
-- Assumes nothing.
use mathlib.Core.Path.{◌≡◌, refl, sym, ap, ◌∙◌}
use mathlib.Core.Bool.{Bool, true, false, cond, not, ◌&&◌, ◌||◌}
use mathlib.Core.List.{List, [], ◌∷◌}
use Prim.Native.Nat.{ℕ, zero, suc, ◌+◌, ◌<◌, ◌≤◌}
use native.Mathlib.Nat.{add-zero, zero-add, add-suc, suc-add, le_of_suc-le-suc, not-suc-le-zero}
use lib.Dec.{eqb}
use lib.ListN.{length, get_or}
use Rattle.std.proofs.lemmas.Bool.{and_parts}
use Rattle.words.specs.Word.{field}
use Rattle.instructions.specs.Table.{of_code}
use Rattle.instructions.specs.Kinds.{HfiRow, hfi_row, hfi_code, hfi_kinds, named}
use Rattle.instructions.specs.Decode.{named_at}
use Rattle.instructions.specs.declared.kind.HfiKind.{HfiKind}
use Rattle.instructions.specs.declared.hfi_table.Named.{Named}
use Rattle.instructions.proofs.Tables.{made_of, code_told, code_past, hfi_code_lem}

-- a kind's own row
pub named_row : (k : HfiKind) (rd rs1 rs2 : ℕ) → named_at (hfi_code k) rd rs1 rs2 ≡ named (hfi_row k) rd rs1 rs2
named_row k rd rs1 rs2 = made_of (hfi_code_lem k) (λ (j : HfiKind). named (hfi_row j) rd rs1 rs2) false

-- past the table
pub named_past : (n rd rs1 rs2 : ℕ) → 13 ≤ n → named_at n rd rs1 rs2 ≡ false
named_past n rd rs1 rs2 h = code_past hfi_code (λ (k : HfiKind). named (hfi_row k) rd rs1 rs2) false hfi_kinds 13 n refl h

-- ---- one check over all rows

-- the test passes at each entry and its place, counted from i
abbrev pub every : {X : Type 0} → (ℕ → X → Bool) → ℕ → List X → Bool
every test i [] = true
every test i (x ∷ xs) = test i x && every test (suc i) xs

every_from : {X : Type 0} (test : ℕ → X → Bool) (xs : List X) (d : X) (i : ℕ) → every test i xs ≡ true → (k : ℕ) → k < length xs → test (i + k) (get_or xs k d) ≡ true
every_from test [] d i t k h = absurd (not-suc-le-zero h)
every_from test (x ∷ xs) d i t zero h = rw (add-zero i) (and_parts (test i x) _ t).0
every_from test (x ∷ xs) d i t (suc k) h =
    ap (λ (n : ℕ). test n (get_or xs k d)) (add-suc i k ∙ sym (suc-add i k))
    ∙ every_from test xs d (suc i) (and_parts (test i x) _ t).1 k (le_of_suc-le-suc h)

pub every_at : {X : Type 0} (test : ℕ → X → Bool) (xs : List X) (d : X) → every test 0 xs ≡ true → (k : ℕ) → k < length xs → test k (get_or xs k d) ≡ true
every_at test xs d t k h = ap (λ (n : ℕ). test n (get_or xs k d)) (sym (zero-add k)) ∙ every_from test xs d 0 t k h

abbrev same : Bool → Bool → Bool
same a b = cond a b (not b)

same_true : (a b : Bool) → same a b ≡ true → a ≡ b
same_true true true e = refl
same_true true false e = sym e
same_true false true e = e
same_true false false e = refl

-- x says what the row names
abbrev agrees : HfiRow → Named → Bool
agrees r x = same x.rd r.rd && (same x.rs1 r.rs1 && same x.rs2 r.rs2)

-- there is a row with number n, and x agrees with it
abbrev pub right : ℕ → Named → Bool
right n x = of_code hfi_code (λ (k : HfiKind). agrees (hfi_row k) x) false hfi_kinds n

-- each register field is zero, or x names it
abbrev pub named_by : Named → ℕ → ℕ → ℕ → Bool
named_by x rd rs1 rs2 = (x.rd || eqb rd 0) && ((x.rs1 || eqb rs1 0) && (x.rs2 || eqb rs2 0))

agrees_named : (r : HfiRow) (x : Named) (rd rs1 rs2 : ℕ) → agrees r x ≡ true → named r rd rs1 rs2 ≡ named_by x rd rs1 rs2
agrees_named r x rd rs1 rs2 t =
    let p = and_parts (same x.rd r.rd) _ t in
    let q = and_parts (same x.rs1 r.rs1) _ p.1 in
    rw (same_true x.rd r.rd p.0, same_true x.rs1 r.rs1 q.0, same_true x.rs2 r.rs2 q.1) refl

-- A table that passes at every row decides as document 01's table does. Its entries are of any type, from which is read what they name.
pub named_rule : {X : Type 0} (reads : X → Named) (xs : List X) (d : X) → every (λ n x. right n (reads x)) 0 xs ≡ true → (n rd rs1 rs2 : ℕ) → n < length xs
    → named_by (reads (get_or xs n d)) rd rs1 rs2 ≡ named_at n rd rs1 rs2
named_rule reads xs d t n rd rs1 rs2 h =
    let x = reads (get_or xs n d) in
    sym (code_told hfi_code (λ (k : HfiKind). agrees (hfi_row k) x) (λ (k : HfiKind). named (hfi_row k) rd rs1 rs2) false
    (named_by x rd rs1 rs2) hfi_kinds n (every_at (λ n x. right n (reads x)) xs d t n h) (λ k e. agrees_named (hfi_row k) x rd rs1 rs2 e))

-- ---- a table of rows, as the code's is
pub named_rule_of_rows : (xs : List Named) (d : Named) → every right 0 xs ≡ true → (n rd rs1 rs2 : ℕ) → n < length xs
    → named_by (get_or xs n d) rd rs1 rs2 ≡ named_at n rd rs1 rs2
named_rule_of_rows xs d t = named_rule (λ x. x) xs d t

-- ---- a table of numbers, of which bits 0, 1 and 2 say what a row names
abbrev pub row_of_bits : ℕ → Named
row_of_bits x = record { rd = eqb (field x 0 1) 1; rs1 = eqb (field x 1 1) 1; rs2 = eqb (field x 2 1) 1 }

abbrev agrees_bits : HfiRow → ℕ → Bool
agrees_bits r x = same (eqb (field x 0 1) 1) r.rd && (same (eqb (field x 1 1) 1) r.rs1 && same (eqb (field x 2 1) 1) r.rs2)

-- there is a row with number n, and x agrees with it
abbrev pub right_bits : ℕ → ℕ → Bool
right_bits n x = of_code hfi_code (λ (k : HfiKind). agrees_bits (hfi_row k) x) false hfi_kinds n

-- each register field is zero, or its bit in x is set
abbrev pub named_by_bits : ℕ → ℕ → ℕ → ℕ → Bool
named_by_bits x rd rs1 rs2 = (eqb (field x 0 1) 1 || eqb rd 0) && ((eqb (field x 1 1) 1 || eqb rs1 0) && (eqb (field x 2 1) 1 || eqb rs2 0))

pub named_rule_of_bits : (xs : List ℕ) → every right_bits 0 xs ≡ true → (n rd rs1 rs2 : ℕ) → n < length xs
    → named_by_bits (get_or xs n 0) rd rs1 rs2 ≡ named_at n rd rs1 rs2
named_rule_of_bits xs t = named_rule row_of_bits xs 0 t
