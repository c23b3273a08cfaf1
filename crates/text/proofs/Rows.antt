-- A line read field by field into slots.
use mathlib.Core.Path.{◌≡◌, refl, ap, sym, ◌∙◌}
use mathlib.Core.Bool.{true, cond, ◌&&◌}
use lib.Dec.{eqb}
use mathlib.Core.List.{List, [], ◌∷◌, ◌++◌, map, map-append, append-nil}
use Prim.Native.Nat.{ℕ, zero, suc, ◌+◌, ◌<◌, ◌≤◌}
use native.Mathlib.Omega.{arith}
use lib.ListN.{length, get_or, take, set, replicate, drop_of_length-le, length-replicate, length-map, length-append, get_or-map}
use lib.Seq.{sets, sets-eq, length-sets}
use Rattle.std.proofs.lemmas.List.{map-set}
use Rattle.std.specs.List.{list_all, slice_split, onto_first}
use Rattle.std.proofs.lemmas.List.Recursion.{same_from_clauses}
use Rattle.std.proofs.lemmas.Bool.{and_parts}
use Rattle.text.specs.Number.{number}
use Rattle.text.specs.declared.row.Field.{Field}
use Rattle.text.specs.Scan.{is, comma}
use Rattle.text.specs.Split.{push, split, values_of, widths_of, fields, Row, row_with, row_as, row_over, row_of, wide, all_wide}
use Rattle.text.proofs.Writing.{stores_append}

-- the pieces that std cuts a line into are its fields
pushed : (b : ℕ) (ps : List (List ℕ)) → onto_first b ps ≡ push b ps
pushed b [] = refl
pushed b (p ∷ ps) = refl

pub fields_are : (line : List ℕ) → fields line ≡ slice_split (is comma) line
unfolding split
fields_are line =
    same_from_clauses fields (slice_split (is comma)) (λ b ps. cond (eqb b comma) ([] ∷ ps) (push b ps)) refl (λ _ _. refl)
    (λ b bs. ap (λ ps. cond (eqb b comma) ([] ∷ slice_split (is comma) bs) ps) (pushed b (slice_split (is comma) bs))) line

-- the row of the fields fs
abbrev pub row_by : List ℕ → List ℕ → List (List ℕ) → Row
row_by vs ws fs = row_with (length fs) (sets vs 0 (map (number 16) fs)) (sets ws 0 (map length fs))

-- a value more
sets_push : (vs : List ℕ) (g : List ℕ → ℕ) (fs : List (List ℕ)) (f : List ℕ)
    → sets vs 0 (map g (fs ++ (f ∷ []))) ≡ set (sets vs 0 (map g fs)) (length fs) (g f)
sets_push vs g fs f =
    let n : 0 + length (map g fs) ≡ length fs = omega (arith, length-map fs g) in
    ap (sets vs 0) (map-append g fs (f ∷ []))
    ∙ sym (stores_append vs 0 (map g fs) (g f ∷ []))
    ∙ ap (λ k. set (sets vs 0 (map g fs)) k (g f)) n

-- the field f goes to the slots after those of fs
pub row_pushed : (vs ws xs ys : List ℕ) (n v : ℕ) (fs : List (List ℕ)) (f : List ℕ) → v ≡ number 16 f
    → row_with n xs ys ≡ row_by vs ws fs → row_with (n + 1) (set xs n v) (set ys n (length f)) ≡ row_by vs ws (fs ++ (f ∷ []))
row_pushed vs ws xs ys n v fs f g e =
    let count : n ≡ length fs = ap (λ r. r.count) e in
    let more : length (fs ++ (f ∷ [])) ≡ n + 1 = omega (arith, length-append fs (f ∷ []), count) in
    rw g (rw (more, sets_push vs (number 16) fs f, sets_push ws length fs f, ← count, ← ap (λ r. r.values) e, ← ap (λ r. r.widths) e) refl)

-- the same of slots for both
pub row_push : (vs ws : List ℕ) (slots : List Field) (n v : ℕ) (fs : List (List ℕ)) (f : List ℕ) → v ≡ number 16 f
    → row_as n slots ≡ row_by vs ws fs → row_as (n + 1) (set slots n (record { value = v; width = length f })) ≡ row_by vs ws (fs ++ (f ∷ []))
row_push vs ws slots n v fs f g e =
    rw (map-set (λ k. k.value) slots n (record { value = v; width = length f }), map-set (λ k. k.width) slots n (record { value = v; width = length f }))
    (row_pushed vs ws (values_of slots) (widths_of slots) n v fs f g e)

-- ---- widths
pub wide_is : (fs : List Field) → all_wide (widths_of fs) ≡ list_all (λ f. wide f.width) fs
unfolding all_wide
wide_is fs = same_from_clauses (λ l. all_wide (widths_of l)) (list_all (λ f. wide f.width)) (λ f b. wide f.width && b) refl (λ _ _. refl) (λ _ _. refl) fs

-- each of the first n is wide
pub wide_at : (ws : List ℕ) (n i : ℕ) → i < n → i < length ws → all_wide (take n ws) ≡ true → wide (get_or ws i 0) ≡ true
unfolding all_wide
wide_at [] n i h k e = let z : ⊥ = omega arith in absurd z
wide_at (w ∷ ws) zero i h k e = let z : ⊥ = omega arith in absurd z
wide_at (w ∷ ws) (suc n) zero h k e = (and_parts (wide w) (all_wide (take n ws)) e).0
wide_at (w ∷ ws) (suc n) (suc i) h k e = wide_at ws n i (omega arith) (omega arith) ((and_parts (wide w) (all_wide (take n ws)) e).1)

-- ---- a row in slots of 0
sets_all : (l vs : List ℕ) → length l ≡ length vs → sets l 0 vs ≡ vs
sets_all l vs e =
    let fits : 0 + length vs ≤ length l = omega (arith, e) in
    let none : length l ≤ 0 + length vs = omega (arith, e) in
    sets-eq vs l 0 fits ∙ ap (λ k. vs ++ k) (drop_of_length-le l none) ∙ append-nil vs

map_replicate : {A B : Type 0} (f : A → B) (n : ℕ) (a : A) → map f (replicate n a) ≡ replicate n (f a)
map_replicate f zero a = refl
map_replicate f (suc n) a = ap (λ l. f a ∷ l) (map_replicate f n a)

abbrev pub no_field : Field
no_field = record { value = 0; width = 0 }

pub row_in : (n : ℕ) (line : List ℕ) (r : Row) → r ≡ row_over (values_of (replicate n no_field)) (widths_of (replicate n no_field)) line → r ≡ row_of n line
unfolding row_of
row_in n line r e = e ∙ rw (map_replicate (λ f. f.value) n no_field, map_replicate (λ f. f.width) n no_field) refl

pub row_count : (n : ℕ) (line : List ℕ) → (row_of n line).count ≡ length (fields line)
unfolding row_of
row_count n line = refl

pub row_widths : (n : ℕ) (line : List ℕ) → length (row_of n line).widths ≡ n
unfolding row_of
row_widths n line = length-sets (replicate n 0) 0 (map length (fields line)) ∙ length-replicate n 0

-- a line with as many fields as there are slots fills them
pub row_full : (n : ℕ) (line : List ℕ) → n ≡ length (fields line) → row_of n line ≡ row_with n (map (number 16) (fields line)) (map length (fields line))
unfolding row_of
row_full n line e =
    let values = sets_all (replicate n 0) (map (number 16) (fields line)) (length-replicate n 0 ∙ e ∙ sym (length-map (fields line) (number 16))) in
    let widths = sets_all (replicate n 0) (map length (fields line)) (length-replicate n 0 ∙ e ∙ sym (length-map (fields line) length)) in
    rw (values, widths) (ap (λ k. row_with k (map (number 16) (fields line)) (map length (fields line))) (sym e))

-- where the first m fields of such a line are wide, so is each of them
pub row_wide : (n m i : ℕ) (line : List ℕ) → (row_of n line).count ≡ n → all_wide (take m (row_of n line).widths) ≡ true → i < m → i < n
    → wide (length (get_or (fields line) i [])) ≡ true
row_wide n m i line c a h k =
    let e : n ≡ length (fields line) = sym c ∙ row_count n line in
    let all : all_wide (take m (map length (fields line))) ≡ true = rw (row_full n line e) at a in
    let inside : i < length (map length (fields line)) = omega (arith, e, length-map (fields line) length) in
    rw (get_or-map length (fields line) i []) at (wide_at (map length (fields line)) m i h inside all)
