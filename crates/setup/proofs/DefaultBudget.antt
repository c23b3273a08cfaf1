-- The budget of line 1: "An empty budget now means 50,000." (02, Job 4)
use mathlib.Core.Path.{◌≡◌, refl, ap, sym, ◌∙◌}
use mathlib.Core.Bool.{Bool, true, false, cond, ◌&&◌}
use mathlib.Core.List.{List, [], ◌∷◌, ◌++◌, map}
use mathlib.Core.Logic.{◌⊎◌, inl, inr}
use Prim.Native.Nat.{ℕ, ◌+◌, ◌-◌, ◌<◌, ◌≤◌}
use native.Mathlib.Omega.{arith}
use lib.Dec.{eqb, leb}
use lib.ListN.{length, get_or, take}
use borrow.Author.Tests.{eqb-true, ne_eqb, leb-true}
use Rattle.std.proofs.lemmas.Bool.{and_parts}
use Rattle.text.specs.Ascii.{ascii}
use Rattle.text.specs.Scan.{comma, count}
use Rattle.text.specs.Number.{number, spelled}
use Rattle.text.specs.Split.{Row, fields, wide, all_wide}
use Rattle.text.proofs.Asking.{yes_at}
use Rattle.text.proofs.Numbers.{nil_without}
use Rattle.text.proofs.Rows.{row_count, row_widths, wide_at}
use Rattle.model.specs.Machine.{last_region}
use Rattle.setup.specs.Setup.{ReadSetup, budget_field, setup_fields, regions_given, counted, setup_row, default_budget, setup_of, permissions_in_range, setup_questions, read_setup}
use Rattle.setup.proofs.Fields.{read_by, read_then, refused_then, count_given, given_few, last_field, last_is, value_at, width_at}

-- ---- of the last field only the budget is read, and whether it is too wide
read_same : (n : ℕ) (vs ws : List ℕ) (v w u z : ℕ)
    → cond (eqb w 0) default_budget v ≡ cond (eqb z 0) default_budget u → leb w 16 ≡ leb z 16 → read_by n vs ws v w ≡ read_by n vs ws u z
read_same n vs ws v w u z e h = rw (e, h)

-- the same question is failed first; where none is, the values are the same
abbrev pub ReadAlike : ReadSetup → ReadSetup → Type 0
ReadAlike r q = (r.question ≡ q.question) × (r.question ≡ 0 → r.setup ≡ q.setup)

-- any digits that spell the default are read as an empty budget is
pub default_read : (before f : List ℕ) → count comma f ≡ 0 → wide (length f) ≡ true → number 16 f ≡ default_budget
    → ReadAlike (read_setup (setup_row (before ++ (comma ∷ [])))) (read_setup (setup_row (before ++ (comma ∷ f))))
default_read before f h w v = by (counted (length (fields before) + 1)) refl
  where
    none : count comma [] ≡ 0
    none = nil_without comma

    empty : ReadSetup
    empty = read_setup (setup_row (before ++ (comma ∷ [])))

    written : ReadSetup
    written = read_setup (setup_row (before ++ (comma ∷ f)))

    some : length f ≡ 0 → ⊥
    some e = omega (arith, e, leb-true 1 (length f) ((and_parts (leb 1 (length f)) (leb (length f) 16) w).0))

    by : (t : Bool) → counted (length (fields before) + 1) ≡ t → ReadAlike empty written
    by true e =
        let budget : default_budget ≡ cond (eqb (length f) 0) default_budget (number 16 f) = rw (ne_eqb (length f) 0 some) (sym v) in
        let narrow : true ≡ leb (length f) 16 = sym ((and_parts (leb 1 (length f)) (leb (length f) 16) w).1) in
        let n = regions_given (length (fields before) + 1) in
        let alike = read_same n (map (number 16) (fields before)) (map length (fields before)) (number 16 []) 0 (number 16 f) (length f) budget narrow in
        let same : empty ≡ written = read_then before [] none e ∙ alike ∙ sym (read_then before f h e) in
        (ap (λ r. r.question) same, λ z. ap (λ r. r.setup) same)
    by false e =
        let thirty_two = refused_then before [] none e in
        (thirty_two ∙ sym (refused_then before f h e), λ z. absurd (let y : ⊥ = omega (arith, z, thirty_two) in y))

-- Job 4's digits are such
pub default_alike : (before : List ℕ)
    → ReadAlike (read_setup (setup_row (before ++ (comma ∷ [])))) (read_setup (setup_row (before ++ (comma ∷ ascii "c350"))))
unfolding count spelled
default_alike before = default_read before (ascii "c350") refl refl refl

-- ---- which budget it is

-- what the last field of line 1 says: 50,000 where it is empty, else its number
abbrev pub budget_of : List ℕ → ℕ
budget_of f = cond (eqb (length f) 0) 50000 (number 16 f)

pub budget_is : (line : List ℕ) → counted (length (fields line)) ≡ true → (read_setup (setup_row line)).setup.budget ≡ budget_of (last_field line)
unfolding read_setup
budget_is line t =
    let here : length (fields line) - 1 < length (fields line) = omega (arith, count_given (length (fields line)) t) in
    rw (row_count (setup_fields last_region) line, sym (last_is line t), value_at line t (length (fields line) - 1) here, width_at line t (length (fields line) - 1) here)

-- ---- where line 1 passes
module _ (line : List ℕ) (z : (read_setup (setup_row line)).question ≡ 0) where
  abbrev row : Row
  row = setup_row line

  -- the regions that it gives
  abbrev n : ℕ
  n = regions_given row.count

  abbrev asked : List (Bool × ℕ)
  asked = setup_questions n row (setup_of n row)

  -- questions 32 to 34, answered yes
  pub count_passes : counted (length (fields line)) ≡ true
  unfolding read_setup
  count_passes = rw (row_count (setup_fields last_region) line) at (yes_at 0 asked refl z)

  widths_pass : all_wide (take (budget_field n) row.widths) && leb (get_or row.widths (budget_field n) 0) 16 ≡ true
  unfolding read_setup
  widths_pass = yes_at 1 asked refl z

  values_pass : leb (setup_of n row).options 0xff && (permissions_in_range (setup_of n row).regions && leb (setup_of n row).budget 0xffffffff) ≡ true
  unfolding read_setup
  values_pass = yes_at 2 asked refl z

  -- the budget stands last
  last : budget_field n ≡ length (fields line) - 1
  last = ap (λ c. budget_field (regions_given c)) (row_count (setup_fields last_region) line) ∙ sym (last_is line count_passes)

  -- it has 13 or 34 fields
  pub two_forms : (length (fields line) ≡ 13) ⊎ (length (fields line) ≡ 34)
  two_forms = by (eqb (length (fields line)) 13) refl
    where
      by : (t : Bool) → eqb (length (fields line)) 13 ≡ t → (length (fields line) ≡ 13) ⊎ (length (fields line) ≡ 34)
      by true e = inl (eqb-true (length (fields line)) 13 e)
      by false e = inr (eqb-true (length (fields line)) 34 (rw e at count_passes))

  -- no field before the last is empty: each is 1 to 16 bytes wide
  pub others_wide : (i : ℕ) → i < length (fields line) - 1 → wide (length (get_or (fields line) i [])) ≡ true
  others_wide i h =
      let wides = (and_parts (all_wide (take (budget_field n) row.widths)) (leb (get_or row.widths (budget_field n) 0) 16) widths_pass).0 in
      let slots : i < length row.widths = omega (arith, last, given_few row.count, row_widths (setup_fields last_region) line) in
      rw (width_at line count_passes i (omega arith)) at (wide_at row.widths (budget_field n) i (omega (arith, last)) slots wides)

  -- the last, the budget, is at most 16 bytes wide and at most ffffffff
  pub budget_fits : (length (last_field line) ≤ 16) × (budget_of (last_field line) ≤ 0xffffffff)
  unfolding read_setup
  budget_fits =
      let here : length (fields line) - 1 < length (fields line) = omega (arith, count_given (length (fields line)) count_passes) in
      let narrow = (and_parts (all_wide (take (budget_field n) row.widths)) (leb (get_or row.widths (budget_field n) 0) 16) widths_pass).1 in
      let low = leb (setup_of n row).budget 0xffffffff in
      let range = (and_parts (leb (setup_of n row).options 0xff) (permissions_in_range (setup_of n row).regions && low) values_pass).1 in
      let most = leb-true (setup_of n row).budget 0xffffffff ((and_parts (permissions_in_range (setup_of n row).regions) low range).1) in (
        leb-true _ 16 (rw (last, width_at line count_passes (length (fields line) - 1) here) at narrow),
        rw (budget_is line count_passes) at most,
      )
