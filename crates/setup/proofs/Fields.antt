-- Line 1 by its fields, whether it gives three regions or all.
use mathlib.Core.Path.{◌≡◌, refl, ap, ◌∙◌}
use mathlib.Core.Bool.{Bool, true, false, cond, ◌&&◌}
use mathlib.Core.List.{List, [], ◌∷◌, ◌++◌, map, map-append, append_assoc}
use Prim.Native.Nat.{ℕ, ◌+◌, ◌-◌, ◌<◌, ◌≤◌}
use native.Mathlib.Omega.{arith}
use lib.Dec.{eqb, leb, lit≤}
use lib.ListN.{length, get_or, replicate, length-append, length-map, get_or-append, get_or-map}
use lib.Seq.{get_or_at, take_at}
use borrow.Author.Tests.{eqb-true}
use Rattle.text.specs.Scan.{comma, count}
use Rattle.text.specs.Number.{number, spelled}
use Rattle.text.specs.Split.{Row, row_with, row_of, fields, all_wide}
use Rattle.text.specs.Questions.{first_no}
use Rattle.text.proofs.RoundTrip.{field_then}
use Rattle.text.proofs.Rows.{row_count}
use Rattle.model.specs.Machine.{last_region, no_region, regions_from}
use Rattle.setup.specs.declared.Setup.{Setup}
use Rattle.setup.specs.Setup.{ReadSetup, setup_fields, budget_field, few_regions, regions_given, counted, setup_row, default_budget, permissions_in_range, read_setup}
use Rattle.setup.proofs.Regions.{sets_over, regions_same}

-- ---- a count that passes 32

pub count_given : (c : ℕ) → counted c ≡ true → c ≡ setup_fields (regions_given c)
count_given c t = by (eqb c (setup_fields few_regions)) refl
  where
    by : (u : Bool) → eqb c (setup_fields few_regions) ≡ u → c ≡ setup_fields (regions_given c)
    by true e = rw e (eqb-true c (setup_fields few_regions) e)
    by false e = rw e (eqb-true c (setup_fields last_region) (rw e at t))

pub given_few : (c : ℕ) → regions_given c ≤ last_region
given_few c = by (eqb c (setup_fields few_regions))
  where
    by : (u : Bool) → cond u few_regions last_region ≤ last_region
    by true = lit≤ tt
    by false = lit≤ tt

-- another count is refused, whatever the fields are
pub other_count : (r : Row) → counted r.count ≡ false → (read_setup r).question ≡ 32
unfolding read_setup
other_count r e = rw e

-- ---- what is read of a line that gives n regions: the values vs and the widths ws of the fields before the budget, and its own
module _ (n : ℕ) (vs ws : List ℕ) (v w : ℕ) where
  abbrev pub setup_by : Setup
  setup_by =
      record {
        pc = get_or vs 0 0;
        options = get_or vs 1 0;
        handler = get_or vs 2 0;
        regions = regions_from vs 3 n ++ replicate (last_region - n) no_region;
        budget = cond (eqb w 0) default_budget v;
      }

  abbrev pub read_by : ReadSetup
  read_by =
      let s = setup_by in
      record {
        question =
            first_no
            ((all_wide ws && leb w 16, 33)
            ∷ (leb s.options 0xff && (permissions_in_range s.regions && leb s.budget 0xffffffff), 34)
            ∷ []);
        setup = s;
      }

-- whatever stands in the slots after the budget
read_by_lem : (c : ℕ) (vs ws ps qs : List ℕ) (v w : ℕ) → counted c ≡ true → length vs ≡ budget_field (regions_given c) → length ws ≡ budget_field (regions_given c)
    → read_setup (row_with c (vs ++ (v ∷ ps)) (ws ++ (w ∷ qs))) ≡ read_by (regions_given c) vs ws v w
unfolding read_setup
read_by_lem c vs ws ps qs v w t p q =
    let n = regions_given c in
    let same : (i : ℕ) → i < budget_field n → get_or (vs ++ (v ∷ ps)) i 0 ≡ get_or vs i 0 = λ i k. get_or-append vs (v ∷ ps) 0 i (omega (arith, p)) in
    rw (
      t,
      same 0 (omega arith),
      same 1 (omega arith),
      same 2 (omega arith),
      regions_same (vs ++ (v ∷ ps)) vs 3 n same,
      get_or_at vs v ps 0 (budget_field n) p,
      get_or_at ws w qs 0 (budget_field n) q,
      take_at ws (w ∷ qs) (budget_field n) q,
    )

-- ---- line 1 in its slots

-- those of m slots that its fields leave
abbrev left : ℕ → List ℕ → List ℕ
left m line = replicate (m - length (fields line)) 0

row_fields : (m : ℕ) (line : List ℕ) → length (fields line) ≤ m
    → row_of m line ≡ row_with (length (fields line)) (map (number 16) (fields line) ++ left m line) (map length (fields line) ++ left m line)
unfolding row_of
row_fields m line h =
    let fs = fields line in
    let values = sets_over m 0 (map (number 16) fs) (omega (arith, h, length-map fs (number 16))) in
    let widths = sets_over m 0 (map length fs) (omega (arith, h, length-map fs length)) in
    rw (values, widths, length-map fs (number 16), length-map fs length)

-- the fields before the budget, a comma, and the budget f
module _ (before f : List ℕ) (h : count comma f ≡ 0) where
  abbrev joined : List ℕ
  joined = before ++ (comma ∷ f)

  fields_all : length (fields joined) ≡ length (fields before) + 1
  fields_all = ap length (field_then before f h) ∙ length-append (fields before) (f ∷ [])

  mapped : (g : List ℕ → ℕ) (rest : List ℕ) → map g (fields joined) ++ rest ≡ map g (fields before) ++ (g f ∷ rest)
  mapped g rest =
      ap (λ fs. map g fs ++ rest) (field_then before f h)
      ∙ ap (λ ns. ns ++ rest) (map-append g (fields before) (f ∷ []))
      ∙ append_assoc (map g (fields before)) (g f ∷ []) rest

  pub read_then : counted (length (fields before) + 1) ≡ true
      → let n = regions_given (length (fields before) + 1) in
      read_setup (setup_row joined) ≡ read_by n (map (number 16) (fields before)) (map length (fields before)) (number 16 f) (length f)
  read_then t =
      let c = length (fields before) + 1 in
      let rest = left (setup_fields last_region) joined in
      let all = count_given c t in
      let fits : length (fields joined) ≤ setup_fields last_region = omega (arith, all, given_few c, fields_all) in
      let long : length (fields before) ≡ budget_field (regions_given c) = omega (arith, all) in
      ap read_setup (row_fields (setup_fields last_region) joined fits)
      ∙ ap (λ k. read_setup (row_with k (map (number 16) (fields joined) ++ rest) (map length (fields joined) ++ rest))) fields_all
      ∙ ap (λ vs. read_setup (row_with c vs (map length (fields joined) ++ rest))) (mapped (number 16) rest)
      ∙ ap (λ ws. read_setup (row_with c (map (number 16) (fields before) ++ (number 16 f ∷ rest)) ws)) (mapped length rest)
      ∙ read_by_lem c (map (number 16) (fields before)) (map length (fields before)) rest rest (number 16 f) (length f) t
      (length-map (fields before) (number 16) ∙ long) (length-map (fields before) length ∙ long)

  pub refused_then : counted (length (fields before) + 1) ≡ false → (read_setup (setup_row joined)).question ≡ 32
  refused_then e = other_count (setup_row joined) (ap counted (row_count (setup_fields last_region) joined ∙ fields_all) ∙ e)

-- a line of 13 or 34 fields: the slots have its fields, and the last of them is the budget
abbrev pub last_field : List ℕ → List ℕ
last_field line = get_or (fields line) (length (fields line) - 1) []

module _ (line : List ℕ) (t : counted (length (fields line)) ≡ true) where
  pub last_is : length (fields line) - 1 ≡ budget_field (regions_given (length (fields line)))
  last_is = omega (arith, count_given (length (fields line)) t)

  fits : length (fields line) ≤ setup_fields last_region
  fits = omega (arith, count_given (length (fields line)) t, given_few (length (fields line)))

  pub value_at : (i : ℕ) → i < length (fields line) → get_or (setup_row line).values i 0 ≡ number 16 (get_or (fields line) i [])
  unfolding spelled
  value_at i h =
      let rest = left (setup_fields last_region) line in
      ap (λ r. get_or r.values i 0) (row_fields (setup_fields last_region) line fits)
      ∙ get_or-append (map (number 16) (fields line)) rest 0 i (omega (arith, length-map (fields line) (number 16)))
      ∙ get_or-map (number 16) (fields line) i []

  pub width_at : (i : ℕ) → i < length (fields line) → get_or (setup_row line).widths i 0 ≡ length (get_or (fields line) i [])
  width_at i h =
      let rest = left (setup_fields last_region) line in
      ap (λ r. get_or r.widths i 0) (row_fields (setup_fields last_region) line fits)
      ∙ get_or-append (map length (fields line)) rest 0 i (omega (arith, length-map (fields line) length))
      ∙ get_or-map length (fields line) i []
