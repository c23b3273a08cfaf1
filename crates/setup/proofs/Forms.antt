-- "A setup line has 13 fields, the other regions then being zero, or 34" (02, Job 7): a line of 13 fields is read as that of 34 is which
-- has zeros for the other regions.
use mathlib.Core.Path.{◌≡◌, refl, ap, sym, ◌∙◌}
use mathlib.Core.Bool.{◌&&◌}
use mathlib.Core.List.{List, [], ◌∷◌, ◌++◌, map, map-append, append_assoc, append-nil}
use Prim.Native.Nat.{ℕ, zero, suc, ◌+◌, ◌-◌, ◌*◌, ◌<◌, ◌≤◌}
use native.Mathlib.Omega.{arith}
use lib.ListN.{length, get_or, replicate, length-append, length-map, length-replicate, get_or-append}
use Rattle.text.specs.Ascii.{ascii}
use Rattle.text.specs.Scan.{comma, count}
use Rattle.text.specs.Number.{number, spelled}
use Rattle.text.specs.Split.{fields, wide, all_wide}
use Rattle.text.proofs.RoundTrip.{field_then}
use Rattle.model.specs.Machine.{last_region, no_region, regions_from}
use Rattle.setup.specs.Setup.{budget_field, few_regions, regions_given, counted, setup_row, read_setup}
use Rattle.setup.proofs.Regions.{regions_same}
use Rattle.setup.proofs.Fields.{read_by, read_then}

-- ---- k fields of 0, each after a comma
abbrev pub zero_fields : ℕ → List ℕ
zero_fields zero = []
zero_fields (suc k) = ascii ",0" ++ zero_fields k

-- those of the regions that a line of 13 fields does not give
abbrev pub other_regions : List ℕ
other_regions = zero_fields (3 * (last_region - few_regions))

fields_zeros : (before : List ℕ) (k : ℕ) → fields (before ++ zero_fields k) ≡ fields before ++ replicate k (ascii "0")
unfolding count
fields_zeros before zero = ap fields (append-nil before) ∙ sym (append-nil (fields before))
fields_zeros before (suc k) =
    ap fields (sym (append_assoc before (ascii ",0") (zero_fields k)))
    ∙ fields_zeros (before ++ ascii ",0") k
    ∙ ap (λ fs. fs ++ replicate k (ascii "0")) (field_then before (ascii "0") refl)
    ∙ append_assoc (fields before) (ascii "0" ∷ []) (replicate k (ascii "0"))

-- ---- what is read of the zeros

get_d_zeros : (vs : List ℕ) (k i : ℕ) → length vs ≤ i → get_or (vs ++ replicate k 0) i 0 ≡ 0
get_d_zeros [] zero i h = refl
get_d_zeros [] (suc k) zero h = refl
get_d_zeros [] (suc k) (suc i) h = get_d_zeros [] k i (omega arith)
get_d_zeros (v ∷ vs) k zero h = let z : ⊥ = omega arith in absurd z
get_d_zeros (v ∷ vs) k (suc i) h = get_d_zeros vs k i (omega arith)

regions_split : (vs : List ℕ) (k n m : ℕ) → regions_from vs k (n + m) ≡ regions_from vs k n ++ regions_from vs (k + 3 * n) m
regions_split vs k zero m =
    let e : 0 + m ≡ m = omega arith in
    let f : k ≡ k + 3 * 0 = omega arith in
    ap (regions_from vs k) e ∙ ap (λ j. regions_from vs j m) f
regions_split vs k (suc n) m =
    let e : suc n + m ≡ suc (n + m) = omega arith in
    let f : k + 3 + 3 * n ≡ k + 3 * suc n = omega arith in
    ap (regions_from vs k) e
    ∙ ap (λ rs. record { base = get_or vs k 0; bound = get_or vs (k + 1) 0; permission = get_or vs (k + 2) 0 } ∷ rs) (regions_split vs (k + 3) n m)
    ∙ ap (λ j. regions_from vs k (suc n) ++ regions_from vs j m) f

regions_zero : (vs : List ℕ) (k n : ℕ) → ((i : ℕ) → k ≤ i → get_or vs i 0 ≡ 0) → regions_from vs k n ≡ replicate n no_region
regions_zero vs k zero e = refl
regions_zero vs k (suc n) e =
    rw (e k (omega arith), e (k + 1) (omega arith), e (k + 2) (omega arith), regions_zero vs (k + 3) n (λ i h. e i (omega arith)))

all_wide_more : (ws : List ℕ) (k : ℕ) → all_wide (ws ++ replicate k 1) ≡ all_wide ws
unfolding all_wide
all_wide_more [] zero = refl
all_wide_more [] (suc k) = all_wide_more [] k
all_wide_more (w ∷ ws) k = ap (λ t. wide w && t) (all_wide_more ws k)

-- the zeros of k regions after n regions
module _ (n k : ℕ) (e : n + k ≡ last_region) (vs : List ℕ) (l : length vs ≡ budget_field n) where
  abbrev more : List ℕ
  more = vs ++ replicate (3 * k) 0

  same : (i : ℕ) → i < budget_field n → get_or more i 0 ≡ get_or vs i 0
  same i h = get_or-append vs (replicate (3 * k) 0) 0 i (omega (arith, l))

  regions_more : regions_from more 3 last_region ++ replicate (last_region - last_region) no_region ≡ regions_from vs 3 n ++ replicate (last_region - n) no_region
  regions_more =
      let left : k ≡ last_region - n = omega (arith, e) in
      append-nil (regions_from more 3 last_region)
      ∙ ap (regions_from more 3) (sym e)
      ∙ regions_split more 3 n k
      ∙ ap (λ rs. rs ++ regions_from more (budget_field n) k) (regions_same more vs 3 n same)
      ∙ ap (λ rs. regions_from vs 3 n ++ rs) (regions_zero more (budget_field n) k (λ i h. get_d_zeros vs (3 * k) i (omega (arith, l))))
      ∙ ap (λ j. regions_from vs 3 n ++ replicate j no_region) left

  read_more : (ws : List ℕ) (v w : ℕ) → read_by last_region more (ws ++ replicate (3 * k) 1) v w ≡ read_by n vs ws v w
  read_more ws v w =
      rw (same 0 (omega arith), same 1 (omega arith), same 2 (omega arith), regions_more, all_wide_more ws (3 * k))

-- `before` has 12 fields, and f is the budget: with the zeros the same question is failed first, and the values are the same
pub forms_alike : (before f : List ℕ) → count comma f ≡ 0 → length (fields before) ≡ budget_field few_regions
    → read_setup (setup_row (before ++ (comma ∷ f))) ≡ read_setup (setup_row (before ++ other_regions ++ (comma ∷ f)))
unfolding spelled
forms_alike before f h e =
    let k = 3 * (last_region - few_regions) in
    let us = fields before in
    let all = before ++ other_regions in
    let v = number 16 f in
    let w = length f in
    let parts : fields all ≡ us ++ replicate k (ascii "0") = fields_zeros before k in
    let long : length (fields all) ≡ budget_field last_region =
    ap length parts ∙ length-append us (replicate k (ascii "0")) ∙ omega (arith, e, length-replicate k (ascii "0")) in
    let values : map (number 16) (fields all) ≡ map (number 16) us ++ replicate k 0 =
    ap (map (number 16)) parts ∙ map-append (number 16) us (replicate k (ascii "0")) in
    let widths : map length (fields all) ≡ map length us ++ replicate k 1 =
    ap (map length) parts ∙ map-append length us (replicate k (ascii "0")) in
    let more = read_more few_regions (last_region - few_regions) refl (map (number 16) us) (length-map us (number 16) ∙ e) (map length us) v w in
    read_then before f h (ap (λ j. counted (j + 1)) e)
    ∙ ap (λ j. read_by (regions_given (j + 1)) (map (number 16) us) (map length us) v w) e
    ∙ sym more
    ∙ sym (read_then all f h (ap (λ j. counted (j + 1)) long)
    ∙ ap (λ j. read_by (regions_given (j + 1)) (map (number 16) (fields all)) (map length (fields all)) v w) long
    ∙ ap (λ ns. read_by last_region ns (map length (fields all)) v w) values
    ∙ ap (λ ns. read_by last_region (map (number 16) us ++ replicate k 0) ns v w) widths)
