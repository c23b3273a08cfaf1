-- "A setup line has 13 fields, the other regions then being zero, or 34, with regions 1 to 10 in order and the budget last." (02, Job 7)
use mathlib.Core.Path.{◌≡◌, refl, ap, sym, ◌∙◌}
use mathlib.Core.Bool.{true, ◌&&◌, and-true}
use mathlib.Core.List.{List, ◌∷◌, ◌++◌}
use Prim.Native.Nat.{ℕ, ◌≤◌}
use native.Mathlib.Omega.{arith}
use lib.ListN.{length, length-append}
use Rattle.text.specs.Scan.{newline, comma, first_that, count}
use Rattle.text.specs.Split.{fields}
use Rattle.text.proofs.Scanning.{count_append}
use Rattle.setup.proofs.Forms.{other_regions, forms_alike}
use Rattle.sheet.proofs.LineOne.{sheet_of, all_own, own_append, line_one_alike}
use Rattle.report.specs.Report.{report}
use Rattle.report.proofs.DefaultBudget.{with_budget, parts, alike_printed}

-- the zeros hold neither 0a nor a foreign byte
zeros_unbroken : count newline other_regions ≡ 0
unfolding count
zeros_unbroken = refl

zeros_own : all_own other_regions ≡ true
unfolding first_that
zeros_own = refl

unbroken : (before budget : List ℕ) → count newline before ≡ 0 → count newline budget ≡ 0 → count newline (before ++ (comma ∷ budget)) ≡ 0
unfolding count
unbroken before budget h k = omega (arith, h, k, count_append newline before (comma ∷ budget))

-- Job 7's theorem: a sheet whose line 1 has 13 fields has the answer of the same sheet with zeros for regions 4 to 10, whatever else stands
-- in it, refused sheets included. `before` are the 12 fields before the budget; and there is room for the zeros.
pub forms_same : (before budget after : List ℕ) → length (fields before) ≡ 12 → count newline before ≡ 0 → count comma budget ≡ 0 → count newline budget ≡ 0
    → length (with_budget (before ++ other_regions) budget after) ≤ 65536
    → report (with_budget before budget after) ≡ report (with_budget (before ++ other_regions) budget after)
forms_same before budget after twelve h c k room =
    let all = before ++ other_regions in
    let short = before ++ (comma ∷ budget) in
    let long = all ++ (comma ∷ budget) in
    let fits : length (sheet_of long after) ≤ 65536 = rw (parts all budget after) at room in
    let shorter : length short ≤ length long =
    omega (arith, length-append before (comma ∷ budget), length-append all (comma ∷ budget), length-append before other_regions) in
    let both : length (sheet_of short after) ≤ 65536 =
    omega (arith, fits, shorter, length-append short (newline ∷ after), length-append long (newline ∷ after)) in
    let broken : count newline all ≡ 0 = omega (arith, h, count_append newline before other_regions, zeros_unbroken) in
    let kept : all_own all ≡ all_own before = own_append before other_regions ∙ rw zeros_own (and-true (all_own before)) in
    let own : all_own short ≡ all_own long =
    own_append before (comma ∷ budget) ∙ ap (λ t. t && all_own (comma ∷ budget)) (sym kept) ∙ sym (own_append all (comma ∷ budget)) in
    let read = forms_alike before budget c twelve in
    rw (parts before budget after, parts all budget after)
    (alike_printed (sheet_of short after) (sheet_of long after)
    (line_one_alike short long after (unbroken before budget h k) (unbroken all budget broken k) both fits own
    (ap (λ r. r.question) read, λ z. ap (λ r. r.setup) read)))
