-- "An empty budget now means 50,000. [..] A sheet with an empty field runs as with 50,000" (02, Job 4).
use mathlib.Core.Path.{◌≡◌, refl, ap, sym, ◌∙◌}
use mathlib.Core.Bool.{Bool, true, false}
use mathlib.Core.List.{List, [], ◌∷◌, ◌++◌, append_assoc}
use Prim.Native.Nat.{ℕ, ◌<◌, ◌≤◌}
use native.Mathlib.Omega.{arith}
use lib.Dec.{eqb}
use lib.ListN.{length, get_or, length-append}
use borrow.Author.Tests.{eqb-true, le-leb, lt-leb}
use Rattle.text.specs.Ascii.{ascii}
use Rattle.text.specs.Scan.{newline, comma, first_that, count}
use Rattle.text.specs.Number.{digits}
use Rattle.text.specs.Split.{lines}
use Rattle.text.proofs.Scanning.{count_append}
use Rattle.text.proofs.Splitting.{lines_some}
use Rattle.model.specs.Run.{run_call}
use Rattle.setup.specs.Setup.{machine_of}
use Rattle.setup.proofs.Fields.{last_field}
use Rattle.setup.proofs.DefaultBudget.{default_alike, budget_of, budget_is, count_passes}
use Rattle.sheet.specs.Words.{memory_of, blank}
use Rattle.sheet.specs.Sheet.{sheet_refusal, read_sheet, refusal_text}
use Rattle.sheet.proofs.Laws.{file_whole}
use Rattle.sheet.proofs.LineNumbers.{not_whole, passed_lines}
use Rattle.sheet.proofs.LineOne.{sheet_of, all_own, own_append, SheetsAlike, line_one_alike}
use Rattle.report.specs.Report.{result_text, report_over, report}
use Rattle.report.proofs.LineNumbers.{refusal_printed}

-- sheets that are read alike have one answer
pub alike_printed : (s t : List ℕ) → SheetsAlike s t → report s ≡ report t
unfolding report report_over
alike_printed s t e = by (eqb (sheet_refusal s).question 0) refl
  where
    by : (u : Bool) → eqb (sheet_refusal s).question 0 ≡ u → report s ≡ report t
    by true f =
        let values = e.1 (eqb-true (sheet_refusal s).question 0 f) in
        rw (e.0, values.0, values.1)
    by false f = rw (f, sym (ap (λ r. eqb r.question 0) e.0) ∙ f) (ap (λ r. refusal_text r.question r.lineno) e.0)

-- ---- a sheet whose line 1 is `before`, a comma and the budget; `after` are its other lines
abbrev pub with_budget : List ℕ → List ℕ → List ℕ → List ℕ
with_budget before budget after = before ++ ascii "," ++ budget ++ ascii "\n" ++ after

pub parts : (before budget after : List ℕ) → with_budget before budget after ≡ sheet_of (before ++ (comma ∷ budget)) after
parts before budget after =
    append_assoc (before ++ (comma ∷ []) ++ budget) (newline ∷ []) after ∙ ap (λ l. sheet_of l after) (append_assoc before (comma ∷ []) budget)

unbroken : (before : List ℕ) → count newline before ≡ 0
    → (count newline (before ++ (comma ∷ [])) ≡ 0) × (count newline (before ++ (comma ∷ ascii "c350")) ≡ 0)
unfolding count
unbroken before h = (omega (arith, count_append newline before (comma ∷ [])), omega (arith, count_append newline before (comma ∷ ascii "c350")))

-- no foreign byte is written
own_alike : (before : List ℕ) → all_own (before ++ (comma ∷ [])) ≡ all_own (before ++ (comma ∷ ascii "c350"))
unfolding first_that
own_alike before = own_append before (comma ∷ []) ∙ sym (own_append before (comma ∷ ascii "c350"))

-- Job 4's theorem: a sheet with an empty budget has the answer of the same sheet with c350 written there, whatever else stands in it, refused
-- sheets included. `before` has no 0a, so that the budget stands in line 1; and there is room for the four digits.
pub empty_budget : (before after : List ℕ) → count newline before ≡ 0 → length (with_budget before (ascii "c350") after) ≤ 65536
    → report (with_budget before [] after) ≡ report (with_budget before (ascii "c350") after)
empty_budget before after h k =
    let empty = before ++ (comma ∷ []) in
    let written = before ++ (comma ∷ ascii "c350") in
    let fits : length (sheet_of written after) ≤ 65536 = rw (parts before (ascii "c350") after) at k in
    let shorter : length empty ≤ length written = rw (length-append before (comma ∷ []), length-append before (comma ∷ ascii "c350")) (omega arith) in
    let both : length (sheet_of empty after) ≤ 65536 =
    omega (arith, fits, shorter, length-append empty (newline ∷ after), length-append written (newline ∷ after)) in
    let lines = unbroken before h in
    rw (parts before [] after, parts before (ascii "c350") after)
    (alike_printed (sheet_of empty after) (sheet_of written after)
    (line_one_alike empty written after lines.0 lines.1 both fits (own_alike before) (default_alike before)))

-- where there is none, the sheet with the digits is too long, whatever stands in it
pub no_room : (s : List ℕ) → 65536 < length s → report s ≡ ascii "sheet,30,0\n"
unfolding digits
no_room s h =
    let some : 1 ≤ length s = omega arith in
    let r = not_whole s (rw (le-leb 1 (length s) some, lt-leb (length s) 65536 h)) in
    let no : (sheet_refusal s).question ≡ 0 → ⊥ = λ z. omega (arith, z, ap (λ q. q.question) r) in
    rw (refusal_printed s no, r)

-- every sheet that is not refused is run with the budget that the last field of its line 1 says, and 50,000 where that is empty
pub budget_run : (s : List ℕ) → (sheet_refusal s).question ≡ 0
    → let budget = budget_of (last_field (get_or (lines s) 0 [])) in
    report s ≡ result_text (run_call (machine_of (read_sheet s).setup) (memory_of blank (read_sheet s).words) budget).result
unfolding report report_over
budget_run s z =
    let p = passed_lines s z in
    let some : 0 < length (lines s) = lines_some s (file_whole s p.0).0 in
    rw (z, sym (budget_is (get_or (lines s) 0 []) (count_passes (get_or (lines s) 0 []) (p.1 0 some))))
