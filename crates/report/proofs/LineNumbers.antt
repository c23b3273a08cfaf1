-- What is printed of a sheet that is refused with 31 to 35 has the number of the line that fails: one more than the 0a bytes before
-- that line (02, Job 3).
use mathlib.Core.Path.{◌≡◌, ap, ◌∙◌}
use mathlib.Core.List.{List}
use Prim.Native.Nat.{ℕ, ◌+◌, ◌≤◌}
use native.Mathlib.Omega.{arith}
use lib.ListN.{take}
use borrow.Author.Tests.{ne_eqb}
use Rattle.text.specs.Scan.{newline, count}
use Rattle.sheet.specs.Sheet.{sheet_refusal, refusal_text}
use Rattle.sheet.proofs.LineNumbers.{RefusedLine, refused_line}
use Rattle.report.specs.Report.{report_over, report}

-- every refusal is printed as it is
pub refusal_printed : (s : List ℕ) → ((sheet_refusal s).question ≡ 0 → ⊥) → report s ≡ refusal_text (sheet_refusal s).question (sheet_refusal s).lineno
unfolding report report_over
refusal_printed s h = rw (ne_eqb (sheet_refusal s).question 0 h)

pub record PrintedLine (s : List ℕ) : Type 0 where
  pub refused : RefusedLine s (sheet_refusal s)
  pub printed : report s ≡ refusal_text (sheet_refusal s).question (count newline (take refused.at s) + 1)

pub printed_line : (s : List ℕ) → 31 ≤ (sheet_refusal s).question → PrintedLine s
printed_line s h =
    let r = refused_line s h in
    let text = refusal_printed s (λ z. omega (arith, z, h)) in
    record { refused = r; printed = text ∙ ap (refusal_text (sheet_refusal s).question) r.there.start.counted }
