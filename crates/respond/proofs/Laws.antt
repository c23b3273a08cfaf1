-- A refused sheet, a sheet that is run, and what an answer leaves in a buffer.
use mathlib.Core.Path.{◌≡◌, ap, sym, ◌∙◌}
use mathlib.Core.List.{List}
use Prim.Native.Nat.{ℕ, ◌≤◌}
use native.Mathlib.Omega.{arith}
use lib.ListN.{length, take}
use lib.Seq.{length-sets, length-take-le}
use borrow.Author.Tests.{eq-eqb, ne_eqb}
use Rattle.std.specs.Prelude.{Result, Ok, Err, OnOk}
use Rattle.text.specs.Write.{Wrote}
use Rattle.text.proofs.Writing.{wrote_parts}
use Rattle.model.specs.declared.Machine.{Machine}
use Rattle.model.specs.Run.{RunAnswer}
use Rattle.model.specs.Run.{ran_with, run_call}
use Rattle.setup.specs.Setup.{machine_of}
use Rattle.setup.specs.Question.{question_number}
use Rattle.setup.specs.declared.Setup.{Setup}
use Rattle.setup.specs.declared.Refused.{Refused}
use Rattle.setup.specs.Refused.{values_in, answer_in}
use Rattle.sheet.specs.declared.Refusal as code
use Rattle.sheet.specs.Words.{memory_of}
use Rattle.sheet.specs.Sheet.{refusal, read_sheet, refusal_text}
use Rattle.sheet.proofs.Naming.{refuses}
use Rattle.report.specs.Report.{result_text, report_over}
use Rattle.respond.specs.Answered.{Answered}

-- ---- the sheet s was read over a memory
module _ (mem s : List ℕ) where
  -- and refused
  pub report_refused : (r : code.Refusal) → refusal (question_number r.question) r.lineno ≡ (read_sheet s).refusal
      → refusal_text (question_number r.question) r.lineno ≡ report_over mem s
  unfolding report_over
  report_refused r e =
      ap (λ q. refusal_text q.question q.lineno) e ∙ sym (rw (ne_eqb (read_sheet s).refusal.question 0 (refuses r (read_sheet s).refusal e)))

  -- or run over the memory `filled`, which has its words
  pub report_run : (setup : Setup) (filled last : List ℕ) (m : Machine) (r : RunAnswer) → refusal 0 0 ≡ (read_sheet s).refusal → setup ≡ (read_sheet s).setup
      → filled ≡ memory_of mem (read_sheet s).words → m ≡ machine_of setup → ran_with r last ≡ run_call m filled setup.budget → result_text r ≡ report_over mem s
  unfolding report_over
  report_run setup filled last m r e t f g a =
      let y : (read_sheet s).refusal.question ≡ 0 = sym (ap (λ q. q.question) e) in
      ap (λ o. result_text o.result) a
      ∙ ap (λ n. result_text (run_call n filled setup.budget).result) g
      ∙ ap (λ k. result_text (run_call (machine_of k) filled k.budget).result) t
      ∙ ap (λ k. result_text (run_call (machine_of (read_sheet s).setup) k (read_sheet s).setup.budget).result) f
      ∙ sym (rw (eq-eqb (read_sheet s).refusal.question 0 y))

-- what passed was read with its values
pub ran : (setup : Setup) (r : Result Setup (Refused code.Refusal)) → Ok setup ≡ answer_in r
    → (setup ≡ values_in r) × ((P : Type 0) → OnOk r P → P)
ran setup (Ok s) e = (let same : setup ≡ s = cc in same, λ P p. p)
ran setup (Err x) e = cc

-- ---- a text was written from the start of a buffer that has room for it
pub answered : (old text new : List ℕ) (r : ℕ) → Wrote old 0 text new r → r ≤ length old
    → Answered old text new r × ((r ≤ length new) × (r ≡ length (take r new)))
answered old text new r w h =
    let same : length new ≡ length old = ap length w.stored ∙ length-sets old 0 text in
    let le : r ≤ length new = omega arith in (
      record { counted = omega (arith, w.after); holds = wrote_parts old 0 text new r (omega (arith, w.after)) w },
      (le, sym (length-take-le r new le)),
    )
