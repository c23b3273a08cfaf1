-- "A sheet with an empty field runs as with 50,000" (02, Job 4), read off the contract of the code's `respond`, so that nobody has to join
-- contract and theorem: two calls, each of which met its contract, on a sheet with an empty budget and on the same sheet with c350 written
-- there.
-- Assumes nothing.
use mathlib.Core.Path.{◌≡◌, ap, sym, ◌∙◌}
use mathlib.Core.List.{List, []}
use Prim.Native.Nat.{ℕ, ◌≤◌}
use lib.ListN.{length, take, drop}
use lib.Seq.{take_at}
use Rattle.text.specs.Ascii.{ascii}
use Rattle.text.specs.Scan.{newline, count}
use Rattle.report.specs.Report.{report}
use Rattle.report.proofs.DefaultBudget.{with_budget, empty_budget}
use Rattle.respond.specs.Answered.{Answered}

-- the bytes of an answer: as many as are answered, from the buffer's start on
bytes : (old text new : List ℕ) (r : ℕ) → Answered old text new r → take r new ≡ text
bytes old text new r a = ap (take r) a.holds ∙ take_at text (drop r old) r (sym a.counted)

pub calls_same : (before after : List ℕ) → count newline before ≡ 0 → length (with_budget before (ascii "c350") after) ≤ 65536
    → (old new : List ℕ) (r : ℕ) → Answered old (report (with_budget before [] after)) new r
    → (older newer : List ℕ) (q : ℕ) → Answered older (report (with_budget before (ascii "c350") after)) newer q
    → (r ≡ q) × (take r new ≡ take q newer)
calls_same before after h k old new r a older newer q b =
    let same = empty_budget before after h k in (
      a.counted ∙ ap length same ∙ sym b.counted,
      bytes old (report (with_budget before [] after)) new r a ∙ same ∙ sym (bytes older (report (with_budget before (ascii "c350") after)) newer q b),
    )
