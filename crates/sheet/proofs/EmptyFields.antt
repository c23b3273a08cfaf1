-- "33: has each field 1 to 16 digits (an empty budget passes)?" (01): in a sheet that is not refused each field but the budget is 1 to 16
-- bytes wide. (That its bytes are digits is 31.)
use mathlib.Core.Path.{◌≡◌, refl}
use mathlib.Core.Bool.{true}
use mathlib.Core.List.{List, []}
use Prim.Native.Nat.{ℕ, suc, ◌-◌, ◌<◌}
use native.Mathlib.Omega.{arith}
use lib.ListN.{length, get_or, take}
use lib.Seq.{take_all}
use borrow.Author.Tests.{eqb-true}
use Rattle.text.specs.Split.{lines, fields, row_of, wide}
use Rattle.text.proofs.Asking.{yes_at}
use Rattle.text.proofs.Rows.{row_widths, row_wide}
use Rattle.text.proofs.Splitting.{lines_some}
use Rattle.setup.proofs.DefaultBudget.{others_wide}
use Rattle.sheet.specs.Words.{word_of, word_questions, read_word}
use Rattle.sheet.specs.Sheet.{sheet_refusal}
use Rattle.sheet.proofs.Laws.{file_whole}
use Rattle.sheet.proofs.LineNumbers.{least_at, passed_lines}

word_wide : (least : ℕ) (line : List ℕ) (i : ℕ) → (read_word least (row_of 2 line)).question ≡ 0 → i < 2 → wide (length (get_or (fields line) i [])) ≡ true
unfolding read_word
word_wide least line i z h =
    let r = row_of 2 line in
    let asked = word_questions least r (word_of r) in
    let n : r.count ≡ 2 = eqb-true r.count 2 (yes_at 0 asked refl z) in
    let both : take 2 r.widths ≡ r.widths = take_all 2 r.widths (omega (arith, row_widths 2 line)) in
    row_wide 2 2 i line n (rw both (yes_at 1 asked refl z)) h h

module _ (s : List ℕ) (z : (sheet_refusal s).question ≡ 0) where
  -- line 1, of 13 or 34 fields, whose last is the budget
  pub setup_wide : (i : ℕ) → i < length (fields (get_or (lines s) 0 [])) - 1 → wide (length (get_or (fields (get_or (lines s) 0 [])) i [])) ≡ true
  setup_wide i h =
      let p = passed_lines s z in
      let some : 0 < length (lines s) = lines_some s (file_whole s p.0).0 in
      others_wide (get_or (lines s) 0 []) (p.1 0 some) i h

  pub words_wide : (j i : ℕ) → suc j < length (lines s) → i < 2 → wide (length (get_or (fields (get_or (lines s) (suc j) [])) i [])) ≡ true
  words_wide j i h k = word_wide (least_at (lines s) j) (get_or (lines s) (suc j) []) i ((passed_lines s z).1 (suc j) h) k
