-- Two sheets that are the same after line 1: where their lines 1 are refused and read alike, so are they.
use mathlib.Core.Path.{◌≡◌, refl, ap, sym, ◌∙◌}
use mathlib.Core.Bool.{Bool, true, false, cond, ◌&&◌}
use mathlib.Core.List.{List, [], ◌∷◌, ◌++◌}
use Prim.Native.Nat.{ℕ, suc, ◌+◌, ◌-◌, ◌<◌, ◌≤◌}
use native.Mathlib.Omega.{arith}
use lib.Dec.{eqb}
use lib.ListN.{length, get_or, length-append}
use lib.Seq.{get_or-append-add}
use borrow.Author.Tests.{eqb-true, eqb-false, eq-eqb, ne_eqb, le-leb}
use Rattle.text.specs.Scan.{newline, first_that, count, line_number}
use Rattle.text.specs.Split.{lines, row_of}
use Rattle.text.proofs.Scanning.{first_le, first_in, first_past}
use Rattle.text.proofs.LineNumbers.{number_inside, number_after}
use Rattle.text.proofs.RoundTrip.{line_then}
use Rattle.setup.specs.Setup.{setup_row, read_setup}
use Rattle.setup.proofs.DefaultBudget.{ReadAlike}
use Rattle.sheet.specs.Words.{read_word}
use Rattle.sheet.specs.Sheet.{whole, foreign, foreign_line, file_no, file_refusal, words_refusal, lines_refusal, sheet_refusal, read_sheet}
use Rattle.sheet.proofs.Laws.{foreign_asked}
use Rattle.sheet.proofs.LineNumbers.{passed_lines}

-- ---- a sheet by its line 1 and the rest
abbrev pub sheet_of : List ℕ → List ℕ → List ℕ
sheet_of line rest = line ++ (newline ∷ rest)

-- does no byte of it break 31?
abbrev pub all_own : List ℕ → Bool
all_own s = eqb (first_that foreign s) (length s)

-- two tests that say the same
eqb_same : (a b p q : ℕ) → (p ≡ q → a ≡ b) → (a ≡ b → p ≡ q) → eqb a b ≡ eqb p q
eqb_same a b p q f g = by (eqb p q) refl
  where
    by : (t : Bool) → eqb p q ≡ t → eqb a b ≡ t
    by true e = eq-eqb a b (f (eqb-true p q e))
    by false e = ne_eqb a b (λ z. eqb-false p q e (g z))

pub own_append : (s t : List ℕ) → all_own (s ++ t) ≡ all_own s && all_own t
own_append s t = by (all_own s) refl
  where
    by : (u : Bool) → all_own s ≡ u → all_own (s ++ t) ≡ u && all_own t
    by true f =
        let past = first_past foreign s t (eqb-true (first_that foreign s) (length s) f) in
        rw (past, length-append s t)
        (eqb_same (length s + first_that foreign t) (length s + length t) (first_that foreign t) (length t) (λ z. omega (arith, z)) (λ z. omega (arith, z)))
    by false f =
        let off = eqb-false (first_that foreign s) (length s) f in
        let inside : first_that foreign s < length s = omega (arith, off, first_le foreign s) in
        ne_eqb (first_that foreign (s ++ t)) (length (s ++ t)) (λ z. omega (arith, z, first_in foreign s t inside, length-append s t))

module _ (line rest : List ℕ) where
  long : length (sheet_of line rest) ≡ length line + suc (length rest)
  long = length-append line (newline ∷ rest)

  -- how it ends is the rest's affair
  whole_after : length (sheet_of line rest) ≤ 65536 → whole (sheet_of line rest) ≡ eqb (get_or (newline ∷ rest) (length rest) 0) newline
  whole_after h =
      let last : length (sheet_of line rest) - 1 ≡ length line + length rest = omega (arith, long) in
      let some : 1 ≤ length (sheet_of line rest) = omega (arith, long) in
      rw (
        le-leb 1 (length (sheet_of line rest)) some,
        le-leb (length (sheet_of line rest)) 65536 h,
        last,
        get_or-append-add line (newline ∷ rest) (length rest) 0,
      )

  -- a foreign byte stands in line 1, or in the rest
  foreign_after : count newline line ≡ 0
      → foreign_line (sheet_of line rest) ≡ cond (all_own line) (cond (all_own rest) 0 (line_number rest (first_that foreign rest) + 1)) 1
  unfolding first_that
  foreign_after h = by (all_own line) refl
    where
      by : (t : Bool) → all_own line ≡ t
          → foreign_line (sheet_of line rest) ≡ cond t (cond (all_own rest) 0 (line_number rest (first_that foreign rest) + 1)) 1
      by true e =
          let past = first_past foreign line (newline ∷ rest) (eqb-true (first_that foreign line) (length line) e) in
          let first = first_that foreign rest in
          let test : eqb (length line + suc first) (length line + suc (length rest)) ≡ all_own rest =
          eqb_same (length line + suc first) (length line + suc (length rest)) first (length rest) (λ z. omega (arith, z)) (λ z. omega (arith, z)) in
          rw (past, long, number_after line rest h first, test)
      by false e =
          let off = eqb-false (first_that foreign line) (length line) e in
          let inside : first_that foreign line < length line = omega (arith, off, first_le foreign line) in
          rw (
            first_in foreign line (newline ∷ rest) inside,
            ne_eqb (first_that foreign line) (length (sheet_of line rest)) (λ z. omega (arith, z, long)),
            number_inside line rest h (first_that foreign line) (omega arith),
          )

-- ---- the file
file_no_lem : (s : List ℕ) → file_no s ≡ cond (whole s) (cond (eqb (foreign_line s) 0) 0 31) 30
unfolding file_no
file_no_lem s = rw (foreign_asked s)

file_same : (s t : List ℕ) → whole s ≡ whole t → foreign_line s ≡ foreign_line t → file_refusal s ≡ file_refusal t
file_same s t w f = rw (file_no_lem s, file_no_lem t, w, f)

-- ---- the word lines from positions i and j on, past which every position has the same line number
words_same : (s t : List ℕ) (i j least : ℕ) (ls : List (List ℕ)) → ((k : ℕ) → line_number s (i + k) ≡ line_number t (j + k))
    → words_refusal s i least ls ≡ words_refusal t j least ls
unfolding words_refusal
words_same s t i j least [] e = refl
words_same s t i j least (l ∷ ls) e =
    rw (words_same s t (i + length l + 1) (j + length l + 1) ((read_word least (row_of 2 l)).address + 1) ls on, here)
  where
    on : (k : ℕ) → line_number s (i + length l + 1 + k) ≡ line_number t (j + length l + 1 + k)
    on k =
        let m : i + length l + 1 + k ≡ i + (length l + 1 + k) = omega arith in
        let n : j + length l + 1 + k ≡ j + (length l + 1 + k) = omega arith in
        rw (m, n) (e (length l + 1 + k))

    here : line_number s i ≡ line_number t j
    here =
        let m : i + 0 ≡ i = omega arith in
        let n : j + 0 ≡ j = omega arith in
        rw (m, n) at (e 0)

-- ---- the sheets: they are refused alike, and what is not refused is read alike
abbrev pub SheetsAlike : List ℕ → List ℕ → Type 0
SheetsAlike s t =
    (sheet_refusal s ≡ sheet_refusal t)
    × ((sheet_refusal s).question ≡ 0 → ((read_sheet s).setup ≡ (read_sheet t).setup) × ((read_sheet s).words ≡ (read_sheet t).words))

module _ (l m rest : List ℕ) (h : count newline l ≡ 0) (k : count newline m ≡ 0) where
  lines_refused : (read_setup (setup_row l)).question ≡ (read_setup (setup_row m)).question
      → lines_refusal (sheet_of l rest) (l ∷ lines rest) ≡ lines_refusal (sheet_of m rest) (m ∷ lines rest)
  unfolding lines_refusal
  lines_refused e =
      rw (e, words_same (sheet_of l rest) (sheet_of m rest) (length l + 1) (length m + 1) 0 (lines rest) on)
    where
      on : (p : ℕ) → line_number (sheet_of l rest) (length l + 1 + p) ≡ line_number (sheet_of m rest) (length m + 1 + p)
      on p =
          let i : length l + 1 + p ≡ length l + suc p = omega arith in
          let j : length m + 1 + p ≡ length m + suc p = omega arith in
          rw (i, j) (number_after l rest h p ∙ sym (number_after m rest k p))

  refused_alike : length (sheet_of l rest) ≤ 65536 → length (sheet_of m rest) ≤ 65536 → all_own l ≡ all_own m
      → (read_setup (setup_row l)).question ≡ (read_setup (setup_row m)).question
      → sheet_refusal (sheet_of l rest) ≡ sheet_refusal (sheet_of m rest)
  unfolding sheet_refusal
  refused_alike f g o e =
      let w : whole (sheet_of l rest) ≡ whole (sheet_of m rest) = whole_after l rest f ∙ sym (whole_after m rest g) in
      let b : foreign_line (sheet_of l rest) ≡ foreign_line (sheet_of m rest) = foreign_after l rest h ∙ rw o (sym (foreign_after m rest k)) in
      let file = file_same (sheet_of l rest) (sheet_of m rest) w b in
      rw (line_then l rest h, line_then m rest k, lines_refused e, file, ap (λ r. r.question) file)

  -- line 1 of a sheet that is not refused passes
  setup_passed : (sheet_refusal (sheet_of l rest)).question ≡ 0 → (read_setup (setup_row l)).question ≡ 0
  setup_passed z =
      let passed = rw (line_then l rest h) at (passed_lines (sheet_of l rest) z).1 in
      passed 0 (omega arith)

  pub line_one_alike : length (sheet_of l rest) ≤ 65536 → length (sheet_of m rest) ≤ 65536 → all_own l ≡ all_own m
      → ReadAlike (read_setup (setup_row l)) (read_setup (setup_row m)) → SheetsAlike (sheet_of l rest) (sheet_of m rest)
  line_one_alike f g o e = (
    refused_alike f g o e.0,
    λ z. rw (line_then l rest h, line_then m rest k) (e.1 (setup_passed z), refl),
  )
