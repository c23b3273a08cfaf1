-- A sheet as read: whether it is refused, its setup and its word lines (01, The run sheet).
-- Setup is declared in setup/src/lib.rt, WordLine in src/lib.rt; the code's refusal too, whose question is an enum. Assumes nothing.
use Rattle.std.specs.Prelude.{Bool, cond, not, ◌&&◌, ◌||◌, List, [], ◌∷◌, ◌++◌, ℕ, ◌+◌, ◌-◌, eqb, leb, length, get_or, drop, Option, None, Some, Result, Ok, Err}
use Rattle.text.specs.Ascii.{ascii}
use Rattle.text.specs.Scan.{newline, comma, first_that, line_number}
use Rattle.text.specs.Number.{is_digit, decimal}
use Rattle.text.specs.Split.{lines, row_of}
use Rattle.text.specs.Questions.{first_no}
use Rattle.setup.specs.declared.Setup.{Setup}
use Rattle.setup.specs.Setup.{setup_row, read_setup}
use Rattle.setup.specs.Question.{question_number}
use Rattle.sheet.specs.declared.Refusal as code
use Rattle.sheet.specs.declared.WordLine.{WordLine}
use Rattle.sheet.specs.Words.{words_of, read_word}

-- a question that is answered no, and the line that it is asked of; the question 0 refuses nothing
pub record Refusal : Type 0 where
  pub question : ℕ
  pub lineno : ℕ

abbrev pub refusal : ℕ → ℕ → Refusal
refusal question lineno = record { question = question; lineno = lineno }

-- what the code answers as a refusal: one, or none
abbrev pub refusal_of : {A : Type 0} → Result A code.Refusal → Refusal
refusal_of (Ok a) = refusal 0 0
refusal_of (Err r) = refusal (question_number r.question) r.lineno

-- ---- the whole file

-- "is the length 1 to 65,536 with last byte 0a?"
abbrev pub whole : List ℕ → Bool
whole s = leb 1 (length s) && (leb (length s) 65536 && eqb (get_or s (length s - 1) 0) newline)

-- "a digit 0-9, a-f, comma or 0a", or else foreign to a sheet
abbrev pub foreign : ℕ → Bool
foreign b = not (is_digit b || (eqb b comma || eqb b newline))

-- 31 asks whether the first foreign byte stands past the end
abbrev pub file_questions : List ℕ → List (Bool × ℕ)
file_questions s = (whole s, 30) ∷ (eqb (first_that foreign s) (length s), 31) ∷ []

unfoldable pub file_no : List ℕ → ℕ
file_no s = first_no (file_questions s)

-- "for 31 the line of the first such byte"; 0 where there is none
abbrev pub foreign_line : List ℕ → ℕ
foreign_line s = cond (eqb (first_that foreign s) (length s)) 0 (line_number s (first_that foreign s))

-- that line, where there is one
abbrev pub foreign_found : List ℕ → Option ℕ
foreign_found s = cond (eqb (first_that foreign s) (length s)) None (Some (line_number s (first_that foreign s)))

-- "0 for 30"
abbrev pub file_refusal : List ℕ → Refusal
file_refusal s = refusal (file_no s) (cond (eqb (file_no s) 31) (foreign_line s) 0)

-- ---- "Then line by line". A line's number is that of its first byte's position: "one more than the number of 0a bytes before
-- that line" (02, Job 3)

-- the word lines of sheet s, of which the first begins at position `at`: 32 to 35 of it, then the next, which begins past its end
unfoldable pub words_refusal : List ℕ → ℕ → ℕ → List (List ℕ) → Refusal
words_refusal s at least [] = refusal 0 0
words_refusal s at least (l ∷ ls) =
    let w = read_word least (row_of 2 l) in
    cond (eqb w.question 0)
    (words_refusal s (at + length l + 1) (w.address + 1) ls)
    (refusal w.question (line_number s at))

-- line 1, which begins at position 0, then the word lines
unfoldable pub lines_refusal : List ℕ → List (List ℕ) → Refusal
lines_refusal s [] = refusal 0 0
lines_refusal s (l ∷ ls) =
    let h = read_setup (setup_row l) in
    cond (eqb h.question 0) (words_refusal s (length l + 1) 0 ls) (refusal h.question (line_number s 0))

unfoldable pub sheet_refusal : List ℕ → Refusal
sheet_refusal s = cond (eqb (file_no s) 0) (lines_refusal s (lines s)) (file_refusal s)

-- ---- the sheet; what a refused one has for a setup and for words is never used

pub record Sheet : Type 0 where
  pub refusal : Refusal
  pub setup : Setup
  pub words : List WordLine

abbrev pub read_sheet : List ℕ → Sheet
read_sheet s =
    record {
      refusal = sheet_refusal s;
      setup = (read_setup (setup_row (get_or (lines s) 0 []))).setup;
      words = words_of (drop 1 (lines s));
    }

-- ---- what is printed of a sheet that is refused

-- "beginning with the word itself"
abbrev pub sheet_word : List ℕ
sheet_word = ascii "sheet"

-- "sheet, number, line number in decimal", for example `sheet,33,2`; "every printed line ends in 0a"
abbrev pub refusal_text : ℕ → ℕ → List ℕ
refusal_text question lineno = (sheet_word ++ (comma ∷ [])) ++ decimal question ++ (comma ∷ []) ++ decimal lineno ++ (newline ∷ [])
