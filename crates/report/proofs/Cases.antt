-- Document 01's whole example, from the bytes that are read to the bytes that are printed.
use mathlib.Core.Path.{◌≡◌, refl}
use mathlib.Core.List.{List, [], ◌∷◌, ◌++◌}
use Prim.Native.Nat.{ℕ}
use lib.Count.{count_trailing_zeros}
use Rattle.words.specs.Word.{sext}
use Rattle.instructions.specs.Decode.{decode_word}
use Rattle.model.specs.Access.{scan, first_refused, first_absent, verdict}
use Rattle.model.specs.Bytes.{value, written}
use Rattle.model.specs.Hfi.{hfi_stop, hfi_perform}
use Rattle.model.specs.Outcome.{allowed, aligned, settle}
use Rattle.model.specs.Regions.{explicit_rule, matches, first_match, implicit_grants, explicit_grants}
use Rattle.model.specs.Run.{run_by, run_call}
use Rattle.model.specs.Step.{load, store, perform, execute_instruction, execute_word, fetching, execute_fetched, step}
use Rattle.compressed.specs.Expand.{expand_half}
use Rattle.model.specs.WellFormed.{state_fits, well_formed}
use Rattle.model.specs.WritableCode.{explicit_covers, writable_code, exposes_code}
use Rattle.text.specs.Number.{spelled, digits}
use Rattle.text.specs.Ascii.{ascii}
use Rattle.text.specs.Scan.{first_that, count}
use Rattle.text.specs.Split.{split, row_of, all_wide}
use Rattle.setup.specs.Setup.{permissions_in_range, read_setup}
use Rattle.sheet.specs.Words.{read_word, memory_of, blank}
use Rattle.sheet.specs.Sheet.{file_no, words_refusal, lines_refusal, sheet_refusal}
use Rattle.sheet.proofs.Cases.{line_one, words}
use Rattle.report.specs.Report.{register_lines, report_over, report}

-- a sheet, and what is printed of it
abbrev pub rows : List (List ℕ × List ℕ)
rows =
    -- the whole example of document 01
    (line_one ++ words, ascii "20,3,100,1,8,0,0,0,0\n10,5\n")
    -- a budget of f4241
    ∷ (ascii "4,5,100,200,10,3,0,0,0,0,fffffffffffffff0,4,f4241\n", ascii "2,0,4,0,0,0,0,0,0\n")
    -- options 10
    ∷ (ascii "0,10,100,200,10,3,0,0,0,0,fffffffffffffff0,4,a\n", ascii "3,0,0,0,0,0,0,0,0\n")
    -- the byte at 3 may be written and executed
    ∷ (ascii "0,5,100,3,1,3,0,0,0,0,fffffffffffffff0,4,a\n", ascii "4,0,0,0,0,0,0,0,0\n")
    -- a fetch past the code region: the fault record, op and address in their places
    ∷ (ascii "10,5,100,200,10,3,0,0,0,0,fffffffffffffff0,4,a\n", ascii "11,0,10,0,0,1,0,3,10\n")
    -- all ten regions; a fetch that region 10 refuses: its number in hexadecimal
    ∷ (
      ascii "0,5,100,0,0,0,0,0,0,0,0,0,0,0,0,0,0,0,0,0,0,0,0,0,0,0,0,0,0,0,0,fffffffffffffff0,0,a\n",
      ascii "11,0,0,0,0,1,a,3,0\n",
    )
    -- sixteen steps of a jump to itself, printed in hexadecimal
    ∷ (ascii "0,5,100,200,10,3,0,0,0,0,fffffffffffffff0,4,10\n0,0000006f\n", ascii "21,10,0,0,0,0,0,0,0\n")
    -- a half-word at a pc that is 2 modulo 4 (02, Job 8): c.li x7, 7
    ∷ (ascii "2,5,100,200,10,3,0,0,0,0,fffffffffffffff0,4,1\n0,439d0000\n", ascii "21,1,4,0,0,0,0,0,0\n7,7\n")
    -- document 01's example of a refusal
    ∷ (line_one ++ ascii "0,\n", ascii "sheet,33,2\n")
    -- an empty file
    ∷ ([], ascii "sheet,30,0\n")
    ∷ []

abbrev pub reported : List (List ℕ × List ℕ) → List (List ℕ)
reported [] = []
reported (r ∷ rs) = report r.0 ∷ reported rs

abbrev pub expected : List (List ℕ × List ℕ) → List (List ℕ)
expected [] = []
expected (r ∷ rs) = r.1 ∷ expected rs

pub rows_hold : reported rows ≡ expected rows
unfolding report report_over register_lines sheet_refusal lines_refusal words_refusal read_word row_of memory_of blank file_no permissions_in_range read_setup split all_wide first_that count spelled digits run_call run_by step execute_fetched fetching execute_word execute_instruction perform store load state_fits well_formed explicit_rule matches first_match implicit_grants explicit_grants explicit_covers writable_code exposes_code allowed aligned settle hfi_stop hfi_perform value written scan first_refused first_absent verdict decode_word expand_half sext count_trailing_zeros
rows_hold = refl
