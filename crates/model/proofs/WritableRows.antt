-- Document 02, Job 5, as rows of one table that one computed check covers: the test at the edges of regions, and 4 and 22 among the other
-- questions. A row of a call has the whole machine that it leaves, and the whole memory.
-- Assumes nothing.
use mathlib.Core.Path.{◌≡◌, refl}
use mathlib.Core.Bool.{true, false}
use mathlib.Core.List.{List, [], ◌∷◌, ◌++◌}
use Prim.Native.Nat.{ℕ, ◌+◌, ◌-◌, ◌^◌}
use lib.Count.{count_trailing_zeros}
use Rattle.words.specs.Word.{sext}
use Rattle.instructions.specs.Decode.{decode_word}
use Rattle.model.specs.Bytes.{value, written}
use Rattle.model.specs.Outcome.{allowed, aligned, settle}
use Rattle.model.specs.WellFormed.{state_fits, well_formed}
use Rattle.model.specs.Hfi.{hfi_stop, hfi_perform}
use Rattle.model.specs.Regions.{explicit_rule, matches, first_match, implicit_grants, explicit_grants}
use Rattle.model.specs.WritableCode.{explicit_covers, writable_code, exposes_code}
use Rattle.model.specs.Access.{scan, first_refused, first_absent, verdict}
use Rattle.model.specs.Step.{load, store, perform, execute_instruction, execute_word, fetching, execute_fetched, step, step_call, resume_call}
use Rattle.compressed.specs.Expand.{expand_half}
use Rattle.model.specs.Run.{run_by, run_call}
use Rattle.model.specs.declared.Region.{Region}
use Rattle.model.proofs.Alike.{held}
use Rattle.model.proofs.Rows.{Row, found, stated, x, pc, mode, options, selector, base, bound, permission, occurred, region_of, bytes}
use Rattle.model.proofs.Rows.Question.{exposing}
use Rattle.model.proofs.Rows.Answer.{told}
use Rattle.model.proofs.Clauses.{enter, enter_jump, set_base, set_bound, set_permission, seven, ld, sd, outside, inside, calm, operands, steps_over, steps, goes, forbidden, writes, runs, resumes}

-- ---- the test, of regions 1 and 2 against the sixteen bytes from 100 on as region 3, and against others

abbrev none : Region
none = region_of 0 0 0

abbrev code : Region
code = region_of 0x100 (2 ^ 64 - 0x10) 4

abbrev meets : Region → Region → Region → Row
meets one two three = (exposing (one ∷ two ∷ three ∷ []), told true)

abbrev parts : Region → Region → Region → Row
parts one two three = (exposing (one ∷ two ∷ three ∷ []), told false)

unfoldable pub exact : List Row
exact =
    -- "through region 1 or region 2 against region 3": all of it, the first byte, the last, one between, and more than it
    meets (region_of 0x100 0x10 2) none code
    ∷ meets (region_of 0xff 2 3) none code
    ∷ meets (region_of 0x10f 9 3) none code
    ∷ meets (region_of 0x107 1 3) none code
    ∷ meets (region_of 0 0x1000 3) none code
    ∷ meets none (region_of 0x100 (2 ^ 64 - 0x10) 2) code
    ∷ meets none (region_of 0x10f (2 ^ 64 - 1) 3) code
    ∷ meets none (region_of 0x108 (2 ^ 64 - 8) 3) code
    ∷ meets none (region_of 0 (2 ^ 64 - 0x1000) 3) code
    ∷ meets (region_of 0 0x10000 0xb) none code
    -- one of the two is enough, and neither is needed
    ∷ meets (region_of 0x200 8 3) (region_of 0x100 (2 ^ 64 - 4) 2) code
    ∷ meets (region_of 0x104 4 2) (region_of 0x200 (2 ^ 64 - 4) 3) code
    ∷ parts (region_of 0x200 8 3) (region_of 0x200 (2 ^ 64 - 4) 3) code
    -- "The test is exact": one ends where the other begins
    ∷ parts (region_of 0xf0 0x10 3) none code
    ∷ parts (region_of 0x110 0x10 3) none code
    ∷ parts none (region_of 0xf0 (2 ^ 64 - 0x10) 3) code
    ∷ parts none (region_of 0x110 (2 ^ 64 - 0x10) 3) code
    ∷ parts (region_of 0 0x10000 0xb) none (region_of 0x10000 (2 ^ 64 - 0x10) 4)
    ∷ parts (region_of 0x102 1 3) none (region_of 0x103 (2 ^ 64 - 1) 4)
    ∷ parts none (region_of 0x102 (2 ^ 64 - 1) 3) (region_of 0x103 (2 ^ 64 - 1) 4)
    -- "both writable and executable": a permission is missing
    ∷ parts (region_of 0x100 0x10 1) none code
    ∷ parts none (region_of 0x100 (2 ^ 64 - 0x10) 1) code
    ∷ parts (region_of 0x100 0x10 3) (region_of 0x100 (2 ^ 64 - 0x10) 3) (region_of 0x100 (2 ^ 64 - 0x10) 0)
    -- "A region that breaks its rule .. matches nothing"
    ∷ parts (region_of 0x100 0 3) none code
    ∷ parts (region_of 0x100 0x10 0xb) none code
    ∷ parts (region_of 0x100 (2 ^ 32 + 1) 3) none code
    ∷ parts (region_of 0xfffffff8 0x10 3) none (region_of 0xfffffff0 (2 ^ 64 - 0x10) 4)
    ∷ parts none (region_of 0 0 3) code
    ∷ parts none (region_of 0x108 (2 ^ 64 - 0x10) 3) code
    ∷ parts none (region_of 0x100 0xfffffffffffffe10 3) code
    ∷ parts (region_of 0 0x1000 3) (region_of 0 (2 ^ 64 - 0x1000) 3) (region_of 0x108 (2 ^ 64 - 0x10) 4)
    ∷ parts (region_of 0 0x1000 3) (region_of 0 (2 ^ 64 - 0x1000) 3) (region_of 0 0 4)
    -- "below 2^48", far above any memory
    ∷ meets (region_of (2 ^ 48 - 1) 1 3) none (region_of (2 ^ 48 - 1) (2 ^ 64 - 1) 4)
    ∷ meets (region_of 0 (2 ^ 48) 0xb) none (region_of (2 ^ 47) (2 ^ 64 - 2 ^ 20) 4)
    ∷ meets none (region_of (2 ^ 47) (2 ^ 64 - 2 ^ 20) 2) (region_of 0 (2 ^ 64 - 2 ^ 48) 4)
    ∷ parts (region_of (2 ^ 48) 1 3) none (region_of (2 ^ 48) (2 ^ 64 - 1) 4)
    -- a code region too small for a fetch
    ∷ meets (region_of 0x103 1 3) none (region_of 0x103 (2 ^ 64 - 1) 4)
    ∷ meets none (region_of 0x102 (2 ^ 64 - 2) 3) (region_of 0x103 (2 ^ 64 - 1) 4)
    ∷ []

-- ---- the calls

-- region 1 then has the first eight of the sixteen bytes at 0 that may be executed
abbrev writing : List (ℕ × ℕ)
writing = (base 1, 0) ∷ (bound 1, 8) ∷ []

-- region 2 then has the first 64, the code among them
abbrev sharing : List (ℕ × ℕ)
sharing = (base 2, 0) ∷ (permission 2, 3) ∷ []

unfoldable pub asking : List Row
asking =
    -- "4, for a step or run given such a machine in locked HFI mode": before its pc, its budget, its memory
    steps (inside 1 ++ writing) seven 4 []
    ∷ steps (inside 0xf ++ writing) 0 4 []
    ∷ steps (inside 1 ++ writing ++ ((pc, 3) ∷ [])) seven 4 []
    ∷ steps_over (inside 1 ++ writing) [] 4 0 []
    ∷ runs (inside 1 ++ writing) (seven ∷ []) 1 4 0 0 []
    ∷ runs (inside 1 ++ writing) (seven ∷ []) 0 4 0 0 []
    ∷ runs (inside 1 ++ sharing) (seven ∷ []) 9 4 0 0 []
    -- "asked after 3"
    ∷ runs (inside 1 ++ writing) (seven ∷ []) 1000001 2 0 0 []
    ∷ runs (inside 17 ++ writing) (seven ∷ []) 9 3 0 0 []
    ∷ steps (inside 17 ++ writing) seven 3 []
    -- neither unlocked nor outside HFI mode, nor where no byte is both
    ∷ goes (inside 0xe ++ writing) seven ((x 7, 7) ∷ [])
    ∷ goes (outside 1 ++ writing) seven ((x 7, 7) ∷ [])
    ∷ goes (inside 1) seven ((x 7, 7) ∷ [])
    ∷ runs (inside 0xe ++ writing) (seven ∷ []) 1 21 1 0 ((pc, 4) ∷ (x 7, 7) ∷ [])
    ∷ runs (outside 0xf ++ writing) (seven ∷ []) 1 21 1 0 ((pc, 4) ∷ (x 7, 7) ∷ [])
    -- so a guest that is not locked loads from its own code, and stores into it: ld x6, 0(x5); sd x6, 0(x5)
    ∷ steps_over (inside 0xe ++ sharing ++ operands 4 0) (bytes (ld ∷ 0x11223344 ∷ 0x55667788 ∷ [])) 0 0 ((pc, 4) ∷ (x 6, 0x5566778811223344) ∷ [])
    ∷ writes (inside 0xe ++ sharing ++ operands 4 0x0102030405060708) (bytes (sd ∷ 0 ∷ 0 ∷ [])) ((pc, 4) ∷ [])
    ((4, 8) ∷ (5, 7) ∷ (6, 6) ∷ (7, 5) ∷ (8, 4) ∷ (9, 3) ∷ (10, 2) ∷ (11, 1) ∷ [])
    -- and regions may be set so that a byte is both
    ∷ goes (inside 0xe ++ ((selector, 1) ∷ (x 5, 0) ∷ [])) set_base ((base 1, 0) ∷ [])
    ∷ goes (outside 0xf ++ ((selector, 1) ∷ (base 1, 8) ∷ (bound 1, 0) ∷ (x 5, 8) ∷ [])) set_bound ((bound 1, 8) ∷ [])
    ∷ goes (inside 0xe ++ ((selector, 1) ∷ (base 1, 8) ∷ (permission 1, 1) ∷ (x 5, 3) ∷ [])) set_permission ((permission 1, 3) ∷ [])
    -- nor by resuming
    ∷ resumes (inside 1 ++ writing) 9 0 ((x 10, 9) ∷ (pc, 4) ∷ [])
    ∷ resumes (inside 1 ++ sharing) 9 0 ((x 10, 9) ∷ (pc, 4) ∷ [])
    -- "22, for either enter form that would begin such a state": by the operand's lock bit
    ∷ steps (outside 0 ++ writing ++ operands 1 0) enter 22 []
    ∷ steps (outside 0 ++ writing ++ operands 0xf 0) enter 22 []
    ∷ steps (outside 0 ++ writing ++ operands 1 0x100) enter_jump 22 []
    ∷ steps (outside 0xf ++ writing ++ operands 1 0) enter 22 []
    ∷ steps (outside 0xf ++ sharing ++ operands 3 0x100) enter_jump 22 []
    ∷ goes (outside 1 ++ writing ++ operands 0 0) enter ((mode, 1) ∷ (options, 0) ∷ (occurred, 0) ∷ [])
    ∷ goes (outside 1 ++ writing ++ operands 0xe 0) enter ((mode, 1) ∷ (options, 0xe) ∷ (occurred, 0) ∷ [])
    ∷ steps (outside 0 ++ writing ++ operands 2 0x100) enter_jump 0 ((pc, 0x100) ∷ (mode, 1) ∷ (options, 2) ∷ (occurred, 0) ∷ [])
    -- "asked after 14 and before 15", and after 23
    ∷ forbidden 14 (outside 0 ++ writing ++ operands 0x11 0) enter
    ∷ forbidden 14 (outside 0 ++ writing ++ operands 0x11 0x103) enter_jump
    ∷ forbidden 23 (inside 0 ++ writing ++ operands 1 0) enter
    ∷ forbidden 23 (inside 0 ++ writing ++ operands 1 0x103) enter_jump
    ∷ forbidden 23 (inside 0xe ++ writing ++ operands 1 0) enter
    ∷ forbidden 23 (inside 0xe ++ writing ++ operands 0xf 0x103) enter_jump
    ∷ steps (outside 0 ++ writing ++ operands 1 0x103) enter_jump 22 []
    ∷ steps (outside 0xf ++ writing ++ operands 3 0x101) enter_jump 22 []
    ∷ steps (outside 0 ++ writing ++ operands 0 0x103) enter_jump 15 []
    ∷ steps (outside 0 ++ calm ++ writing ++ operands 1 0) enter 22 []
    -- "22 what 14 leaves": in a run the stopping step isn't counted and changes nothing
    ∷ runs (outside 0 ++ writing ++ operands 1 0) (seven ∷ enter ∷ []) 9 22 1 0 ((pc, 4) ∷ (x 7, 7) ∷ [])
    ∷ []

abbrev pub rows : List Row
rows = exact ++ asking

pub rows_hold : found rows ≡ stated rows
unfolding exact asking count_trailing_zeros sext decode_word expand_half matches explicit_rule first_match implicit_grants explicit_grants explicit_covers writable_code exposes_code scan first_refused first_absent verdict value written allowed aligned settle state_fits well_formed hfi_stop hfi_perform load store perform execute_instruction execute_word fetching execute_fetched step step_call resume_call run_by run_call
rows_hold = held rows refl
