-- Document 01, "Twelve cases at the edges", as rows of one table that one computed check covers.
-- Assumes nothing.
use mathlib.Core.Path.{◌≡◌, refl}
use mathlib.Core.Bool.{true, false}
use mathlib.Core.List.{List, [], ◌∷◌, ◌++◌}
use Prim.Native.Nat.{ℕ}
use lib.Count.{count_trailing_zeros}
use lib.ListN.{replicate}
use Rattle.std.proofs.Common.{Some, None}
use Rattle.words.specs.Word.{sext}
use Rattle.instructions.specs.Decode.{decode_word}
use Rattle.instructions.specs.declared.kind.ImmediateKind.TheVariants.{Addi}
use Rattle.instructions.specs.declared.kind.StoreKind.TheVariants.{Sb}
use Rattle.instructions.specs.declared.kind.HfiKind.TheVariants.{Exit}
use Rattle.instructions.specs.declared.instruction.Instruction.TheVariants.{Immediate, HStore, Hfi}
use Rattle.model.specs.Bytes.{value, written}
use Rattle.model.specs.Outcome.{allowed, settle}
use Rattle.model.specs.WellFormed.{state_fits, well_formed}
use Rattle.model.specs.Hfi.{hfi_stop, hfi_perform}
use Rattle.model.specs.Regions.{explicit_rule, matches, first_match, implicit_grants, explicit_grants}
use Rattle.model.specs.WritableCode.{explicit_covers, writable_code, exposes_code}
use Rattle.model.specs.Access.{scan, first_refused, first_absent, verdict}
use Rattle.model.specs.Step.{store, perform, execute_instruction, execute_word, fetching, execute_fetched, step, step_call}
use Rattle.compressed.specs.Expand.{expand_half}
use Rattle.model.specs.Run.{run_by, run_call}
use Rattle.model.proofs.Alike.{held}
use Rattle.model.proofs.Rows.{Row, found, stated, x, pc, mode, base, bound, permission, handler, occurred, fault_region, op, faulting, puts, region_of, with, bytes}
use Rattle.model.proofs.Rows.Question.{decoding, matching, ruling, stepping, running}
use Rattle.model.proofs.Rows.Answer.{decoded, told, gave}

-- G and H: in HFI mode, region 1 is small with base 200 and bound 10, code may be fetched from the first 16 bytes, and x10
-- holds eight bytes to store
abbrev storing : List (ℕ × ℕ)
storing =
    (mode, 1) ∷ (x 10, 0x1122334455667788) ∷ (base 1, 0x200) ∷ (bound 1, 0x10) ∷ (permission 1, 3)
    ∷ (bound 3, 0xfffffffffffffff0) ∷ (permission 3, 4) ∷ []

-- a word at 0, and zeros up to 220
abbrev memory : ℕ → List ℕ
memory w = bytes (w ∷ []) ++ replicate 0x21c 0

-- 16: the fault record has region 1, op 2 and the address; nothing else changes
abbrev refused : ℕ → ℕ → Row
refused w a = (
  stepping (with storing) (memory w),
  gave 16 0 0 (with (storing ++ ((occurred, 1) ∷ (fault_region, 1) ∷ (op, 2) ∷ (faulting, a) ∷ []))) (memory w),
)

unfoldable pub rows : List Row
rows =
    -- A
    (decoding 0x00500513, decoded (Some (Immediate Addi 10 0 5)))
    -- B
    ∷ (decoding 0x00a001ab, decoded (Some (HStore Sb 1 0 10 3)))
    -- C
    ∷ (decoding 0x0400005b, decoded (Some (Hfi Exit 0 0 0)))
    ∷ (decoding 0x0400015b, decoded None)
    -- D
    ∷ (matching (region_of 0 0xfffffffffffffff0 3) 0xf, told true)
    ∷ (matching (region_of 0 0xfffffffffffffff0 3) 0x10, told false)
    -- E
    ∷ (matching (region_of 0 0 3) 0, told false)
    ∷ (matching (region_of 0 0 3) 0x10, told false)
    ∷ (matching (region_of 0 0 3) 0xffffffffffffffff, told false)
    -- F
    ∷ (matching (region_of 8 0xfffffffffffffff0 3) 0, told false)
    ∷ (matching (region_of 8 0xfffffffffffffff0 3) 8, told false)
    ∷ (matching (region_of 8 0xfffffffffffffff0 3) 0xf, told false)
    -- G: hsd x10 at 8, and at 9
    ∷ (
      stepping (with storing) (memory 0x00a0342b),
      gave 0 0 0 (with (storing ++ ((pc, 4) ∷ [])))
          (puts (memory 0x00a0342b)
          ((0x208, 0x88) ∷ (0x209, 0x77) ∷ (0x20a, 0x66) ∷ (0x20b, 0x55) ∷ (0x20c, 0x44) ∷ (0x20d, 0x33) ∷ (0x20e, 0x22) ∷ (0x20f, 0x11) ∷ [])),
    )
    ∷ refused 0x00a034ab 0x210
    -- H: hsd x10 at -1
    ∷ refused 0xfea03fab 0x1ff
    -- I
    ∷ (ruling (region_of 0xffffffff 1 3), told true)
    ∷ (ruling (region_of 0xffffffff 2 3), told false)
    -- J
    ∷ (ruling (region_of 0x10000 0x10000 0xb), told true)
    ∷ (ruling (region_of 0x10000 0x10001 0xb), told false)
    -- K: set handler from x5, get handler to x6
    ∷ (
      running (with ((x 5, 0xffffffffffffffff) ∷ [])) (bytes (0x1402805b ∷ 0x1600035b ∷ [])) 2,
      gave 21 2 0
          (with ((x 5, 0xffffffffffffffff) ∷ (x 6, 0x3ffffffffffffffc) ∷ (pc, 8) ∷ (handler, 0x3ffffffffffffffc) ∷ []))
          (bytes (0x1402805b ∷ 0x1600035b ∷ [])),
    )
    -- L: addiw x6, x5, 1
    ∷ (
      stepping (with ((x 5, 0x7fffffff) ∷ [])) (bytes (0x0012831b ∷ [])),
      gave 0 0 0 (with ((x 5, 0x7fffffff) ∷ (x 6, 0xffffffff80000000) ∷ (pc, 4) ∷ [])) (bytes (0x0012831b ∷ [])),
    )
    ∷ []

pub cases : found rows ≡ stated rows
unfolding rows count_trailing_zeros sext decode_word expand_half matches explicit_rule first_match implicit_grants explicit_grants explicit_covers writable_code exposes_code scan first_refused first_absent verdict value written allowed settle state_fits well_formed hfi_stop hfi_perform store perform execute_instruction execute_word fetching execute_fetched step step_call run_by run_call
cases = held rows refl
