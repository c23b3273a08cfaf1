-- Document 02, Job 8, "Half-size words": rows of one table that one computed check covers, with the sentences above their rows. What each
-- half-word stands for has its own rows (compressed/proofs/Cases.antt).
-- Assumes nothing.
use mathlib.Core.Path.{◌≡◌, refl}
use mathlib.Core.List.{List, [], ◌∷◌, ◌++◌}
use Prim.Native.Nat.{ℕ, ◌-◌, ◌/◌, ◌%◌, ◌^◌}
use lib.Count.{count_trailing_zeros}
use Rattle.std.proofs.Common.{None}
use Rattle.words.specs.Word.{sext}
use Rattle.instructions.specs.Decode.{decode_word}
use Rattle.compressed.specs.Expand.{expand_half}
use Rattle.model.specs.Bytes.{value, written}
use Rattle.model.specs.Outcome.{allowed, settle}
use Rattle.model.specs.WellFormed.{state_fits, well_formed}
use Rattle.model.specs.Hfi.{hfi_stop, hfi_perform}
use Rattle.model.specs.Regions.{explicit_rule, matches, first_match, implicit_grants}
use Rattle.model.specs.WritableCode.{explicit_covers, writable_code, exposes_code}
use Rattle.model.specs.Access.{scan, first_refused, first_absent, verdict}
use Rattle.model.specs.Step.{load, store, perform, execute_instruction, execute_word, fetching, execute_fetched, step, step_call}
use Rattle.model.specs.Run.{run_by, run_call}
use Rattle.model.proofs.Alike.{held}
use Rattle.model.proofs.Rows.{Row, found, stated, x, pc, mode, reason, epc, bound, occurred, fault_region, op, faulting, with}
use Rattle.model.proofs.Rows.Question.{decoding, stepping, running}
use Rattle.model.proofs.Rows.Answer.{decoded, gave}
use Rattle.model.proofs.Clauses.{outside, inside, steps_over}

-- the bytes of half-words, one after another from address 0 on; a long word is its low half and its high half
abbrev halves : List ℕ → List ℕ
halves [] = []
halves (h ∷ hs) = h % 256 ∷ h / 256 ∷ halves hs

-- a step at an address over half-words, its stop and address, and the places of the machine that it changes
abbrev at : ℕ → List (ℕ × ℕ) → List ℕ → ℕ → ℕ → List (ℕ × ℕ) → Row
at a start hs stop address changes = steps_over (start ++ ((pc, a) ∷ [])) (halves hs) stop address changes

abbrev completes : ℕ → List (ℕ × ℕ) → List ℕ → List (ℕ × ℕ) → Row
completes a start hs changes = at a start hs 0 0 changes

-- a fetch that is refused, and the byte that the fault record then has
abbrev refused : ℕ → List (ℕ × ℕ) → List ℕ → ℕ → Row
refused a start hs byte = at a start hs 11 0 ((occurred, 1) ∷ (fault_region, 0) ∷ (op, 3) ∷ (faulting, byte) ∷ [])

-- c.li x7, 7; c.nop
abbrev cli : ℕ
cli = 0x439d

abbrev cnop : ℕ
cnop = 0x0001

-- in HFI mode bytes 0 to 15 are executable, and these are 14 of them
abbrev fourteen : List ℕ
fourteen = cnop ∷ cnop ∷ cnop ∷ cnop ∷ cnop ∷ cnop ∷ cnop ∷ []

unfoldable pub fetching_halves : List Row
fetching_halves =
    -- "A fetch takes two bytes", and there are no more
    completes 0 (outside 0) (cli ∷ []) ((pc, 2) ∷ (x 7, 7) ∷ [])
    ∷ completes 0 (inside 0) (cli ∷ []) ((pc, 2) ∷ (x 7, 7) ∷ [])
    ∷ completes 14 (inside 0) (fourteen ++ (cli ∷ [])) ((pc, 16) ∷ (x 7, 7) ∷ [])
    -- "pc need only be a multiple of 2", of a long word too: addi x7, x0, 7
    ∷ completes 2 (outside 0) (cnop ∷ 0x0393 ∷ 0x0070 ∷ []) ((pc, 6) ∷ (x 7, 7) ∷ [])
    ∷ completes 2 (inside 0) (cnop ∷ 0x0393 ∷ 0x0070 ∷ []) ((pc, 6) ∷ (x 7, 7) ∷ [])
    -- "10 now asks for a multiple of 2"
    ∷ at 1 (outside 0) (cli ∷ cli ∷ []) 10 0 []
    ∷ at 3 (inside 0) (cli ∷ cli ∷ []) 10 0 []
    -- "asks 11 and 12 of them": the second byte's too, in a code region of one byte; and of the memory
    ∷ refused 0 (inside 0 ++ ((bound 3, 2 ^ 64 - 1) ∷ [])) (cli ∷ []) 1
    ∷ refused 16 (inside 0) [] 16
    ∷ steps_over (outside 0) (0x9d ∷ []) 12 1 []
    ∷ steps_over (inside 0) (0x9d ∷ []) 12 1 []
    -- "and takes two more only if the low two bits are both ones, then asking 11 and 12 of those"
    ∷ refused 14 (inside 0) (fourteen ++ (0x0393 ∷ [])) 16
    ∷ refused 14 (inside 0) (fourteen ++ (0x0393 ∷ 0x0070 ∷ [])) 16
    ∷ at 0 (outside 0) (0x0393 ∷ []) 12 2 []
    ∷ at 0 (inside 0) (0x0393 ∷ []) 12 2 []
    ∷ steps_over (inside 0) (0x93 ∷ 0x03 ∷ 0x70 ∷ []) 12 3 []
    -- so 12 of the first comes before 11 of the second
    ∷ at 14 (inside 0) fourteen 12 14 []
    ∷ steps_over (inside 0 ++ ((pc, 14) ∷ [])) (halves fourteen ++ (0x93 ∷ [])) 12 15 []
    -- a fetch at the last two addresses does not come to its second byte
    ∷ steps_over (outside 0 ++ ((pc, 2 ^ 64 - 2) ∷ [])) (halves (cli ∷ [])) 12 (2 ^ 64 - 2) []
    ∷ refused (2 ^ 64 - 2) (inside 0) (cli ∷ []) (2 ^ 64 - 2)
    -- 13 of a long word after that, longer formats' too
    ∷ at 0 (outside 0) (0x001f ∷ []) 12 2 []
    ∷ at 0 (outside 0) (0x001f ∷ 0 ∷ []) 13 0 []
    ∷ []

unfoldable pub standing : List Row
standing =
    -- "with 2 in place of 4 in the next pc and in link values": c.jalr x5 and jalr x1, 0(x5); jal x1, .+4 at 2; c.jr x5
    completes 0 (inside 0 ++ ((x 5, 7) ∷ [])) (0x9282 ∷ []) ((pc, 6) ∷ (x 1, 2) ∷ [])
    ∷ completes 2 (inside 0 ++ ((x 5, 8) ∷ [])) (cnop ∷ 0x9282 ∷ []) ((pc, 8) ∷ (x 1, 4) ∷ [])
    ∷ completes 0 (inside 0 ++ ((x 5, 7) ∷ [])) (0x80e7 ∷ 0x0002 ∷ []) ((pc, 6) ∷ (x 1, 4) ∷ [])
    ∷ completes 2 (inside 0) (cnop ∷ 0x00ef ∷ 0x0040 ∷ []) ((pc, 6) ∷ (x 1, 6) ∷ [])
    ∷ completes 0 (inside 0 ++ ((x 5, 7) ∷ (x 1, 9) ∷ [])) (0x8282 ∷ []) ((pc, 6) ∷ [])
    -- the target is of the old value: c.jalr x1; jalr x5, 0(x5)
    ∷ completes 0 (inside 0 ++ ((x 1, 9) ∷ [])) (0x9082 ∷ []) ((pc, 8) ∷ (x 1, 2) ∷ [])
    ∷ completes 0 (inside 0 ++ ((x 5, 7) ∷ [])) (0x82e7 ∷ 0x0002 ∷ []) ((pc, 6) ∷ (x 5, 4) ∷ [])
    -- the next pc, a row for each group: c.lui x7, 7; c.slli x7, 3; c.addiw x7, -1; c.mv x7, x5; c.addw x8, x9; c.lw x8, 0(x9); c.sw x8, 0(x9)
    ∷ completes 0 (inside 0) (0x639d ∷ []) ((pc, 2) ∷ (x 7, 0x7000) ∷ [])
    ∷ completes 0 (inside 0 ++ ((x 7, 1) ∷ [])) (0x038e ∷ []) ((pc, 2) ∷ (x 7, 8) ∷ [])
    ∷ completes 0 (inside 0) (0x33fd ∷ []) ((pc, 2) ∷ (x 7, 2 ^ 64 - 1) ∷ [])
    ∷ completes 0 (inside 0 ++ ((x 5, 9) ∷ [])) (0x8396 ∷ []) ((pc, 2) ∷ (x 7, 9) ∷ [])
    ∷ completes 0 (inside 0 ++ ((x 8, 0x7fffffff) ∷ (x 9, 1) ∷ [])) (0x9c25 ∷ []) ((pc, 2) ∷ (x 8, 2 ^ 64 - 2 ^ 31) ∷ [])
    ∷ completes 0 (outside 0) (0x4080 ∷ 0 ∷ []) ((pc, 2) ∷ (x 8, 0x4080) ∷ [])
    ∷ (stepping (with (outside 0 ++ ((x 8, 7) ∷ (x 9, 2) ∷ []))) (halves (0xc080 ∷ cnop ∷ cnop ∷ [])), gave 0 0 0 (with (outside 0 ++ ((x 8, 7) ∷ (x 9, 2) ∷ (pc, 2) ∷ []))) (halves (0xc080 ∷ 7 ∷ 0 ∷ [])))
    -- "pc need only be a multiple of 2", and counts whole: auipc x5, 0 at 2, beq x0, x0, .+6 and c.beqz x8, .-2 there; c.j.-2 at 0
    ∷ completes 2 (inside 0) (cnop ∷ 0x0297 ∷ 0 ∷ []) ((pc, 6) ∷ (x 5, 2) ∷ [])
    ∷ completes 2 (inside 0) (cnop ∷ 0x0363 ∷ 0 ∷ []) ((pc, 8) ∷ [])
    ∷ completes 2 (inside 0) (cnop ∷ 0xdc7d ∷ []) ((pc, 0) ∷ [])
    ∷ completes 0 (inside 0) (0xbffd ∷ []) ((pc, 2 ^ 64 - 2) ∷ [])
    -- "jumps and branches never get" 15: c.j.+2, c.beqz x8, .+6, which is taken, and c.bnez, which is not
    ∷ completes 0 (inside 0) (0xa009 ∷ []) ((pc, 2) ∷ [])
    ∷ completes 0 (inside 0) (0xc019 ∷ []) ((pc, 6) ∷ [])
    ∷ completes 0 (inside 0) (0xe019 ∷ []) ((pc, 2) ∷ [])
    ∷ completes 0 (inside 0 ++ ((x 8, 1) ∷ [])) (0xe019 ∷ []) ((pc, 6) ∷ [])
    -- "Each stands for one RV64I instruction", and is asked what that is asked: c.lw x8, 0(x9), c.sw x8, 0(x9), c.ebreak
    ∷ at 0 (inside 0) (0x4080 ∷ []) 16 0 ((occurred, 1) ∷ (fault_region, 0) ∷ (op, 1) ∷ (faulting, 0) ∷ [])
    ∷ at 0 (inside 0 ++ ((x 9, 0x40) ∷ [])) (0xc080 ∷ []) 16 0 ((occurred, 1) ∷ (fault_region, 2) ∷ (op, 2) ∷ (faulting, 0x40) ∷ [])
    ∷ at 0 (outside 0 ++ ((x 9, 1) ∷ [])) (0x4080 ∷ []) 17 2 []
    ∷ at 0 (inside 0) (0x9002 ∷ []) 19 0 []
    -- "its floating-point loads and stores are illegal, as are reserved words": c.fld x8, 0(x9), c.addiw x0, 0, and 0
    ∷ at 0 (inside 0) (0x2080 ∷ []) 13 0 []
    ∷ at 0 (inside 0) (0x2001 ∷ []) 13 0 []
    ∷ at 0 (inside 0) (0 ∷ []) 13 0 []
    -- "exit pc is this pc", whole: exit and a redirected ECALL at 2
    ∷ completes 2 (inside 0) (cnop ∷ 0x005b ∷ 0x0400 ∷ []) ((pc, 6) ∷ (mode, 0) ∷ (reason, 1) ∷ (epc, 2) ∷ [])
    ∷ completes 2 (inside 2) (cnop ∷ 0x0073 ∷ 0 ∷ []) ((pc, 0x40) ∷ (mode, 0) ∷ (reason, 2) ∷ (epc, 2) ∷ [])
    -- a run counts a half-word as a step
    ∷ (running (with (inside 0)) (halves (cli ∷ cnop ∷ 0x9002 ∷ [])) 9, gave 19 2 0 (with (inside 0 ++ ((pc, 4) ∷ (x 7, 7) ∷ []))) (halves (cli ∷ cnop ∷ 0x9002 ∷ [])))
    -- "the decode and encode rule keeps to long words"
    ∷ (decoding cli, decoded None)
    ∷ []

abbrev pub rows : List Row
rows = fetching_halves ++ standing

pub rows_hold : found rows ≡ stated rows
unfolding fetching_halves standing count_trailing_zeros sext decode_word expand_half matches explicit_rule first_match implicit_grants explicit_covers writable_code exposes_code scan first_refused first_absent verdict value written allowed settle state_fits well_formed hfi_stop hfi_perform load store perform execute_instruction execute_word fetching execute_fetched step step_call run_by run_call
rows_hold = held rows refl
