-- Document 02, Job 7, as rows of one table that one computed check covers: ten regions and their kinds, which of them decides, the region that an
-- h-word chooses, and Job 5's test of all ten. A row of a call has the whole machine that it leaves, and the whole memory. The document's
-- sentences are quoted above their rows.
-- Assumes nothing.
use mathlib.Core.Path.{◌≡◌, refl}
use mathlib.Core.Bool.{true, false}
use mathlib.Core.List.{List, [], ◌∷◌, ◌++◌}
use Prim.Native.Nat.{ℕ, ◌+◌, ◌-◌, ◌^◌}
use lib.Count.{count_trailing_zeros}
use Rattle.std.proofs.Common.{Some, None}
use Rattle.words.specs.Word.{sext}
use Rattle.instructions.specs.Decode.{decode_word}
use Rattle.instructions.specs.declared.kind.LoadKind.TheVariants.{Lb, Lbu}
use Rattle.instructions.specs.declared.kind.StoreKind.TheVariants.{Sb}
use Rattle.instructions.specs.declared.instruction.Instruction.{Instruction}
use Rattle.instructions.specs.declared.instruction.Instruction.TheVariants.{Load, Store, HLoad, HStore}
use Rattle.model.specs.Bytes.{value, written}
use Rattle.model.specs.Outcome.{allowed, aligned, settle}
use Rattle.model.specs.WellFormed.{state_fits, well_formed}
use Rattle.model.specs.Hfi.{hfi_stop, hfi_perform}
use Rattle.model.specs.Regions.{explicit_rule, matches, first_match, implicit_grants, explicit_grants}
use Rattle.model.specs.WritableCode.{explicit_covers, writable_code, exposes_code}
use Rattle.model.specs.Access.{scan, first_refused, first_absent, verdict}
use Rattle.model.specs.Step.{load, store, perform, execute_instruction, execute_word, fetching, execute_fetched, step, step_call, resume_call}
use Rattle.compressed.specs.Expand.{expand_half}
use Rattle.model.specs.Run.{run_by, run_call}
use Rattle.model.proofs.Alike.{held}
use Rattle.model.proofs.Rows.{Row, found, stated, x, pc, mode, options, handler, selector, base, bound, permission, occurred, fault_region, op, faulting, puts, with, bytes}
use Rattle.model.proofs.Rows.Question.{decoding, exposing, judging, running}
use Rattle.model.proofs.Rows.Answer.{decoded, told, gave}
use Rattle.model.proofs.Clauses.{enter, enter_jump, select, set_base, get_base, set_bound, get_bound, set_permission, get_permission, reset, seven, ld, sd, steps_over, steps, goes, forbidden, writes, runs}

-- ---- regions

-- region n from b on, with these permissions: an implicit one of `size` bytes, a power of 2; an explicit one
abbrev masked : ℕ → ℕ → ℕ → ℕ → List (ℕ × ℕ)
masked n b size p = (base n, b) ∷ (bound n, 2 ^ 64 - size) ∷ (permission n, p) ∷ []

abbrev bounded : ℕ → ℕ → ℕ → ℕ → List (ℕ × ℕ)
bounded n b size p = (base n, b) ∷ (bound n, size) ∷ (permission n, p) ∷ []

-- ---- "Explicit are 1, 4, 5, 6; implicit data 2, 7, 8, 9; code 3, 10." and "Selector, selected number and fault region go up to 10"

-- a machine with v in a place, and whether it is well formed
abbrev fits : ℕ → ℕ → Row
fits place v = (judging (with ((place, v) ∷ [])), told true)

abbrev misfits : ℕ → ℕ → Row
misfits place v = (judging (with ((place, v) ∷ [])), told false)

-- set permission of region n from x5 outside HFI mode, and that it is refused
abbrev permitting : ℕ → ℕ → Row
permitting n p = goes ((selector, n) ∷ (x 5, p) ∷ []) set_permission ((permission n, p) ∷ [])

abbrev lacking : ℕ → ℕ → Row
lacking n p = forbidden 14 ((selector, n) ∷ (x 5, p) ∷ []) set_permission

-- with region n selected, which has these numbers: from x5, 7 is set as its base and as its bound; each of the three is got
abbrev selecting : ℕ → List Row
selecting n =
    goes ((selector, n) ∷ (x 5, 7) ∷ bounded n 0x41 0x42 0) set_base ((base n, 7) ∷ [])
    ∷ goes ((selector, n) ∷ (x 5, 7) ∷ bounded n 0x41 0x42 0) set_bound ((bound n, 7) ∷ [])
    ∷ goes ((selector, n) ∷ bounded n 0x41 0 0) get_base ((x 6, 0x41) ∷ [])
    ∷ goes ((selector, n) ∷ bounded n 0 0x42 0) get_bound ((x 6, 0x42) ∷ [])
    ∷ []

-- something in each of the ten
abbrev full : List (ℕ × ℕ)
full =
    bounded 1 0x11 0x12 1 ++ bounded 2 0x21 0x22 2 ++ bounded 3 0x31 0x32 4 ++ bounded 4 0x41 0x42 9 ++ bounded 5 0x51 0x52 0xa ++ bounded 6 0x61 0x62 3
    ++ bounded 7 0x71 0x72 1 ++ bounded 8 0x81 0x82 2 ++ bounded 9 0x91 0x92 3 ++ bounded 10 0xa1 0xa2 4 ++ ((handler, 0x40) ∷ (selector, 7) ∷ [])

unfoldable pub kinds : List Row
kinds =
    -- "explicit data (bits 0, 1, 3)": 4, 5 and 6, as 1
    fits (permission 4) 0xb
    ∷ fits (permission 5) 0xb
    ∷ fits (permission 6) 0xb
    ∷ fits (permission 4) 8
    ∷ misfits (permission 4) 4
    ∷ misfits (permission 5) 4
    ∷ misfits (permission 6) 4
    ∷ misfits (permission 6) 0x10
    -- "implicit data (bits 0, 1)": 7, 8 and 9, as 2
    ∷ fits (permission 7) 3
    ∷ fits (permission 8) 3
    ∷ fits (permission 9) 3
    ∷ misfits (permission 7) 4
    ∷ misfits (permission 8) 4
    ∷ misfits (permission 9) 4
    ∷ misfits (permission 7) 8
    ∷ misfits (permission 8) 8
    ∷ misfits (permission 9) 8
    -- "implicit code (bit 2)": 10, as 3
    ∷ fits (permission 10) 4
    ∷ fits (permission 10) 0
    ∷ misfits (permission 10) 1
    ∷ misfits (permission 10) 2
    ∷ misfits (permission 10) 8
    -- so of each that is selected: "a permission bit the region lacks"
    ∷ permitting 1 0xb
    ∷ permitting 2 3
    ∷ permitting 3 4
    ∷ permitting 4 0xb
    ∷ permitting 5 0xb
    ∷ permitting 6 0xb
    ∷ permitting 7 3
    ∷ permitting 8 3
    ∷ permitting 9 3
    ∷ permitting 10 4
    ∷ lacking 1 4
    ∷ lacking 2 8
    ∷ lacking 3 1
    ∷ lacking 4 4
    ∷ lacking 5 4
    ∷ lacking 6 4
    ∷ lacking 7 8
    ∷ lacking 8 8
    ∷ lacking 9 8
    ∷ lacking 10 1
    ∷ lacking 10 2
    ∷ lacking 10 8
    -- selector and fault region
    ∷ fits selector 4
    ∷ fits selector 10
    ∷ misfits selector 11
    ∷ fits fault_region 4
    ∷ fits fault_region 10
    ∷ misfits fault_region 11
    ∷ misfits fault_region (2 ^ 32 + 10)
    -- the selected number
    ∷ goes ((x 5, 4) ∷ []) select ((selector, 4) ∷ [])
    ∷ goes ((x 5, 9) ∷ []) select ((selector, 9) ∷ [])
    ∷ goes ((x 5, 10) ∷ []) select ((selector, 10) ∷ [])
    ∷ forbidden 14 ((x 5, 0) ∷ []) select
    ∷ forbidden 14 ((x 5, 11) ∷ []) select
    ∷ forbidden 14 ((x 5, 2 ^ 32 + 10) ∷ []) select
    -- what is set and got is the selected region's, and no other's
    ∷ goes ((selector, 4) ∷ (permission 4, 9) ∷ []) get_permission ((x 6, 9) ∷ [])
    ∷ goes ((selector, 7) ∷ (permission 7, 1) ∷ []) get_permission ((x 6, 1) ∷ [])
    ∷ goes ((selector, 10) ∷ (permission 10, 4) ∷ []) get_permission ((x 6, 4) ∷ [])
    -- "Reset zeroes regions and selector."
    ∷ goes full reset
    (bounded 1 0 0 0 ++ bounded 2 0 0 0 ++ bounded 3 0 0 0 ++ bounded 4 0 0 0 ++ bounded 5 0 0 0 ++ bounded 6 0 0 0 ++ bounded 7 0 0 0
    ++ bounded 8 0 0 0 ++ bounded 9 0 0 0 ++ bounded 10 0 0 0 ++ ((selector, 0) ∷ []))
    ∷ selecting 4
    ++ selecting 7
    ++ selecting 10

-- ---- "For ordinary accesses and fetches the lowest-numbered matching region of the kind decides, even if a later one would grant more"

-- in HFI mode: the code is the sixteen bytes at 0, x5 has the address, and x6 what is stored
abbrev guest : List (ℕ × ℕ)
guest = (mode, 1) ∷ (x 5, 0x14) ∷ (x 6, 0x0807060504030201) ∷ (bound 3, 2 ^ 64 - 16) ∷ (permission 3, 4) ∷ []

-- a word at 0; from 10 to 1f each byte has its own address
abbrev memory : ℕ → List ℕ
memory w = bytes (w ∷ 0 ∷ 0 ∷ 0 ∷ 0x13121110 ∷ 0x17161514 ∷ 0x1b1a1918 ∷ 0x1f1e1d1c ∷ [])

-- a load that completes, by what x6 then has; a store, by the bytes that it writes; and one that is refused: which of them, fault region and
-- address
abbrev loads : List (ℕ × ℕ) → ℕ → ℕ → Row
loads start w v = steps_over start (memory w) 0 0 ((pc, 4) ∷ (x 6, v) ∷ [])

abbrev stores : List (ℕ × ℕ) → ℕ → List (ℕ × ℕ) → Row
stores start w written = writes start (memory w) ((pc, 4) ∷ []) written

abbrev fault : ℕ → ℕ → ℕ → List (ℕ × ℕ)
fault region kind at = (occurred, 1) ∷ (fault_region, region) ∷ (op, kind) ∷ (faulting, at) ∷ []

abbrev unloaded : List (ℕ × ℕ) → ℕ → ℕ → ℕ → Row
unloaded start w region at = steps_over start (memory w) 16 0 (fault region 1 at)

abbrev unstored : List (ℕ × ℕ) → ℕ → ℕ → ℕ → Row
unstored start w region at = steps_over start (memory w) 16 0 (fault region 2 at)

-- lbu x6, 0(x5); sb x6, 0(x5)
abbrev lbu : ℕ
lbu = 0x0002c303

abbrev sb : ℕ
sb = 0x00628023

-- two regions that have the same sixteen bytes from 10 on, and differ in permissions
abbrev both : ℕ → ℕ → ℕ → ℕ → List (ℕ × ℕ)
both lower p later q = guest ++ masked lower 0x10 16 p ++ masked later 0x10 16 q

-- a fetch of `seven` at 0 that completes, and one that is refused
abbrev fetches : List (ℕ × ℕ) → Row
fetches regions = goes ((mode, 1) ∷ regions) seven ((x 7, 7) ∷ [])

abbrev unfetched : List (ℕ × ℕ) → ℕ → ℕ → Row
unfetched regions region at = steps ((mode, 1) ∷ regions) seven 11 (fault region 3 at)

unfoldable pub deciding : List Row
deciding =
    -- a code region is not asked of data
    unloaded (guest ++ ((x 5, 4) ∷ [])) lbu 0 4
    ∷ unstored (guest ++ ((x 5, 4) ∷ [])) sb 0 4
    -- a lower region without the permission, a later one with it: "the region that matched without permission"
    ∷ unloaded (both 2 2 7 3) lbu 2 0x14
    ∷ unloaded (both 2 0 8 1) lbu 2 0x14
    ∷ unloaded (both 2 2 9 3) lbu 2 0x14
    ∷ unloaded (both 7 2 8 3) lbu 7 0x14
    ∷ unloaded (both 7 0 9 1) lbu 7 0x14
    ∷ unloaded (both 8 2 9 3) lbu 8 0x14
    ∷ unstored (both 2 1 7 3) sb 2 0x14
    ∷ unstored (both 2 0 8 2) sb 2 0x14
    ∷ unstored (both 2 1 9 3) sb 2 0x14
    ∷ unstored (both 7 1 8 3) sb 7 0x14
    ∷ unstored (both 7 0 9 2) sb 7 0x14
    ∷ unstored (both 8 1 9 3) sb 8 0x14
    -- a lower region with it, a later one without
    ∷ loads (both 2 1 7 2) lbu 0x14
    ∷ loads (both 7 1 8 0) lbu 0x14
    ∷ loads (both 8 1 9 2) lbu 0x14
    ∷ stores (both 2 2 7 1) sb ((0x14, 1) ∷ [])
    ∷ stores (both 7 2 8 0) sb ((0x14, 1) ∷ [])
    ∷ stores (both 8 2 9 1) sb ((0x14, 1) ∷ [])
    -- each of them alone grants, or is the one recorded
    ∷ loads (guest ++ masked 2 0x10 16 1) lbu 0x14
    ∷ loads (guest ++ masked 7 0x10 16 1) lbu 0x14
    ∷ loads (guest ++ masked 8 0x10 16 1) lbu 0x14
    ∷ loads (guest ++ masked 9 0x10 16 1) lbu 0x14
    ∷ stores (guest ++ masked 7 0x10 16 2) sb ((0x14, 1) ∷ [])
    ∷ stores (guest ++ masked 8 0x10 16 2) sb ((0x14, 1) ∷ [])
    ∷ stores (guest ++ masked 9 0x10 16 2) sb ((0x14, 1) ∷ [])
    ∷ unloaded (guest ++ masked 7 0x10 16 2) lbu 7 0x14
    ∷ unloaded (guest ++ masked 8 0x10 16 2) lbu 8 0x14
    ∷ unloaded (guest ++ masked 9 0x10 16 2) lbu 9 0x14
    ∷ unstored (guest ++ masked 9 0x10 16 1) sb 9 0x14
    -- a lower one that does not match decides nothing
    ∷ loads (guest ++ masked 2 0x20 16 0 ++ masked 7 0x18 8 0 ++ masked 8 0x10 4 0 ++ masked 9 0x14 4 1) lbu 0x14
    -- nor one that breaks its rule: a mask with zero bits between, one of 2^49 bytes, a base that is no multiple, an unset mask
    ∷ loads (guest ++ bounded 2 0x10 0xffffffffffff00f0 2 ++ masked 7 0x10 16 1) lbu 0x14
    ∷ loads (guest ++ masked 2 0 (2 ^ 49) 2 ++ masked 7 0x10 16 1) lbu 0x14
    ∷ loads (guest ++ masked 7 0x14 16 2 ++ masked 8 0x10 16 1) lbu 0x14
    ∷ loads (guest ++ bounded 8 0 0 2 ++ masked 9 0x10 16 1) lbu 0x14
    -- and it grants nothing: "or 0 if none matched"
    ∷ unloaded (guest ++ bounded 7 0x10 0xffffffffffff00f0 3) lbu 0 0x14
    ∷ unloaded (guest ++ bounded 9 0 0 3) lbu 0 0x14
    ∷ unstored (guest ++ masked 9 0 (2 ^ 49) 3) sb 0 0x14
    ∷ unloaded (guest ++ masked 2 0x20 16 3 ++ masked 7 0 16 3 ++ masked 8 0x10 4 3 ++ masked 9 0x18 8 3) lbu 0 0x14
    -- only regions of the kind are asked: explicit ones and code do not let a load pass, nor explicit ones and data a fetch
    ∷ unloaded (guest ++ bounded 1 0x10 16 3 ++ bounded 4 0x10 16 3 ++ bounded 5 0x10 16 3 ++ bounded 6 0x10 16 3 ++ masked 10 0x10 16 4) lbu 0 0x14
    ∷ loads (guest ++ bounded 1 0x10 16 0 ++ bounded 4 0x10 16 0 ++ masked 10 0x10 16 4 ++ masked 9 0x10 16 1) lbu 0x14
    ∷ unfetched (masked 2 0 16 3 ++ masked 7 0 16 3 ++ masked 8 0 16 3 ++ masked 9 0 16 3 ++ bounded 4 0 16 3 ++ bounded 6 0 16 3) 0 0
    -- "code 3, 10"
    ∷ unfetched (masked 3 0 16 0 ++ masked 10 0 16 4) 3 0
    ∷ fetches (masked 3 0 16 4 ++ masked 10 0 16 0)
    ∷ fetches (masked 10 0 16 4)
    ∷ unfetched (masked 10 0 16 0) 10 0
    ∷ fetches (masked 3 0x10 16 0 ++ masked 10 0 16 4)
    ∷ fetches (bounded 3 0 0xffffffffffff00f0 0 ++ masked 10 0 16 4)
    ∷ unfetched (bounded 3 0 0 4 ++ bounded 10 0 0 4) 0 0
    ∷ unfetched (masked 3 0x10 16 4 ++ masked 10 0x20 16 4) 0 0
    -- "Outside HFI mode regions are not consulted."
    ∷ loads (both 2 0 7 0 ++ ((mode, 0) ∷ (permission 3, 0) ∷ [])) lbu 0x14
    ∷ []

-- ---- an access over several regions: "each byte is judged singly", and "The first refused byte, counted from the access's start, is the one
-- recorded."

-- a load and a store of the eight bytes from 14 on
abbrev loaded : List (ℕ × ℕ) → Row
loaded regions = loads (guest ++ regions) ld 0x1b1a191817161514

abbrev stored : List (ℕ × ℕ) → Row
stored regions =
    stores (guest ++ regions) sd ((0x14, 1) ∷ (0x15, 2) ∷ (0x16, 3) ∷ (0x17, 4) ∷ (0x18, 5) ∷ (0x19, 6) ∷ (0x1a, 7) ∷ (0x1b, 8) ∷ [])

unfoldable pub judging_singly : List Row
judging_singly =
    -- granted by two together, whichever of them has the first bytes, and by four
    loaded (masked 2 0x10 8 1 ++ masked 7 0x18 8 1)
    ∷ loaded (masked 7 0x10 8 1 ++ masked 2 0x18 8 1)
    ∷ loaded (masked 8 0x10 8 1 ++ masked 9 0x18 8 3)
    ∷ loaded (masked 2 0x14 1 1 ++ masked 7 0x15 1 1 ++ masked 8 0x16 2 1 ++ masked 9 0x18 4 1)
    ∷ stored (masked 2 0x10 8 2 ++ masked 7 0x18 8 2)
    ∷ stored (masked 9 0x10 8 2 ++ masked 8 0x18 8 3)
    -- refused in the second, with its address and region, and nothing is stored before
    ∷ unloaded (guest ++ masked 2 0x10 8 1 ++ masked 7 0x18 8 2) ld 7 0x18
    ∷ unloaded (guest ++ masked 7 0x10 8 1 ++ masked 2 0x18 8 2) ld 2 0x18
    ∷ unloaded (guest ++ masked 8 0x10 8 1 ++ masked 9 0x18 8 2) ld 9 0x18
    ∷ unloaded (guest ++ masked 8 0x10 8 1) ld 0 0x18
    ∷ unstored (guest ++ masked 2 0x10 8 2 ++ masked 7 0x18 8 1) sd 7 0x18
    ∷ unstored (guest ++ masked 9 0x10 8 2 ++ masked 8 0x18 8 1) sd 8 0x18
    ∷ unstored (guest ++ masked 9 0x10 8 2) sd 0 0x18
    -- in the first, and in both: the first is recorded
    ∷ unloaded (guest ++ masked 2 0x10 8 2 ++ masked 7 0x18 8 1) ld 2 0x14
    ∷ unloaded (guest ++ masked 7 0x10 8 2 ++ masked 2 0x18 8 2) ld 7 0x14
    ∷ unloaded (guest ++ masked 9 0x18 8 3) ld 0 0x14
    -- a lower region of 1 or 2 bytes hides as many of a later one: within the access, at its start and its end
    ∷ unloaded (guest ++ masked 2 0x17 1 2 ++ masked 7 0x10 16 1) ld 2 0x17
    ∷ unloaded (guest ++ masked 7 0x16 2 0 ++ masked 9 0x10 16 3) ld 7 0x16
    ∷ unloaded (guest ++ masked 8 0x14 1 2 ++ masked 9 0x10 16 3) ld 8 0x14
    ∷ unloaded (guest ++ masked 2 0x1b 1 0 ++ masked 8 0x10 16 3) ld 2 0x1b
    ∷ unstored (guest ++ masked 2 0x17 1 1 ++ masked 7 0x10 16 2) sd 2 0x17
    ∷ unstored (guest ++ masked 8 0x1a 2 1 ++ masked 9 0x10 16 3) sd 8 0x1a
    -- two of them, and the first byte counts, not the first region
    ∷ unloaded (guest ++ masked 2 0x1a 1 0 ++ masked 7 0x16 1 0 ++ masked 8 0x10 16 1) ld 7 0x16
    -- just before the access and just after it they hide nothing of it, nor with the permission, nor as the later ones
    ∷ loaded (masked 2 0x13 1 0 ++ masked 7 0x1c 1 0 ++ masked 8 0x10 16 1)
    ∷ loaded (masked 2 0x17 1 1 ++ masked 7 0x10 16 1)
    ∷ loaded (masked 2 0x10 16 1 ++ masked 7 0x17 1 0 ++ masked 8 0x10 16 2)
    ∷ stored (masked 7 0x10 16 2 ++ masked 9 0x14 1 1)
    -- round from 2^64 to 0 nothing is granted: no region keeps its rule there
    ∷ unloaded (guest ++ masked 2 0 16 1 ++ masked 7 (2 ^ 64 - 16) 16 1 ++ ((x 5, 2 ^ 64 - 4) ∷ [])) ld 0 (2 ^ 64 - 4)
    -- every byte is asked for its region before any for memory's end
    ∷ unloaded (guest ++ masked 2 0x1c 4 1 ++ masked 7 0x20 2 1 ++ masked 8 0x22 2 2 ++ ((x 5, 0x1c) ∷ [])) ld 8 0x22
    ∷ steps_over (guest ++ masked 2 0x1c 4 1 ++ masked 7 0x20 2 1 ++ masked 8 0x22 2 1 ++ ((x 5, 0x1c) ∷ [])) (memory ld) 17 0x20 []
    -- a fetch
    ∷ fetches (masked 3 0 2 4 ++ masked 10 2 2 4)
    ∷ fetches (masked 10 0 2 4 ++ masked 3 2 2 4)
    ∷ fetches (masked 3 1 1 4 ++ masked 10 0 16 4)
    ∷ unfetched (masked 3 0 2 4 ++ masked 10 2 2 0) 10 2
    ∷ unfetched (masked 10 0 2 4 ++ masked 3 2 2 0) 3 2
    ∷ unfetched (masked 3 0 2 4) 0 2
    ∷ unfetched (masked 10 0 2 4) 0 2
    ∷ unfetched (masked 3 1 1 0 ++ masked 10 0 16 4) 3 1
    ∷ unfetched (masked 3 3 1 0 ++ masked 10 0 16 4) 3 3
    ∷ fetches (masked 3 4 4 0 ++ masked 10 0 16 4)
    ∷ []

-- ---- "In an h-word the top bits of two register fields choose the explicit region: rs1's counts 2, that of rd or rs2 counts 1, and 0 to 3
-- mean 1, 4, 5, 6. The remaining four bits name x0 to x15"

abbrev names : ℕ → Instruction → Row
names w i = (decoding w, decoded (Some i))

unfoldable pub choosing : List Row
choosing =
    -- fields 5 or 21 of rs1 and 6 or 22 of rd, hlbu; of rs2, hsb
    names 0x0002c30b (HLoad Lbu 1 6 5 0)
    ∷ names 0x0002cb0b (HLoad Lbu 4 6 5 0)
    ∷ names 0x000ac30b (HLoad Lbu 5 6 5 0)
    ∷ names 0x000acb0b (HLoad Lbu 6 6 5 0)
    ∷ names 0x0062802b (HStore Sb 1 5 6 0)
    ∷ names 0x0162802b (HStore Sb 4 5 6 0)
    ∷ names 0x006a802b (HStore Sb 5 5 6 0)
    ∷ names 0x016a802b (HStore Sb 6 5 6 0)
    -- fields 15, 16 and 31
    ∷ names 0x0000078b (HLoad Lb 1 15 0 0)
    ∷ names 0x0000080b (HLoad Lb 4 0 0 0)
    ∷ names 0x0007800b (HLoad Lb 1 0 15 0)
    ∷ names 0x0008000b (HLoad Lb 5 0 0 0)
    ∷ names 0x000f8f8b (HLoad Lb 6 15 15 0)
    ∷ names 0x01ff802b (HStore Sb 6 15 15 0)
    -- the immediate does not choose where another format has a register: hlb x6, 16(x5); hsb x6, 16(x5) and at -1
    ∷ names 0x0102830b (HLoad Lb 1 6 5 16)
    ∷ names 0x0062882b (HStore Sb 1 5 6 16)
    ∷ names 0xfe628fab (HStore Sb 1 5 6 (2 ^ 64 - 1))
    -- a word that was illegal still is: funct3 7 and 4
    ∷ (decoding 0x000afb0b, decoded None)
    ∷ (decoding 0x016ac02b, decoded None)
    -- "In an h-word": lb x22, 0(x21) and sb x22, 0(x21) keep five bits
    ∷ names 0x000a8b03 (Load Lb 22 21 0)
    ∷ names 0x016a8023 (Store Sb 21 22 0)
    ∷ []

-- x5 is 2; x16, x21 and x22 are what the fields would name with five bits
abbrev chooser : List (ℕ × ℕ)
chooser = guest ++ ((x 5, 2) ∷ (x 16, 1) ∷ (x 21, 3) ∷ (x 22, 0xd6) ∷ [])

-- with four bytes each from 10 on
abbrev four : List (ℕ × ℕ)
four = chooser ++ bounded 1 0x10 4 3 ++ bounded 4 0x14 4 3 ++ bounded 5 0x18 4 3 ++ bounded 6 0x1c 4 3

-- region 6 with all sixteen
abbrev wide : List (ℕ × ℕ)
wide = chooser ++ bounded 6 0x10 16 3

-- region n alone has them
abbrev alone : ℕ → ℕ → List (ℕ × ℕ)
alone n p = guest ++ ((x 5, 2) ∷ bounded n 0x10 16 p)

unfoldable pub chosen : List Row
chosen =
    -- "an h-word asks only the region it chooses": hlbu, hsb
    loads four 0x0002c30b 0x12
    ∷ loads four 0x0002cb0b 0x16
    ∷ loads four 0x000ac30b 0x1a
    ∷ loads four 0x000acb0b 0x1e
    ∷ stores four 0x0062802b ((0x12, 1) ∷ [])
    ∷ stores four 0x0162802b ((0x16, 1) ∷ [])
    ∷ stores four 0x006a802b ((0x1a, 1) ∷ [])
    ∷ stores four 0x016a802b ((0x1e, 1) ∷ [])
    -- with field 16 each, x0: hlbu x6, 1(x0) from 5; hlbu x0, 0(x5) from 4; hsb x0, 0(x5) to 4; and with 31 x15, hsb x15, 0(x15) to 6
    ∷ loads four 0x0018430b 0x19
    ∷ stores four 0x0002c80b []
    ∷ stores four 0x0102802b ((0x16, 0) ∷ [])
    ∷ stores (four ++ ((x 15, 1) ∷ [])) 0x01ff802b ((0x1d, 1) ∷ [])
    -- every kind, from region 6: hlb, hlh, hlw, hld, hlbu, hlhu, hlwu; hsb, hsh, hsw, hsd
    ∷ loads wide 0x000a8b0b 0x12
    ∷ loads wide 0x000a9b0b 0x1312
    ∷ loads wide 0x000aab0b 0x15141312
    ∷ loads wide 0x000abb0b 0x1918171615141312
    ∷ loads wide 0x000acb0b 0x12
    ∷ loads wide 0x000adb0b 0x1312
    ∷ loads wide 0x000aeb0b 0x15141312
    ∷ stores wide 0x016a802b ((0x12, 1) ∷ [])
    ∷ stores wide 0x016a902b ((0x12, 1) ∷ (0x13, 2) ∷ [])
    ∷ stores wide 0x016aa02b ((0x12, 1) ∷ (0x13, 2) ∷ (0x14, 3) ∷ (0x15, 4) ∷ [])
    ∷ stores wide 0x016ab02b ((0x12, 1) ∷ (0x13, 2) ∷ (0x14, 3) ∷ (0x15, 4) ∷ (0x16, 5) ∷ (0x17, 6) ∷ (0x18, 7) ∷ (0x19, 8) ∷ [])
    -- "an explicit fault records the region chosen": past its bound, though the next region begins there; of an access that begins in it, hlw
    ∷ unloaded (four ++ ((x 5, 4) ∷ [])) 0x0002cb0b 4 0x18
    ∷ unstored (four ++ ((x 5, 4) ∷ [])) 0x006a802b 5 0x1c
    ∷ unloaded four 0x0002ab0b 4 0x18
    -- without the permission
    ∷ unloaded (alone 1 2) 0x0002c30b 1 0x12
    ∷ unloaded (alone 4 2) 0x0002cb0b 4 0x12
    ∷ unloaded (alone 5 2) 0x000ac30b 5 0x12
    ∷ unloaded (alone 6 2) 0x000acb0b 6 0x12
    ∷ unstored (alone 1 1) 0x0062802b 1 0x12
    ∷ unstored (alone 4 1) 0x0162802b 4 0x12
    ∷ unstored (alone 5 1) 0x006a802b 5 0x12
    ∷ unstored (alone 6 1) 0x016a802b 6 0x12
    -- which another region's does not make good, nor does it spoil
    ∷ unloaded (alone 1 3 ++ bounded 4 0x10 16 0) 0x0002cb0b 4 0x12
    ∷ unloaded (alone 1 0 ++ bounded 4 0x10 16 3) 0x0002c30b 1 0x12
    ∷ loads (alone 1 0 ++ bounded 4 0x10 16 3) 0x0002cb0b 0x12
    ∷ unloaded (alone 5 2 ++ masked 2 0x10 16 3 ++ masked 7 0x10 16 3) 0x000ac30b 5 0x12
    -- also where it breaks its rule: large and of sixteen bytes, of none, over a multiple of 2^32, above 2^48
    ∷ unloaded (alone 4 0xb) 0x0002cb0b 4 0x12
    ∷ unloaded (alone 5 3 ++ ((bound 5, 0) ∷ [])) 0x000ac30b 5 0x12
    ∷ unstored (chooser ++ bounded 6 0xffffffff 2 3) 0x016a802b 6 0x100000001
    ∷ unstored (chooser ++ bounded 1 (2 ^ 48) 4 3) 0x0062802b 1 (2 ^ 48 + 2)
    -- or is all zero
    ∷ unloaded chooser 0x0002c30b 1 2
    ∷ unloaded chooser 0x0002cb0b 4 2
    ∷ unstored chooser 0x006a802b 5 2
    ∷ unstored chooser 0x016a802b 6 2
    -- any of them may be large: granted, and not in this memory; past its end
    ∷ steps_over (chooser ++ bounded 6 0x10000 0x10000 9) (memory 0x000acb0b) 17 0x10002 []
    ∷ unloaded (chooser ++ bounded 6 0x10000 0x10000 9 ++ ((x 5, 0x10000) ∷ [])) 0x000acb0b 6 0x20000
    -- "an h-word outside HFI mode .. keep[s] 14"
    ∷ steps_over (alone 6 3 ++ ((mode, 0) ∷ [])) (memory 0x000acb0b) 14 0 []
    ∷ []

-- ---- "Readable, writable and executable follow these rules, so isolation and Job 5 now speak of all ten."

abbrev exposed : List (ℕ × ℕ) → Row
exposed places = (exposing (with places).hfi.regions, told true)

abbrev hidden : List (ℕ × ℕ) → Row
hidden places = (exposing (with places).hfi.regions, told false)

-- the sixteen bytes from 100 on as code, of region 3, and of region 10
abbrev three : List (ℕ × ℕ)
three = masked 3 0x100 16 4

abbrev ten : List (ℕ × ℕ)
ten = masked 10 0x100 16 4

unfoldable pub exposing_rows : List Row
exposing_rows =
    -- a byte through each that is written through against each that is executed through
    exposed (three ++ bounded 1 0x10f 1 2)
    ∷ exposed (three ++ bounded 4 0x10f 1 2)
    ∷ exposed (three ++ bounded 5 0x10f 1 2)
    ∷ exposed (three ++ bounded 6 0x10f 1 2)
    ∷ exposed (three ++ masked 2 0x10f 1 2)
    ∷ exposed (three ++ masked 7 0x10f 1 2)
    ∷ exposed (three ++ masked 8 0x10f 1 2)
    ∷ exposed (three ++ masked 9 0x10f 1 2)
    ∷ exposed (ten ++ bounded 1 0x10f 1 2)
    ∷ exposed (ten ++ bounded 4 0x10f 1 2)
    ∷ exposed (ten ++ bounded 5 0x10f 1 2)
    ∷ exposed (ten ++ bounded 6 0x10f 1 2)
    ∷ exposed (ten ++ masked 2 0x10f 1 2)
    ∷ exposed (ten ++ masked 7 0x10f 1 2)
    ∷ exposed (ten ++ masked 8 0x10f 1 2)
    ∷ exposed (ten ++ masked 9 0x10f 1 2)
    -- the byte before and the byte after, and without a permission
    ∷ hidden (ten ++ bounded 4 0xff 1 2 ++ bounded 5 0x110 1 3 ++ masked 7 0xf0 16 3 ++ masked 9 0x110 16 3)
    ∷ hidden (three ++ bounded 6 0xff 1 2 ++ bounded 4 0x110 1 3 ++ masked 8 0xf0 16 3 ++ masked 7 0x110 16 3)
    ∷ hidden (ten ++ bounded 4 0x100 16 1 ++ bounded 6 0x100 16 1 ++ masked 2 0x100 16 1 ++ masked 8 0x100 16 1)
    ∷ hidden (masked 3 0x100 16 0 ++ masked 10 0x100 16 0 ++ bounded 5 0x100 16 3 ++ masked 7 0x100 16 3)
    ∷ hidden (three ++ ten)
    -- far above any memory
    ∷ exposed (masked 10 (2 ^ 48 - 1) 1 4 ++ masked 9 (2 ^ 48 - 1) 1 2)
    ∷ exposed (masked 10 (2 ^ 47) (2 ^ 20) 4 ++ bounded 6 0 (2 ^ 48) 0xa)
    -- a lower region without the permission hides a later one that has it
    ∷ hidden (three ++ masked 2 0x100 16 1 ++ masked 7 0x100 16 3)
    ∷ hidden (three ++ masked 2 0x100 16 0 ++ masked 9 0x100 16 2)
    ∷ hidden (ten ++ masked 7 0x100 16 1 ++ masked 8 0x100 16 3)
    ∷ hidden (ten ++ masked 8 0x100 16 1 ++ masked 9 0x100 16 3)
    ∷ hidden (masked 3 0x100 16 0 ++ ten ++ bounded 1 0x100 16 3)
    ∷ hidden (masked 3 0x100 16 0 ++ ten ++ masked 9 0x100 16 2)
    ∷ hidden (three ++ masked 2 0 0x1000 1 ++ masked 7 0x100 16 3)
    -- in the other order nothing is hidden
    ∷ exposed (three ++ masked 2 0x100 16 2 ++ masked 7 0x100 16 1)
    ∷ exposed (ten ++ masked 8 0x100 16 2 ++ masked 9 0x100 16 0)
    ∷ exposed (three ++ masked 10 0x100 16 0 ++ bounded 1 0x100 16 3)
    -- a lower region that breaks its rule hides nothing
    ∷ exposed (three ++ masked 2 0x108 16 1 ++ masked 7 0x100 16 2)
    ∷ exposed (ten ++ bounded 3 0x100 0xffffffffffff0ff0 0 ++ bounded 4 0x100 16 2)
    -- a lower region ends within a later one, and the byte at its end is the least that is both
    ∷ exposed (three ++ masked 2 0x100 8 1 ++ masked 7 0x100 16 2)
    ∷ exposed (ten ++ masked 8 0x100 8 0 ++ masked 9 0x100 16 2)
    ∷ exposed (masked 3 0x100 8 0 ++ ten ++ bounded 1 0x100 16 2)
    ∷ exposed (masked 3 0x100 8 0 ++ ten ++ masked 7 0x100 16 3)
    -- it begins within it, and lies within it
    ∷ exposed (three ++ masked 2 0x108 8 1 ++ masked 7 0x100 16 2)
    ∷ exposed (three ++ masked 2 0x104 4 1 ++ masked 7 0x100 16 2)
    -- all but one byte is hidden, and all: by three regions, and by two with the code
    ∷ exposed (masked 10 0x100 8 4 ++ masked 2 0x100 4 1 ++ masked 7 0x104 2 1 ++ masked 8 0x106 1 1 ++ masked 9 0x100 8 2)
    ∷ exposed (masked 10 0x107 1 4 ++ masked 2 0x100 4 1 ++ masked 7 0x104 2 1 ++ masked 8 0x106 1 1 ++ masked 9 0x100 8 2)
    ∷ hidden (masked 10 0x106 1 4 ++ masked 2 0x100 4 1 ++ masked 7 0x104 2 1 ++ masked 8 0x106 1 1 ++ masked 9 0x100 8 2)
    ∷ hidden (masked 10 0x100 8 4 ++ masked 2 0x100 4 1 ++ masked 7 0x104 2 1 ++ masked 8 0x106 2 1 ++ masked 9 0x100 8 2)
    ∷ hidden (masked 3 0x100 8 0 ++ ten ++ masked 2 0x108 8 1 ++ masked 7 0x100 16 2)
    ∷ exposed (masked 3 0x100 8 0 ++ ten ++ masked 2 0x10c 4 1 ++ masked 7 0x100 16 2)
    ∷ hidden (masked 3 0x100 8 0 ++ ten ++ bounded 5 0x100 8 2)
    ∷ exposed (masked 3 0x100 8 0 ++ ten ++ bounded 5 0x100 9 2)
    -- explicit regions hide nothing: not each other, nor are they hidden, nor do they hide
    ∷ exposed (three ++ bounded 1 0x100 16 1 ++ bounded 4 0x100 16 2)
    ∷ exposed (ten ++ bounded 4 0x100 16 0 ++ bounded 5 0x100 16 1 ++ bounded 6 0x100 16 3)
    ∷ exposed (three ++ masked 2 0x100 16 1 ++ bounded 4 0x100 16 2)
    ∷ exposed (three ++ bounded 1 0x100 16 1 ++ masked 7 0x100 16 2)
    -- "4, for a step or run given such a machine in locked HFI mode"; "22, for either enter form that would begin such a state"
    ∷ steps ((mode, 1) ∷ (options, 1) ∷ masked 10 0 16 4 ++ masked 9 8 8 2) seven 4 []
    ∷ steps ((mode, 1) ∷ (options, 1) ∷ masked 10 0 16 4 ++ bounded 6 15 1 2) seven 4 []
    ∷ goes ((mode, 1) ∷ (options, 1) ∷ masked 10 0 16 4 ++ masked 8 0 16 1 ++ masked 9 8 8 2) seven ((x 7, 7) ∷ [])
    ∷ goes ((mode, 1) ∷ (options, 0) ∷ masked 10 0 16 4 ++ masked 9 8 8 2) seven ((x 7, 7) ∷ [])
    ∷ forbidden 22 ((x 5, 1) ∷ masked 10 0 16 4 ++ masked 9 8 8 2) enter
    ∷ forbidden 22 ((x 5, 1) ∷ (x 6, 0x20) ∷ masked 10 0 16 4 ++ bounded 5 15 1 2) enter_jump
    ∷ goes ((x 5, 1) ∷ masked 10 0 16 4 ++ masked 2 0 16 1 ++ masked 9 8 8 2) enter ((mode, 1) ∷ (options, 1) ∷ [])
    ∷ []

-- ---- runs

-- five words and what is behind them: region 4 has the four bytes from 20 on, 5 those from 30, 6 those from 38, 7 the eight from 40, 8 those from 48, 9 those
-- from 50; the code is region 10
abbrev working : List (ℕ × ℕ)
working =
    (mode, 1) ∷ (options, 1) ∷ (x 5, 0x44) ∷ (x 16, 9) ∷ (x 22, 9) ∷ masked 10 0 32 4 ++ bounded 4 0x20 4 1 ++ bounded 5 0x30 8 2 ++ bounded 6 0x38 8 2
    ++ masked 7 0x40 8 1 ++ masked 8 0x48 8 3 ++ masked 9 0x50 8 1

-- hlw x6, 0(x0) from 4; hsw x6, 4(x0) to 5; hsd x6, 0(x0) to 6; ld x7, 0(x5) from 7 and 8; sd x7, 8(x5) to 8 and 9, which 9 refuses
abbrev work : List ℕ
work = bytes (0x00002b0b ∷ 0x0068222b ∷ 0x0168302b ∷ 0x0002b383 ∷ 0x0072b423 ∷ 0 ∷ 0 ∷ 0
    ∷ 0x81828384 ∷ 0 ∷ 0 ∷ 0 ∷ 0 ∷ 0 ∷ 0 ∷ 0 ∷ 0x43424140 ∷ 0x47464544 ∷ 0x4b4a4948 ∷ 0x4f4e4d4c ∷ 0 ∷ 0 ∷ [])

-- outside HFI mode: region 10 made the sixty-four bytes from 0 on, to be executed, and 6 those from 40 on, to be read; then locked HFI mode, hlbu x7, 3(x0) from
-- 6, and a get that is forbidden
abbrev making : List ℕ
making =
    0x00a00293 ∷ select ∷ 0xfc000293 ∷ set_bound ∷ 0x00400293 ∷ set_permission ∷ 0x00600293 ∷ select ∷ 0x04000293 ∷ set_base ∷ set_bound ∷ 0x00100293
    ∷ set_permission ∷ enter ∷ 0x00384b8b ∷ get_base ∷ 0xa5000000 ∷ []

unfoldable pub running_on : List Row
running_on = (
  running (with working) work 9,
  gave 16 4 0
      (with (working ++ ((pc, 0x10) ∷ (x 6, 0xffffffff81828384) ∷ (x 7, 0x4b4a494847464544) ∷ []) ++ fault 9 2 0x50))
      (puts work
      ((0x34, 0x84) ∷ (0x35, 0x83) ∷ (0x36, 0x82) ∷ (0x37, 0x81) ∷ (0x38, 0x84) ∷ (0x39, 0x83) ∷ (0x3a, 0x82) ∷ (0x3b, 0x81) ∷ (0x3c, 0xff) ∷ (0x3d, 0xff)
      ∷ (0x3e, 0xff) ∷ (0x3f, 0xff) ∷ [])),
)
    ∷ runs [] making 20 25 15 0
    ((pc, 0x3c) ∷ (mode, 1) ∷ (options, 1) ∷ (selector, 6) ∷ (x 5, 1) ∷ (x 7, 0xa5) ∷ bounded 6 0x40 0x40 1 ++ bounded 10 0 0xffffffffffffffc0 4)
    ∷ []

abbrev pub rows : List Row
rows = kinds ++ deciding ++ judging_singly ++ choosing ++ chosen ++ exposing_rows ++ running_on

pub rows_hold : found rows ≡ stated rows
unfolding kinds deciding judging_singly choosing chosen exposing_rows running_on count_trailing_zeros sext decode_word expand_half matches explicit_rule first_match implicit_grants explicit_grants explicit_covers writable_code exposes_code scan first_refused first_absent verdict value written allowed aligned settle state_fits well_formed hfi_stop hfi_perform load store perform execute_instruction execute_word fetching execute_fetched step step_call resume_call run_by run_call
rows_hold = held rows refl
