-- Clauses of document 01 that no sheet can reach, since a sheet starts in HFI mode and ends when it leaves, and those of
-- document 02 as they come: rows of one table that one computed check covers. A row of a call has the whole machine that it
-- leaves, and the whole memory. The documents' sentences are quoted above their rows.
-- Assumes nothing.
use mathlib.Core.Path.{◌≡◌, refl}
use mathlib.Core.Bool.{true, false}
use mathlib.Core.List.{List, [], ◌∷◌, ◌++◌}
use Prim.Native.Nat.{ℕ, ◌+◌, ◌-◌, ◌^◌}
use lib.Count.{count_trailing_zeros}
use lib.ListN.{length}
use Rattle.words.specs.Word.{sext}
use Rattle.words.specs.Integer.{low_half, high_half, quotient, remainder}
use Rattle.instructions.specs.Decode.{decode_word}
use Rattle.model.specs.Machine.{sum, set_reg, machine}
use Rattle.model.specs.Bytes.{value, written}
use Rattle.model.specs.Outcome.{stopped, allowed, aligned, settle}
use Rattle.model.specs.WellFormed.{state_fits, well_formed}
use Rattle.model.specs.Hfi.{hfi_stop, hfi_perform}
use Rattle.model.specs.Regions.{explicit_rule, matches, first_match, implicit_grants, explicit_grants}
use Rattle.model.specs.WritableCode.{explicit_covers, writable_code, exposes_code}
use Rattle.model.specs.Access.{scan, first_refused, first_absent, verdict}
use Rattle.model.specs.Step.{load, store, perform, execute_instruction, execute_word, fetching, execute_fetched, step, step_call, resume_call}
use Rattle.compressed.specs.Expand.{expand_half}
use Rattle.model.specs.Run.{ended, run_by, run_call}
use Rattle.model.specs.declared.Machine.{Machine}
use Rattle.model.proofs.Alike.{held}
use Rattle.model.proofs.Rows.{Row, found, stated, x, pc, mode, reason, epc, options, handler, selector, base, bound, permission, occurred, fault_region, op, faulting, puts, region_of, with, bytes}
use Rattle.model.proofs.Rows.Question.{matching, ruling, judging, stepping, running, resuming}
use Rattle.model.proofs.Rows.Answer.{told, gave}

-- ---- words; those that read a register read x5 (and x6), those that write one write x6

abbrev pub enter : ℕ
enter = 0x0002805b

-- options in x5, target in x6
abbrev pub enter_jump : ℕ
enter_jump = 0x0262805b

abbrev exit : ℕ
exit = 0x0400005b

abbrev pub select : ℕ
select = 0x0602805b

abbrev pub set_base : ℕ
set_base = 0x0802805b

abbrev pub get_base : ℕ
get_base = 0x0a00035b

abbrev pub set_bound : ℕ
set_bound = 0x0c02805b

abbrev pub get_bound : ℕ
get_bound = 0x0e00035b

abbrev pub set_permission : ℕ
set_permission = 0x1002805b

abbrev pub get_permission : ℕ
get_permission = 0x1200035b

abbrev set_handler : ℕ
set_handler = 0x1402805b

abbrev get_handler : ℕ
get_handler = 0x1600035b

abbrev pub reset : ℕ
reset = 0x1800005b

abbrev ecall : ℕ
ecall = 0x00000073

abbrev ebreak : ℕ
ebreak = 0x00100073

-- addi x7, x0, 7
abbrev pub seven : ℕ
seven = 0x00700393

-- jal x0, .+2; beq x0, x0, .+6; beq x5, x0, .+6
abbrev jal : ℕ
jal = 0x0020006f

abbrev beq : ℕ
beq = 0x00000363

abbrev beq5 : ℕ
beq5 = 0x00028363

-- hlb x6, 0(x0); hsb x6, 0(x0); hld x6, 0(x0); ld x6, 0(x5); sd x6, 0(x5); hlb x6, 0(x5); hsb x6, 0(x5)
abbrev hlb : ℕ
hlb = 0x0000030b

abbrev hsb : ℕ
hsb = 0x0060002b

abbrev hld : ℕ
hld = 0x0000330b

abbrev pub ld : ℕ
ld = 0x0002b303

abbrev pub sd : ℕ
sd = 0x0062b023

abbrev hlb5 : ℕ
hlb5 = 0x0002830b

abbrev hsb5 : ℕ
hsb5 = 0x0062802b

-- ---- machines: outside or in HFI mode with these options, and something in every place that a word might change

abbrev busy : List (ℕ × ℕ)
busy =
    (reason, 2) ∷ (epc, 0x88) ∷ (handler, 0x40) ∷ (selector, 2)
    ∷ (base 1, 0x10) ∷ (bound 1, 8) ∷ (permission 1, 3)
    ∷ (base 2, 0x40) ∷ (bound 2, 0xffffffffffffffc0) ∷ (permission 2, 1)
    ∷ (bound 3, 0xfffffffffffffff0) ∷ (permission 3, 4)
    ∷ (occurred, 1) ∷ (fault_region, 2) ∷ (op, 1) ∷ (faulting, 0x99) ∷ []

abbrev pub outside : ℕ → List (ℕ × ℕ)
outside o = busy ++ ((options, o) ∷ [])

abbrev pub inside : ℕ → List (ℕ × ℕ)
inside o = busy ++ ((mode, 1) ∷ (options, o) ∷ [])

-- what x5 and x6 hold
abbrev pub operands : ℕ → ℕ → List (ℕ × ℕ)
operands a b = (x 5, a) ∷ (x 6, b) ∷ []

-- ---- rows

-- a step over these bytes, its stop and address, and the places of the machine that it changes; the memory stays
abbrev pub steps_over : List (ℕ × ℕ) → List ℕ → ℕ → ℕ → List (ℕ × ℕ) → Row
steps_over start mem stop address changes = (stepping (with start) mem, gave stop 0 address (with (start ++ changes)) mem)

abbrev pub steps : List (ℕ × ℕ) → ℕ → ℕ → List (ℕ × ℕ) → Row
steps start w stop changes = steps_over start (bytes (w ∷ [])) stop 0 changes

-- a step that completes and goes to the next word
abbrev pub goes : List (ℕ × ℕ) → ℕ → List (ℕ × ℕ) → Row
goes start w changes = steps start w 0 ((pc, 4) ∷ changes)

-- a step that question 8 stops, with this number
abbrev pub forbidden : ℕ → List (ℕ × ℕ) → ℕ → Row
forbidden number start w = steps start w number []

-- an h-word that its region refuses, by what the fault record then says: load or store, and the address
abbrev faults : List (ℕ × ℕ) → ℕ → ℕ → ℕ → Row
faults start w kind at = steps start w 16 ((occurred, 1) ∷ (fault_region, 1) ∷ (op, kind) ∷ (faulting, at) ∷ [])

-- a step that changes the memory too
abbrev pub writes : List (ℕ × ℕ) → List ℕ → List (ℕ × ℕ) → List (ℕ × ℕ) → Row
writes start mem changes written = (stepping (with start) mem, gave 0 0 0 (with (start ++ changes)) (puts mem written))

-- a run over words: its budget, stop, count and address, and the places that it changes
abbrev pub runs : List (ℕ × ℕ) → List ℕ → ℕ → ℕ → ℕ → ℕ → List (ℕ × ℕ) → Row
runs start ws budget stop count address changes =
    (running (with start) (bytes ws) budget, gave stop count address (with (start ++ changes)) (bytes ws))

abbrev pub resumes : List (ℕ × ℕ) → ℕ → ℕ → List (ℕ × ℕ) → Row
resumes start v stop changes = (resuming (with start) v, gave stop 0 0 (with (start ++ changes)) [])

unfoldable pub entering : List Row
entering =
    -- "Enter: mode 1, options stored, occurred cleared."
    goes (outside 6 ++ operands 15 0) enter ((mode, 1) ∷ (options, 15) ∷ (occurred, 0) ∷ [])
    ∷ goes (outside 6 ++ operands 0 0) enter ((mode, 1) ∷ (options, 0) ∷ (occurred, 0) ∷ [])
    -- "The jump form sets pc to rs2."
    ∷ steps (outside 6 ++ operands 9 0x100) enter_jump 0 ((pc, 0x100) ∷ (mode, 1) ∷ (options, 9) ∷ (occurred, 0) ∷ [])
    -- "the target of an enter with jump, which must be a multiple of 2" (02, Job 8)
    ∷ steps (outside 6 ++ operands 9 0x102) enter_jump 0 ((pc, 0x102) ∷ (mode, 1) ∷ (options, 9) ∷ (occurred, 0) ∷ [])
    ∷ steps (outside 6 ++ operands 9 0x103) enter_jump 15 []
    ∷ steps (outside 6 ++ operands 9 0x101) enter_jump 15 []
    -- "an options operand above 15", before the target
    ∷ forbidden 14 (outside 6 ++ operands 16 0) enter
    ∷ forbidden 14 (outside 6 ++ operands (2 ^ 32) 0) enter
    ∷ forbidden 14 (outside 6 ++ operands 16 0x103) enter_jump
    ∷ forbidden 14 (outside 6 ++ operands (2 ^ 32) 0x100) enter_jump
    -- "23, enter in HFI mode"
    ∷ forbidden 23 (inside 0 ++ operands 0 0) enter
    ∷ forbidden 23 (inside 0 ++ operands 0 0x100) enter_jump
    ∷ []

unfoldable pub leaving : List Row
leaving =
    -- "24, exit outside it"; "an h-word outside HFI mode .. keep 14"
    forbidden 24 (outside 0) exit
    ∷ forbidden 24 (outside 4) exit
    ∷ forbidden 14 (outside 0) hlb
    ∷ forbidden 14 (outside 0) hsb
    -- "Exit: mode 0, reason 1, exit pc is this pc; then pc is the handler if exits are redirected, else pc + 4."
    ∷ goes (inside 0xb) exit ((mode, 0) ∷ (reason, 1) ∷ (epc, 0) ∷ [])
    ∷ steps (inside 4) exit 0 ((pc, 0x40) ∷ (mode, 0) ∷ (reason, 1) ∷ (epc, 0) ∷ [])
    -- "ECALL in HFI mode with bit 1 set: mode 0, reason 2, exit pc is this pc, pc is the handler."
    ∷ steps (inside 2) ecall 0 ((pc, 0x40) ∷ (mode, 0) ∷ (reason, 2) ∷ (epc, 0) ∷ [])
    ∷ steps (inside 0xd) ecall 18 []
    ∷ steps (outside 2) ecall 18 []
    ∷ []

-- the region words and get handler, where nothing forbids them: x5 is 3
abbrev manipulating : List (ℕ × ℕ) → List Row
manipulating start =
    goes start select ((selector, 3) ∷ [])
    ∷ goes start set_base ((base 2, 3) ∷ [])
    ∷ goes start get_base ((x 6, 0x40) ∷ [])
    ∷ goes start set_bound ((bound 2, 3) ∷ [])
    ∷ goes start get_bound ((x 6, 0xffffffffffffffc0) ∷ [])
    ∷ goes start set_permission ((permission 2, 3) ∷ [])
    ∷ goes start get_permission ((x 6, 1) ∷ [])
    ∷ goes start get_handler ((x 6, 0x40) ∷ [])
    -- "Reset zeroes regions and selector."
    ∷ goes start reset
    ((selector, 0) ∷ (base 1, 0) ∷ (bound 1, 0) ∷ (permission 1, 0) ∷ (base 2, 0) ∷ (bound 2, 0) ∷ (permission 2, 0)
    ∷ (base 3, 0) ∷ (bound 3, 0) ∷ (permission 3, 0) ∷ [])
    ∷ []

unfoldable pub locking : List Row
locking =
    -- "bit 0 lock regions" is asked in HFI mode only; "set handler in HFI mode, locked or unlocked"
    manipulating (outside 1 ++ operands 3 0)
    ++ manipulating (inside 0xe ++ operands 3 0)
    -- "Set handler clears bits 0, 1, 62, 63."
    ++ (goes (outside 1 ++ operands (2 ^ 64 - 1) 0) set_handler ((handler, 0x3ffffffffffffffc) ∷ [])
    ∷ forbidden 25 (inside 0xe ++ operands 3 0) set_handler
    -- "funct7 3 to 9, 11 or 12 in HFI mode when locked"
    ∷ forbidden 25 (inside 1 ++ operands 3 0) select
    ∷ forbidden 25 (inside 1 ++ operands 3 0) set_base
    ∷ forbidden 25 (inside 1) get_base
    ∷ forbidden 25 (inside 1 ++ operands 3 0) set_bound
    ∷ forbidden 25 (inside 1) get_bound
    ∷ forbidden 25 (inside 1 ++ operands 3 0) set_permission
    ∷ forbidden 25 (inside 1) get_permission
    ∷ forbidden 25 (inside 1 ++ operands 3 0) set_handler
    ∷ forbidden 25 (inside 1) get_handler
    ∷ forbidden 25 (inside 1) reset
    -- "a selected number not 1 to 3", and since Job 7 "up to 10": the whole register
    ∷ goes (outside 0 ++ operands 10 0) select ((selector, 10) ∷ [])
    ∷ forbidden 14 (outside 0 ++ operands 0 0) select
    ∷ forbidden 14 (outside 0 ++ operands 11 0) select
    ∷ forbidden 14 (outside 0 ++ operands (2 ^ 32 + 1) 0) select
    -- "funct7 4 to 9 with selector 0"
    ∷ forbidden 14 (outside 0 ++ ((selector, 0) ∷ [])) set_base
    ∷ forbidden 14 (outside 0 ++ ((selector, 0) ∷ [])) get_base
    ∷ forbidden 14 (outside 0 ++ ((selector, 0) ∷ [])) set_bound
    ∷ forbidden 14 (outside 0 ++ ((selector, 0) ∷ [])) get_bound
    ∷ forbidden 14 (outside 0 ++ ((selector, 0) ∷ [])) set_permission
    ∷ forbidden 14 (outside 0 ++ ((selector, 0) ∷ [])) get_permission
    -- "a permission bit the region lacks"
    ∷ forbidden 14 (outside 0 ++ ((selector, 1) ∷ (x 5, 4) ∷ [])) set_permission
    ∷ forbidden 14 (outside 0 ++ ((selector, 2) ∷ (x 5, 8) ∷ [])) set_permission
    ∷ forbidden 14 (outside 0 ++ ((selector, 3) ∷ (x 5, 1) ∷ [])) set_permission
    -- the bits are those given, and large may stand alone
    ∷ goes (outside 0 ++ ((selector, 1) ∷ (permission 1, 0xb) ∷ (x 5, 3) ∷ [])) set_permission ((permission 1, 3) ∷ [])
    ∷ goes (outside 0 ++ ((selector, 1) ∷ (x 5, 8) ∷ [])) set_permission ((permission 1, 8) ∷ [])
    ∷ [])

-- nothing here is as a stop might leave it that does more than stop
abbrev pub calm : List (ℕ × ℕ)
calm = (x 10, 5) ∷ (reason, 1) ∷ (epc, 0) ∷ (occurred, 0) ∷ (fault_region, 0) ∷ (op, 0) ∷ (faulting, 0) ∷ []

-- "If the operand is bad as well, the new number is given."
unfoldable pub numbering : List Row
numbering =
    -- "23, enter in HFI mode", locked or not, before the operand and before the target
    forbidden 23 (inside 1 ++ operands 0 0) enter
    ∷ forbidden 23 (inside 0xf ++ operands 0 0x100) enter_jump
    ∷ forbidden 23 (inside 0 ++ operands 16 0) enter
    ∷ forbidden 23 (inside 1 ++ operands (2 ^ 64 - 1) 0) enter
    ∷ forbidden 23 (inside 0 ++ operands 16 0x102) enter_jump
    ∷ forbidden 23 (inside 1 ++ operands (2 ^ 32) 0x101) enter_jump
    ∷ forbidden 23 (inside 0 ++ operands 0 0x102) enter_jump
    -- "24, exit outside it", whatever the options are; an h-word is none
    ∷ forbidden 24 (outside 1) exit
    ∷ forbidden 24 (outside 0xf) exit
    ∷ forbidden 14 (outside 1) hlb
    ∷ forbidden 14 (outside 0xf) hsb
    -- "25, a region or handler instruction that HFI mode forbids": a number that is none, a bit that the region lacks, nothing selected
    ∷ forbidden 25 (inside 1 ++ operands 0 0) select
    ∷ forbidden 25 (inside 1 ++ operands 11 0) select
    ∷ forbidden 25 (inside 1 ++ operands 8 0) set_permission
    ∷ forbidden 25 (inside 1 ++ ((selector, 0) ∷ [])) set_base
    ∷ forbidden 25 (inside 1 ++ ((selector, 0) ∷ [])) get_base
    ∷ forbidden 25 (inside 1 ++ ((selector, 0) ∷ [])) set_bound
    ∷ forbidden 25 (inside 1 ++ ((selector, 0) ∷ [])) get_bound
    ∷ forbidden 25 (inside 1 ++ ((selector, 0) ∷ [])) set_permission
    ∷ forbidden 25 (inside 1 ++ ((selector, 0) ∷ [])) get_permission
    ∷ forbidden 25 (inside 1 ++ ((selector, 0) ∷ [])) reset
    -- the handler asks for no selection: to set it is forbidden in HFI mode, to get it only when locked
    ∷ forbidden 25 (inside 0 ++ ((selector, 0) ∷ [])) set_handler
    ∷ forbidden 25 (inside 1 ++ ((selector, 0) ∷ [])) get_handler
    ∷ goes (inside 0 ++ ((selector, 0) ∷ [])) get_handler ((x 6, 0x40) ∷ [])
    ∷ goes (outside 1 ++ ((selector, 0) ∷ [])) get_handler ((x 6, 0x40) ∷ [])
    -- unlocked, in HFI mode as outside it, operand and selection are asked alone
    ∷ forbidden 14 (inside 0xe ++ operands 0 0) select
    ∷ forbidden 14 (inside 0 ++ operands 11 0) select
    ∷ forbidden 14 (inside 0 ++ operands 8 0) set_permission
    ∷ forbidden 14 (inside 0 ++ ((selector, 0) ∷ [])) set_base
    ∷ forbidden 14 (inside 0xe ++ ((selector, 0) ∷ [])) get_base
    ∷ forbidden 14 (inside 0 ++ ((selector, 0) ∷ [])) set_bound
    ∷ forbidden 14 (inside 0xe ++ ((selector, 0) ∷ [])) get_bound
    ∷ forbidden 14 (inside 0 ++ ((selector, 0) ∷ [])) set_permission
    ∷ forbidden 14 (inside 0xe ++ ((selector, 0) ∷ [])) get_permission
    ∷ forbidden 14 (outside 1 ++ ((selector, 0) ∷ [])) get_base
    ∷ forbidden 14 (outside 1 ++ operands 0 0) select
    -- all bits of a permission are asked, and no other region's
    ∷ forbidden 14 (outside 0 ++ ((selector, 1) ∷ (x 5, 0x20) ∷ [])) set_permission
    ∷ forbidden 14 (outside 0 ++ ((selector, 1) ∷ (x 5, 2 ^ 32 + 1) ∷ [])) set_permission
    ∷ forbidden 14 (inside 0 ++ ((selector, 3) ∷ (x 5, 8) ∷ [])) set_permission
    -- what HFI allows it does not stop otherwise: every number and every selection, and a fence when locked
    ∷ goes (inside 0 ++ operands 1 0) select ((selector, 1) ∷ [])
    ∷ goes (inside 0 ++ operands 2 0) select []
    ∷ goes (inside 0 ++ ((selector, 1) ∷ [])) get_permission ((x 6, 3) ∷ [])
    ∷ goes (inside 0 ++ ((selector, 3) ∷ [])) get_permission ((x 6, 4) ∷ [])
    ∷ goes (inside 1) 0x0ff0000f []
    -- "Nothing else about these stops changes"
    ∷ forbidden 23 (inside 1 ++ calm) enter
    ∷ forbidden 24 (outside 0 ++ calm) exit
    ∷ forbidden 25 (inside 1 ++ calm) reset
    ∷ forbidden 14 (outside 0 ++ calm) hlb
    ∷ forbidden 14 (inside 0 ++ calm ++ ((selector, 0) ∷ [])) get_base
    -- in a run the stopping step isn't counted and changes nothing
    ∷ runs (inside 0) (seven ∷ enter ∷ []) 9 23 1 0 ((pc, 4) ∷ (x 7, 7) ∷ [])
    ∷ runs (outside 0) (seven ∷ exit ∷ []) 9 24 1 0 ((pc, 4) ∷ (x 7, 7) ∷ [])
    ∷ runs (inside 1) (seven ∷ get_handler ∷ []) 9 25 1 0 ((pc, 4) ∷ (x 7, 7) ∷ [])
    ∷ runs (outside 0) (seven ∷ hlb ∷ []) 9 14 1 0 ((pc, 4) ∷ (x 7, 7) ∷ [])
    ∷ []

unfoldable pub keeping : List Row
keeping =
    -- "bound is 1 to 2^32, first and last byte share the same multiple of 2^32, base + bound is at most 2^48"
    (ruling (region_of 0 (2 ^ 32) 3), told true)
    ∷ (ruling (region_of 0 (2 ^ 32 + 1) 3), told false)
    ∷ (ruling (region_of 0 0 3), told false)
    ∷ (ruling (region_of (2 ^ 48 - 1) 1 3), told true)
    ∷ (ruling (region_of (2 ^ 48) 1 3), told false)
    -- sums are whole numbers
    ∷ (ruling (region_of (2 ^ 64 - 1) 1 3), told false)
    ∷ (ruling (region_of (2 ^ 64 - 65536) 65536 0xb), told false)
    ∷ (matching (region_of (2 ^ 64 - 16) (2 ^ 64 - 16) 3) (2 ^ 64 - 16), told false)
    -- "base and bound are multiples of 65,536, bound is not 0, base + bound is at most 2^48"
    ∷ (ruling (region_of 0x10000 0x18000 0xb), told false)
    ∷ (ruling (region_of 0x18000 0x10000 0xb), told false)
    ∷ (ruling (region_of 0x10000 0 0xb), told false)
    ∷ (ruling (region_of 0 (2 ^ 48) 0xb), told true)
    ∷ (ruling (region_of 0x10000 (2 ^ 48) 0xb), told false)
    -- "the count k of the mask's trailing zero bits is 0 to 48", "base + 2^k is at most 2^48"
    ∷ (matching (region_of 5 (2 ^ 64 - 1) 3) 5, told true)
    ∷ (matching (region_of 0 (2 ^ 64 - 2 ^ 48) 3) (2 ^ 48 - 1), told true)
    ∷ (matching (region_of 0 (2 ^ 64 - 2 ^ 49) 3) 0, told false)
    ∷ (matching (region_of (2 ^ 48) (2 ^ 64 - 16) 3) (2 ^ 48), told false)
    ∷ []

unfoldable pub running_on : List Row
running_on =
    -- "After a step of a run that began in HFI mode: is the mode still on?" A run that began outside goes on.
    runs (outside 0 ++ operands 0 0) (enter ∷ exit ∷ seven ∷ []) 3 21 3 0
    ((pc, 12) ∷ (x 7, 7) ∷ (reason, 1) ∷ (epc, 4) ∷ (options, 0) ∷ (occurred, 0) ∷ [])
    ∷ runs (outside 0 ++ operands 0 0) (enter ∷ exit ∷ enter ∷ exit ∷ ebreak ∷ []) 9 19 4 0
    ((pc, 16) ∷ (reason, 1) ∷ (epc, 12) ∷ (options, 0) ∷ (occurred, 0) ∷ [])
    ∷ runs (outside 0 ++ operands 0 0) (enter ∷ seven ∷ ecall ∷ []) 9 18 2 0 ((pc, 8) ∷ (x 7, 7) ∷ (mode, 1) ∷ (occurred, 0) ∷ [])
    ∷ runs (outside 0 ++ operands 2 0) (enter ∷ ecall ∷ []) 9 12 2 0x40
    ((pc, 0x40) ∷ (reason, 2) ∷ (epc, 4) ∷ (options, 2) ∷ (occurred, 0) ∷ [])
    ∷ runs (inside 0) (seven ∷ exit ∷ seven ∷ []) 9 20 2 0 ((pc, 8) ∷ (x 7, 7) ∷ (mode, 0) ∷ (reason, 1) ∷ (epc, 4) ∷ [])
    ∷ runs (inside 6) (exit ∷ []) 1 20 1 0 ((pc, 0x40) ∷ (mode, 0) ∷ (reason, 1) ∷ (epc, 0) ∷ [])
    ∷ runs (inside 6) (ecall ∷ []) 9 20 1 0 ((pc, 0x40) ∷ (mode, 0) ∷ (reason, 2) ∷ (epc, 0) ∷ [])
    -- "Before each step of a run: does the budget have a step left?"
    ∷ runs (inside 0) (ebreak ∷ []) 0 21 0 0 []
    -- 2 and 3, in that order and before 21
    ∷ runs (inside 0) (0 ∷ []) 1000000 13 0 0 []
    ∷ runs (inside 0) (0 ∷ []) 1000001 2 0 0 []
    ∷ runs (inside 16) (0 ∷ []) 1000001 2 0 0 []
    ∷ runs (inside 16) (0 ∷ []) 0 3 0 0 []
    ∷ []

unfoldable pub asking : List Row
asking =
    -- questions 4 and 7 outside HFI mode, and in it; "jumps and branches never get" 15 (02, Job 8)
    steps_over (outside 0 ++ ((pc, 3) ∷ [])) (bytes (seven ∷ seven ∷ [])) 10 0 []
    ∷ steps_over (inside 0 ++ ((pc, 1) ∷ [])) (bytes (seven ∷ seven ∷ [])) 10 0 []
    ∷ steps (outside 0) 0 13 []
    ∷ steps (inside 0) 0 13 []
    ∷ steps (outside 0) jal 0 ((pc, 2) ∷ [])
    ∷ steps (inside 0) jal 0 ((pc, 2) ∷ [])
    ∷ steps (outside 0) beq 0 ((pc, 6) ∷ [])
    ∷ steps (inside 0) beq 0 ((pc, 6) ∷ [])
    ∷ goes (outside 0 ++ operands 1 0) beq5 []
    -- "5. In HFI mode, are all .. bytes executable?" before "6. Are they in memory?"
    ∷ steps_over (inside 0 ++ ((pc, 0x20) ∷ [])) (bytes (seven ∷ [])) 11 0 ((occurred, 1) ∷ (fault_region, 0) ∷ (op, 3) ∷ (faulting, 0x20) ∷ [])
    -- 18 and 19 outside HFI mode
    ∷ steps (outside 0) ecall 18 []
    ∷ steps (outside 0) ebreak 19 []
    -- "Misaligned data is allowed."
    ∷ writes (outside 0 ++ operands 3 0) (bytes (ld ∷ 0x11223344 ∷ 0x55667788 ∷ [])) ((pc, 4) ∷ (x 6, 0x6677881122334400) ∷ []) []
    ∷ writes (outside 0 ++ operands 5 0x0102030405060708) (bytes (sd ∷ 0 ∷ 0 ∷ 0 ∷ [])) ((pc, 4) ∷ [])
    ((5, 8) ∷ (6, 7) ∷ (7, 6) ∷ (8, 5) ∷ (9, 4) ∷ (10, 3) ∷ (11, 2) ∷ (12, 1) ∷ [])
    ∷ []

unfoldable pub operating : List Row
operating =
    -- rs1 is the first operand, rs2 the second: sub x6, x5, x6 and subw
    goes (outside 0 ++ operands 7 2) 0x40628333 ((x 6, 5) ∷ [])
    ∷ goes (outside 0 ++ operands 7 2) 0x4062833b ((x 6, 5) ∷ [])
    -- "These words are no longer stopped with 13." (02, Job 2), of x5 = -7 and x6 = 2: mul x6, x5, x6, mulh, mulhsu,
    -- mulhu, div, divu, rem, remu, mulw, divw, divuw, remw, remuw
    ∷ goes (outside 0 ++ operands (2 ^ 64 - 7) 2) 0x02628333 ((x 6, 0xfffffffffffffff2) ∷ [])
    ∷ goes (outside 0 ++ operands (2 ^ 64 - 7) 2) 0x02629333 ((x 6, 0xffffffffffffffff) ∷ [])
    ∷ goes (outside 0 ++ operands (2 ^ 64 - 7) 2) 0x0262a333 ((x 6, 0xffffffffffffffff) ∷ [])
    ∷ goes (outside 0 ++ operands (2 ^ 64 - 7) 2) 0x0262b333 ((x 6, 1) ∷ [])
    ∷ goes (outside 0 ++ operands (2 ^ 64 - 7) 2) 0x0262c333 ((x 6, 0xfffffffffffffffd) ∷ [])
    ∷ goes (outside 0 ++ operands (2 ^ 64 - 7) 2) 0x0262d333 ((x 6, 0x7ffffffffffffffc) ∷ [])
    ∷ goes (outside 0 ++ operands (2 ^ 64 - 7) 2) 0x0262e333 ((x 6, 0xffffffffffffffff) ∷ [])
    ∷ goes (outside 0 ++ operands (2 ^ 64 - 7) 2) 0x0262f333 ((x 6, 1) ∷ [])
    ∷ goes (outside 0 ++ operands (2 ^ 64 - 7) 2) 0x0262833b ((x 6, 0xfffffffffffffff2) ∷ [])
    ∷ goes (outside 0 ++ operands (2 ^ 64 - 7) 2) 0x0262c33b ((x 6, 0xfffffffffffffffd) ∷ [])
    ∷ goes (outside 0 ++ operands (2 ^ 64 - 7) 2) 0x0262d33b ((x 6, 0x7ffffffc) ∷ [])
    ∷ goes (outside 0 ++ operands (2 ^ 64 - 7) 2) 0x0262e33b ((x 6, 0xffffffffffffffff) ∷ [])
    ∷ goes (outside 0 ++ operands (2 ^ 64 - 7) 2) 0x0262f33b ((x 6, 1) ∷ [])
    ∷ []

-- an h-word of x6 at -5(x11), locked: region 1 has the nine bytes from 3 on, and the offset is 1; the code stands at 10
abbrev reaching : List (ℕ × ℕ)
reaching = inside 1 ++ ((base 1, 3) ∷ (bound 1, 9) ∷ (base 3, 0x10) ∷ (pc, 0x10) ∷ (x 6, 0x0102030405060708) ∷ (x 11, 6) ∷ [])

abbrev around : ℕ → List ℕ
around w = bytes (0 ∷ 0xf3e2d1c0 ∷ 0x8796a5b4 ∷ 0 ∷ w ∷ [])

abbrev loads : ℕ → ℕ → Row
loads w v = steps_over reaching (around w) 0 0 ((pc, 0x14) ∷ (x 6, v) ∷ [])

abbrev stores : ℕ → List (ℕ × ℕ) → Row
stores w written = writes reaching (around w) ((pc, 0x14) ∷ []) written

unfoldable pub offsets : List Row
offsets =
    -- "the offset of an h-prefixed word is the unsigned value of rs1 plus the signed immediate" (02, Job 1): of the word's own
    -- bytes and those after it, hlb x6, 0(x5), with -5 and with -2048, and hsb x6, 0(x5)
    goes (inside 0 ++ ((base 1, 0) ∷ (x 5, 2) ∷ [])) hlb5 ((x 6, 2) ∷ [])
    ∷ goes (inside 0 ++ ((base 1, 0) ∷ (x 5, 5) ∷ [])) 0xffb2830b ((x 6, 0xb) ∷ [])
    ∷ goes (inside 0 ++ ((base 1, 0) ∷ (x 5, 0x800) ∷ [])) 0x8002830b ((x 6, 0xb) ∷ [])
    ∷ writes (inside 0 ++ ((base 1, 0) ∷ operands 7 0xa5)) (bytes (hsb5 ∷ 0 ∷ [])) ((pc, 4) ∷ []) ((7, 0xa5) ∷ [])
    -- so of every kind: hlb, hlh, hlw, hld, hlbu, hlhu, hlwu; hsb, hsh, hsw, hsd
    ∷ loads 0xffb5830b 0xffffffffffffffc0
    ∷ loads 0xffb5930b 0xffffffffffffd1c0
    ∷ loads 0xffb5a30b 0xfffffffff3e2d1c0
    ∷ loads 0xffb5b30b 0x8796a5b4f3e2d1c0
    ∷ loads 0xffb5c30b 0xc0
    ∷ loads 0xffb5d30b 0xd1c0
    ∷ loads 0xffb5e30b 0xf3e2d1c0
    ∷ stores 0xfe658dab ((4, 8) ∷ [])
    ∷ stores 0xfe659dab ((4, 8) ∷ (5, 7) ∷ [])
    ∷ stores 0xfe65adab ((4, 8) ∷ (5, 7) ∷ (6, 6) ∷ (7, 5) ∷ [])
    ∷ stores 0xfe65bdab ((4, 8) ∷ (5, 7) ∷ (6, 6) ∷ (7, 5) ∷ (8, 4) ∷ (9, 3) ∷ (10, 2) ∷ (11, 1) ∷ [])
    -- rs1 is read before rd is written, and may be rs2: hlb x5, 0(x5) and hsb x5, 0(x5)
    ∷ goes (inside 0 ++ ((base 1, 0) ∷ (x 5, 1) ∷ [])) 0x0002828b ((x 5, 0xffffffffffffff82) ∷ [])
    ∷ writes (inside 0 ++ ((base 1, 0) ∷ (x 5, 6) ∷ [])) (bytes (0x0052802b ∷ 0 ∷ [])) ((pc, 4) ∷ []) ((6, 6) ∷ [])
    -- farther than any immediate: granted, and not in this memory
    ∷ steps_over (inside 0 ++ ((base 1, 0) ∷ (bound 1, 0x1000) ∷ (x 5, 0xfff) ∷ [])) (bytes (hlb5 ∷ [])) 17 0xfff []
    ∷ steps_over (inside 0 ++ ((base 1, 0) ∷ (bound 1, 0x1000) ∷ (x 5, 0xfff) ∷ [])) (bytes (hsb5 ∷ [])) 17 0xfff []
    -- "byte i passes when offset + i is at least 0 and below the bound": hld x6, 0(x5); hld and hsd with -5, whose third byte
    -- would pass
    ∷ faults (inside 0 ++ ((x 5, 8) ∷ [])) hlb5 1 0x18
    ∷ faults (inside 0 ++ ((x 5, 8) ∷ [])) hsb5 2 0x18
    ∷ faults (inside 0 ++ ((x 5, 1) ∷ [])) 0x0002b30b 1 0x18
    ∷ faults (inside 0 ++ ((x 5, 3) ∷ [])) 0xffb2b30b 1 0x0e
    ∷ faults (inside 0 ++ ((x 5, 3) ∷ [])) 0xfe62bdab 2 0x0e
    -- "as a whole number that does not wrap"; the address does: hlb and hsb with 0 and with 1, and from 2^63
    ∷ faults (inside 0 ++ ((x 5, 2 ^ 64 - 1) ∷ [])) hlb5 1 0x0f
    ∷ faults (inside 0 ++ ((x 5, 2 ^ 64 - 1) ∷ [])) hsb5 2 0x0f
    ∷ faults (inside 0 ++ ((x 5, 2 ^ 64 - 1) ∷ [])) 0x0012830b 1 0x10
    ∷ faults (inside 0 ++ ((x 5, 2 ^ 64 - 1) ∷ [])) 0x006280ab 2 0x10
    ∷ faults (inside 0 ++ ((x 5, 2 ^ 63) ∷ [])) hlb5 1 (2 ^ 63 + 0x10)
    ∷ faults (inside 0 ++ ((x 5, 2 ^ 63) ∷ [])) hsb5 2 (2 ^ 63 + 0x10)
    -- the largest region there is, of which the sum is asked and not rs1 alone: hlb and hsb with 0 and with -2048
    ∷ steps_over (inside 0 ++ ((base 1, 0) ∷ (bound 1, 2 ^ 48) ∷ (permission 1, 9) ∷ (x 5, 2 ^ 48 - 1) ∷ [])) (bytes (hlb5 ∷ [])) 17 (2 ^ 48 - 1) []
    ∷ steps_over (inside 0 ++ ((base 1, 0) ∷ (bound 1, 2 ^ 48) ∷ (permission 1, 9) ∷ (x 5, 2 ^ 48 + 2047) ∷ [])) (bytes (0x8002830b ∷ [])) 17 (2 ^ 48 - 1) []
    ∷ steps_over (inside 0 ++ ((base 1, 0) ∷ (bound 1, 2 ^ 48) ∷ (permission 1, 10) ∷ (x 5, 2 ^ 48 + 2047) ∷ [])) (bytes (0x8062802b ∷ [])) 17 (2 ^ 48 - 1) []
    ∷ faults (inside 0 ++ ((base 1, 0) ∷ (bound 1, 2 ^ 48) ∷ (permission 1, 9) ∷ (x 5, 2 ^ 48) ∷ [])) hlb5 1 (2 ^ 48)
    ∷ faults (inside 0 ++ ((base 1, 0) ∷ (bound 1, 2 ^ 48) ∷ (permission 1, 10) ∷ (x 5, 2 ^ 48 + 2048) ∷ [])) 0x8062802b 2 (2 ^ 48)
    ∷ []

unfoldable pub absent : List Row
absent =
    -- "12 and 17 also give the first absent address, counted from the access's start": here it is not the first byte
    steps_over (outside 0 ++ ((pc, 8) ∷ [])) (bytes (0 ∷ 0 ∷ []) ++ (3 ∷ 0 ∷ [])) 12 10 []
    ∷ steps_over (inside 0 ++ ((pc, 8) ∷ [])) (bytes (0 ∷ 0 ∷ []) ++ (0 ∷ [])) 12 9 []
    ∷ steps_over (outside 0 ++ operands 1 0) (bytes (ld ∷ []) ++ (0 ∷ [])) 17 5 []
    ∷ steps_over (outside 0 ++ operands 2 0) (bytes (sd ∷ [])) 17 4 []
    ∷ steps_over (inside 0 ++ ((base 1, 1) ∷ [])) (bytes (hld ∷ []) ++ (0 ∷ 0 ∷ [])) 17 6 []
    ∷ runs (outside 0 ++ ((x 5, 2) ∷ [])) (seven ∷ ld ∷ []) 9 17 1 8 ((pc, 4) ∷ (x 7, 7) ∷ [])
    ∷ runs (inside 0) (seven ∷ []) 9 12 1 4 ((pc, 4) ∷ (x 7, 7) ∷ [])
    -- and here it is
    ∷ steps_over (outside 0 ++ ((pc, 0x44) ∷ [])) (bytes (0 ∷ [])) 12 0x44 []
    ∷ steps_over (outside 0 ++ operands (2 ^ 64 - 1) 0) (bytes (ld ∷ [])) 17 (2 ^ 64 - 1) []
    -- a load into x0 asks as any other: hlb x0, 8(x0) and hlb x0, 0(x0)
    ∷ steps_over (inside 0) (bytes (0x0080000b ∷ [])) 16 0 ((occurred, 1) ∷ (fault_region, 1) ∷ (op, 1) ∷ (faulting, 0x18) ∷ [])
    ∷ steps_over (inside 0) (bytes (0x0000000b ∷ [])) 17 0x10 []
    -- "all others give 0 there", at a pc that is not 0: 13, 15, and 16 by hlb x0, 8(x0)
    ∷ runs (outside 0) (seven ∷ 0 ∷ []) 9 13 1 0 ((pc, 4) ∷ (x 7, 7) ∷ [])
    ∷ runs (outside 0 ++ operands 0 0x103) (seven ∷ enter_jump ∷ []) 9 15 1 0 ((pc, 4) ∷ (x 7, 7) ∷ [])
    ∷ runs (inside 0) (seven ∷ 0x0080000b ∷ []) 9 16 1 0 ((pc, 4) ∷ (x 7, 7) ∷ (occurred, 1) ∷ (fault_region, 1) ∷ (op, 1) ∷ (faulting, 0x18) ∷ [])
    -- every byte is asked for its region before any for memory's end
    ∷ steps_over (inside 0 ++ operands 0x7c 0) (bytes (ld ∷ [])) 16 0 ((occurred, 1) ∷ (fault_region, 0) ∷ (op, 1) ∷ (faulting, 0x80) ∷ [])
    ∷ []

unfoldable pub going_on : List Row
going_on =
    -- "Resuming .. puts a given value in x10 and adds 4 to pc; it asks question 3 only."
    resumes (outside 6 ++ ((x 10, 5) ∷ (x 11, 6) ∷ (pc, 6) ∷ [])) 9 0 ((x 10, 9) ∷ (pc, 10) ∷ [])
    ∷ resumes (inside 1 ++ ((pc, 2 ^ 64 - 4) ∷ [])) (2 ^ 64 - 1) 0 ((x 10, 2 ^ 64 - 1) ∷ (pc, 0) ∷ [])
    ∷ resumes (inside 16) 9 3 []
    ∷ []

-- a machine with v in a place, and whether it is well formed
abbrev judged : ℕ → ℕ → Row
judged place v = (judging (with (busy ++ ((place, v) ∷ []))), told true)

abbrev misjudged : ℕ → ℕ → Row
misjudged place v = (judging (with (busy ++ ((place, v) ∷ []))), told false)

unfoldable pub forming : List Row
forming =
    -- "x0 is 0"
    misjudged (x 0) 1
    -- "mode at most 1, reason at most 2, options at most 15"
    ∷ judged mode 1
    ∷ misjudged mode 2
    ∷ judged reason 2
    ∷ misjudged reason 3
    ∷ judged options 15
    ∷ misjudged options 16
    -- "handler bits 0, 1, 62, 63 clear"
    ∷ judged handler 0x3ffffffffffffffc
    ∷ misjudged handler 1
    ∷ misjudged handler 2
    ∷ misjudged handler (2 ^ 62)
    ∷ misjudged handler (2 ^ 63)
    -- "selector 0 to 3, 0 for none", and since Job 7 up to 10
    ∷ judged selector 0
    ∷ judged selector 10
    ∷ misjudged selector 11
    -- "only the permission bits listed"
    ∷ judged (permission 1) 0xb
    ∷ judged (permission 1) 8
    ∷ misjudged (permission 1) 4
    ∷ misjudged (permission 1) 16
    ∷ judged (permission 2) 3
    ∷ misjudged (permission 2) 4
    ∷ misjudged (permission 2) 8
    ∷ misjudged (permission 2) 16
    ∷ judged (permission 3) 4
    ∷ misjudged (permission 3) 1
    ∷ misjudged (permission 3) 2
    ∷ misjudged (permission 3) 8
    ∷ misjudged (permission 3) 16
    -- "occurred at most 1, fault region and op at most 3", and since Job 7 the fault region at most 10
    ∷ misjudged occurred 2
    ∷ judged fault_region 10
    ∷ misjudged fault_region 11
    ∷ judged op 3
    ∷ misjudged op 4
    -- nothing is asked of the others
    ∷ judged (x 31) (2 ^ 64 - 1)
    ∷ judged pc (2 ^ 64 - 1)
    ∷ judged epc (2 ^ 64 - 1)
    ∷ judged (base 1) (2 ^ 64 - 1)
    ∷ judged (bound 3) (2 ^ 64 - 1)
    ∷ judged faulting (2 ^ 64 - 1)
    -- each call asks it, and "For 1 to 3 nothing changes"
    ∷ steps (outside 16) seven 3 []
    ∷ runs (outside 16) (seven ∷ []) 1 3 0 0 []
    ∷ resumes (outside 16) 7 3 []
    ∷ steps (outside 0 ++ ((x 0, 1) ∷ [])) seven 3 []
    ∷ runs (outside 0 ++ ((x 0, 1) ∷ [])) (seven ∷ []) 1 3 0 0 []
    ∷ resumes (outside 0 ++ ((x 0, 1) ∷ [])) 7 3 []
    ∷ []

abbrev pub rows : List Row
rows = entering ++ leaving ++ locking ++ numbering ++ keeping ++ running_on ++ asking ++ operating ++ offsets ++ absent ++ going_on ++ forming

pub clauses : found rows ≡ stated rows
unfolding entering leaving locking numbering keeping running_on asking operating offsets absent going_on forming count_trailing_zeros sext low_half high_half quotient remainder decode_word expand_half matches explicit_rule first_match implicit_grants explicit_grants explicit_covers writable_code exposes_code scan first_refused first_absent verdict value written allowed aligned settle state_fits well_formed hfi_stop hfi_perform load store perform execute_instruction execute_word fetching execute_fetched step step_call resume_call run_by run_call
clauses = held rows refl

-- ---- resuming, of every machine: "it asks question 3 only"

module _ (m : Machine) (v : ℕ) where
  pub resumed : well_formed m ≡ true → resume_call m v ≡ record { stop = 0; address = 0; machine = machine (set_reg m.x 10 v) (sum m.pc 4) m.hfi }
  unfolding resume_call
  resumed w = rw w refl

  pub not_resumed : well_formed m ≡ false → resume_call m v ≡ record { stop = 3; address = 0; machine = m }
  unfolding resume_call
  not_resumed w = rw w refl

-- ---- "Is memory no longer than 16,777,216?" of memories that are too long to write down

pub longest_step : (m : Machine) (mem : List ℕ) → length mem ≡ 16777216 → well_formed m ≡ true → exposes_code m.hfi ≡ false → step_call m mem ≡ step m mem
unfolding step_call
longest_step m mem e w x = rw (e, w, x) refl

pub too_long_step : (m : Machine) (mem : List ℕ) → length mem ≡ 16777217 → step_call m mem ≡ stopped 1 m mem
unfolding step_call
too_long_step m mem e = rw e refl

pub longest_run : (m : Machine) (mem : List ℕ) → length mem ≡ 16777216 → well_formed m ≡ true → exposes_code m.hfi ≡ false → run_call m mem 0 ≡ ended 21 0 0 m mem
unfolding run_call run_by
longest_run m mem e w x = rw (e, w, x) refl

pub too_long_run : (m : Machine) (mem : List ℕ) (budget : ℕ) → length mem ≡ 16777217 → run_call m mem budget ≡ ended 1 0 0 m mem
unfolding run_call
too_long_run m mem budget e = rw e refl
