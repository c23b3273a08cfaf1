-- One step: document 01, "Questions a call puts", and the effect of each instruction.
-- Machine is declared in src/lib.rt, the instructions and their kinds in instructions/src. Assumes
-- nothing.
use Rattle.std.specs.Prelude.{cond, List, ℕ, ◌*◌, ◌/◌, ◌%◌, eqb, ltb, length, Option, Some, None}
use Rattle.instructions.specs.Decode.{decode_word}
use Rattle.compressed.specs.Expand.{expand_half, is_long}
use Rattle.instructions.specs.declared.kind.LoadKind.{LoadKind}
use Rattle.instructions.specs.declared.kind.UpperKind.TheVariants.{Lui, Auipc}
use Rattle.instructions.specs.declared.kind.RegisterKind.TheVariants.{Add}
use Rattle.instructions.specs.declared.kind.SystemKind.TheVariants.{Ecall, Ebreak}
use Rattle.instructions.specs.declared.instruction.Instruction.{Instruction}
use Rattle.instructions.specs.declared.instruction.Instruction.TheVariants.{Upper, Jal, Jalr, Branch, Load, Store, Immediate, Shift, Addiw, ShiftWord, Register, RegisterWord, Fence, System, HLoad, HStore, Hfi}
use Rattle.model.specs.Machine.{sum, reg, set_reg, load_op, store_op, fetch_op, redirects_calls, exited, machine}
use Rattle.model.specs.WellFormed.{well_formed}
use Rattle.model.specs.WritableCode.{exposes_code}
use Rattle.model.specs.Bytes.{value, written}
use Rattle.model.specs.Outcome.{Outcome, StepAnswer, completed, stopped, assigned, with_pc, allowed, settle}
use Rattle.model.specs.Access.{Access, fetch_access, load_access, store_access, hload_access, hstore_access, verdict}
use Rattle.model.specs.Arithmetic.{operate, operate_word, of_register_word, of_immediate, of_shift, of_shift_word, taken, extended}
use Rattle.model.specs.Hfi.{hfi_stop, hfi_perform}
use Rattle.model.specs.declared.Machine.{Machine}

-- ---- memory

-- "10. Is every data byte granted? No: 16." "11. Are they in memory? No: 17."
abbrev pub on_data : Machine → List ℕ → ℕ → Access → Outcome → Outcome
on_data m mem op a rest = settle m mem op 16 17 (verdict m.hfi.mode (length mem) a) rest

unfoldable pub load : Machine → List ℕ → ℕ → Access → LoadKind → ℕ → Outcome
load m mem next a k rd = on_data m mem load_op a (completed (assigned m next rd (extended k (value mem a.first 0 a.count))) mem)

unfoldable pub store : Machine → List ℕ → ℕ → Access → ℕ → Outcome
store m mem next a v = on_data m mem store_op a (completed (with_pc m next) (written mem a.first 0 a.count v))

-- ---- the instructions, a clause a group

-- JALR sets the lowest bit of the sum to zero (specification, "Unconditional Jumps")
abbrev pub jalr_target : ℕ → ℕ → ℕ
jalr_target a imm = sum a imm / 2 * 2

-- "ECALL in HFI mode with bit 1 set: mode 0, reason 2, exit pc is this pc, pc is the handler"
abbrev pub redirected : Machine → Machine
redirected m = machine m.x m.hfi.handler (exited m.hfi 2 m.pc)

-- `next` is the pc after the instruction, which is also the link value of a jump
unfoldable pub perform : Machine → List ℕ → ℕ → Instruction → Outcome
perform m mem next (Upper Lui rd imm) = completed (assigned m next rd imm) mem
perform m mem next (Upper Auipc rd imm) = completed (assigned m next rd (sum m.pc imm)) mem
-- "jumps and branches never get" 15 (02, Job 8)
perform m mem next (Jal rd offset) = completed (assigned m (sum m.pc offset) rd next) mem
perform m mem next (Jalr rd rs1 imm) = completed (assigned m (jalr_target (reg m.x rs1) imm) rd next) mem
perform m mem next (Branch k rs1 rs2 offset) = completed (with_pc m (cond (taken k (reg m.x rs1) (reg m.x rs2)) (sum m.pc offset) next)) mem
perform m mem next (Load k rd rs1 imm) = load m mem next (load_access m.hfi.regions m.x k rs1 imm) k rd
perform m mem next (Store k rs1 rs2 imm) = store m mem next (store_access m.hfi.regions m.x k rs1 imm) (reg m.x rs2)
perform m mem next (Immediate k rd rs1 imm) = completed (assigned m next rd (operate 64 (of_immediate k) (reg m.x rs1) imm)) mem
perform m mem next (Shift k rd rs1 amount) = completed (assigned m next rd (operate 64 (of_shift k) (reg m.x rs1) amount)) mem
perform m mem next (Addiw rd rs1 imm) = completed (assigned m next rd (operate_word Add (reg m.x rs1) imm)) mem
perform m mem next (ShiftWord k rd rs1 amount) = completed (assigned m next rd (operate_word (of_shift_word k) (reg m.x rs1) amount)) mem
perform m mem next (Register k rd rs1 rs2) = completed (assigned m next rd (operate 64 k (reg m.x rs1) (reg m.x rs2))) mem
perform m mem next (RegisterWord k rd rs1 rs2) = completed (assigned m next rd (operate_word (of_register_word k) (reg m.x rs1) (reg m.x rs2))) mem
-- "FENCE carries its spare fields and does nothing."
perform m mem next (Fence fm pred succ rs1 rd) = completed (with_pc m next) mem
-- "12. Is it anything but an ECALL that is not redirected? No: 18." "13. Is it anything but EBREAK? No: 19."
perform m mem next (System Ecall) = cond (redirects_calls m.hfi) (completed (redirected m) mem) (stopped 18 m mem)
perform m mem next (System Ebreak) = stopped 19 m mem
perform m mem next (HLoad k chosen rd rs1 imm) = load m mem next (hload_access m.hfi.regions m.x k chosen rs1 imm) k rd
perform m mem next (HStore k chosen rs1 rs2 imm) = store m mem next (hstore_access m.hfi.regions m.x k chosen rs1 imm) (reg m.x rs2)
perform m mem next (Hfi k rd rs1 rs2) = hfi_perform m mem next k rd rs1 rs2

-- "8. Does HFI allow it?", of every instruction, and then what it does
unfoldable pub execute_instruction : Machine → List ℕ → ℕ → Instruction → Outcome
execute_instruction m mem next i = allowed m mem (hfi_stop m i) (perform m mem next i)

-- "7. Is the word legal? No: 13." The instruction after it stands `size` bytes further: "with 2 in place of 4 in the next pc and in link values"
-- (02, Job 8) for a half-word
unfoldable pub execute_word : Machine → List ℕ → ℕ → Option Instruction → Outcome
execute_word m mem size (Some i) = execute_instruction m mem (sum m.pc size) i
execute_word m mem size None = stopped 13 m mem

-- "5. In HFI mode, are all .. bytes executable? No: 11." "6. Are they in memory? No: 12.", asked of the two bytes at a
unfoldable pub fetching : Machine → List ℕ → ℕ → Outcome → Outcome
fetching m mem a rest = settle m mem fetch_op 11 12 (verdict m.hfi.mode (length mem) (fetch_access m.hfi.regions a)) rest

-- with the first two bytes h fetched: "takes two more only if the low two bits are both ones, then asking 11 and 12 of those" (02, Job 8)
unfoldable pub execute_fetched : Machine → List ℕ → ℕ → Outcome
execute_fetched m mem h =
    cond (is_long h)
    (fetching m mem (sum m.pc 2) (execute_word m mem 4 (decode_word (value mem m.pc 0 4))))
    (execute_word m mem 2 (expand_half h))

-- "4. Is pc a multiple of 4? No: 10.", which "now asks for a multiple of 2"; "A fetch takes two bytes, asks 11 and 12 of them" (02, Job 8)
unfoldable pub step : Machine → List ℕ → Outcome
step m mem =
    cond (eqb (m.pc % 2) 0)
    (fetching m mem m.pc (execute_fetched m mem (value mem m.pc 0 2)))
    (stopped 10 m mem)

-- ---- the calls

-- "1. Is memory no longer than 16,777,216? No: 1."
abbrev pub longest : ℕ
longest = 16777216

-- question 1, "3. Is the machine well formed? No: 3." and "4, for a step or run given such a machine in locked HFI mode, asked
-- after 3" (02, Job 5); then the step. "For 1 to 3 nothing changes"; "4 leaves what 3 leaves"
unfoldable pub step_call : Machine → List ℕ → Outcome
step_call m mem =
    cond (ltb longest (length mem)) (stopped 1 m mem)
    (cond (well_formed m) (cond (exposes_code m.hfi) (stopped 4 m mem) (step m mem)) (stopped 3 m mem))

-- "Resuming .. puts a given value in x10 and adds 4 to pc; it asks question 3 only." 4 with Job 8 too: an ECALL is a long word
unfoldable pub resume_call : Machine → ℕ → StepAnswer
resume_call m v =
    cond (well_formed m) (record { stop = 0; address = 0; machine = machine (set_reg m.x 10 v) (sum m.pc 4) m.hfi })
    (record { stop = 3; address = 0; machine = m })
