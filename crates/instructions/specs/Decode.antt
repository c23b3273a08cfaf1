-- The instruction of a long word; half-words are in compressed/specs. Document 01: "All of RV64I; 32-bit words", the h-prefixed words and the table of opcode 5b;
-- document 02, Job 2: of RV64M "the eight 64-bit operations and the five word ones". Every other word is illegal, and stands for none.
-- Fields is declared in src/fields.rt, the kinds in src/kind.rt, Instruction in src/instruction.rt.
-- Assumes nothing.
use Rattle.std.specs.Prelude.{Bool, true, false, cond, ◌&&◌, List, [], ◌∷◌, ℕ, eqb, Option, Some, None}
use Rattle.words.specs.Word.{field}
use Rattle.instructions.specs.Fields.{fields_of}
use Rattle.instructions.specs.Table.{lookup, of_code}
use Rattle.instructions.specs.Opcodes.{LUI, AUIPC, JAL, JALR, BRANCH, LOAD, STORE, OP_IMM, OP_IMM_32, OP, OP_32, MISC_MEM, SYSTEM, H_LOAD, H_STORE, HFI}
use Rattle.instructions.specs.Kinds.{functs, upper_code, upper_kinds, branch_code, branch_kinds, load_code, load_kinds, store_code, store_kinds, immediate_code, immediate_kinds, shift_code, shift_kinds, shift_word_code, shift_word_kinds, register_code, register_kinds, register_word_code, register_word_kinds, system_code, system_kinds, hfi_row, hfi_code, hfi_kinds, named}
use Rattle.instructions.specs.Immediates.{i_bits, i_immediate, s_immediate, b_immediate, u_immediate, j_immediate}
use Rattle.instructions.specs.HWords.{low_register, chosen_region}
use Rattle.instructions.specs.declared.fields.Fields.{Fields}
use Rattle.instructions.specs.declared.kind.LoadKind.{LoadKind}
use Rattle.instructions.specs.declared.kind.StoreKind.{StoreKind}
use Rattle.instructions.specs.declared.instruction.Instruction.{Instruction}
use Rattle.instructions.specs.declared.instruction.Instruction.TheVariants.{Upper, Jal, Jalr, Branch, Load, Store, Immediate, Shift, Addiw, ShiftWord, Register, RegisterWord, Fence, System, HLoad, HStore, Hfi}

-- ---- what stands under a code in the listing of a group

abbrev pub upper_at : ℕ → ℕ → ℕ → Option Instruction
upper_at code rd imm = of_code upper_code (λ k. Some (Upper k rd imm)) None upper_kinds code

abbrev pub branch_at : ℕ → ℕ → ℕ → ℕ → Option Instruction
branch_at code rs1 rs2 offset = of_code branch_code (λ k. Some (Branch k rs1 rs2 offset)) None branch_kinds code

-- "h-prefixed words .. have the field layout of ordinary loads and stores", which have no region
abbrev pub load_of : Bool → LoadKind → ℕ → ℕ → ℕ → ℕ → Instruction
load_of false k region = Load k
load_of true k region = HLoad k region

abbrev pub load_at : Bool → ℕ → ℕ → ℕ → ℕ → ℕ → Option Instruction
load_at prefixed code region rd rs1 imm =
    of_code load_code (λ k. Some (load_of prefixed k region rd rs1 imm)) None load_kinds code

abbrev pub store_of : Bool → StoreKind → ℕ → ℕ → ℕ → ℕ → Instruction
store_of false k region = Store k
store_of true k region = HStore k region

abbrev pub store_at : Bool → ℕ → ℕ → ℕ → ℕ → ℕ → Option Instruction
store_at prefixed code region rs1 rs2 imm =
    of_code store_code (λ k. Some (store_of prefixed k region rs1 rs2 imm)) None store_kinds code

abbrev pub immediate_at : ℕ → ℕ → ℕ → ℕ → Option Instruction
immediate_at code rd rs1 imm = of_code immediate_code (λ k. Some (Immediate k rd rs1 imm)) None immediate_kinds code

abbrev pub shift_at : ℕ → ℕ → ℕ → ℕ → Option Instruction
shift_at code rd rs1 amount = of_code shift_code (λ k. Some (Shift k rd rs1 amount)) None shift_kinds code

abbrev pub shift_word_at : ℕ → ℕ → ℕ → ℕ → Option Instruction
shift_word_at code rd rs1 amount = of_code shift_word_code (λ k. Some (ShiftWord k rd rs1 amount)) None shift_word_kinds code

abbrev pub register_at : ℕ → ℕ → ℕ → ℕ → Option Instruction
register_at code rd rs1 rs2 = of_code register_code (λ k. Some (Register k rd rs1 rs2)) None register_kinds code

abbrev pub register_word_at : ℕ → ℕ → ℕ → ℕ → Option Instruction
register_word_at code rd rs1 rs2 = of_code register_word_code (λ k. Some (RegisterWord k rd rs1 rs2)) None register_word_kinds code

abbrev pub system_at : ℕ → Option Instruction
system_at code = of_code system_code (λ k. Some (System k)) None system_kinds code

abbrev pub hfi_at : ℕ → ℕ → ℕ → ℕ → Option Instruction
hfi_at code rd rs1 rs2 = of_code hfi_code (λ k. Some (Hfi k rd rs1 rs2)) None hfi_kinds code

-- the row with this funct7 names every field that is not zero
abbrev pub named_at : ℕ → ℕ → ℕ → ℕ → Bool
named_at funct7 rd rs1 rs2 = of_code hfi_code (λ k. named (hfi_row k) rd rs1 rs2) false hfi_kinds funct7

-- ---- groups that ask more than a code

-- legal only where the test holds
abbrev pub provided : Bool → Option Instruction → Option Instruction
provided b d = cond b d None

-- the second where the first is illegal
abbrev pub otherwise : Option Instruction → Option Instruction → Option Instruction
otherwise (Some i) d = Some i
otherwise None d = d

abbrev pub decode_jalr : Fields → Option Instruction
decode_jalr f = provided (eqb f.funct3 0) (Some (Jalr f.rd f.rs1 (i_immediate f)))

-- a shift has an amount in the low half of its 12 bits
abbrev pub decode_shift : Fields → Option Instruction
decode_shift f = shift_at (functs (field (i_bits f) 6 6) f.funct3) f.rd f.rs1 (field (i_bits f) 0 6)

-- a funct3 that no immediate operation has is a shift's, or illegal
abbrev pub decode_immediate : Fields → Option Instruction
decode_immediate f = otherwise (immediate_at f.funct3 f.rd f.rs1 (i_immediate f)) (decode_shift f)

-- ADDIW has funct3 0
abbrev pub decode_immediate_word : Fields → Option Instruction
decode_immediate_word f =
    cond (eqb f.funct3 0) (Some (Addiw f.rd f.rs1 (i_immediate f)))
    (shift_word_at (functs f.funct7 f.funct3) f.rd f.rs1 f.rs2)

-- "FENCE carries its spare fields": fm, pred and succ, and rs1 and rd; FENCE.I has another funct3
abbrev pub decode_fence : Fields → Option Instruction
decode_fence f =
    provided (eqb f.funct3 0)
    (Some (Fence (field (i_bits f) 8 4) (field (i_bits f) 4 4) (field (i_bits f) 0 4) f.rs1 f.rd))

-- ECALL and EBREAK have nothing but funct12; "No [..] CSRs"
abbrev pub decode_system : Fields → Option Instruction
decode_system f = provided (eqb f.rd 0 && (eqb f.funct3 0 && eqb f.rs1 0)) (system_at (i_bits f))

-- the top bits of two register fields choose the region, and the rest name registers
abbrev pub decode_h_load : Fields → Option Instruction
decode_h_load f =
    load_at true f.funct3 (chosen_region f.rs1 f.rd) (low_register f.rd) (low_register f.rs1) (i_immediate f)

abbrev pub decode_h_store : Fields → Option Instruction
decode_h_store f =
    store_at true f.funct3 (chosen_region f.rs1 f.rs2) (low_register f.rs1) (low_register f.rs2) (s_immediate f)

-- "R-type words, opcode 5b, funct3 0. Fields not named in a row are zero, else the word is illegal."
abbrev pub decode_hfi : Fields → Option Instruction
decode_hfi f =
    provided (eqb f.funct3 0 && named_at f.funct7 f.rd f.rs1 f.rs2)
    (hfi_at f.funct7 f.rd f.rs1 f.rs2)

-- the groups by opcode
abbrev pub groups : Fields → List (ℕ × Option Instruction)
groups f =
    (LUI, upper_at LUI f.rd (u_immediate f))
    ∷ (AUIPC, upper_at AUIPC f.rd (u_immediate f))
    ∷ (JAL, Some (Jal f.rd (j_immediate f)))
    ∷ (JALR, decode_jalr f)
    ∷ (BRANCH, branch_at f.funct3 f.rs1 f.rs2 (b_immediate f))
    ∷ (LOAD, load_at false f.funct3 0 f.rd f.rs1 (i_immediate f))
    ∷ (STORE, store_at false f.funct3 0 f.rs1 f.rs2 (s_immediate f))
    ∷ (OP_IMM, decode_immediate f)
    ∷ (OP_IMM_32, decode_immediate_word f)
    ∷ (OP, register_at (functs f.funct7 f.funct3) f.rd f.rs1 f.rs2)
    ∷ (OP_32, register_word_at (functs f.funct7 f.funct3) f.rd f.rs1 f.rs2)
    ∷ (MISC_MEM, decode_fence f)
    ∷ (SYSTEM, decode_system f)
    ∷ (H_LOAD, decode_h_load f)
    ∷ (H_STORE, decode_h_store f)
    ∷ (HFI, decode_hfi f)
    ∷ []

-- the fields f under an opcode
abbrev pub decode_at : Fields → ℕ → Option Instruction
decode_at f = lookup None (groups f)

abbrev pub decode_fields : Fields → Option Instruction
decode_fields f = decode_at f f.opcode

unfoldable pub decode_word : ℕ → Option Instruction
decode_word w = decode_fields (fields_of w)
