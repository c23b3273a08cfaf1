-- The word of an instruction. "The range is what the word's field can express; branch and jump offsets are even."
-- Fields is declared in src/fields.rt, ShiftKind in src/kind.rt, Instruction in src/instruction.rt.
-- Assumes nothing.
use Rattle.std.specs.Prelude.{Bool, true, cond, ◌&&◌, ℕ, ◌+◌, ◌*◌, ◌^◌, eqb, ltb, Option, Some, None}
use Rattle.words.specs.Word.{field, fits_signed}
use Rattle.instructions.specs.Fields.{word_of}
use Rattle.instructions.specs.Opcodes.{JAL, JALR, BRANCH, LOAD, STORE, OP_IMM, OP_IMM_32, OP, OP_32, MISC_MEM, SYSTEM, H_LOAD, H_STORE, HFI}
use Rattle.instructions.specs.Kinds.{functs, upper_code, branch_code, load_code, store_code, immediate_code, shift_code, shift_word_code, register_code, register_word_code, system_code, hfi_row, hfi_code, named}
use Rattle.instructions.specs.HWords.{explicit_regions, among, rs1_field, other_field}
use Rattle.instructions.specs.declared.fields.Fields.{Fields}
use Rattle.instructions.specs.declared.kind.ShiftKind.{ShiftKind}
use Rattle.instructions.specs.declared.instruction.Instruction.{Instruction}
use Rattle.instructions.specs.declared.instruction.Instruction.TheVariants.{Upper, Jal, Jalr, Branch, Load, Store, Immediate, Shift, Addiw, ShiftWord, Register, RegisterWord, Fence, System, HLoad, HStore, Hfi}

-- ---- the fields of each format; `code` is funct7 and funct3 as one number

abbrev pub r_fields : ℕ → ℕ → ℕ → ℕ → ℕ → Fields
r_fields opcode code rd rs1 rs2 =
    record { opcode = opcode; rd = rd; funct3 = field code 0 3; rs1 = rs1; rs2 = rs2; funct7 = field code 3 7 }

abbrev pub i_fields : ℕ → ℕ → ℕ → ℕ → ℕ → Fields
i_fields opcode funct3 rd rs1 imm =
    record { opcode = opcode; rd = rd; funct3 = funct3; rs1 = rs1; rs2 = field imm 0 5; funct7 = field imm 5 7 }

abbrev pub s_fields : ℕ → ℕ → ℕ → ℕ → ℕ → Fields
s_fields opcode funct3 rs1 rs2 imm =
    record { opcode = opcode; rd = field imm 0 5; funct3 = funct3; rs1 = rs1; rs2 = rs2; funct7 = field imm 5 7 }

abbrev pub b_fields : ℕ → ℕ → ℕ → ℕ → ℕ → Fields
b_fields opcode funct3 rs1 rs2 imm =
    record {
      opcode = opcode;
      rd = field imm 1 4 * 2 ^ 1 + field imm 11 1;
      funct3 = funct3;
      rs1 = rs1;
      rs2 = rs2;
      funct7 = field imm 12 1 * 2 ^ 6 + field imm 5 6;
    }

abbrev pub u_fields : ℕ → ℕ → ℕ → Fields
u_fields opcode rd imm =
    record {
      opcode = opcode;
      rd = rd;
      funct3 = field imm 12 3;
      rs1 = field imm 15 5;
      rs2 = field imm 20 5;
      funct7 = field imm 25 7;
    }

abbrev pub j_fields : ℕ → ℕ → ℕ → Fields
j_fields opcode rd imm =
    record {
      opcode = opcode;
      rd = rd;
      funct3 = field imm 12 3;
      rs1 = field imm 15 5;
      rs2 = field imm 1 4 * 2 ^ 1 + field imm 11 1;
      funct7 = field imm 20 1 * 2 ^ 6 + field imm 5 6;
    }

-- a shift has the amount in the low half of its 12 bits, FENCE has fm, pred and succ in them
abbrev pub shift_fields : ShiftKind → ℕ → ℕ → ℕ → Fields
shift_fields k rd rs1 amount = i_fields OP_IMM (field (shift_code k) 0 3) rd rs1 (field (shift_code k) 3 6 * 2 ^ 6 + amount)

abbrev pub fence_fields : ℕ → ℕ → ℕ → ℕ → ℕ → Fields
fence_fields fm pred succ rs1 rd = i_fields MISC_MEM 0 rd rs1 ((fm * 2 ^ 4 + pred) * 2 ^ 4 + succ)

abbrev pub encode_fields : Instruction → Fields
encode_fields (Upper k rd imm) = u_fields (upper_code k) rd imm
encode_fields (Jal rd offset) = j_fields JAL rd offset
encode_fields (Jalr rd rs1 imm) = i_fields JALR 0 rd rs1 imm
encode_fields (Branch k rs1 rs2 offset) = b_fields BRANCH (branch_code k) rs1 rs2 offset
encode_fields (Load k rd rs1 imm) = i_fields LOAD (load_code k) rd rs1 imm
encode_fields (Store k rs1 rs2 imm) = s_fields STORE (store_code k) rs1 rs2 imm
encode_fields (Immediate k rd rs1 imm) = i_fields OP_IMM (immediate_code k) rd rs1 imm
encode_fields (Shift k rd rs1 amount) = shift_fields k rd rs1 amount
encode_fields (Addiw rd rs1 imm) = i_fields OP_IMM_32 0 rd rs1 imm
encode_fields (ShiftWord k rd rs1 amount) = r_fields OP_IMM_32 (shift_word_code k) rd rs1 amount
encode_fields (Register k rd rs1 rs2) = r_fields OP (register_code k) rd rs1 rs2
encode_fields (RegisterWord k rd rs1 rs2) = r_fields OP_32 (register_word_code k) rd rs1 rs2
encode_fields (Fence fm pred succ rs1 rd) = fence_fields fm pred succ rs1 rd
encode_fields (System k) = i_fields SYSTEM 0 0 0 (system_code k)
encode_fields (HLoad k region rd rs1 imm) = i_fields H_LOAD (load_code k) (other_field region rd) (rs1_field region rs1) imm
encode_fields (HStore k region rs1 rs2 imm) = s_fields H_STORE (store_code k) (rs1_field region rs1) (other_field region rs2) imm
encode_fields (Hfi k rd rs1 rs2) = r_fields HFI (functs (hfi_code k) 0) rd rs1 rs2

-- ---- the ranges

abbrev pub two : ℕ → ℕ → Bool → Bool
two a b rest = ltb a 32 && (ltb b 32 && rest)

-- an h-word's region, two of its registers and the rest
abbrev pub h_word : ℕ → ℕ → ℕ → Bool → Bool
h_word region a b rest = among region explicit_regions && (ltb a 16 && (ltb b 16 && rest))

-- an offset, or an upper immediate, whose `low` lowest bits are zero
abbrev pub multiple : ℕ → ℕ → ℕ → Bool
multiple k low imm = fits_signed k imm && eqb (field imm 0 low) 0

abbrev pub in_range : Instruction → Bool
in_range (Upper k rd imm) = ltb rd 32 && multiple 32 12 imm
in_range (Jal rd offset) = ltb rd 32 && multiple 21 1 offset
in_range (Jalr rd rs1 imm) = two rd rs1 (fits_signed 12 imm)
in_range (Branch k rs1 rs2 offset) = two rs1 rs2 (multiple 13 1 offset)
in_range (Load k rd rs1 imm) = two rd rs1 (fits_signed 12 imm)
in_range (Store k rs1 rs2 imm) = two rs1 rs2 (fits_signed 12 imm)
in_range (Immediate k rd rs1 imm) = two rd rs1 (fits_signed 12 imm)
in_range (Shift k rd rs1 amount) = two rd rs1 (ltb amount 64)
in_range (Addiw rd rs1 imm) = two rd rs1 (fits_signed 12 imm)
in_range (ShiftWord k rd rs1 amount) = two rd rs1 (ltb amount 32)
in_range (Register k rd rs1 rs2) = two rd rs1 (ltb rs2 32)
in_range (RegisterWord k rd rs1 rs2) = two rd rs1 (ltb rs2 32)
in_range (Fence fm pred succ rs1 rd) = two rd rs1 (ltb fm 16 && (ltb pred 16 && ltb succ 16))
in_range (System k) = true
in_range (HLoad k region rd rs1 imm) = h_word region rd rs1 (fits_signed 12 imm)
in_range (HStore k region rs1 rs2 imm) = h_word region rs1 rs2 (fits_signed 12 imm)
in_range (Hfi k rd rs1 rs2) = two rd rs1 (ltb rs2 32 && named (hfi_row k) rd rs1 rs2)

unfoldable pub encode_word : Instruction → Option ℕ
encode_word i = cond (in_range i) (Some (word_of (encode_fields i))) None
