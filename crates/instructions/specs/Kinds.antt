-- The codes of each group's kinds: the RISC-V unprivileged specification's listings "RV32I Base
-- Instruction Set", "RV64I Base Instruction Set" and, for the rows with funct7 0000001, "RV32M" and
-- "RV64M Standard Extension", a row a line.
-- h-prefixed words have the codes of ordinary loads and stores (document 01, "Instructions").
-- The kinds are declared in src/kind.rt. Assumes nothing.
use Rattle.std.specs.Prelude.{Bool, true, false, ◌&&◌, ◌||◌, List, [], ◌∷◌, ℕ, ◌+◌, ◌*◌, ◌^◌, eqb}
use Rattle.instructions.specs.Opcodes.{LUI, AUIPC}
use Rattle.instructions.specs.declared.kind.UpperKind.{UpperKind}
use Rattle.instructions.specs.declared.kind.UpperKind.TheVariants.{Lui, Auipc}
use Rattle.instructions.specs.declared.kind.BranchKind.{BranchKind}
use Rattle.instructions.specs.declared.kind.BranchKind.TheVariants.{Beq, Bne, Blt, Bge, Bltu, Bgeu}
use Rattle.instructions.specs.declared.kind.LoadKind.{LoadKind}
use Rattle.instructions.specs.declared.kind.LoadKind.TheVariants.{Lb, Lh, Lw, Ld, Lbu, Lhu, Lwu}
use Rattle.instructions.specs.declared.kind.StoreKind.{StoreKind}
use Rattle.instructions.specs.declared.kind.StoreKind.TheVariants.{Sb, Sh, Sw, Sd}
use Rattle.instructions.specs.declared.kind.ImmediateKind.{ImmediateKind}
use Rattle.instructions.specs.declared.kind.ImmediateKind.TheVariants.{Addi, Slti, Sltiu, Xori, Ori, Andi}
use Rattle.instructions.specs.declared.kind.ShiftKind.{ShiftKind}
use Rattle.instructions.specs.declared.kind.ShiftKind.TheVariants.{Slli, Srli, Srai}
use Rattle.instructions.specs.declared.kind.ShiftWordKind.{ShiftWordKind}
use Rattle.instructions.specs.declared.kind.ShiftWordKind.TheVariants.{Slliw, Srliw, Sraiw}
use Rattle.instructions.specs.declared.kind.RegisterKind.{RegisterKind}
use Rattle.instructions.specs.declared.kind.RegisterKind.TheVariants.{Add, Sub, Sll, Slt, Sltu, Xor, Srl, Sra, Or, And, Mul, Mulh, Mulhsu, Mulhu, Div, Divu, Rem, Remu}
use Rattle.instructions.specs.declared.kind.RegisterWordKind.{RegisterWordKind}
use Rattle.instructions.specs.declared.kind.RegisterWordKind.TheVariants.{Addw, Subw, Sllw, Srlw, Sraw, Mulw, Divw, Divuw, Remw, Remuw}
use Rattle.instructions.specs.declared.kind.SystemKind.{SystemKind}
use Rattle.instructions.specs.declared.kind.SystemKind.TheVariants.{Ecall, Ebreak}
use Rattle.instructions.specs.declared.kind.HfiKind.{HfiKind}
use Rattle.instructions.specs.declared.kind.HfiKind.TheVariants.{Enter, EnterJump, Exit, SelectRegion, SetBase, GetBase, SetBound, GetBound, SetPermission, GetPermission, SetHandler, GetHandler, ResetRegions}

-- two function fields as one number: the higher field, then funct3
abbrev pub functs : ℕ → ℕ → ℕ
functs high funct3 = high * 2 ^ 3 + funct3

-- opcode
abbrev pub upper_code : UpperKind → ℕ
upper_code Lui = LUI
upper_code Auipc = AUIPC

abbrev pub upper_kinds : List UpperKind
upper_kinds = Lui ∷ Auipc ∷ []

-- funct3 of opcode BRANCH
abbrev pub branch_code : BranchKind → ℕ
branch_code Beq = 0b000
branch_code Bne = 0b001
branch_code Blt = 0b100
branch_code Bge = 0b101
branch_code Bltu = 0b110
branch_code Bgeu = 0b111

abbrev pub branch_kinds : List BranchKind
branch_kinds = Beq ∷ Bne ∷ Blt ∷ Bge ∷ Bltu ∷ Bgeu ∷ []

-- funct3 of opcode LOAD, and of opcode 0b
abbrev pub load_code : LoadKind → ℕ
load_code Lb = 0b000
load_code Lh = 0b001
load_code Lw = 0b010
load_code Ld = 0b011
load_code Lbu = 0b100
load_code Lhu = 0b101
load_code Lwu = 0b110

abbrev pub load_kinds : List LoadKind
load_kinds = Lb ∷ Lh ∷ Lw ∷ Ld ∷ Lbu ∷ Lhu ∷ Lwu ∷ []

-- funct3 of opcode STORE, and of opcode 2b
abbrev pub store_code : StoreKind → ℕ
store_code Sb = 0b000
store_code Sh = 0b001
store_code Sw = 0b010
store_code Sd = 0b011

abbrev pub store_kinds : List StoreKind
store_kinds = Sb ∷ Sh ∷ Sw ∷ Sd ∷ []

-- funct3 of opcode OP-IMM
abbrev pub immediate_code : ImmediateKind → ℕ
immediate_code Addi = 0b000
immediate_code Slti = 0b010
immediate_code Sltiu = 0b011
immediate_code Xori = 0b100
immediate_code Ori = 0b110
immediate_code Andi = 0b111

abbrev pub immediate_kinds : List ImmediateKind
immediate_kinds = Addi ∷ Slti ∷ Sltiu ∷ Xori ∷ Ori ∷ Andi ∷ []

-- the six bits above the amount, and funct3, of opcode OP-IMM
abbrev pub shift_code : ShiftKind → ℕ
shift_code Slli = functs 0b000000 0b001
shift_code Srli = functs 0b000000 0b101
shift_code Srai = functs 0b010000 0b101

abbrev pub shift_kinds : List ShiftKind
shift_kinds = Slli ∷ Srli ∷ Srai ∷ []

-- funct7 and funct3 of opcode OP-IMM-32
abbrev pub shift_word_code : ShiftWordKind → ℕ
shift_word_code Slliw = functs 0b0000000 0b001
shift_word_code Srliw = functs 0b0000000 0b101
shift_word_code Sraiw = functs 0b0100000 0b101

abbrev pub shift_word_kinds : List ShiftWordKind
shift_word_kinds = Slliw ∷ Srliw ∷ Sraiw ∷ []

-- funct7 and funct3 of opcode OP
abbrev pub register_code : RegisterKind → ℕ
register_code Add = functs 0b0000000 0b000
register_code Sub = functs 0b0100000 0b000
register_code Sll = functs 0b0000000 0b001
register_code Slt = functs 0b0000000 0b010
register_code Sltu = functs 0b0000000 0b011
register_code Xor = functs 0b0000000 0b100
register_code Srl = functs 0b0000000 0b101
register_code Sra = functs 0b0100000 0b101
register_code Or = functs 0b0000000 0b110
register_code And = functs 0b0000000 0b111
register_code Mul = functs 0b0000001 0b000
register_code Mulh = functs 0b0000001 0b001
register_code Mulhsu = functs 0b0000001 0b010
register_code Mulhu = functs 0b0000001 0b011
register_code Div = functs 0b0000001 0b100
register_code Divu = functs 0b0000001 0b101
register_code Rem = functs 0b0000001 0b110
register_code Remu = functs 0b0000001 0b111

abbrev pub register_kinds : List RegisterKind
register_kinds =
    Add ∷ Sub ∷ Sll ∷ Slt ∷ Sltu ∷ Xor ∷ Srl ∷ Sra ∷ Or ∷ And
    ∷ Mul ∷ Mulh ∷ Mulhsu ∷ Mulhu ∷ Div ∷ Divu ∷ Rem ∷ Remu ∷ []

-- funct7 and funct3 of opcode OP-32
abbrev pub register_word_code : RegisterWordKind → ℕ
register_word_code Addw = functs 0b0000000 0b000
register_word_code Subw = functs 0b0100000 0b000
register_word_code Sllw = functs 0b0000000 0b001
register_word_code Srlw = functs 0b0000000 0b101
register_word_code Sraw = functs 0b0100000 0b101
register_word_code Mulw = functs 0b0000001 0b000
register_word_code Divw = functs 0b0000001 0b100
register_word_code Divuw = functs 0b0000001 0b101
register_word_code Remw = functs 0b0000001 0b110
register_word_code Remuw = functs 0b0000001 0b111

abbrev pub register_word_kinds : List RegisterWordKind
register_word_kinds = Addw ∷ Subw ∷ Sllw ∷ Srlw ∷ Sraw ∷ Mulw ∷ Divw ∷ Divuw ∷ Remw ∷ Remuw ∷ []

-- funct12 of opcode SYSTEM
abbrev pub system_code : SystemKind → ℕ
system_code Ecall = 0b000000000000
system_code Ebreak = 0b000000000001

abbrev pub system_kinds : List SystemKind
system_kinds = Ecall ∷ Ebreak ∷ []

-- a row of document 01's table of opcode 5b: its funct7, and whether it names rd, rs1 and rs2
pub record HfiRow : Type 0 where
  pub funct7 : ℕ
  pub rd : Bool
  pub rs1 : Bool
  pub rs2 : Bool

abbrev row : ℕ → Bool → Bool → Bool → HfiRow
row n d a b = record { funct7 = n; rd = d; rs1 = a; rs2 = b }

-- the table itself ("4, 5 | set base, get base | rs1; rd": a set names rs1, a get rd)
abbrev pub hfi_row : HfiKind → HfiRow
hfi_row Enter = row 0 false true false
hfi_row EnterJump = row 1 false true true
hfi_row Exit = row 2 false false false
hfi_row SelectRegion = row 3 false true false
hfi_row SetBase = row 4 false true false
hfi_row GetBase = row 5 true false false
hfi_row SetBound = row 6 false true false
hfi_row GetBound = row 7 true false false
hfi_row SetPermission = row 8 false true false
hfi_row GetPermission = row 9 true false false
hfi_row SetHandler = row 10 false true false
hfi_row GetHandler = row 11 true false false
hfi_row ResetRegions = row 12 false false false

abbrev pub hfi_code : HfiKind → ℕ
hfi_code k = (hfi_row k).funct7

abbrev pub hfi_kinds : List HfiKind
hfi_kinds =
    Enter ∷ EnterJump ∷ Exit ∷ SelectRegion ∷ SetBase ∷ GetBase ∷ SetBound ∷ GetBound ∷ SetPermission ∷ GetPermission
    ∷ SetHandler ∷ GetHandler ∷ ResetRegions ∷ []

-- "Fields not named in a row are zero, else the word is illegal."
abbrev pub named : HfiRow → ℕ → ℕ → ℕ → Bool
named r rd rs1 rs2 = (r.rd || eqb rd 0) && ((r.rs1 || eqb rs1 0) && (r.rs2 || eqb rs2 0))
