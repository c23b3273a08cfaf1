-- The opcodes, by their names in the specification's "RISC-V base opcode map", and the three of HFI.
-- Assumes nothing.
use Rattle.std.specs.Prelude.{ℕ}

abbrev pub LUI : ℕ
LUI = 0b0110111

abbrev pub AUIPC : ℕ
AUIPC = 0b0010111

abbrev pub JAL : ℕ
JAL = 0b1101111

abbrev pub JALR : ℕ
JALR = 0b1100111

abbrev pub BRANCH : ℕ
BRANCH = 0b1100011

abbrev pub LOAD : ℕ
LOAD = 0b0000011

abbrev pub STORE : ℕ
STORE = 0b0100011

abbrev pub OP_IMM : ℕ
OP_IMM = 0b0010011

abbrev pub OP_IMM_32 : ℕ
OP_IMM_32 = 0b0011011

abbrev pub OP : ℕ
OP = 0b0110011

abbrev pub OP_32 : ℕ
OP_32 = 0b0111011

abbrev pub MISC_MEM : ℕ
MISC_MEM = 0b0001111

abbrev pub SYSTEM : ℕ
SYSTEM = 0b1110011

-- "opcode 0b, funct3 0 to 6 for hlb, hlh, hlw, hld, hlbu, hlhu, hlwu", in the specification's space custom-0
abbrev pub H_LOAD : ℕ
H_LOAD = 0x0b

-- "opcode 2b, funct3 0 to 3 for hsb, hsh, hsw, hsd", custom-1
abbrev pub H_STORE : ℕ
H_STORE = 0x2b

-- "The rest (ours) are R-type words, opcode 5b, funct3 0.", custom-2
abbrev pub HFI : ℕ
HFI = 0x5b
