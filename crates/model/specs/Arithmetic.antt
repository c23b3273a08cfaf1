-- What the operations make of two values, over the width of the operands (specification, chapters "RV32I", "RV64I" and "M").
-- The kinds are declared in instructions/src/kind.rt. Assumes nothing.
use Rattle.std.specs.Prelude.{Bool, not, cond, ℕ, ◌+◌, ◌-◌, ◌*◌, ◌/◌, ◌%◌, ◌^◌, eqb, ltb, pos, ◌*ℤ◌}
use Rattle.std.specs.Int.Bits.{bit_and, bit_or, bit_xor}
use Rattle.std.specs.Int.Signed.{lt_z, shr_z}
use Rattle.words.specs.Word.{field, signed, word, sext}
use Rattle.words.specs.Integer.{low_half, high_half, quotient, remainder}
use Rattle.instructions.specs.declared.kind.BranchKind.{BranchKind}
use Rattle.instructions.specs.declared.kind.BranchKind.TheVariants.{Beq, Bne, Blt, Bge, Bltu, Bgeu}
use Rattle.instructions.specs.declared.kind.LoadKind.{LoadKind}
use Rattle.instructions.specs.declared.kind.LoadKind.TheVariants.{Lb, Lh, Lw, Ld, Lbu, Lhu, Lwu}
use Rattle.instructions.specs.declared.kind.ImmediateKind.{ImmediateKind}
use Rattle.instructions.specs.declared.kind.ImmediateKind.TheVariants.{Addi, Slti, Sltiu, Xori, Ori, Andi}
use Rattle.instructions.specs.declared.kind.ShiftKind.{ShiftKind}
use Rattle.instructions.specs.declared.kind.ShiftKind.TheVariants.{Slli, Srli, Srai}
use Rattle.instructions.specs.declared.kind.ShiftWordKind.{ShiftWordKind}
use Rattle.instructions.specs.declared.kind.ShiftWordKind.TheVariants.{Slliw, Srliw, Sraiw}
use Rattle.instructions.specs.declared.kind.RegisterKind.{RegisterKind}
use Rattle.instructions.specs.declared.kind.RegisterKind.TheVariants.{Add, Sub, Sll, Slt, Sltu, Xor, Srl, Sra, Or, And, Mul, Mulh, Mulhsu, Mulhu, Div, Divu, Rem, Remu}
use Rattle.instructions.specs.declared.kind.RegisterWordKind.{RegisterWordKind}
use Rattle.instructions.specs.declared.kind.RegisterWordKind.TheVariants.{Addw, Subw, Sllw, Srlw, Sraw, Mulw, Divw, Divuw, Remw, Remuw}

-- a < b, read as signed numbers of w bits
abbrev pub signed_less : ℕ → ℕ → ℕ → Bool
signed_less w a b = lt_z (signed w a) (signed w b)

-- 1 or 0
abbrev pub flag : Bool → ℕ
flag t = cond t 1 0

-- an operation on two numbers of w bits; a shift's amount is the low bits of b, 6 of them at 64 bits and 5 at 32
abbrev pub operate : ℕ → RegisterKind → ℕ → ℕ → ℕ
operate w Add a b = (a + b) % 2 ^ w
operate w Sub a b = (a + (2 ^ w - b)) % 2 ^ w
operate w Sll a b = a * 2 ^ (b % w) % 2 ^ w
operate w Slt a b = flag (signed_less w a b)
operate w Sltu a b = flag (ltb a b)
operate w Xor a b = bit_xor a b
operate w Srl a b = a / 2 ^ (b % w)
operate w Sra a b = word w (shr_z (signed w a) (2 ^ (b % w)))
operate w Or a b = bit_or a b
operate w And a b = bit_and a b
operate w Mul a b = low_half w (signed w a *ℤ signed w b)
operate w Mulh a b = high_half w (signed w a *ℤ signed w b)
operate w Mulhsu a b = high_half w (signed w a *ℤ pos b)
operate w Mulhu a b = high_half w (pos a *ℤ pos b)
operate w Div a b = quotient w (signed w a) (signed w b)
operate w Divu a b = quotient w (pos a) (pos b)
operate w Rem a b = remainder w (signed w a) (signed w b)
operate w Remu a b = remainder w (pos a) (pos b)

-- a word form: the operation on the low 32 bits, its result sign extended; REMW and REMUW too "always sign-extend the 32-bit
-- result to 64 bits, including on a divide by zero"
abbrev pub operate_word : RegisterKind → ℕ → ℕ → ℕ
operate_word k a b = sext 32 (operate 32 k (field a 0 32) (field b 0 32))

-- the operation that each kind is a form of
abbrev pub of_register_word : RegisterWordKind → RegisterKind
of_register_word Addw = Add
of_register_word Subw = Sub
of_register_word Sllw = Sll
of_register_word Srlw = Srl
of_register_word Sraw = Sra
of_register_word Mulw = Mul
of_register_word Divw = Div
of_register_word Divuw = Divu
of_register_word Remw = Rem
of_register_word Remuw = Remu

abbrev pub of_immediate : ImmediateKind → RegisterKind
of_immediate Addi = Add
of_immediate Slti = Slt
of_immediate Sltiu = Sltu
of_immediate Xori = Xor
of_immediate Ori = Or
of_immediate Andi = And

abbrev pub of_shift : ShiftKind → RegisterKind
of_shift Slli = Sll
of_shift Srli = Srl
of_shift Srai = Sra

abbrev pub of_shift_word : ShiftWordKind → RegisterKind
of_shift_word Slliw = Sll
of_shift_word Srliw = Srl
of_shift_word Sraiw = Sra

-- whether a branch is taken
abbrev pub taken : BranchKind → ℕ → ℕ → Bool
taken Beq a b = eqb a b
taken Bne a b = not (eqb a b)
taken Blt a b = signed_less 64 a b
taken Bge a b = not (signed_less 64 a b)
taken Bltu a b = ltb a b
taken Bgeu a b = not (ltb a b)

-- what a load puts in the register: the bytes' number, sign extended by the signed kinds
abbrev pub extended : LoadKind → ℕ → ℕ
extended Lb v = sext 8 v
extended Lh v = sext 16 v
extended Lw v = sext 32 v
extended Ld v = v
extended Lbu v = v
extended Lhu v = v
extended Lwu v = v
