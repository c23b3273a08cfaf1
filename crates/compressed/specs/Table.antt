-- The half-words: the integer words of RV64C, a line each, in the order of the specification's listing. "Half-word" is document 02's
-- word for what the field calls a compressed instruction.
-- The kinds are declared in instructions/src/kind.rt, Instruction in instructions/src/instruction.rt. Assumes nothing.
use Rattle.std.specs.Prelude.{Bool, true, false, not, ◌&&◌, ◌||◌, List, [], ◌∷◌, ℕ, eqb}
use Rattle.words.specs.Word.{field}
use Rattle.instructions.specs.declared.kind.UpperKind.TheVariants.{Lui}
use Rattle.instructions.specs.declared.kind.BranchKind.TheVariants.{Beq, Bne}
use Rattle.instructions.specs.declared.kind.LoadKind.TheVariants.{Lw, Ld}
use Rattle.instructions.specs.declared.kind.StoreKind.TheVariants.{Sw, Sd}
use Rattle.instructions.specs.declared.kind.ImmediateKind.TheVariants.{Addi, Andi}
use Rattle.instructions.specs.declared.kind.ShiftKind.TheVariants.{Slli, Srli, Srai}
use Rattle.instructions.specs.declared.kind.RegisterKind.TheVariants.{Add, Sub, Xor, Or, And}
use Rattle.instructions.specs.declared.kind.RegisterWordKind.TheVariants.{Addw, Subw}
use Rattle.instructions.specs.declared.kind.SystemKind.TheVariants.{Ebreak}
use Rattle.instructions.specs.declared.instruction.Instruction.{Instruction}
use Rattle.instructions.specs.declared.instruction.Instruction.TheVariants.{Upper, Jal, Jalr, Branch, Load, Store, Immediate, Shift, Addiw, Register, RegisterWord, System}
use Rattle.compressed.specs.Immediates.{rd, rs2, rs1_short, rs2_short, zero_extended, sign_extended, addi4spn, word_offset, double_offset, six_bits, addi16sp, upper, jump_offset, branch_offset, word_from_stack, double_from_stack, word_to_stack, double_to_stack}

-- a field of a half-word and a value: `count` bits from bit `at` on
pub record Bits : Type 0 where
  pub at : ℕ
  pub count : ℕ
  pub value : ℕ

abbrev pub bits : ℕ → ℕ → ℕ → Bits
bits at count value = record { at = at; count = count; value = value }

-- the half-word has these values in these fields
abbrev pub matches : ℕ → List Bits → Bool
matches h [] = true
matches h (b ∷ bs) = eqb (field h b.at b.count) b.value && matches h bs

abbrev pub matches_one : ℕ → List (List Bits) → Bool
matches_one h [] = false
matches_one h (p ∷ ps) = matches h p || matches_one h ps

pub record Line : Type 0 where
  -- the bits that the listing fixes
  pub pattern : List Bits
  -- the patterns that it leaves out: another line's, or reserved
  pub excluded : List (List Bits)
  -- the long instruction that the half-word stands for
  pub expansion : ℕ → Instruction

abbrev pub takes : ℕ → Line → Bool
takes h l = matches h l.pattern && not (matches_one h l.excluded)

-- every line has op in bits 1 and 0, and funct3 in bits 15 to 13
abbrev pub line : ℕ → ℕ → List Bits → List (List Bits) → (ℕ → Instruction) → Line
line op funct3 more excluded expansion =
    record { pattern = bits 0 2 op ∷ bits 13 3 funct3 ∷ more; excluded = excluded; expansion = expansion }

abbrev pub rd_is : ℕ → Bits
rd_is n = bits 7 5 n

abbrev pub rs2_is : ℕ → Bits
rs2_is n = bits 2 5 n

abbrev pub bit12_is : ℕ → Bits
bit12_is n = bits 12 1 n

-- the immediate in bit 12 and bits 6 to 2 is 0
abbrev pub immediate_is_zero : List Bits
immediate_is_zero = bit12_is 0 ∷ bits 2 5 0 ∷ []

-- the C.xx between registers: bits 11 and 10 are ones, bit 12 and bits 6 and 5 tell them apart
abbrev pub between_registers : ℕ → ℕ → List Bits
between_registers b n = bits 10 2 0b11 ∷ bit12_is b ∷ bits 5 2 n ∷ []

-- "its floating-point loads and stores are illegal, as are reserved words" (02, Job 8): they have no line, or a line leaves them out. HINTs are legal
abbrev pub table : List Line
table =
    -- quadrant 0
    line 0 0b000 [] ((bits 5 8 0 ∷ []) ∷ []) (λ h. Immediate Addi (rs2_short h) 2 (zero_extended h addi4spn))  -- C.ADDI4SPN; immediate 0 is reserved
    -- 001 is C.FLD
    ∷ line 0 0b010 [] [] (λ h. Load Lw (rs2_short h) (rs1_short h) (zero_extended h word_offset))  -- C.LW
    ∷ line 0 0b011 [] [] (λ h. Load Ld (rs2_short h) (rs1_short h) (zero_extended h double_offset))  -- C.LD
    -- 100 is reserved, 101 is C.FSD
    ∷ line 0 0b110 [] [] (λ h. Store Sw (rs1_short h) (rs2_short h) (zero_extended h word_offset))  -- C.SW
    ∷ line 0 0b111 [] [] (λ h. Store Sd (rs1_short h) (rs2_short h) (zero_extended h double_offset))  -- C.SD
    -- quadrant 1
    ∷ line 1 0b000 (rd_is 0 ∷ []) [] (λ h. Immediate Addi 0 0 (sign_extended h six_bits))  -- C.NOP
    ∷ line 1 0b000 [] ((rd_is 0 ∷ []) ∷ []) (λ h. Immediate Addi (rd h) (rd h) (sign_extended h six_bits))  -- C.ADDI; rd 0 is C.NOP
    ∷ line 1 0b001 [] ((rd_is 0 ∷ []) ∷ []) (λ h. Addiw (rd h) (rd h) (sign_extended h six_bits))  -- C.ADDIW; rd 0 is reserved
    ∷ line 1 0b010 [] [] (λ h. Immediate Addi (rd h) 0 (sign_extended h six_bits))  -- C.LI
    ∷ line 1 0b011 (rd_is 2 ∷ []) (immediate_is_zero ∷ []) (λ h. Immediate Addi 2 2 (sign_extended h addi16sp))  -- C.ADDI16SP; 0 is reserved
    ∷ line 1 0b011 [] ((rd_is 2 ∷ []) ∷ immediate_is_zero ∷ []) (λ h. Upper Lui (rd h) (sign_extended h upper))  -- C.LUI; 0 is reserved, rd 2 is C.ADDI16SP
    ∷ line 1 0b100 (bits 10 2 0b00 ∷ []) [] (λ h. Shift Srli (rs1_short h) (rs1_short h) (zero_extended h six_bits))  -- C.SRLI
    ∷ line 1 0b100 (bits 10 2 0b01 ∷ []) [] (λ h. Shift Srai (rs1_short h) (rs1_short h) (zero_extended h six_bits))  -- C.SRAI
    ∷ line 1 0b100 (bits 10 2 0b10 ∷ []) [] (λ h. Immediate Andi (rs1_short h) (rs1_short h) (sign_extended h six_bits))  -- C.ANDI
    ∷ line 1 0b100 (between_registers 0 0b00) [] (λ h. Register Sub (rs1_short h) (rs1_short h) (rs2_short h))  -- C.SUB
    ∷ line 1 0b100 (between_registers 0 0b01) [] (λ h. Register Xor (rs1_short h) (rs1_short h) (rs2_short h))  -- C.XOR
    ∷ line 1 0b100 (between_registers 0 0b10) [] (λ h. Register Or (rs1_short h) (rs1_short h) (rs2_short h))  -- C.OR
    ∷ line 1 0b100 (between_registers 0 0b11) [] (λ h. Register And (rs1_short h) (rs1_short h) (rs2_short h))  -- C.AND
    ∷ line 1 0b100 (between_registers 1 0b00) [] (λ h. RegisterWord Subw (rs1_short h) (rs1_short h) (rs2_short h))  -- C.SUBW
    ∷ line 1 0b100 (between_registers 1 0b01) [] (λ h. RegisterWord Addw (rs1_short h) (rs1_short h) (rs2_short h))  -- C.ADDW; 10 and 11 are reserved
    ∷ line 1 0b101 [] [] (λ h. Jal 0 (sign_extended h jump_offset))  -- C.J
    ∷ line 1 0b110 [] [] (λ h. Branch Beq (rs1_short h) 0 (sign_extended h branch_offset))  -- C.BEQZ
    ∷ line 1 0b111 [] [] (λ h. Branch Bne (rs1_short h) 0 (sign_extended h branch_offset))  -- C.BNEZ
    -- quadrant 2
    ∷ line 2 0b000 [] [] (λ h. Shift Slli (rd h) (rd h) (zero_extended h six_bits))  -- C.SLLI
    -- 001 is C.FLDSP
    ∷ line 2 0b010 [] ((rd_is 0 ∷ []) ∷ []) (λ h. Load Lw (rd h) 2 (zero_extended h word_from_stack))  -- C.LWSP; rd 0 is reserved
    ∷ line 2 0b011 [] ((rd_is 0 ∷ []) ∷ []) (λ h. Load Ld (rd h) 2 (zero_extended h double_from_stack))  -- C.LDSP; rd 0 is reserved
    ∷ line 2 0b100 (bit12_is 0 ∷ rs2_is 0 ∷ []) ((rd_is 0 ∷ []) ∷ []) (λ h. Jalr 0 (rd h) 0)  -- C.JR; rs1 0 is reserved
    ∷ line 2 0b100 (bit12_is 0 ∷ []) ((rs2_is 0 ∷ []) ∷ []) (λ h. Register Add (rd h) 0 (rs2 h))  -- C.MV; rs2 0 is C.JR
    ∷ line 2 0b100 (bit12_is 1 ∷ rd_is 0 ∷ rs2_is 0 ∷ []) [] (λ h. System Ebreak)  -- C.EBREAK
    ∷ line 2 0b100 (bit12_is 1 ∷ rs2_is 0 ∷ []) ((rd_is 0 ∷ []) ∷ []) (λ h. Jalr 1 (rd h) 0)  -- C.JALR; rs1 0 is C.EBREAK
    ∷ line 2 0b100 (bit12_is 1 ∷ []) ((rs2_is 0 ∷ []) ∷ []) (λ h. Register Add (rd h) (rd h) (rs2 h))  -- C.ADD; rs2 0 is C.JALR or C.EBREAK
    -- 101 is C.FSDSP
    ∷ line 2 0b110 [] [] (λ h. Store Sw 2 (rs2 h) (zero_extended h word_to_stack))  -- C.SWSP
    ∷ line 2 0b111 [] [] (λ h. Store Sd 2 (rs2 h) (zero_extended h double_to_stack))  -- C.SDSP
    ∷ []
