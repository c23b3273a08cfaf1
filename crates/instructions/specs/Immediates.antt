-- The immediate of each format, from the fields of the word ("Immediate Encoding Variants" in the specification). Each is
-- the 64 bits of the signed number. Where its bits are scattered, the pieces stand with the highest first.
-- Fields is declared in src/fields.rt. Assumes nothing.
use Rattle.std.specs.Prelude.{List, [], ◌∷◌, ℕ, ◌+◌, ◌*◌, ◌^◌}
use Rattle.words.specs.Word.{field, sext, lay}
use Rattle.instructions.specs.declared.fields.Fields.{Fields}

-- the 12 bits above rs1: imm[11:5] in funct7, imm[4:0] in rs2
abbrev pub i_bits : Fields → ℕ
i_bits f = f.funct7 * 2 ^ 5 + f.rs2

-- imm[11:5] in funct7, imm[4:0] in rd
abbrev pub s_bits : Fields → ℕ
s_bits f = f.funct7 * 2 ^ 5 + f.rd

-- imm[12|10:5] in funct7, imm[4:1|11] in rd
abbrev pub b_pieces : Fields → List (ℕ × ℕ)
b_pieces f =
    (1, field f.funct7 6 1) ∷ (1, field f.rd 0 1) ∷ (6, field f.funct7 0 6) ∷ (4, field f.rd 1 4) ∷ (1, 0) ∷ []

-- imm[31:12] in funct7, rs2, rs1 and funct3
abbrev pub u_pieces : Fields → List (ℕ × ℕ)
u_pieces f = (7, f.funct7) ∷ (5, f.rs2) ∷ (5, f.rs1) ∷ (3, f.funct3) ∷ (12, 0) ∷ []

-- imm[20|10:5] in funct7, imm[4:1|11] in rs2, imm[19:15] in rs1, imm[14:12] in funct3
abbrev pub j_pieces : Fields → List (ℕ × ℕ)
j_pieces f =
    (1, field f.funct7 6 1) ∷ (5, f.rs1) ∷ (3, f.funct3) ∷ (1, field f.rs2 0 1) ∷ (6, field f.funct7 0 6)
    ∷ (4, field f.rs2 1 4) ∷ (1, 0) ∷ []

abbrev pub i_immediate : Fields → ℕ
i_immediate f = sext 12 (i_bits f)

abbrev pub s_immediate : Fields → ℕ
s_immediate f = sext 12 (s_bits f)

abbrev pub b_immediate : Fields → ℕ
b_immediate f = sext 13 (lay (b_pieces f))

abbrev pub u_immediate : Fields → ℕ
u_immediate f = sext 32 (lay (u_pieces f))

abbrev pub j_immediate : Fields → ℕ
j_immediate f = sext 21 (lay (j_pieces f))
