-- A word of 32 bits as the six fields of the R-type format (RISC-V unprivileged specification, "Base Instruction Formats").
-- Fields is declared in src/fields.rt. Assumes nothing.
use Rattle.std.specs.Prelude.{ℕ, ◌+◌, ◌*◌, ◌^◌}
use Rattle.words.specs.Word.{field}
use Rattle.instructions.specs.declared.fields.Fields.{Fields}

abbrev pub fields_of : ℕ → Fields
fields_of w =
    record {
      opcode = field w 0 7;
      rd = field w 7 5;
      funct3 = field w 12 3;
      rs1 = field w 15 5;
      rs2 = field w 20 5;
      funct7 = field w 25 7;
    }

abbrev pub word_of : Fields → ℕ
word_of f = f.funct7 * 2 ^ 25 + f.rs2 * 2 ^ 20 + f.rs1 * 2 ^ 15 + f.funct3 * 2 ^ 12 + f.rd * 2 ^ 7 + f.opcode
