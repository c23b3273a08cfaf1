-- Each field fits its place in the word. No promise rests on this file: it is what functions over fields ask of their
-- callers, and `decode` and `encode` meet it for every word and every instruction.
-- Fields is declared in src/fields.rt. Assumes nothing.
use Rattle.std.specs.Prelude.{◌^◌, ◌<◌}
use Rattle.instructions.specs.declared.fields.Fields.{Fields}

pub record InWord (f : Fields) : Type 0 where
  pub opcode : f.opcode < 2 ^ 7
  pub rd : f.rd < 2 ^ 5
  pub funct3 : f.funct3 < 2 ^ 3
  pub rs1 : f.rs1 < 2 ^ 5
  pub rs2 : f.rs2 < 2 ^ 5
  pub funct7 : f.funct7 < 2 ^ 7
