-- Document 01's number and values for each answer of decoding and encoding.
-- Instruction is declared in src/instruction.rt. Assumes nothing.
use Rattle.instructions.specs.declared.instruction.Instruction.{Instruction}
use Rattle.std.specs.Prelude.{ℕ, Option, Some, None}

-- "Decoding answers 13 for an illegal word and only then."
abbrev pub decode_number : Option Instruction → ℕ
decode_number (Some i) = 0
decode_number None = 13

-- "Encoding answers 5, with word 0, if a field of the instruction is outside its range and only then."
abbrev pub encode_number : Option ℕ → ℕ
encode_number (Some w) = 0
encode_number None = 5

abbrev pub word_answered : Option ℕ → ℕ
word_answered (Some w) = w
word_answered None = 0
