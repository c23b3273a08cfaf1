-- The instruction that a half-word stands for. "Each stands for one RV64I instruction"; "its floating-point loads and stores are illegal, as
-- are reserved words" (02, Job 8).
-- "Half-words and their instructions correspond through the long form: equal expansions need not be equal words, so the decode and encode rule keeps to long words,
-- and each legal half-word has exactly one expansion." (02, Job 8)
-- Instruction is declared in instructions/src/instruction.rt. Assumes nothing.
use Rattle.instructions.specs.declared.instruction.Instruction.{Instruction}
use Rattle.std.specs.Prelude.{Bool, cond, List, [], ◌∷◌, ℕ, eqb, Option, Some, None}
use Rattle.words.specs.Word.{field}
use Rattle.compressed.specs.Table.{Line, takes, table}

-- by the line that takes it; no two do (proofs/OneLine.antt)
abbrev pub expand_by : List Line → ℕ → Option Instruction
expand_by [] h = None
expand_by (l ∷ ls) h = cond (takes h l) (Some (l.expansion h)) (expand_by ls h)

unfoldable pub expand_half : ℕ → Option Instruction
expand_half h = expand_by table h

-- "takes two more only if the low two bits are both ones": these are the first two bytes of a long word
abbrev pub is_long : ℕ → Bool
is_long h = eqb (field h 0 2) 3
