-- The questions of a fetch as one verdict, and the word that it brings. No promise rests on this file: model's step is proved to be put together
-- of these.
-- Region is declared in model/src/lib.rt, Instruction in instructions/src/instruction.rt. Assumes nothing.
use Rattle.std.specs.Prelude.{ℕ, cond, List, length, Option, Ok, Err}
use Rattle.instructions.specs.declared.instruction.Instruction.{Instruction}
use Rattle.instructions.specs.Decode.{decode_word}
use Rattle.compressed.specs.Expand.{expand_half, is_long}
use Rattle.model.specs.Machine.{sum}
use Rattle.model.specs.Bytes.{value}
use Rattle.model.specs.Access.{fetch_access, verdict}
use Rattle.model.specs.declared.Region.{Region}
use Rattle.model.specs.Access.{Verdict, passed}

-- the second verdict is asked where the first is passed
abbrev pub and_then : Verdict → Verdict → Verdict
and_then (Err d) v = Err d
and_then (Ok tt) v = v

abbrev pub half_at : List ℕ → ℕ → ℕ
half_at mem pc = value mem pc 0 2

-- of the two bytes at pc and, where these are of a long word, of the next two
unfoldable pub fetch_verdict : ℕ → List Region → List ℕ → ℕ → Verdict
fetch_verdict mode rs mem pc =
    and_then (verdict mode (length mem) (fetch_access rs pc))
    (cond (is_long (half_at mem pc)) (verdict mode (length mem) (fetch_access rs (sum pc 2))) passed)

-- how long the word at pc is, and its instruction
abbrev pub size_at : List ℕ → ℕ → ℕ
size_at mem pc = cond (is_long (half_at mem pc)) 4 2

unfoldable pub word_at : List ℕ → ℕ → Option Instruction
word_at mem pc = cond (is_long (half_at mem pc)) (decode_word (value mem pc 0 4)) (expand_half (half_at mem pc))
