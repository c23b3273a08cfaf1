-- What writing leaves in a buffer. No promise rests on this file: `Answered` (respond) says what the whole text leaves.
-- Writer is declared in src/writer.rt. Assumes nothing.
use Rattle.std.specs.Prelude.{◌≡◌, List, ℕ, ◌+◌, length}
use Rattle.std.proofs.lemmas.List.Edits.{sets}
use Rattle.text.specs.declared.writer.Writer.{Writer}

-- `old` became `new` by storing the bytes of `text` one after another (`sets`) from position `at` on, and `end` is the position after them.
-- Every other byte is as before: proofs/Writing.antt says it as front, text and rest (wrote_parts).
pub record Wrote (old : List ℕ) (at : ℕ) (text new : List ℕ) (end : ℕ) : Type 0 where
  pub stored : new ≡ sets old at text
  pub after : end ≡ at + length text

-- a writer wrote `text`: it is over the same buffer, of the same length, and stands after the text
pub record Put (old : Writer) (text : List ℕ) (new : Writer) : Type 0 where
  pub same_buffer : new.buffer.ghost_name ≡ old.buffer.ghost_name
  pub same_length : length new.buffer.now ≡ length old.buffer.now
  pub wrote : Wrote old.buffer.now old.at text new.buffer.now new.at
