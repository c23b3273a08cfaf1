-- What an answer leaves in a buffer. Assumes nothing.
use Rattle.std.specs.Prelude.{◌≡◌, List, ◌++◌, ℕ, length, drop}

-- the text stands first in the buffer, `r` is its length, and the rest is as it was
pub record Answered (old text new : List ℕ) (r : ℕ) : Type 0 where
  pub counted : r ≡ length text
  pub holds : new ≡ text ++ drop r old
