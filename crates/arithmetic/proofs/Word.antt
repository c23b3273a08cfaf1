-- What the word forms ask of words.
-- Assumes nothing.
use Rattle.std.proofs.Common.{◌≡◌, ℕ, ◌^◌, ◌<◌, pos, sym, ◌∙◌, arith}
use Rattle.words.specs.Integer.{remainder}
use Rattle.words.proofs.Quotients.{remainder_unsigned}

-- an unsigned remainder of 64 bits is that of 32, where the dividend has no more
pub narrow : (a b : ℕ) → a < 2 ^ 32 → remainder 64 (pos a) (pos b) ≡ remainder 32 (pos a) (pos b)
narrow a b h = remainder_unsigned 64 a b (omega arith) ∙ sym (remainder_unsigned 32 a b h)
