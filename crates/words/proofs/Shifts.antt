-- Shifts and masks of 64 bits as arithmetic.
-- Assumes nothing.
use Rattle.std.proofs.Common.{◌≡◌, ℕ, ◌+◌, ◌*◌, ◌%◌, ◌^◌, ◌<◌, ap, ◌∙◌, mod-eq_of_lt}
use lib.Bits.{bit_or, or_shifted_r}

-- `low | (high << k)`
pub or_above : (low high k : ℕ) → low < 2 ^ k → high * 2 ^ k < 2 ^ 64 → bit_or low (high * 2 ^ k % 2 ^ 64) ≡ high * 2 ^ k + low
or_above low high k h fits = ap (bit_or low) (mod-eq_of_lt fits) ∙ or_shifted_r high k low h
