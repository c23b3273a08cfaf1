-- Integer multiplication and division (specification, chapter "M"), over the width w of the operands. What an operation is
-- given are whole numbers: an operand read as signed, or as unsigned.
-- Assumes nothing.
use Rattle.std.specs.Prelude.{ℕ, ◌+◌, ◌-◌, ◌^◌, cond, ℤ, ◌==◌, int_div, int_rem, unsigned_abs}
use Rattle.words.specs.Word.{field, word}

-- of a product "the lower XLEN bits"
unfoldable pub low_half : ℕ → ℤ → ℕ
low_half w z = field (word (w + w) z) 0 w

-- and "the upper XLEN bits of the full 2×XLEN-bit product": "The high half of a product is exact for signed, unsigned and mixed
-- operands" (document 02, Job 2)
unfoldable pub high_half : ℕ → ℤ → ℕ
high_half w z = field (word (w + w) z) w w

-- "rounding towards zero"; "Division by zero gives all ones as quotient and the dividend as remainder. The most negative number
-- divided by -1 gives itself, with remainder 0." (document 02, Job 2): the second comes out so (proofs/Exact.antt, overflow)
unfoldable pub quotient : ℕ → ℤ → ℤ → ℕ
quotient w n d = cond (unsigned_abs d == 0) (2 ^ w - 1) (word w (int_div n d))

-- "the sign of the result equals the sign of the dividend"
unfoldable pub remainder : ℕ → ℤ → ℤ → ℕ
remainder w n d = word w (cond (unsigned_abs d == 0) n (int_rem n d))
