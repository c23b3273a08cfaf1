-- Words of bits as natural numbers: their fields, their two's complement reading, and pieces laid side by side.
-- Assumes nothing.
use Rattle.std.specs.Prelude.{ℕ, suc, ◌+◌, ◌-◌, ◌*◌, ◌/◌, ◌%◌, ◌^◌, Bool, cond, List, [], ◌∷◌, ℤ, pos, negsuc, ◌==◌, nat_lt}

-- the n bits of x from bit k
abbrev pub field : ℕ → ℕ → ℕ → ℕ
field x k n = x / 2 ^ k % 2 ^ n

-- the signed number that k bits stand for in two's complement: the top bit counts -2^(k-1)
abbrev pub signed : ℕ → ℕ → ℤ
signed k x = cond (nat_lt x (2 ^ (k - 1))) (pos x) (negsuc (2 ^ k - suc x))

-- the k bits of a signed number, which is the number modulo 2^k
abbrev pub word : ℕ → ℤ → ℕ
word k (pos n) = n % 2 ^ k
word k (negsuc n) = 2 ^ k - suc (n % 2 ^ k)

-- sign extension: the 64 bits of the signed number that k bits stand for
unfoldable pub sext : ℕ → ℕ → ℕ
sext k x = word 64 (signed k x)

-- x is what a signed field of k bits can express: the sign extension of its own k low bits
abbrev pub fits_signed : ℕ → ℕ → Bool
fits_signed k x = sext k (field x 0 k) == x

-- pieces of a number, the highest first, each a width and a value
abbrev pub width : List (ℕ × ℕ) → ℕ
width [] = 0
width (p ∷ ps) = p.0 + width ps

-- the number that the pieces make side by side
abbrev pub lay : List (ℕ × ℕ) → ℕ
lay [] = 0
lay (p ∷ ps) = p.1 * 2 ^ width ps + lay ps
