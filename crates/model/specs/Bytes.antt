-- "Memory is a lent run of bytes; address a is byte a." Byte i of an access at a stands at a + i, modulo 2^64; an access is
-- "little-endian".
-- Assumes nothing.
use Rattle.std.specs.Prelude.{List, ℕ, zero, suc, ◌+◌, ◌*◌, ◌/◌, ◌%◌, ◌^◌, get_or, set}

abbrev pub byte_of : ℕ → ℕ → ℕ
byte_of a i = (a + i) % 2 ^ 64

-- the number that n bytes of the access at a make, from byte i on
unfoldable pub value : List ℕ → ℕ → ℕ → ℕ → ℕ
value mem a i zero = 0
value mem a i (suc n) = get_or mem (byte_of a i) 0 + 256 * value mem a (suc i) n

-- the memory with v in n bytes of the access at a, from byte i on
unfoldable pub written : List ℕ → ℕ → ℕ → ℕ → ℕ → List ℕ
written mem a i zero v = mem
written mem a i (suc n) v = written (set mem (byte_of a i) (v % 256)) a (suc i) n (v / 256)
