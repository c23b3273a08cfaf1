-- The doublewords of a memory. No promise rests on this file but that of what the test programs print: it serves the programs over stored data. Assumes nothing.
use Rattle.std.specs.Prelude.{List, [], ℕ, ◌/◌, length, get_or}
use Rattle.std.specs.Int.{from_le_bytes, w64}
use Rattle.std.specs.Simd.{first_chunks}

-- doubleword i, which stands at 8 * i
unfoldable pub doubleword : List ℕ → ℕ → ℕ
doubleword mem i = from_le_bytes w64 (get_or (first_chunks 8 (length mem / 8) mem) i [])
