-- The widths of an access in bytes. No promise rests on this file: it is what `bytes` asks of its callers. Assumes nothing.
use Rattle.std.specs.Prelude.{◌≡◌, ℕ, true, [], ◌∷◌}
use Rattle.instructions.specs.HWords.{among}

abbrev pub IsWidth : ℕ → Type 0
IsWidth n = among n (1 ∷ 2 ∷ 4 ∷ 8 ∷ []) ≡ true
