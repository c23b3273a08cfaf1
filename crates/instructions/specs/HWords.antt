-- The register fields of an h-word. "In an h-word the top bits of two register fields choose the explicit region: rs1's counts 2, that
-- of rd or rs2 counts 1, and 0 to 3 mean 1, 4, 5, 6. The remaining four bits name x0 to x15" (02, Job 7).
-- Assumes nothing.
use Rattle.std.specs.Prelude.{Bool, true, false, cond, List, [], ◌∷◌, ℕ, suc, ◌+◌, ◌*◌, ◌^◌, eqb, get_or}
use Rattle.words.specs.Word.{field}

-- "Explicit are 1, 4, 5, 6", by their choice from 0 on
abbrev pub explicit_regions : List ℕ
explicit_regions = 1 ∷ 4 ∷ 5 ∷ 6 ∷ []

abbrev pub among : ℕ → List ℕ → Bool
among n [] = false
among n (k ∷ ks) = cond (eqb n k) true (among n ks)

-- where n stands in the list, from 0 on, or the length
abbrev pub place_in : List ℕ → ℕ → ℕ
place_in [] n = 0
place_in (k ∷ ks) n = cond (eqb n k) 0 (suc (place_in ks n))

-- a register field is its top bit and the number of a register
abbrev pub top_bit : ℕ → ℕ
top_bit f = field f 4 1

abbrev pub low_register : ℕ → ℕ
low_register f = field f 0 4

abbrev pub register_field : ℕ → ℕ → ℕ
register_field top register = top * 2 ^ 4 + register

-- the region that two fields choose: that of rs1, and the other, which is rd's or rs2's
abbrev pub chosen_region : ℕ → ℕ → ℕ
chosen_region rs1 other = get_or explicit_regions (2 * top_bit rs1 + top_bit other) 0

-- and the two fields that choose it
abbrev pub rs1_field : ℕ → ℕ → ℕ
rs1_field region register = register_field (field (place_in explicit_regions region) 1 1) register

abbrev pub other_field : ℕ → ℕ → ℕ
other_field region register = register_field (field (place_in explicit_regions region) 0 1) register
