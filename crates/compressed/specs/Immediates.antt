-- The register numbers and immediates of the half-words, from their bits (RISC-V unprivileged specification, ""C" Extension for Compressed
-- Instructions", the formats and the listing).
-- Assumes nothing.
use Rattle.std.specs.Prelude.{List, [], ◌∷◌, ℕ, ◌+◌, ◌^◌}
use Rattle.words.specs.Word.{field, sext, width, lay}

-- ---- registers

-- rd, which is also rs1, in bits 11 to 7
abbrev pub rd : ℕ → ℕ
rd h = field h 7 5

-- rs2 in bits 6 to 2
abbrev pub rs2 : ℕ → ℕ
rs2 h = field h 2 5

-- three bits name one of x8 to x15
abbrev pub short : ℕ → ℕ → ℕ
short h k = 2 ^ 3 + field h k 3

-- rs1' in bits 9 to 7, which is also the rd' of what works on it
abbrev pub rs1_short : ℕ → ℕ
rs1_short h = short h 7

-- rs2', or the rd' of a load or of C.ADDI4SPN, in bits 4 to 2
abbrev pub rs2_short : ℕ → ℕ
rs2_short h = short h 2

-- ---- immediates: their bits are scattered over the half-word

-- the pieces, the highest first, each the place of its lowest bit in the half-word and its width; and how many zeros stand below them
pub record Scattered : Type 0 where
  pub places : List (ℕ × ℕ)
  pub low : ℕ

abbrev pub pieces_at : ℕ → List (ℕ × ℕ) → ℕ → List (ℕ × ℕ)
pieces_at h [] low = (low, 0) ∷ []
pieces_at h (p ∷ ps) low = (p.1, field h p.0 p.1) ∷ pieces_at h ps low

abbrev pub pieces : ℕ → Scattered → List (ℕ × ℕ)
pieces h s = pieces_at h s.places s.low

-- uimm, shamt
abbrev pub zero_extended : ℕ → Scattered → ℕ
zero_extended h s = lay (pieces h s)

-- imm
abbrev pub sign_extended : ℕ → Scattered → ℕ
sign_extended h s = sext (width (pieces h s)) (lay (pieces h s))

-- [5:4|9:6|2|3] in bits 12 to 5
abbrev pub addi4spn : Scattered
addi4spn = record { places = (7, 4) ∷ (11, 2) ∷ (5, 1) ∷ (6, 1) ∷ []; low = 2 }

-- [5:3] in bits 12 to 10, [2|6] in bits 6 and 5
abbrev pub word_offset : Scattered
word_offset = record { places = (5, 1) ∷ (10, 3) ∷ (6, 1) ∷ []; low = 2 }

-- [5:3] in bits 12 to 10, [7:6] in bits 6 and 5
abbrev pub double_offset : Scattered
double_offset = record { places = (5, 2) ∷ (10, 3) ∷ []; low = 3 }

-- [5] in bit 12, [4:0] in bits 6 to 2
abbrev pub six_bits : Scattered
six_bits = record { places = (12, 1) ∷ (2, 5) ∷ []; low = 0 }

-- [9] in bit 12, [4|6|8:7|5] in bits 6 to 2
abbrev pub addi16sp : Scattered
addi16sp = record { places = (12, 1) ∷ (3, 2) ∷ (5, 1) ∷ (2, 1) ∷ (6, 1) ∷ []; low = 4 }

-- [17] in bit 12, [16:12] in bits 6 to 2
abbrev pub upper : Scattered
upper = record { places = (12, 1) ∷ (2, 5) ∷ []; low = 12 }

-- [11|4|9:8|10|6|7|3:1|5] in bits 12 to 2
abbrev pub jump_offset : Scattered
jump_offset = record { places = (12, 1) ∷ (8, 1) ∷ (9, 2) ∷ (6, 1) ∷ (7, 1) ∷ (2, 1) ∷ (11, 1) ∷ (3, 3) ∷ []; low = 1 }

-- [8|4:3] in bits 12 to 10, [7:6|2:1|5] in bits 6 to 2
abbrev pub branch_offset : Scattered
branch_offset = record { places = (12, 1) ∷ (5, 2) ∷ (2, 1) ∷ (10, 2) ∷ (3, 2) ∷ []; low = 1 }

-- [5] in bit 12, [4:2|7:6] in bits 6 to 2
abbrev pub word_from_stack : Scattered
word_from_stack = record { places = (2, 2) ∷ (12, 1) ∷ (4, 3) ∷ []; low = 2 }

-- [5] in bit 12, [4:3|8:6] in bits 6 to 2
abbrev pub double_from_stack : Scattered
double_from_stack = record { places = (2, 3) ∷ (12, 1) ∷ (5, 2) ∷ []; low = 3 }

-- [5:2|7:6] in bits 12 to 7
abbrev pub word_to_stack : Scattered
word_to_stack = record { places = (7, 2) ∷ (9, 4) ∷ []; low = 2 }

-- [5:3|8:6] in bits 12 to 7
abbrev pub double_to_stack : Scattered
double_to_stack = record { places = (7, 3) ∷ (10, 3) ∷ []; low = 3 }
