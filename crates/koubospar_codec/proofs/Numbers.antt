-- The numbers that c/koubospar.h names: a word of each group, and each word of RV64M, with the record that C is handed. Laid.antt
-- holds whatever the numbers are; these rows say which they are. The words are binutils' (instructions/proofs/Cases.antt).
-- Assumes nothing.
use mathlib.Core.Path.{◌≡◌, refl}
use mathlib.Core.List.{List, [], ◌∷◌, map}
use Prim.Native.Nat.{ℕ, ◌-◌, ◌^◌}
use Rattle.words.specs.Word.{sext}
use Rattle.instructions.specs.Decode.{decode_word}
use Rattle.koubospar_codec.specs.Flat.{flat_decoded}
use Rattle.koubospar_codec.specs.declared.flat.FlatDecoded.{FlatDecoded}

-- group, kind, rd, rs1, rs2, imm
abbrev legal : ℕ → ℕ → ℕ → ℕ → ℕ → ℕ → FlatDecoded
legal g k d a b i =
    record {
      number = 0;
      instruction = record { group = g; kind = k; rd = d; rs1 = a; rs2 = b; imm = i; fm = 0; pred = 0; succ = 0; region = 0 };
    }

-- FENCE: fm, pred, succ, rs1, rd
abbrev fence : ℕ → ℕ → ℕ → ℕ → ℕ → FlatDecoded
fence f p s a d =
    record {
      number = 0;
      instruction = record { group = 13; kind = 0; rd = d; rs1 = a; rs2 = 0; imm = 0; fm = f; pred = p; succ = s; region = 0 };
    }

-- an h-word: group, kind, region, rd, rs1, rs2, imm
abbrev h_word : ℕ → ℕ → ℕ → ℕ → ℕ → ℕ → ℕ → FlatDecoded
h_word g k r d a b i =
    record {
      number = 0;
      instruction = record { group = g; kind = k; rd = d; rs1 = a; rs2 = b; imm = i; fm = 0; pred = 0; succ = 0; region = r };
    }

abbrev rows : List (ℕ × FlatDecoded)
rows =
    (0x12345537, legal 1 0x37 10 0 0 0x12345000)  -- lui x10, 0x12345
    ∷ (0x5a65ac6f, legal 2 0 24 0 0 0x5a5a6)  -- jal x24, .+0x5a5a6
    ∷ (0xd3338fe7, legal 3 0 31 7 0 (2 ^ 64 - 0x2cd))  -- jalr x31, -0x2cd(x7)
    ∷ (0xe5f71d63, legal 4 1 0 14 31 (2 ^ 64 - 0x9a6))  -- bne x14, x31, .-0x9a6
    ∷ (0xca551c83, legal 5 1 25 10 0 (2 ^ 64 - 0x35b))  -- lh x25, -0x35b(x10)
    ∷ (0x2e8e93a3, legal 6 1 0 29 8 0x2e7)  -- sh x8, 0x2e7(x29)
    ∷ (0xca56a993, legal 7 2 19 13 0 (2 ^ 64 - 0x35b))  -- slti x19, x13, -0x35b
    ∷ (0x43325313, legal 8 0x85 6 4 0 51)  -- srai x6, x4, 51
    ∷ (0xb2e8859b, legal 9 0 11 17 0 (2 ^ 64 - 0x4d2))  -- addiw x11, x17, -0x4d2
    ∷ (0x413b509b, legal 10 0x105 1 22 0 19)  -- sraiw x1, x22, 19
    ∷ (0x401e0a33, legal 11 0x100 20 28 1 0)  -- sub x20, x28, x1
    ∷ (0x41c807bb, legal 12 0x100 15 16 28 0)  -- subw x15, x16, x28
    ∷ (0xa6350a8f, fence 10 6 3 10 21)  -- .insn i 0x0f, 0, x21, x10, -0x59d
    ∷ (0x00100073, legal 14 1 0 0 0 0)  -- ebreak
    ∷ (0xca56998b, h_word 15 1 4 3 13 0 (2 ^ 64 - 0x35b))  -- .insn i 0x0b, 1, x19, x13, -0x35b
    ∷ (0x2e4313ab, h_word 16 1 1 0 6 4 0x2e7)  -- .insn s 0x2b, 1, x4, 0x2e7(x6)
    ∷ (0x026a805b, legal 17 1 0 21 6 0)  -- .insn r 0x5b, 0, 1, x0, x21, x6
    -- RV64M
    ∷ (0x02e806b3, legal 11 8 13 16 14 0)  -- mul x13, x16, x14
    ∷ (0x021e1a33, legal 11 9 20 28 1 0)  -- mulh x20, x28, x1
    ∷ (0x0334adb3, legal 11 10 27 9 19 0)  -- mulhsu x27, x9, x19
    ∷ (0x026ab1b3, legal 11 11 3 21 6 0)  -- mulhu x3, x21, x6
    ∷ (0x03814533, legal 11 12 10 2 24 0)  -- div x10, x2, x24
    ∷ (0x02b758b3, legal 11 13 17 14 11 0)  -- divu x17, x14, x11
    ∷ (0x03dd6c33, legal 11 14 24 26 29 0)  -- rem x24, x26, x29
    ∷ (0x0303ffb3, legal 11 15 31 7 16 0)  -- remu x31, x7, x16
    ∷ (0x023983bb, legal 12 8 7 19 3 0)  -- mulw x7, x19, x3
    ∷ (0x035fc73b, legal 12 12 14 31 21 0)  -- divw x14, x31, x21
    ∷ (0x02a1d43b, legal 12 13 8 3 10 0)  -- divuw x8, x3, x10
    ∷ (0x03c867bb, legal 12 14 15 16 28 0)  -- remw x15, x16, x28
    ∷ (0x02fdfb3b, legal 12 15 22 27 15 0)  -- remuw x22, x27, x15
    ∷ []

pub numbers : map (λ r. flat_decoded (decode_word r.0)) rows ≡ map (λ r. r.1) rows
unfolding decode_word sext
numbers = refl
