-- An instruction as numbers alone: its laying out, its reading back, and the codec in these terms.
-- Flat, FlatDecoded and FlatEncoded are declared in src/flat.rt, Instruction in
-- instructions/src/instruction.rt. Assumes nothing.
use Rattle.std.specs.Prelude.{Bool, true, false, ◌&&◌, List, [], ◌∷◌, ℕ, eqb, Option, Some, None}
use Rattle.instructions.specs.Table.{lookup}
use Rattle.instructions.specs.Kinds.{upper_code, branch_code, load_code, store_code, immediate_code, shift_code, shift_word_code, register_code, register_word_code, system_code, hfi_code}
use Rattle.instructions.specs.Decode.{upper_at, branch_at, load_at, store_at, immediate_at, shift_at, shift_word_at, register_at, register_word_at, system_at, hfi_at, provided}
use Rattle.instructions.specs.Encode.{encode_word}
use Rattle.instructions.specs.Answers.{decode_number, encode_number, word_answered}
use Rattle.instructions.specs.declared.instruction.Instruction.{Instruction}
use Rattle.instructions.specs.declared.instruction.Instruction.TheVariants.{Upper, Jal, Jalr, Branch, Load, Store, Immediate, Shift, Addiw, ShiftWord, Register, RegisterWord, Fence, System, HLoad, HStore, Hfi}
use Rattle.koubospar_codec.specs.declared.flat.Flat.{Flat}
use Rattle.koubospar_codec.specs.declared.flat.FlatDecoded.{FlatDecoded}
use Rattle.koubospar_codec.specs.declared.flat.FlatEncoded.{FlatEncoded}

-- group, kind, rd, rs1, rs2, and the immediate, offset or amount
abbrev pub layout : ℕ → ℕ → ℕ → ℕ → ℕ → ℕ → Flat
layout group kind rd rs1 rs2 imm =
    record { group = group; kind = kind; rd = rd; rs1 = rs1; rs2 = rs2; imm = imm; fm = 0; pred = 0; succ = 0; region = 0 }

abbrev pub fence_layout : ℕ → ℕ → ℕ → ℕ → ℕ → Flat
fence_layout fm pred succ rs1 rd =
    record { group = 13; kind = 0; rd = rd; rs1 = rs1; rs2 = 0; imm = 0; fm = fm; pred = pred; succ = succ; region = 0 }

-- group, kind, region, rd, rs1, rs2, immediate
abbrev pub h_word_layout : ℕ → ℕ → ℕ → ℕ → ℕ → ℕ → ℕ → Flat
h_word_layout group kind region rd rs1 rs2 imm =
    record { group = group; kind = kind; rd = rd; rs1 = rs1; rs2 = rs2; imm = imm; fm = 0; pred = 0; succ = 0; region = region }

-- what goes with 13
abbrev pub nothing : Flat
nothing = layout 0 0 0 0 0 0

abbrev pub flatten : Instruction → Flat
flatten (Upper k rd imm) = layout 1 (upper_code k) rd 0 0 imm
flatten (Jal rd offset) = layout 2 0 rd 0 0 offset
flatten (Jalr rd rs1 imm) = layout 3 0 rd rs1 0 imm
flatten (Branch k rs1 rs2 offset) = layout 4 (branch_code k) 0 rs1 rs2 offset
flatten (Load k rd rs1 imm) = layout 5 (load_code k) rd rs1 0 imm
flatten (Store k rs1 rs2 imm) = layout 6 (store_code k) 0 rs1 rs2 imm
flatten (Immediate k rd rs1 imm) = layout 7 (immediate_code k) rd rs1 0 imm
flatten (Shift k rd rs1 amount) = layout 8 (shift_code k) rd rs1 0 amount
flatten (Addiw rd rs1 imm) = layout 9 0 rd rs1 0 imm
flatten (ShiftWord k rd rs1 amount) = layout 10 (shift_word_code k) rd rs1 0 amount
flatten (Register k rd rs1 rs2) = layout 11 (register_code k) rd rs1 rs2 0
flatten (RegisterWord k rd rs1 rs2) = layout 12 (register_word_code k) rd rs1 rs2 0
flatten (Fence fm pred succ rs1 rd) = fence_layout fm pred succ rs1 rd
flatten (System k) = layout 14 (system_code k) 0 0 0 0
flatten (HLoad k region rd rs1 imm) = h_word_layout 15 (load_code k) region rd rs1 0 imm
flatten (HStore k region rs1 rs2 imm) = h_word_layout 16 (store_code k) region 0 rs1 rs2 imm
flatten (Hfi k rd rs1 rs2) = layout 17 (hfi_code k) rd rs1 rs2 0

-- what is read under each group
abbrev pub groups : Flat → List (ℕ × Option Instruction)
groups f =
    (1, upper_at f.kind f.rd f.imm)
    ∷ (2, Some (Jal f.rd f.imm))
    ∷ (3, Some (Jalr f.rd f.rs1 f.imm))
    ∷ (4, branch_at f.kind f.rs1 f.rs2 f.imm)
    ∷ (5, load_at false f.kind 0 f.rd f.rs1 f.imm)
    ∷ (6, store_at false f.kind 0 f.rs1 f.rs2 f.imm)
    ∷ (7, immediate_at f.kind f.rd f.rs1 f.imm)
    ∷ (8, shift_at f.kind f.rd f.rs1 f.imm)
    ∷ (9, Some (Addiw f.rd f.rs1 f.imm))
    ∷ (10, shift_word_at f.kind f.rd f.rs1 f.imm)
    ∷ (11, register_at f.kind f.rd f.rs1 f.rs2)
    ∷ (12, register_word_at f.kind f.rd f.rs1 f.rs2)
    ∷ (13, Some (Fence f.fm f.pred f.succ f.rs1 f.rd))
    ∷ (14, system_at f.kind)
    ∷ (15, load_at true f.kind f.region f.rd f.rs1 f.imm)
    ∷ (16, store_at true f.kind f.region f.rs1 f.rs2 f.imm)
    ∷ (17, hfi_at f.kind f.rd f.rs1 f.rs2)
    ∷ []

-- the instruction that is read from the record, whatever the fields that its group lacks
abbrev pub unflatten : Flat → Option Instruction
unflatten f = lookup None (groups f) f.group

abbrev pub same : Flat → Flat → Bool
same a b =
    (eqb a.group b.group && eqb a.kind b.kind)
    && ((eqb a.rd b.rd && (eqb a.rs1 b.rs1 && eqb a.rs2 b.rs2))
    && (eqb a.imm b.imm
    && ((eqb a.fm b.fm && (eqb a.pred b.pred && eqb a.succ b.succ)) && eqb a.region b.region)))

-- the instruction, where the record is that instruction laid out
abbrev pub laid_out : Flat → Option Instruction → Option Instruction
laid_out f (Some i) = provided (same (flatten i) f) (Some i)
laid_out f None = None

-- the instruction that the record stands for (proofs/Laid.antt: it is that instruction laid out, and exactly then)
abbrev pub stands_for : Flat → Option Instruction
stands_for f = laid_out f (unflatten f)

-- ---- the codec

abbrev pub decoded_as : Option Instruction → Flat
decoded_as (Some i) = flatten i
decoded_as None = nothing

abbrev pub flat_decoded : Option Instruction → FlatDecoded
flat_decoded d = record { number = decode_number d; instruction = decoded_as d }

-- a record that stands for no instruction is refused like a field out of range
abbrev pub encode_decoded : Option Instruction → Option ℕ
encode_decoded (Some i) = encode_word i
encode_decoded None = None

abbrev pub encode_flat : Flat → Option ℕ
encode_flat f = encode_decoded (stands_for f)

abbrev pub flat_encoded : Option ℕ → FlatEncoded
flat_encoded e = record { number = encode_number e; word = word_answered e }
