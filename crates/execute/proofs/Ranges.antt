-- The register numbers of an instruction in range are below 32: those that its execution reads or writes. An h-word's immediate
-- is one of 12 bits.
-- Assumes nothing.
use Rattle.std.proofs.Common.{◌≡◌, ◌<◌, true, ltb, subst, ltb-true}
use Rattle.std.proofs.lemmas.Bool.{and_parts}
use Rattle.words.specs.Word.{fits_signed}
use Rattle.instructions.specs.Encode.{in_range}
use Rattle.instructions.specs.declared.instruction.Instruction.{Instruction}
use Rattle.instructions.specs.declared.instruction.Instruction.TheVariants.{Upper, Jal, Jalr, Branch, Load, Store, Immediate, Shift, Addiw, ShiftWord, Register, RegisterWord, Fence, System, HLoad, HStore, Hfi}
use Rattle.instructions.proofs.Tests.{two_all, h_word_two}

abbrev pub Below : Instruction → Type 0
Below (Upper k rd imm) = rd < 32
Below (Jal rd offset) = rd < 32
Below (Jalr rd rs1 imm) = (rd < 32) × (rs1 < 32)
Below (Branch k rs1 rs2 offset) = (rs1 < 32) × (rs2 < 32)
Below (Load k rd rs1 imm) = (rd < 32) × (rs1 < 32)
Below (Store k rs1 rs2 imm) = (rs1 < 32) × (rs2 < 32)
Below (Immediate k rd rs1 imm) = (rd < 32) × (rs1 < 32)
Below (Shift k rd rs1 amount) = (rd < 32) × (rs1 < 32)
Below (Addiw rd rs1 imm) = (rd < 32) × (rs1 < 32)
Below (ShiftWord k rd rs1 amount) = (rd < 32) × (rs1 < 32)
Below (Register k rd rs1 rs2) = (rd < 32) × (rs1 < 32) × (rs2 < 32)
Below (RegisterWord k rd rs1 rs2) = (rd < 32) × (rs1 < 32) × (rs2 < 32)
Below (Fence fm pred succ rs1 rd) = Unit {0}
Below (System k) = Unit {0}
Below (HLoad k region rd rs1 imm) = (rd < 32) × (rs1 < 32) × (fits_signed 12 imm ≡ true)
Below (HStore k region rs1 rs2 imm) = (rs1 < 32) × (rs2 < 32) × (fits_signed 12 imm ≡ true)
Below (Hfi k rd rs1 rs2) = (rd < 32) × (rs1 < 32) × (rs2 < 32)

registers : (i : Instruction) → in_range i ≡ true → Below i
registers (Upper k rd imm) h = ltb-true rd 32 (and_parts (ltb rd 32) _ h).0
registers (Jal rd offset) h = ltb-true rd 32 (and_parts (ltb rd 32) _ h).0
registers (Jalr rd rs1 imm) h = let t = two_all rd rs1 _ h in (t.0, t.1)
registers (Branch k rs1 rs2 offset) h = let t = two_all rs1 rs2 _ h in (t.0, t.1)
registers (Load k rd rs1 imm) h = let t = two_all rd rs1 _ h in (t.0, t.1)
registers (Store k rs1 rs2 imm) h = let t = two_all rs1 rs2 _ h in (t.0, t.1)
registers (Immediate k rd rs1 imm) h = let t = two_all rd rs1 _ h in (t.0, t.1)
registers (Shift k rd rs1 amount) h = let t = two_all rd rs1 _ h in (t.0, t.1)
registers (Addiw rd rs1 imm) h = let t = two_all rd rs1 _ h in (t.0, t.1)
registers (ShiftWord k rd rs1 amount) h = let t = two_all rd rs1 _ h in (t.0, t.1)
registers (Register k rd rs1 rs2) h = let t = two_all rd rs1 (ltb rs2 32) h in (t.0, t.1, ltb-true rs2 32 t.2)
registers (RegisterWord k rd rs1 rs2) h = let t = two_all rd rs1 (ltb rs2 32) h in (t.0, t.1, ltb-true rs2 32 t.2)
registers (Fence fm pred succ rs1 rd) h = tt
registers (System k) h = tt
registers (HLoad k region rd rs1 imm) h = two_all rd rs1 _ (h_word_two region rd rs1 _ h)
registers (HStore k region rs1 rs2 imm) h = two_all rs1 rs2 _ (h_word_two region rs1 rs2 _ h)
registers (Hfi k rd rs1 rs2) h =
    let t = two_all rd rs1 _ h in
    (t.0, t.1, ltb-true rs2 32 (and_parts (ltb rs2 32) _ t.2).0)

-- of an instruction that is known
pub below : {i j : Instruction} → i ≡ j → in_range i ≡ true → Below j
below {i} e h = subst Below e (registers i h)
