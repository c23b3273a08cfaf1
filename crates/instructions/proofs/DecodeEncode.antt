-- An instruction in range has fields that are in their places and are decoded to it.
-- Assumes nothing.
use mathlib.Core.Path.{◌≡◌, refl, ap, ap₂, ◌∙◌}
use mathlib.Core.Bool.{Bool, true, ◌&&◌}
use Prim.Native.Nat.{ℕ, ◌+◌, ◌*◌, ◌^◌, ◌<◌}
use native.Mathlib.Omega.{arith}
use lib.Dec.{eqb, lit<}
use borrow.Author.Tests.{ltb-true, eq-eqb}
use Rattle.std.proofs.Common.{Option, Some, None}
use Rattle.std.proofs.lemmas.Bool.{and_from}
use Rattle.words.specs.Word.{field}
use Rattle.words.proofs.Fields.{field_lt, field_put, field_join}
use Rattle.instructions.specs.InWord.{InWord}
use Rattle.instructions.specs.Opcodes.{LUI, AUIPC, JAL, JALR, BRANCH, LOAD, STORE, OP_IMM, OP_IMM_32, OP, OP_32, MISC_MEM, SYSTEM, H_LOAD, H_STORE, HFI}
use Rattle.instructions.specs.Kinds.{functs, upper_code, branch_code, load_code, store_code, immediate_code, shift_code, shift_word_code, register_code, register_word_code, system_code, hfi_code}
use Rattle.instructions.specs.Immediates.{i_bits, i_immediate}
use Rattle.instructions.specs.HWords.{low_register, chosen_region, rs1_field, other_field}
use Rattle.instructions.specs.Decode.{shift_at, shift_word_at, register_at, register_word_at, system_at, hfi_at, named_at, provided, otherwise, decode_shift, decode_fields}
use Rattle.instructions.specs.Encode.{r_fields, shift_fields, fence_fields, encode_fields, in_range}
use Rattle.instructions.specs.declared.kind.UpperKind.{UpperKind}
use Rattle.instructions.specs.declared.kind.BranchKind.{BranchKind}
use Rattle.instructions.specs.declared.kind.LoadKind.{LoadKind}
use Rattle.instructions.specs.declared.kind.StoreKind.{StoreKind}
use Rattle.instructions.specs.declared.kind.ImmediateKind.{ImmediateKind}
use Rattle.instructions.specs.declared.kind.ShiftKind.{ShiftKind}
use Rattle.instructions.specs.declared.kind.ShiftWordKind.{ShiftWordKind}
use Rattle.instructions.specs.declared.kind.RegisterKind.{RegisterKind}
use Rattle.instructions.specs.declared.kind.RegisterWordKind.{RegisterWordKind}
use Rattle.instructions.specs.declared.kind.SystemKind.{SystemKind}
use Rattle.instructions.specs.declared.kind.HfiKind.{HfiKind}
use Rattle.instructions.specs.declared.instruction.Instruction.{Instruction}
use Rattle.instructions.specs.declared.instruction.Instruction.TheVariants.{Upper, Jal, Jalr, Branch, Load, Store, Immediate, Shift, Addiw, ShiftWord, Register, RegisterWord, Fence, System, HLoad, HStore, Hfi}
use Rattle.instructions.proofs.Tests.{one_all, two_all, amount_range, fence_range, h_load_range, h_store_range}
use Rattle.instructions.proofs.Named.{named_row}
use Rattle.instructions.proofs.Tables.{made_of, found_with, upper_code_lem, branch_code_lem, load_code_lem, store_code_lem, immediate_code_lem, shift_code_lem, shift_word_code_lem, register_code_lem, register_word_code_lem, system_code_lem, hfi_code_lem, shift_apart, shift_word_apart}
use Rattle.instructions.proofs.HWords.{rs1_read, other_read, region_read}
use Rattle.instructions.proofs.Formats.{r_in_word, i_in_word, s_in_word, h_load_in_word, h_store_in_word, b_in_word, u_in_word, j_in_word, r_read, i_bits_whole, i_read, s_read, b_read, u_read, j_read}

-- ---- an instruction in range has its fields in their places

pub encode_in_word : (i : Instruction) → in_range i ≡ true → InWord (encode_fields i)
encode_in_word (Upper k rd x) h = u_in_word (upper_code k) rd x _ (upper_code_lem k).small h
encode_in_word (Jal rd x) h = j_in_word JAL rd x _ (lit< tt) h
encode_in_word (Jalr rd rs1 x) h = i_in_word JALR 0 rd rs1 x _ (lit< tt) (lit< tt) h
encode_in_word (Branch k rs1 rs2 x) h = b_in_word BRANCH (branch_code k) rs1 rs2 x _ (lit< tt) (branch_code_lem k).small h
encode_in_word (Load k rd rs1 x) h = i_in_word LOAD (load_code k) rd rs1 x _ (lit< tt) (load_code_lem k).small h
encode_in_word (Store k rs1 rs2 x) h = s_in_word STORE (store_code k) rs1 rs2 x _ (lit< tt) (store_code_lem k).small h
encode_in_word (Immediate k rd rs1 x) h = i_in_word OP_IMM (immediate_code k) rd rs1 x _ (lit< tt) (immediate_code_lem k).small h
encode_in_word (Shift k rd rs1 amount) h = i_in_word OP_IMM _ rd rs1 _ _ (lit< tt) (field_lt (shift_code k) 0 3) h
encode_in_word (Addiw rd rs1 x) h = i_in_word OP_IMM_32 0 rd rs1 x _ (lit< tt) (lit< tt) h
encode_in_word (ShiftWord k rd rs1 amount) h =
    let t = two_all rd rs1 _ h in
    r_in_word OP_IMM_32 (shift_word_code k) rd rs1 amount (lit< tt) t.0 t.1 (ltb-true amount 32 t.2)
encode_in_word (Register k rd rs1 rs2) h =
    let t = two_all rd rs1 _ h in
    r_in_word OP (register_code k) rd rs1 rs2 (lit< tt) t.0 t.1 (ltb-true rs2 32 t.2)
encode_in_word (RegisterWord k rd rs1 rs2) h =
    let t = two_all rd rs1 _ h in
    r_in_word OP_32 (register_word_code k) rd rs1 rs2 (lit< tt) t.0 t.1 (ltb-true rs2 32 t.2)
encode_in_word (Fence fm pred succ rs1 rd) h = i_in_word MISC_MEM 0 rd rs1 _ _ (lit< tt) (lit< tt) h
encode_in_word (System k) h = i_in_word SYSTEM 0 0 0 (system_code k) true (lit< tt) (lit< tt) refl
encode_in_word (HLoad k region rd rs1 x) h =
    h_load_in_word H_LOAD (load_code k) region rd rs1 x _ (lit< tt) (load_code_lem k).small h
encode_in_word (HStore k region rs1 rs2 x) h =
    h_store_in_word H_STORE (store_code k) region rs1 rs2 x _ (lit< tt) (store_code_lem k).small h
encode_in_word (Hfi k rd rs1 rs2) h =
    let t = two_all rd rs1 _ h in
    r_in_word HFI (functs (hfi_code k) 0) rd rs1 rs2 (lit< tt) t.0 t.1 (one_all rs2 _ t.2).0

-- ---- the fields of an instruction in range are decoded to it

-- the two parts of the 12 bits that a shift has
shift_parts : (k : ShiftKind) (rd rs1 amount : ℕ) → amount < 64
    → (field (i_bits (shift_fields k rd rs1 amount)) 6 6 ≡ field (shift_code k) 3 6)
    × (field (i_bits (shift_fields k rd rs1 amount)) 0 6 ≡ amount)
shift_parts k rd rs1 amount h =
    let n = field (shift_code k) 3 6 in
    let l : n * 2 ^ 6 + amount < 2 ^ 12 = omega arith in
    rw (i_bits_whole OP_IMM (field (shift_code k) 0 3) rd rs1 (n * 2 ^ 6 + amount) l) (field_put 6 6 (field_lt (shift_code k) 3 6) h)

-- and the three that FENCE has
fence_parts : (fm pred succ rs1 rd : ℕ) → fm < 16 → pred < 16 → succ < 16
    → (field (i_bits (fence_fields fm pred succ rs1 rd)) 8 4 ≡ fm)
    × (field (i_bits (fence_fields fm pred succ rs1 rd)) 4 4 ≡ pred)
    × (field (i_bits (fence_fields fm pred succ rs1 rd)) 0 4 ≡ succ)
fence_parts fm pred succ rs1 rd p q r =
    let l : (fm * 2 ^ 4 + pred) * 2 ^ 4 + succ < 2 ^ 12 = omega arith in
    rw (i_bits_whole MISC_MEM 0 rd rs1 ((fm * 2 ^ 4 + pred) * 2 ^ 4 + succ) l) (omega arith)

-- what is encoded is decoded to the same
pub decode_encode : (i : Instruction) → in_range i ≡ true → decode_fields (encode_fields i) ≡ Some i
decode_encode (Upper UpperKind.Lui rd x) h =
    ap (λ (y : ℕ). Some (Upper UpperKind.Lui rd y)) (u_read LUI rd x (one_all rd _ h).1)
decode_encode (Upper UpperKind.Auipc rd x) h =
    ap (λ (y : ℕ). Some (Upper UpperKind.Auipc rd y)) (u_read AUIPC rd x (one_all rd _ h).1)
decode_encode (Jal rd x) h = ap (λ (y : ℕ). Some (Jal rd y)) (j_read JAL rd x (one_all rd _ h).1)
decode_encode (Jalr rd rs1 x) h = ap (λ (y : ℕ). Some (Jalr rd rs1 y)) (i_read JALR 0 rd rs1 x (two_all rd rs1 _ h).2)
decode_encode (Branch k rs1 rs2 x) h =
    found_with (branch_code_lem k) (λ (j : BranchKind) (y : ℕ). Some (Branch j rs1 rs2 y)) None
    (b_read BRANCH (branch_code k) rs1 rs2 x (two_all rs1 rs2 _ h).2)
decode_encode (Load k rd rs1 x) h =
    found_with (load_code_lem k) (λ (j : LoadKind) (y : ℕ). Some (Load j rd rs1 y)) None
    (i_read LOAD (load_code k) rd rs1 x (two_all rd rs1 _ h).2)
decode_encode (Store k rs1 rs2 x) h =
    found_with (store_code_lem k) (λ (j : StoreKind) (y : ℕ). Some (Store j rs1 rs2 y)) None
    (s_read STORE (store_code k) rs1 rs2 x (two_all rs1 rs2 _ h).2)
decode_encode (Immediate k rd rs1 x) h =
    ap (λ (d : Option Instruction). otherwise d (decode_shift (encode_fields (Immediate k rd rs1 x))))
    (found_with (immediate_code_lem k) (λ (j : ImmediateKind) (y : ℕ). Some (Immediate j rd rs1 y)) None
    (i_read OP_IMM (immediate_code k) rd rs1 x (two_all rd rs1 _ h).2))
decode_encode (Shift k rd rs1 amount) h =
    let f = shift_fields k rd rs1 amount in
    let p = shift_parts k rd rs1 amount (amount_range k rd rs1 amount h) in
    shift_apart k rd rs1 (i_immediate f) (decode_shift f)
    ∙ ap (λ (n : ℕ). shift_at n rd rs1 (field (i_bits f) 0 6)) (field_join (shift_code k) 3 6 (shift_code_lem k).small p.0 refl)
    ∙ found_with (shift_code_lem k) (λ (j : ShiftKind) (y : ℕ). Some (Shift j rd rs1 y)) None p.1
decode_encode (Addiw rd rs1 x) h = ap (λ (y : ℕ). Some (Addiw rd rs1 y)) (i_read OP_IMM_32 0 rd rs1 x (two_all rd rs1 _ h).2)
decode_encode (ShiftWord k rd rs1 amount) h =
    rw (shift_word_apart k)
    (ap (λ (n : ℕ). shift_word_at n rd rs1 amount) (r_read OP_IMM_32 (shift_word_code k) rd rs1 amount (shift_word_code_lem k).small)
    ∙ made_of (shift_word_code_lem k) (λ (j : ShiftWordKind). Some (ShiftWord j rd rs1 amount)) None)
decode_encode (Register k rd rs1 rs2) h =
    ap (λ (n : ℕ). register_at n rd rs1 rs2) (r_read OP (register_code k) rd rs1 rs2 (register_code_lem k).small)
    ∙ made_of (register_code_lem k) (λ (j : RegisterKind). Some (Register j rd rs1 rs2)) None
decode_encode (RegisterWord k rd rs1 rs2) h =
    ap (λ (n : ℕ). register_word_at n rd rs1 rs2) (r_read OP_32 (register_word_code k) rd rs1 rs2 (register_word_code_lem k).small)
    ∙ made_of (register_word_code_lem k) (λ (j : RegisterWordKind). Some (RegisterWord j rd rs1 rs2)) None
decode_encode (Fence fm pred succ rs1 rd) h =
    let t = fence_range fm pred succ rs1 rd h in
    let p = fence_parts fm pred succ rs1 rd t.0 t.1 t.2 in
    let b = i_bits (fence_fields fm pred succ rs1 rd) in
    ap₂ (λ (x y : ℕ). Some (Fence x y (field b 0 4) rs1 rd)) p.0 p.1
    ∙ ap (λ (z : ℕ). Some (Fence fm pred z rs1 rd)) p.2
decode_encode (System k) h =
    ap system_at (i_bits_whole SYSTEM 0 0 0 (system_code k) (system_code_lem k).small)
    ∙ made_of (system_code_lem k) (λ (j : SystemKind). Some (System j)) None
decode_encode (HLoad k region rd rs1 x) h =
    let t = h_load_range k region rd rs1 x h in
    let a = rs1_field region rs1 in
    let d = other_field region rd in
    found_with (load_code_lem k) (λ (j : LoadKind) (y : ℕ). Some (HLoad j (chosen_region a d) (low_register d) (low_register a) y)) None
    (i_read H_LOAD (load_code k) d a x t.3)
    ∙ rw (region_read region rs1 rd t.0 t.2 t.1, rs1_read region rs1 rd t.2, other_read region rs1 rd t.1) refl
decode_encode (HStore k region rs1 rs2 x) h =
    let t = h_store_range k region rs1 rs2 x h in
    let a = rs1_field region rs1 in
    let b = other_field region rs2 in
    found_with (store_code_lem k) (λ (j : StoreKind) (y : ℕ). Some (HStore j (chosen_region a b) (low_register a) (low_register b) y)) None
    (s_read H_STORE (store_code k) a b x t.3)
    ∙ rw (region_read region rs1 rs2 t.0 t.1 t.2, rs1_read region rs1 rs2 t.1, other_read region rs1 rs2 t.2) refl
decode_encode (Hfi k rd rs1 rs2) h =
    let f = r_fields HFI (functs (hfi_code k) 0) rd rs1 rs2 in
    let n = (one_all rs2 _ (two_all rd rs1 _ h).2).1 in
    let p = field_put 3 7 {q = 0} (hfi_code_lem k).small (lit< tt) in
    ap (λ (n : ℕ). provided (eqb f.funct3 0 && named_at n rd rs1 rs2) (hfi_at n rd rs1 rs2)) p.0
    ∙ ap (λ (b : Bool). provided b (hfi_at (hfi_code k) rd rs1 rs2)) (and_from _ _ (eq-eqb _ 0 p.1) (named_row k rd rs1 rs2 ∙ n))
    ∙ made_of (hfi_code_lem k) (λ (j : HfiKind). Some (Hfi j rd rs1 rs2)) None
