-- The laying out of an instruction loses nothing, and a record stands for an instruction exactly if it is that one laid out.
-- Assumes nothing.
use mathlib.Core.Path.{◌≡◌, refl, sym, ap, ◌∙◌}
use mathlib.Core.Bool.{true}
use mathlib.Core.Logic.{◌↔◌}
use Prim.Native.Nat.{ℕ, ◌^◌, ◌<◌}
use lib.Dec.{eqb}
use borrow.Author.Tests.{eqb-true, eq-eqb}
use Rattle.std.proofs.Common.{Option, Some, None}
use Rattle.std.proofs.lemmas.Option.{cond_some}
use Rattle.std.proofs.lemmas.Bool.{and_parts}
use Rattle.instructions.specs.Decode.{decode_word}
use Rattle.instructions.specs.Encode.{encode_word}
use Rattle.instructions.specs.declared.kind.UpperKind.{UpperKind}
use Rattle.instructions.specs.declared.kind.BranchKind.{BranchKind}
use Rattle.instructions.specs.declared.kind.LoadKind.{LoadKind}
use Rattle.instructions.specs.declared.kind.StoreKind.{StoreKind}
use Rattle.instructions.specs.declared.kind.ImmediateKind.{ImmediateKind}
use Rattle.instructions.specs.declared.kind.ShiftKind.{ShiftKind}
use Rattle.instructions.specs.declared.kind.ShiftWordKind.{ShiftWordKind}
use Rattle.instructions.specs.declared.kind.RegisterKind.{RegisterKind}
use Rattle.instructions.specs.declared.kind.RegisterWordKind.{RegisterWordKind}
use Rattle.instructions.specs.declared.kind.SystemKind.{SystemKind}
use Rattle.instructions.specs.declared.kind.HfiKind.{HfiKind}
use Rattle.instructions.specs.declared.instruction.Instruction.{Instruction}
use Rattle.instructions.specs.declared.instruction.Instruction.TheVariants.{Upper, Jal, Jalr, Branch, Load, Store, Immediate, Shift, Addiw, ShiftWord, Register, RegisterWord, Fence, System, HLoad, HStore, Hfi}
use Rattle.instructions.proofs.Tables.{made_of, upper_code_lem, branch_code_lem, load_code_lem, store_code_lem, immediate_code_lem, shift_code_lem, shift_word_code_lem, register_code_lem, register_word_code_lem, system_code_lem, hfi_code_lem}
use Rattle.instructions.proofs.RoundTrip.{encode_of_decode}
use Rattle.koubospar_codec.specs.Flat.{flatten, unflatten, same, laid_out, stands_for, encode_decoded, encode_flat}
use Rattle.koubospar_codec.specs.declared.flat.Flat.{Flat}

-- ---- what is laid out is read back: each kind is found under its code

pub unflatten_flatten : (i : Instruction) → unflatten (flatten i) ≡ Some i
unflatten_flatten (Upper k rd imm) = made_of (upper_code_lem k) (λ (j : UpperKind). Some (Upper j rd imm)) None
unflatten_flatten (Jal rd offset) = refl
unflatten_flatten (Jalr rd rs1 imm) = refl
unflatten_flatten (Branch k rs1 rs2 offset) = made_of (branch_code_lem k) (λ (j : BranchKind). Some (Branch j rs1 rs2 offset)) None
unflatten_flatten (Load k rd rs1 imm) = made_of (load_code_lem k) (λ (j : LoadKind). Some (Load j rd rs1 imm)) None
unflatten_flatten (Store k rs1 rs2 imm) = made_of (store_code_lem k) (λ (j : StoreKind). Some (Store j rs1 rs2 imm)) None
unflatten_flatten (Immediate k rd rs1 imm) = made_of (immediate_code_lem k) (λ (j : ImmediateKind). Some (Immediate j rd rs1 imm)) None
unflatten_flatten (Shift k rd rs1 amount) = made_of (shift_code_lem k) (λ (j : ShiftKind). Some (Shift j rd rs1 amount)) None
unflatten_flatten (Addiw rd rs1 imm) = refl
unflatten_flatten (ShiftWord k rd rs1 amount) = made_of (shift_word_code_lem k) (λ (j : ShiftWordKind). Some (ShiftWord j rd rs1 amount)) None
unflatten_flatten (Register k rd rs1 rs2) = made_of (register_code_lem k) (λ (j : RegisterKind). Some (Register j rd rs1 rs2)) None
unflatten_flatten (RegisterWord k rd rs1 rs2) = made_of (register_word_code_lem k) (λ (j : RegisterWordKind). Some (RegisterWord j rd rs1 rs2)) None
unflatten_flatten (Fence fm pred succ rs1 rd) = refl
unflatten_flatten (System k) = made_of (system_code_lem k) (λ (j : SystemKind). Some (System j)) None
unflatten_flatten (HLoad k region rd rs1 imm) = made_of (load_code_lem k) (λ (j : LoadKind). Some (HLoad j region rd rs1 imm)) None
unflatten_flatten (HStore k region rs1 rs2 imm) = made_of (store_code_lem k) (λ (j : StoreKind). Some (HStore j region rs1 rs2 imm)) None
unflatten_flatten (Hfi k rd rs1 rs2) = made_of (hfi_code_lem k) (λ (j : HfiKind). Some (Hfi j rd rs1 rs2)) None

-- ---- a record that stands for an instruction is that instruction laid out, and the other way

same_refl : (f : Flat) → same f f ≡ true
same_refl f =
    let t : (n : ℕ) → eqb n n ≡ true = λ n. eq-eqb n n refl in
    rw (
      t f.group,
      t f.kind,
      t f.rd,
      t f.rs1,
      t f.rs2,
      t f.imm,
      t f.fm,
      t f.pred,
      t f.succ,
      t f.region,
    ) refl

same_equal : (a b : Flat) → same a b ≡ true → a ≡ b
same_equal a b h =
    let p = and_parts _ _ h in
    let shape = and_parts _ _ p.0 in
    let q = and_parts _ _ p.1 in
    let registers = and_parts _ _ q.0 in
    let sources = and_parts _ _ registers.1 in
    let r = and_parts _ _ q.1 in
    let s = and_parts _ _ r.1 in
    let fence = and_parts _ _ s.0 in
    let t = and_parts _ _ fence.1 in
    λ i. record {
      group = eqb-true a.group b.group shape.0 i;
      kind = eqb-true a.kind b.kind shape.1 i;
      rd = eqb-true a.rd b.rd registers.0 i;
      rs1 = eqb-true a.rs1 b.rs1 sources.0 i;
      rs2 = eqb-true a.rs2 b.rs2 sources.1 i;
      imm = eqb-true a.imm b.imm r.0 i;
      fm = eqb-true a.fm b.fm fence.0 i;
      pred = eqb-true a.pred b.pred t.0 i;
      succ = eqb-true a.succ b.succ t.1 i;
      region = eqb-true a.region b.region s.1 i;
    }

pub stands_flatten : (i : Instruction) → stands_for (flatten i) ≡ Some i
stands_flatten i = rw (unflatten_flatten i, same_refl (flatten i)) refl

-- what a record stands for is laid out as that record
pub flatten_stands : (f : Flat) (i : Instruction) → stands_for f ≡ Some i → flatten i ≡ f
flatten_stands f i e = read (unflatten f) e
  where
    read : (d : Option Instruction) → laid_out f d ≡ Some i → flatten i ≡ f
    read (Some j) e =
        let t = cond_some (same (flatten j) f) j i e in
        ap flatten (sym t.1) ∙ same_equal (flatten j) f t.0
    read None e = cc

pub stands_exactly : (f : Flat) (i : Instruction) → (stands_for f ≡ Some i) ↔ (flatten i ≡ f)
stands_exactly f i = (flatten_stands f i, λ e. ap stands_for (sym e) ∙ stands_flatten i)

-- ---- so the codec by records is the codec by instructions

pub encode_flatten : (i : Instruction) → encode_flat (flatten i) ≡ encode_word i
encode_flatten i = ap encode_decoded (stands_flatten i)

-- what a legal word is decoded to is encoded to that word again
pub encode_decode : (w : ℕ) (i : Instruction) → w < 2 ^ 32 → decode_word w ≡ Some i → encode_flat (flatten i) ≡ Some w
encode_decode w i h e = encode_flatten i ∙ encode_of_decode w i h e
