-- What fields are decoded to has these fields, and is in range.
-- Assumes nothing.
use mathlib.Core.Path.{◌≡◌, refl, sym, ap, ap₂, ◌∙◌}
use mathlib.Core.Bool.{Bool, true, false, ◌&&◌}
use mathlib.Core.List.{List}
use Prim.Native.Nat.{ℕ}
use lib.Dec.{eqb, ltb}
use borrow.Author.Tests.{lt-ltb, eqb-true}
use Rattle.std.proofs.Common.{Option, Some, None}
use Rattle.std.proofs.lemmas.Bool.{and_from, and_parts}
use Rattle.words.specs.Word.{field}
use Rattle.words.proofs.Fields.{field_lt, field_cut, field_put, field_join}
use Rattle.instructions.specs.InWord.{InWord}
use Rattle.instructions.specs.Table.{of_code}
use Rattle.instructions.specs.Opcodes.{JALR, BRANCH, LOAD, STORE, OP_IMM, OP_IMM_32, OP, OP_32, MISC_MEM, SYSTEM, H_LOAD, H_STORE, HFI}
use Rattle.instructions.specs.Kinds.{functs, branch_code, branch_kinds, load_code, load_kinds, store_code, store_kinds, immediate_code, immediate_kinds, shift_code, shift_kinds, shift_word_code, shift_word_kinds, register_code, register_kinds, register_word_code, register_word_kinds, system_code, system_kinds, hfi_row, hfi_code, hfi_kinds, named}
use Rattle.instructions.specs.Immediates.{i_bits, i_immediate, s_immediate, b_immediate}
use Rattle.instructions.specs.HWords.{low_register, chosen_region}
use Rattle.instructions.specs.Decode.{branch_at, load_at, store_at, register_at, register_word_at, system_at, hfi_at, named_at, provided, otherwise, decode_jalr, decode_shift, decode_immediate, decode_immediate_word, decode_fence, decode_system, decode_h_load, decode_h_store, decode_hfi, groups, decode_fields}
use Rattle.instructions.specs.Encode.{i_fields, encode_fields, in_range}
use Rattle.instructions.specs.declared.fields.Fields.{Fields}
use Rattle.instructions.specs.declared.kind.BranchKind.{BranchKind}
use Rattle.instructions.specs.declared.kind.LoadKind.{LoadKind}
use Rattle.instructions.specs.declared.kind.StoreKind.{StoreKind}
use Rattle.instructions.specs.declared.kind.ImmediateKind.{ImmediateKind}
use Rattle.instructions.specs.declared.kind.ShiftKind.{ShiftKind}
use Rattle.instructions.specs.declared.kind.ShiftWordKind.{ShiftWordKind}
use Rattle.instructions.specs.declared.kind.RegisterKind.{RegisterKind}
use Rattle.instructions.specs.declared.kind.RegisterWordKind.{RegisterWordKind}
use Rattle.instructions.specs.declared.kind.HfiKind.{HfiKind}
use Rattle.instructions.specs.declared.instruction.Instruction.{Instruction}
use Rattle.instructions.specs.declared.instruction.Instruction.TheVariants.{Jalr, Branch, Load, Store, Immediate, Shift, ShiftWord, Register, RegisterWord, Fence, System, HLoad, HStore, Hfi}
use Rattle.instructions.proofs.Tests.{two_of}
use Rattle.instructions.proofs.Named.{named_row}
use Rattle.instructions.proofs.Tables.{◌⊗◌, cond_ind, lookup_ind, code_ind}
use Rattle.instructions.proofs.Formats.{i_bits_lt, r_back, i_bits_back, i_back, s_back, h_load_back, h_store_back, b_back, u_back, j_back}

-- ---- what fields are decoded to has these fields, and is in range

abbrev pub Back : Fields → Option Instruction → Type 0
Back f (Some i) = (encode_fields i ≡ f) × (in_range i ≡ true)
Back f None = Unit {0}

-- a test that is asked first
back_provided : (f : Fields) (b : Bool) (d : Option Instruction) → (b ≡ true → Back f d) → Back f (provided b d)
back_provided f b d h = cond_ind (Back f) b h tt

-- a kind that is found under n
back_code : (f : Fields) {K : Type 0} (code : K → ℕ) (make : K → Instruction) (kinds : List K) (n : ℕ)
    → ((k : K) → n ≡ code k → Back f (Some (make k))) → Back f (of_code code (λ (k : K). Some (make k)) None kinds n)
back_code f {K} code make kinds n h = code_ind (Back f) code (λ (k : K). Some (make k)) None kinds n tt h

module _ (f : Fields) (r : InWord f) where
  back_jalr : f.opcode ≡ JALR → Back f (decode_jalr f)
  back_jalr o =
      back_provided f (eqb f.funct3 0) (Some (Jalr f.rd f.rs1 (i_immediate f))) (λ t. i_back f r o (eqb-true f.funct3 0 t))

  back_branch : f.opcode ≡ BRANCH → Back f (branch_at f.funct3 f.rs1 f.rs2 (b_immediate f))
  back_branch o =
      back_code f branch_code (λ (k : BranchKind). Branch k f.rs1 f.rs2 (b_immediate f)) branch_kinds f.funct3
      (λ k e. b_back f r o e)

  back_load : f.opcode ≡ LOAD → Back f (load_at false f.funct3 0 f.rd f.rs1 (i_immediate f))
  back_load o =
      back_code f load_code (λ (k : LoadKind). Load k f.rd f.rs1 (i_immediate f)) load_kinds f.funct3
      (λ k e. i_back f r o e)

  back_store : f.opcode ≡ STORE → Back f (store_at false f.funct3 0 f.rs1 f.rs2 (s_immediate f))
  back_store o =
      back_code f store_code (λ (k : StoreKind). Store k f.rs1 f.rs2 (s_immediate f)) store_kinds f.funct3
      (λ k e. s_back f r o e)

  back_shift : f.opcode ≡ OP_IMM → Back f (decode_shift f)
  back_shift o =
      let b = i_bits f in
      let p = field_put 3 6 (field_lt b 6 6) r.funct3 in
      back_code f shift_code (λ (k : ShiftKind). Shift k f.rd f.rs1 (field b 0 6)) shift_kinds (functs (field b 6 6) f.funct3)
      (λ k e. (
        i_bits_back f r o (sym p.1 ∙ ap (λ (n : ℕ). field n 0 3) e)
            (field_join b 6 6 (i_bits_lt f r) (ap (λ (n : ℕ). field n 3 6) (sym e) ∙ p.0) refl),
        two_of r.rd r.rs1 (lt-ltb _ 64 (field_lt b 0 6)),
      ))

  back_immediate : f.opcode ≡ OP_IMM → Back f (decode_immediate f)
  back_immediate o =
      code_ind (λ (d : Option Instruction). Back f (otherwise d (decode_shift f))) immediate_code
      (λ (k : ImmediateKind). Some (Immediate k f.rd f.rs1 (i_immediate f))) None immediate_kinds f.funct3
      (back_shift o) (λ k e. i_back f r o e)

  back_immediate_word : f.opcode ≡ OP_IMM_32 → Back f (decode_immediate_word f)
  back_immediate_word o =
      cond_ind (Back f) (eqb f.funct3 0) (λ t. i_back f r o (eqb-true f.funct3 0 t))
      (back_code f shift_word_code (λ (k : ShiftWordKind). ShiftWord k f.rd f.rs1 f.rs2) shift_word_kinds
      (functs f.funct7 f.funct3) (λ k e. r_back f r o e))

  back_register : f.opcode ≡ OP → Back f (register_at (functs f.funct7 f.funct3) f.rd f.rs1 f.rs2)
  back_register o =
      back_code f register_code (λ (k : RegisterKind). Register k f.rd f.rs1 f.rs2) register_kinds
      (functs f.funct7 f.funct3) (λ k e. r_back f r o e)

  back_register_word : f.opcode ≡ OP_32 → Back f (register_word_at (functs f.funct7 f.funct3) f.rd f.rs1 f.rs2)
  back_register_word o =
      back_code f register_word_code (λ (k : RegisterWordKind). RegisterWord k f.rd f.rs1 f.rs2) register_word_kinds
      (functs f.funct7 f.funct3) (λ k e. r_back f r o e)

  back_fence : f.opcode ≡ MISC_MEM → Back f (decode_fence f)
  back_fence o =
      let b = i_bits f in
      let nibble : (k : ℕ) → ltb (field b k 4) 16 ≡ true = λ k. lt-ltb _ 16 (field_lt b k 4) in
      back_provided f (eqb f.funct3 0) (Some (Fence (field b 8 4) (field b 4 4) (field b 0 4) f.rs1 f.rd))
      (λ t. (
        i_bits_back f r o (eqb-true f.funct3 0 t) (field_join b 4 8 (i_bits_lt f r) (field_cut b 4 4 4) refl),
        two_of r.rd r.rs1 (and_from _ _ (nibble 8) (and_from _ _ (nibble 4) (nibble 0))),
      ))

  back_system : f.opcode ≡ SYSTEM → Back f (decode_system f)
  back_system o =
      back_provided f (eqb f.rd 0 && (eqb f.funct3 0 && eqb f.rs1 0))
      (system_at (i_bits f))
      (λ t.
      let p = and_parts (eqb f.rd 0) _ t in
      let q = and_parts (eqb f.funct3 0) _ p.1 in
      back_code f system_code System system_kinds (i_bits f)
      (λ k e. (
        ap₂ (λ (d a : ℕ). i_fields SYSTEM 0 d a (system_code k)) (sym (eqb-true f.rd 0 p.0)) (sym (eqb-true f.rs1 0 q.1))
            ∙ i_bits_back f r o (eqb-true f.funct3 0 q.0) (sym e),
        refl,
      )))

  back_h_load : f.opcode ≡ H_LOAD → Back f (decode_h_load f)
  back_h_load o =
      back_code f load_code
      (λ (k : LoadKind). HLoad k (chosen_region f.rs1 f.rd) (low_register f.rd) (low_register f.rs1) (i_immediate f))
      load_kinds f.funct3 (λ k e. h_load_back f r o e)

  back_h_store : f.opcode ≡ H_STORE → Back f (decode_h_store f)
  back_h_store o =
      back_code f store_code
      (λ (k : StoreKind). HStore k (chosen_region f.rs1 f.rs2) (low_register f.rs1) (low_register f.rs2) (s_immediate f))
      store_kinds f.funct3 (λ k e. h_store_back f r o e)

  back_hfi : f.opcode ≡ HFI → Back f (decode_hfi f)
  back_hfi o =
      back_provided f (eqb f.funct3 0 && named_at f.funct7 f.rd f.rs1 f.rs2) (hfi_at f.funct7 f.rd f.rs1 f.rs2)
      (λ t.
      let p = and_parts (eqb f.funct3 0) _ t in
      back_code f hfi_code (λ (k : HfiKind). Hfi k f.rd f.rs1 f.rs2) hfi_kinds f.funct7
      (λ k e.
      let b = r_back f r o (ap₂ functs e (eqb-true f.funct3 0 p.0)) in
      let n : named (hfi_row k) f.rd f.rs1 f.rs2 ≡ true =
      sym (named_row k f.rd f.rs1 f.rs2) ∙ ap (λ (n : ℕ). named_at n f.rd f.rs1 f.rs2) (sym e) ∙ p.1 in
      (b.0, two_of r.rd r.rs1 (and_from _ _ (lt-ltb f.rs2 32 r.rs2) n))))

  -- every group
  pub back : Back f (decode_fields f)
  back =
      lookup_ind (Back f) None (groups f) f.opcode tt
      ((λ o. u_back f r o) ⊗ (λ o. u_back f r o) ⊗ (λ o. j_back f r o) ⊗ back_jalr ⊗ back_branch ⊗ back_load ⊗ back_store
      ⊗ back_immediate ⊗ back_immediate_word ⊗ back_register ⊗ back_register_word ⊗ back_fence ⊗ back_system ⊗ back_h_load
      ⊗ back_h_store ⊗ back_hfi ⊗ tt)
