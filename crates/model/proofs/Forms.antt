-- Each definition of the bytes that may be read, written or executed, and its closed form (Reach.antt), hold of the same bytes.
-- Assumes nothing.
use mathlib.Core.Path.{refl}
use Rattle.std.specs.Prelude.{List}
use mathlib.Core.Logic.{inl, inr}
use Prim.Native.Nat.{ℕ, ◌-◌, ◌*◌, ◌/◌, ◌%◌}
use native.Mathlib.Omega.{arith}
use lib.Dec.{lit<}
use Rattle.words.specs.Word.{sext}
use Rattle.instructions.specs.declared.kind.LoadKind.TheVariants.{Lb}
use Rattle.instructions.specs.declared.kind.StoreKind.TheVariants.{Sb}
use Rattle.instructions.specs.declared.instruction.Instruction.TheVariants.{Load, Store, HLoad, HStore}
use Rattle.instructions.proofs.RoundTrip.{decoded_range}
use Rattle.instructions.proofs.Tests.{h_word_of, h_load_range, h_store_range}
use Rattle.model.specs.Machine.{reg, region}
use Rattle.model.specs.Regions.{read, write, execute, data_regions, code_regions}
use Rattle.model.specs.Access.{offset, load_width, store_width}
use Rattle.model.specs.Reach.{Readable, Writable, Executable}
use Rattle.model.specs.declared.Region.{Region}
use Rattle.model.proofs.Reach.{InData, InImplicit, through, through_there, granted_there, passes_there, explicit_there, passes_explicit, encodes}

pub readable_form : (rs : List Region) (b : ℕ) → Readable rs b → InData rs read b
readable_form rs b (Readable.by_load w x k rd rs1 imm e h) = inl (granted_there rs data_regions read _ _ b h)
readable_form rs b (Readable.by_h_load w x k chosen rd rs1 imm e h) =
    inr (record {
      chosen = chosen;
      listed = (h_load_range k chosen rd rs1 imm (decoded_range w _ e)).0;
      inside = explicit_there rs chosen read (offset (reg x rs1) imm) (load_width k) b h;
    })

pub form_readable : (rs : List Region) (b : ℕ) → InData rs read b → Readable rs b
unfolding sext
form_readable rs b (inl h) =
    Readable.by_load _ (through b) Lb 0 1 0 (encodes (Load Lb 0 1 0) refl)
    (passes_there rs data_regions read _ 1 0 b (lit< tt) (through_there b h.address) h)
form_readable rs b (inr h) =
    let n = h.chosen in
    Readable.by_h_load _ (through (b - (region rs n).base)) Lb n 0 1 0
    (encodes (HLoad Lb n 0 1 0) (h_word_of n {a = 0} {b = 1} h.listed (lit< tt) (lit< tt) refl)) (passes_explicit rs n read b h.inside)

pub writable_form : (rs : List Region) (b : ℕ) → Writable rs b → InData rs write b
writable_form rs b (Writable.by_store w x k rs1 rs2 imm e h) = inl (granted_there rs data_regions write _ _ b h)
writable_form rs b (Writable.by_h_store w x k chosen rs1 rs2 imm e h) =
    inr (record {
      chosen = chosen;
      listed = (h_store_range k chosen rs1 rs2 imm (decoded_range w _ e)).0;
      inside = explicit_there rs chosen write (offset (reg x rs1) imm) (store_width k) b h;
    })

pub form_writable : (rs : List Region) (b : ℕ) → InData rs write b → Writable rs b
unfolding sext
form_writable rs b (inl h) =
    Writable.by_store _ (through b) Sb 1 0 0 (encodes (Store Sb 1 0 0) refl)
    (passes_there rs data_regions write _ 1 0 b (lit< tt) (through_there b h.address) h)
form_writable rs b (inr h) =
    let n = h.chosen in
    Writable.by_h_store _ (through (b - (region rs n).base)) Sb n 1 0 0
    (encodes (HStore Sb n 1 0 0) (h_word_of n {a = 1} {b = 0} h.listed (lit< tt) (lit< tt) refl)) (passes_explicit rs n write b h.inside)

pub executable_form : (rs : List Region) (b : ℕ) → Executable rs b → InImplicit rs code_regions execute b
executable_form rs b (Executable.by_fetch pc q h) = granted_there rs code_regions execute pc 2 b h

pub form_executable : (rs : List Region) (b : ℕ) → InImplicit rs code_regions execute b → Executable rs b
form_executable rs b h =
    Executable.by_fetch (b / 2 * 2) (omega arith) (passes_there rs code_regions execute (b / 2 * 2) 2 (b % 2) b (omega arith) (omega (arith, h.address)) h)
