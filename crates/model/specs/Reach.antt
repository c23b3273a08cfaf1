-- The bytes that may be read, written or executed. Document 01: "A byte is readable, writable or executable if it is one
-- of the bytes of some access of that kind, ordinary or h-prefixed, that a legal word can make under some register values
-- and pc (for executable: that a fetch at some pc passing question 4 can make), and that byte passes its region."
-- The regions are those of the machine that the run starts from. proofs/Reach.antt has each as a closed form.
-- Region is declared in src/lib.rt, the kinds and the instructions in instructions/src. Assumes nothing.
use Rattle.std.specs.Prelude.{◌≡◌, true, List, ℕ, ◌%◌, ◌<◌, Some}
use Rattle.instructions.specs.Decode.{decode_word}
use Rattle.instructions.specs.declared.kind.LoadKind.{LoadKind}
use Rattle.instructions.specs.declared.kind.StoreKind.{StoreKind}
use Rattle.instructions.specs.declared.instruction.Instruction.TheVariants.{Load, Store, HLoad, HStore}
use Rattle.model.specs.Bytes.{byte_of}
use Rattle.model.specs.Access.{Access, fetch_access, load_access, store_access, hload_access, hstore_access}
use Rattle.model.specs.declared.Region.{Region}

-- b is a byte of the access, and passes its region
pub record Passes (a : Access) (b : ℕ) : Type 0 where
  pub index : ℕ
  pub within : index < a.count
  pub there : b ≡ byte_of a.first index
  pub passes : a.grants index ≡ true

-- half-words make no other accesses: each stands for the instruction of a long word (compressed/proofs/InRange.antt)
pub data Readable (rs : List Region) (b : ℕ) : Type 0 where
  by_load : (w : ℕ) (x : List ℕ) (k : LoadKind) (rd rs1 imm : ℕ) → decode_word w ≡ Some (Load k rd rs1 imm)
      → Passes (load_access rs x k rs1 imm) b → Readable rs b
  by_h_load : (w : ℕ) (x : List ℕ) (k : LoadKind) (chosen rd rs1 imm : ℕ) → decode_word w ≡ Some (HLoad k chosen rd rs1 imm)
      → Passes (hload_access rs x k chosen rs1 imm) b → Readable rs b

pub data Writable (rs : List Region) (b : ℕ) : Type 0 where
  by_store : (w : ℕ) (x : List ℕ) (k : StoreKind) (rs1 rs2 imm : ℕ) → decode_word w ≡ Some (Store k rs1 rs2 imm)
      → Passes (store_access rs x k rs1 imm) b → Writable rs b
  by_h_store : (w : ℕ) (x : List ℕ) (k : StoreKind) (chosen rs1 rs2 imm : ℕ) → decode_word w ≡ Some (HStore k chosen rs1 rs2 imm)
      → Passes (hstore_access rs x k chosen rs1 imm) b → Writable rs b

-- question 4 asks that pc is a multiple of 2, and a fetch takes two bytes (02, Job 8); the second two of a long word are such a fetch too
pub data Executable (rs : List Region) (b : ℕ) : Type 0 where
  by_fetch : (pc : ℕ) → pc % 2 ≡ 0 → Passes (fetch_access rs pc) b → Executable rs b
