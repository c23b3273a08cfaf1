-- Tests in a row, and what they tell.
-- Assumes nothing.
use mathlib.Core.Path.{◌≡◌, refl}
use mathlib.Core.Bool.{Bool, true, false, ◌&&◌}
use Prim.Native.Nat.{ℕ, ◌<◌}
use native.Mathlib.Omega.{arith}
use lib.Dec.{ltb}
use borrow.Author.Tests.{ltb-true, lt-ltb}
use Rattle.std.proofs.lemmas.Bool.{and_from, and_parts}
use Rattle.words.specs.Word.{fits_signed}
use Rattle.instructions.specs.HWords.{explicit_regions, among}
use Rattle.instructions.specs.Encode.{two, h_word, in_range}
use Rattle.instructions.specs.declared.kind.LoadKind.{LoadKind}
use Rattle.instructions.specs.declared.kind.StoreKind.{StoreKind}
use Rattle.instructions.specs.declared.kind.ShiftKind.{ShiftKind}
use Rattle.instructions.specs.declared.instruction.Instruction.TheVariants.{Shift, Fence, HLoad, HStore}

-- a register and the rest, and two
pub one_all : (a : ℕ) (t : Bool) → (ltb a 32 && t) ≡ true → (a < 32) × (t ≡ true)
one_all a t h = let p = and_parts (ltb a 32) t h in (ltb-true a 32 p.0, p.1)

pub two_all : (a b : ℕ) (t : Bool) → two a b t ≡ true → (a < 32) × (b < 32) × (t ≡ true)
two_all a b t h =
    let p = one_all a (ltb b 32 && t) h in
    let q = one_all b t p.1 in
    (p.0, q.0, q.1)

pub two_of : {a b : ℕ} {t : Bool} → a < 32 → b < 32 → t ≡ true → two a b t ≡ true
two_of {a} {b} p q e = and_from _ _ (lt-ltb a 32 p) (and_from _ _ (lt-ltb b 32 q) e)

-- an h-word's region, two registers of four bits, and the rest
pub h_word_all : (region a b : ℕ) (t : Bool) → h_word region a b t ≡ true
    → (among region explicit_regions ≡ true) × (a < 16) × (b < 16) × (t ≡ true)
h_word_all region a b t h =
    let p = and_parts (among region explicit_regions) _ h in
    let q = and_parts (ltb a 16) _ p.1 in
    let r = and_parts (ltb b 16) t q.1 in
    (p.0, ltb-true a 16 q.0, ltb-true b 16 r.0, r.1)

pub h_word_of : (region : ℕ) {a b : ℕ} {t : Bool} → among region explicit_regions ≡ true → a < 16 → b < 16 → t ≡ true → h_word region a b t ≡ true
h_word_of region {a} {b} r p q e = and_from _ _ r (and_from _ _ (lt-ltb a 16 p) (and_from _ _ (lt-ltb b 16 q) e))

-- .. whose registers are in the range of any word's
pub h_word_two : (region a b : ℕ) (t : Bool) → h_word region a b t ≡ true → two a b t ≡ true
h_word_two region a b t h = let p = h_word_all region a b t h in two_of {a = a} {b = b} (omega arith) (omega arith) p.3

pub h_load_range : (k : LoadKind) (region rd rs1 imm : ℕ) → in_range (HLoad k region rd rs1 imm) ≡ true
    → (among region explicit_regions ≡ true) × (rd < 16) × (rs1 < 16) × (fits_signed 12 imm ≡ true)
h_load_range k region rd rs1 imm h = h_word_all region rd rs1 (fits_signed 12 imm) h

pub h_store_range : (k : StoreKind) (region rs1 rs2 imm : ℕ) → in_range (HStore k region rs1 rs2 imm) ≡ true
    → (among region explicit_regions ≡ true) × (rs1 < 16) × (rs2 < 16) × (fits_signed 12 imm ≡ true)
h_store_range k region rs1 rs2 imm h = h_word_all region rs1 rs2 (fits_signed 12 imm) h

-- the amount of a shift, and the three fields of FENCE
pub amount_range : (k : ShiftKind) (rd rs1 amount : ℕ) → in_range (Shift k rd rs1 amount) ≡ true → amount < 64
amount_range k rd rs1 amount h = ltb-true amount 64 (two_all rd rs1 _ h).2

pub fence_range : (fm pred succ rs1 rd : ℕ) → in_range (Fence fm pred succ rs1 rd) ≡ true → (fm < 16) × (pred < 16) × (succ < 16)
fence_range fm pred succ rs1 rd h =
    let p = and_parts (ltb fm 16) _ (two_all rd rs1 _ h).2 in
    let q = and_parts (ltb pred 16) _ p.1 in
    (ltb-true fm 16 p.0, ltb-true pred 16 q.0, ltb-true succ 16 q.1)
