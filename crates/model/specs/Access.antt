-- One access: its bytes, what the regions say to each, and the questions that all of them are asked before any is touched.
-- Region is declared in src/lib.rt, Denied in src/stop.rt, LoadKind and StoreKind in instructions/src/kind.rt. Assumes nothing.
use Rattle.std.specs.Prelude.{Bool, true, cond, List, ℕ, zero, suc, eqb, ltb, ℤ, pos, ◌+ℤ◌, Result, Ok, Err, ⊤}
use Rattle.words.specs.Word.{signed, word}
use Rattle.instructions.specs.declared.kind.LoadKind.{LoadKind}
use Rattle.instructions.specs.declared.kind.LoadKind.TheVariants.{Lb, Lh, Lw, Ld, Lbu, Lhu, Lwu}
use Rattle.instructions.specs.declared.kind.StoreKind.{StoreKind}
use Rattle.instructions.specs.declared.kind.StoreKind.TheVariants.{Sb, Sh, Sw, Sd}
use Rattle.model.specs.Machine.{sum, reg, region}
use Rattle.model.specs.Regions.{read, write, execute, data_regions, code_regions, first_match, implicit_grants, explicit_grants}
use Rattle.model.specs.Bytes.{byte_of}
use Rattle.model.specs.declared.Region.{Region}
use Rattle.model.specs.declared.stop.Denied.{Denied}
use Rattle.model.specs.declared.stop.Denied.TheVariants.{Refused, Absent}

pub record Access : Type 0 where
  -- the address of byte 0, and the count of bytes
  pub first : ℕ
  pub count : ℕ
  -- byte i passes its region, in HFI mode; and the fault region where it does not
  pub grants : ℕ → Bool
  pub fault_region : ℕ → ℕ

-- ---- the accesses that there are

-- n bytes from a on, which the implicit regions numbered ns decide; `wanted` is a permission by its bit number
abbrev pub implicit_access : List Region → List ℕ → ℕ → ℕ → ℕ → Access
implicit_access rs ns wanted a n =
    record {
      first = a;
      count = n;
      grants = λ i. implicit_grants rs ns wanted (byte_of a i);
      fault_region = λ i. first_match rs ns (byte_of a i);
    }

-- "A fetch asks region 3", and since Job 7 the code regions; "A fetch takes two bytes" (02, Job 8), and two more for a long word: both are
-- such accesses
abbrev pub fetch_access : List Region → ℕ → Access
fetch_access rs a = implicit_access rs code_regions execute a 2

-- "an ordinary load or store region 2", and since Job 7 the implicit data regions
abbrev pub data_access : List Region → ℕ → ℕ → ℕ → Access
data_access rs wanted a n = implicit_access rs data_regions wanted a n

-- "an h-word asks only the region it chooses", n (02, Job 7); "The address is base + offset + i, modulo 2^64."; "an explicit fault
-- records the region chosen"
abbrev pub explicit_access : List Region → ℕ → ℕ → ℤ → ℕ → Access
explicit_access rs n wanted offset count =
    record {
      first = word 64 (pos (region rs n).base +ℤ offset);
      count = count;
      grants = explicit_grants (region rs n) wanted offset;
      fault_region = λ i. n;
    }

-- ---- the accesses of the instructions

abbrev pub load_width : LoadKind → ℕ
load_width Lb = 1
load_width Lh = 2
load_width Lw = 4
load_width Ld = 8
load_width Lbu = 1
load_width Lhu = 2
load_width Lwu = 4

abbrev pub store_width : StoreKind → ℕ
store_width Sb = 1
store_width Sh = 2
store_width Sw = 4
store_width Sd = 8

-- the effective address of an ordinary load or store: "Misaligned data is allowed."
abbrev pub effective_address : List ℕ → ℕ → ℕ → ℕ
effective_address x rs1 imm = sum (reg x rs1) imm

-- "the offset of an h-prefixed word is the unsigned value of rs1 plus the signed immediate, as a whole number that does not
-- wrap" (02, Job 1); v is the value of rs1
abbrev pub offset : ℕ → ℕ → ℤ
offset v imm = pos v +ℤ signed 64 imm

abbrev pub load_access : List Region → List ℕ → LoadKind → ℕ → ℕ → Access
load_access rs x k rs1 imm = data_access rs read (effective_address x rs1 imm) (load_width k)

abbrev pub store_access : List Region → List ℕ → StoreKind → ℕ → ℕ → Access
store_access rs x k rs1 imm = data_access rs write (effective_address x rs1 imm) (store_width k)

abbrev pub hload_access : List Region → List ℕ → LoadKind → ℕ → ℕ → ℕ → Access
hload_access rs x k chosen rs1 imm = explicit_access rs chosen read (offset (reg x rs1) imm) (load_width k)

abbrev pub hstore_access : List Region → List ℕ → StoreKind → ℕ → ℕ → ℕ → Access
hstore_access rs x k chosen rs1 imm = explicit_access rs chosen write (offset (reg x rs1) imm) (store_width k)

-- ---- the questions

-- the first of the k indices from i on at which the test fails, or the index after them
unfoldable pub scan : (ℕ → Bool) → ℕ → ℕ → ℕ
scan ok i zero = i
scan ok i (suc k) = cond (ok i) (scan ok (suc i) k) i

-- "Outside HFI mode regions are not consulted. In HFI mode each byte is judged singly." "The first refused byte, counted from
-- the access's start, is the one recorded."
unfoldable pub first_refused : ℕ → Access → ℕ
first_refused mode a = scan (λ i. cond (eqb mode 0) true (a.grants i)) 0 a.count

-- "12 and 17 also give the first absent address, counted from the access's start"; the memory has `length` bytes
unfoldable pub first_absent : ℕ → ℕ → ℕ → ℕ
first_absent length first count = scan (λ i. ltb (byte_of first i) length) 0 count

-- all bytes pass; one is refused, with its address and its fault region; or all are granted and one is absent, with its address
abbrev pub Verdict : Type 0
Verdict = Result ⊤ Denied

abbrev pub passed : Verdict
passed = Ok tt

-- "Is every data byte granted?", and then "Are they in memory?"; of a fetch "are all .. bytes executable?" first, of two bytes at a time (02, Job 8)
unfoldable pub verdict : ℕ → ℕ → Access → Verdict
verdict mode length a =
    let i = first_refused mode a in
    let j = first_absent length a.first a.count in
    cond (ltb i a.count) (Err (Refused (byte_of a.first i) (a.fault_region i)))
    (cond (ltb j a.count) (Err (Absent (byte_of a.first j))) passed)
