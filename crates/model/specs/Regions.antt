-- Document 01, "Regions": each kind's rule, which bytes a region matches, and which region decides.
-- Region is declared in src/lib.rt, Permission in src/permission.rt. Assumes nothing.
use Rattle.std.specs.Prelude.{Bool, cond, not, ◌&&◌, List, [], ◌∷◌, ℕ, ◌+◌, ◌-◌, ◌/◌, ◌%◌, ◌^◌, eqb, leb, ℤ, pos, ◌+ℤ◌}
use Rattle.std.specs.Int.Bits.{bit_and}
use Rattle.std.specs.Int.Count.{count_trailing_zeros}
use Rattle.std.specs.Int.Signed.{le_z, lt_z}
use Rattle.instructions.specs.HWords.{explicit_regions, among}
use Rattle.model.specs.Machine.{bit, region}
use Rattle.model.specs.declared.Region.{Region}
use Rattle.model.specs.declared.permission.Permission.{Permission}
use Rattle.model.specs.declared.permission.Permission.TheVariants.{Read, Write, Execute, Large}

-- ---- kinds by number: "Explicit are 1, 4, 5, 6; implicit data 2, 7, 8, 9; code 3, 10." (02, Job 7). An h-word chooses among the explicit
-- ones, so their list stands in instructions/specs/HWords.antt

pub data RegionKind : Type 0 where
  explicit : RegionKind
  implicit_data : RegionKind
  implicit_code : RegionKind

-- in the order in which they are asked: "the lowest-numbered matching region of the kind decides"
abbrev pub data_regions : List ℕ
data_regions = 2 ∷ 7 ∷ 8 ∷ 9 ∷ []

abbrev pub code_regions : List ℕ
code_regions = 3 ∷ 10 ∷ []

abbrev pub region_kind : ℕ → RegionKind
region_kind n = cond (among n explicit_regions) explicit (cond (among n data_regions) implicit_data implicit_code)

-- ---- permissions: the bit numbers, of which one is `wanted` by an access, and the bits that a kind has

abbrev pub read : ℕ
read = 0

abbrev pub write : ℕ
write = 1

abbrev pub execute : ℕ
execute = 2

abbrev pub large : ℕ
large = 3

abbrev pub permission_bit : Permission → ℕ
permission_bit Read = read
permission_bit Write = write
permission_bit Execute = execute
permission_bit Large = large

abbrev pub permits : ℕ → Region → Bool
permits wanted r = bit wanted r.permission

-- "explicit data (bits 0, 1, 3) .. implicit data (bits 0, 1) .. implicit code (bit 2)"
abbrev pub permission_bits : RegionKind → ℕ
permission_bits explicit = 0b1011
permission_bits implicit_data = 0b0011
permission_bits implicit_code = 0b0100

-- a permission with no bit that region n lacks
abbrev pub permission_fits : ℕ → ℕ → Bool
permission_fits n p = eqb (bit_and p (permission_bits (region_kind n))) p

-- ---- the rules; sums are whole numbers, which do not wrap

-- "the count k of the mask's trailing zero bits is 0 to 48, the bits above them are all ones, base is a multiple of 2^k,
-- and base + 2^k is at most 2^48"
abbrev pub implicit_rule_at : ℕ → ℕ → ℕ → Bool
implicit_rule_at k base mask =
    leb k 48 && (eqb mask (2 ^ 64 - 2 ^ k) && (eqb (base % 2 ^ k) 0 && leb (base + 2 ^ k) (2 ^ 48)))

abbrev pub mask_zeros : ℕ → ℕ
mask_zeros mask = count_trailing_zeros 64 mask

abbrev pub implicit_rule : Region → Bool
implicit_rule r = implicit_rule_at (mask_zeros r.bound) r.base r.bound

-- "bound is 1 to 2^32, first and last byte share the same multiple of 2^32, base + bound is at most 2^48"
abbrev pub small_rule : Region → Bool
small_rule r =
    leb 1 r.bound && (leb r.bound (2 ^ 32)
    && (eqb (r.base / 2 ^ 32) ((r.base + r.bound - 1) / 2 ^ 32) && leb (r.base + r.bound) (2 ^ 48)))

-- "base and bound are multiples of 65,536, bound is not 0, base + bound is at most 2^48"
abbrev pub large_rule : Region → Bool
large_rule r =
    eqb (r.base % 65536) 0 && (eqb (r.bound % 65536) 0
    && (not (eqb r.bound 0) && leb (r.base + r.bound) (2 ^ 48)))

unfoldable pub explicit_rule : Region → Bool
explicit_rule r = cond (permits large r) (large_rule r) (small_rule r)

-- ---- implicit regions

-- "A byte matches when its address, and-ed with the mask, equals base."; "A region that breaks its rule keeps its values and
-- matches nothing"
unfoldable pub matches : Region → ℕ → Bool
matches r a = implicit_rule r && eqb (bit_and a r.bound) r.base

-- "For ordinary accesses and fetches the lowest-numbered matching region of the kind decides, even if a later one would grant more"
-- (02, Job 7): the first region of the list that matches the byte at a, or 0. It is also the fault region of a refused byte: "the
-- region that matched without permission, or 0 if none matched"
unfoldable pub first_match : List Region → List ℕ → ℕ → ℕ
first_match rs [] a = 0
first_match rs (n ∷ ns) a = cond (matches (region rs n) a) n (first_match rs ns a)

-- whether the region that decides permits it
abbrev pub granting : List Region → ℕ → ℕ → Bool
granting rs wanted n = not (eqb n 0) && permits wanted (region rs n)

unfoldable pub implicit_grants : List Region → List ℕ → ℕ → ℕ → Bool
implicit_grants rs ns wanted a = granting rs wanted (first_match rs ns a)

-- ---- explicit regions

-- "at least 0 and below the bound"
abbrev pub below : ℤ → ℕ → Bool
below z bound = le_z (pos 0) z && lt_z z (pos bound)

-- "byte i passes when region 1 keeps its rule, has the read or write permission wanted, and offset + i is at least 0 and
-- below the bound"; since Job 7 "an h-word asks only the region it chooses"
unfoldable pub explicit_grants : Region → ℕ → ℤ → ℕ → Bool
explicit_grants r wanted offset i = explicit_rule r && (permits wanted r && below (offset +ℤ pos i) r.bound)
