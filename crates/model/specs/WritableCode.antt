-- Document 02, Job 5: "With the lock bit set and HFI mode on, no byte may be both writable and executable, through region 1 or region 2
-- against region 3.", and "Job 5 now speak[s] of all ten" (Job 7). (The field calls the rule W^X.) What is asked, in the words of Reach.antt;
-- and a test that computes it, which holds exactly if such a byte exists (proofs/WritableCode.antt).
-- Region and HfiState are declared in src/lib.rt. Assumes nothing.
use Rattle.std.specs.Prelude.{Bool, false, cond, ◌&&◌, ◌||◌, List, [], ◌∷◌, ◌++◌, ℕ, suc, ◌+◌, ◌^◌, ◌<◌, leb, ltb}
use Rattle.model.specs.Machine.{locked, region}
use Rattle.instructions.specs.HWords.{explicit_regions}
use Rattle.model.specs.Regions.{RegionKind, explicit, implicit_data, implicit_code, data_regions, code_regions, region_kind, write, execute, permits, mask_zeros, implicit_rule, explicit_rule, implicit_grants}
use Rattle.model.specs.Reach.{Writable, Executable}
use Rattle.model.specs.declared.Region.{Region}
use Rattle.model.specs.declared.HfiState.{HfiState}

-- "The test is exact: it says no only when such a byte address exists below 2^48.", whether or not the memory has that byte
pub record WritableCode (rs : List Region) : Type 0 where
  pub at : ℕ
  pub low : at < 2 ^ 48
  pub writable : Writable rs at
  pub executable : Executable rs at

-- ---- the test of one byte

-- the byte at a lies in an explicit region that keeps its rule and has the permission
abbrev pub covers : ℕ → ℕ → Region → Bool
covers wanted a r = explicit_rule r && (permits wanted r && (leb r.base a && ltb a (r.base + r.bound)))

-- and in one of those numbered ns
unfoldable pub explicit_covers : List Region → List ℕ → ℕ → ℕ → Bool
explicit_covers rs [] wanted a = false
explicit_covers rs (n ∷ ns) wanted a = covers wanted a (region rs n) || explicit_covers rs ns wanted a

abbrev pub writable_at : List Region → ℕ → Bool
writable_at rs a = implicit_grants rs data_regions write a || explicit_covers rs explicit_regions write a

abbrev pub executable_at : List Region → ℕ → Bool
executable_at rs a = implicit_grants rs code_regions execute a

abbrev pub both_at : List Region → ℕ → Bool
both_at rs a = executable_at rs a && writable_at rs a

-- ---- which bytes are tested: a region's edges are its start and its end. Between one edge and the next, of whatever regions, no
-- byte is writable or executable unless the byte before it is, so that the least byte that is both is an edge

abbrev pub keeps_rule : RegionKind → Region → Bool
keeps_rule explicit r = explicit_rule r
keeps_rule implicit_data r = implicit_rule r
keeps_rule implicit_code r = implicit_rule r

-- the byte after the region's last
abbrev pub region_end : RegionKind → Region → ℕ
region_end explicit r = r.base + r.bound
region_end implicit_data r = r.base + 2 ^ mask_zeros r.bound
region_end implicit_code r = r.base + 2 ^ mask_zeros r.bound

-- a region that breaks its rule matches nothing, and has no edges
abbrev pub edges_of : RegionKind → Region → List ℕ
edges_of k r = cond (keeps_rule k r) (r.base ∷ region_end k r ∷ []) []

-- those of the regions from number n on
abbrev pub edges : ℕ → List Region → List ℕ
edges n [] = []
edges n (r ∷ rs) = edges_of (region_kind n) r ++ edges (suc n) rs

abbrev pub some : (ℕ → Bool) → List ℕ → Bool
some p [] = false
some p (a ∷ rest) = p a || some p rest

-- the document's no is true here
unfoldable pub writable_code : List Region → Bool
writable_code rs = some (both_at rs) (edges 1 rs)

-- ---- the state that is refused: with 4 where a call is given it, with 22 where an enter would begin it

-- "such a machine in locked HFI mode"
unfoldable pub exposes_code : HfiState → Bool
exposes_code h = locked h && writable_code h.regions
