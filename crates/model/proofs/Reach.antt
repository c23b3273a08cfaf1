-- The bytes that may be read, written or executed, as closed forms: each definition and its form hold of the same bytes.
-- Assumes nothing.
use mathlib.Core.Path.{◌≡◌, refl, sym}
use mathlib.Core.Bool.{Bool, true, false, cond, not, ◌&&◌}
use mathlib.Core.List.{List, [], ◌∷◌}
use mathlib.Core.Logic.{◌⊎◌}
use Prim.Native.Nat.{ℕ, ◌+◌, ◌-◌, ◌^◌, ◌<◌, ◌≤◌}
use native.Mathlib.Omega.{arith}
use lib.Dec.{eqb, lit<, lit≤}
use lib.ListN.{set, replicate}
use lib.Seq.{get_or-set_same}
use lib.IntN.{ℤ, pos, ◌+ℤ◌}
use Rattle.std.proofs.Common.{Some}
use Rattle.std.proofs.lemmas.Bool.{and_parts}
use Rattle.instructions.specs.Decode.{decode_word}
use Rattle.instructions.specs.Encode.{in_range, encode_fields, encode_word}
use Rattle.instructions.specs.Fields.{word_of}
use Rattle.instructions.specs.declared.kind.LoadKind.{LoadKind}
use Rattle.instructions.specs.declared.kind.LoadKind.TheVariants.{Lb, Lh, Lw, Ld, Lbu, Lhu, Lwu}
use Rattle.instructions.specs.declared.kind.StoreKind.{StoreKind}
use Rattle.instructions.specs.declared.kind.StoreKind.TheVariants.{Sb, Sh, Sw, Sd}
use Rattle.instructions.specs.declared.instruction.Instruction.{Instruction}
use Rattle.instructions.specs.HWords.{explicit_regions, among}
use Rattle.instructions.proofs.RoundTrip.{decode_of_encode}
use Rattle.instructions.proofs.HWords.{Each}
use Rattle.model.specs.Machine.{reg, region}
use Rattle.model.specs.Regions.{permits, below, data_regions, matches, first_match, granting, implicit_grants, explicit_rule, explicit_grants}
use Rattle.model.specs.Bytes.{byte_of}
use Rattle.model.specs.Access.{effective_address, offset, load_width, store_width, implicit_access, explicit_access}
use Rattle.model.specs.Reach.{Passes}
use Rattle.model.specs.declared.Region.{Region}
use Rattle.model.proofs.Intervals.{explicit_ends, granted_inside, inside_granted}

-- ---- the closed forms

-- an explicit region's bytes, where h-words that want p are granted them
pub record InExplicit (r : Region) (p b : ℕ) : Type 0 where
  pub rule : explicit_rule r ≡ true
  pub permitted : permits p r ≡ true
  pub start : r.base ≤ b
  pub end : b < r.base + r.bound

-- the bytes that the implicit regions numbered ns grant for p
pub record InImplicit (rs : List Region) (ns : List ℕ) (p b : ℕ) : Type 0 where
  pub granted : implicit_grants rs ns p b ≡ true
  pub address : b < 2 ^ 64

-- those of the explicit regions numbered ns, any of which an h-word may choose
pub record InChosen (rs : List Region) (ns : List ℕ) (p b : ℕ) : Type 0 where
  pub chosen : ℕ
  pub listed : among chosen ns ≡ true
  pub inside : InExplicit (region rs chosen) p b

abbrev pub InData : List Region → ℕ → ℕ → Type 0
InData rs p b = InImplicit rs data_regions p b ⊎ InChosen rs explicit_regions p b

-- ---- registers by which an access reaches any byte

-- 32 registers with v in x1
pub through : ℕ → List ℕ
through v = set (replicate 32 0) 1 v

through_reg : (v : ℕ) → reg (through v) 1 ≡ v
unfolding through
through_reg v = get_or-set_same (replicate 32 0) 1 v 0 (lit< tt)

-- ---- implicit regions

pub through_there : (b : ℕ) → b < 2 ^ 64 → b ≡ byte_of (effective_address (through b) 1 0) 0
through_there b h = omega (arith, through_reg b)

module _ (rs : List Region) (ns : List ℕ) (p : ℕ) where
  pub granted_there : (a n b : ℕ) → Passes (implicit_access rs ns p a n) b → InImplicit rs ns p b
  granted_there a n b h =
      record {
        granted = rw h.there h.passes;
        address = rw h.there (omega arith);
      }

  pub passes_there : (a n i b : ℕ) → i < n → b ≡ byte_of a i → InImplicit rs ns p b → Passes (implicit_access rs ns p a n) b
  passes_there a n i b l e h = record { index = i; within = l; there = e; passes = rw (sym e) h.granted }

-- ---- explicit regions

pub explicit_there : (rs : List Region) (n p : ℕ) (z : ℤ) (k b : ℕ) → Passes (explicit_access rs n p z k) b → InExplicit (region rs n) p b
unfolding explicit_grants
explicit_there rs n p z k b h =
    let r = region rs n in
    let g = and_parts (explicit_rule r) (permits p r && below (z +ℤ pos h.index) r.bound) h.passes in
    let q = granted_inside r p z h.index h.passes in
    record {
      rule = g.0;
      permitted = (and_parts (permits p r) (below (z +ℤ pos h.index) r.bound) g.1).0;
      start = rw h.there q.0;
      end = rw h.there q.1;
    }

-- a byte's distance from base is the value of a register, and the immediate is 0
pub passes_explicit : (rs : List Region) (n p b : ℕ) → InExplicit (region rs n) p b
    → Passes (explicit_access rs n p (offset (reg (through (b - (region rs n).base)) 1) 0) 1) b
passes_explicit rs n p b h =
    let r = region rs n in
    let e = through_reg (b - r.base) in
    record {
      index = 0;
      within = lit< tt;
      there = rw e (omega (arith, (explicit_ends r h.rule).1, h.start, h.end));
      passes = rw e (inside_granted r p (b - r.base + 0) h.rule h.permitted (omega (arith, h.start, h.end)));
    }

-- ---- the words that make accesses, and of how many bytes

pub load_width_lem : (k : LoadKind) → load_width k ≤ 8
load_width_lem Lb = lit≤ tt
load_width_lem Lh = lit≤ tt
load_width_lem Lw = lit≤ tt
load_width_lem Ld = lit≤ tt
load_width_lem Lbu = lit≤ tt
load_width_lem Lhu = lit≤ tt
load_width_lem Lwu = lit≤ tt

pub store_width_lem : (k : StoreKind) → store_width k ≤ 8
store_width_lem Sb = lit≤ tt
store_width_lem Sh = lit≤ tt
store_width_lem Sw = lit≤ tt
store_width_lem Sd = lit≤ tt

pub encodes : (i : Instruction) → in_range i ≡ true → decode_word (word_of (encode_fields i)) ≡ Some i
unfolding encode_word
encodes i h = decode_of_encode i (word_of (encode_fields i)) (rw h refl)

-- ---- what implicit regions grant, one of them grants

-- what follows of each region that matches and permits follows of the grant
pub granted_by : (rs : List Region) (ns : List ℕ) (p b : ℕ) (X : Type 0)
    → Each (λ n. matches (region rs n) b ≡ true → permits p (region rs n) ≡ true → X) ns → implicit_grants rs ns p b ≡ true → X
unfolding implicit_grants first_match
granted_by rs [] p b X h g = let z : ◌≡◌ {A = ℕ} 0 1 = cc in absurd (omega arith)
granted_by rs (n ∷ ns) p b X h g = go (matches (region rs n) b) refl g (granted_by rs ns p b X h.1)
  where
    go : (t : Bool) → matches (region rs n) b ≡ t → granting rs p (cond t n (first_match rs ns b)) ≡ true
        → (granting rs p (first_match rs ns b) ≡ true → X) → X
    go true e g k = h.0 e (and_parts (not (eqb n 0)) (permits p (region rs n)) g).1
    go false e g k = k g
