-- What the loops over the bytes of an access find is what the definitions ask.
-- Assumes nothing.
use Rattle.std.proofs.Common.{◌≡◌, ℕ, ◌+◌, ◌%◌, ◌^◌, ◌<◌, ◌≤◌, Bool, true, Err, cond, ◌&&◌, ◌||◌, eqb, ltb, pos, ◌+ℤ◌, sym, refl, ◌-◌, ◌∙◌, zero-add, arith, le-ltb, lt-ltb}
use Rattle.std.proofs.Math.Bool.{or-true}
use Rattle.words.specs.Word.{fits_signed}
use Rattle.model.specs.Regions.{permits, below, explicit_rule, explicit_grants}
use Rattle.model.specs.Bytes.{byte_of}
use Rattle.model.specs.Access.{Access, offset, first_refused, verdict}
use Rattle.model.specs.declared.Region.{Region}
use Rattle.model.specs.Access.{Verdict}
use Rattle.model.specs.declared.stop.Denied.TheVariants.{Refused}
use Rattle.model.proofs.Offset.{below_offset}
use Rattle.model.proofs.Intervals.{explicit_ends}
use Rattle.model.proofs.Scan.{scan_all}
use Rattle.memory.specs.Loops.{explicit_refused, presence_of}
use Rattle.memory.proofs.Truth.{explicit_once}

-- the test of the loop over an explicit region
pub explicit_asked : (far mode : ℕ) (r : Region) (wanted v imm i : ℕ) {rule permitted : Bool} {sum at : ℕ}
    → 2 ^ 48 + 2 ^ 11 ≤ far → far ≤ 2 ^ 62 → fits_signed 12 imm ≡ true → i < 8
    → rule ≡ explicit_rule r → permitted ≡ permits wanted r → sum ≡ (v + imm) % 2 ^ 64 → at ≡ byte_of sum i
    → (eqb mode 0 || (((rule && permitted) && ltb v far) && ltb at r.bound))
    ≡ cond (eqb mode 0) true (explicit_grants r wanted (offset v imm) i)
unfolding explicit_grants
explicit_asked far mode r wanted v imm i low high f l p q s e =
    rw (p, q, e, s)
    (explicit_once (eqb mode 0) (explicit_rule r) (permits wanted r) (ltb v far) (ltb (byte_of ((v + imm) % 2 ^ 64) i) r.bound) (below (offset v imm +ℤ pos i) r.bound)
    (λ t. sym (below_offset far v imm i r.bound low high f (omega arith) (omega (arith, (explicit_ends r t).1)))))

-- where the region has all bytes the loop would pass each
pub explicit_whole : (far mode : ℕ) (r : Region) (wanted v imm n : ℕ) {rule permitted : Bool}
    → 2 ^ 48 + 2 ^ 11 ≤ far → far ≤ 2 ^ 62 → fits_signed 12 imm ≡ true → n ≤ 8
    → rule ≡ explicit_rule r → permitted ≡ permits wanted r → r.bound < 2 ^ 64
    → ((rule && permitted) && ltb v far) ≡ true → (v + imm) % 2 ^ 64 < r.bound → n ≤ r.bound - (v + imm) % 2 ^ 64
    → n ≡ explicit_refused mode r wanted (offset v imm) n
explicit_whole far mode r wanted v imm n {rule} {permitted} low high f l p q fits ok first last =
    sym (scan_all _ n 0 (λ j a b. sym (explicit_asked far mode r wanted v imm j low high f (omega arith) p q refl refl) ∙ here j (omega arith)) ∙ zero-add n)
  where
    here : (j : ℕ) → j < n → (eqb mode 0 || (((rule && permitted) && ltb v far) && ltb (byte_of ((v + imm) % 2 ^ 64) j) r.bound)) ≡ true
    here j h = rw (ok, lt-ltb (byte_of ((v + imm) % 2 ^ 64) j) r.bound (omega (arith, first, last))) (or-true (eqb mode 0))

-- ---- the verdict, from what the loops find

pub refused_verdict : (mode length : ℕ) (a : Access) {i at recorded : ℕ} → i ≡ first_refused mode a → i < a.count
    → at ≡ byte_of a.first i → recorded ≡ a.fault_region i → Err (Refused at recorded) ≡ verdict mode length a
unfolding verdict
refused_verdict mode length a {i} e p q b = rw (← e) (rw (lt-ltb i a.count p, q, b) refl)

pub granted_verdict : (mode length : ℕ) (a : Access) {i : ℕ} {v : Verdict} → i ≡ first_refused mode a → a.count ≤ i
    → v ≡ presence_of length a.first a.count → v ≡ verdict mode length a
unfolding verdict
granted_verdict mode length a {i} e p q = rw (← e) (rw (le-ltb i a.count p) q)
