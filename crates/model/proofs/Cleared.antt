-- An access is passed exactly when every one of its bytes is granted and in memory.
-- Assumes nothing.
use Rattle.std.specs.Prelude.{Err}
use mathlib.Core.Path.{◌≡◌, refl}
use mathlib.Core.Bool.{Bool, true, false, cond}
use Prim.Native.Nat.{ℕ, zero, suc, ◌+◌, ◌-◌, ◌^◌, ◌<◌, ◌≤◌}
use native.Mathlib.Omega.{arith}
use lib.Dec.{eqb, ltb}
use borrow.Author.Tests.{ltb-true, ltb-false, lt-ltb, le-ltb}
use Rattle.model.specs.Bytes.{byte_of}
use Rattle.model.specs.Access.{Access, scan, first_refused, first_absent, verdict, passed}
use Rattle.model.specs.Reach.{Passes}
use Rattle.model.specs.declared.stop.Denied.TheVariants.{Refused, Absent}
use Rattle.model.proofs.Scan.{scan_passed, scan_all}

-- every byte is granted in this mode, and in a memory of this length
pub record Cleared (mode length : ℕ) (a : Access) : Type 0 where
  pub granted : (i : ℕ) → i < a.count → cond (eqb mode 0) true (a.grants i) ≡ true
  pub present : (i : ℕ) → i < a.count → byte_of a.first i < length

neither : (b c : Bool) (x r y : ℕ) → cond b (Err (Refused x r)) (cond c (Err (Absent y)) passed) ≡ passed → (b ≡ false) × (c ≡ false)
neither true c x r y h = let z : ◌≡◌ {A = ℕ} 0 1 = cc in absurd (omega arith)
neither false true x r y h = let z : ◌≡◌ {A = ℕ} 0 1 = cc in absurd (omega arith)
neither false false x r y h = (refl, refl)

pub cleared : (mode length : ℕ) (a : Access) → verdict mode length a ≡ passed → Cleared mode length a
unfolding verdict first_refused first_absent
cleared mode length a h =
    let n = a.count in
    let i = scan (λ k. cond (eqb mode 0) true (a.grants k)) 0 n in
    let j = scan (λ k. ltb (byte_of a.first k) length) 0 n in
    let b = neither (ltb i n) (ltb j n) (byte_of a.first i) (a.fault_region i) (byte_of a.first j) h in
    record {
      granted = λ k p. scan_passed (λ k. cond (eqb mode 0) true (a.grants k)) n 0 (omega (arith, ltb-false i n b.0)) k (omega arith) (omega arith);
      present = λ k p. ltb-true _ _ (scan_passed (λ k. ltb (byte_of a.first k) length) n 0 (omega (arith, ltb-false j n b.1)) k (omega arith) (omega arith));
    }

pub passes : (mode length : ℕ) (a : Access) → Cleared mode length a → verdict mode length a ≡ passed
unfolding verdict first_refused first_absent
passes mode length a h =
    let n = a.count in
    let e : scan (λ k. cond (eqb mode 0) true (a.grants k)) 0 n ≡ 0 + n = scan_all _ n 0 (λ j p q. h.granted j (omega arith)) in
    let f : scan (λ k. ltb (byte_of a.first k) length) 0 n ≡ 0 + n = scan_all _ n 0 (λ j p q. lt-ltb _ _ (h.present j (omega arith))) in
    rw (e, f) (rw (le-ltb (0 + n) n (omega arith)) refl)

-- in HFI mode each byte of a passed access passes its region
pub passing : (mode length : ℕ) (a : Access) → mode ≡ 1 → verdict mode length a ≡ passed → (j : ℕ) → j < a.count → Passes a (byte_of a.first j)
passing mode length a on h j p = record { index = j; within = p; there = refl; passes = rw on at ((cleared mode length a h).granted j p) }

-- no byte of an access that is all in memory wraps
straight : (length a n : ℕ) → a < 2 ^ 64 → length < 2 ^ 64 → ((i : ℕ) → i < n → byte_of a i < length) → (i : ℕ) → i < n → a + i < length
straight length a n pa pl h zero q = omega (arith, h 0 q)
straight length a n pa pl h (suc i) q = omega (arith, h (suc i) q, straight length a n pa pl h i (omega arith))

pub fits_memory : (length a n : ℕ) → 0 < n → a < 2 ^ 64 → length < 2 ^ 64 → ((i : ℕ) → i < n → byte_of a i < length) → a + n ≤ length
fits_memory length a n p pa pl h = omega (arith, straight length a n pa pl h (n - 1) (omega arith))
