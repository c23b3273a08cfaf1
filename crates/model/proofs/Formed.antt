-- "Well formed" as facts, and what the words of opcode 5b make of a state that fits.
-- Assumes nothing.
use mathlib.Core.Path.{◌≡◌, refl, ap, sym, ◌∙◌}
use mathlib.Core.Bool.{Bool, true, false, cond}
use mathlib.Core.List.{List, [], ◌∷◌}
use Prim.Native.Nat.{ℕ, zero, suc, ◌+◌, ◌-◌}
use native.Mathlib.Omega.{arith}
use lib.Dec.{eqb, leb, ltb}
use lib.ListN.{get_or, set}
use lib.Seq.{get_or-set_other}
use lib.Bits.{and_high, and_zero_l}
use borrow.Author.Tests.{eqb-true, eqb-false, eq-eqb, le-leb, ltb-false}
use Rattle.std.proofs.lemmas.Bool.{and_parts}
use Rattle.model.specs.Machine.{reg, set_reg, fetch_op, largest_options, no_region, entered, exited, with_handler, with_selector, with_regions, with_fault, last_region}
use Rattle.model.specs.Regions.{permission_fits, permission_bits, region_kind}
use Rattle.model.specs.WellFormed.{clear_handler, permissions_fit, fault_fits, state_fits, well_formed}
use Rattle.model.specs.Hfi.{selected, changed}
use Rattle.model.specs.declared.Region.{Region}
use Rattle.model.specs.declared.HfiState.{HfiState}
use Rattle.model.specs.declared.Machine.{Machine}

-- the clauses of "well formed", as facts
pub record Fits (h : HfiState) : Type 0 where
  pub mode : leb h.mode 1 ≡ true
  pub reason : leb h.reason 2 ≡ true
  pub options : leb h.options largest_options ≡ true
  pub handler : eqb (clear_handler h.handler) h.handler ≡ true
  pub selector : leb h.selector last_region ≡ true
  pub permissions : permissions_fit 1 h.regions ≡ true
  pub fault : fault_fits h.fault ≡ true

fits : (h : HfiState) → state_fits h ≡ true → Fits h
unfolding state_fits
fits h t =
    let a = and_parts (leb h.mode 1) _ t in
    let b = and_parts (leb h.reason 2) _ a.1 in
    let c = and_parts (leb h.options largest_options) _ b.1 in
    let d = and_parts (eqb (clear_handler h.handler) h.handler) _ c.1 in
    let e = and_parts (leb h.selector last_region) _ d.1 in
    let f = and_parts (permissions_fit 1 h.regions) (fault_fits h.fault) e.1 in
    record { mode = a.0; reason = b.0; options = c.0; handler = d.0; selector = e.0; permissions = f.0; fault = f.1 }

fitted : (h : HfiState) → Fits h → state_fits h ≡ true
unfolding state_fits
fitted h t = rw (t.mode, t.reason, t.options, t.handler, t.selector, t.permissions) t.fault

pub record Good (m : Machine) : Type 0 where
  pub zero : reg m.x 0 ≡ 0
  pub state : Fits m.hfi

pub good : (m : Machine) → well_formed m ≡ true → Good m
unfolding well_formed
good m t = let a = and_parts (eqb (reg m.x 0) 0) (state_fits m.hfi) t in record { zero = eqb-true _ _ a.0; state = fits m.hfi a.1 }

pub formed : (m : Machine) → Good m → well_formed m ≡ true
unfolding well_formed
formed m g = rw (eq-eqb (reg m.x 0) 0 g.zero) (fitted m.hfi g.state)

-- x0 stays 0
pub zero_kept : (x : List ℕ) (i v : ℕ) → reg x 0 ≡ 0 → reg (set_reg x i v) 0 ≡ 0
zero_kept x i v h = go (eqb i 0) refl
  where
    go : (b : Bool) → eqb i 0 ≡ b → get_or (cond b x (set x i v)) 0 0 ≡ 0
    go true e = h
    go false e = get_or-set_other x i 0 v 0 (λ q. eqb-false i 0 e (sym q)) ∙ h

-- clearing twice is clearing once: the bits 2 to 61 are left
cleared_handler : (v : ℕ) → eqb (clear_handler (clear_handler v)) (clear_handler v) ≡ true
cleared_handler v =
    let once = and_high v 60 2 in
    let twice = and_high (clear_handler v) 60 2 in
    let e : clear_handler (clear_handler v) ≡ clear_handler v = omega (arith, once, twice) in
    eq-eqb _ _ e

-- a region that fits is put among regions that fit
permissions_set : (rs : List Region) (n k : ℕ) (r : Region) → permissions_fit n rs ≡ true → permission_fits (n + k) r.permission ≡ true
    → permissions_fit n (set rs k r) ≡ true
permissions_set [] n k r h f = h
permissions_set (q ∷ rs) n zero r h f =
    let e : n + 0 ≡ n = omega arith in
    rw (rw e at f) (and_parts (permission_fits n q.permission) (permissions_fit (suc n) rs) h).1
permissions_set (q ∷ rs) n (suc k) r h f =
    let b = and_parts (permission_fits n q.permission) (permissions_fit (suc n) rs) h in
    let e : n + suc k ≡ suc n + k = omega arith in
    rw b.0 (permissions_set rs (suc n) k r b.1 (rw e at f))

-- and the one that stands there fits
permission_at : (rs : List Region) (n k : ℕ) → permissions_fit n rs ≡ true → permission_fits (n + k) (get_or rs k no_region).permission ≡ true
permission_at [] n k h = eq-eqb _ _ (and_zero_l (permission_bits (region_kind (n + k))))
permission_at (q ∷ rs) n zero h =
    let e : n + 0 ≡ n = omega arith in
    rw e (and_parts (permission_fits n q.permission) (permissions_fit (suc n) rs) h).0
permission_at (q ∷ rs) n (suc k) h =
    let e : n + suc k ≡ suc n + k = omega arith in
    rw e (permission_at rs (suc n) k (and_parts (permission_fits n q.permission) (permissions_fit (suc n) rs) h).1)

-- the state after a word of opcode 5b
module _ (h : HfiState) (f : Fits h) where
  pub changed_fits : (r : Region) → eqb h.selector 0 ≡ false → permission_fits h.selector r.permission ≡ true → Fits (changed h r)
  changed_fits r n p =
      let z = eqb-false h.selector 0 n in
      let e : h.selector ≡ 1 + (h.selector - 1) = omega (arith, z) in
      record {
        mode = f.mode;
        reason = f.reason;
        options = f.options;
        handler = f.handler;
        selector = f.selector;
        permissions = permissions_set h.regions 1 (h.selector - 1) r f.permissions (ap (λ (k : ℕ). permission_fits k r.permission) (sym e) ∙ p);
        fault = f.fault;
      }

  pub selected_fits : eqb h.selector 0 ≡ false → permission_fits h.selector (selected h).permission ≡ true
  selected_fits n =
      let z = eqb-false h.selector 0 n in
      let e : 1 + (h.selector - 1) ≡ h.selector = omega (arith, z) in
      ap (λ (k : ℕ). permission_fits k (selected h).permission) (sym e) ∙ permission_at h.regions 1 (h.selector - 1) f.permissions

  pub entered_fits : (a : ℕ) → ltb largest_options a ≡ false → Fits (entered h a)
  entered_fits a q =
      record {
        mode = refl;
        reason = f.reason;
        options = le-leb a largest_options (ltb-false largest_options a q);
        handler = f.handler;
        selector = f.selector;
        permissions = f.permissions;
        fault = (and_parts (leb h.fault.occurred 1) _ f.fault).1;
      }

  pub exited_fits : (reason pc : ℕ) → leb reason 2 ≡ true → Fits (exited h reason pc)
  exited_fits reason pc q =
      record {
        mode = refl;
        reason = q;
        options = f.options;
        handler = f.handler;
        selector = f.selector;
        permissions = f.permissions;
        fault = f.fault;
      }

  pub handler_fits : (v : ℕ) → Fits (with_handler h (clear_handler v))
  handler_fits v =
      record {
        mode = f.mode;
        reason = f.reason;
        options = f.options;
        handler = cleared_handler v;
        selector = f.selector;
        permissions = f.permissions;
        fault = f.fault;
      }

  pub regions_fit : (n : ℕ) (rs : List Region) → leb n last_region ≡ true → permissions_fit 1 rs ≡ true → Fits (with_selector (with_regions h rs) n)
  regions_fit n rs l p =
      record {
        mode = f.mode;
        reason = f.reason;
        options = f.options;
        handler = f.handler;
        selector = l;
        permissions = p;
        fault = f.fault;
      }

  pub fault_fits_lem : (op at region : ℕ) → leb op fetch_op ≡ true → leb region last_region ≡ true
      → Fits (with_fault h (record { occurred = 1; region = region; op = op; address = at }))
  fault_fits_lem op at region l r =
      record {
        mode = f.mode;
        reason = f.reason;
        options = f.options;
        handler = f.handler;
        selector = f.selector;
        permissions = f.permissions;
        fault = rw r l;
      }
