-- The widths of an access.
-- Assumes nothing.
use Rattle.std.proofs.Common.{◌≡◌, ℕ, ◌<◌, ◌≤◌, Bool, true, false, cond, eqb, refl, arith, eqb-true}
use Rattle.instructions.specs.declared.kind.LoadKind.{LoadKind}
use Rattle.instructions.specs.declared.kind.LoadKind.TheVariants.{Lb, Lh, Lw, Ld, Lbu, Lhu, Lwu}
use Rattle.instructions.specs.declared.kind.StoreKind.{StoreKind}
use Rattle.instructions.specs.declared.kind.StoreKind.TheVariants.{Sb, Sh, Sw, Sd}
use Rattle.model.specs.Access.{load_width, store_width}
use Rattle.memory.specs.Width.{IsWidth}

-- every load and store has one of the widths
pub load_is_width : (k : LoadKind) → IsWidth (load_width k)
load_is_width Lb = refl
load_is_width Lh = refl
load_is_width Lw = refl
load_is_width Ld = refl
load_is_width Lbu = refl
load_is_width Lhu = refl
load_is_width Lwu = refl

pub store_is_width : (k : StoreKind) → IsWidth (store_width k)
store_is_width Sb = refl
store_is_width Sh = refl
store_is_width Sw = refl
store_is_width Sd = refl

-- a width is 1 to 8
pub width_bounds : (n : ℕ) → IsWidth n → (0 < n) × (n ≤ 8)
width_bounds n h = go (eqb n 1) (eqb n 2) (eqb n 4) (eqb n 8) refl refl refl refl h
  where
    go : (a b c d : Bool) → eqb n 1 ≡ a → eqb n 2 ≡ b → eqb n 4 ≡ c → eqb n 8 ≡ d
        → cond a true (cond b true (cond c true (cond d true false))) ≡ true → (0 < n) × (n ≤ 8)
    go true b c d p q r s h = let e = eqb-true n 1 p in (omega arith, omega arith)
    go false true c d p q r s h = let e = eqb-true n 2 q in (omega arith, omega arith)
    go false false true d p q r s h = let e = eqb-true n 4 r in (omega arith, omega arith)
    go false false false true p q r s h = let e = eqb-true n 8 s in (omega arith, omega arith)
    go false false false false p q r s h = let z : ◌≡◌ {A = ℕ} 0 1 = cc in absurd (omega arith)
