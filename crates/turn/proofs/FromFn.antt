-- What `array::from_fn` makes, place by place, of a closure that its calls leave as it was.
-- Assumes nothing.
use Rattle.std.proofs.Common.{◌≡◌, Bool, true, false, List, ℕ, zero, suc, ◌+◌, ◌<◌, ◌≤◌, slice_index_or, refl, sym, subst, arith}
use Rattle.std.specs.Fn.{Called, Mut}
use Rattle.std.specs.Array.{IsFromFnResult, IsFromFnResultFrom}
use lib.Dec.{eqb}
use borrow.Author.Tests.{eqb-true, eqb-false}

module _ {F B : Type 0} (g : Mut F (ℕ × Unit {0}) B) (f : F) (P : ℕ → B → Type 0)
    (says : (i : ℕ) (y : B) (q : F) → Called g f (i, tt) y q → (q ≡ f) × P i y) where
  from : (ys : List B) (n i : ℕ) → IsFromFnResultFrom g f ys i n → (k : ℕ) → i ≤ k → k < i + n → (d : B) → P k (slice_index_or ys k d)
  from ys zero i r k l h d = absurd (omega (arith, l, h))
  from ys (suc n) i r k l h d =
      let s = says i r.1 r.0 r.3 in
      let later = from ys n (i + 1) (subst (λ q. IsFromFnResultFrom g q ys (i + 1) n) s.0 r.4) k in
      go s.1 (eqb i k) refl (λ a b. later a b d)
    where
      go : P i r.1 → (b : Bool) → eqb i k ≡ b → (i + 1 ≤ k → k < i + 1 + n → P k (slice_index_or ys k d)) → P k (slice_index_or ys k d)
      go p true e later = subst (λ j. P j (slice_index_or ys j d)) (eqb-true i k e) (subst (P i) (sym (r.2.1 d)) p)
      go p false e later = let ne = eqb-false i k e in later (omega (arith, l, ne)) (omega (arith, h))

  pub made_at : (ys : List B) (n : ℕ) → IsFromFnResult g f ys n → (k : ℕ) → k < n → (d : B) → P k (slice_index_or ys k d)
  made_at ys n r k h d = from ys n 0 r.each k (omega arith) (omega (arith, h)) d
