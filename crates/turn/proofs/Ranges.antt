-- What `a..=b` yields.
-- Assumes nothing.
use Rattle.std.proofs.Common.{◌≡◌, Bool, true, false, true≢false, ℕ, zero, suc, ◌+◌, ◌-◌, refl, sym, ap, ◌∙◌, arith}
use Rattle.std.specs.List.{range_with_len}
use Rattle.std.specs.Prelude.{Option}
use Rattle.std.specs.Iterator.{AlwaysYields}
use Rattle.std.specs.Range.{range_inclusive_start, range_inclusive_end, range_inclusive_exhausted, range_inclusive_left, range_inclusive_len, range_inclusive_steps}
use Rattle.std.specs.declared.ops.RangeInclusive.{RangeInclusive}
use Rattle.std.proofs.lemmas.Iterator.{YieldsList}

abbrev counted_steps : RangeInclusive ℕ → Option ℕ → RangeInclusive ℕ → Type 0
counted_steps = range_inclusive_steps (λ x y. y - x) (λ x y. y ≡ x + 1)

abbrev left : RangeInclusive ℕ → ℕ
left s = range_inclusive_left (λ x y. y - x) s

none_left : (a b : ℕ) (c : Bool) → c ≡ true → range_inclusive_len (λ x y. y - x) a b c ≡ 0
none_left a b true e = refl
none_left a b false e = absurd (true≢false (sym e))

-- the n numbers from a on, which is the start while any are left
yields : (n a : ℕ) (s : RangeInclusive ℕ) → left s ≡ n → (range_inclusive_exhausted s ≡ false → range_inclusive_start s ≡ a)
    → AlwaysYields counted_steps (λ x. x) s (range_with_len a n)
yields zero a s e f = λ x t p. let m : left t + 1 ≡ left s = p.1.1 in omega (arith, e, m)
yields (suc n) a s e f = go (range_inclusive_exhausted s) refl (λ k t m next. yields n k t m next)
  where
    go : (b : Bool) → range_inclusive_exhausted s ≡ b
        → ((k : ℕ) (t : RangeInclusive ℕ) → left t ≡ n → (range_inclusive_exhausted t ≡ false → range_inclusive_start t ≡ k) → AlwaysYields counted_steps (λ x. x) t (range_with_len k n))
        → AlwaysYields counted_steps (λ x. x) s (range_with_len a (suc n))
    go true g later = let z = none_left (range_inclusive_start s) (range_inclusive_end s) _ g in absurd (omega (arith, e, z))
    go false g later = (
      (λ t p. let m : left s ≡ 0 = p.1.0 in omega (arith, e, m)),
      λ x t p. let m : left t + 1 ≡ left s = p.1.1 in
          (p.1.0 ∙ f g, later (a + 1) t (omega (arith, e, m)) (λ h. p.1.2 h ∙ ap (λ k. k + 1) (f g))),
    )

pub YieldsList-from_range_inclusive : {s : RangeInclusive ℕ} (a b n : ℕ) → range_inclusive_start s ≡ a → range_inclusive_end s ≡ b → range_inclusive_exhausted s ≡ false → b + 1 - a ≡ n
    → YieldsList counted_steps (λ x. x) s (range_with_len a n)
YieldsList-from_range_inclusive {s} a b n e f g h =
    let m : left s ≡ b - a + 1 - (a - b) = rw (e, f, g) refl in record { runs = yields n a s (omega (arith, m, h)) (λ g. e) }
