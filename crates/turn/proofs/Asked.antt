-- The order in which a turn asks the slots: from the place to the last, and then from the first to the place.
-- Assumes nothing.
use Rattle.std.proofs.Common.{◌≡◌, Bool, true, false, cond, not, List, ◌++◌, ℕ, zero, suc, ◌+◌, ◌-◌, ◌<◌, ◌≤◌, unwrap_or, refl, sym, ap, ◌∙◌, arith}
use Rattle.std.specs.List.{find, range_with_len}
use Rattle.std.specs.Prelude.{Option, Some, None}
use Rattle.std.specs.Option.{option_or}
use Rattle.std.proofs.lemmas.List.Folds.{find-append}
use borrow.Author.Tests.{lt-ltb, le-ltb}
use Rattle.scheduler.specs.Turn.{within, slot, stopped, place_in, following, first_unstopped}
use Rattle.scheduler.specs.declared.Slot.{Slot}
use Rattle.scheduler.proofs.Round.{Numbered, within_numbered, place_numbered}

abbrev pub unstopped : List Slot → ℕ → Bool
unstopped ds n = not (stopped (slot ds n))

-- the slots as they are asked, by number
abbrev pub asked : ℕ → ℕ → List ℕ
asked count p = range_with_len p (count + 1 - p) ++ range_with_len 1 (p - 1)

module _ (ds : List Slot) (count : ℕ) where
  one_more : (b : Bool) (n later : ℕ) (o : Option ℕ) (d : ℕ) → later ≡ unwrap_or o d → cond b later n ≡ unwrap_or (cond (not b) (Some n) o) d
  one_more true n later o d e = e
  one_more false n later o d e = refl

  after : (n : ℕ) → n < count → following count n ≡ n + 1
  after n h = rw (lt-ltb n count h) (omega arith)

  last : (n : ℕ) → count ≤ n → following count n ≡ 1
  last n h = rw (le-ltb n count h) refl

  -- k numbers from n on, none of which is past the last slot
  straight : (k n : ℕ) → n + k ≤ count + 1 → first_unstopped ds count k n ≡ unwrap_or (find (unstopped ds) (range_with_len n k)) 0
  unfolding first_unstopped
  straight zero n h = refl
  straight (suc zero) n h = one_more (stopped (slot ds n)) n 0 None 0 refl
  straight (suc (suc k)) n h =
      one_more (stopped (slot ds n)) n (first_unstopped ds count (suc k) (following count n)) (find (unstopped ds) (range_with_len (n + 1) (suc k))) 0
      (ap (first_unstopped ds count (suc k)) (after n (omega (arith, h))) ∙ straight (suc k) (n + 1) (omega (arith, h)))

  -- from n to the last slot, and on with k more from the first
  ahead : (j k n : ℕ) → n + j ≡ count → first_unstopped ds count (suc (j + k)) n ≡ unwrap_or (find (unstopped ds) (range_with_len n (suc j))) (first_unstopped ds count k 1)
  unfolding first_unstopped
  ahead zero k n h =
      let e : 0 + k ≡ k = omega arith in
      rw e (one_more (stopped (slot ds n)) n (first_unstopped ds count k (following count n)) None (first_unstopped ds count k 1)
      (ap (first_unstopped ds count k) (last n (omega (arith, h)))))
  ahead (suc j) k n h =
      let e : suc j + k ≡ suc (j + k) = omega arith in
      rw e (one_more (stopped (slot ds n)) n (first_unstopped ds count (suc (j + k)) (following count n)) (find (unstopped ds) (range_with_len (n + 1) (suc j))) (first_unstopped ds count k 1)
      (ap (first_unstopped ds count (suc (j + k))) (after n (omega (arith, h))) ∙ ahead j k (n + 1) (omega (arith, h))))

  either : (a b : Option ℕ) → unwrap_or a (unwrap_or b 0) ≡ unwrap_or (option_or a b) 0
  either (Some x) b = refl
  either None b = refl

  from : (p : ℕ) → Numbered count p → first_unstopped ds count count p ≡ unwrap_or (find (unstopped ds) (asked count p)) 0
  from p h =
      let low = h.low in
      let high = h.high in
      let all : suc (count - p + (p - 1)) ≡ count = omega (arith, low, high) in
      let some : suc (count - p) ≡ count + 1 - p = omega (arith, high) in
      let first = find (unstopped ds) (range_with_len 1 (p - 1)) in
      ap (λ k. first_unstopped ds count k p) (sym all)
      ∙ ahead (count - p) (p - 1) p (omega (arith, high))
      ∙ ap (unwrap_or (find (unstopped ds) (range_with_len p (suc (count - p))))) (straight (p - 1) 1 (omega (arith, high)))
      ∙ ap (λ k. unwrap_or (find (unstopped ds) (range_with_len p k)) (unwrap_or first 0)) some
      ∙ either (find (unstopped ds) (range_with_len p (count + 1 - p))) first
      ∙ ap (λ o. unwrap_or o 0) (sym (find-append (unstopped ds) (range_with_len p (count + 1 - p)) (range_with_len 1 (p - 1))))

place_of_none : (place : ℕ) → place_in 0 place ≡ 1
place_of_none place = go (within 0 place) refl
  where
    go : (b : Bool) → within 0 place ≡ b → cond b place 1 ≡ 1
    go true e = let n = within_numbered 0 place e in absurd (omega (arith, n.low, n.high))
    go false e = refl

pub first_asked : (ds : List Slot) (count place : ℕ) → first_unstopped ds count count (place_in count place) ≡ unwrap_or (find (unstopped ds) (asked count (place_in count place))) 0
unfolding first_unstopped
first_asked ds zero place = rw (place_of_none place) refl
first_asked ds (suc k) place = from ds (suc k) (place_in (suc k) place) (place_numbered (suc k) place (omega arith))
