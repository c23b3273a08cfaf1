-- Scanning a text. A loop at position i speaks of what is left, `drop i s`: each definition has a law for the next byte and one for the end.
use mathlib.Core.Path.{◌≡◌, refl, ap, sym}
use mathlib.Core.Bool.{Bool, true, false, cond}
use mathlib.Core.List.{List, [], ◌∷◌, ◌++◌}
use Prim.Native.Nat.{ℕ, zero, suc, ◌+◌, ◌-◌, ◌<◌, ◌≤◌}
use native.Mathlib.Numerals.{add-one}
use native.Mathlib.Omega.{arith}
use lib.Dec.{lit≤, ltb}
use lib.ListN.{length, get_or, drop, take, length-drop, drop_of_length-le}
use lib.Seq.{drop-cons, take_all}
use borrow.Author.Tests.{ltb-false}
use Rattle.std.proofs.Common.{Option, Some, None}
use Rattle.std.specs.Option.{unwrap_or}
use Rattle.std.specs.List.{position_or_len}
use Rattle.std.proofs.lemmas.List.Recursion.{is_position_or_len}
use Rattle.text.specs.Scan.{first_that, is, count}

-- the position of the first c; the length where there is none
abbrev pub position : ℕ → List ℕ → ℕ
position c s = first_that (is c) s

module _ (s : List ℕ) (i : ℕ) where
  pub first_on : (test : ℕ → Bool) → i < length s
      → first_that test (drop i s) ≡ cond (test (get_or s i 0)) 0 (suc (first_that test (drop (i + 1) s)))
  unfolding first_that
  first_on test h = rw (drop-cons s i 0 h, add-one i)

  pub first_off : (test : ℕ → Bool) → length s ≤ i → first_that test (drop i s) ≡ 0
  unfolding first_that
  first_off test h = rw (drop_of_length-le s h)

  -- a part that ends where the text ends
  pub rest_whole : take (length s - i) (drop i s) ≡ drop i s
  rest_whole = take_all (length s - i) (drop i s) (simp length-drop (omega arith))

pub first_le : (test : ℕ → Bool) (s : List ℕ) → first_that test s ≤ length s
unfolding first_that
first_le test [] = lit≤ tt
first_le test (b ∷ bs) = by (test b) (first_le test bs)
  where
    by : (t : Bool) → first_that test bs ≤ length bs → cond t 0 (suc (first_that test bs)) ≤ suc (length bs)
    by true h = omega arith
    by false h = omega arith

-- it is std's word, and what a search of a slice answers
pub first_is_position : (test : ℕ → Bool) (s : List ℕ) → first_that test s ≡ position_or_len test s
unfolding first_that
first_is_position test s =
    is_position_or_len (first_that test) test refl (λ b bs. (let e : suc (first_that test bs) ≡ 1 + first_that test bs = omega arith in ap (cond (test b) 0) e)) s

pub first_found : (test : ℕ → Bool) (s : List ℕ) (r : Option ℕ)
    → r ≡ cond (ltb (position_or_len test s) (length s)) (Some (position_or_len test s)) None → unwrap_or r (length s) ≡ first_that test s
first_found test s r e = rw (e, sym (first_is_position test s)) (by (ltb (first_that test s) (length s)) refl)
  where
    by : (t : Bool) → ltb (first_that test s) (length s) ≡ t → unwrap_or (cond t (Some (first_that test s)) None) (length s) ≡ first_that test s
    by true f = refl
    by false f = omega (arith, ltb-false (first_that test s) (length s) f, first_le test s)

-- where a byte passes, the first that passes stands no later
pub first_before : (test : ℕ → Bool) (s : List ℕ) (i : ℕ) → i < length s → test (get_or s i 0) ≡ true → first_that test s ≤ i
unfolding first_that
first_before test [] i h e = let z : ⊥ = omega arith in absurd z
first_before test (b ∷ bs) zero h e = rw e (lit≤ tt)
first_before test (b ∷ bs) (suc i) h e = by (test b) (first_before test bs i (omega arith) e)
  where
    by : (t : Bool) → first_that test bs ≤ i → cond t 0 (suc (first_that test bs)) ≤ suc i
    by true g = omega arith
    by false g = omega arith

-- the first that passes does pass
pub first_is : (test : ℕ → Bool) (s : List ℕ) → first_that test s < length s → test (get_or s (first_that test s) 0) ≡ true
unfolding first_that
first_is test [] h = let z : ⊥ = omega arith in absurd z
first_is test (b ∷ bs) h = by (test b) refl h (first_is test bs)
  where
    by : (t : Bool) → test b ≡ t → cond t 0 (suc (first_that test bs)) < suc (length bs)
        → (first_that test bs < length bs → test (get_or bs (first_that test bs) 0) ≡ true)
        → test (get_or (b ∷ bs) (cond t 0 (suc (first_that test bs))) 0) ≡ true
    by true e g f = e
    by false e g f = f (omega arith)

-- of two texts, one after the other: in the first, or past it
pub first_in : (test : ℕ → Bool) (s t : List ℕ) → first_that test s < length s → first_that test (s ++ t) ≡ first_that test s
unfolding first_that
first_in test [] t h = let z : ⊥ = omega arith in absurd z
first_in test (b ∷ bs) t h = by (test b) h (first_in test bs t)
  where
    by : (u : Bool) → cond u 0 (suc (first_that test bs)) < suc (length bs)
        → (first_that test bs < length bs → first_that test (bs ++ t) ≡ first_that test bs)
        → cond u 0 (suc (first_that test (bs ++ t))) ≡ cond u 0 (suc (first_that test bs))
    by true g f = refl
    by false g f = ap suc (f (omega arith))

pub first_past : (test : ℕ → Bool) (s t : List ℕ) → first_that test s ≡ length s → first_that test (s ++ t) ≡ length s + first_that test t
unfolding first_that
first_past test [] t e = omega arith
first_past test (b ∷ bs) t e = by (test b) e (first_past test bs t)
  where
    by : (u : Bool) → cond u 0 (suc (first_that test bs)) ≡ suc (length bs)
        → (first_that test bs ≡ length bs → first_that test (bs ++ t) ≡ length bs + first_that test t)
        → cond u 0 (suc (first_that test (bs ++ t))) ≡ suc (length bs) + first_that test t
    by true g f = let z : ⊥ = omega (arith, g) in absurd z
    by false g f = omega (arith, f (omega (arith, g)))

-- a byte counts for one at most
one_le : (t : Bool) → cond t 1 0 ≤ 1
one_le true = lit≤ tt
one_le false = lit≤ tt

pub count_le : (c : ℕ) (s : List ℕ) → count c s ≤ length s
unfolding count
count_le c [] = lit≤ tt
count_le c (b ∷ bs) = omega (arith, one_le (is c b), count_le c bs)

pub count_append : (c : ℕ) (s t : List ℕ) → count c (s ++ t) ≡ count c s + count c t
unfolding count
count_append c [] t = omega arith
count_append c (b ∷ bs) t = omega (arith, count_append c bs t)

-- before the first c there is none
pub count_before : (c : ℕ) (s : List ℕ) (k : ℕ) → k ≤ position c s → count c (take k s) ≡ 0
unfolding count first_that
count_before c s zero h = refl
count_before c [] (suc k) h = let z : ⊥ = omega arith in absurd z
count_before c (b ∷ bs) (suc k) h = by (is c b) h (count_before c bs k)
  where
    by : (t : Bool) → suc k ≤ cond t 0 (suc (position c bs)) → (k ≤ position c bs → count c (take k bs) ≡ 0) → cond t 1 0 + count c (take k bs) ≡ 0
    by true g f = let z : ⊥ = omega arith in absurd z
    by false g f = let z : k ≤ position c bs = omega arith in omega (arith, f z)
