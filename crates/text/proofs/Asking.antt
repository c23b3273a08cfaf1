-- Where the first no is 0, every question of the list was answered yes.
use mathlib.Core.Path.{◌≡◌, refl}
use mathlib.Core.Bool.{Bool, true, false, not, ◌&&◌, false≢true}
use mathlib.Core.List.{List, [], ◌∷◌}
use Prim.Native.Nat.{ℕ, zero, suc}
use lib.Dec.{eqb}
use borrow.Author.Tests.{eq-eqb}
use Rattle.std.proofs.lemmas.Bool.{and_parts}
use Rattle.text.specs.Questions.{first_no}

-- the test of question k, from 0 on
abbrev pub test_at : ℕ → List (Bool × ℕ) → Bool
test_at k [] = true
test_at zero (q ∷ qs) = q.0
test_at (suc k) (q ∷ qs) = test_at k qs

-- no question has the number 0
abbrev pub proper : List (Bool × ℕ) → Bool
proper [] = true
proper (q ∷ qs) = not (eqb q.1 0) && proper qs

pub yes_at : (k : ℕ) (qs : List (Bool × ℕ)) → proper qs ≡ true → first_no qs ≡ 0 → test_at k qs ≡ true
yes_at k [] p e = refl
yes_at k (q ∷ qs) p e = by q.0 refl k (λ j u. yes_at j qs ((and_parts (not (eqb q.1 0)) (proper qs) p).1) u)
  where
    by : (t : Bool) → q.0 ≡ t → (j : ℕ) → ((i : ℕ) → first_no qs ≡ 0 → test_at i qs ≡ true) → test_at j (q ∷ qs) ≡ true
    by true f zero g = f
    by true f (suc j) g = g j (rw f at e)
    by false f j g =
        let z : q.1 ≡ 0 = rw f at e in
        let y : not (eqb q.1 0) ≡ true = (and_parts (not (eqb q.1 0)) (proper qs) p).0 in
        absurd (false≢true (rw (eq-eqb q.1 0 z) at y))
