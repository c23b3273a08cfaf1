-- The pieces of a text: the first of them, and those that follow.
use mathlib.Core.Path.{◌≡◌, refl, ap, sym, ◌∙◌}
use mathlib.Core.Bool.{Bool, true, false, cond}
use mathlib.Core.List.{List, [], ◌∷◌}
use Prim.Native.Nat.{ℕ, suc, ◌+◌, ◌-◌, ◌<◌, ◌≤◌}
use native.Mathlib.Omega.{arith}
use lib.Dec.{eqb, leb}
use lib.ListN.{length, get_or, drop, take, length-drop, drop_of_length-le}
use lib.Seq.{take_all, drop-drop, get_or-drop, length-take-le}
use borrow.Author.Tests.{eq-eqb, leb-true, leb-false}
use Rattle.text.specs.Scan.{first_that, is, newline}
use Rattle.text.specs.Split.{push, split, lines}
use Rattle.text.proofs.Scanning.{position, first_le, first_before}

-- ---- one piece of a list: the first w bytes, and the pieces from w + 1 on
abbrev pub Piece : ℕ → List (List ℕ) → List ℕ → ℕ → Type 0
Piece c last s w = split c last s ≡ take w s ∷ split c last (drop (w + 1) s)

pub split_more : (c : ℕ) (last : List (List ℕ)) (s : List ℕ) → position c s < length s → Piece c last s (position c s)
unfolding split first_that
split_more c last [] h = let z : ⊥ = omega arith in absurd z
split_more c last (b ∷ bs) h = by (eqb b c) h (λ k. split_more c last bs k)
  where
    by : (t : Bool) → cond t 0 (suc (position c bs)) < suc (length bs) → (position c bs < length bs → Piece c last bs (position c bs))
        → cond t ([] ∷ split c last bs) (push b (split c last bs))
        ≡ take (cond t 0 (suc (position c bs))) (b ∷ bs) ∷ split c last (drop (cond t 0 (suc (position c bs)) + 1) (b ∷ bs))
    by true g f = refl
    by false g f =
        let k : position c bs < length bs = omega arith in
        let e : suc (position c bs) + 1 ≡ suc (position c bs + 1) = omega arith in
        rw e (ap (push b) (f k))

-- without c a text is one piece
pub split_none : (c : ℕ) (last : List (List ℕ)) (s : List ℕ) → push 0 last ≡ (0 ∷ []) ∷ [] → 0 < length s → length s ≤ position c s → split c last s ≡ s ∷ []
unfolding split first_that
split_none c last [] z h k = let y : ⊥ = omega arith in absurd y
split_none c last (b ∷ []) z h k = by (eqb b c) k
  where
    one : (l : List (List ℕ)) → push 0 l ≡ (0 ∷ []) ∷ [] → push b l ≡ (b ∷ []) ∷ []
    one [] e = refl
    one (p ∷ ps) e =
        let f : p ≡ [] = cc in
        let g : ps ≡ [] = cc in
        rw (f, g)

    by : (t : Bool) → 1 ≤ cond t 0 (suc 0) → cond t ([] ∷ last) (push b last) ≡ (b ∷ []) ∷ []
    by true g = let y : ⊥ = omega arith in absurd y
    by false g = one last z
split_none c last (b ∷ d ∷ bs) z h k = by (eqb b c) k (λ u. split_none c last (d ∷ bs) z (omega arith) u)
  where
    by : (t : Bool) → suc (suc (length bs)) ≤ cond t 0 (suc (position c (d ∷ bs))) → (suc (length bs) ≤ position c (d ∷ bs) → split c last (d ∷ bs) ≡ (d ∷ bs) ∷ [])
        → cond t ([] ∷ split c last (d ∷ bs)) (push b (split c last (d ∷ bs))) ≡ (b ∷ d ∷ bs) ∷ []
    by true g f = let y : ⊥ = omega arith in absurd y
    by false g f = let u : suc (length bs) ≤ position c (d ∷ bs) = omega arith in ap (push b) (f u)

-- the first piece ends at the first c
pub split_first : (c : ℕ) (last : List (List ℕ)) (s : List ℕ) → get_or last 0 [] ≡ [] → get_or (split c last s) 0 [] ≡ take (position c s) s
unfolding split first_that
split_first c last [] e = e
split_first c last (b ∷ bs) e = by (eqb b c) (split_first c last bs e)
  where
    pushed : (ps : List (List ℕ)) → get_or (push b ps) 0 [] ≡ b ∷ get_or ps 0 []
    pushed [] = refl
    pushed (p ∷ ps) = refl

    by : (t : Bool) → get_or (split c last bs) 0 [] ≡ take (position c bs) bs
        → get_or (cond t ([] ∷ split c last bs) (push b (split c last bs))) 0 [] ≡ take (cond t 0 (suc (position c bs))) (b ∷ bs)
    by true f = refl
    by false f = pushed (split c last bs) ∙ ap (λ l. b ∷ l) f

-- the piece p begins at position `at` of a text
module _ (c : ℕ) (last : List (List ℕ)) (z : get_or last 0 [] ≡ []) (s p : List ℕ) (at : ℕ) (e : p ≡ get_or (split c last (drop at s)) 0 []) where
  piece_is : p ≡ take (position c (drop at s)) (drop at s)
  piece_is = e ∙ split_first c last (drop at s) z

  piece_width : length p ≡ position c (drop at s)
  piece_width = ap length piece_is ∙ length-take-le (position c (drop at s)) (drop at s) (first_le (is c) (drop at s))

  piece_more : Piece c last (drop at s) (position c (drop at s)) → split c last (drop at s) ≡ p ∷ split c last (drop (at + length p + 1) s)
  piece_more h =
      let g : at + (length p + 1) ≡ at + length p + 1 = omega arith in
      h
      ∙ ap (λ l. l ∷ split c last (drop (position c (drop at s) + 1) (drop at s))) (sym piece_is)
      ∙ ap (λ n. p ∷ split c last (drop (n + 1) (drop at s))) (sym piece_width)
      ∙ ap (λ l. p ∷ split c last l) (drop-drop (length p + 1) at s ∙ ap (λ n. drop n s) g)

-- ---- lines
pub lines_none : lines [] ≡ []
unfolding split
lines_none = refl

-- the last line may lack its end
lines_more : (s : List ℕ) → 0 < length s → Piece newline [] s (position newline s)
lines_more s h = by (leb (length s) (position newline s)) refl
  where
    by : (t : Bool) → leb (length s) (position newline s) ≡ t → Piece newline [] s (position newline s)
    by true f =
        let k : length s ≤ position newline s = leb-true (length s) (position newline s) f in
        let g : length s ≤ position newline s + 1 = omega arith in
        split_none newline [] s refl h k
        ∙ ap (λ l. l ∷ []) (sym (take_all (position newline s) s k))
        ∙ ap (λ l. take (position newline s) s ∷ l) (sym (ap lines (drop_of_length-le s g) ∙ lines_none))
    by false f = split_more newline [] s (leb-false (length s) (position newline s) f)

pub lines_some : (s : List ℕ) → 0 < length s → 0 < length (lines s)
lines_some s h = rw (lines_more s h) (omega arith)

-- the line that begins at position `at`
module _ (s line : List ℕ) (at : ℕ) (e : line ≡ get_or (lines (drop at s)) 0 []) where
  pub line_is : line ≡ take (position newline (drop at s)) (drop at s)
  line_is = piece_is newline [] refl s line at e

  pub line_width : length line ≡ position newline (drop at s)
  line_width = piece_width newline [] refl s line at e

  pub line_more : at < length s → lines (drop at s) ≡ line ∷ lines (drop (at + length line + 1) s)
  line_more h = let k : 0 < length (drop at s) = omega (arith, length-drop at s) in piece_more newline [] refl s line at e (lines_more (drop at s) k)

  -- where the text ends in 0a, so does every line
  pub line_ends : at < length s → get_or s (length s - 1) 0 ≡ newline → at + length line < length s
  line_ends h z =
      let f : at + (length s - 1 - at) ≡ length s - 1 = omega arith in
      let g : length s - 1 - at < length (drop at s) = omega (arith, length-drop at s) in
      let p : get_or (drop at s) (length s - 1 - at) 0 ≡ newline = get_or-drop at s (length s - 1 - at) 0 ∙ ap (λ n. get_or s n 0) f ∙ z in
      omega (arith, line_width, first_before (is newline) (drop at s) (length s - 1 - at) g (eq-eqb _ newline p))
