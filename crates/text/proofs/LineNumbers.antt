-- Line numbers as they run along, byte by byte and line by line.
use mathlib.Core.Path.{◌≡◌, refl, ap, sym, ◌∙◌}
use mathlib.Core.Bool.{Bool, true, false, cond}
use mathlib.Core.List.{List, [], ◌∷◌, ◌++◌}
use Prim.Native.Nat.{ℕ, zero, suc, ◌+◌, ◌-◌, ◌<◌, ◌≤◌}
use native.Mathlib.Numerals.{add-one}
use native.Mathlib.Omega.{arith}
use lib.Dec.{eqb}
use lib.ListN.{length, get_or, drop, take, length-drop, length-take, take-append-drop}
use lib.Seq.{take-suc, take-add, take-append-le, take-append-add, drop-nil, get_or-drop}
use borrow.Author.Tests.{eqb-true, eq-eqb}
use Rattle.text.specs.Scan.{is, count, newline, line_number, LineStart}
use Rattle.text.specs.Split.{push, split, lines}
use Rattle.text.proofs.Scanning.{position, first_is, count_le, count_append, count_before}
use Rattle.text.proofs.Splitting.{line_is, line_width}

-- ---- byte by byte
module _ (s : List ℕ) where
  pub number_first : line_number s 0 ≡ 1
  unfolding count
  number_first = refl

  pub number_on : (i : ℕ) → i < length s → line_number s (i + 1) ≡ line_number s i + cond (is newline (get_or s i 0)) 1 0
  unfolding count
  number_on i h =
      let b = get_or s i 0 in
      let one : count newline (b ∷ []) ≡ cond (is newline b) 1 0 = omega arith in
      let n : count newline (take (i + 1) s) ≡ count newline (take i s) + cond (is newline b) 1 0 =
      rw (add-one i, take-suc s i 0 h, count_append newline (take i s) (b ∷ []), one) in
      omega (arith, n)

  pub number_le : (i : ℕ) → line_number s i ≤ i + 1
  number_le i = omega (arith, count_le newline (take i s), length-take i s)

-- ---- line by line

pub start_first : (s : List ℕ) → LineStart s 0 1
start_first s = record { begins = refl; counted = sym (number_first s) }

-- the line that begins at a position, with its end
module _ (s line : List ℕ) (at : ℕ) (e : line ≡ get_or (lines (drop at s)) 0 []) (h : at + length line < length s) where
  end_inside : position newline (drop at s) < length (drop at s)
  end_inside = omega (arith, length-drop at s, line_width s line at e)

  -- no 0a in it
  line_unbroken : count newline line ≡ 0
  line_unbroken = ap (count newline) (line_is s line at e) ∙ count_before newline (drop at s) (position newline (drop at s)) (omega arith)

  -- and one after it
  pub line_end : get_or s (at + length line) 0 ≡ newline
  line_end =
      ap (λ n. get_or s (at + n) 0) (line_width s line at e)
      ∙ sym (get_or-drop at s (position newline (drop at s)) 0)
      ∙ eqb-true _ newline (first_is (is newline) (drop at s) end_inside)

  -- every position up to its end has its number
  pub number_within : (p : ℕ) → at ≤ p → p ≤ at + length line → line_number s p ≡ line_number s at
  number_within p f g =
      let k : at + (p - at) ≡ p = omega arith in
      let w : p - at ≤ position newline (drop at s) = omega (arith, line_width s line at e) in
      let n : count newline (take p s) ≡ count newline (take at s) + count newline (take (p - at) (drop at s)) =
      ap (λ n. count newline (take n s)) (sym k)
      ∙ ap (count newline) (take-add at (p - at) s)
      ∙ count_append newline (take at s) (take (p - at) (drop at s)) in
      omega (arith, n, count_before newline (drop at s) (p - at) w)

  -- and past its end the number is one more
  number_next : line_number s (at + length line + 1) ≡ line_number s at + 1
  number_next =
      let on = rw (eq-eqb (get_or s (at + length line) 0) newline line_end) at (number_on s (at + length line) h) in
      omega (arith, on, number_within (at + length line) (omega arith) (omega arith))

  -- Job 3's theorem: where the running number is a line's number, one more is the next line's
  pub start_next : (n : ℕ) → LineStart s at n → LineStart s (at + length line + 1) (n + 1)
  start_next n l =
      let i : at + length line + 1 ≡ suc (at + length line) = omega arith in
      record { begins = rw i line_end; counted = ap (λ k. k + 1) l.counted ∙ sym number_next }

-- ---- a text whose first line is known, and what follows its end
module _ (line rest : List ℕ) (h : count newline line ≡ 0) where
  -- every byte of the line has the number 1
  pub number_inside : (p : ℕ) → p ≤ length line → line_number (line ++ (newline ∷ rest)) p ≡ 1
  number_inside p k =
      let parts : count newline line ≡ count newline (take p line) + count newline (drop p line) =
      ap (count newline) (sym (take-append-drop p line)) ∙ count_append newline (take p line) (drop p line) in
      rw (take-append-le p line (newline ∷ rest) k) (omega (arith, parts))

  -- a byte after it has one more than its number in the rest
  pub number_after : (p : ℕ) → line_number (line ++ (newline ∷ rest)) (length line + suc p) ≡ line_number rest p + 1
  unfolding count
  number_after p =
      rw (take-append-add line (newline ∷ rest) (suc p), count_append newline line (newline ∷ take p rest)) (omega arith)

-- ---- the n-th line: the lines from a line's start on are those from its number on

-- past an 0a there is one to count
count_some : (s : List ℕ) (i : ℕ) → get_or s i 0 ≡ newline → 0 < count newline (take (suc i) s)
unfolding count
count_some [] i e = let z : ⊥ = omega (arith, e) in absurd z
count_some (b ∷ bs) zero e = rw (eq-eqb b newline e) (omega arith)
count_some (b ∷ bs) (suc i) e = omega (arith, count_some bs i e)

push_past : (b k : ℕ) (ps : List (List ℕ)) → 0 < k → drop k (push b ps) ≡ drop k ps
push_past b zero ps h = let z : ⊥ = omega arith in absurd z
push_past b (suc k) [] h = drop-nil k
push_past b (suc k) (p ∷ ps) h = refl

pub lines_from : (s : List ℕ) (at : ℕ) → get_or (newline ∷ s) at 0 ≡ newline → lines (drop at s) ≡ drop (count newline (take at s)) (lines s)
unfolding split count
lines_from s zero e = refl
lines_from [] (suc at) e = let z : ⊥ = omega (arith, e) in absurd z
lines_from (b ∷ bs) (suc zero) e = rw (eq-eqb b newline e)
lines_from (b ∷ bs) (suc (suc i)) e = by (eqb b newline) (lines_from bs (suc i) e) (count_some bs i e)
  where
    by : (t : Bool) → lines (drop (suc i) bs) ≡ drop (count newline (take (suc i) bs)) (lines bs) → 0 < count newline (take (suc i) bs)
        → lines (drop (suc i) bs) ≡ drop (cond t 1 0 + count newline (take (suc i) bs)) (cond t ([] ∷ lines bs) (push b (lines bs)))
    by true f h =
        let n : 1 + count newline (take (suc i) bs) ≡ suc (count newline (take (suc i) bs)) = omega arith in
        rw n f
    by false f h =
        let n : 0 + count newline (take (suc i) bs) ≡ count newline (take (suc i) bs) = omega arith in
        rw n (f ∙ sym (push_past b (count newline (take (suc i) bs)) (lines bs) h))

-- a line, which begins at a position, is the n-th of the text and has the number n
pub record LineAt (s : List ℕ) (at : ℕ) (line : List ℕ) (n : ℕ) : Type 0 where
  pub start : LineStart s at n
  pub bytes : take (length line + 1) (drop at s) ≡ line ++ (newline ∷ [])
  pub unbroken : count newline line ≡ 0
  pub nth : get_or (lines s) (n - 1) [] ≡ line

pub line_there : (s line : List ℕ) (at n : ℕ) → line ≡ get_or (lines (drop at s)) 0 [] → at + length line < length s → LineStart s at n → LineAt s at line n
line_there s line at n e h l =
    let w : line ≡ take (length line) (drop at s) = line_is s line at e ∙ ap (λ k. take k (drop at s)) (sym (line_width s line at e)) in
    let inside : length line < length (drop at s) = omega (arith, length-drop at s) in
    let z : count newline (take at s) + 0 ≡ n - 1 = omega (arith, l.counted) in
    record {
      start = l;
      bytes =
          ap (λ k. take k (drop at s)) (add-one (length line))
          ∙ take-suc (drop at s) (length line) 0 inside
          ∙ rw (get_or-drop at s (length line) 0, line_end s line at e h) (ap (λ t. t ++ (newline ∷ [])) (sym w));
      unbroken = line_unbroken s line at e h;
      nth =
          sym (ap (λ k. get_or (lines s) k []) z)
          ∙ sym (get_or-drop (count newline (take at s)) (lines s) 0 [])
          ∙ sym (ap (λ ls. get_or ls 0 []) (lines_from s at l.begins))
          ∙ sym e;
    }
