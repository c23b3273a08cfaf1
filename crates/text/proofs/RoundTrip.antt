-- What is printed can be read back, so two different things never print the same bytes.
use mathlib.Core.Path.{◌≡◌, refl, ap, sym, ◌∙◌}
use mathlib.Core.Bool.{Bool, true, false, cond}
use mathlib.Core.List.{List, [], ◌∷◌, ◌++◌}
use Prim.Native.Nat.{ℕ, ◌+◌, ◌^◌, ◌<◌, ◌≤◌}
use native.Mathlib.Omega.{arith}
use lib.Dec.{eqb, lit<, lit≤}
use lib.ListN.{length, get_or}
use borrow.Author.Tests.{eq-eqb, ne_eqb, le-leb}
use Rattle.text.specs.Scan.{count, newline, comma}
use Rattle.text.specs.Split.{push, split, lines, fields, join_fields, join_line, join_lines, wide}
use Rattle.text.specs.Number.{spelled, number, decimal, hexadecimal}
use Rattle.text.proofs.Scanning.{count_append}
use Rattle.text.proofs.Splitting.{lines_none}
use Rattle.text.proofs.Numbers.{spelled_digits, digits_le, digits_some, digits_without, digits_lead}

-- ---- numbers: every 64-bit number reads back, in base 10 and in base 16
pub decimal_back : (n : ℕ) → n < 2 ^ 64 → spelled 10 0 (decimal n) ≡ n
decimal_back n h = spelled_digits 10 20 n (lit< tt) (lit≤ tt) (omega arith)

pub hexadecimal_back : (n : ℕ) → n < 2 ^ 64 → spelled 16 0 (hexadecimal n) ≡ n
hexadecimal_back n h = spelled_digits 16 16 n (lit< tt) (lit≤ tt) (omega arith)

-- as the field of a line, which has at most 16 digits
pub hexadecimal_number : (n : ℕ) → n < 2 ^ 64 → number 16 (hexadecimal n) ≡ n
hexadecimal_number n h = rw (le-leb (length (hexadecimal n)) 16 (digits_le 16 16 n)) (hexadecimal_back n h)

-- a zero before it, whose byte is 48, changes no number of at most 16 digits
pub zero_before : (f : List ℕ) → length f < 16 → number 16 (48 ∷ f) ≡ number 16 f
unfolding spelled
zero_before f h = rw (le-leb (length (48 ∷ f)) 16 (omega arith), le-leb (length f) 16 (omega arith))

pub hexadecimal_wide : (n : ℕ) → wide (length (hexadecimal n)) ≡ true
hexadecimal_wide n =
    rw (le-leb 1 (length (hexadecimal n)) (digits_some 16 16 n (lit< tt))) (le-leb (length (hexadecimal n)) 16 (digits_le 16 16 n))

-- two different numbers never print the same
pub decimal_same : (m n : ℕ) → m < 2 ^ 64 → n < 2 ^ 64 → decimal m ≡ decimal n → m ≡ n
decimal_same m n h k e = sym (decimal_back m h) ∙ ap (spelled 10 0) e ∙ decimal_back n k

pub hexadecimal_same : (m n : ℕ) → m < 2 ^ 64 → n < 2 ^ 64 → hexadecimal m ≡ hexadecimal n → m ≡ n
hexadecimal_same m n h k e = sym (hexadecimal_back m h) ∙ ap (spelled 16 0) e ∙ hexadecimal_back n k

-- a printed number has no comma and no 0a
pub decimal_free : (n : ℕ) → (count comma (decimal n) ≡ 0) × (count newline (decimal n) ≡ 0)
decimal_free n = (digits_without comma 10 20 n (lit< tt), digits_without newline 10 20 n (lit< tt))

pub hexadecimal_free : (n : ℕ) → (count comma (hexadecimal n) ≡ 0) × (count newline (hexadecimal n) ≡ 0)
hexadecimal_free n = (digits_without comma 16 16 n (lit< tt), digits_without newline 16 16 n (lit< tt))

-- and no leading zero: 48 is the byte of the digit 0
pub decimal_lead : (n : ℕ) → 0 < n → n < 2 ^ 64 → get_or (decimal n) 0 48 ≡ 48 → ⊥
decimal_lead n z h = digits_lead 10 20 n (lit< tt) z (omega arith)

pub hexadecimal_lead : (n : ℕ) → 0 < n → n < 2 ^ 64 → get_or (hexadecimal n) 0 48 ≡ 48 → ⊥
hexadecimal_lead n z h = digits_lead 16 16 n (lit< tt) z (omega arith)

-- ---- pieces: what was joined splits into the same pieces
abbrev pub Free : ℕ → List (List ℕ) → Type 0
Free c [] = Unit {0}
Free c (p ∷ ps) = (count c p ≡ 0) × Free c ps

split_piece : (c : ℕ) (last : List (List ℕ)) (p s : List ℕ) → count c p ≡ 0 → split c last (p ++ (c ∷ s)) ≡ p ∷ split c last s
unfolding split count
split_piece c last [] s h = rw (eq-eqb c c refl)
split_piece c last (b ∷ bs) s h = by (eqb b c) h (λ k. split_piece c last bs s k)
  where
    by : (t : Bool) → cond t 1 0 + count c bs ≡ 0 → (count c bs ≡ 0 → split c last (bs ++ (c ∷ s)) ≡ bs ∷ split c last s)
        → cond t ([] ∷ split c last (bs ++ (c ∷ s))) (push b (split c last (bs ++ (c ∷ s)))) ≡ (b ∷ bs) ∷ split c last s
    by true g f = let z : ⊥ = omega arith in absurd z
    by false g f = ap (push b) (f (omega arith))

field_alone : (f : List ℕ) → count comma f ≡ 0 → fields f ≡ f ∷ []
unfolding split count
field_alone [] h = refl
field_alone (b ∷ bs) h = by (eqb b comma) h (λ k. field_alone bs k)
  where
    by : (t : Bool) → cond t 1 0 + count comma bs ≡ 0 → (count comma bs ≡ 0 → fields bs ≡ bs ∷ [])
        → cond t ([] ∷ fields bs) (push b (fields bs)) ≡ (b ∷ bs) ∷ []
    by true g f = let z : ⊥ = omega arith in absurd z
    by false g f = ap (push b) (f (omega arith))

-- fields before a comma, and after it
fields_some : (s : List ℕ) → 1 ≤ length (fields s)
unfolding split
fields_some [] = lit≤ tt
fields_some (b ∷ bs) = by (eqb b comma) (fields bs) (fields_some bs)
  where
    by : (t : Bool) (ps : List (List ℕ)) → 1 ≤ length ps → 1 ≤ length (cond t ([] ∷ ps) (push b ps))
    by true ps h = omega arith
    by false [] h = lit≤ tt
    by false (p ∷ ps) h = omega arith

fields_append : (s t : List ℕ) → fields (s ++ (comma ∷ t)) ≡ fields s ++ fields t
unfolding split
fields_append [] t = refl
fields_append (b ∷ bs) t = by (eqb b comma) (fields bs) (fields_some bs) (fields_append bs t)
  where
    by : (u : Bool) (ps : List (List ℕ)) → 1 ≤ length ps → fields (bs ++ (comma ∷ t)) ≡ ps ++ fields t
        → cond u ([] ∷ fields (bs ++ (comma ∷ t))) (push b (fields (bs ++ (comma ∷ t)))) ≡ cond u ([] ∷ ps) (push b ps) ++ fields t
    by true ps h e = ap (λ k. [] ∷ k) e
    by false [] h e = let z : ⊥ = omega arith in absurd z
    by false (p ∷ ps) h e = ap (push b) e

pub field_then : (s f : List ℕ) → count comma f ≡ 0 → fields (s ++ (comma ∷ f)) ≡ fields s ++ (f ∷ [])
field_then s f h = fields_append s f ∙ ap (λ k. fields s ++ k) (field_alone f h)

pub line_then : (l s : List ℕ) → count newline l ≡ 0 → lines (l ++ (newline ∷ s)) ≡ l ∷ lines s
line_then l s h = split_piece newline [] l s h

pub fields_back : (f : List ℕ) (gs : List (List ℕ)) → Free comma (f ∷ gs) → fields (join_fields f gs) ≡ f ∷ gs
fields_back f [] h = field_alone f h.0
fields_back f (g ∷ gs) h = split_piece comma ([] ∷ []) f (join_fields g gs) h.0 ∙ ap (λ k. f ∷ k) (fields_back g gs h.1)

-- ---- rows: a text of lines, each of fields, reads back as its rows
comma_without : (c : ℕ) (s : List ℕ) → (comma ≡ c → ⊥) → count c (comma ∷ s) ≡ count c s
unfolding count
comma_without c s n = rw (ne_eqb comma c n) (omega arith)

joined_free : (c : ℕ) (f : List ℕ) (gs : List (List ℕ)) → (comma ≡ c → ⊥) → Free c (f ∷ gs) → count c (join_fields f gs) ≡ 0
joined_free c f [] n h = h.0
joined_free c f (g ∷ gs) n h =
    omega (arith, count_append c f (comma ∷ join_fields g gs), comma_without c (join_fields g gs) n, h.0, joined_free c g gs n h.1)

-- each row has a field, and no field has a comma or a 0a
abbrev pub Clean : List (List (List ℕ)) → Type 0
Clean [] = Unit {0}
Clean (r ∷ rs) = (1 ≤ length r) × Free comma r × Free newline r × Clean rs

line_free : (r : List (List ℕ)) → 1 ≤ length r → Free newline r → count newline (join_line r) ≡ 0
line_free [] z h = let y : ⊥ = omega arith in absurd y
line_free (f ∷ fs) z h = joined_free newline f fs (λ e. omega arith) h

line_back : (r : List (List ℕ)) → 1 ≤ length r → Free comma r → fields (join_line r) ≡ r
line_back [] z h = let y : ⊥ = omega arith in absurd y
line_back (f ∷ fs) z h = fields_back f fs h

-- the rows of a text: the fields of each of its lines
abbrev pub fields_of_lines : List (List ℕ) → List (List (List ℕ))
fields_of_lines [] = []
fields_of_lines (l ∷ ls) = fields l ∷ fields_of_lines ls

pub lines_back : (rs : List (List (List ℕ))) → Clean rs → fields_of_lines (lines (join_lines rs)) ≡ rs
lines_back [] h = ap fields_of_lines lines_none
lines_back (r ∷ rs) h =
    ap fields_of_lines (line_then (join_line r) (join_lines rs) (line_free r h.0 h.2))
    ∙ ap (λ f. f ∷ fields_of_lines (lines (join_lines rs))) (line_back r h.0 h.1)
    ∙ ap (λ k. r ∷ k) (lines_back rs h.3)

-- so two different tables never print the same bytes
pub lines_same : (rs qs : List (List (List ℕ))) → Clean rs → Clean qs → join_lines rs ≡ join_lines qs → rs ≡ qs
lines_same rs qs h k e = sym (lines_back rs h) ∙ ap (λ s. fields_of_lines (lines s)) e ∙ lines_back qs k
