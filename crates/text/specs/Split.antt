-- A text cut into pieces at a byte, a line read as a row of numbers, and fields joined to lines.
-- Field is declared in src/row.rt. Assumes nothing.
use Rattle.std.specs.Prelude.{◌≡◌, Bool, true, cond, ◌&&◌, List, [], ◌∷◌, ◌++◌, map, ℕ, ◌+◌, ◌<◌, eqb, leb, length, get_or, drop, replicate}
use Rattle.std.proofs.lemmas.List.Edits.{sets}
use Rattle.text.specs.Scan.{newline, comma}
use Rattle.text.specs.Number.{number}
use Rattle.text.specs.declared.row.Field.{Field}

-- b in front of the first piece
abbrev pub push : ℕ → List (List ℕ) → List (List ℕ)
push b [] = (b ∷ []) ∷ []
push b (p ∷ ps) = (b ∷ p) ∷ ps

-- the pieces of a text between bytes c; `last` are the pieces of an empty text
unfoldable pub split : ℕ → List (List ℕ) → List ℕ → List (List ℕ)
split c last [] = last
split c last (b ∷ bs) = cond (eqb b c) ([] ∷ split c last bs) (push b (split c last bs))

-- lines end in 0a, so an empty text has none
abbrev pub lines : List ℕ → List (List ℕ)
lines s = split newline [] s

-- a text with a line has its first line, and what follows the end of that: the other lines
pub record FirstLine (s line rest : List ℕ) : Type 0 where
  pub some : 0 < length s
  pub first : line ≡ get_or (lines s) 0 []
  pub after : rest ≡ drop (length line + 1) s

-- fields are parted by commas, so a text without commas is one field
abbrev pub fields : List ℕ → List (List ℕ)
fields s = split comma ([] ∷ []) s

-- ---- a line as a row: how many fields it has, and the value and the width of each

pub record Row : Type 0 where
  pub count : ℕ
  pub values : List ℕ
  pub widths : List ℕ

-- the count that a call answers, with the slots that it leaves
abbrev pub row_with : ℕ → List ℕ → List ℕ → Row
row_with n vs ws = record { count = n; values = vs; widths = ws }

-- the values and the widths that fields have
abbrev pub values_of : List Field → List ℕ
values_of fs = map (λ f. f.value) fs

abbrev pub widths_of : List Field → List ℕ
widths_of fs = map (λ f. f.width) fs

abbrev pub row_as : ℕ → List Field → Row
row_as n fs = row_with n (values_of fs) (widths_of fs)

-- the values, "lower-case hexadecimal", and the widths of the fields, one after another (`sets`) in as many slots as there are;
-- a slot past the last field keeps what it held
abbrev pub row_over : List ℕ → List ℕ → List ℕ → Row
row_over vs ws line =
    row_with (length (fields line)) (sets vs 0 (map (number 16) (fields line))) (sets ws 0 (map length (fields line)))

-- a line in n slots: a field that it lacks has the value 0 and the width 0
unfoldable pub row_of : ℕ → List ℕ → Row
row_of n line = row_over (replicate n 0) (replicate n 0) line

-- "has each field 1 to 16 digits" (01, question 33)
abbrev pub wide : ℕ → Bool
wide w = leb 1 w && leb w 16

unfoldable pub all_wide : List ℕ → Bool
all_wide [] = true
all_wide (w ∷ ws) = wide w && all_wide ws

-- a field and those after it, with commas between
abbrev pub join_fields : List ℕ → List (List ℕ) → List ℕ
join_fields f [] = f
join_fields f (g ∷ gs) = f ++ (comma ∷ join_fields g gs)

-- fields on one line, and a text of such lines
abbrev pub join_line : List (List ℕ) → List ℕ
join_line [] = []
join_line (f ∷ fs) = join_fields f fs

abbrev pub join_lines : List (List (List ℕ)) → List ℕ
join_lines [] = []
join_lines (r ∷ rs) = join_line r ++ (newline ∷ join_lines rs)
