-- Questions in their order: "The first no is printed" (01). Assumes nothing.
use Rattle.std.specs.Prelude.{Bool, cond, List, [], ◌∷◌, ℕ}

-- each question is a test and the number of its no; the first no, and 0 where every answer is yes
abbrev pub first_no : List (Bool × ℕ) → ℕ
first_no [] = 0
first_no (q ∷ qs) = cond q.0 (first_no qs) q.1
