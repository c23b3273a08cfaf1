-- Where bytes stand in a text. A text is a list of bytes, and positions count from 0. Assumes nothing.
use Rattle.std.specs.Prelude.{◌≡◌, Bool, cond, List, [], ◌∷◌, ℕ, suc, ◌+◌, eqb, get_or, take}

-- the bytes that part a text: every line ends in 0a, fields are parted by commas (01, The run sheet)
abbrev pub newline : ℕ
newline = 10

abbrev pub comma : ℕ
comma = 44

-- the position of the first byte that passes a test; the length where none does
unfoldable pub first_that : (ℕ → Bool) → List ℕ → ℕ
first_that test [] = 0
first_that test (b ∷ bs) = cond (test b) 0 (suc (first_that test bs))

-- is it the byte c?
abbrev pub is : ℕ → ℕ → Bool
is c b = eqb b c

-- how many c there are: one for each
unfoldable pub count : ℕ → List ℕ → ℕ
count c [] = 0
count c (b ∷ bs) = cond (is c b) 1 0 + count c bs

-- the number of the line that position `at` lies in: one more than the 0a bytes before it ("Lines count from 1", 01)
abbrev pub line_number : List ℕ → ℕ → ℕ
line_number s at = count newline (take at s) + 1

-- a line begins at position `at`, or the text ends there: it is the text's start or past an 0a (as if one stood before the text). n is
-- the line's number, "one more than the number of 0a bytes before that line" (02, Job 3)
pub record LineStart (s : List ℕ) (at n : ℕ) : Type 0 where
  pub begins : get_or (newline ∷ s) at 0 ≡ newline
  pub counted : n ≡ line_number s at
