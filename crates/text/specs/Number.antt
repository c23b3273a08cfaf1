-- Numbers as digits: "lower-case hexadecimal", and decimal where document 01 says so. Assumes nothing.
use Rattle.std.specs.Prelude.{Bool, cond, ◌&&◌, ◌||◌, List, [], ◌∷◌, ◌++◌, ℕ, zero, suc, ◌+◌, ◌*◌, ◌-◌, ◌/◌, ◌%◌, ltb, leb, length}

-- 0-9
abbrev pub is_figure : ℕ → Bool
is_figure b = leb 48 b && leb b 57

-- a-f
abbrev pub is_letter : ℕ → Bool
is_letter b = leb 97 b && leb b 102

-- "a digit 0-9, a-f" (01, question 31)
abbrev pub is_digit : ℕ → Bool
is_digit b = is_figure b || is_letter b

-- the value of a digit, and 0 of any other byte
abbrev pub digit_value : ℕ → ℕ
digit_value b = cond (is_figure b) (b - 48) (cond (is_letter b) (b - 87) 0)

-- the number that digits of a base spell when those before them spell v
unfoldable pub spelled : ℕ → ℕ → List ℕ → ℕ
spelled base v [] = v
spelled base v (b ∷ bs) = spelled base (v * base + digit_value b) bs

-- the number of a field; 0 for one of more than 16 digits, so that every number fits 64 bits
abbrev pub number : ℕ → List ℕ → ℕ
number base f = cond (leb (length f) 16) (spelled base 0 f) 0

-- the byte of a digit below 16: 0-9, then a-f
abbrev pub digit_byte : ℕ → ℕ
digit_byte d = cond (ltb d 10) (48 + d) (87 + d)

-- the digits of n in a base, without leading zeros: k digits are enough for every n below base ^ k
unfoldable pub digits : ℕ → ℕ → ℕ → List ℕ
digits base zero n = []
digits base (suc k) n =
    cond (ltb n base) (digit_byte n ∷ []) (digits base k (n / base) ++ (digit_byte (n % base) ∷ []))

-- 64 bits are at most 20 decimal digits and at most 16 hexadecimal ones
abbrev pub decimal : ℕ → List ℕ
decimal n = digits 10 20 n

abbrev pub hexadecimal : ℕ → List ℕ
hexadecimal n = digits 16 16 n
