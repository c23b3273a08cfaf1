-- Sheets at the edges of questions 30 to 35: rows of a table that one computed check covers.
use mathlib.Core.Path.{◌≡◌, refl}
use mathlib.Core.Bool.{Bool, true, false, cond, ◌&&◌}
use mathlib.Core.List.{List, [], ◌∷◌, ◌++◌}
use Prim.Native.Nat.{ℕ, zero, suc}
use lib.Dec.{eqb}
use lib.ListN.{take, replicate}
use Rattle.text.specs.Ascii.{ascii}
use Rattle.text.specs.Scan.{first_that, count}
use Rattle.text.specs.Split.{split, row_of, all_wide}
use Rattle.text.specs.Number.{spelled, digits}
use Rattle.model.specs.Bytes.{written}
use Rattle.setup.specs.Setup.{permissions_in_range, read_setup}
use Rattle.sheet.specs.Words.{read_word, memory_of}
use Rattle.sheet.specs.Sheet.{whole, foreign, file_no, words_refusal, lines_refusal, sheet_refusal, read_sheet, refusal_text}

-- a sheet, and the question and the line number that it is refused with
pub record Row : Type 0 where
  pub sheet : List ℕ
  pub question : ℕ
  pub lineno : ℕ

abbrev row : List ℕ → ℕ → ℕ → Row
row s n l = record { sheet = s; question = n; lineno = l }

-- line 1 of the worked example
abbrev pub line_one : List ℕ
line_one = ascii "0,5,100,200,10,3,0,0,0,0,fffffffffffffff0,4,a\n"

abbrev pub rows : List Row
rows =
    -- an empty file
    row [] 30 0
    -- no 0a at the end; the foreign byte comes later
    ∷ row (ascii "x") 30 0
    -- a foreign byte in line 2, before the fields of line 1 are counted
    ∷ row (ascii "0\n0,x\n") 31 2
    -- two foreign bytes: the line of the first
    ∷ row (ascii "0,x\n0\nx\n") 31 1
    -- commas and empty lines before a foreign byte that follows an 0a
    ∷ row (ascii "0,0,0,0\n\n\n,,\nx,0\n\n") 31 5
    -- a foreign byte before an 0a
    ∷ row (ascii "0\n0,0x\n0\n") 31 2
    -- capital letters are foreign
    ∷ row (ascii "A\n") 31 1
    -- one field; an empty line
    ∷ row (ascii "\n") 32 1
    -- an empty field that is not the budget
    ∷ row (ascii ",5,100,200,10,3,0,0,0,0,0,4,\n") 33 1
    -- 17 digits
    ∷ row (ascii "00000000000000000,5,100,200,10,3,0,0,0,0,0,4,a\n") 33 1
    -- options above ff
    ∷ row (ascii "0,100,100,200,10,3,0,0,0,0,0,4,a\n") 34 1
    -- a permission above ff
    ∷ row (ascii "0,5,100,200,10,3,0,0,0,0,0,100,a\n") 34 1
    -- a budget above ffffffff
    ∷ row (ascii "0,5,100,200,10,3,0,0,0,0,0,4,100000000\n") 34 1
    -- the largest budget, and one of 16 digits: accepted
    ∷ row (ascii "0,5,100,200,10,3,0,0,0,0,0,4,ffffffff\n") 0 0
    ∷ row (ascii "0,5,100,200,10,3,0,0,0,0,0,4,000000000000c350\n") 0 0
    -- a budget of 17 digits
    ∷ row (ascii "0,5,100,200,10,3,0,0,0,0,0,4,0000000000000000a\n") 33 1
    -- 14 fields, the last of them empty
    ∷ row (ascii "0,5,100,200,10,3,0,0,0,0,0,4,a,\n") 32 1
    -- an empty budget, leading zeros: accepted
    ∷ row (ascii "0,00000000000000ff,100,200,10,3,0,0,0,0,0,4,\n") 0 0
    -- 34 fields, ten regions, the budget empty: accepted
    ∷ row (ascii "0,5,100,200,10,3,0,0,0,0,0,4,41,42,43,51,52,53,61,62,63,71,72,73,81,82,83,91,92,93,a1,a2,a3,\n") 0 0
    -- 33 fields
    ∷ row (ascii "0,5,100,200,10,3,0,0,0,0,0,4,41,42,43,51,52,53,61,62,63,71,72,73,81,82,83,91,92,93,a1,a2,a3\n") 32 1
    -- an empty field of region 10, and its permission above ff
    ∷ row (ascii "0,5,100,200,10,3,0,0,0,0,0,4,41,42,43,51,52,53,61,62,63,71,72,73,81,82,83,91,92,93,a1,,a3,\n") 33 1
    ∷ row (ascii "0,5,100,200,10,3,0,0,0,0,0,4,41,42,43,51,52,53,61,62,63,71,72,73,81,82,83,91,92,93,a1,a2,100,\n") 34 1
    -- the worked example's line 1 alone: accepted
    ∷ row line_one 0 0
    -- document 01's example sheet,33,2
    ∷ row (line_one ++ ascii "0,\n") 33 2
    -- a second line of 34 fields
    ∷ row (line_one ++ ascii "0,5,100,200,10,3,0,0,0,0,0,4,0,0,0,0,0,0,0,0,0,0,0,0,0,0,0,0,0,0,0,0,0,a\n") 32 2
    -- an empty address
    ∷ row (line_one ++ ascii ",1\n") 33 2
    -- a blank last line
    ∷ row (line_one ++ ascii "0,1\n\n") 32 3
    -- the tenth word line, in line 11
    ∷ row (line_one ++ ascii "0,1\n4,1\n8,1\nc,1\n10,1\n14,1\n18,1\n1c,1\n20,1\n24\n") 32 11
    -- an address that is no multiple of 4
    ∷ row (line_one ++ ascii "2,1\n") 34 2
    -- an address above fffc
    ∷ row (line_one ++ ascii "10000,1\n") 34 2
    -- a word above ffffffff
    ∷ row (line_one ++ ascii "0,100000000\n") 34 2
    -- the top address: accepted
    ∷ row (line_one ++ ascii "0,1\nfffc,ffffffff\n") 0 0
    -- equal addresses
    ∷ row (line_one ++ ascii "4,1\n4,1\n") 35 3
    -- falling addresses, before the fields of line 4 are counted
    ∷ row (line_one ++ ascii "8,1\n4,1\n0\n") 35 3
    -- an address that falls and is no multiple of 4
    ∷ row (line_one ++ ascii "8,1\n2,1\n") 34 3
    -- an address that falls in line 6, from above ff
    ∷ row (line_one ++ ascii "0,1\n4,1\n8,1\n100,1\nfc,1\n") 35 6
    -- line 1 and a word line fail: line 1
    ∷ row (ascii "0\n0,\n") 32 1
    -- two lines fail the same question: the first
    ∷ row (line_one ++ ascii "0\n4\n") 32 2
    ∷ []

abbrev holds : Row → Bool
holds r =
    let refusal = (read_sheet r.sheet).refusal in
    eqb refusal.question r.question && eqb refusal.lineno r.lineno

abbrev pub all : List Row → Bool
all [] = true
all (r ∷ rs) = holds r && all rs

pub rows_hold : all rows ≡ true
unfolding sheet_refusal lines_refusal words_refusal file_no read_setup read_word row_of permissions_in_range first_that count split all_wide spelled
rows_hold = refl

-- the bytes below n that no sheet is refused for
abbrev own : ℕ → List ℕ
own zero = []
own (suc n) = own n ++ cond (foreign n) [] (n ∷ [])

-- "a digit 0-9, a-f, comma or 0a": of all bytes these
pub own_bytes : own 256 ≡ ascii "\n,0123456789abcdef"
own_bytes = refl

-- "is the length 1 to 65,536 with last byte 0a?"
pub longest : (whole (replicate 65535 48 ++ ascii "\n") ≡ true) × (whole (replicate 65536 48 ++ ascii "\n") ≡ false)
longest = (refl, refl)

-- ---- document 01's whole example: its words in memory
abbrev pub words : List ℕ
words = ascii "0,00500513\n4,00a001ab\n8,0400005b\n"

pub example_words : take 13 (memory_of (replicate 16 0) (read_sheet (line_one ++ words)).words)
    ≡ 0x13 ∷ 0x05 ∷ 0x50 ∷ 0x00 ∷ 0xab ∷ 0x01 ∷ 0xa0 ∷ 0x00 ∷ 0x5b ∷ 0x00 ∷ 0x00 ∷ 0x04 ∷ 0x00 ∷ []
unfolding memory_of written row_of split spelled
example_words = refl

-- document 01's example of a refusal
pub example_refusal : refusal_text 33 2 ≡ ascii "sheet,33,2\n"
unfolding digits
example_refusal = refl
