-- The word lines of a sheet, "Each further line: address, word" (01, The run sheet), and memory made from them.
-- WordLine is declared in src/lib.rt, Row in text/specs/Split.antt. Assumes nothing.
use Rattle.std.specs.Prelude.{Bool, ◌&&◌, List, [], ◌∷◌, ℕ, ◌%◌, eqb, leb, get_or, replicate}
use Rattle.text.specs.Split.{Row, row_of, all_wide}
use Rattle.text.specs.Questions.{first_no}
use Rattle.model.specs.Bytes.{written}
use Rattle.sheet.specs.declared.WordLine.{WordLine}

abbrev pub word_of : Row → WordLine
word_of r = record { address = get_or r.values 0 0; word = get_or r.values 1 0 }

abbrev pub words_of : List (List ℕ) → List WordLine
words_of [] = []
words_of (l ∷ ls) = word_of (row_of 2 l) ∷ words_of ls

-- memory with a word placed in it, "32-bit words, little-endian"; with all of them, one after another
abbrev pub placed : List ℕ → WordLine → List ℕ
placed mem w = written mem w.address 0 4 w.word

unfoldable pub memory_of : List ℕ → List WordLine → List ℕ
memory_of mem [] = mem
memory_of mem (w ∷ ws) = memory_of (placed mem w) ws

-- "Memory is 65,536 zero bytes before the words are placed"
unfoldable pub blank : List ℕ
blank = replicate 65536 0

-- "words at most ffffffff, addresses multiples of 4 and at most fffc?"
abbrev pub in_range : WordLine → Bool
in_range w = eqb (w.address % 4) 0 && (leb w.address 0xfffc && leb w.word 0xffffffff)

-- 32: "are there 13 fields (line 1) or 2?"; 33 as of line 1; 34; "35: do addresses rise strictly?": the address is at least `least`, which is one more than the address before and 0
-- where there is none before
abbrev pub word_questions : ℕ → Row → WordLine → List (Bool × ℕ)
word_questions least r w =
    ((eqb r.count 2, 32)
    ∷ (all_wide r.widths, 33)
    ∷ (in_range w, 34)
    ∷ (leb least w.address, 35)
    ∷ [])

-- a word line as read: the question of 32 to 35 that it fails first, 0 where it fails none, its address and its word
pub record ReadWord : Type 0 where
  pub question : ℕ
  pub address : ℕ
  pub word : ℕ

unfoldable pub read_word : ℕ → Row → ReadWord
read_word least r = record { question = first_no (word_questions least r (word_of r)); address = (word_of r).address; word = (word_of r).word }
