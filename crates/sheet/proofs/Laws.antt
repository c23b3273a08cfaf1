-- How the lines of a sheet go on, and what a passed question gives.
use mathlib.Core.Path.{◌≡◌, refl, ap, sym, ◌∙◌}
use mathlib.Core.Bool.{Bool, true, false, cond, ◌&&◌}
use mathlib.Core.List.{List, [], ◌∷◌, ◌++◌}
use Prim.Native.Nat.{ℕ, ◌+◌, ◌-◌, ◌%◌, ◌<◌, ◌≤◌, min}
use native.Mathlib.Omega.{arith}
use lib.Dec.{eqb, leb, ltb}
use lib.ListN.{length, get_or, drop, take, length-drop}
use lib.Seq.{drop-drop}
use borrow.Author.Tests.{leb-true, ltb-true, ltb-false, eqb-true, eq-eqb, ne_eqb}
use Rattle.std.proofs.lemmas.Bool.{and_parts}
use Rattle.text.specs.Scan.{newline, is, first_that, line_number, LineStart}
use Rattle.text.specs.Split.{FirstLine, lines, Row, row_of}
use Rattle.text.proofs.Asking.{yes_at}
use Rattle.std.specs.Prelude.{Some, None, Result, Ok, Err, IfOk}
use Rattle.std.specs.List.{AllWithin, IsFirstMatchOrLen}
use Rattle.std.proofs.lemmas.List.{take-append-le, length-take-le, get_or-drop}
use Rattle.std.proofs.lemmas.List.Sums.{position_or_len_is}
use Rattle.std.proofs.Math.Seq.{drop-append_seam}
use Rattle.text.proofs.Scanning.{first_is_position, first_before}
use Rattle.text.proofs.Splitting.{split_first, line_more, line_ends, lines_none}
use Rattle.text.proofs.LineNumbers.{number_first, start_first, start_next}
use Rattle.model.specs.Bytes.{written}
use Rattle.setup.specs.declared.question.Question.{Question}
use Rattle.setup.specs.declared.question.Question.TheVariants.{Whole}
use Rattle.setup.specs.Question.{question_of}
use Rattle.setup.specs.Setup.{setup_row, read_setup}
use Rattle.sheet.specs.declared.WordLine.{WordLine}
use Rattle.sheet.specs.Words.{word_of, words_of, placed, word_questions, read_word, memory_of}
use Rattle.sheet.specs.Sheet.{refusal, whole, foreign, foreign_line, foreign_found, file_questions, file_no, file_refusal, words_refusal, lines_refusal, sheet_refusal}

-- a word line that is read is the word line
pub read_is : (least : ℕ) (r : Row) → ((read_word least r).address ≡ (word_of r).address) × ((read_word least r).word ≡ (word_of r).word)
unfolding read_word
read_is least r = (refl, refl)

pub word_fits : (least : ℕ) (r : Row) → (read_word least r).question ≡ 0 → (read_word least r).address ≤ 0xfffc
unfolding read_word
word_fits least r e =
    let w = word_of r in
    let range = yes_at 2 (word_questions least r w) refl e in
    let top = (and_parts (eqb (w.address % 4) 0) (leb w.address 0xfffc && leb w.word 0xffffffff) range).1 in
    leb-true w.address 0xfffc ((and_parts (leb w.address 0xfffc) (leb w.word 0xffffffff) top).0)

-- the word line that was let through
pub word_passed : {w : WordLine} (least : ℕ) (r : Row) (m : Result WordLine Question)
    → question_of m ≡ (read_word least r).question → IfOk m (λ v. v ≡ word_of r)
    → (question_of m ≡ 0) × ((Q : WordLine → Type 0) → IfOk m Q → Q w)
    → ((read_word least r).question ≡ 0) × (w ≡ word_of r)
word_passed least r m e v f = (sym e ∙ f.0, f.1 (λ w. w ≡ word_of r) v)

-- ---- what a passed file gives
pub whole_parts : (s : List ℕ) → whole s ≡ true → (1 ≤ length s) × (length s ≤ 65536) × (get_or s (length s - 1) 0 ≡ newline)
whole_parts s all =
    let some = leb 1 (length s) in
    let few = leb (length s) 65536 in
    let ended = eqb (get_or s (length s - 1) 0) newline in
    let most = (and_parts some (few && ended) all).1 in (
      leb-true 1 (length s) ((and_parts some (few && ended) all).0),
      leb-true (length s) 65536 ((and_parts few ended most).0),
      eqb-true (get_or s (length s - 1) 0) newline ((and_parts few ended most).1),
    )

pub file_ok : (s : List ℕ) → refusal 0 0 ≡ file_refusal s → file_no s ≡ 0
file_ok s e = sym (ap (λ q. q.question) e)

pub file_whole : (s : List ℕ) → file_no s ≡ 0 → (1 ≤ length s) × (length s ≤ 65536) × (get_or s (length s - 1) 0 ≡ newline)
unfolding file_no
file_whole s e = whole_parts s (yes_at 0 (file_questions s) refl e)

-- ---- the first foreign byte: its line, or 0; so 31 may ask for the line
module _ (s : List ℕ) where
  pub foreign_asked : eqb (foreign_line s) 0 ≡ eqb (first_that foreign s) (length s)
  foreign_asked = by (eqb (first_that foreign s) (length s))
    where
      by : (t : Bool) → eqb (cond t 0 (line_number s (first_that foreign s))) 0 ≡ t
      by true = refl
      by false = ne_eqb (line_number s (first_that foreign s)) 0 (λ z. omega (arith, z))

  -- it stands at i, or nowhere
  pub foreign_here : (i : ℕ) → i < length s → first_that foreign s ≡ i → Some (line_number s i) ≡ foreign_found s
  foreign_here i h e = rw (e, ne_eqb i (length s) (λ z. omega (arith, z)))

  pub foreign_none : first_that foreign s ≡ length s → None ≡ foreign_found s
  foreign_none e = rw (eq-eqb (first_that foreign s) (length s) e)

  -- ---- 30 and 31, of the file
  -- question 30 as it is kept
  module _ (r : Result Unit Question) (kept : r ≡ cond (whole s) (Ok tt) (Err Whole)) where
    pub file_not_whole : (question_of r ≡ 0 → ⊥) → refusal (question_of r) 0 ≡ file_refusal s
    unfolding file_no
    file_not_whole h = by (whole s) refl
      where
        by : (t : Bool) → whole s ≡ t → refusal (question_of r) 0 ≡ file_refusal s
        by true e = let z : question_of r ≡ 0 = ap question_of (rw e at kept) in absurd (h z)
        by false e = let z : question_of r ≡ 30 = ap question_of (rw e at kept) in rw (e, z) refl

    pub kept_whole : question_of r ≡ 0 → whole s ≡ true
    kept_whole h = by (whole s) refl
      where
        by : (t : Bool) → whole s ≡ t → t ≡ true
        by true e = refl
        by false e = let z : question_of r ≡ 30 = ap question_of (rw e at kept) in absurd (omega (arith, h, z))

  pub file_foreign : (n : ℕ) → whole s ≡ true → Some n ≡ foreign_found s → refusal 31 n ≡ file_refusal s
  unfolding file_no
  file_foreign n e f = rw e (by (eqb (first_that foreign s) (length s)) f)
    where
      by : (t : Bool) → Some n ≡ cond t None (Some (line_number s (first_that foreign s)))
          → refusal 31 n ≡ refusal (cond t 0 31) (cond (eqb (cond t 0 31) 31) (cond t 0 (line_number s (first_that foreign s))) 0)
      by true g = cc
      by false g = let k : n ≡ line_number s (first_that foreign s) = cc in ap (refusal 31) k

  pub file_passed : whole s ≡ true → None ≡ foreign_found s → refusal 0 0 ≡ file_refusal s
  unfolding file_no
  file_passed e f = rw e (by (eqb (first_that foreign s) (length s)) f)
    where
      by : (t : Bool) → None ≡ cond t None (Some (line_number s (first_that foreign s)))
          → refusal 0 0 ≡ refusal (cond t 0 31) (cond (eqb (cond t 0 31) 31) (cond t 0 (line_number s (first_that foreign s))) 0)
      by true g = refl
      by false g = cc

-- ---- the word lines: those left begin at position `at`, with the line of number n
pub record LeftAt (s left : List ℕ) (at n : ℕ) : Type 0 where
  pub is : left ≡ drop at s
  pub inside : at ≤ length s
  pub start : LineStart s at n

-- no test fails up to past an element that passes
cut_le : (xs : List ℕ) (j : ℕ) → is newline (get_or xs (length xs - 1) 0) ≡ true → AllWithin (λ y. is newline y ≡ false) xs 0 j → j ≤ length xs
cut_le xs j t a = by (ltb (length xs - 1) j) refl
  where
    by : (u : Bool) → ltb (length xs - 1) j ≡ u → j ≤ length xs
    by true g =
        let no : is newline (get_or xs (length xs - 1) 0) ≡ false = a (length xs - 1) 0 (omega arith) (ltb-true (length xs - 1) j g) in
        let z : ◌≡◌ {A = Bool} true false = sym t ∙ no in
        cc
    by false g = let h = ltb-false (length xs - 1) j g in omega (arith, h)

-- the line that `split_inclusive` gives first, without its end
pub line_cut : (s left piece after : List ℕ) (at n i : ℕ) → LeftAt s left at n → get_or s (length s - 1) 0 ≡ newline
    → left ≡ piece ++ after → length piece ≡ min (i + 1) (length left) → IsFirstMatchOrLen (is newline) left i → 0 < length left
    → FirstLine left (take (length piece - 1) piece) after
line_cut s left piece after at n i l z e w m some =
    let width : length left ≡ length s - at = ap length l.is ∙ length-drop at s in
    let place : at + (length left - 1) ≡ length s - 1 = omega (arith, l.inside) in
    let last : get_or left (length left - 1) 0 ≡ newline =
    ap (λ t. get_or t (length left - 1) 0) l.is ∙ get_or-drop at s (length left - 1) 0 ∙ ap (λ k. get_or s k 0) place ∙ z in
    let first : first_that (is newline) left ≡ i =
    first_is_position (is newline) left ∙ position_or_len_is (is newline) left i 0 (cut_le left i (eq-eqb _ newline last) m.0) (λ k h. m.0 k 0 (omega arith) h) (λ h. m.1 h 0) in
    let inside : first_that (is newline) left ≤ length left - 1 = first_before (is newline) left (length left - 1) (omega arith) (eq-eqb _ newline last) in
    let k : length piece - 1 ≡ i = omega arith in
    let part : i ≤ length piece = omega arith in
    let line : take (length piece - 1) piece ≡ take i left = ap (λ j. take j piece) k ∙ sym (take-append-le i piece after part) ∙ ap (take i) (sym e) in
    let long : length (take (length piece - 1) piece) + 1 ≡ length piece = omega (arith, length-take-le (length piece - 1) piece (omega arith)) in
    record {
      some = some;
      first = line ∙ ap (λ j. take j left) (sym first) ∙ sym (split_first newline [] left refl);
      after = sym (ap (λ j. drop j left) long ∙ ap (drop (length piece)) e ∙ drop-append_seam piece after);
    }

module _ (s left line after : List ℕ) (at n : ℕ) (l : LeftAt s left at n) (f : FirstLine left line after) where
  left_width : length left ≡ length s - at
  left_width = ap length l.is ∙ length-drop at s

  pub left_lines : lines left ≡ line ∷ lines after
  left_lines =
      let z : 0 + length line + 1 ≡ length line + 1 = omega arith in
      line_more left line 0 f.first f.some ∙ ap (λ k. line ∷ lines (drop k left)) z ∙ ap (λ t. line ∷ lines t) (sym f.after)

  -- the next line, where the text ends in 0a
  pub left_on : get_or s (length s - 1) 0 ≡ newline → LeftAt s after (at + length line + 1) (n + 1)
  left_on z =
      let first : line ≡ get_or (lines (drop at s)) 0 [] = f.first ∙ ap (λ t. get_or (lines t) 0 []) l.is in
      let some : at < length s = omega (arith, f.some, left_width) in
      let end : at + length line < length s = line_ends s line at first some z in
      let next : at + (length line + 1) ≡ at + length line + 1 = omega arith in
      record {
        is = f.after ∙ ap (drop (length line + 1)) l.is ∙ drop-drop (length line + 1) at s ∙ ap (λ k. drop k s) next;
        inside = omega arith;
        start = start_next s line at first end n l.start;
      }

  -- line by line it is read as w, and passes or is refused
  pub refusal_on : (least a : ℕ) → (read_word least (row_of 2 line)).question ≡ 0 → a ≡ (word_of (row_of 2 line)).address
      → words_refusal s (at + length line + 1) (a + 1) (lines after) ≡ words_refusal s at least (lines left)
  unfolding words_refusal
  refusal_on least a z e =
      ap (λ k. words_refusal s (at + length line + 1) (k + 1) (lines after)) (e ∙ sym (read_is least (row_of 2 line)).0)
      ∙ sym (ap (words_refusal s at least) left_lines ∙ rw (eq-eqb (read_word least (row_of 2 line)).question 0 z))

  pub refusal_stop : (least q : ℕ) → q ≡ (read_word least (row_of 2 line)).question → (q ≡ 0 → ⊥) → refusal q n ≡ words_refusal s at least (lines left)
  unfolding words_refusal
  refusal_stop least q e z =
      let y : (read_word least (row_of 2 line)).question ≡ 0 → ⊥ = λ u. z (e ∙ u) in
      ap (refusal q) l.start.counted
      ∙ ap (λ k. refusal k (line_number s at)) e
      ∙ sym (ap (words_refusal s at least) left_lines ∙ rw (ne_eqb (read_word least (row_of 2 line)).question 0 y))

  pub memory_on : (mem now : List ℕ) (w : WordLine) → w ≡ word_of (row_of 2 line) → now ≡ written mem w.address 0 4 w.word
      → memory_of now (words_of (lines after)) ≡ memory_of mem (words_of (lines left))
  unfolding memory_of
  memory_on mem now w e m =
      ap (λ k. memory_of k (words_of (lines after))) (m ∙ ap (placed mem) e) ∙ sym (ap (λ ls. memory_of mem (words_of ls)) left_lines)

pub none_left : (xs : List ℕ) → length xs ≡ 0 → xs ≡ []
none_left [] e = refl
none_left (x ∷ xs) e = let z : ⊥ = omega arith in absurd z

pub refusal_off : (s left : List ℕ) (at least : ℕ) → left ≡ [] → words_refusal s at least (lines left) ≡ refusal 0 0
unfolding words_refusal
refusal_off s left at least e = ap (words_refusal s at least) (ap lines e ∙ lines_none)

pub memory_off : (left mem : List ℕ) → left ≡ [] → memory_of mem (words_of (lines left)) ≡ mem
unfolding memory_of
memory_off left mem e = ap (λ ls. memory_of mem (words_of ls)) (ap lines e ∙ lines_none)

-- ---- the whole sheet: refused as a file, refused at line 1, or read on from line 2
pub sheet_file : (s : List ℕ) → (file_no s ≡ 0 → ⊥) → sheet_refusal s ≡ file_refusal s
unfolding sheet_refusal
sheet_file s h = rw (ne_eqb (file_no s) 0 h)

module _ (s line : List ℕ) (h : file_no s ≡ 0) (e : line ≡ get_or (lines s) 0 []) where
  first_line : lines s ≡ line ∷ lines (drop (length line + 1) s)
  first_line =
      let z : 0 + length line + 1 ≡ length line + 1 = omega arith in
      line_more s line 0 e (file_whole s h).0 ∙ ap (λ k. line ∷ lines (drop k s)) z

  refused_lines : sheet_refusal s ≡ lines_refusal s (line ∷ lines (drop (length line + 1) s))
  unfolding sheet_refusal
  refused_lines = rw (eq-eqb (file_no s) 0 h) (ap (lines_refusal s) first_line)

  pub sheet_setup : ((read_setup (setup_row line)).question ≡ 0 → ⊥) → sheet_refusal s ≡ refusal (read_setup (setup_row line)).question 1
  unfolding lines_refusal
  sheet_setup j = refused_lines ∙ rw (ne_eqb _ 0 j, number_first s)

  pub sheet_words : (read_setup (setup_row line)).question ≡ 0
      → sheet_refusal s ≡ words_refusal s (length line + 1) 0 (lines (drop (length line + 1) s))
  unfolding lines_refusal
  sheet_words j = refused_lines ∙ rw (eq-eqb _ 0 j)

  pub word_lines : drop 1 (lines s) ≡ lines (drop (length line + 1) s)
  word_lines = ap (drop 1) first_line

  -- line 2 begins after the end of line 1
  pub second_line : (length line + 1 ≤ length s) × LineStart s (length line + 1) 2
  second_line =
      let w = file_whole s h in
      let k : 0 + length line < length s = line_ends s line 0 e w.0 w.2 in
      let z : 0 + length line + 1 ≡ length line + 1 = omega arith in
      (omega arith, rw z at (start_next s line 0 e k 1 (start_first s)))
