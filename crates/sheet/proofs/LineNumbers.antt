-- Which question and which line a refusal names, in the reader's words (01, "The first no is printed", "Lines count from 1"; 02, Job 3).
-- 31 to 35 name a line of the sheet: that of the first foreign byte, or the first line that fails; and its number is one more than the
-- 0a bytes before its first byte.
use mathlib.Core.Path.{◌≡◌, refl, ap, sym, ◌∙◌}
use mathlib.Core.Bool.{Bool, true, false, false≢true, cond}
use mathlib.Core.List.{List, [], ◌∷◌}
use mathlib.Core.Logic.{◌⊎◌, inl, inr}
use Prim.Native.Nat.{ℕ, zero, suc, ◌+◌, ◌-◌, ◌<◌, ◌≤◌}
use native.Mathlib.Omega.{arith}
use lib.Dec.{eqb, leb}
use lib.ListN.{length, get_or, drop, take, length-drop, drop_of_length-le}
use borrow.Author.Tests.{leb-true, leb-false, eqb-true, eqb-false, eq-eqb, ne_eqb}
use Rattle.text.specs.Scan.{newline, first_that, count, line_number, LineStart}
use Rattle.text.specs.Split.{lines, row_of}
use Rattle.text.proofs.Scanning.{first_is, first_le, first_before}
use Rattle.text.proofs.Splitting.{line_more, line_ends, lines_none}
use Rattle.text.proofs.LineNumbers.{LineAt, line_there, lines_from, line_end, number_within, start_first, start_next}
use Rattle.setup.specs.Setup.{setup_row, read_setup}
use Rattle.sheet.specs.Words.{word_of, read_word}
use Rattle.sheet.specs.Sheet.{Refusal, refusal, whole, foreign, file_no, file_refusal, words_refusal, sheet_refusal}
use Rattle.sheet.proofs.Laws.{read_is, whole_parts, file_whole, sheet_file, sheet_setup, sheet_words, second_line}

-- what the address of line j + 2 is to be at least: 0 in line 2, then one more than the address in the line before
abbrev pub least_at : List (List ℕ) → ℕ → ℕ
least_at ls zero = 0
least_at ls (suc j) = (word_of (row_of 2 (get_or ls (suc j) []))).address + 1

-- the question of 32 to 35 that line k + 1 fails first, 0 where it fails none
abbrev pub line_question : List (List ℕ) → ℕ → ℕ
line_question ls zero = (read_setup (setup_row (get_or ls 0 []))).question
line_question ls (suc j) = (read_word (least_at ls j) (row_of 2 (get_or ls (suc j) []))).question

-- the first k lines pass
abbrev pub Passed : List (List ℕ) → ℕ → Type 0
Passed ls k = (i : ℕ) → i < k → line_question ls i ≡ 0

-- why a line is named: it has the first foreign byte; or it fails the question, and every line before it passes
abbrev pub Why : List ℕ → ℕ → List ℕ → Refusal → Type 0
Why s at line r =
    ((r.question ≡ 31) × (at ≤ first_that foreign s) × (first_that foreign s < at + length line))
    ⊎ ((file_no s ≡ 0) × (r.question ≡ line_question (lines s) (r.lineno - 1)) × Passed (lines s) (r.lineno - 1))

pub record RefusedLine (s : List ℕ) (r : Refusal) : Type 0 where
  pub at : ℕ
  pub line : List ℕ
  pub there : LineAt s at line r.lineno
  pub why : Why s at line r

-- ---- a text that ends in 0a, of which a line begins at a position
abbrev Ended : List ℕ → Type 0
Ended s = get_or s (length s - 1) 0 ≡ newline

-- its first line l, and the lines ls after it
module _ (s l : List ℕ) (ls : List (List ℕ)) (at : ℕ) (e : lines (drop at s) ≡ l ∷ ls) (z : Ended s) where
  first : l ≡ get_or (lines (drop at s)) 0 []
  first = sym (ap (λ ps. get_or ps 0 []) e)

  some_left : at < length s
  some_left = by (leb (length s) at) refl
    where
      by : (t : Bool) → leb (length s) at ≡ t → at < length s
      by true f =
          let none : [] ≡ l ∷ ls = sym (ap lines (drop_of_length-le s (leb-true (length s) at f)) ∙ lines_none) ∙ e in
          absurd (let n : 0 ≡ 1 + length ls = ap length none ∙ omega arith in omega (arith, n))
      by false f = leb-false (length s) at f

  inside : at + length l < length s
  inside = line_ends s l at first some_left z

  lines_next : lines (drop (at + length l + 1) s) ≡ ls
  lines_next = ap (drop 1) (sym (line_more s l at first some_left) ∙ e)

  next : (n : ℕ) → LineStart s at n → LineStart s (at + length l + 1) (n + 1)
  next = start_next s l at first inside

  numbered : (n : ℕ) → LineStart s at n → LineAt s at l n
  numbered n = line_there s l at n first inside

-- ---- the line that a position lies in
record Around (s : List ℕ) (p : ℕ) : Type 0 where
  at : ℕ
  line : List ℕ
  n : ℕ
  there : LineAt s at line n
  number : n ≡ line_number s p
  from : at ≤ p
  to : p ≤ at + length line
  ends : get_or s (at + length line) 0 ≡ newline

around : (s : List ℕ) (p at n : ℕ) (ls : List (List ℕ)) → lines (drop at s) ≡ ls → Ended s → at ≤ p → p < length s → LineStart s at n → Around s p
around s p at n [] e z h k b =
    let l = get_or (lines (drop at s)) 0 [] in
    let none : [] ≡ l ∷ lines (drop (at + length l + 1) s) = sym e ∙ line_more s l at refl (omega arith) in
    absurd (let m : 0 ≡ 1 + length (lines (drop (at + length l + 1) s)) = ap length none ∙ omega arith in omega (arith, m))
around s p at n (l ∷ ls) e z h k b =
    by (leb p (at + length l)) refl (λ g. around s p (at + length l + 1) (n + 1) ls (lines_next s l ls at e z) z g k (next s l ls at e z n b))
  where
    by : (t : Bool) → leb p (at + length l) ≡ t → (at + length l + 1 ≤ p → Around s p) → Around s p
    by true f go =
        let to = leb-true p (at + length l) f in
        record {
          at = at;
          line = l;
          n = n;
          there = numbered s l ls at e z n b;
          number = b.counted ∙ sym (number_within s l at (first s l ls at e z) (inside s l ls at e z) p h to);
          from = h;
          to = to;
          ends = line_end s l at (first s l ls at e z) (inside s l ls at e z);
        }
    by false f go = go (omega (arith, leb-false p (at + length l) f))

-- ---- 30 and 31, of the file

-- "0 for 30"
pub not_whole : (s : List ℕ) → whole s ≡ false → sheet_refusal s ≡ refusal 30 0
unfolding sheet_refusal file_no
not_whole s e = rw e

-- "for 31 the line of the first such byte"
pub foreign_first : (s : List ℕ) (p : ℕ) → whole s ≡ true → p < length s → foreign (get_or s p 0) ≡ true → ((i : ℕ) → i < p → foreign (get_or s i 0) ≡ false)
    → sheet_refusal s ≡ refusal 31 (line_number s p)
unfolding sheet_refusal file_no
foreign_first s p e h b f =
    let le = first_before foreign s p h b in
    let ge : first_that foreign s < p → ⊥ = λ k. false≢true (sym (f (first_that foreign s) k) ∙ first_is foreign s (omega arith)) in
    let found : first_that foreign s ≡ p = omega (arith, le, ge) in
    rw (e, found, ne_eqb p (length s) (λ z. omega (arith, z)))

pub foreign_nowhere : (s : List ℕ) → whole s ≡ true → ((i : ℕ) → i < length s → foreign (get_or s i 0) ≡ false) → file_no s ≡ 0
unfolding file_no
foreign_nowhere s e f =
    let none : first_that foreign s < length s → ⊥ = λ k. false≢true (sym (f (first_that foreign s) k) ∙ first_is foreign s k) in
    let past : first_that foreign s ≡ length s = omega (arith, none, first_le foreign s) in
    rw (e, eq-eqb (first_that foreign s) (length s) past)

-- the line of that byte
file_31 : (s : List ℕ) → 31 ≤ file_no s → (file_no s ≡ 31) × (first_that foreign s < length s) × Ended s
unfolding file_no
file_31 s h = by (whole s) (eqb (first_that foreign s) (length s)) refl refl h
  where
    no : Bool → Bool → ℕ
    no t u = cond t (cond u 0 31) 30

    by : (t u : Bool) → whole s ≡ t → eqb (first_that foreign s) (length s) ≡ u → 31 ≤ no t u
        → (no t u ≡ 31) × (first_that foreign s < length s) × Ended s
    by false u e f k = let z : ⊥ = omega arith in absurd z
    by true true e f k = let z : ⊥ = omega arith in absurd z
    by true false e f k = (refl, omega (arith, eqb-false (first_that foreign s) (length s) f, first_le foreign s), (whole_parts s e).2)

foreign_refused : (s : List ℕ) → 31 ≤ file_no s → RefusedLine s (file_refusal s)
foreign_refused s h =
    let f = file_31 s h in
    let p = first_that foreign s in
    let a = around s p 0 1 (lines s) refl f.2 (omega arith) f.1 (start_first s) in
    let n : (file_refusal s).lineno ≡ line_number s p = rw (f.0, ne_eqb p (length s) (λ z. omega (arith, z, f.1))) in
    let t : foreign (get_or s p 0) ≡ true = first_is foreign s f.1 in
    let off : p ≡ a.at + length a.line → ⊥ = λ z. false≢true (sym (ap foreign a.ends) ∙ sym (ap (λ k. foreign (get_or s k 0)) z) ∙ t) in
    record {
      at = a.at;
      line = a.line;
      there = rw (n ∙ sym a.number) a.there;
      why = inl (f.0, a.from, omega (arith, a.to, off));
    }

-- ---- 32 to 35: no line fails, or the first that does is named
abbrev pub Decided : List ℕ → Refusal → Type 0
Decided s r = (r.question ≡ 0 → Passed (lines s) (length (lines s))) × ((r.question ≡ 0 → ⊥) → RefusedLine s r)

passed_more : (ls : List (List ℕ)) (k : ℕ) → Passed ls k → line_question ls k ≡ 0 → Passed ls (suc k)
passed_more ls k f e i h = by (eqb i k) refl
  where
    by : (t : Bool) → eqb i k ≡ t → line_question ls i ≡ 0
    by true g = ap (line_question ls) (eqb-true i k g) ∙ e
    by false g = f i (let n = eqb-false i k g in omega (arith, n))

-- the word lines from line j + 2 on, which begins at position `at`
words_decided : (s : List ℕ) (at j least : ℕ) (ls : List (List ℕ)) → lines (drop at s) ≡ ls → file_no s ≡ 0 → LineStart s at (j + 2) → least ≡ least_at (lines s) j
    → Passed (lines s) (suc j) → Decided s (words_refusal s at least ls)
unfolding words_refusal
words_decided s at j least [] e passes b m f =
    let k : count newline (take at s) ≡ suc j = omega (arith, b.counted) in
    let d : drop (suc j) (lines s) ≡ [] = sym (ap (λ n. drop n (lines s)) k) ∙ sym (lines_from s at b.begins) ∙ e in
    let n : length (lines s) - suc j ≡ 0 = sym (length-drop (suc j) (lines s)) ∙ ap length d in
    ((λ y i h. f i (omega (arith, n, h))), λ y. absurd (y refl))
words_decided s at j least (l ∷ ls) e passes b m f =
    by (eqb w 0) refl _ (words_decided s (at + length l + 1) (suc j) ((read_word least (row_of 2 l)).address + 1) ls (lines_next s l ls at e z) passes after above)
  where
    z : Ended s
    z = (file_whole s passes).2

    w : ℕ
    w = (read_word least (row_of 2 l)).question

    place : j + 2 - 1 ≡ suc j
    place = omega arith

    it : get_or (lines s) (suc j) [] ≡ l
    it = sym (ap (λ k. get_or (lines s) k []) place) ∙ (numbered s l ls at e z (j + 2) b).nth

    asked : w ≡ line_question (lines s) (suc j)
    asked = ap (λ k. (read_word k (row_of 2 l)).question) m ∙ sym (ap (λ t. (read_word (least_at (lines s) j) (row_of 2 t)).question) it)

    above : (read_word least (row_of 2 l)).address + 1 ≡ least_at (lines s) (suc j)
    above = ap (λ k. k + 1) ((read_is least (row_of 2 l)).0 ∙ sym (ap (λ t. (word_of (row_of 2 t)).address) it))

    after : LineStart s (at + length l + 1) (suc j + 2)
    after = let n : j + 2 + 1 ≡ suc j + 2 = omega arith in rw n at (next s l ls at e z (j + 2) b)

    by : (t : Bool) → eqb w 0 ≡ t → (later : Refusal) → (Passed (lines s) (suc (suc j)) → Decided s later) → Decided s (cond t later (refusal w (line_number s at)))
    by true g later go = go (passed_more (lines s) (suc j) f (sym asked ∙ eqb-true w 0 g))
    by false g later go =
        rw (ap (refusal w) (sym b.counted)) (
          (λ y. absurd (eqb-false w 0 g y)),
          λ y. record {
            at = at;
            line = l;
            there = numbered s l ls at e z (j + 2) b;
            why = inr (passes, asked ∙ ap (line_question (lines s)) (sym place), λ i h. f i (omega (arith, place, h)));
          },
        )

pub lines_decided : (s : List ℕ) → file_no s ≡ 0 → Decided s (sheet_refusal s)
lines_decided s f = by (eqb (read_setup (setup_row line)).question 0) refl
  where
    line : List ℕ
    line = get_or (lines s) 0 []

    by : (t : Bool) → eqb (read_setup (setup_row line)).question 0 ≡ t → Decided s (sheet_refusal s)
    by true e =
        let passed : line_question (lines s) 0 ≡ 0 = eqb-true _ 0 e in
        let only : Passed (lines s) 1 = λ i h. let n : i ≡ 0 = omega arith in ap (line_question (lines s)) n ∙ passed in
        rw (sheet_words s line f refl passed)
        (words_decided s (length line + 1) 0 0 (lines (drop (length line + 1) s)) refl f (second_line s line f refl).1 refl only)
    by false e =
        let no = eqb-false _ 0 e in
        let inside = line_ends s line 0 refl (file_whole s f).0 (file_whole s f).2 in
        rw (sheet_setup s line f refl no) (
          (λ y. absurd (no y)),
          λ y. record {
            at = 0;
            line = line;
            there = line_there s line 0 1 refl inside (start_first s);
            why = inr (f, refl, λ i h. (let z : ⊥ = omega arith in absurd z));
          },
        )

-- ---- every refusal of 31 to 35
pub refused_line : (s : List ℕ) → 31 ≤ (sheet_refusal s).question → RefusedLine s (sheet_refusal s)
refused_line s h = by (eqb (file_no s) 0) refl
  where
    by : (t : Bool) → eqb (file_no s) 0 ≡ t → RefusedLine s (sheet_refusal s)
    by true e = (lines_decided s (eqb-true (file_no s) 0 e)).1 (λ z. omega (arith, z, h))
    by false e =
        let file = sheet_file s (eqb-false (file_no s) 0 e) in
        rw file (foreign_refused s (omega (arith, h, ap (λ r. r.question) file)))

-- ---- and what is not refused: every byte is a sheet's, and every line passes
pub passed_lines : (s : List ℕ) → (sheet_refusal s).question ≡ 0 → (file_no s ≡ 0) × Passed (lines s) (length (lines s))
passed_lines s h = by (eqb (file_no s) 0) refl
  where
    by : (t : Bool) → eqb (file_no s) 0 ≡ t → (file_no s ≡ 0) × Passed (lines s) (length (lines s))
    by true e = (eqb-true (file_no s) 0 e, (lines_decided s (eqb-true (file_no s) 0 e)).0 h)
    by false e = let no = eqb-false (file_no s) 0 e in absurd (no (sym (ap (λ r. r.question) (sheet_file s no)) ∙ h))
