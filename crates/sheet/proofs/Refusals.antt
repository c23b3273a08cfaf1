-- Two different refusals never print the same line.
use mathlib.Core.Path.{◌≡◌, refl, sym, ◌∙◌}
use mathlib.Core.List.{List, [], ◌∷◌, append_assoc}
use Prim.Native.Nat.{ℕ, ◌^◌, ◌<◌}
use lib.Dec.{lit≤}
use Rattle.text.specs.Scan.{count, newline, comma}
use Rattle.text.specs.Split.{join_lines}
use Rattle.text.specs.Number.{decimal}
use Rattle.text.proofs.RoundTrip.{Clean, lines_same, decimal_free, decimal_same}
use Rattle.sheet.specs.Sheet.{sheet_word, refusal_text}

-- the line is one row of three fields
abbrev pub row : ℕ → ℕ → List (List ℕ)
row n l = sheet_word ∷ decimal n ∷ decimal l ∷ []

pub refusal_line : (n l : ℕ) → refusal_text n l ≡ join_lines (row n l ∷ [])
refusal_line n l = simp append_assoc

word_free : (count comma sheet_word ≡ 0) × (count newline sheet_word ≡ 0)
unfolding count
word_free = (refl, refl)

pub row_clean : (n l : ℕ) → Clean (row n l ∷ [])
row_clean n l =
    let a = decimal_free n in
    let b = decimal_free l in
    (lit≤ tt, (word_free.0, (a.0, (b.0, tt))), (word_free.1, (a.1, (b.1, tt))), tt)

pub refusal_same : (n l m k : ℕ) → n < 2 ^ 64 → l < 2 ^ 64 → m < 2 ^ 64 → k < 2 ^ 64 → refusal_text n l ≡ refusal_text m k → (n ≡ m) × (l ≡ k)
refusal_same n l m k hn hl hm hk e =
    let f : row n l ∷ [] ≡ row m k ∷ [] =
    lines_same (row n l ∷ []) (row m k ∷ []) (row_clean n l) (row_clean m k) (sym (refusal_line n l) ∙ e ∙ refusal_line m k) in
    let a : decimal n ≡ decimal m = cc in
    let b : decimal l ≡ decimal k = cc in
    (decimal_same n m hn hm a, decimal_same l k hl hk b)
