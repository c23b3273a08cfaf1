-- The lines of a text after its first one.
use Rattle.std.proofs.Common.{◌≡◌, ◌+◌, ℕ, List, [], ◌∷◌, length, get_or, take, drop, refl, sym, ap, ◌∙◌, arith}
use Rattle.text.specs.Scan.{first_that, newline}
use Rattle.text.specs.Split.{split, lines}
use Rattle.text.proofs.Scanning.{position}
use Rattle.text.proofs.Splitting.{split_first, line_width, line_more}

-- what follows a text's first 0a has the other lines; a text without one has none
pub other_lines : (s : List ℕ) → lines (drop (position newline s + 1) s) ≡ drop 1 (lines s)
unfolding split first_that
other_lines [] = refl
other_lines (b ∷ bs) =
    let s = b ∷ bs in
    let line = take (position newline s) s in
    let e : line ≡ get_or (lines s) 0 [] = sym (split_first newline [] s refl) in
    let n : 0 + length line + 1 ≡ position newline s + 1 = omega (arith, line_width s line 0 e) in
    sym (ap (drop 1) (line_more s line 0 e (omega arith)) ∙ ap (λ k. lines (drop k s)) n)
