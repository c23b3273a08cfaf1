-- Rows one after another.
use mathlib.Core.Path.{◌≡◌, refl, ap, sym, ◌∙◌}
use mathlib.Core.List.{List, [], ◌∷◌, ◌++◌, append_assoc, append-nil}
use Prim.Native.Nat.{ℕ, suc, ◌+◌, ◌<◌, ◌≤◌}
use native.Mathlib.Numerals.{add-one}
use native.Mathlib.Omega.{arith}
use lib.ListN.{length, get_or, take}
use lib.Seq.{take-suc, take_all, length-take-le}
use Rattle.text.specs.Scan.{newline}
use Rattle.text.specs.Split.{join_line, join_lines}
use Rattle.report.specs.Report.{register_line, register_lines}

pub rows_append : (rs qs : List (List (List ℕ))) → join_lines (rs ++ qs) ≡ join_lines rs ++ join_lines qs
rows_append [] qs = refl
rows_append (r ∷ rs) qs = ap (λ t. join_line r ++ (newline ∷ t)) (rows_append rs qs) ∙ sym (append_assoc (join_line r) (newline ∷ join_lines rs) (join_lines qs))

-- ---- the lines of a register more
lines_push : (i : ℕ) (xs : List ℕ) (v : ℕ) → register_lines i (xs ++ (v ∷ [])) ≡ register_lines i xs ++ register_line (i + length xs) v
unfolding register_lines
lines_push i [] v = let e : i ≡ i + 0 = omega arith in append-nil (register_line i v) ∙ ap (λ k. register_line k v) e
lines_push i (x ∷ xs) v =
    let e : i + 1 + length xs ≡ i + suc (length xs) = omega arith in
    ap (λ l. register_line i x ++ l) (lines_push (i + 1) xs v)
    ∙ sym (append_assoc (register_line i x) (register_lines (i + 1) xs) (register_line (i + 1 + length xs) v))
    ∙ ap (λ k. (register_line i x ++ register_lines (i + 1) xs) ++ register_line k v) e

-- the registers before register i, and itself
pub registers_on : (i : ℕ) (x : List ℕ) → i < length x
    → join_lines (register_lines 0 (take i x)) ++ join_lines (register_line i (get_or x i 0)) ≡ join_lines (register_lines 0 (take (i + 1) x))
registers_on i x h =
    let few : i ≤ length x = omega arith in
    let n : 0 + length (take i x) ≡ i = omega (arith, length-take-le i x few) in
    let more : take (i + 1) x ≡ take i x ++ (get_or x i 0 ∷ []) = ap (λ k. take k x) (add-one i) ∙ take-suc x i 0 h in
    sym (rows_append (register_lines 0 (take i x)) (register_line i (get_or x i 0)))
    ∙ ap (λ k. join_lines (register_lines 0 (take i x) ++ register_line k (get_or x i 0))) (sym n)
    ∙ ap join_lines (sym (lines_push 0 (take i x) (get_or x i 0)))
    ∙ ap (λ xs. join_lines (register_lines 0 xs)) (sym more)

pub registers_none : (x : List ℕ) → [] ≡ join_lines (register_lines 0 (take 0 x))
unfolding register_lines
registers_none x = refl

pub registers_all : (i : ℕ) (x : List ℕ) → length x ≤ i → join_lines (register_lines 0 (take i x)) ≡ join_lines (register_lines 0 x)
registers_all i x h = ap (λ xs. join_lines (register_lines 0 xs)) (take_all i x h)
