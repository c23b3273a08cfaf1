-- Fields of a number side by side, and pieces laid side by side.
-- Assumes nothing.
use Rattle.std.proofs.Common.{◌≡◌, ℕ, ◌+◌, ◌*◌, ◌/◌, ◌%◌, ◌^◌, ◌<◌, List, [], ◌∷◌, sym, ap, ◌∙◌, ap₂, mod-lt, mod-eq_of_lt, zero-add, div-one, pow_pos, pow-add, shr-shr}
use native.Mathlib.Nat.{mod-one}
use lib.Pow.{mod-pow-add, high, low}
use lib.Arith.{digits_lt}
use Rattle.words.specs.Word.{field, width, lay}

pub field_lt : (x k n : ℕ) → field x k n < 2 ^ n
field_lt x k n = mod-lt (x / 2 ^ k) (pow_pos n)

-- all the bits of a number
pub field_all : (x n : ℕ) → x < 2 ^ n → field x 0 n ≡ x
field_all x n h = rw div-one (mod-eq_of_lt h)

-- a field is its high part above its low part
pub field_cut : (x k low high : ℕ) → field x (k + low) high * 2 ^ low + field x k low ≡ field x k (high + low)
field_cut x k low high =
    ap (λ (y : ℕ). y % 2 ^ high * 2 ^ low + field x k low) (sym (shr-shr x k low)) ∙ sym (mod-pow-add (x / 2 ^ k) high low)

-- a number has one high and one low part
pub parts_unique : (m : ℕ) {p q p' q' : ℕ} → q < 2 ^ m → q' < 2 ^ m → p * 2 ^ m + q ≡ p' * 2 ^ m + q' → (p ≡ p') × (q ≡ q')
parts_unique m {p} {q} {p'} {q'} h h' e = (
  sym (high p m h) ∙ ap (λ (n : ℕ). n / 2 ^ m) e ∙ high p' m h',
  sym (low p m h) ∙ ap (λ (n : ℕ). n % 2 ^ m) e ∙ low p' m h',
)

-- the parts of a field that is known
pub field_parts : (x k low high : ℕ) {p q : ℕ} → q < 2 ^ low → field x k (high + low) ≡ p * 2 ^ low + q
    → (field x (k + low) high ≡ p) × (field x k low ≡ q)
field_parts x k low high h e = parts_unique low (field_lt x k low) h (field_cut x k low high ∙ e)

-- two fields put side by side are read out again
pub field_put : (low high : ℕ) {p q : ℕ} → p < 2 ^ high → q < 2 ^ low
    → (field (p * 2 ^ low + q) low high ≡ p) × (field (p * 2 ^ low + q) 0 low ≡ q)
field_put low high {p} {q} h l =
    let x = p * 2 ^ low + q in
    let b : x < 2 ^ (high + low) = rw (pow-add 2 high low) (digits_lt h l) in
    let r = field_parts x 0 low high l (field_all x (high + low) b) in
    (ap (λ (k : ℕ). field x k high) (sym (zero-add low)) ∙ r.0, r.1)

-- two fields of a number, put side by side, are the number
pub field_join : (x low high : ℕ) {p q : ℕ} → x < 2 ^ (high + low) → p ≡ field x low high → q ≡ field x 0 low → p * 2 ^ low + q ≡ x
field_join x low high h e f =
    ap₂ (λ (u v : ℕ). u * 2 ^ low + v) (e ∙ ap (λ (k : ℕ). field x k high) (sym (zero-add low))) f
    ∙ field_cut x 0 low high ∙ field_all x (high + low) h

-- each piece fits its width
abbrev pub Fit : List (ℕ × ℕ) → Type 0
Fit [] = Unit {0}
Fit (p ∷ ps) = (p.1 < 2 ^ p.0) × Fit ps

-- each piece is that part of x
abbrev pub Are : ℕ → List (ℕ × ℕ) → Type 0
Are x [] = Unit {0}
Are x (p ∷ ps) = (field x (width ps) p.0 ≡ p.1) × Are x ps

pub lay_lt : (ps : List (ℕ × ℕ)) → Fit ps → lay ps < 2 ^ width ps
lay_lt [] h = pow_pos 0
lay_lt (p ∷ ps) h = rw (pow-add 2 p.0 (width ps)) (digits_lt h.0 (lay_lt ps h.1))

-- pieces are read out of the number that they make
pub lay_read : (x : ℕ) (ps : List (ℕ × ℕ)) → Fit ps → field x 0 (width ps) ≡ lay ps → Are x ps
lay_read x [] h e = tt
lay_read x (p ∷ ps) h e =
    let q = field_parts x 0 (width ps) p.0 (lay_lt ps h.1) e in
    (ap (λ (k : ℕ). field x k p.0) (sym (zero-add (width ps))) ∙ q.0, lay_read x ps h.1 q.1)

-- and make the number that they are read out of
pub lay_write : (x : ℕ) (ps : List (ℕ × ℕ)) → Are x ps → lay ps ≡ field x 0 (width ps)
lay_write x [] h = sym (mod-one (x / 2 ^ 0))
lay_write x (p ∷ ps) h =
    ap₂ (λ (v n : ℕ). v * 2 ^ width ps + n)
    (sym h.0 ∙ ap (λ (k : ℕ). field x k p.0) (sym (zero-add (width ps)))) (lay_write x ps h.1)
    ∙ field_cut x 0 (width ps) p.0
