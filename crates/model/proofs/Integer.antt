-- What the definitions of RV64M come to: laws for all operands, over the width, and rows of operands at the edges beside QEMU's
-- results.
-- Assumes nothing.
use mathlib.Core.Path.{◌≡◌, refl, sym, ap, ap₂, ◌∙◌}
use mathlib.Core.Bool.{not, xor}
use mathlib.Core.List.{List, [], ◌∷◌, map}
use Prim.Native.Nat.{ℕ, ◌+◌, ◌-◌, ◌*◌, ◌/◌, ◌%◌, ◌^◌, ◌<◌}
use native.Mathlib.Nat.{mod-eq_of_lt, mod-lt, div-add-mod, pos_of_ne-zero}
use lib.IntN.{ℤ, pos, nat_abs, ◌*ℤ◌}
use lib.Signed.{non_neg}
use Rattle.words.specs.Word.{signed, word, sext}
use Rattle.words.specs.Integer.{low_half, high_half, quotient, remainder}
use Rattle.words.proofs.Residues.{word_signed}
use Rattle.words.proofs.Products.{low_product}
use Rattle.words.proofs.Quotients.{signed_by, quotient_unsigned, remainder_unsigned, signed_quotient, signed_remainder}
use Rattle.words.proofs.Exact.{whole_signed, whole_mixed, whole_unsigned, by_zero, overflow}
use Rattle.instructions.specs.declared.kind.RegisterKind.{RegisterKind}
use Rattle.instructions.specs.declared.kind.RegisterKind.TheVariants.{Mul, Mulh, Mulhsu, Mulhu, Div, Divu, Rem, Remu}
use Rattle.instructions.specs.declared.kind.RegisterWordKind.{RegisterWordKind}
use Rattle.instructions.specs.declared.kind.RegisterWordKind.TheVariants.{Mulw, Divw, Divuw, Remw, Remuw}
use Rattle.model.specs.Arithmetic.{operate, operate_word, of_register_word}

-- ---- products

-- the low half is the same whichever way the operands are read: y and z have their bits
low_same : (w a b : ℕ) (y z : ℤ) → a < 2 ^ w → b < 2 ^ w → word w y ≡ a → word w z ≡ b → operate w Mul a b ≡ low_half w (y *ℤ z)
low_same w a b y z h l p q =
    low_product w (signed w a) (signed w b)
    ∙ ap₂ (λ (m n : ℕ). m * n % 2 ^ w) (word_signed w a h ∙ sym p) (word_signed w b l ∙ sym q)
    ∙ sym (low_product w y z)

-- the high half above the low one stands for the product, "for signed×signed, unsigned×unsigned, and signed×unsigned"
pub mulh_exact : (w a b : ℕ) → 0 < w → a < 2 ^ w → b < 2 ^ w
    → signed (w + w) (operate w Mulh a b * 2 ^ w + operate w Mul a b) ≡ signed w a *ℤ signed w b
mulh_exact w a b h k l = whole_signed w a b h k l

pub mulhsu_exact : (w a b : ℕ) → 0 < w → a < 2 ^ w → b < 2 ^ w
    → signed (w + w) (operate w Mulhsu a b * 2 ^ w + operate w Mul a b) ≡ signed w a *ℤ pos b
mulhsu_exact w a b h k l =
    ap (λ (n : ℕ). signed (w + w) (operate w Mulhsu a b * 2 ^ w + n)) (low_same w a b (signed w a) (pos b) k l (word_signed w a k) (mod-eq_of_lt l))
    ∙ whole_mixed w a b h k l

pub mulhu_exact : (w a b : ℕ) → a < 2 ^ w → b < 2 ^ w → pos (operate w Mulhu a b * 2 ^ w + operate w Mul a b) ≡ pos (a * b)
mulhu_exact w a b k l =
    ap (λ (n : ℕ). pos (operate w Mulhu a b * 2 ^ w + n)) (low_same w a b (pos a) (pos b) k l (mod-eq_of_lt k) (mod-eq_of_lt l))
    ∙ whole_unsigned w a b k l

-- ---- quotients and remainders

-- "dividend = divisor × quotient + remainder", and the remainder is less than the divisor
pub divu_exact : (w a b : ℕ) → a < 2 ^ w → (b ≡ 0 → ⊥)
    → (b * operate w Divu a b + operate w Remu a b ≡ a) × (operate w Remu a b < b)
divu_exact w a b h z = rw (quotient_unsigned w a b h z, remainder_unsigned w a b h) (div-add-mod a b, mod-lt a (pos_of_ne-zero z))

-- signed: the quotient of the magnitudes, negative where the signs differ, and their remainder with the dividend's sign
pub div_exact : (w a b : ℕ) → b < 2 ^ w → (b ≡ 0 → ⊥)
    → operate w Div a b
    ≡ word w (signed_by (xor (not (non_neg (signed w a))) (not (non_neg (signed w b)))) (nat_abs (signed w a) / nat_abs (signed w b)))
div_exact w a b l z = sym (signed_quotient w a b refl refl refl refl l z)

pub rem_exact : (w a b : ℕ)
    → operate w Rem a b ≡ word w (signed_by (not (non_neg (signed w a))) (nat_abs (signed w a) % nat_abs (signed w b)))
rem_exact w a b = sym (signed_remainder w a b refl refl refl)

-- "Division by zero gives all ones as quotient and the dividend as remainder."
pub div_by_zero : (w a b : ℕ) → a < 2 ^ w → nat_abs (signed w b) ≡ 0 → (operate w Div a b ≡ 2 ^ w - 1) × (operate w Rem a b ≡ a)
div_by_zero w a b h z = by_zero w a (signed w a) (signed w b) (word_signed w a h) z

pub divu_by_zero : (w a : ℕ) → a < 2 ^ w → (operate w Divu a 0 ≡ 2 ^ w - 1) × (operate w Remu a 0 ≡ a)
divu_by_zero w a h = by_zero w a (pos a) (pos 0) (mod-eq_of_lt h) refl

-- "The most negative number divided by -1 gives itself, with remainder 0."
pub div_overflow : (w : ℕ) → 0 < w
    → (operate w Div (2 ^ (w - 1)) (2 ^ w - 1) ≡ 2 ^ (w - 1)) × (operate w Rem (2 ^ (w - 1)) (2 ^ w - 1) ≡ 0)
div_overflow w h = overflow w h

-- ---- rows: both signs, a divisor of 0, the most negative numbers by -1, upper halves that a word form does not look at

-- two operands, and the results of the eight kinds on 64 bits and of the five on 32, in the order of the lists below
record Row : Type 0 where
  rs1 : ℕ
  rs2 : ℕ
  whole : List ℕ
  word : List ℕ

abbrev kinds : List RegisterKind
kinds = Mul ∷ Mulh ∷ Mulhsu ∷ Mulhu ∷ Div ∷ Divu ∷ Rem ∷ Remu ∷ []

abbrev word_kinds : List RegisterWordKind
word_kinds = Mulw ∷ Divw ∷ Divuw ∷ Remw ∷ Remuw ∷ []

abbrev row : ℕ → ℕ → List ℕ → List ℕ → Row
row a b results words = record { rs1 = a; rs2 = b; whole = results; word = words }

abbrev computed : Row → Row
computed r =
    row r.rs1 r.rs2 (map (λ k. operate 64 k r.rs1 r.rs2) kinds)
    (map (λ k. operate_word (of_register_word k) r.rs1 r.rs2) word_kinds)

abbrev rows : List Row
rows =
    row 0x0 0x0
    (0x0 ∷ 0x0 ∷ 0x0 ∷ 0x0 ∷ 0xffffffffffffffff ∷ 0xffffffffffffffff ∷ 0x0 ∷ 0x0 ∷ [])
    (0x0 ∷ 0xffffffffffffffff ∷ 0xffffffffffffffff ∷ 0x0 ∷ 0x0 ∷ [])
    ∷ row 0x0 0x1
    (0x0 ∷ 0x0 ∷ 0x0 ∷ 0x0 ∷ 0x0 ∷ 0x0 ∷ 0x0 ∷ 0x0 ∷ [])
    (0x0 ∷ 0x0 ∷ 0x0 ∷ 0x0 ∷ 0x0 ∷ [])
    ∷ row 0x1 0x0
    (0x0 ∷ 0x0 ∷ 0x0 ∷ 0x0 ∷ 0xffffffffffffffff ∷ 0xffffffffffffffff ∷ 0x1 ∷ 0x1 ∷ [])
    (0x0 ∷ 0xffffffffffffffff ∷ 0xffffffffffffffff ∷ 0x1 ∷ 0x1 ∷ [])
    ∷ row 0x11 0x5
    (0x55 ∷ 0x0 ∷ 0x0 ∷ 0x0 ∷ 0x3 ∷ 0x3 ∷ 0x2 ∷ 0x2 ∷ [])
    (0x55 ∷ 0x3 ∷ 0x3 ∷ 0x2 ∷ 0x2 ∷ [])
    ∷ row 0xffffffffffffffef 0x5
    (0xffffffffffffffab ∷ 0xffffffffffffffff ∷ 0xffffffffffffffff ∷ 0x4 ∷ 0xfffffffffffffffd ∷ 0x333333333333332f ∷ 0xfffffffffffffffe ∷ 0x4 ∷ [])
    (0xffffffffffffffab ∷ 0xfffffffffffffffd ∷ 0x3333332f ∷ 0xfffffffffffffffe ∷ 0x4 ∷ [])
    ∷ row 0x11 0xfffffffffffffffb
    (0xffffffffffffffab ∷ 0xffffffffffffffff ∷ 0x10 ∷ 0x10 ∷ 0xfffffffffffffffd ∷ 0x0 ∷ 0x2 ∷ 0x11 ∷ [])
    (0xffffffffffffffab ∷ 0xfffffffffffffffd ∷ 0x0 ∷ 0x2 ∷ 0x11 ∷ [])
    ∷ row 0xffffffffffffffef 0xfffffffffffffffb
    (0x55 ∷ 0x0 ∷ 0xffffffffffffffef ∷ 0xffffffffffffffea ∷ 0x3 ∷ 0x0 ∷ 0xfffffffffffffffe ∷ 0xffffffffffffffef ∷ [])
    (0x55 ∷ 0x3 ∷ 0x0 ∷ 0xfffffffffffffffe ∷ 0xffffffffffffffef ∷ [])
    ∷ row 0x6 0x3
    (0x12 ∷ 0x0 ∷ 0x0 ∷ 0x0 ∷ 0x2 ∷ 0x2 ∷ 0x0 ∷ 0x0 ∷ [])
    (0x12 ∷ 0x2 ∷ 0x2 ∷ 0x0 ∷ 0x0 ∷ [])
    ∷ row 0xfffffffffffffffa 0x3
    (0xffffffffffffffee ∷ 0xffffffffffffffff ∷ 0xffffffffffffffff ∷ 0x2 ∷ 0xfffffffffffffffe ∷ 0x5555555555555553 ∷ 0x0 ∷ 0x1 ∷ [])
    (0xffffffffffffffee ∷ 0xfffffffffffffffe ∷ 0x55555553 ∷ 0x0 ∷ 0x1 ∷ [])
    ∷ row 0x6 0xfffffffffffffffd
    (0xffffffffffffffee ∷ 0xffffffffffffffff ∷ 0x5 ∷ 0x5 ∷ 0xfffffffffffffffe ∷ 0x0 ∷ 0x0 ∷ 0x6 ∷ [])
    (0xffffffffffffffee ∷ 0xfffffffffffffffe ∷ 0x0 ∷ 0x0 ∷ 0x6 ∷ [])
    ∷ row 0xfffffffffffffffa 0xfffffffffffffffd
    (0x12 ∷ 0x0 ∷ 0xfffffffffffffffa ∷ 0xfffffffffffffff7 ∷ 0x2 ∷ 0x0 ∷ 0x0 ∷ 0xfffffffffffffffa ∷ [])
    (0x12 ∷ 0x2 ∷ 0x0 ∷ 0x0 ∷ 0xfffffffffffffffa ∷ [])
    ∷ row 0x2 0xfffffffffffffff9
    (0xfffffffffffffff2 ∷ 0xffffffffffffffff ∷ 0x1 ∷ 0x1 ∷ 0x0 ∷ 0x0 ∷ 0x2 ∷ 0x2 ∷ [])
    (0xfffffffffffffff2 ∷ 0x0 ∷ 0x0 ∷ 0x2 ∷ 0x2 ∷ [])
    ∷ row 0xfffffffffffffffe 0x7
    (0xfffffffffffffff2 ∷ 0xffffffffffffffff ∷ 0xffffffffffffffff ∷ 0x6 ∷ 0x0 ∷ 0x2492492492492492 ∷ 0xfffffffffffffffe ∷ 0x0 ∷ [])
    (0xfffffffffffffff2 ∷ 0x0 ∷ 0x24924924 ∷ 0xfffffffffffffffe ∷ 0x2 ∷ [])
    ∷ row 0xfffffffffffffffe 0xfffffffffffffff9
    (0xe ∷ 0x0 ∷ 0xfffffffffffffffe ∷ 0xfffffffffffffff7 ∷ 0x0 ∷ 0x1 ∷ 0xfffffffffffffffe ∷ 0x5 ∷ [])
    (0xe ∷ 0x0 ∷ 0x1 ∷ 0xfffffffffffffffe ∷ 0x5 ∷ [])
    ∷ row 0x7 0x2
    (0xe ∷ 0x0 ∷ 0x0 ∷ 0x0 ∷ 0x3 ∷ 0x3 ∷ 0x1 ∷ 0x1 ∷ [])
    (0xe ∷ 0x3 ∷ 0x3 ∷ 0x1 ∷ 0x1 ∷ [])
    ∷ row 0xfffffffffffffff9 0x2
    (0xfffffffffffffff2 ∷ 0xffffffffffffffff ∷ 0xffffffffffffffff ∷ 0x1 ∷ 0xfffffffffffffffd ∷ 0x7ffffffffffffffc ∷ 0xffffffffffffffff ∷ 0x1 ∷ [])
    (0xfffffffffffffff2 ∷ 0xfffffffffffffffd ∷ 0x7ffffffc ∷ 0xffffffffffffffff ∷ 0x1 ∷ [])
    ∷ row 0x7 0xfffffffffffffffe
    (0xfffffffffffffff2 ∷ 0xffffffffffffffff ∷ 0x6 ∷ 0x6 ∷ 0xfffffffffffffffd ∷ 0x0 ∷ 0x1 ∷ 0x7 ∷ [])
    (0xfffffffffffffff2 ∷ 0xfffffffffffffffd ∷ 0x0 ∷ 0x1 ∷ 0x7 ∷ [])
    ∷ row 0xfffffffffffffff9 0xfffffffffffffffe
    (0xe ∷ 0x0 ∷ 0xfffffffffffffff9 ∷ 0xfffffffffffffff7 ∷ 0x3 ∷ 0x0 ∷ 0xffffffffffffffff ∷ 0xfffffffffffffff9 ∷ [])
    (0xe ∷ 0x3 ∷ 0x0 ∷ 0xffffffffffffffff ∷ 0xfffffffffffffff9 ∷ [])
    ∷ row 0x7 0x0
    (0x0 ∷ 0x0 ∷ 0x0 ∷ 0x0 ∷ 0xffffffffffffffff ∷ 0xffffffffffffffff ∷ 0x7 ∷ 0x7 ∷ [])
    (0x0 ∷ 0xffffffffffffffff ∷ 0xffffffffffffffff ∷ 0x7 ∷ 0x7 ∷ [])
    ∷ row 0xfffffffffffffff9 0x0
    (0x0 ∷ 0x0 ∷ 0x0 ∷ 0x0 ∷ 0xffffffffffffffff ∷ 0xffffffffffffffff ∷ 0xfffffffffffffff9 ∷ 0xfffffffffffffff9 ∷ [])
    (0x0 ∷ 0xffffffffffffffff ∷ 0xffffffffffffffff ∷ 0xfffffffffffffff9 ∷ 0xfffffffffffffff9 ∷ [])
    ∷ row 0x8000000000000000 0xffffffffffffffff
    (0x8000000000000000 ∷ 0x0 ∷ 0x8000000000000000 ∷ 0x7fffffffffffffff ∷ 0x8000000000000000 ∷ 0x0 ∷ 0x0 ∷ 0x8000000000000000 ∷ [])
    (0x0 ∷ 0x0 ∷ 0x0 ∷ 0x0 ∷ 0x0 ∷ [])
    ∷ row 0xffffffff80000000 0xffffffffffffffff
    (0x80000000 ∷ 0x0 ∷ 0xffffffff80000000 ∷ 0xffffffff7fffffff ∷ 0x80000000 ∷ 0x0 ∷ 0x0 ∷ 0xffffffff80000000 ∷ [])
    (0xffffffff80000000 ∷ 0xffffffff80000000 ∷ 0x0 ∷ 0x0 ∷ 0xffffffff80000000 ∷ [])
    ∷ row 0x80000000 0xffffffffffffffff
    (0xffffffff80000000 ∷ 0xffffffffffffffff ∷ 0x7fffffff ∷ 0x7fffffff ∷ 0xffffffff80000000 ∷ 0x0 ∷ 0x0 ∷ 0x80000000 ∷ [])
    (0xffffffff80000000 ∷ 0xffffffff80000000 ∷ 0x0 ∷ 0x0 ∷ 0xffffffff80000000 ∷ [])
    ∷ row 0xffffffffffffffff 0xffffffffffffffff
    (0x1 ∷ 0x0 ∷ 0xffffffffffffffff ∷ 0xfffffffffffffffe ∷ 0x1 ∷ 0x1 ∷ 0x0 ∷ 0x0 ∷ [])
    (0x1 ∷ 0x1 ∷ 0x1 ∷ 0x0 ∷ 0x0 ∷ [])
    ∷ row 0x8000000000000000 0x8000000000000000
    (0x0 ∷ 0x4000000000000000 ∷ 0xc000000000000000 ∷ 0x4000000000000000 ∷ 0x1 ∷ 0x1 ∷ 0x0 ∷ 0x0 ∷ [])
    (0x0 ∷ 0xffffffffffffffff ∷ 0xffffffffffffffff ∷ 0x0 ∷ 0x0 ∷ [])
    ∷ row 0xffffffff 0xffffffff
    (0xfffffffe00000001 ∷ 0x0 ∷ 0x0 ∷ 0x0 ∷ 0x1 ∷ 0x1 ∷ 0x0 ∷ 0x0 ∷ [])
    (0x1 ∷ 0x1 ∷ 0x1 ∷ 0x0 ∷ 0x0 ∷ [])
    ∷ row 0x123456789abcdef0 0xfedcba9876543210
    (0x236d88fe5618cf00 ∷ 0xffeb49923cc09532 ∷ 0x121fa00ad77d7422 ∷ 0x121fa00ad77d7422 ∷ 0xfffffffffffffff1 ∷ 0x0 ∷ 0x123456789abcde0 ∷ 0x123456789abcdef0 ∷ [])
    (0x5618cf00 ∷ 0x0 ∷ 0x1 ∷ 0xffffffff9abcdef0 ∷ 0x2468ace0 ∷ [])
    ∷ row 0x89abcdef76543210 0xfffffff9
    (0xb2a19083c3b2a190 ∷ 0xffffffff89abcdf2 ∷ 0xffffffff89abcdf2 ∷ 0x89abcdeb ∷ 0xffffffff89abcded ∷ 0x89abcdf3 ∷ 0xffffffff3a06d38b ∷ 0x3a06d3b5 ∷ [])
    (0xffffffffc3b2a190 ∷ 0xffffffffef188b23 ∷ 0x0 ∷ 0x5 ∷ 0x76543210 ∷ [])
    ∷ row 0x1fffffff8 0xffffffff00000003
    (0xdffffffe8 ∷ 0xfffffffffffffffe ∷ 0x1fffffff6 ∷ 0x1fffffff6 ∷ 0xffffffffffffffff ∷ 0x0 ∷ 0xfffffffb ∷ 0x1fffffff8 ∷ [])
    (0xffffffffffffffe8 ∷ 0xfffffffffffffffe ∷ 0x55555552 ∷ 0xfffffffffffffffe ∷ 0x2 ∷ [])
    ∷ row 0xdeadbeef80000000 0xbadcafe00000000
    (0x0 ∷ 0xfe7ad8325b65eca1 ∷ 0xfe7ad8325b65eca1 ∷ 0xa28a3305b65eca1 ∷ 0xfffffffffffffffe ∷ 0x13 ∷ 0xf60954eb80000000 ∷ 0xc7ae1580000000 ∷ [])
    (0x0 ∷ 0xffffffffffffffff ∷ 0xffffffffffffffff ∷ 0xffffffff80000000 ∷ 0xffffffff80000000 ∷ [])
    ∷ row 0x80000000 0x1
    (0x80000000 ∷ 0x0 ∷ 0x0 ∷ 0x0 ∷ 0x80000000 ∷ 0x80000000 ∷ 0x0 ∷ 0x0 ∷ [])
    (0xffffffff80000000 ∷ 0xffffffff80000000 ∷ 0xffffffff80000000 ∷ 0x0 ∷ 0x0 ∷ [])
    ∷ row 0x8000000000000000 0x1
    (0x8000000000000000 ∷ 0xffffffffffffffff ∷ 0xffffffffffffffff ∷ 0x0 ∷ 0x8000000000000000 ∷ 0x8000000000000000 ∷ 0x0 ∷ 0x0 ∷ [])
    (0x0 ∷ 0x0 ∷ 0x0 ∷ 0x0 ∷ 0x0 ∷ [])
    ∷ row 0x8000000000000000 0x0
    (0x0 ∷ 0x0 ∷ 0x0 ∷ 0x0 ∷ 0xffffffffffffffff ∷ 0xffffffffffffffff ∷ 0x8000000000000000 ∷ 0x8000000000000000 ∷ [])
    (0x0 ∷ 0xffffffffffffffff ∷ 0xffffffffffffffff ∷ 0x0 ∷ 0x0 ∷ [])
    ∷ row 0x7fffffffffffffff 0x7fffffffffffffff
    (0x1 ∷ 0x3fffffffffffffff ∷ 0x3fffffffffffffff ∷ 0x3fffffffffffffff ∷ 0x1 ∷ 0x1 ∷ 0x0 ∷ 0x0 ∷ [])
    (0x1 ∷ 0x1 ∷ 0x1 ∷ 0x0 ∷ 0x0 ∷ [])
    ∷ row 0x100000000 0xffffffff00000000
    (0x0 ∷ 0xffffffffffffffff ∷ 0xffffffff ∷ 0xffffffff ∷ 0xffffffffffffffff ∷ 0x0 ∷ 0x0 ∷ 0x100000000 ∷ [])
    (0x0 ∷ 0xffffffffffffffff ∷ 0xffffffffffffffff ∷ 0x0 ∷ 0x0 ∷ [])
    ∷ row 0x80000000 0xffffffff
    (0x7fffffff80000000 ∷ 0x0 ∷ 0x0 ∷ 0x0 ∷ 0x0 ∷ 0x0 ∷ 0x80000000 ∷ 0x80000000 ∷ [])
    (0xffffffff80000000 ∷ 0xffffffff80000000 ∷ 0x0 ∷ 0x0 ∷ 0xffffffff80000000 ∷ [])
    ∷ row 0xdeadbeef80000000 0xffffffff
    (0xa152411080000000 ∷ 0xffffffffdeadbeef ∷ 0xffffffffdeadbeef ∷ 0xdeadbeee ∷ 0xffffffffdeadbef0 ∷ 0xdeadbef0 ∷ 0xffffffff5eadbef0 ∷ 0x5eadbef0 ∷ [])
    (0xffffffff80000000 ∷ 0xffffffff80000000 ∷ 0x0 ∷ 0x0 ∷ 0xffffffff80000000 ∷ [])
    ∷ row 0xffffffffffffffff 0x1ffffffff
    (0xfffffffe00000001 ∷ 0xffffffffffffffff ∷ 0xffffffffffffffff ∷ 0x1fffffffe ∷ 0x0 ∷ 0x80000000 ∷ 0xffffffffffffffff ∷ 0x7fffffff ∷ [])
    (0x1 ∷ 0x1 ∷ 0x1 ∷ 0x0 ∷ 0x0 ∷ [])
    ∷ row 0xbadcafe00000007 0xdeadbeef00000000
    (0x16c0388900000000 ∷ 0xfe7ad832558f0721 ∷ 0xa28a330558f0728 ∷ 0xa28a330558f0728 ∷ 0x0 ∷ 0x0 ∷ 0xbadcafe00000007 ∷ 0xbadcafe00000007 ∷ [])
    (0x0 ∷ 0xffffffffffffffff ∷ 0xffffffffffffffff ∷ 0x7 ∷ 0x7 ∷ [])
    ∷ row 0xdeadbeef00000009 0x0
    (0x0 ∷ 0x0 ∷ 0x0 ∷ 0x0 ∷ 0xffffffffffffffff ∷ 0xffffffffffffffff ∷ 0xdeadbeef00000009 ∷ 0xdeadbeef00000009 ∷ [])
    (0x0 ∷ 0xffffffffffffffff ∷ 0xffffffffffffffff ∷ 0x9 ∷ 0x9 ∷ [])
    ∷ []

pub integer_results : map computed rows ≡ rows
unfolding sext low_half high_half quotient remainder
integer_results = refl
