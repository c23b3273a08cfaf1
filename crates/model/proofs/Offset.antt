-- Offsets into an explicit region, which are whole numbers: where an offset leads modulo 2^64, and the sum and the comparison
-- of 64-bit words that tell whether a byte is "at least 0 and below the bound".
-- Assumes nothing.
use mathlib.Core.Path.{◌≡◌, refl, sym, ap, subst, ◌∙◌}
use mathlib.Core.Bool.{Bool, true, false, cond, ◌&&◌, false≢true}
use mathlib.Core.List.{List}
use mathlib.Core.Logic.{◌⊎◌, inl, inr}
use Prim.Native.Nat.{ℕ, suc, ◌+◌, ◌-◌, ◌%◌, ◌^◌, ◌<◌, ◌≤◌}
use native.Mathlib.Omega.{arith}
use lib.Dec.{leb, ltb, lit≤}
use lib.IntN.{ℤ, pos, negsuc, ◌+ℤ◌, +ℤ_idl}
use borrow.Author.Tests.{ltb-true, ltb-false, lt-ltb, le-ltb, le-leb, eqb-true}
use Rattle.std.proofs.lemmas.Bool.{and_parts}
use Rattle.words.specs.Word.{field, signed, word, fits_signed}
use Rattle.words.proofs.Extend.{sext_low_half, sext_high_half}
use Rattle.words.proofs.Fields.{field_lt}
use Rattle.words.proofs.Residues.{word_signed}
use Rattle.model.specs.Machine.{reg}
use Rattle.model.specs.Bytes.{byte_of}
use Rattle.model.specs.Regions.{below}
use Rattle.model.specs.Access.{offset}

-- ---- addresses

-- a whole number is added modulo 2^64 by adding its 64 bits
word_sum : (base : ℕ) (z : ℤ) → word 64 (pos base +ℤ z) ≡ (base + word 64 z) % 2 ^ 64
word_sum base (pos n) = omega arith
word_sum base (negsuc n) = go (ltb base (suc n)) refl
  where
    go : (b : Bool) → ltb base (suc n) ≡ b
        → word 64 (cond b (negsuc (suc n - suc base)) (pos (base - suc n))) ≡ (base + (2 ^ 64 - suc (n % 2 ^ 64))) % 2 ^ 64
    go true t = omega (arith, ltb-true base (suc n) t)
    go false t = omega (arith, ltb-false base (suc n) t)

-- so an h-word's address is two sums of words
pub address_sum : (base v imm : ℕ) → imm < 2 ^ 64 → word 64 (pos base +ℤ offset v imm) ≡ (base + (v + imm) % 2 ^ 64) % 2 ^ 64
address_sum base v imm h =
    word_sum base (offset v imm)
    ∙ ap (λ (n : ℕ). (base + n) % 2 ^ 64) (word_sum v (signed 64 imm) ∙ ap (λ (n : ℕ). (v + n) % 2 ^ 64) (word_signed 64 imm h))

-- "Words with rs1 = x0 act as before", when the offset was the signed immediate (02, Job 1)
pub offset_of_x0 : (x : List ℕ) (imm : ℕ) → reg x 0 ≡ 0 → offset (reg x 0) imm ≡ signed 64 imm
offset_of_x0 x imm e = ap (λ (n : ℕ). offset n imm) e ∙ +ℤ_idl (signed 64 imm)

-- ---- bytes below the bound

below_pos : (n bound : ℕ) → below (pos n) bound ≡ true → n < bound
below_pos n bound e = ltb-true n bound (and_parts (leb 0 n) (ltb n bound) e).1

-- a byte below the bound lies in its region, which ends at 2^64 or before
pub below_inside : (base bound i : ℕ) (z : ℤ) → base + bound ≤ 2 ^ 64 → below (z +ℤ pos i) bound ≡ true
    → (base ≤ byte_of (word 64 (pos base +ℤ z)) i) × (byte_of (word 64 (pos base +ℤ z)) i < base + bound)
below_inside base bound i (pos n) h e =
    let l = below_pos (n + i) bound e in
    (omega arith, omega arith)
below_inside base bound i (negsuc n) h e = rw (word_sum base (negsuc n)) (go (ltb i (suc n)) refl e)
  where
    go : (b : Bool) → ltb i (suc n) ≡ b → below (cond b (negsuc (suc n - suc i)) (pos (i - suc n))) bound ≡ true
        → (base ≤ byte_of ((base + (2 ^ 64 - suc (n % 2 ^ 64))) % 2 ^ 64) i) × (byte_of ((base + (2 ^ 64 - suc (n % 2 ^ 64))) % 2 ^ 64) i < base + bound)
    go true t e = absurd (false≢true e)
    go false t e =
        let l = ltb-false i (suc n) t in
        let u = below_pos (i - suc n) bound e in
        (omega arith, omega arith)

-- a place before a region's start wraps far beyond its bound
below_word : (w i bound : ℕ) → w < 2 ^ 64 → i < 2 ^ 63 → bound ≤ 2 ^ 63
    → below (signed 64 w +ℤ pos i) bound ≡ ltb ((w + i) % 2 ^ 64) bound
below_word w i bound h p q = go (ltb w (2 ^ 63)) refl
  where
    at_least : (n m : ℕ) → n ≡ m → (leb 0 n && ltb n bound) ≡ ltb m bound
    at_least n m e = rw (le-leb 0 n (omega arith), e) refl

    back : (b : Bool) → ltb i (suc (2 ^ 64 - suc w)) ≡ b → 2 ^ 63 ≤ w
        → below (cond b (negsuc (suc (2 ^ 64 - suc w) - suc i)) (pos (i - suc (2 ^ 64 - suc w)))) bound ≡ ltb ((w + i) % 2 ^ 64) bound
    back true t l = let s = ltb-true i (suc (2 ^ 64 - suc w)) t in sym (le-ltb ((w + i) % 2 ^ 64) bound (omega arith))
    back false t l =
        let s = ltb-false i (suc (2 ^ 64 - suc w)) t in
        at_least (i - suc (2 ^ 64 - suc w)) ((w + i) % 2 ^ 64) (omega arith)

    go : (b : Bool) → ltb w (2 ^ 63) ≡ b
        → below (cond b (pos w) (negsuc (2 ^ 64 - suc w)) +ℤ pos i) bound ≡ ltb ((w + i) % 2 ^ 64) bound
    go true t = at_least (w + i) ((w + i) % 2 ^ 64) (omega (arith, ltb-true w (2 ^ 63) t))
    go false t = back (ltb i (suc (2 ^ 64 - suc w))) refl (ltb-false w (2 ^ 63) t)

-- ---- the value of a register, and an immediate of 12 bits

-- at most 2,047, or at least -2,048
abbrev Immediate : ℕ → Type 0
Immediate imm = (imm < 2 ^ 11) ⊎ ((2 ^ 64 - 2 ^ 11 ≤ imm) × (imm < 2 ^ 64))

immediate_range : (imm : ℕ) → fits_signed 12 imm ≡ true → Immediate imm
immediate_range imm h = go (ltb (field imm 0 12) (2 ^ 11)) refl
  where
    go : (b : Bool) → ltb (field imm 0 12) (2 ^ 11) ≡ b → Immediate imm
    go true t =
        let l = ltb-true (field imm 0 12) (2 ^ 11) t in
        let e : field imm 0 12 ≡ imm = sym (sext_low_half 12 (field imm 0 12) l (omega arith)) ∙ eqb-true _ imm h in
        inl (subst (λ (n : ℕ). n < 2 ^ 11) e l)
    go false t =
        let l = ltb-false (field imm 0 12) (2 ^ 11) t in
        let u = field_lt imm 0 12 in
        let e : field imm 0 12 + (2 ^ 64 - 2 ^ 12) ≡ imm = sym (sext_high_half 12 (field imm 0 12) (lit≤ tt) l u) ∙ eqb-true _ imm h in
        inr (subst (λ (n : ℕ). (2 ^ 64 - 2 ^ 11 ≤ n) × (n < 2 ^ 64)) e (omega arith, omega arith))

-- of a value below 2^62 the sum of the words stands for the offset
near_sum : (v imm : ℕ) → v < 2 ^ 62 → Immediate imm → offset v imm ≡ signed 64 ((v + imm) % 2 ^ 64)
near_sum v imm h (inl l) =
    rw (lt-ltb imm (2 ^ 63) (omega arith), lt-ltb ((v + imm) % 2 ^ 64) (2 ^ 63) (omega arith)) (ap pos (omega arith))
near_sum v imm h (inr (l, u)) = rw (le-ltb imm (2 ^ 63) (omega arith)) (go (ltb v (suc (2 ^ 64 - suc imm))) refl)
  where
    go : (b : Bool) → ltb v (suc (2 ^ 64 - suc imm)) ≡ b
        → cond b (negsuc (suc (2 ^ 64 - suc imm) - suc v)) (pos (v - suc (2 ^ 64 - suc imm))) ≡ signed 64 ((v + imm) % 2 ^ 64)
    go true t =
        let s = ltb-true v (suc (2 ^ 64 - suc imm)) t in
        rw (le-ltb ((v + imm) % 2 ^ 64) (2 ^ 63) (omega arith)) (ap negsuc (omega arith))
    go false t =
        let s = ltb-false v (suc (2 ^ 64 - suc imm)) t in
        rw (lt-ltb ((v + imm) % 2 ^ 64) (2 ^ 63) (omega arith)) (ap pos (omega arith))

-- and one of 2^48 + 2^11 or more lies past every bound that keeps its rule
far_outside : (v imm i bound : ℕ) → 2 ^ 48 + 2 ^ 11 ≤ v → Immediate imm → bound ≤ 2 ^ 48 → below (offset v imm +ℤ pos i) bound ≡ false
far_outside v imm i bound h (inl l) u =
    rw (lt-ltb imm (2 ^ 63) (omega arith), le-leb 0 (v + imm + i) (omega arith)) (le-ltb (v + imm + i) bound (omega arith))
far_outside v imm i bound h (inr (l, m)) u =
    rw (le-ltb imm (2 ^ 63) (omega arith), le-ltb v (suc (2 ^ 64 - suc imm)) (omega arith), le-leb 0 (v - suc (2 ^ 64 - suc imm) + i) (omega arith))
    (le-ltb (v - suc (2 ^ 64 - suc imm) + i) bound (omega arith))

-- so with any number between the two for far, values from it on are told apart, and below it the sum of the words is asked
pub below_offset : (far v imm i bound : ℕ) → 2 ^ 48 + 2 ^ 11 ≤ far → far ≤ 2 ^ 62 → fits_signed 12 imm ≡ true → i < 2 ^ 63 → bound ≤ 2 ^ 48
    → below (offset v imm +ℤ pos i) bound ≡ (ltb v far && ltb (((v + imm) % 2 ^ 64 + i) % 2 ^ 64) bound)
below_offset far v imm i bound low high f l u = go (ltb v far) refl (immediate_range imm f)
  where
    go : (b : Bool) → ltb v far ≡ b → Immediate imm → below (offset v imm +ℤ pos i) bound ≡ (b && ltb (((v + imm) % 2 ^ 64 + i) % 2 ^ 64) bound)
    go true t r =
        ap (λ z. below (z +ℤ pos i) bound) (near_sum v imm (omega (arith, ltb-true v far t)) r)
        ∙ below_word ((v + imm) % 2 ^ 64) i bound (omega arith) l (omega arith)
    go false t r = far_outside v imm i bound (omega (arith, ltb-false v far t)) r u
