-- Each format by itself: the immediate is read out of the fields that it was put into, and put back where it was read.
-- Assumes nothing.
use mathlib.Core.Path.{◌≡◌, refl, sym, ap, ap₂, ◌∙◌}
use mathlib.Core.Bool.{Bool, true, ◌&&◌}
use Prim.Native.Nat.{ℕ, ◌^◌, ◌<◌}
use native.Mathlib.Omega.{arith}
use lib.Dec.{ltb, lit<, lit≤}
use borrow.Author.Tests.{lt-ltb, eqb-true, eq-eqb}
use Rattle.std.proofs.lemmas.Bool.{and_from, and_parts}
use Rattle.words.specs.Word.{field, fits_signed, lay}
use Rattle.words.proofs.Fields.{field_lt, field_all, field_cut, field_parts, field_put, field_join, Fit, lay_lt, lay_read, lay_write}
use Rattle.words.proofs.Extend.{sext_field, sext_fits, fits_sext}
use Rattle.instructions.specs.InWord.{InWord}
use Rattle.instructions.specs.Kinds.{functs}
use Rattle.instructions.specs.Immediates.{i_bits, s_bits, b_pieces, u_pieces, j_pieces, i_immediate, s_immediate, b_immediate, u_immediate, j_immediate}
use Rattle.instructions.specs.HWords.{low_register, chosen_region, rs1_field, other_field}
use Rattle.instructions.specs.Encode.{r_fields, i_fields, s_fields, b_fields, u_fields, j_fields, two, h_word, multiple}
use Rattle.instructions.specs.declared.fields.Fields.{Fields}
use Rattle.instructions.proofs.Words.{same}
use Rattle.instructions.proofs.Tests.{one_all, two_all, two_of, h_word_all, h_word_of}
use Rattle.instructions.proofs.HWords.{chosen_explicit, rs1_back, other_back, low_register_lt, rs1_field_lt, other_field_lt}

-- ---- the fields of each format are in their places

pub r_in_word : (o c d a b : ℕ) → o < 2 ^ 7 → d < 2 ^ 5 → a < 2 ^ 5 → b < 2 ^ 5 → InWord (r_fields o c d a b)
r_in_word o c d a b p q r s = omega arith

pub i_in_word : (o n d a x : ℕ) (t : Bool) → o < 2 ^ 7 → n < 2 ^ 3 → two d a t ≡ true → InWord (i_fields o n d a x)
i_in_word o n d a x t p q h = omega (arith, two_all d a t h)

pub s_in_word : (o n a b x : ℕ) (t : Bool) → o < 2 ^ 7 → n < 2 ^ 3 → two a b t ≡ true → InWord (s_fields o n a b x)
s_in_word o n a b x t p q h = omega (arith, two_all a b t h)

-- .. those of h-words too, whose register fields hold the choice of the region
pub h_load_in_word : (o n region d a x : ℕ) (t : Bool) → o < 2 ^ 7 → n < 2 ^ 3 → h_word region d a t ≡ true
    → InWord (i_fields o n (other_field region d) (rs1_field region a) x)
h_load_in_word o n region d a x t p q h =
    let w = h_word_all region d a t h in
    i_in_word o n _ _ x true p q (two_of (other_field_lt region a d w.1) (rs1_field_lt region a d w.2) refl)

pub h_store_in_word : (o n region a b x : ℕ) (t : Bool) → o < 2 ^ 7 → n < 2 ^ 3 → h_word region a b t ≡ true
    → InWord (s_fields o n (rs1_field region a) (other_field region b) x)
h_store_in_word o n region a b x t p q h =
    let w = h_word_all region a b t h in
    s_in_word o n _ _ x true p q (two_of (rs1_field_lt region a b w.1) (other_field_lt region a b w.2) refl)

pub b_in_word : (o n a b x : ℕ) (t : Bool) → o < 2 ^ 7 → n < 2 ^ 3 → two a b t ≡ true → InWord (b_fields o n a b x)
b_in_word o n a b x t p q h = omega (arith, two_all a b t h)

pub u_in_word : (o d x : ℕ) (t : Bool) → o < 2 ^ 7 → (ltb d 32 && t) ≡ true → InWord (u_fields o d x)
u_in_word o d x t p h = omega (arith, one_all d t h)

pub j_in_word : (o d x : ℕ) (t : Bool) → o < 2 ^ 7 → (ltb d 32 && t) ≡ true → InWord (j_fields o d x)
j_in_word o d x t p h = omega (arith, one_all d t h)

-- ---- the pieces of each immediate fit

module _ (f : Fields) (r : InWord f) where
  pub i_bits_lt : i_bits f < 2 ^ 12
  i_bits_lt = omega arith

  b_fit : Fit (b_pieces f)
  b_fit = (field_lt f.funct7 6 1, (field_lt f.rd 0 1, (field_lt f.funct7 0 6, (field_lt f.rd 1 4, (lit< tt, tt)))))

  u_fit : Fit (u_pieces f)
  u_fit = (r.funct7, (r.rs2, (r.rs1, (r.funct3, (lit< tt, tt)))))

  j_fit : Fit (j_pieces f)
  j_fit =
      (field_lt f.funct7 6 1, (r.rs1, (r.funct3, (field_lt f.rs2 0 1, (field_lt f.funct7 0 6, (field_lt f.rs2 1 4, (lit< tt, tt)))))))

  pub j_bits_lt : lay (j_pieces f) < 2 ^ 21
  j_bits_lt = lay_lt (j_pieces f) j_fit

-- ---- what is put into the fields is read out of them

pub r_read : (o c d a b : ℕ) → c < 2 ^ 10 → functs (r_fields o c d a b).funct7 (r_fields o c d a b).funct3 ≡ c
r_read o c d a b h = field_join c 3 7 h refl refl

i_bits_read : (o n d a x : ℕ) → i_bits (i_fields o n d a x) ≡ field x 0 12
i_bits_read o n d a x = field_cut x 0 5 7

pub i_bits_whole : (o n d a x : ℕ) → x < 2 ^ 12 → i_bits (i_fields o n d a x) ≡ x
i_bits_whole o n d a x h = i_bits_read o n d a x ∙ field_all x 12 h

pub i_read : (o n d a x : ℕ) → fits_signed 12 x ≡ true → i_immediate (i_fields o n d a x) ≡ x
i_read o n d a x h = fits_sext 12 x (i_bits_read o n d a x) h

pub s_read : (o n a b x : ℕ) → fits_signed 12 x ≡ true → s_immediate (s_fields o n a b x) ≡ x
s_read o n a b x h = fits_sext 12 x (field_cut x 0 5 7) h

-- the low bits of a multiple
low : (k n x : ℕ) → multiple k n x ≡ true → field x 0 n ≡ 0
low k n x h = eqb-true _ 0 (and_parts (fits_signed k x) _ h).1

pub b_read : (o n a b x : ℕ) → multiple 13 1 x ≡ true → b_immediate (b_fields o n a b x) ≡ x
b_read o n a b x h =
    let s = field_put 6 1 (field_lt x 12 1) (field_lt x 5 6) in
    let d = field_put 1 4 (field_lt x 1 4) (field_lt x 11 1) in
    fits_sext 13 x
    (lay_write x (b_pieces (b_fields o n a b x)) (sym s.0, (sym d.1, (sym s.1, (sym d.0, (low 13 1 x h, tt))))))
    (and_parts (fits_signed 13 x) _ h).0

pub u_read : (o d x : ℕ) → multiple 32 12 x ≡ true → u_immediate (u_fields o d x) ≡ x
u_read o d x h =
    fits_sext 32 x (lay_write x (u_pieces (u_fields o d x)) (refl, (refl, (refl, (refl, (low 32 12 x h, tt))))))
    (and_parts (fits_signed 32 x) _ h).0

pub j_read : (o d x : ℕ) → multiple 21 1 x ≡ true → j_immediate (j_fields o d x) ≡ x
j_read o d x h =
    let s = field_put 6 1 (field_lt x 20 1) (field_lt x 5 6) in
    let b = field_put 1 4 (field_lt x 1 4) (field_lt x 11 1) in
    fits_sext 21 x
    (lay_write x (j_pieces (j_fields o d x))
    (sym s.0, (refl, (refl, (sym b.1, (sym s.1, (sym b.0, (low 21 1 x h, tt))))))))
    (and_parts (fits_signed 21 x) _ h).0

-- ---- what is read out of the fields puts them back, and is in range

module _ (f : Fields) (r : InWord f) {o : ℕ} (op : f.opcode ≡ o) where
  pub r_back : {c : ℕ} → functs f.funct7 f.funct3 ≡ c
      → (r_fields o c f.rd f.rs1 f.rs2 ≡ f) × (two f.rd f.rs1 (ltb f.rs2 32) ≡ true)
  r_back e =
      let p = field_put 3 7 r.funct7 r.funct3 in (
        same (sym op) refl (ap (λ (x : ℕ). field x 0 3) (sym e) ∙ p.1) refl refl (ap (λ (x : ℕ). field x 3 7) (sym e) ∙ p.0),
        two_of r.rd r.rs1 (lt-ltb f.rs2 32 r.rs2),
      )

  -- of whatever stands in for the immediate of the I format, the 12 low bits count
  i_low_back : (x : ℕ) {n : ℕ} → f.funct3 ≡ n → field x 0 12 ≡ i_bits f → i_fields o n f.rd f.rs1 x ≡ f
  i_low_back x e b =
      let p = field_parts x 0 5 7 r.rs2 b in
      same (sym op) refl (sym e) refl p.1 p.0

  pub i_bits_back : {x n : ℕ} → f.funct3 ≡ n → x ≡ i_bits f → i_fields o n f.rd f.rs1 x ≡ f
  i_bits_back {x} e b = i_low_back x e (ap (λ (y : ℕ). field y 0 12) b ∙ field_all (i_bits f) 12 (i_bits_lt f r))

  pub i_back : {n : ℕ} → f.funct3 ≡ n
      → (i_fields o n f.rd f.rs1 (i_immediate f) ≡ f) × (two f.rd f.rs1 (fits_signed 12 (i_immediate f)) ≡ true)
  i_back e =
      let l = i_bits_lt f r in (
        i_low_back (i_immediate f) e (sext_field 12 (i_bits f) (lit≤ tt) l),
        two_of r.rd r.rs1 (sext_fits 12 (i_bits f) (lit≤ tt) l),
      )

  pub s_back : {n : ℕ} → f.funct3 ≡ n
      → (s_fields o n f.rs1 f.rs2 (s_immediate f) ≡ f) × (two f.rs1 f.rs2 (fits_signed 12 (s_immediate f)) ≡ true)
  s_back e =
      let l : s_bits f < 2 ^ 12 = omega arith in
      let p = field_parts (s_immediate f) 0 5 7 r.rd (sext_field 12 (s_bits f) (lit≤ tt) l) in
      (same (sym op) p.1 (sym e) refl refl p.0, two_of r.rs1 r.rs2 (sext_fits 12 (s_bits f) (lit≤ tt) l))

  -- the two fields of an h-word are those that its region and registers make
  pub h_load_back : {n : ℕ} → f.funct3 ≡ n
      → let region = chosen_region f.rs1 f.rd in
      (i_fields o n (other_field region (low_register f.rd)) (rs1_field region (low_register f.rs1)) (i_immediate f) ≡ f)
      × (h_word region (low_register f.rd) (low_register f.rs1) (fits_signed 12 (i_immediate f)) ≡ true)
  h_load_back {n} e =
      let b = i_back e in (
        ap₂ (λ (d a : ℕ). i_fields o n d a (i_immediate f)) (other_back f.rs1 f.rd r.rd) (rs1_back f.rs1 f.rd r.rs1) ∙ b.0,
        h_word_of (chosen_region f.rs1 f.rd) (chosen_explicit f.rs1 f.rd) (low_register_lt f.rd) (low_register_lt f.rs1)
            (two_all f.rd f.rs1 _ b.1).2,
      )

  pub h_store_back : {n : ℕ} → f.funct3 ≡ n
      → let region = chosen_region f.rs1 f.rs2 in
      (s_fields o n (rs1_field region (low_register f.rs1)) (other_field region (low_register f.rs2)) (s_immediate f) ≡ f)
      × (h_word region (low_register f.rs1) (low_register f.rs2) (fits_signed 12 (s_immediate f)) ≡ true)
  h_store_back {n} e =
      let b = s_back e in (
        ap₂ (λ (x y : ℕ). s_fields o n x y (s_immediate f)) (rs1_back f.rs1 f.rs2 r.rs1) (other_back f.rs1 f.rs2 r.rs2) ∙ b.0,
        h_word_of (chosen_region f.rs1 f.rs2) (chosen_explicit f.rs1 f.rs2) (low_register_lt f.rs1) (low_register_lt f.rs2)
            (two_all f.rs1 f.rs2 _ b.1).2,
      )

  pub b_back : {n : ℕ} → f.funct3 ≡ n
      → (b_fields o n f.rs1 f.rs2 (b_immediate f) ≡ f) × (two f.rs1 f.rs2 (multiple 13 1 (b_immediate f)) ≡ true)
  b_back e =
      let l = lay_lt (b_pieces f) (b_fit f r) in
      let w = lay_read (b_immediate f) (b_pieces f) (b_fit f r) (sext_field 13 (lay (b_pieces f)) (lit≤ tt) l) in (
        same (sym op) (field_join f.rd 1 4 r.rd w.1.1.1.0 w.1.0) (sym e) refl refl
            (field_join f.funct7 6 1 r.funct7 w.0 w.1.1.0),
        two_of r.rs1 r.rs2 (and_from _ _ (sext_fits 13 (lay (b_pieces f)) (lit≤ tt) l) (eq-eqb _ 0 w.1.1.1.1.0)),
      )

  pub u_back : (u_fields o f.rd (u_immediate f) ≡ f) × ((ltb f.rd 32 && multiple 32 12 (u_immediate f)) ≡ true)
  u_back =
      let l = lay_lt (u_pieces f) (u_fit f r) in
      let w = lay_read (u_immediate f) (u_pieces f) (u_fit f r) (sext_field 32 (lay (u_pieces f)) (lit≤ tt) l) in (
        same (sym op) refl w.1.1.1.0 w.1.1.0 w.1.0 w.0,
        and_from _ _ (lt-ltb f.rd 32 r.rd) (and_from _ _ (sext_fits 32 (lay (u_pieces f)) (lit≤ tt) l) (eq-eqb _ 0 w.1.1.1.1.0)),
      )

  pub j_back : (j_fields o f.rd (j_immediate f) ≡ f) × ((ltb f.rd 32 && multiple 21 1 (j_immediate f)) ≡ true)
  j_back =
      let l = j_bits_lt f r in
      let w = lay_read (j_immediate f) (j_pieces f) (j_fit f r) (sext_field 21 (lay (j_pieces f)) (lit≤ tt) l) in
      let v = w.1.1.1 in (
        same (sym op) refl w.1.1.0 w.1.0 (field_join f.rs2 1 4 r.rs2 v.1.1.0 v.0)
            (field_join f.funct7 6 1 r.funct7 w.0 v.1.0),
        and_from _ _ (lt-ltb f.rd 32 r.rd) (and_from _ _ (sext_fits 21 (lay (j_pieces f)) (lit≤ tt) l) (eq-eqb _ 0 v.1.1.1.0)),
      )
