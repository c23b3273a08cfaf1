-- The region and the registers of an h-word: two register fields and what they stand for give each other back.
-- Assumes nothing.
use mathlib.Core.Path.{◌≡◌, refl, ap, ◌∙◌}
use mathlib.Core.Bool.{Bool, true, false, cond, ◌&&◌}
use mathlib.Core.List.{List, [], ◌∷◌}
use Prim.Native.Nat.{ℕ, ◌+◌, ◌*◌, ◌^◌, ◌<◌, ◌≤◌}
use native.Mathlib.Omega.{arith}
use lib.Dec.{eqb, lit<, lit≤}
use lib.ListN.{get_or}
use borrow.Author.Tests.{eqb-true}
use Rattle.std.proofs.lemmas.Bool.{and_parts}
use Rattle.words.specs.Word.{field}
use Rattle.words.proofs.Fields.{field_lt, field_put, field_join}
use Rattle.instructions.specs.HWords.{explicit_regions, among, place_in, top_bit, low_register, chosen_region, rs1_field, other_field}
use Rattle.instructions.proofs.Named.{every_at}

-- ---- a number among those of a list

-- what holds of each number of the list
abbrev pub Each : (ℕ → Type 0) → List ℕ → Type 0
Each P [] = Unit {0}
Each P (k ∷ ks) = P k × Each P ks

-- .. holds of a number that is among them
pub among_ind : (P : ℕ → Type 0) (ks : List ℕ) (n : ℕ) → Each P ks → among n ks ≡ true → P n
among_ind P [] n h e = cc
among_ind P (k ∷ ks) n h e = go (eqb n k) refl e (among_ind P ks n h.1)
  where
    go : (b : Bool) → eqb n k ≡ b → cond b true (among n ks) ≡ true → (among n ks ≡ true → P n) → P n
    go true t e f = rw (eqb-true n k t) h.0
    go false t e f = f e

-- an explicit region's number
pub explicit_bounds : (region : ℕ) → among region explicit_regions ≡ true → (1 ≤ region) × (region ≤ 6)
explicit_bounds region h =
    among_ind (λ (n : ℕ). (1 ≤ n) × (n ≤ 6)) explicit_regions region
    ((lit≤ tt, lit≤ tt), ((lit≤ tt, lit≤ tt), ((lit≤ tt, lit≤ tt), ((lit≤ tt, lit≤ tt), tt)))) h

-- its choice is one of four, under which it stands
place_get : (region : ℕ) → among region explicit_regions ≡ true
    → (place_in explicit_regions region < 4) × (get_or explicit_regions (place_in explicit_regions region) 0 ≡ region)
place_get region h =
    among_ind (λ (n : ℕ). (place_in explicit_regions n < 4) × (get_or explicit_regions (place_in explicit_regions n) 0 ≡ n))
    explicit_regions region ((lit< tt, refl), ((lit< tt, refl), ((lit< tt, refl), ((lit< tt, refl), tt)))) h

-- each choice has a region of its own
abbrev stands : ℕ → ℕ → Bool
stands choice region = eqb (place_in explicit_regions region) choice && among region explicit_regions

get_place : (choice : ℕ) → choice < 4
    → (place_in explicit_regions (get_or explicit_regions choice 0) ≡ choice)
    × (among (get_or explicit_regions choice 0) explicit_regions ≡ true)
get_place choice h =
    let region = get_or explicit_regions choice 0 in
    let p = and_parts (eqb (place_in explicit_regions region) choice) _ (every_at stands explicit_regions 0 refl choice h) in
    (eqb-true _ choice p.0, p.1)

-- ---- two fields, and what they stand for

module _ (a b : ℕ) where
  choice_lt : 2 * top_bit a + top_bit b < 4
  choice_lt = omega (arith, field_lt a 4 1, field_lt b 4 1)

  -- the region that they choose is explicit
  pub chosen_explicit : among (chosen_region a b) explicit_regions ≡ true
  chosen_explicit = (get_place (2 * top_bit a + top_bit b) choice_lt).1

  chosen_place : place_in explicit_regions (chosen_region a b) ≡ 2 * top_bit a + top_bit b
  chosen_place = (get_place (2 * top_bit a + top_bit b) choice_lt).0

  -- and gives the fields back, with the registers
  pub rs1_back : a < 2 ^ 5 → rs1_field (chosen_region a b) (low_register a) ≡ a
  rs1_back h =
      let p : field (2 * top_bit a + top_bit b) 1 1 ≡ top_bit a = omega (arith, field_lt a 4 1, field_lt b 4 1) in
      field_join a 4 1 h (ap (λ (n : ℕ). field n 1 1) chosen_place ∙ p) refl

  pub other_back : b < 2 ^ 5 → other_field (chosen_region a b) (low_register b) ≡ b
  other_back h =
      let p : field (2 * top_bit a + top_bit b) 0 1 ≡ top_bit b = omega (arith, field_lt a 4 1, field_lt b 4 1) in
      field_join b 4 1 h (ap (λ (n : ℕ). field n 0 1) chosen_place ∙ p) refl

pub low_register_lt : (a : ℕ) → low_register a < 16
low_register_lt a = field_lt a 0 4

-- ---- a region and two registers, and the fields that they make

module _ (region a b : ℕ) where
  pub rs1_field_lt : a < 16 → rs1_field region a < 2 ^ 5
  rs1_field_lt h = omega (arith, field_lt (place_in explicit_regions region) 1 1)

  pub other_field_lt : b < 16 → other_field region b < 2 ^ 5
  other_field_lt h = omega (arith, field_lt (place_in explicit_regions region) 0 1)

  -- the registers are read out of the fields
  pub rs1_read : a < 16 → low_register (rs1_field region a) ≡ a
  rs1_read h = (field_put 4 1 (field_lt (place_in explicit_regions region) 1 1) h).1

  pub other_read : b < 16 → low_register (other_field region b) ≡ b
  other_read h = (field_put 4 1 (field_lt (place_in explicit_regions region) 0 1) h).1

  -- and so is the region
  pub region_read : among region explicit_regions ≡ true → a < 16 → b < 16
      → chosen_region (rs1_field region a) (other_field region b) ≡ region
  region_read e h l =
      let place = place_in explicit_regions region in
      let p = place_get region e in
      let s : top_bit (rs1_field region a) ≡ field place 1 1 = (field_put 4 1 (field_lt place 1 1) h).0 in
      let t : top_bit (other_field region b) ≡ field place 0 1 = (field_put 4 1 (field_lt place 0 1) l).0 in
      let q : 2 * field place 1 1 + field place 0 1 ≡ place = omega (arith, p.0) in
      rw (s, t, q) p.1
