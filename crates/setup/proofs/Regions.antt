-- The regions of line 1, one after another.
use mathlib.Core.Path.{◌≡◌, refl, ap, ◌∙◌}
use mathlib.Core.Bool.{◌&&◌}
use mathlib.Core.List.{List, [], ◌++◌}
use Prim.Native.Nat.{ℕ, zero, suc, ◌+◌, ◌-◌, ◌*◌, ◌/◌, ◌<◌, ◌≤◌}
use native.Mathlib.Omega.{arith}
use lib.Dec.{leb}
use lib.ListN.{length, get_or, take, drop, set, replicate, length-replicate}
use lib.Seq.{sets, sets-eq}
use Rattle.std.specs.Simd.{first_chunks}
use Rattle.std.proofs.lemmas.List.{get_or-take, get_or-drop, length-take-le, length-drop, drop-replicate}
use Rattle.std.specs.List.{list_all}
use Rattle.std.proofs.lemmas.List.Recursion.{same_from_clauses}
use Rattle.model.specs.Machine.{last_region, no_region, regions_from}
use Rattle.model.specs.declared.Region.{Region}
use Rattle.setup.specs.Setup.{permissions_in_range}

-- ---- storing a list over the first of equal elements leaves the others
pub sets_over : {A : Type 0} (m : ℕ) (a : A) (l : List A) → length l ≤ m → sets (replicate m a) 0 l ≡ l ++ replicate (m - length l) a
sets_over m a l h =
    let fits : 0 + length l ≤ length (replicate m a) = omega (arith, length-replicate m a) in
    let all : 0 + length l ≡ length l = omega arith in
    sets-eq l (replicate m a) 0 fits ∙ ap (λ k. l ++ drop k (replicate m a)) all ∙ ap (λ k. l ++ k) (drop-replicate (length l) m a)

regions_length : (vs : List ℕ) (k n : ℕ) → length (regions_from vs k n) ≡ n
regions_length vs k zero = refl
regions_length vs k (suc n) = ap suc (regions_length vs (k + 3) n)

-- n regions are read from their own places alone
pub regions_same : (us vs : List ℕ) (k n : ℕ) → ((i : ℕ) → i < k + 3 * n → get_or us i 0 ≡ get_or vs i 0) → regions_from us k n ≡ regions_from vs k n
regions_same us vs k zero e = refl
regions_same us vs k (suc n) e =
    rw (e k (omega arith), e (k + 1) (omega arith), e (k + 2) (omega arith), regions_same us vs (k + 3) n (λ i h. e i (omega arith)))

-- ---- storing the regions from index i on, of n
module _ (vs : List ℕ) (first n i : ℕ) where
  abbrev pub stored_from : List Region → List Region
  stored_from rs = sets rs i (regions_from vs (first + 3 * i) (n - i))

  pub regions_on : (rs : List Region) → i < n
      → stored_from rs ≡ sets (set rs i (get_or (regions_from vs (first + 3 * i) 1) 0 no_region)) (i + 1) (regions_from vs (first + 3 * (i + 1)) (n - (i + 1)))
  regions_on rs h =
      let e : n - i ≡ suc (n - (i + 1)) = omega arith in
      let f : suc i ≡ i + 1 = omega arith in
      let g : first + 3 * i + 3 ≡ first + 3 * (i + 1) = omega arith in
      let one = get_or (regions_from vs (first + 3 * i) 1) 0 no_region in
      ap (λ k. sets rs i (regions_from vs (first + 3 * i) k)) e
      ∙ ap (λ k. sets (set rs i one) k (regions_from vs (first + 3 * i + 3) (n - (i + 1)))) f
      ∙ ap (λ k. sets (set rs i one) (i + 1) (regions_from vs k (n - (i + 1)))) g

  pub regions_off : (rs : List Region) → n ≤ i → stored_from rs ≡ rs
  regions_off rs h = let e : n - i ≡ 0 = omega arith in ap (λ k. sets rs i (regions_from vs (first + 3 * i) k)) e

  -- over no regions
  pub regions_all : n ≤ last_region → i ≡ 0 → stored_from (replicate last_region no_region) ≡ regions_from vs first n ++ replicate (last_region - n) no_region
  regions_all h e =
      let at : first + 3 * i ≡ first = omega (arith, e) in
      let left : n - i ≡ n = omega (arith, e) in
      let few : length (regions_from vs first n) ≤ last_region = omega (arith, regions_length vs first n) in
      rw (at, left, e)
      (sets_over last_region no_region (regions_from vs first n) few
      ∙ ap (λ k. regions_from vs first n ++ replicate (last_region - k) no_region) (regions_length vs first n))

-- ---- the values three by three
chunk_at : (k i j : ℕ) (xs : List ℕ) → i < k → j < 3 → get_or (get_or (first_chunks 3 k xs) i []) j 0 ≡ get_or xs (3 * i + j) 0
chunk_at zero i j xs h l = let z : ⊥ = omega arith in absurd z
chunk_at (suc k) zero j xs h l = let e : j ≡ 3 * 0 + j = omega arith in get_or-take 3 xs j 0 l ∙ ap (λ m. get_or xs m 0) e
chunk_at (suc k) (suc i) j xs h l =
    let e : 3 + (3 * i + j) ≡ 3 * suc i + j = omega arith in
    chunk_at k i j (drop 3 xs) (omega arith) l ∙ get_or-drop 3 xs (3 * i + j) 0 ∙ ap (λ m. get_or xs m 0) e

module _ (vs : List ℕ) (first n : ℕ) (h : first + 3 * n ≤ length vs) where
  abbrev pub given : List ℕ
  given = take (first + 3 * n - first) (drop first vs)

  given_width : length given ≡ 3 * n
  given_width =
      let fits : first + 3 * n - first ≤ length (drop first vs) = omega (arith, length-drop first vs) in
      omega (arith, length-take-le (first + 3 * n - first) (drop first vs) fits)

  pub given_count : length given / 3 ≡ n
  given_count = omega (arith, given_width)

  pub given_at : (i j : ℕ) → i < n → j < 3 → get_or (get_or (first_chunks 3 (length given / 3) given) i []) j 0 ≡ get_or vs (first + 3 * i + j) 0
  given_at i j k l =
      let inside : 3 * i + j < first + 3 * n - first = omega arith in
      let e : first + (3 * i + j) ≡ first + 3 * i + j = omega arith in
      chunk_at (length given / 3) i j given (omega (arith, given_count)) l
      ∙ get_or-take (first + 3 * n - first) (drop first vs) (3 * i + j) 0 inside
      ∙ get_or-drop first vs (3 * i + j) 0
      ∙ ap (λ m. get_or vs m 0) e

-- ---- the permissions
pub in_range_is : (rs : List Region) → permissions_in_range rs ≡ list_all (λ r. leb r.permission 0xff) rs
unfolding permissions_in_range
in_range_is rs =
    same_from_clauses permissions_in_range (list_all (λ r. leb r.permission 0xff)) (λ r b. leb r.permission 0xff && b) refl (λ _ _. refl) (λ _ _. refl) rs
