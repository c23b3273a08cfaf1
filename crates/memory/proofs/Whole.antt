-- One region that decides a whole access: over any list of numbers.
-- Assumes nothing.
use Rattle.std.proofs.Common.{◌≡◌, ℕ, suc, ◌+◌, ◌-◌, ◌%◌, ◌^◌, ◌<◌, ◌≤◌, Bool, true, false, cond, ◌&&◌, eqb, ltb, leb, List, [], ◌∷◌, Option, Some, None, length, get_or, drop, sym, refl, ap, ◌∙◌, ap₂, zero-add, arith, lit≤, drop_of_length-le, drop-cons, ltb-false, ltb-true, ne_eqb, le-leb, leb-false, leb-true}
use Rattle.std.specs.List.{find}
use Rattle.std.specs.Option.{unwrap_or, option_map}
use mathlib.Core.Bool.{false≢true}
use lib.Bits.{bit_and}
use borrow.Author.Tests.{lt-leb}
use Rattle.std.proofs.lemmas.Bool.{and_parts}
use Rattle.model.specs.Machine.{region}
use Rattle.model.specs.Regions.{execute, code_regions, permits, mask_zeros, implicit_rule, matches, first_match, implicit_grants}
use Rattle.model.specs.Bytes.{byte_of}
use Rattle.model.specs.Access.{implicit_access, fetch_access, first_refused, verdict, passed}
use Rattle.model.proofs.Cleared.{passes}
use Rattle.model.specs.declared.Region.{Region}
use Rattle.model.proofs.Scan.{scan_all}
use Rattle.model.proofs.Intervals.{implicit_kept, matches_inside, inside_matches, matches_low, broken_matches_none}
use Rattle.memory.specs.Loops.{has_whole, touches, grants_whole, passes_whole, fetches_whole}

-- ---- one region

asked : (b c : Bool) → cond b c false ≡ true → (b ≡ true) × (c ≡ true)
asked true c e = (refl, e)
asked false c e = absurd (false≢true e)

-- a region that has the first byte and the last has those between
between : (r : Region) (a n i : ℕ) → a < 2 ^ 64 → n ≤ 8 → i < n → matches r a ≡ true → matches r (byte_of a (n - 1)) ≡ true → implicit_rule r ≡ true
    → matches r (byte_of a i) ≡ true
between r a n i l s h p q k =
    let low = matches_low r a l p in
    let first = matches_inside r a l p in
    let last = matches_inside r (byte_of a (n - 1)) (omega arith) q in
    let e : byte_of a i ≡ a + i = omega arith in
    let f : byte_of a (n - 1) ≡ a + (n - 1) = omega arith in
    inside_matches r (byte_of a i) k (omega (arith, first.0, e)) (omega (arith, last.1, e, f))

-- the last byte stands as many places past byte i as there are bytes between
last_after : (a n i : ℕ) → n ≤ 8 → i < n → byte_of a i < 2 ^ 48 → byte_of a (n - 1) ≡ byte_of a i + (n - 1 - i)
last_after a n i s h l = omega arith

distance : (base last : ℕ) → base ≤ last → last < 2 ^ 64 → (last + (2 ^ 64 - base)) % 2 ^ 64 ≡ last - base
distance base last h l = omega arith

spread : (bound size n : ℕ) → bound ≡ 2 ^ 64 - size → size ≤ 2 ^ 48 → 0 < size → 0 < n → n ≤ 8
    → ((2 ^ 64 - 1) - bound + (n - 1)) % 2 ^ 64 ≡ size - 1 + (n - 1)
spread bound size n e l z y s = rw e (omega arith)

-- a region that is not touched has none of the bytes
untouched : (r : Region) (a n i : ℕ) → a < 2 ^ 64 → n ≤ 8 → i < n → touches r (byte_of a (n - 1)) n ≡ false → matches r (byte_of a i) ≡ false
untouched r a n i l s h t = go (implicit_rule r) refl (matches r (byte_of a i)) refl
  where
    far : implicit_rule r ≡ true → matches r (byte_of a i) ≡ true → ⊥
    far k m =
        let last = byte_of a (n - 1) in
        let size = 2 ^ mask_zeros r.bound in
        let kept = implicit_kept r k in
        let here = matches_inside r (byte_of a i) (omega arith) m in
        let end = last_after a n i s h (omega (arith, kept.low, here.1)) in
        let x = distance r.base last (omega (arith, end, here.0)) (omega arith) in
        let y = spread r.bound size n kept.shape (omega (arith, kept.low)) (omega (arith, here.0, here.1)) (omega arith) s in
        let z = le-leb ((last + (2 ^ 64 - r.base)) % 2 ^ 64) (((2 ^ 64 - 1) - r.bound + (n - 1)) % 2 ^ 64) (rw (x, y) (omega (arith, end, here.1))) in
        false≢true (sym t ∙ rw (z, k) refl)

    go : (b : Bool) → implicit_rule r ≡ b → (c : Bool) → matches r (byte_of a i) ≡ c → matches r (byte_of a i) ≡ false
    go false k c m = broken_matches_none r (byte_of a i) k
    go true k false m = m
    go true k true m = absurd (far k m)

-- ---- the regions of a list

granted_first : (rs : List Region) (m : ℕ) (ms : List ℕ) (wanted b : ℕ) → ltb 0 m ≡ true → matches (region rs m) b ≡ true → permits wanted (region rs m) ≡ true
    → implicit_grants rs (m ∷ ms) wanted b ≡ true
unfolding implicit_grants first_match
granted_first rs m ms wanted b z h p = let l = ltb-true 0 m z in rw (h, ne_eqb m 0 (λ e. omega (arith, l, e))) p

granted_later : (rs : List Region) (m : ℕ) (ms : List ℕ) (wanted b : ℕ) → matches (region rs m) b ≡ false
    → implicit_grants rs ms wanted b ≡ true → implicit_grants rs (m ∷ ms) wanted b ≡ true
unfolding implicit_grants first_match
granted_later rs m ms wanted b h g = rw h g

-- the numbers of regions are not 0
abbrev pub numbered : List ℕ → Bool
numbered [] = true
numbered (m ∷ ms) = ltb 0 m && numbered ms

whole_granted : (rs : List Region) (ns : List ℕ) (wanted a n i : ℕ) → numbered ns ≡ true → a < 2 ^ 64 → n ≤ 8 → i < n
    → grants_whole rs ns wanted a n ≡ true → implicit_grants rs ns wanted (byte_of a i) ≡ true
unfolding grants_whole matches
whole_granted rs [] wanted a n i z l s h g = absurd (false≢true g)
whole_granted rs (m ∷ ms) wanted a n i z l s h g =
    go (has_whole r wanted a last) refl (touches r last n) refl g
    (λ t w. granted_later rs m ms wanted (byte_of a i) (untouched r a n i l s h t) (whole_granted rs ms wanted a n i p.1 l s h w))
  where
    r : Region
    r = region rs m

    last : ℕ
    last = byte_of a (n - 1)

    p : (ltb 0 m ≡ true) × (numbered ms ≡ true)
    p = and_parts (ltb 0 m) (numbered ms) z

    has : has_whole r wanted a last ≡ true → implicit_grants rs (m ∷ ms) wanted (byte_of a i) ≡ true
    has w =
        let q = asked _ (implicit_rule r) w in
        let u = and_parts (eqb (bit_and a r.bound) r.base) _ q.0 in
        let v = and_parts (eqb (bit_and last r.bound) r.base) (permits wanted r) u.1 in
        let f : matches r a ≡ true = rw q.1 u.0 in
        let g : matches r last ≡ true = rw q.1 v.0 in
        granted_first rs m ms wanted (byte_of a i) p.0 (between r a n i l s h f g q.1) v.1

    go : (b : Bool) → has_whole r wanted a last ≡ b → (c : Bool) → touches r last n ≡ c → cond b true (cond c false (grants_whole rs ms wanted a n)) ≡ true
        → (touches r last n ≡ false → grants_whole rs ms wanted a n ≡ true → implicit_grants rs (m ∷ ms) wanted (byte_of a i) ≡ true)
        → implicit_grants rs (m ∷ ms) wanted (byte_of a i) ≡ true
    go true w c t g f = has w
    go false w true t g f = absurd (false≢true g)
    go false w false t g f = f t g

-- so no byte is refused
pub whole_passes : (mode : ℕ) (rs : List Region) (ns : List ℕ) (wanted a n : ℕ) → numbered ns ≡ true → a < 2 ^ 64 → n ≤ 8
    → passes_whole mode rs ns wanted a n ≡ true → n ≡ first_refused mode (implicit_access rs ns wanted a n)
unfolding first_refused
whole_passes mode rs ns wanted a n z l s g =
    sym (scan_all _ n 0 (λ j p q. each j (omega arith) (eqb mode 0) g) ∙ zero-add n)
  where
    each : (j : ℕ) → j < n → (b : Bool) → cond b true (grants_whole rs ns wanted a n) ≡ true → cond b true (implicit_grants rs ns wanted (byte_of a j)) ≡ true
    each j h true e = refl
    each j h false e = whole_granted rs ns wanted a n j z l s h e

-- and where the four bytes of a fetch pass so, either half does
pub whole_fetched : (mode : ℕ) (rs : List Region) (size pc : ℕ) → pc < 2 ^ 64 → size < 2 ^ 64 → fetches_whole mode rs size pc ≡ true
    → (verdict mode size (fetch_access rs pc) ≡ passed) × (verdict mode size (fetch_access rs (byte_of pc 2)) ≡ passed)
whole_fetched mode rs size pc l m g = (half 0 pc (λ i h. omega arith) (lit≤ tt), half 2 (byte_of pc 2) (λ i h. let e = leb-true (pc + 4) size q.0 in omega (arith, e)) (lit≤ tt))
  where
    q : (leb (pc + 4) size ≡ true) × (passes_whole mode rs code_regions execute pc 4 ≡ true)
    q = asked _ _ g

    each : (j : ℕ) → j < 4 → (b : Bool) → cond b true (grants_whole rs code_regions execute pc 4) ≡ true → cond b true (implicit_grants rs code_regions execute (byte_of pc j)) ≡ true
    each j h true e = refl
    each j h false e = whole_granted rs code_regions execute pc 4 j refl l (lit≤ tt) h e

    -- byte i of a half is byte k + i of the word
    half : (k a : ℕ) → ((i : ℕ) → i < 2 → byte_of a i ≡ byte_of pc (k + i)) → k ≤ 2 → verdict mode size (fetch_access rs a) ≡ passed
    half k a same u =
        passes mode size (fetch_access rs a) (record {
          granted = λ i h. rw (same i h) (each (k + i) (omega arith) (eqb mode 0) q.1);
          present = λ i h. let e = leb-true (pc + 4) size q.0 in rw (same i h) (omega (arith, e));
        })

-- ---- the code's words for it

-- a difference modulo 2^64, by what wrapping subtraction says of it
difference : (a b d : ℕ) → a < 2 ^ 64 → b < 2 ^ 64 → d < 2 ^ 64 → (d + b) % 2 ^ 64 ≡ a → d ≡ (a + (2 ^ 64 - b)) % 2 ^ 64
difference a b d p q r e = omega (arith, e)

-- the test of the addresses
pub touched : (r : Region) (last n : ℕ) {d s : ℕ} → last < 2 ^ 64 → r.base < 2 ^ 64 → d < 2 ^ 64 → (d + r.base) % 2 ^ 64 ≡ last
    → s ≡ ((2 ^ 64 - 1) - r.bound + (n - 1)) % 2 ^ 64
    → (t : Bool) → leb d s ≡ t → cond t (implicit_rule r) false ≡ touches r last n
touched r last n {d} {s} p q h e f t g = ap (λ b. cond b (implicit_rule r) false) (sym g ∙ ap₂ leb (difference last r.base d p q h e) f)

-- the test that four bytes are in memory
pub in_memory : (size pc d : ℕ) → size < 2 ^ 64 → pc < 2 ^ 64 → d < 2 ^ 64 → (d + pc) % 2 ^ 64 ≡ size → (ltb pc size && leb 4 d) ≡ leb (pc + 4) size
in_memory size pc d p q r e = go (ltb pc size) refl (leb 4 d) refl
  where
    go : (b : Bool) → ltb pc size ≡ b → (c : Bool) → leb 4 d ≡ c → (b && c) ≡ leb (pc + 4) size
    go true l true m = let x = ltb-true pc size l in let y = leb-true 4 d m in sym (le-leb (pc + 4) size (omega (arith, x, y)))
    go true l false m = let x = ltb-true pc size l in let y = leb-false 4 d m in sym (lt-leb (pc + 4) size (omega (arith, x, y)))
    go false l c m = let x = ltb-false pc size l in sym (lt-leb (pc + 4) size (omega (arith, x)))

-- ---- the first number of a list whose region matches

first_found : (rs : List Region) (ns : List ℕ) (a : ℕ) → unwrap_or (find (λ n. matches (region rs n) a) ns) 0 ≡ first_match rs ns a
unfolding first_match
first_found rs [] a = refl
first_found rs (n ∷ ns) a = go (matches (region rs n) a) (first_found rs ns a)
  where
    go : (b : Bool) → unwrap_or (find (λ m. matches (region rs m) a) ns) 0 ≡ first_match rs ns a
        → unwrap_or (cond b (Some n) (find (λ m. matches (region rs m) a) ns)) 0 ≡ cond b n (first_match rs ns a)
    go true e = refl
    go false e = e

pub match_found : (rs : List Region) (ns : List ℕ) (a : ℕ) (r : Option ℕ) → option_map (λ x. x) r ≡ find (λ n. matches (region rs n) a) ns
    → unwrap_or r 0 ≡ first_match rs ns a
match_found rs ns a None e = ap (λ o. unwrap_or o 0) e ∙ first_found rs ns a
match_found rs ns a (Some x) e = ap (λ o. unwrap_or o 0) e ∙ first_found rs ns a

-- ---- the loop over the numbers of a list, from index i on

module _ (rs : List Region) (ns : List ℕ) (i : ℕ) where
  module _ (wanted a n : ℕ) where
    pub whole_here : i < length ns → has_whole (region rs (get_or ns i 0)) wanted a (byte_of a (n - 1)) ≡ true → grants_whole rs (drop i ns) wanted a n ≡ true
    unfolding grants_whole
    whole_here h e = rw (drop-cons ns i 0 h) (rw e refl)

    pub whole_touched : i < length ns → has_whole (region rs (get_or ns i 0)) wanted a (byte_of a (n - 1)) ≡ false
        → touches (region rs (get_or ns i 0)) (byte_of a (n - 1)) n ≡ true → grants_whole rs (drop i ns) wanted a n ≡ false
    unfolding grants_whole
    whole_touched h e t = rw (drop-cons ns i 0 h) (rw (e, t) refl)

    pub whole_next : i < length ns → has_whole (region rs (get_or ns i 0)) wanted a (byte_of a (n - 1)) ≡ false
        → touches (region rs (get_or ns i 0)) (byte_of a (n - 1)) n ≡ false → grants_whole rs (drop i ns) wanted a n ≡ grants_whole rs (drop (i + 1) ns) wanted a n
    unfolding grants_whole
    whole_next h e t = let s : i + 1 ≡ suc i = omega arith in rw (drop-cons ns i 0 h, s) (rw (e, t) refl)

    pub whole_end : length ns ≤ i → grants_whole rs (drop i ns) wanted a n ≡ false
    unfolding grants_whole
    whole_end h = rw (drop_of_length-le ns h) refl
