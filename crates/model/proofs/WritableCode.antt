-- The test of WritableCode.antt holds exactly if a byte below 2^48 is both writable and executable. The law under it is over any list
-- of regions and any numbers of each kind: where no edge of any region stands at a byte, that byte is in the same regions as the
-- one before it, so that the same region decides; a byte that is both is thus led down to an edge that is both.
-- Assumes nothing.
use mathlib.Core.Path.{◌≡◌, refl, sym, ap, ap₂, subst, ◌∙◌}
use mathlib.Core.Bool.{Bool, true, false, cond, ◌&&◌, ◌||◌, false≢true}
use mathlib.Core.List.{List, [], ◌∷◌, ◌++◌}
use mathlib.Core.Logic.{◌⊎◌, inl, inr}
use Prim.Native.Nat.{ℕ, zero, suc, ◌+◌, ◌-◌, ◌^◌, ◌<◌, ◌≤◌}
use native.Mathlib.Omega.{arith}
use lib.Dec.{eqb, leb, ltb, lit<}
use lib.ListN.{get_or}
use lib.Count.{count_trailing_zeros}
use borrow.Author.Tests.{leb-true, le-leb, ltb-true, lt-ltb, eqb-true, eqb-false, eq-eqb}
use Rattle.std.specs.Cmp.{both_ways}
use Rattle.std.proofs.lemmas.Bool.{or_cases, or_left, or_right, and_parts}
use Rattle.model.specs.Machine.{no_region, region}
use Rattle.instructions.specs.HWords.{explicit_regions, among}
use Rattle.instructions.proofs.HWords.{Each}
use Rattle.model.specs.Regions.{RegionKind, explicit, implicit_data, implicit_code, data_regions, code_regions, region_kind, write, execute, permits, implicit_rule, explicit_rule, matches, first_match, granting, implicit_grants}
use Rattle.model.specs.Reach.{Writable, Executable}
use Rattle.model.specs.WritableCode.{WritableCode, covers, explicit_covers, writable_at, executable_at, both_at, keeps_rule, region_end, edges, some, writable_code}
use Rattle.model.specs.declared.Region.{Region}
use Rattle.model.proofs.Intervals.{implicit_kept, matches_inside, inside_matches, matches_low, broken_matches_none, explicit_ends}
use Rattle.model.proofs.Reach.{InExplicit, InImplicit, InChosen, granted_by}
use Rattle.model.proofs.Forms.{writable_form, form_writable, executable_form, form_executable}

-- ---- tests

-- two tests that hold together are one
nowhere : (b c : Bool) → cond b true c ≡ false → (b ≡ false) × (c ≡ false)
nowhere true c e = let z : ◌≡◌ {A = ℕ} 0 1 = cc in absurd (omega arith)
nowhere false c e = (refl, e)

each_all : {P : ℕ → Type 0} → ((n : ℕ) → P n) → (ns : List ℕ) → Each P ns
each_all f [] = tt
each_all f (n ∷ ns) = (f n, each_all f ns)

each_map : {P Q : ℕ → Type 0} → ((n : ℕ) → P n → Q n) → (ns : List ℕ) → Each P ns → Each Q ns
each_map f [] h = tt
each_map f (n ∷ ns) h = (f n h.0, each_map f ns h.1)

some_among : (p : ℕ → Bool) (a : ℕ) (bs : List ℕ) → among a bs ≡ true → p a ≡ true → some p bs ≡ true
some_among p a [] h t = absurd (false≢true h)
some_among p a (b ∷ bs) h t = go (eqb a b) refl h (λ q. some_among p a bs q t)
  where
    go : (c : Bool) → eqb a b ≡ c → cond c true (among a bs) ≡ true → (among a bs ≡ true → some p bs ≡ true) → (p b || some p bs) ≡ true
    go true e q f = or_left (p b) _ (ap p (sym (eqb-true a b e)) ∙ t)
    go false e q f = or_right (p b) _ (f q)

-- ---- one region, of whatever kind: the byte at b is no edge of it

abbrev NoEdge : RegionKind → ℕ → Region → Type 0
NoEdge k b r = keeps_rule k r ≡ true → (b ≡ r.base → ⊥) × (b ≡ region_end k r → ⊥)

slide_inside : (s e a : ℕ) → (suc a ≡ s → ⊥) → (suc a ≡ e → ⊥) → (leb s (suc a) && ltb (suc a) e) ≡ (leb s a && ltb a e)
slide_inside s e a p q =
    both_ways _ _
    (λ h.
    let t = and_parts (leb s (suc a)) (ltb (suc a) e) h in
    let l = leb-true s (suc a) t.0 in
    let u = ltb-true (suc a) e t.1 in
    rw (le-leb s a (omega (arith, l, p)), lt-ltb a e (omega (arith, u))) refl)
    (λ h.
    let t = and_parts (leb s a) (ltb a e) h in
    let l = leb-true s a t.0 in
    let u = ltb-true a e t.1 in
    rw (le-leb s (suc a) (omega (arith, l)), lt-ltb (suc a) e (omega (arith, u, q))) refl)

slide_covers : (wanted a : ℕ) (r : Region) → NoEdge explicit (suc a) r → covers wanted (suc a) r ≡ covers wanted a r
slide_covers wanted a r h = go (explicit_rule r) refl
  where
    go : (b : Bool) → explicit_rule r ≡ b → covers wanted (suc a) r ≡ covers wanted a r
    go true e = let n = h e in ap (λ t. explicit_rule r && (permits wanted r && t)) (slide_inside r.base (r.base + r.bound) a n.0 n.1)
    go false e = rw e refl

slide_matches : (a : ℕ) (r : Region) → suc a < 2 ^ 64 → NoEdge implicit_data (suc a) r → matches r (suc a) ≡ matches r a
slide_matches a r l h = go (implicit_rule r) refl
  where
    go : (b : Bool) → implicit_rule r ≡ b → matches r (suc a) ≡ matches r a
    go false e = broken_matches_none r (suc a) e ∙ sym (broken_matches_none r a e)
    go true e =
        both_ways _ _
        (λ t. let i = matches_inside r (suc a) l t in inside_matches r a e (omega (arith, i.0, (h e).0)) (omega (arith, i.1)))
        (λ t. let i = matches_inside r a (omega arith) t in inside_matches r (suc a) e (omega (arith, i.0)) (omega (arith, i.1, (h e).1)))

-- ---- regions by their numbers

slide_first : (rs : List Region) (ns : List ℕ) (a : ℕ) → suc a < 2 ^ 64 → Each (λ n. NoEdge implicit_data (suc a) (region rs n)) ns
    → first_match rs ns (suc a) ≡ first_match rs ns a
unfolding first_match
slide_first rs [] a l h = refl
slide_first rs (n ∷ ns) a l h = ap₂ (λ b k. cond b n k) (slide_matches a (region rs n) l h.0) (slide_first rs ns a l h.1)

slide_grants : (rs : List Region) (ns : List ℕ) (wanted a : ℕ) → suc a < 2 ^ 64 → Each (λ n. NoEdge implicit_data (suc a) (region rs n)) ns
    → implicit_grants rs ns wanted (suc a) ≡ implicit_grants rs ns wanted a
unfolding implicit_grants
slide_grants rs ns wanted a l h = ap (granting rs wanted) (slide_first rs ns a l h)

slide_covered : (rs : List Region) (ns : List ℕ) (wanted a : ℕ) → Each (λ n. NoEdge explicit (suc a) (region rs n)) ns
    → explicit_covers rs ns wanted (suc a) ≡ explicit_covers rs ns wanted a
unfolding explicit_covers
slide_covered rs [] wanted a h = refl
slide_covered rs (n ∷ ns) wanted a h = ap₂ ◌||◌ (slide_covers wanted a (region rs n) h.0) (slide_covered rs ns wanted a h.1)

-- ---- the law: explicit regions es, implicit ones ds and cs, and bytes bs among which are all their edges

module _ (rs : List Region) (es ds cs bs : List ℕ) (wanted wants : ℕ)
    (explicits : (b : ℕ) → among b bs ≡ false → Each (λ n. NoEdge explicit b (region rs n)) es)
    (datas : (b : ℕ) → among b bs ≡ false → Each (λ n. NoEdge implicit_data b (region rs n)) ds)
    (codes : (b : ℕ) → among b bs ≡ false → Each (λ n. NoEdge implicit_code b (region rs n)) cs)
  where
    abbrev both : ℕ → Bool
    both a = implicit_grants rs cs wants a && (implicit_grants rs ds wanted a || explicit_covers rs es wanted a)

    -- no region starts at 0, or goes on from the byte before it: no byte is granted
    none_at_zero : among 0 bs ≡ false → both 0 ≡ true → ⊥
    none_at_zero h t =
        granted_by rs cs wants 0 _
        (each_map (λ n k m p. from_zero (region rs n) k m) cs (codes 0 h))
        (and_parts (implicit_grants rs cs wants 0) _ t).0
      where
        from_zero : (r : Region) → NoEdge implicit_data 0 r → matches r 0 ≡ true → ⊥
        from_zero r k m = go (implicit_rule r) refl
          where
            go : (b : Bool) → implicit_rule r ≡ b → ⊥
            go true e = let i = matches_inside r 0 (lit< tt) m in (k e).0 (omega (arith, i.0))
            go false e = let z : false ≡ true = sym (broken_matches_none r 0 e) ∙ m in false≢true z

    slides : (a : ℕ) → suc a < 2 ^ 64 → among (suc a) bs ≡ false → both (suc a) ≡ both a
    slides a l h =
        ap₂ ◌&&◌ (slide_grants rs cs wants a l (codes (suc a) h))
        (ap₂ ◌||◌ (slide_grants rs ds wanted a l (datas (suc a) h)) (slide_covered rs es wanted a (explicits (suc a) h)))

    pub leads_down : (a : ℕ) → a < 2 ^ 64 → both a ≡ true → some both bs ≡ true
    leads_down zero l t = go (among 0 bs) refl
      where
        go : (b : Bool) → among 0 bs ≡ b → some both bs ≡ true
        go true e = some_among both 0 bs e t
        go false e = absurd (none_at_zero e t)
    leads_down (suc a) l t = go (among (suc a) bs) refl (leads_down a (omega arith))
      where
        go : (b : Bool) → among (suc a) bs ≡ b → (both a ≡ true → some both bs ≡ true) → some both bs ≡ true
        go true e f = some_among both (suc a) bs e t
        go false e f = f (sym (slides a l e) ∙ t)

-- ---- the edges of a list of regions

-- a region that is not there keeps no rule
none_keeps : (k : RegionKind) → keeps_rule k no_region ≡ false
unfolding explicit_rule count_trailing_zeros
none_keeps explicit = refl
none_keeps implicit_data = refl
none_keeps implicit_code = refl

-- a byte that is none of a region's edges, where it has any, nor of the rest
apart : (c : Bool) (b start end : ℕ) (rest : List ℕ) → among b (cond c (start ∷ end ∷ []) [] ++ rest) ≡ false
    → (c ≡ true → (b ≡ start → ⊥) × (b ≡ end → ⊥)) × (among b rest ≡ false)
apart true b start end rest h =
    let p = nowhere (eqb b start) _ h in
    let q = nowhere (eqb b end) (among b rest) p.1 in
    ((λ k. (eqb-false b start p.0, eqb-false b end q.0)), q.1)
apart false b start end rest h = ((λ k. absurd (false≢true k)), h)

-- a byte that is none of the edges is no edge of the region at index i
no_edge : (rs : List Region) (n i b : ℕ) → among b (edges n rs) ≡ false → NoEdge (region_kind (n + i)) b (get_or rs i no_region)
no_edge [] n i b h = λ k. absurd (false≢true (sym (none_keeps (region_kind (n + i))) ∙ k))
no_edge (r ∷ rs) n zero b h =
    let e : n + 0 ≡ n = omega arith in
    rw e (apart (keeps_rule (region_kind n) r) b _ _ (edges (suc n) rs) h).0
no_edge (r ∷ rs) n (suc i) b h =
    let e : n + suc i ≡ suc n + i = omega arith in
    rw e (no_edge rs (suc n) i b (apart (keeps_rule (region_kind n) r) b _ _ (edges (suc n) rs) h).1)

-- the numbers of a list are those of a kind's regions: one computed check for each list
abbrev same_kind : RegionKind → RegionKind → Bool
same_kind explicit explicit = true
same_kind explicit implicit_data = false
same_kind explicit implicit_code = false
same_kind implicit_data explicit = false
same_kind implicit_data implicit_data = true
same_kind implicit_data implicit_code = false
same_kind implicit_code explicit = false
same_kind implicit_code implicit_data = false
same_kind implicit_code implicit_code = true

same_kind_lem : (j k : RegionKind) → same_kind j k ≡ true → j ≡ k
same_kind_lem explicit explicit e = refl
same_kind_lem explicit implicit_data e = absurd (false≢true e)
same_kind_lem explicit implicit_code e = absurd (false≢true e)
same_kind_lem implicit_data explicit e = absurd (false≢true e)
same_kind_lem implicit_data implicit_data e = refl
same_kind_lem implicit_data implicit_code e = absurd (false≢true e)
same_kind_lem implicit_code explicit e = absurd (false≢true e)
same_kind_lem implicit_code implicit_data e = absurd (false≢true e)
same_kind_lem implicit_code implicit_code e = refl

abbrev of_kind : RegionKind → List ℕ → Bool
of_kind k [] = true
of_kind k (n ∷ ns) = (ltb 0 n && same_kind (region_kind n) k) && of_kind k ns

-- nor of those numbered ns, all of one kind
no_edges : (rs : List Region) (k : RegionKind) (ns : List ℕ) (b : ℕ) → of_kind k ns ≡ true → among b (edges 1 rs) ≡ false
    → Each (λ n. NoEdge k b (region rs n)) ns
no_edges rs k [] b h t = tt
no_edges rs k (n ∷ ns) b h t =
    let p = and_parts (ltb 0 n && same_kind (region_kind n) k) _ h in
    let q = and_parts (ltb 0 n) _ p.0 in
    let e : 1 + (n - 1) ≡ n = omega (arith, ltb-true 0 n q.0) in (
      subst (λ (j : RegionKind). NoEdge j b (region rs n)) (ap region_kind e ∙ same_kind_lem (region_kind n) k q.1) (no_edge rs 1 (n - 1) b t),
      no_edges rs k ns b p.1 t,
    )

-- a test that some edge passes, with that edge
record Edge (p : ℕ → Bool) : Type 0 where
  at : ℕ
  passes : p at ≡ true
  low : at ≤ 2 ^ 48

-- a region that keeps its rule ends at 2^48 or before
kept_ends : (k : RegionKind) (r : Region) → keeps_rule k r ≡ true → (r.base ≤ region_end k r) × (region_end k r ≤ 2 ^ 48)
kept_ends explicit r h = let e = explicit_ends r h in (omega arith, e.1)
kept_ends implicit_data r h = let e = implicit_kept r h in (omega arith, e.low)
kept_ends implicit_code r h = let e = implicit_kept r h in (omega arith, e.low)

some_edge : (p : ℕ → Bool) (rs : List Region) (n : ℕ) → some p (edges n rs) ≡ true → Edge p
some_edge p [] n h = absurd (false≢true h)
some_edge p (r ∷ rs) n h = go (keeps_rule (region_kind n) r) refl h (some_edge p rs (suc n))
  where
    go : (c : Bool) → keeps_rule (region_kind n) r ≡ c → some p (cond c (r.base ∷ region_end (region_kind n) r ∷ []) [] ++ edges (suc n) rs) ≡ true
        → (some p (edges (suc n) rs) ≡ true → Edge p) → Edge p
    go false e t f = f t
    go true e t f = first (or_cases (p r.base) _ t)
      where
        low : (r.base ≤ region_end (region_kind n) r) × (region_end (region_kind n) r ≤ 2 ^ 48)
        low = kept_ends (region_kind n) r e

        second : (p (region_end (region_kind n) r) ≡ true) ⊎ (some p (edges (suc n) rs) ≡ true) → Edge p
        second (inl y) = record { at = region_end (region_kind n) r; passes = y; low = low.1 }
        second (inr y) = f y

        first : (p r.base ≡ true) ⊎ ((p (region_end (region_kind n) r) || some p (edges (suc n) rs)) ≡ true) → Edge p
        first (inl y) = record { at = r.base; passes = y; low = omega (arith, low.0, low.1) }
        first (inr y) = second (or_cases (p (region_end (region_kind n) r)) _ y)

-- ---- the test of one byte is the definition

-- the byte is in a region of those numbered ns
covered_by : (rs : List Region) (ns : List ℕ) (p b : ℕ) → explicit_covers rs ns p b ≡ true → InChosen rs ns p b
unfolding explicit_covers
covered_by rs [] p b t = absurd (false≢true t)
covered_by rs (n ∷ ns) p b t = go (or_cases (covers p b (region rs n)) (explicit_covers rs ns p b) t) (covered_by rs ns p b)
  where
    go : (covers p b (region rs n) ≡ true) ⊎ (explicit_covers rs ns p b ≡ true) → (explicit_covers rs ns p b ≡ true → InChosen rs ns p b)
        → InChosen rs (n ∷ ns) p b
    go (inr y) f = let c = f y in record { chosen = c.chosen; listed = later (eqb c.chosen n) c.listed; inside = c.inside }
      where
        later : (u : Bool) {v : Bool} → v ≡ true → cond u true v ≡ true
        later true e = refl
        later false e = e
    go (inl y) f =
        let r = region rs n in
        let i = and_parts (explicit_rule r) _ y in
        let j = and_parts (permits p r) _ i.1 in
        let k = and_parts (leb r.base b) (ltb b (r.base + r.bound)) j.1 in
        record {
          chosen = n;
          listed = rw (eq-eqb n n refl) refl;
          inside = record { rule = i.0; permitted = j.0; start = leb-true _ _ k.0; end = ltb-true _ _ k.1 };
        }

by_covered : (rs : List Region) (ns : List ℕ) (n p b : ℕ) → among n ns ≡ true → InExplicit (region rs n) p b → explicit_covers rs ns p b ≡ true
unfolding explicit_covers
by_covered rs [] n p b h i = absurd (false≢true h)
by_covered rs (k ∷ ns) n p b h i = go (eqb n k) refl h (λ q. by_covered rs ns n p b q i)
  where
    go : (c : Bool) → eqb n k ≡ c → cond c true (among n ns) ≡ true → (among n ns ≡ true → explicit_covers rs ns p b ≡ true)
        → (covers p b (region rs k) || explicit_covers rs ns p b) ≡ true
    go false e q f = or_right (covers p b (region rs k)) _ (f q)
    go true e q f =
        or_left (covers p b (region rs k)) _
        (ap (λ j. covers p b (region rs j)) (sym (eqb-true n k e)) ∙ rw (i.rule, i.permitted, le-leb _ _ i.start) (lt-ltb _ _ i.end))

module _ (rs : List Region) (b : ℕ) where
  writable_tested : Writable rs b → writable_at rs b ≡ true
  writable_tested w = go (writable_form rs b w)
    where
      go : InImplicit rs data_regions write b ⊎ InChosen rs explicit_regions write b → writable_at rs b ≡ true
      go (inl i) = or_left (implicit_grants rs data_regions write b) _ i.granted
      go (inr i) = or_right (implicit_grants rs data_regions write b) _ (by_covered rs explicit_regions i.chosen write b i.listed i.inside)

  tested_writable : b < 2 ^ 64 → writable_at rs b ≡ true → Writable rs b
  tested_writable l t = form_writable rs b (go (or_cases (implicit_grants rs data_regions write b) _ t))
    where
      go : (implicit_grants rs data_regions write b ≡ true) ⊎ (explicit_covers rs explicit_regions write b ≡ true)
          → InImplicit rs data_regions write b ⊎ InChosen rs explicit_regions write b
      go (inl g) = inl (record { granted = g; address = l })
      go (inr g) = inr (covered_by rs explicit_regions write b g)

  -- what a code region grants lies below 2^48
  granted_low : InImplicit rs code_regions execute b → b < 2 ^ 48
  granted_low i =
      let f : (n : ℕ) → matches (region rs n) b ≡ true → permits execute (region rs n) ≡ true → b < 2 ^ 48 = λ n m p. matches_low (region rs n) b i.address m in
      granted_by rs code_regions execute b _ (each_all f code_regions) i.granted

-- ---- the theorem, both ways

pub code_tested : (rs : List Region) → WritableCode rs → writable_code rs ≡ true
unfolding writable_code
code_tested rs w =
    leads_down rs explicit_regions data_regions code_regions (edges 1 rs) write execute
    (λ b h. no_edges rs explicit explicit_regions b refl h)
    (λ b h. no_edges rs implicit_data data_regions b refl h)
    (λ b h. no_edges rs implicit_code code_regions b refl h)
    w.at (omega (arith, w.low)) (rw (executable_form rs w.at w.executable).granted (writable_tested rs w.at w.writable))

pub tested_code : (rs : List Region) → writable_code rs ≡ true → WritableCode rs
unfolding writable_code
tested_code rs t =
    let e = some_edge (both_at rs) rs 1 t in
    let p = and_parts (executable_at rs e.at) (writable_at rs e.at) e.passes in
    let i : InImplicit rs code_regions execute e.at = record { granted = p.0; address = omega (arith, e.low) } in
    record {
      at = e.at;
      low = granted_low rs e.at i;
      writable = tested_writable rs e.at i.address p.1;
      executable = form_executable rs e.at i;
    }

-- so, where the test fails, a byte that may be executed may not be writable-tested
pub not_both : (rs : List Region) (b : ℕ) → writable_code rs ≡ false → Executable rs b → Writable rs b → ⊥
not_both rs b n x w =
    false≢true
    (sym n ∙ code_tested rs (record { at = b; low = granted_low rs b (executable_form rs b x); writable = w; executable = x }))

-- and where it holds, not every byte below 2^48 is only one of the two
pub not_apart : (rs : List Region) → writable_code rs ≡ true → ((b : ℕ) → b < 2 ^ 48 → Writable rs b → Executable rs b → ⊥) → ⊥
not_apart rs t n = let w = tested_code rs t in n w.at w.low w.writable w.executable
