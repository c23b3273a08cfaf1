-- Which implicit region decides a byte, and when the byte is granted, over any list of region numbers: "the lowest-numbered matching region of the kind
-- decides, even if a later one would grant more" (02, Job 7). Each both ways.
-- Assumes nothing.
use mathlib.Core.Path.{◌≡◌, refl, sym, ap, ◌∙◌}
use mathlib.Core.Bool.{Bool, true, false, cond, not, false≢true}
use mathlib.Core.List.{List, [], ◌∷◌, ◌++◌}
use mathlib.Core.Logic.{◌⊎◌, inl, inr}
use Prim.Native.Nat.{ℕ}
use lib.Dec.{eqb}
use borrow.Author.Tests.{eqb-false, ne_eqb, not-true}
use Rattle.std.proofs.lemmas.Bool.{and_parts}
use Rattle.instructions.proofs.HWords.{Each}
use Rattle.model.specs.Machine.{region}
use Rattle.model.specs.Regions.{permits, matches, first_match, implicit_grants}
use Rattle.model.specs.declared.Region.{Region}

-- none of the regions numbered ns matches the byte at a
abbrev pub Unmatched : List Region → ℕ → List ℕ → Type 0
Unmatched rs a ns = Each (λ k. matches (region rs k) a ≡ false) ns

-- region n of them does, and none before it
pub record Decides (rs : List Region) (ns : List ℕ) (a n : ℕ) : Type 0 where
  pub before : List ℕ
  pub after : List ℕ
  pub stands : ns ≡ before ++ (n ∷ after)
  pub unmatched : Unmatched rs a before
  pub matched : matches (region rs n) a ≡ true

each_at : (P : ℕ → Type 0) (before after : List ℕ) (n : ℕ) → Each P (before ++ (n ∷ after)) → P n
each_at P [] after n h = h.0
each_at P (b ∷ before) after n h = each_at P before after n h.1

-- ---- the first match

module _ (rs : List Region) (a : ℕ) where
  after_unmatched : (before after : List ℕ) (n : ℕ) → Unmatched rs a before → matches (region rs n) a ≡ true
      → first_match rs (before ++ (n ∷ after)) a ≡ n
  unfolding first_match
  after_unmatched [] after n u e = rw e refl
  after_unmatched (b ∷ before) after n u e = rw u.0 (after_unmatched before after n u.1 e)

  pub decides_first : (ns : List ℕ) (n : ℕ) → Decides rs ns a n → first_match rs ns a ≡ n
  decides_first ns n d = rw d.stands (after_unmatched d.before d.after n d.unmatched d.matched)

  pub unmatched_first : (ns : List ℕ) → Unmatched rs a ns → first_match rs ns a ≡ 0
  unfolding first_match
  unmatched_first [] u = refl
  unmatched_first (n ∷ ns) u = rw u.0 (unmatched_first ns u.1)

  -- and there is no third: "the region that matched .., or 0 if none matched"
  pub first_cases : (ns : List ℕ) → (Unmatched rs a ns × (first_match rs ns a ≡ 0)) ⊎ Decides rs ns a (first_match rs ns a)
  unfolding first_match
  first_cases [] = inl (tt, refl)
  first_cases (n ∷ ns) = go (matches (region rs n) a) refl (first_cases ns)
    where
      go : (t : Bool) → matches (region rs n) a ≡ t → (Unmatched rs a ns × (first_match rs ns a ≡ 0)) ⊎ Decides rs ns a (first_match rs ns a)
          → (Unmatched rs a (n ∷ ns) × (cond t n (first_match rs ns a) ≡ 0)) ⊎ Decides rs (n ∷ ns) a (cond t n (first_match rs ns a))
      go true e c = inr (record { before = []; after = ns; stands = refl; unmatched = tt; matched = e })
      go false e (inl u) = inl ((e, u.0), u.1)
      go false e (inr d) =
          inr (record {
            before = n ∷ d.before;
            after = d.after;
            stands = ap (λ (l : List ℕ). n ∷ l) d.stands;
            unmatched = (e, d.unmatched);
            matched = d.matched;
          })

-- ---- the grant

-- a region of the list matches the byte and permits it, and no region before it matches. Regions count from 1
pub record Granted (rs : List Region) (ns : List ℕ) (p a : ℕ) : Type 0 where
  pub number : ℕ
  pub counted : number ≡ 0 → ⊥
  pub decides : Decides rs ns a number
  pub permitted : permits p (region rs number) ≡ true

module _ (rs : List Region) (ns : List ℕ) (p a : ℕ) where
  pub granted_exactly : implicit_grants rs ns p a ≡ true → Granted rs ns p a
  unfolding implicit_grants
  granted_exactly g = go (first_cases rs a ns)
    where
      n : ℕ
      n = first_match rs ns a

      h : (not (eqb n 0) ≡ true) × (permits p (region rs n) ≡ true)
      h = and_parts (not (eqb n 0)) (permits p (region rs n)) g

      counts : n ≡ 0 → ⊥
      counts = eqb-false n 0 (not-true (eqb n 0) h.0)

      go : (Unmatched rs a ns × (n ≡ 0)) ⊎ Decides rs ns a n → Granted rs ns p a
      go (inl u) = absurd (counts u.1)
      go (inr d) = record { number = n; counted = counts; decides = d; permitted = h.1 }

  pub exactly_granted : Granted rs ns p a → implicit_grants rs ns p a ≡ true
  unfolding implicit_grants
  exactly_granted g = rw (decides_first rs a ns g.number g.decides) (rw (ne_eqb g.number 0 g.counted) g.permitted)

  -- a byte that is not granted, and its fault region: none of the list matches, or the one that decides does not permit it. All of them count from 1
  pub refused_exactly : Each (λ k. k ≡ 0 → ⊥) ns → implicit_grants rs ns p a ≡ false
      → (Unmatched rs a ns × (first_match rs ns a ≡ 0)) ⊎ (Decides rs ns a (first_match rs ns a) × (permits p (region rs (first_match rs ns a)) ≡ false))
  unfolding implicit_grants
  refused_exactly c g = go (first_cases rs a ns)
    where
      n : ℕ
      n = first_match rs ns a

      unpermitted : Decides rs ns a n → (b : Bool) → permits p (region rs n) ≡ b → permits p (region rs n) ≡ false
      unpermitted d true e =
          let k = each_at (λ (k : ℕ). k ≡ 0 → ⊥) d.before d.after n (rw d.stands at c) in
          absurd (false≢true (sym g ∙ exactly_granted (record { number = n; counted = k; decides = d; permitted = e })))
      unpermitted d false e = e

      go : (Unmatched rs a ns × (n ≡ 0)) ⊎ Decides rs ns a n → (Unmatched rs a ns × (n ≡ 0)) ⊎ (Decides rs ns a n × (permits p (region rs n) ≡ false))
      go (inl u) = inl u
      go (inr d) = inr (d, unpermitted d (permits p (region rs n)) refl)
