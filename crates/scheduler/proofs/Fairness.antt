-- "a deck that stays unstopped gets its turn before any other deck gets two": by how far it is from the place to each slot. A turn is the nearest
-- one's, and the place then stands behind it; so a slot that has had its turn is farther than one that waits, until that has had its own.
-- Assumes nothing.
use mathlib.Core.Path.{◌≡◌, refl, ap, sym, ◌∙◌}
use mathlib.Core.Bool.{Bool, true, false}
use mathlib.Core.List.{List, [], ◌∷◌}
use Prim.Native.Nat.{ℕ, suc, ◌<◌, ◌≤◌}
use native.Mathlib.Omega.{arith}
use lib.Dec.{eqb, ltb}
use lib.ListN.{length}
use borrow.Author.Tests.{eqb-true, eqb-false, ltb-true, ltb-false}
use Rattle.scheduler.specs.Turn.{slot, stopped, place_in, following, next_slot, Left}
use Rattle.scheduler.specs.Turns.{Given, left, State, after, Follow, turns_of, in_turn}
use Rattle.scheduler.specs.Fairness.{SamePlace, StaysUnstopped, Fairness}
use Rattle.scheduler.specs.declared.Scheduler.{Scheduler}
use Rattle.scheduler.specs.declared.Slot.{Slot}
use Rattle.scheduler.proofs.Round.{distance, Numbered, first_found, distance_below, distance_past, distance_one, distance_last, following_numbered, place_numbered, place_same}
use Rattle.scheduler.proofs.Turn.{Turn, turn_is}
use Rattle.scheduler.proofs.Turn.Turn.{none, took}
use Rattle.scheduler.proofs.Turns.{count_kept, mine, others, in_turn_follows}

-- where the next turn starts to look
abbrev start : Scheduler → ℕ
start s = place_in s.count s.place

-- ---- one turn

-- whose it is, and where the next one starts
data Whose (g : Given) : Type 0 where
  nobody : (left g).result.slot ≡ 0 → start (after g).scheduler ≡ start g.scheduler → Whose g
  slots : (r : ℕ) → (left g).result.slot ≡ r → Numbered g.scheduler.count r → next_slot g.scheduler ≡ r
      → start (after g).scheduler ≡ following g.scheduler.count r → Whose g

whose : (g : Given) → Whose g
whose g = go (turn_is g.scheduler g.memory g.allowance)
  where
    go : Turn g.scheduler g.memory g.allowance → Whose g
    go (none stop e) = Whose.nobody (ap (λ (l : Left). l.result.slot) e) (ap (λ (l : Left). start l.result.scheduler) e)
    go (took n t) =
        Whose.slots n (ap (λ (l : Left). l.result.slot) t.left) t.numbered t.next
        (ap (λ (l : Left). start l.result.scheduler) t.left ∙ place_same _ _ (following_numbered _ n t.numbered))

-- ---- turns of a slot

not_mine : (n : ℕ) (g : Given) (gs : List Given) → turns_of n (g ∷ gs) ≡ [] → (left g).result.slot ≡ n → ⊥
not_mine n g gs e h =
    let z : suc (length (turns_of n gs)) ≡ 0 = ap length (sym (mine n g gs h) ∙ e) in
    omega (arith, z)

rest_too : (n : ℕ) (g : Given) (gs : List Given) → turns_of n (g ∷ gs) ≡ [] → turns_of n gs ≡ []
rest_too n g gs e = sym (others n g gs (not_mine n g gs e)) ∙ e

-- ---- slot n waits; slot k is farther than n, or has had its one turn

-- n is one of the slots, and is not stopped in the turn g; its turn is not this one's
module _ (g : Given) (n : ℕ) (p : Numbered g.scheduler.count n) (u : stopped (slot g.scheduler.slots n) ≡ false) (ne : (left g).result.slot ≡ n → ⊥) where
  abbrev c : ℕ
  c = g.scheduler.count

  here : Numbered c (start g.scheduler)
  here = place_numbered c g.scheduler.place (let l = p.low in let h = p.high in omega (arith, l, h))

  -- the slot whose turn it is is nearer
  nearer : (r : ℕ) → (left g).result.slot ≡ r → Numbered c r → next_slot g.scheduler ≡ r → distance c (start g.scheduler) r < distance c (start g.scheduler) n
  nearer r e q f = go (distance c (start g.scheduler) r) (distance c (start g.scheduler) n) refl refl near
    where
      near : distance c (start g.scheduler) r ≤ distance c (start g.scheduler) n
      near =
          rw (sym f) (first_found g.scheduler.slots c c (start g.scheduler) n here p u (distance_below c (start g.scheduler) n here p)).near

      go : (a b : ℕ) → distance c (start g.scheduler) r ≡ a → distance c (start g.scheduler) n ≡ b → a ≤ b → a < b
      go a b x y l = by (ltb a b) refl
        where
          by : (t : Bool) → ltb a b ≡ t → a < b
          by true z = ltb-true a b z
          by false z =
              let w = ltb-false a b z in
              let v : a ≡ b = omega (arith, l, w) in
              absurd (ne (e ∙ distance_one c (start g.scheduler) r n here q p (x ∙ v ∙ sym y)))

  -- what is farther than n stays farther
  still_farther : (k : ℕ) → Numbered c k → distance c (start g.scheduler) n < distance c (start g.scheduler) k
      → ((left g).result.slot ≡ k → ⊥) × (distance c (start (after g).scheduler) n < distance c (start (after g).scheduler) k)
  still_farther k q far = go (whose g)
    where
      go : Whose g → ((left g).result.slot ≡ k → ⊥) × (distance c (start (after g).scheduler) n < distance c (start (after g).scheduler) k)
      go (Whose.nobody e f) = ((λ h. let l = q.low in omega (arith, e, h, l)), rw f far)
      go (Whose.slots r e i f j) =
          let l = nearer r e i f in
          let a = distance_past c (start g.scheduler) n here p r i l in
          let b = distance_past c (start g.scheduler) k here q r i (omega (arith, l, far)) in (
            (λ h. let same : r ≡ k = sym e ∙ h in let z : distance c (start g.scheduler) r ≡ distance c (start g.scheduler) k = ap (distance c (start g.scheduler)) same in omega (arith, l, far, z)),
            rw j (omega (arith, a, b, far)),
          )

  -- a slot that has had its turn is farther than n
  had_its_turn : (k : ℕ) → 1 ≤ k → (left g).result.slot ≡ k → Numbered c k × (distance c (start (after g).scheduler) n < distance c (start (after g).scheduler) k)
  had_its_turn k l h = go (whose g)
    where
      go : Whose g → Numbered c k × (distance c (start (after g).scheduler) n < distance c (start (after g).scheduler) k)
      go (Whose.nobody e f) = absurd (omega (arith, e, h, l))
      go (Whose.slots r e i f j) =
          let same : r ≡ k = sym e ∙ h in
          let q : Numbered c k = rw (sym same) i in
          (q, rw (j, same) (distance_last c n k p q (λ x. ne (h ∙ sym x))))

-- the count is the same after a turn
as_counted : (c d m n k : ℕ) → d ≡ c → distance c m n < distance c m k → distance d m n < distance d m k
as_counted c d m n k e h = rw e h

-- a slot that is farther than n gets no turn while n gets none
none_yet : (p : State) (gs : List Given) (n k : ℕ) → Follow SamePlace p gs → StaysUnstopped n gs → Numbered p.scheduler.count n → Numbered p.scheduler.count k
    → distance p.scheduler.count (start p.scheduler) n < distance p.scheduler.count (start p.scheduler) k → turns_of n gs ≡ [] → turns_of k gs ≡ []
unfolding turns_of
none_yet p [] n k f u a b far e = refl
none_yet p (g ∷ gs) n k f u a b far e =
    let keeps = f.0 in
    let a' : Numbered g.scheduler.count n = rw keeps.count a in
    let b' : Numbered g.scheduler.count k = rw keeps.count b in
    let far' : distance g.scheduler.count (start g.scheduler) n < distance g.scheduler.count (start g.scheduler) k = rw (keeps.count, keeps.place) far in
    let t = still_farther g n a' u.0 (not_mine n g gs e) k b' far' in
    others k g gs t.0
    ∙ none_yet (after g) gs n k f.1 u.1 (rw (count_kept g) a') (rw (count_kept g) b')
    (as_counted g.scheduler.count (after g).scheduler.count (start (after g).scheduler) n k (count_kept g) t.1) (rest_too n g gs e)

pub fairness : Fairness
unfolding turns_of
fairness p [] n k f u l h m e = omega arith
fairness p (g ∷ gs) n k f u l h m e = go (eqb (left g).result.slot k) refl (fairness (after g) gs n k)
  where
    there : Numbered g.scheduler.count n
    there = rw f.0.count (record { low = l; high = h })

    kept : Numbered (after g).scheduler.count n
    kept = rw (count_kept g) there

    go : (b : Bool) → eqb (left g).result.slot k ≡ b
        → (Follow SamePlace (after g) gs → StaysUnstopped n gs → 1 ≤ n → n ≤ (after g).scheduler.count → 1 ≤ k → turns_of n gs ≡ [] → length (turns_of k gs) ≤ 1)
        → length (turns_of k (g ∷ gs)) ≤ 1
    go true q later =
        let t = had_its_turn g n there u.0 (not_mine n g gs e) k m (eqb-true _ k q) in
        let z = none_yet (after g) gs n k f.1 u.1 kept (rw (count_kept g) t.0)
        (as_counted g.scheduler.count (after g).scheduler.count (start (after g).scheduler) n k (count_kept g) t.1) (rest_too n g gs e) in
        rw (mine k g gs (eqb-true _ k q), z) (omega arith)
    go false q later = rw (others k g gs (eqb-false _ k q)) (later f.1 u.1 l kept.high m (rest_too n g gs e))

-- so of a main loop that changes nothing, whatever the allowances
pub fair_in_turn : (p : State) (allowances : List ℕ) (n k : ℕ) → StaysUnstopped n (in_turn p allowances) → 1 ≤ n → n ≤ p.scheduler.count → 1 ≤ k
    → turns_of n (in_turn p allowances) ≡ [] → length (turns_of k (in_turn p allowances)) ≤ 1
fair_in_turn p allowances n k = fairness p (in_turn p allowances) n k (in_turn_follows SamePlace (λ q. record { place = refl; count = refl }) p allowances)

-- all that the main loop may change: slots, total, memory and allowance
pub same_place_else : (p : State) (ds : List Slot) (total : ℕ) (mem : List ℕ) → SamePlace p (record {
  scheduler = record { slots = ds; count = p.scheduler.count; place = p.scheduler.place; total = total };
  memory = mem;
})
same_place_else p ds total mem = record { place = refl; count = refl }
