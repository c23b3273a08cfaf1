-- Going round the slots: how far it is from one number to another, and that a turn is the nearest slot's that is not stopped.
-- Assumes nothing.
use mathlib.Core.Path.{◌≡◌, refl, ap, sym, ◌∙◌}
use mathlib.Core.Bool.{Bool, true, false, cond}
use mathlib.Core.List.{List}
use Prim.Native.Nat.{ℕ, zero, suc, ◌+◌, ◌-◌, ◌<◌, ◌≤◌}
use native.Mathlib.Omega.{arith}
use lib.Dec.{leb, ltb}
use borrow.Author.Tests.{leb-true, leb-false, ltb-true, ltb-false, le-leb}
use Rattle.std.proofs.lemmas.Bool.{both_ways, and_parts}
use Rattle.scheduler.specs.Turn.{within, slot, stopped, place_in, following, first_unstopped}
use Rattle.scheduler.specs.declared.Slot.{Slot}

-- from m on and round, how many numbers stand before n
abbrev pub distance : ℕ → ℕ → ℕ → ℕ
distance count m n = cond (leb m n) (n - m) (n + count - m)

-- a number of 1 to count
pub record Numbered (count n : ℕ) : Type 0 where
  pub low : 1 ≤ n
  pub high : n ≤ count

-- the two cases of each, as sums
data Distance (count m n : ℕ) : ℕ → Type 0 where
  ahead : (d : ℕ) → m + d ≡ n → Distance count m n d
  round : (d : ℕ) → m + d ≡ n + count → n < m → Distance count m n d

distance_is : (count m n : ℕ) → Numbered count m → Distance count m n (distance count m n)
distance_is count m n p = go (leb m n) refl
  where
    go : (b : Bool) → leb m n ≡ b → Distance count m n (cond b (n - m) (n + count - m))
    go true e = let h = leb-true m n e in ahead (n - m) (omega (arith, h))
    go false e = let h = leb-false m n e in round (n + count - m) (omega (arith, h, p.high)) h

data Following (count n : ℕ) : ℕ → Type 0 where
  one_on : n < count → Following count n (suc n)
  first : count ≤ n → Following count n 1

following_is : (count n : ℕ) → Following count n (following count n)
following_is count n = go (ltb n count) refl
  where
    go : (b : Bool) → ltb n count ≡ b → Following count n (cond b (suc n) 1)
    go true e = one_on (ltb-true n count e)
    go false e = first (ltb-false n count e)

pub following_numbered : (count n : ℕ) → Numbered count n → Numbered count (following count n)
following_numbered count n p = go (following_is count n)
  where
    go : {f : ℕ} → Following count n f → Numbered count f
    go (one_on h) = record { low = omega arith; high = h }
    go (first h) = record { low = omega arith; high = omega (arith, p.low, p.high) }

-- ---- distances

module _ (count m n : ℕ) (p : Numbered count m) (q : Numbered count n) where
  pub distance_below : distance count m n < count
  distance_below = go (distance_is count m n p)
    where
      go : {d : ℕ} → Distance count m n d → d < count
      go (ahead d e) = omega (arith, e, p.low, q.high)
      go (round d e h) = omega (arith, e, h)

  -- a number nearer than n is passed: the rest of the way to n is from the number after it
  pub distance_past : (r : ℕ) → Numbered count r → distance count m r < distance count m n
      → distance count m n ≡ distance count m r + suc (distance count (following count r) n)
  distance_past r k = go (distance_is count m n p) (distance_is count m r p) (following_is count r)
    where
      last : {d c f : ℕ} → Distance count m n d → Distance count m r c → Following count r f → c < d → {e : ℕ} → Distance count f n e → d ≡ c + suc e
      last (ahead d a) (ahead c b) (one_on h) l (ahead e g) = omega (arith, a, b, g)
      last (ahead d a) (ahead c b) (one_on h) l (round e g i) = absurd (omega (arith, a, b, i, l))
      last (ahead d a) (ahead c b) (first h) l (ahead e g) = absurd (omega (arith, a, b, h, l, q.high))
      last (ahead d a) (ahead c b) (first h) l (round e g i) = absurd (omega (arith, i, q.low))
      last (ahead d a) (round c b j) x l y = absurd (omega (arith, a, b, l, q.high, k.low))
      last (round d a j) (ahead c b) (one_on h) l (ahead e g) = absurd (omega (arith, a, b, g, j, l, h, p.low))
      last (round d a j) (ahead c b) (one_on h) l (round e g i) = omega (arith, a, b, g)
      last (round d a j) (ahead c b) (first h) l (ahead e g) = omega (arith, a, b, g, h, k.high)
      last (round d a j) (ahead c b) (first h) l (round e g i) = absurd (omega (arith, i, q.low))
      last (round d a j) (round c b i) (one_on h) l (ahead e g) = omega (arith, a, b, g)
      last (round d a j) (round c b i) (one_on h) l (round e g z) = absurd (omega (arith, a, b, z, l))
      last (round d a j) (round c b i) (first h) l y = absurd (omega (arith, h, i, p.high))

      go : {d c f : ℕ} → Distance count m n d → Distance count m r c → Following count r f → c < d → d ≡ c + suc (distance count f n)
      go x y (one_on h) l = last x y (one_on h) l (distance_is count (suc r) n (record { low = omega arith; high = h }))
      go x y (first h) l = last x y (first h) l (distance_is count 1 n (record { low = omega arith; high = omega (arith, q.low, q.high) }))

pub distance_self : (count m : ℕ) → Numbered count m → distance count m m ≡ 0
distance_self count m p = go (distance_is count m m p)
  where
    go : {d : ℕ} → Distance count m m d → d ≡ 0
    go (ahead d a) = omega (arith, a)
    go (round d a j) = absurd (omega (arith, j))

-- two numbers as far away are one
pub distance_one : (count m n k : ℕ) → Numbered count m → Numbered count n → Numbered count k → distance count m n ≡ distance count m k → n ≡ k
distance_one count m n k p q r = go (distance_is count m n p) (distance_is count m k p)
  where
    go : {d c : ℕ} → Distance count m n d → Distance count m k c → d ≡ c → n ≡ k
    go (ahead d a) (ahead c b) e = omega (arith, a, b, e)
    go (ahead d a) (round c b i) e = absurd (omega (arith, a, b, e, q.high, r.low))
    go (round d a j) (ahead c b) e = absurd (omega (arith, a, b, e, r.high, q.low))
    go (round d a j) (round c b i) e = omega (arith, a, b, e)

-- from the number after k on, k is the last
pub distance_last : (count n k : ℕ) → Numbered count n → Numbered count k → (n ≡ k → ⊥) → distance count (following count k) n < distance count (following count k) k
distance_last count n k p q ne = go (following_is count k)
  where
    far : {f : ℕ} → Following count k f → {d c : ℕ} → Distance count f n d → Distance count f k c → d < c
    far (one_on h) (ahead d a) (ahead c b) = absurd (omega (arith, b))
    far (one_on h) (ahead d a) (round c b i) = omega (arith, a, b, p.high)
    far (one_on h) (round d a j) (ahead c b) = absurd (omega (arith, b))
    far (one_on h) (round d a j) (round c b i) = omega (arith, a, b, j, ne)
    far (first h) (ahead d a) (ahead c b) = omega (arith, a, b, h, p.high, ne)
    far (first h) (ahead d a) (round c b i) = absurd (omega (arith, i, q.low))
    far (first h) (round d a j) y = absurd (omega (arith, j, p.low))

    go : {f : ℕ} → Following count k f → distance count f n < distance count f k
    go (one_on h) =
        let m : Numbered count (suc k) = record { low = omega arith; high = h } in
        far (one_on h) (distance_is count (suc k) n m) (distance_is count (suc k) k m)
    go (first h) =
        let m : Numbered count 1 = record { low = omega arith; high = omega (arith, p.low, p.high) } in
        far (first h) (distance_is count 1 n m) (distance_is count 1 k m)

-- ---- the first slot that is not stopped

-- r is found from m on, and no later than n
pub record Found (ds : List Slot) (count m n r : ℕ) : Type 0 where
  pub numbered : Numbered count r
  pub unstopped : stopped (slot ds r) ≡ false
  pub near : distance count m r ≤ distance count m n

pub first_found : (ds : List Slot) (count k m n : ℕ) → Numbered count m → Numbered count n → stopped (slot ds n) ≡ false → distance count m n < k
    → Found ds count m n (first_unstopped ds count k m)
unfolding first_unstopped
first_found ds count zero m n p q u l = absurd (omega (arith, l))
first_found ds count (suc k) m n p q u l =
    go (stopped (slot ds m)) refl (λ f. first_found ds count k (following count m) n (following_numbered count m p) q u f)
  where
    apart : stopped (slot ds m) ≡ true → (i : ℕ) → stopped (slot ds i) ≡ false → m ≡ i → ⊥
    apart e i v same = both_ways _ v (ap (λ j. stopped (slot ds j)) (sym same) ∙ e)

    past : stopped (slot ds m) ≡ true → (i : ℕ) → Numbered count i → stopped (slot ds i) ≡ false → distance count m i ≡ suc (distance count (following count m) i)
    past e i j v =
        let z = distance_self count m p in
        let h : distance count m m < distance count m i = step i j v z in
        distance_past count m i p j m p h ∙ omega (arith, z)
      where
        step : (i : ℕ) → Numbered count i → stopped (slot ds i) ≡ false → distance count m m ≡ 0 → distance count m m < distance count m i
        step i j v z = below (distance count m i) refl
          where
            below : (d : ℕ) → distance count m i ≡ d → distance count m m < distance count m i
            below zero g = absurd (apart e i v (distance_one count m m i p p j (z ∙ sym g)))
            below (suc d) g = omega (arith, g, z)

    go : (b : Bool) → stopped (slot ds m) ≡ b
        → (distance count (following count m) n < k → Found ds count (following count m) n (first_unstopped ds count k (following count m)))
        → Found ds count m n (cond b (first_unstopped ds count k (following count m)) m)
    go false e h = record { numbered = p; unstopped = e; near = let z = distance_self count m p in omega (arith, z) }
    go true e h =
        let s = past e n q u in
        let f = h (omega (arith, s, l)) in
        let t = past e (first_unstopped ds count k (following count m)) f.numbered f.unstopped in
        record { numbered = f.numbered; unstopped = f.unstopped; near = let g = f.near in omega (arith, s, t, g) }

-- what is found at all is one of the slots, and is not stopped
pub found_unstopped : (ds : List Slot) (count k m : ℕ) → Numbered count m → (first_unstopped ds count k m ≡ 0 → ⊥)
    → Numbered count (first_unstopped ds count k m) × (stopped (slot ds (first_unstopped ds count k m)) ≡ false)
unfolding first_unstopped
found_unstopped ds count zero m p n = absurd (n refl)
found_unstopped ds count (suc k) m p n = go (stopped (slot ds m)) refl (found_unstopped ds count k (following count m) (following_numbered count m p)) n
  where
    go : (b : Bool) → stopped (slot ds m) ≡ b
        → ((first_unstopped ds count k (following count m) ≡ 0 → ⊥)
        → Numbered count (first_unstopped ds count k (following count m)) × (stopped (slot ds (first_unstopped ds count k (following count m))) ≡ false))
        → (cond b (first_unstopped ds count k (following count m)) m ≡ 0 → ⊥)
        → Numbered count (cond b (first_unstopped ds count k (following count m)) m) × (stopped (slot ds (cond b (first_unstopped ds count k (following count m)) m)) ≡ false)
    go true e h f = h f
    go false e h f = (p, e)

-- ---- the place

pub within_numbered : (count n : ℕ) → within count n ≡ true → Numbered count n
within_numbered count n e = let t = and_parts (leb 1 n) (leb n count) e in record { low = leb-true 1 n t.0; high = leb-true n count t.1 }

pub numbered_within : (count n : ℕ) → Numbered count n → within count n ≡ true
numbered_within count n p = rw (le-leb 1 n p.low) (le-leb n count p.high)

pub place_numbered : (count place : ℕ) → 1 ≤ count → Numbered count (place_in count place)
place_numbered count place h = go (within count place) refl
  where
    go : (b : Bool) → within count place ≡ b → Numbered count (cond b place 1)
    go true e = within_numbered count place e
    go false e = record { low = omega arith; high = h }

pub place_same : (count place : ℕ) → Numbered count place → place_in count place ≡ place
place_same count place p = rw (numbered_within count place p) refl
