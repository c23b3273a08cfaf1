-- "each one's machine, stops and own bytes after its turns are as if it alone had made as many turns": by induction over the turns, from the
-- isolation theorem, where the turn is the slot's own, and from what a locked run leaves alone, where it is another's.
-- Assumes nothing.
use mathlib.Core.Path.{◌≡◌, refl, ap, sym, subst, ◌∙◌}
use mathlib.Core.Bool.{Bool, true, false, cond, false≢true}
use mathlib.Core.List.{List, [], ◌∷◌, map}
use Prim.Native.Nat.{ℕ, ◌-◌, ◌<◌, ◌≤◌}
use native.Mathlib.Omega.{arith}
use lib.Dec.{eqb, ltb}
use lib.ListN.{length, get_or, set, get_or-eq_default}
use lib.Seq.{get_or-set_same, get_or-set_other}
use borrow.Author.Tests.{eqb-true, eqb-false, ltb-true, ltb-false}
use Rattle.model.specs.Machine.{sum, locked}
use Rattle.model.specs.Reach.{Writable}
use Rattle.model.specs.Run.{Ended, run_call}
use Rattle.model.specs.Isolation.{Locked, Isolated}
use Rattle.model.specs.declared.Region.{Region}
use Rattle.model.specs.declared.Machine.{Machine}
use Rattle.model.specs.Run.{RunAnswer}
use Rattle.model.proofs.Moves.{Settings}
use Rattle.model.proofs.Runs.{locked_is, run_length, locked_keeps, locked_unwritten}
use Rattle.model.proofs.Isolation.{isolation}
use Rattle.scheduler.specs.Turn.{within, no_slot, slot, stopped, place_in, first_unstopped, slots_refusal, Left, turned_with, took_turn, turn_call}
use Rattle.scheduler.specs.Turns.{Given, left, State, before, after, Follow, turns_of, in_turn}
use Rattle.scheduler.specs.Apartness.{Untouched, Own, regions_at, Taking, Apart, alone, alone_turns, Told, told, Alike, Apartness}
use Rattle.scheduler.specs.declared.Slot.{Slot}
use Rattle.scheduler.specs.declared.Scheduler.{Scheduler}
use Rattle.scheduler.proofs.Round.{Numbered, within_numbered}
use Rattle.scheduler.proofs.Turn.{Ready, ready_slot, accepting, Took, Turn, turn_is, turn_runs}
use Rattle.scheduler.proofs.Turn.Turn.{none, took}
use Rattle.scheduler.proofs.Turns.{mine, others, in_turn_follows}

-- ---- lists of slots

-- what is asked and passes is in the list: the slot that stands for none is refused
pub there : (ds : List Slot) (n : ℕ) → Ready (slot ds n) → n - 1 < length ds
there ds n r = go (ltb (n - 1) (length ds)) refl
  where
    go : (b : Bool) → ltb (n - 1) (length ds) ≡ b → n - 1 < length ds
    go true e = ltb-true _ _ e
    go false e =
        let d = get_or-eq_default ds no_slot {n = n - 1} (ltb-false _ _ e) in
        let z : false ≡ true = ap (λ (h : Slot). locked h.machine.hfi) (sym d) ∙ r.lock in
        absurd (false≢true z)

pub slot_same : (ds : List Slot) (n : ℕ) (d : Slot) → n - 1 < length ds → slot (set ds (n - 1) d) n ≡ d
slot_same ds n d h = get_or-set_same ds (n - 1) d no_slot h

pub slot_other : (ds : List Slot) (n k : ℕ) (d : Slot) → 1 ≤ n → 1 ≤ k → (n ≡ k → ⊥) → slot (set ds (n - 1) d) k ≡ slot ds k
slot_other ds n k d l m ne = get_or-set_other ds (n - 1) (k - 1) d no_slot (λ e. ne (omega (arith, e, l, m)))

-- ---- slot n among others, in p, and alone: a slot d over a memory t

-- alone, with whatever place and total
abbrev lone : Slot → ℕ → ℕ → List ℕ → State
lone d place total t = record { scheduler = record { slots = d ∷ []; count = 1; place = place; total = total }; memory = t }

record Tied (n : ℕ) (p : State) (d : Slot) (t : List ℕ) : Type 0 where
  numbered : Numbered p.scheduler.count n
  same : slot p.scheduler.slots n ≡ d
  lengths : length p.memory ≡ length t
  bytes : (b : ℕ) → Own d.machine.hfi.regions b → get_or p.memory b 0 ≡ get_or t b 0
  apart : (k b : ℕ) → b < length p.memory → Taking p.scheduler k → (n ≡ k → ⊥) → Writable (regions_at p.scheduler k) b → Own d.machine.hfi.regions b → ⊥

-- the main loop leaves them so
tied_before : (n : ℕ) (p q : State) (d : Slot) (t : List ℕ) → Untouched p q → Tied n p d t → Tied n q d t
tied_before n p q d t u h =
    record {
      numbered = rw u.count h.numbered;
      same = u.slots n h.numbered.low h.numbered.high ∙ h.same;
      lengths = rw u.memory h.lengths;
      bytes = λ b o. rw u.memory (h.bytes b o);
      apart = λ k b m i ne w o.
          let l = rw u.count at i.last in
          let e = u.slots k i.first l in
          h.apart k b (rw u.memory at m) (record { first = i.first; last = l; unstopped = subst (λ (c : Slot). stopped c ≡ false) e i.unstopped }) ne
          (subst (λ (c : Slot). Writable c.machine.hfi.regions b) e w) o;
    }

-- a scheduler of one slot has one place
first_place : (place : ℕ) → place_in 1 place ≡ 1
first_place place = go (within 1 place) refl
  where
    go : (b : Bool) → within 1 place ≡ b → cond b place 1 ≡ 1
    go true e = let w = within_numbered 1 place e in let x = w.low in let y = w.high in omega (arith, x, y)
    go false e = refl

-- ---- a turn

-- a run of a machine that passed leaves its regions as they were
regions_kept : (d : Slot) (mem : List ℕ) (a : ℕ) → Ready d → (run_call d.machine mem a).result.machine.hfi.regions ≡ d.machine.hfi.regions
regions_kept d mem a r = ap (λ (c : Settings). c.regions) (locked_keeps d.machine mem a (locked_is d.machine r.lock))

-- the state after slot k's turn
abbrev past : Scheduler → List ℕ → ℕ → ℕ → State
past s mem a k =
    let e = run_call (slot s.slots k).machine mem a in
    record { scheduler = (took_turn s k e.result).scheduler; memory = e.memory }

abbrev ran : RunAnswer → Slot
ran r = record { machine = r.machine; stop = r.stop }

module _ (s : Scheduler) (mem : List ℕ) (a k : ℕ) (t : Took s mem a k) where
  -- whoever takes turns after it took turns before it, with the same regions
  took_before : (j : ℕ) → Taking (past s mem a k).scheduler j → Taking s j × (regions_at (past s mem a k).scheduler j ≡ regions_at s j)
  took_before j i = go (eqb k j) refl
    where
      go : (b : Bool) → eqb k j ≡ b → Taking s j × (regions_at (past s mem a k).scheduler j ≡ regions_at s j)
      go true e =
          let x = eqb-true k j e in
          let at_k : regions_at (past s mem a k).scheduler k ≡ regions_at s k =
          ap (λ (d : Slot). d.machine.hfi.regions) (slot_same s.slots k _ (there s.slots k t.ready)) ∙ regions_kept (slot s.slots k) mem a t.ready in (
            record { first = i.first; last = i.last; unstopped = subst (λ (l : ℕ). stopped (slot s.slots l) ≡ false) x t.unstopped },
            subst (λ (l : ℕ). regions_at (past s mem a k).scheduler l ≡ regions_at s l) x at_k,
          )
      go false e =
          let x = slot_other s.slots k j (ran (run_call (slot s.slots k).machine mem a).result) t.numbered.low i.first (eqb-false k j e) in
          (record { first = i.first; last = i.last; unstopped = rw (sym x) i.unstopped }, ap (λ (d : Slot). d.machine.hfi.regions) x)

  -- another slot's turn: n's slot and own bytes are as they were
  after_another : (n : ℕ) (d : Slot) (men : List ℕ) → (n ≡ k → ⊥) → Tied n (record { scheduler = s; memory = mem }) d men → Tied n (past s mem a k) d men
  after_another n d men ne h =
      record {
        numbered = h.numbered;
        same = slot_other s.slots k n _ t.numbered.low h.numbered.low (λ e. ne (sym e)) ∙ h.same;
        lengths = run_length m mem a ∙ h.lengths;
        bytes = λ b o. unwritten b o (ltb b (length mem)) refl ∙ h.bytes b o;
        apart = λ j b l i x w o. let y = took_before j i in let e = run_length m mem a in h.apart j b (omega (arith, l, e)) y.0 x (rw y.1 at w) o;
      }
    where
      m : Machine
      m = (slot s.slots k).machine

      unwritten : (b : ℕ) → Own d.machine.hfi.regions b → (c : Bool) → ltb b (length mem) ≡ c → get_or (run_call m mem a).memory b 0 ≡ get_or mem b 0
      unwritten b o true e =
          locked_unwritten m mem a (locked_is m t.ready.lock) b
          (λ w. h.apart k b (ltb-true _ _ e) (record { first = t.numbered.low; last = t.numbered.high; unstopped = t.unstopped }) ne w o)
      unwritten b o false e =
          let l = ltb-false _ _ e in let z = run_length m mem a in
          get_or-eq_default (run_call m mem a).memory 0 {n = b} (omega (arith, l, z)) ∙ sym (get_or-eq_default mem 0 {n = b} l)

  -- its own turn, made alone too
  module _ (d : Slot) (men : List ℕ) (h : Tied k (record { scheduler = s; memory = mem }) d men) where
    lock : Locked d.machine
    lock = subst (λ (c : Slot). Locked c.machine) h.same (locked_is (slot s.slots k).machine t.ready.lock)

    -- the same run, by isolation
    runs : Isolated d.machine mem men (run_call d.machine mem a) (run_call d.machine men a)
    runs =
        isolation d.machine mem men a lock
        (record { lengths = h.lengths; readable = λ b x. h.bytes b (Own.readable x); executable = λ b x. h.bytes b (Own.executable x) })

    unstopped : stopped d ≡ false
    unstopped = subst (λ (c : Slot). stopped c ≡ false) h.same t.unstopped

    ready : Ready d
    ready = subst Ready h.same t.ready

    -- alone it is asked, passes, and is the only one
    alone_took : (place total : ℕ)
        → turn_call (lone d place total men).scheduler men a
        ≡ turned_with (took_turn (lone d place total men).scheduler 1 (run_call d.machine men a).result) (run_call d.machine men a).memory
    unfolding slots_refusal first_unstopped
    alone_took place total =
        turn_runs (lone d place total men).scheduler men a 1
        (accepting (lone d place total men).scheduler (length men) a
        (record { short = rw (sym h.lengths) t.asked.short; count = refl; allowed = t.asked.allowed; slots = rw (ready_slot d unstopped ready) refl }))
        (rw (first_place place) (rw unstopped refl))
        (λ e. omega (arith, e))

    same_run : run_call (slot s.slots k).machine mem a ≡ run_call d.machine mem a
    same_run = ap (λ (c : Slot). run_call c.machine mem a) h.same

    same_answer : (run_call (slot s.slots k).machine mem a).result ≡ (run_call d.machine men a).result
    same_answer = ap (λ (e : Ended). e.result) same_run ∙ runs.answers

    -- and both go on alike
    after_own : Tied k (past s mem a k) (ran (run_call d.machine men a).result) (run_call d.machine men a).memory
    after_own =
        let kept = regions_kept d men a ready in
        record {
          numbered = h.numbered;
          same = slot_same s.slots k _ (there s.slots k t.ready) ∙ ap ran same_answer;
          lengths = ap (λ (e : Ended). length e.memory) same_run ∙ runs.lengths.0 ∙ h.lengths ∙ sym runs.lengths.1;
          bytes = λ b o. ap (λ (e : Ended). get_or e.memory b 0) same_run ∙ runs.agreeing b (h.bytes b (rw kept at o));
          apart = λ j b l i x w o.
              let y = took_before j i in let e = run_length (slot s.slots k).machine mem a in
              h.apart j b (omega (arith, l, e)) y.0 x (rw y.1 at w) (rw kept at o);
        }

-- ---- the turns

abbrev turns_alone : State → ℕ → List Given → List Given
turns_alone q n gs = in_turn q (map (λ (g : Given). g.allowance) (turns_of n gs))

-- a turn that is not n's
carried : (p q : State) (n : ℕ) (g : Given) (gs : List Given) → ((left g).result.slot ≡ n → ⊥) → regions_at (after g).scheduler n ≡ regions_at p.scheduler n
    → Alike (after g) q n gs (turns_alone q n gs) → Alike p q n (g ∷ gs) (turns_alone q n (g ∷ gs))
carried p q n g gs ne r h =
    let e = others n g gs ne in
    record {
      slots = rw e h.slots;
      turns = rw e h.turns;
      its_own = rw e h.its_own;
      bytes = λ b o. rw e (h.bytes b (subst (λ (rs : List Region). Own rs b) (sym r) o));
    }

-- a turn that is: u is the same turn alone
carried_own : (p q : State) (n : ℕ) (g : Given) (gs : List Given) → (left g).result.slot ≡ n → regions_at (after g).scheduler n ≡ regions_at p.scheduler n
    → (let u : Given = record { scheduler = q.scheduler; memory = q.memory; allowance = g.allowance } in
    ((left u).result.slot ≡ 1) × (told g ≡ told u) × Alike (after g) (after u) n gs (turns_alone (after u) n gs))
    → Alike p q n (g ∷ gs) (turns_alone q n (g ∷ gs))
unfolding in_turn
carried_own p q n g gs mine_it r h =
    let u : Given = record { scheduler = q.scheduler; memory = q.memory; allowance = g.allowance } in
    let us = turns_alone (after u) n gs in
    let e = mine n g gs mine_it in
    record {
      slots = rw e h.2.slots;
      turns = rw e (ap (λ (x : Told). x ∷ map told (turns_of n gs)) h.1 ∙ ap (λ (xs : List Told). told u ∷ xs) h.2.turns);
      its_own = rw e (mine 1 u us h.0 ∙ ap (λ (xs : List Given). u ∷ xs) h.2.its_own);
      bytes = λ b o. rw e (h.2.bytes b (subst (λ (rs : List Region). Own rs b) (sym r) o));
    }

-- what a turn leaves, as a state
abbrev state_of : Left → State
state_of l = record { scheduler = l.result.scheduler; memory = l.memory }

-- what it tells, and what a run's answer tells
abbrev tells : Left → Told
tells l = record { stop = l.result.stop; count = l.result.count; address = l.result.address }

abbrev run_tells : RunAnswer → Told
run_tells r = record { stop = r.stop; count = r.count; address = r.address }

-- slot n's own turn, and the same turn alone, from where both go on alike
own_turn : (p : State) (g : Given) (gs : List Given) (n : ℕ) (d : Slot) (place total : ℕ) (men : List ℕ) → Took g.scheduler g.memory g.allowance n → Tied n (before g) d men
    → regions_at g.scheduler n ≡ regions_at p.scheduler n
    → ((c : Slot) (place total : ℕ) (t : List ℕ) → Tied n (after g) c t → Alike (after g) (lone c place total t) n gs (turns_alone (lone c place total t) n gs))
    → Alike p (lone d place total men) n (g ∷ gs) (turns_alone (lone d place total men) n (g ∷ gs))
own_turn p g gs n d place total men t h same later =
    let a = g.allowance in
    let e = run_call d.machine men a in
    let alone_left = alone_took g.scheduler g.memory a n t d men h place total in
    let tied : Tied n (after g) (ran e.result) e.memory = subst (λ (l : State). Tied n l (ran e.result) e.memory) (sym (ap state_of t.left)) (after_own g.scheduler g.memory a n t d men h) in
    let there_too = ap (λ (c : Slot). c.machine.hfi.regions) tied.same ∙ regions_kept d men a (ready g.scheduler g.memory a n t d men h) ∙ ap (λ (c : Slot). c.machine.hfi.regions) (sym h.same) ∙ same in
    carried_own p (lone d place total men) n g gs (ap (λ (l : Left). l.result.slot) t.left) there_too (
      ap (λ (l : Left). l.result.slot) alone_left,
      ap tells t.left ∙ ap run_tells (same_answer g.scheduler g.memory a n t d men h) ∙ sym (ap tells alone_left),
      subst (λ (l : State). Alike (after g) l n gs (turns_alone l n gs)) (sym (ap state_of alone_left)) (later (ran e.result) 1 (sum total e.result.count) e.memory tied),
    )

go_on : (p : State) (gs : List Given) (n : ℕ) (d : Slot) (place total : ℕ) (men : List ℕ) → Follow Untouched p gs → Tied n p d men
    → Alike p (lone d place total men) n gs (turns_alone (lone d place total men) n gs)
unfolding turns_of in_turn
go_on p [] n d place total men f h =
    record { slots = h.same; turns = refl; its_own = refl; bytes = λ b o. h.bytes b (subst (λ (c : Slot). Own c.machine.hfi.regions b) h.same o) }
go_on p (g ∷ gs) n d place total men f h = go (turn_is g.scheduler g.memory g.allowance) (go_on (after g) gs n)
  where
    tied : Tied n (before g) d men
    tied = tied_before n p (before g) d men f.0 h

    -- slot n has the same regions in every state that is tied
    regions : (c : Slot) (t : List ℕ) → Tied n (after g) c t → c.machine.hfi.regions ≡ d.machine.hfi.regions → regions_at (after g).scheduler n ≡ regions_at p.scheduler n
    regions c t x e = ap (λ (k : Slot). k.machine.hfi.regions) x.same ∙ e ∙ ap (λ (k : Slot). k.machine.hfi.regions) (sym h.same)

    go : Turn g.scheduler g.memory g.allowance
        → ((c : Slot) (place total : ℕ) (t : List ℕ) → Follow Untouched (after g) gs → Tied n (after g) c t → Alike (after g) (lone c place total t) n gs (turns_alone (lone c place total t) n gs))
        → Alike p (lone d place total men) n (g ∷ gs) (turns_alone (lone d place total men) n (g ∷ gs))
    go (none stop e) later =
        let s : before g ≡ after g = sym (ap state_of e) in
        let x : Tied n (after g) d men = subst (λ (k : State). Tied n k d men) s tied in
        carried p (lone d place total men) n g gs (λ i. let z = ap (λ (l : Left). l.result.slot) e in let low = h.numbered.low in omega (arith, z, i, low)) (regions d men x refl) (later d place total men f.1 x)
    go (took k t) later = whose (eqb n k) refl
      where
        slot_k : (left g).result.slot ≡ k
        slot_k = ap (λ (l : Left). l.result.slot) t.left

        s : past g.scheduler g.memory g.allowance k ≡ after g
        s = sym (ap state_of t.left)

        whose : (b : Bool) → eqb n k ≡ b → Alike p (lone d place total men) n (g ∷ gs) (turns_alone (lone d place total men) n (g ∷ gs))
        whose false e =
            let ne = eqb-false n k e in
            let x : Tied n (after g) d men = subst (λ (l : State). Tied n l d men) s (after_another g.scheduler g.memory g.allowance k t n d men ne tied) in
            carried p (lone d place total men) n g gs (λ i. ne (sym i ∙ slot_k)) (regions d men x refl) (later d place total men f.1 x)
        whose true e =
            let own : Took g.scheduler g.memory g.allowance n = subst (Took g.scheduler g.memory g.allowance) (sym (eqb-true n k e)) t in
            own_turn p g gs n d place total men own tied (ap (λ (c : Slot). c.machine.hfi.regions) (f.0.slots n h.numbered.low h.numbered.high)) (λ c i j x. later c i j x f.1)

pub apartness : Apartness
apartness p gs n f a i =
    go_on p gs n (slot p.scheduler.slots n) 1 0 p.memory f
    (record {
      numbered = record { low = i.first; high = i.last };
      same = refl;
      lengths = refl;
      bytes = λ b o. refl;
      apart = λ k b l j ne w o. a n k b l i j ne w o;
    })

-- so of a main loop that changes nothing, whatever the allowances
pub apart_in_turn : (p : State) (allowances : List ℕ) (n : ℕ) → Apart p → Taking p.scheduler n → Alike p (alone p n) n (in_turn p allowances) (alone_turns p n (in_turn p allowances))
apart_in_turn p allowances n = apartness p (in_turn p allowances) n (in_turn_follows Untouched (λ q. record { slots = λ k l u. refl; count = refl; memory = refl }) p allowances)

-- all that the main loop may change: place, total and allowance, and what stands above the count
pub untouched_else : (p : State) (k place total : ℕ) (d : Slot) → p.scheduler.count < k → Untouched p (record {
  scheduler = record { slots = set p.scheduler.slots (k - 1) d; count = p.scheduler.count; place = place; total = total };
  memory = p.memory;
})
untouched_else p k place total d h =
    record {
      slots = λ n l u. slot_other p.scheduler.slots k n d (omega (arith, h)) l (λ e. omega (arith, e, h, u));
      count = refl;
      memory = refl;
    }
