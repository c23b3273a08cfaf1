-- Laws of the run: how it goes on from each step, what it leaves, and that its steps are the step call's.
-- Assumes nothing.
use mathlib.Core.Path.{◌≡◌, refl, ap, sym, subst, ◌∙◌}
use mathlib.Core.Bool.{Bool, true, false, cond, not, ◌&&◌, ◌||◌}
use mathlib.Core.List.{List}
use mathlib.Core.Logic.{◌⊎◌, inl, inr}
use Prim.Native.Nat.{ℕ, zero, suc, ◌+◌, ◌-◌, ◌<◌, ◌≤◌}
use native.Mathlib.Omega.{arith}
use lib.Dec.{eqb, leb, ltb, lit≤}
use lib.ListN.{length, get_or}
use borrow.Author.Tests.{eqb-true, eq-eqb, ne_eqb, eqb-false, leb-true, ltb-true, not-true}
use Rattle.std.proofs.lemmas.Bool.{both_ways, or_cases, and_parts}
use Rattle.model.specs.Machine.{inside, locked}
use Rattle.model.specs.WellFormed.{well_formed}
use Rattle.model.specs.WritableCode.{writable_code, exposes_code}
use Rattle.model.specs.Outcome.{Outcome}
use Rattle.model.specs.Step.{step, longest, step_call}
use Rattle.model.specs.Run.{Ended, ended, run_by, run, run_call, largest_budget}
use Rattle.model.specs.Reach.{Writable, Executable}
use Rattle.model.specs.Isolation.{Locked}
use Rattle.model.specs.declared.Machine.{Machine}
use Rattle.model.proofs.Bytes.{length_written, written_other}
use Rattle.model.proofs.Cleared.{passing}
use Rattle.model.proofs.WritableCode.{not_both}
use Rattle.model.proofs.Forbidden.{every, of_each, hfi_stops, is_hfi_stop}
use Rattle.model.proofs.Moves.{locked_inside, Settings, settings, Stored, other_stops, is_other, is_stop, is_address, step_does}

-- ---- for the loop

-- no step remains
pub run_out : (began : Bool) (n k : ℕ) (m : Machine) (mem : List ℕ) → n ≤ 0 → run began n k m mem ≡ ended 21 k 0 m mem
unfolding run_by
run_out began n k m mem p = let e : n ≡ 0 = omega arith in rw e refl

-- one step is made, with the outcome o
module _ (began : Bool) (n k : ℕ) (m : Machine) (mem : List ℕ) (o : Outcome) (p : 0 < n) (e : o ≡ step m mem) where
  -- it stops
  pub run_stops : (o.result.stop ≡ 0 → ⊥) → run began n k m mem ≡ ended o.result.stop k o.result.address o.result.machine o.memory
  unfolding run_by
  run_stops q = let s : n ≡ suc (n - 1) = omega arith in ap (λ x. run began x k m mem) s ∙ simp (sym e, ne_eqb _ _ q)

  -- it completes and leaves HFI mode, in which the run began
  pub run_leaves : o.result.stop ≡ 0 → (began && not (inside o.result.machine.hfi)) ≡ true
      → run began n k m mem ≡ ended 20 (k + 1) 0 o.result.machine o.memory
  unfolding run_by
  run_leaves q d =
      let s : n ≡ suc (n - 1) = omega arith in
      let t : k + 1 ≡ suc k = omega arith in
      ap (λ x. run began x k m mem) s ∙ rw t (simp (sym e, eq-eqb _ _ q, d))

  -- it completes, and the run goes on
  pub run_goes_on : o.result.stop ≡ 0 → (began && not (inside o.result.machine.hfi)) ≡ false
      → run began n k m mem ≡ run began (n - 1) (k + 1) o.result.machine o.memory
  unfolding run_by
  run_goes_on q d =
      let s : n ≡ suc (n - 1) = omega arith in
      let t : k + 1 ≡ suc k = omega arith in
      ap (λ x. run began x k m mem) s ∙ rw t (simp (sym e, eq-eqb _ _ q, d))

-- ---- induction over the steps of a run

-- Q of the steps that remain, the count, the machine and the memory, and of how the run ends from there
module _ (began : Bool) (Q : ℕ → ℕ → Machine → List ℕ → Ended → Type 0)
    (spent : (k : ℕ) (m : Machine) (mem : List ℕ) → Q 0 k m mem (ended 21 k 0 m mem))
    (stops : (n k : ℕ) (m : Machine) (mem : List ℕ) → ((step m mem).result.stop ≡ 0 → ⊥)
    → Q (suc n) k m mem (ended (step m mem).result.stop k (step m mem).result.address (step m mem).result.machine (step m mem).memory))
    (leaves : (n k : ℕ) (m : Machine) (mem : List ℕ) → Q (suc n) k m mem (ended 20 (suc k) 0 (step m mem).result.machine (step m mem).memory))
    (goes_on : (n k : ℕ) (m : Machine) (mem : List ℕ) (e : Ended) → (began ≡ true → inside (step m mem).result.machine.hfi ≡ true)
    → Q n (suc k) (step m mem).result.machine (step m mem).memory e → Q (suc n) k m mem e)
  where
    pub run_ind : (n k : ℕ) (m : Machine) (mem : List ℕ) → Q n k m mem (run began n k m mem)
    unfolding run_by
    run_ind zero k m mem = spent k m mem
    run_ind (suc n) k m mem =
        go (eqb (step m mem).result.stop 0) refl (began && not (inside (step m mem).result.machine.hfi)) refl
        (run_ind n (suc k) (step m mem).result.machine (step m mem).memory)
      where
        still_on : (b c : Bool) → (b && not c) ≡ false → b ≡ true → c ≡ true
        still_on true true e f = refl
        still_on true false e f = sym e
        still_on false c e f = absurd (both_ways _ refl f)

        go : (b : Bool) → eqb (step m mem).result.stop 0 ≡ b → (c : Bool) → (began && not (inside (step m mem).result.machine.hfi)) ≡ c
            → {r : Ended} → Q n (suc k) (step m mem).result.machine (step m mem).memory r
            → Q (suc n) k m mem (cond b (cond c (ended 20 (suc k) 0 (step m mem).result.machine (step m mem).memory) r)
            (ended (step m mem).result.stop k (step m mem).result.address (step m mem).result.machine (step m mem).memory))
        go true q true d h = leaves n k m mem
        go true q false d h = goes_on n k m mem _ (still_on began (inside (step m mem).result.machine.hfi) d) h
        go false q c d h = stops n k m mem (eqb-false _ 0 q)

-- what holds of a refusal and of the run holds of the call
pub call_ind : (Q : Ended → Type 0) (m : Machine) (mem : List ℕ) (budget : ℕ) → ((stop : ℕ) → 1 ≤ stop → stop ≤ 4 → Q (ended stop 0 0 m mem))
    → (well_formed m ≡ true → exposes_code m.hfi ≡ false → Q (run (inside m.hfi) budget 0 m mem)) → Q (run_call m mem budget)
unfolding run_call
call_ind Q m mem budget refused r = go (ltb longest (length mem)) (ltb largest_budget budget) (well_formed m) (exposes_code m.hfi) refl refl
  where
    go : (a b c d : Bool) → well_formed m ≡ c → exposes_code m.hfi ≡ d
        → Q (cond a (ended 1 0 0 m mem) (cond b (ended 2 0 0 m mem)
        (cond c (cond d (ended 4 0 0 m mem) (run (inside m.hfi) budget 0 m mem)) (ended 3 0 0 m mem))))
    go true b c d e f = refused 1 (lit≤ tt) (lit≤ tt)
    go false true c d e f = refused 2 (lit≤ tt) (lit≤ tt)
    go false false true true e f = refused 4 (lit≤ tt) (lit≤ tt)
    go false false true false e f = r e f
    go false false false d e f = refused 3 (lit≤ tt) (lit≤ tt)

-- ---- the count and the stop

-- a run's count is at most its budget
pub count_at_most : (m : Machine) (mem : List ℕ) (budget : ℕ) → (run_call m mem budget).result.count ≤ budget
count_at_most m mem budget =
    call_ind (λ e. e.result.count ≤ budget) m mem budget (λ s l u. omega arith)
    (λ w x.
    let c = run_ind (inside m.hfi) (λ n k l mem e. e.result.count ≤ k + n) (λ k l mem. omega arith) (λ n k l mem q. omega arith) (λ n k l mem. omega arith) (λ n k l mem e i h. omega (arith, h)) budget 0 m mem in
    omega (arith, c))

-- 0 says that a step is completed; no run answers it
pub never_zero : (m : Machine) (mem : List ℕ) (budget : ℕ) → (run_call m mem budget).result.stop ≡ 0 → ⊥
never_zero m mem budget =
    call_ind (λ e. e.result.stop ≡ 0 → ⊥) m mem budget (λ s l u e. omega (arith, e))
    (λ w x.
    run_ind (inside m.hfi) (λ n k l mem e. e.result.stop ≡ 0 → ⊥) (λ k l mem e. omega (arith, e)) (λ n k l mem q. q)
    (λ n k l mem e. omega (arith, e)) (λ n k l mem e i h. h) budget 0 m mem)

-- what a step can answer: its number and its address
module _ (m : Machine) (mem : List ℕ) where
  abbrev stop : ℕ
  stop = (step m mem).result.stop

  proper_parts : (is_stop stop ≡ true) × (is_address stop (step m mem).result.address ≡ true)
  proper_parts = and_parts (is_stop stop) _ (step_does m mem).stop

  -- it is of question 8 or of another; so what holds of all those numbers holds of it
  of_its_own : (p : ℕ → Bool) → every p other_stops ≡ true → every p hfi_stops ≡ true → p stop ≡ true
  of_its_own p f g = go (or_cases (is_other stop) (is_hfi_stop stop) proper_parts.0)
    where
      go : (is_other stop ≡ true) ⊎ (is_hfi_stop stop ≡ true) → p stop ≡ true
      go (inl e) = of_each p other_stops stop f e
      go (inr e) = of_each p hfi_stops stop g e

  pub step_number : (stop ≡ 0) ⊎ (((10 ≤ stop) × (stop ≤ 19)) ⊎ ((22 ≤ stop) × (stop ≤ 25)))
  step_number = first (or_cases (eqb stop 0) _ (of_its_own (λ n. eqb n 0 || ((leb 10 n && leb n 19) || (leb 22 n && leb n 25))) refl refl))
    where
      within : (a b : ℕ) → (leb a stop && leb stop b) ≡ true → (a ≤ stop) × (stop ≤ b)
      within a b t = let u = and_parts (leb a stop) (leb stop b) t in (leb-true a stop u.0, leb-true stop b u.1)

      second : ((leb 10 stop && leb stop 19) ≡ true) ⊎ ((leb 22 stop && leb stop 25) ≡ true) → ((10 ≤ stop) × (stop ≤ 19)) ⊎ ((22 ≤ stop) × (stop ≤ 25))
      second (inl t) = inl (within 10 19 t)
      second (inr t) = inr (within 22 25 t)

      first : (eqb stop 0 ≡ true) ⊎ (((leb 10 stop && leb stop 19) || (leb 22 stop && leb stop 25)) ≡ true)
          → (stop ≡ 0) ⊎ (((10 ≤ stop) × (stop ≤ 19)) ⊎ ((22 ≤ stop) × (stop ≤ 25)))
      first (inl t) = inl (eqb-true stop 0 t)
      first (inr t) = inr (second (or_cases (leb 10 stop && leb stop 19) _ t))

  -- "all others give 0 there"
  pub step_address : (stop ≡ 12 → ⊥) → (stop ≡ 17 → ⊥) → (step m mem).result.address ≡ 0
  step_address p q = eqb-true _ 0 (rw (ne_eqb stop 12 p, ne_eqb stop 17 q) at proper_parts.1)

  pub no_address : stop ≡ 0 → (step m mem).result.address ≡ 0
  no_address e = step_address (λ f. omega (arith, e, f)) (λ f. omega (arith, e, f))

  -- it is none of the calls' own numbers, nor the run's 20 and 21
  pub step_not_refused : 1 ≤ stop → stop ≤ 4 → ⊥
  step_not_refused l u = go (or_cases (eqb stop 0) (ltb 4 stop) (of_its_own (λ n. eqb n 0 || ltb 4 n) refl refl))
    where
      go : (eqb stop 0 ≡ true) ⊎ (ltb 4 stop ≡ true) → ⊥
      go (inl e) = let z = eqb-true stop 0 e in omega (arith, z, l)
      go (inr e) = let z = ltb-true 4 stop e in omega (arith, z, u)

  pub not_left : stop ≡ 20 → ⊥
  not_left q = eqb-false stop 20 (not-true (eqb stop 20) (of_its_own (λ n. not (eqb n 20)) refl refl)) q

  not_spent : stop ≡ 21 → ⊥
  not_spent q = eqb-false stop 21 (not-true (eqb stop 21) (of_its_own (λ n. not (eqb n 21)) refl refl)) q

-- a run that is made answers none of the numbers by which a call is refused
pub run_not_refused : (began : Bool) (n k : ℕ) (m : Machine) (mem : List ℕ) → 1 ≤ (run began n k m mem).result.stop → (run began n k m mem).result.stop ≤ 4 → ⊥
run_not_refused began =
    run_ind began (λ n k m mem e. 1 ≤ e.result.stop → e.result.stop ≤ 4 → ⊥) (λ k m mem l u. omega (arith, u)) (λ n k m mem z l u. step_not_refused m mem l u)
    (λ n k m mem l u. omega (arith, u)) (λ n k m mem e i h. h)

-- 21 says that the budget is used up; a run that began in HFI mode is then still in it
module _ (m : Machine) (mem : List ℕ) (budget : ℕ) (q : (run_call m mem budget).result.stop ≡ 21) where
  pub spent_count : (run_call m mem budget).result.count ≡ budget
  spent_count =
      call_ind (λ e. e.result.stop ≡ 21 → e.result.count ≡ budget) m mem budget (λ s l u e. absurd (omega (arith, e)))
      (λ w x e.
      run_ind (inside m.hfi) (λ n k l s e. e.result.stop ≡ 21 → e.result.count ≡ k + n) (λ k l s e. omega arith)
      (λ n k l s z e. absurd (not_spent l s e)) (λ n k l s e. omega (arith, e)) (λ n k l s e i h f. h f ∙ omega arith) budget 0 m mem e ∙ omega arith)
      q

  pub spent_inside : inside m.hfi ≡ true → inside (run_call m mem budget).result.machine.hfi ≡ true
  spent_inside i =
      call_ind (λ e. e.result.stop ≡ 21 → inside e.result.machine.hfi ≡ true) m mem budget (λ s l u e. i)
      (λ w x.
      run_ind (inside m.hfi) (λ n k l s e. (inside m.hfi ≡ true → inside l.hfi ≡ true) → e.result.stop ≡ 21 → inside e.result.machine.hfi ≡ true) (λ k l s f e. f i)
      (λ n k l s z f e. absurd (not_spent l s e)) (λ n k l s f e. absurd (omega (arith, e))) (λ n k l s e j h f. h j) budget 0 m mem (λ e. e))
      q

  pub spent_asked : (well_formed m ≡ true) × (exposes_code m.hfi ≡ false)
  spent_asked =
      call_ind (λ e. e.result.stop ≡ 21 → (well_formed m ≡ true) × (exposes_code m.hfi ≡ false)) m mem budget (λ s l u e. absurd (omega (arith, e)))
      (λ w x e. (w, x)) q

-- ---- what a run keeps

-- what every step keeps, a run keeps; a run that began in HFI mode makes all its steps in it
module _ (m : Machine) (P : Machine → List ℕ → Type 0)
    (keeps : (l : Machine) (s : List ℕ) → (inside m.hfi ≡ true → inside l.hfi ≡ true) → P l s → P (step l s).result.machine (step l s).memory) where
  run_keeps : (mem : List ℕ) (budget : ℕ) → P m mem → P (run_call m mem budget).result.machine (run_call m mem budget).memory
  run_keeps mem budget p =
      call_ind (λ e. P e.result.machine e.memory) m mem budget (λ s l u. p)
      (λ w x.
      run_ind (inside m.hfi) (λ n k l s e. (inside m.hfi ≡ true → inside l.hfi ≡ true) → P l s → P e.result.machine e.memory) (λ k l s i h. h)
      (λ n k l s z i h. keeps l s i h) (λ n k l s i h. keeps l s i h) (λ n k l s e j h i x. h j (keeps l s i x)) budget 0 m mem (λ e. e) p)

pub step_length : (m : Machine) (mem : List ℕ) → length (step m mem).memory ≡ length mem
step_length m mem = go (step_does m mem).memory
  where
    go : ((step m mem).memory ≡ mem) ⊎ Stored m mem (step m mem).memory → length (step m mem).memory ≡ length mem
    go (inl e) = ap length e
    go (inr w) = ap length w.bytes ∙ length_written w.access.count 0 mem w.access.first w.stored

pub run_length : (m : Machine) (mem : List ℕ) (budget : ℕ) → length (run_call m mem budget).memory ≡ length mem
run_length m mem budget = run_keeps m (λ l s. length s ≡ length mem) (λ l s i e. step_length l s ∙ e) mem budget refl

pub run_well_formed : (m : Machine) (mem : List ℕ) (budget : ℕ) → well_formed m ≡ true → well_formed (run_call m mem budget).result.machine ≡ true
run_well_formed m mem budget = run_keeps m (λ l s. well_formed l ≡ true) (λ l s i w. (step_does l s).kept.well w) mem budget

-- a run that is given a machine that 4 does not refuse leaves one that it does not refuse. That it would refuse none inside the run either
-- is run_is_step_calls, whose steps ask it each, with run_not_refused
pub run_unexposed : (m : Machine) (mem : List ℕ) (budget : ℕ) → exposes_code m.hfi ≡ false → exposes_code (run_call m mem budget).result.machine.hfi ≡ false
run_unexposed m mem budget = run_keeps m (λ l s. exposes_code l.hfi ≡ false) (λ l s i x. (step_does l s).kept.code x) mem budget

-- in HFI mode options do not change, in the leaving step neither
pub run_options : (m : Machine) (mem : List ℕ) (budget : ℕ) → inside m.hfi ≡ true → (run_call m mem budget).result.machine.hfi.options ≡ m.hfi.options
run_options m mem budget on =
    run_keeps m (λ l s. l.hfi.options ≡ m.hfi.options) (λ l s i e. (step_does l s).kept.options (i on) ∙ e) mem budget refl

-- the test of the lock, both ways
pub is_locked : (m : Machine) → Locked m → locked m.hfi ≡ true
is_locked m k = rw (eq-eqb _ 1 k.mode) (eq-eqb _ _ k.lock)

pub locked_is : (m : Machine) → locked m.hfi ≡ true → Locked m
locked_is m l =
    let i = locked_inside m.hfi l in
    record { mode = eqb-true _ _ i; lock = eqb-true _ _ (rw i at l) }

-- nor do a locked machine's regions, options, handler or selector
pub step_settings : (m : Machine) (mem : List ℕ) → Locked m → settings (step m mem).result.machine ≡ settings m
step_settings m mem k = (step_does m mem).kept.lock (is_locked m k)

-- a byte that a locked machine may not write is as it was after a step
step_unwritten : (m : Machine) (mem : List ℕ) (b : ℕ) → Locked m → (Writable m.hfi.regions b → ⊥) → get_or (step m mem).memory b 0 ≡ get_or mem b 0
step_unwritten m mem b k n = go (step_does m mem).memory
  where
    go : ((step m mem).memory ≡ mem) ⊎ Stored m mem (step m mem).memory → get_or (step m mem).memory b 0 ≡ get_or mem b 0
    go (inl e) = ap (λ s. get_or s b 0) e
    go (inr w) =
        let a = w.access in
        ap (λ s. get_or s b 0) w.bytes
        ∙ written_other a.count 0 mem a.first w.stored b
        (λ j p q e. n (subst (Writable m.hfi.regions) (sym e) (w.may.reach _ (passing m.hfi.mode (length mem) a k.mode w.passed j (omega arith)))))

-- nor does a step of a locked machine that 4 does not refuse change a byte that may be executed, wherever in a run it is made
pub step_executable : (m : Machine) (mem : List ℕ) (b : ℕ) → Locked m → exposes_code m.hfi ≡ false → Executable m.hfi.regions b → get_or (step m mem).memory b 0 ≡ get_or mem b 0
unfolding exposes_code
step_executable m mem b k n x = step_unwritten m mem b k (not_both m.hfi.regions b (rw (is_locked m k) at n) x)

-- a machine in HFI mode with the settings of a locked one is locked
locked_too : (m l : Machine) → Locked m → settings l ≡ settings m → inside l.hfi ≡ true → Locked l
locked_too m l k e i = record { mode = eqb-true _ _ i; lock = rw (ap (λ (t : Settings). t.options) e) k.lock }

module _ (m : Machine) (mem : List ℕ) (budget : ℕ) (k : Locked m) where
  on : inside m.hfi ≡ true
  on = eq-eqb _ _ k.mode

  pub locked_keeps : settings (run_call m mem budget).result.machine ≡ settings m
  locked_keeps =
      run_keeps m (λ l s. settings l ≡ settings m) (λ l s i e. step_settings l s (locked_too m l k e (i on)) ∙ e) mem budget refl

  -- what a locked run leaves alone
  pub locked_unwritten : (b : ℕ) → (Writable m.hfi.regions b → ⊥) → get_or (run_call m mem budget).memory b 0 ≡ get_or mem b 0
  locked_unwritten b n =
      (run_keeps m (λ l s. (settings l ≡ settings m) × (get_or s b 0 ≡ get_or mem b 0))
      (λ l s i h.
      let c = locked_too m l k h.0 (i on) in
      (step_settings l s c ∙ h.0, step_unwritten l s b c (λ w. n (rw (ap (λ (t : Settings). t.regions) h.0) at w)) ∙ h.1)) mem budget (refl, refl)).1

  -- nor does it change a byte that may be executed: where one could be written too, the run is refused
  pub locked_executable : (b : ℕ) → Executable m.hfi.regions b → get_or (run_call m mem budget).memory b 0 ≡ get_or mem b 0
  unfolding exposes_code
  locked_executable b x = go (writable_code m.hfi.regions) refl
    where
      go : (c : Bool) → writable_code m.hfi.regions ≡ c → get_or (run_call m mem budget).memory b 0 ≡ get_or mem b 0
      go true e = call_ind (λ r. get_or r.memory b 0 ≡ get_or mem b 0) m mem budget (λ s l u. refl) (λ w y. absurd (both_ways _ y (rw (is_locked m k) e)))
      go false e = locked_unwritten b (not_both m.hfi.regions b e x)

  -- one that ends in 21 is still locked, in HFI mode, well formed and not refused with 4
  pub spent_locked : (run_call m mem budget).result.stop ≡ 21
      → Locked (run_call m mem budget).result.machine
      × (well_formed (run_call m mem budget).result.machine ≡ true)
      × (exposes_code (run_call m mem budget).result.machine.hfi ≡ false)
  spent_locked q =
      let s = spent_asked m mem budget q in (
        locked_too m _ k locked_keeps (spent_inside m mem budget q on),
        run_well_formed m mem budget s.0,
        run_unexposed m mem budget s.1,
      )

-- ---- a run is steps of the step call

repeated : (began : Bool) (n k : ℕ) (m : Machine) (mem : List ℕ) → well_formed m ≡ true → exposes_code m.hfi ≡ false → ltb longest (length mem) ≡ false
    → run began n k m mem ≡ run_by step_call began n k m mem
unfolding run_by step_call
repeated began zero k m mem w x l = refl
repeated began (suc n) k m mem w x l =
    rw (l, w, x)
    (ap (λ r. cond (eqb (step m mem).result.stop 0)
    (cond (began && not (inside (step m mem).result.machine.hfi)) (ended 20 (suc k) 0 (step m mem).result.machine (step m mem).memory) r)
    (ended (step m mem).result.stop k (step m mem).result.address (step m mem).result.machine (step m mem).memory))
    (repeated began n (suc k) (step m mem).result.machine (step m mem).memory ((step_does m mem).kept.well w) ((step_does m mem).kept.code x)
    (ap (ltb longest) (step_length m mem) ∙ l)))

-- for every machine, memory and budget: the questions of the call, then the step call again and again, with 20, 21 and the counts; so
-- asking 1, 3 and 4 once is enough
pub run_is_step_calls : (m : Machine) (mem : List ℕ) (budget : ℕ)
    → run_call m mem budget
    ≡ cond (ltb longest (length mem)) (ended 1 0 0 m mem)
    (cond (ltb largest_budget budget) (ended 2 0 0 m mem)
    (cond (well_formed m) (cond (exposes_code m.hfi) (ended 4 0 0 m mem) (run_by step_call (inside m.hfi) budget 0 m mem)) (ended 3 0 0 m mem)))
unfolding run_call
run_is_step_calls m mem budget = go (ltb longest (length mem)) (ltb largest_budget budget) (well_formed m) (exposes_code m.hfi) refl refl refl
  where
    go : (a b c d : Bool) → ltb longest (length mem) ≡ a → well_formed m ≡ c → exposes_code m.hfi ≡ d
        → cond a (ended 1 0 0 m mem) (cond b (ended 2 0 0 m mem) (cond c (cond d (ended 4 0 0 m mem) (run (inside m.hfi) budget 0 m mem)) (ended 3 0 0 m mem)))
        ≡ cond a (ended 1 0 0 m mem)
        (cond b (ended 2 0 0 m mem) (cond c (cond d (ended 4 0 0 m mem) (run_by step_call (inside m.hfi) budget 0 m mem)) (ended 3 0 0 m mem)))
    go true b c d l w x = refl
    go false true c d l w x = refl
    go false false true true l w x = refl
    go false false true false l w x = repeated (inside m.hfi) budget 0 m mem w x l
    go false false false d l w x = refl
