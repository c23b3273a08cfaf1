-- Demand 3: two runs of a locked machine over memories that agree on what it may read or execute cannot be told apart.
-- One step first, by what a step can do (Moves.antt): three doors to memory, and all else; then the run, by its budget.
-- Assumes nothing.
use Rattle.std.specs.Prelude.{Ok, Err}
use mathlib.Core.Path.{◌≡◌, refl, ap, ap₂, sym, ◌∙◌}
use mathlib.Core.Bool.{Bool, true, false, cond, not}
use mathlib.Core.List.{List}
use Prim.Native.Nat.{ℕ, zero, suc, ◌+◌, ◌*◌, ◌%◌}
use native.Mathlib.Omega.{arith}
use lib.ListN.{length, get_or}
use lib.Dec.{eqb, ltb}
use borrow.Author.Tests.{eqb-true, eq-eqb}
use Rattle.std.proofs.Common.{Option}
use Rattle.std.proofs.lemmas.Bool.{not-false}
use Rattle.words.specs.Word.{field}
use Rattle.instructions.specs.declared.instruction.Instruction.{Instruction}
use Rattle.instructions.specs.Decode.{decode_word}
use Rattle.instructions.proofs.RoundTrip.{decoded_range}
use Rattle.compressed.specs.Expand.{expand_half, is_long}
use Rattle.compressed.proofs.InRange.{expanded_range}
use Rattle.model.specs.Machine.{sum, load_op, store_op, fetch_op, inside}
use Rattle.model.specs.WellFormed.{well_formed}
use Rattle.model.specs.WritableCode.{exposes_code}
use Rattle.model.specs.Bytes.{byte_of, value}
use Rattle.model.specs.Access.{verdict, fetch_access}
use Rattle.model.specs.Reach.{Readable, Writable, Executable}
use Rattle.model.specs.Outcome.{Outcome, outcome, settle}
use Rattle.model.specs.Step.{load, store, execute_word, fetching, execute_fetched, step, longest}
use Rattle.model.specs.Run.{Ended, ended, run_by, run, run_call, largest_budget}
use Rattle.model.specs.Isolation.{Locked, Agree, Isolated, Isolation}
use Rattle.model.specs.declared.Machine.{Machine}
use Rattle.model.specs.Run.{RunAnswer}
use Rattle.model.specs.Access.{Verdict, passed}
use Rattle.model.specs.declared.stop.Denied.TheVariants.{Refused, Absent}
use Rattle.model.proofs.Bytes.{value_same, value_halves, written_same}
use Rattle.model.proofs.Cleared.{passing}
use Rattle.model.proofs.Moves.{Settings, Move, enact, Executed, Ranged, word_executed}
use Rattle.model.proofs.Runs.{step_length, step_settings, run_length, locked_unwritten, locked_executable}

-- what a step does over s and over t
record Related (s t : List ℕ) (o p : Outcome) : Type 0 where
  result : o.result ≡ p.result
  agreeing : (b : ℕ) → get_or s b 0 ≡ get_or t b 0 → get_or o.memory b 0 ≡ get_or p.memory b 0

-- a step that leaves the memory alone
quiet : (s t : List ℕ) (stop at : ℕ) (k : Machine) → Related s t (outcome stop at k s) (outcome stop at k t)
quiet s t stop at k = record { result = refl; agreeing = λ b e. e }

settle_related : (m : Machine) (s t : List ℕ) (op refused absent : ℕ) (v : Verdict) (o p : Outcome) → (v ≡ passed → Related s t o p)
    → Related s t (settle m s op refused absent v o) (settle m t op refused absent v p)
unfolding settle
settle_related m s t op refused absent (Err (Refused at region)) o p r = quiet s t refused 0 _
settle_related m s t op refused absent (Err (Absent at)) o p r = quiet s t absent at m
settle_related m s t op refused absent (Ok tt) o p r = r refl

-- ---- one step

module _ (m : Machine) (s t : List ℕ) (l : Locked m) (g : Agree m s t) where
  -- the three doors to memory: what is read is readable, what is written is the same, and all else does not see it
  move_related : {ns : List ℕ} (v : Move ns m) → Related s t (enact m s v) (enact m t v)
  unfolding load store
  move_related (Move.quiet stop at k p c) = quiet s t stop at k
  move_related (Move.loads next a k rd i r) =
      rw (sym g.lengths)
      (settle_related m s t load_op 16 17 (verdict m.hfi.mode (length s) a) _ _
      (λ h.
      rw (value_same s t a.first a.count 0 (λ j p q. g.readable (byte_of a.first j) (r.reach _ (passing m.hfi.mode (length s) a l.mode h j (omega arith)))))
      (quiet s t 0 0 _)))
  move_related (Move.stores next a v i w) =
      rw (sym g.lengths)
      (settle_related m s t store_op 16 17 (verdict m.hfi.mode (length s) a) _ _
      (λ h. record { result = refl; agreeing = λ b e. written_same a.count 0 s t a.first v b g.lengths e }))

  word_related : (size : ℕ) (d : Option Instruction) → Ranged d → Related s t (execute_word m s size d) (execute_word m t size d)
  word_related size d r = go (word_executed m size d r)
    where
      go : {f : List ℕ → Outcome} → Executed m f → Related s t (f s) (f t)
      go (Executed.forbidden stop h same) = rw (same s, same t) (quiet s t stop 0 m)
      go (Executed.moves ns h v) = rw (v.same s, v.same t) (move_related v.move)

  -- two bytes that are fetched are executable, so they are the same in both
  fetching_related : (a : ℕ) (o p : Outcome) → a % 2 ≡ 0 → (value s a 0 2 ≡ value t a 0 2 → Related s t o p) → Related s t (fetching m s a o) (fetching m t a p)
  unfolding fetching
  fetching_related a o p e r =
      rw (sym g.lengths)
      (settle_related m s t fetch_op 11 12 (verdict m.hfi.mode (length s) (fetch_access m.hfi.regions a)) o p
      (λ h. r (value_same s t a 2 0 (λ j q u. g.executable (byte_of a j) (Executable.by_fetch a e (passing m.hfi.mode (length s) _ l.mode h j (omega arith)))))))

  fetched_related : m.pc % 2 ≡ 0 → value s m.pc 0 2 ≡ value t m.pc 0 2
      → Related s t (execute_fetched m s (value s m.pc 0 2)) (execute_fetched m t (value t m.pc 0 2))
  unfolding execute_fetched
  fetched_related e same = rw (sym same) (go (is_long h))
    where
      h : ℕ
      h = value s m.pc 0 2

      word_same : value s (sum m.pc 2) 0 2 ≡ value t (sum m.pc 2) 0 2 → value s m.pc 0 4 ≡ value t m.pc 0 4
      word_same q = value_halves s m.pc ∙ ap₂ (λ (x y : ℕ). x + 65536 * y) same q ∙ sym (value_halves t m.pc)

      go : (b : Bool)
          → Related s t
          (cond b (fetching m s (sum m.pc 2) (execute_word m s 4 (decode_word (value s m.pc 0 4)))) (execute_word m s 2 (expand_half h)))
          (cond b (fetching m t (sum m.pc 2) (execute_word m t 4 (decode_word (value t m.pc 0 4)))) (execute_word m t 2 (expand_half h)))
      go true =
          fetching_related (sum m.pc 2) _ _ (omega (arith, e))
          (λ q. rw (sym (word_same q)) (word_related 4 (decode_word (value s m.pc 0 4)) (decoded_range (value s m.pc 0 4))))
      go false = word_related 2 (expand_half h) (expanded_range h)

  step_related : Related s t (step m s) (step m t)
  unfolding step
  step_related = go (eqb (m.pc % 2) 0) refl
    where
      go : (b : Bool) → eqb (m.pc % 2) 0 ≡ b
          → Related s t
          (cond b (fetching m s m.pc (execute_fetched m s (value s m.pc 0 2))) (outcome 10 0 m s))
          (cond b (fetching m t m.pc (execute_fetched m t (value t m.pc 0 2))) (outcome 10 0 m t))
      go true q = fetching_related m.pc _ _ (eqb-true _ _ q) (fetched_related (eqb-true _ _ q))
      go false q = quiet s t 10 0 m

  -- and what holds of m, s and t holds after the step, unless it leaves HFI mode
  still_locked : inside (step m s).result.machine.hfi ≡ true → Locked (step m s).result.machine
  still_locked i = record { mode = eqb-true _ _ i; lock = rw (ap (λ (c : Settings). c.options) (step_settings m s l)) l.lock }

  still_agree : Agree (step m s).result.machine (step m s).memory (step m t).memory
  still_agree =
      let e = ap (λ (c : Settings). c.regions) (step_settings m s l) in
      record {
        lengths = step_length m s ∙ g.lengths ∙ sym (step_length m t);
        readable = λ b h. step_related.agreeing b (g.readable b (rw e at h));
        executable = λ b h. step_related.agreeing b (g.executable b (rw e at h));
      }

-- ---- a run

-- what two runs do that began in HFI mode
record Ends (s t : List ℕ) (o p : Ended) : Type 0 where
  result : o.result ≡ p.result
  agreeing : (b : ℕ) → get_or s b 0 ≡ get_or t b 0 → get_or o.memory b 0 ≡ get_or p.memory b 0

by_test : (s t : List ℕ) (b : Bool) {o p o' p' : Ended} → (b ≡ true → Ends s t o p) → (b ≡ false → Ends s t o' p') → Ends s t (cond b o o') (cond b p p')
by_test s t true f g = f refl
by_test s t false f g = g refl

-- a run that is refused, or has no step more
unmoved : (m : Machine) (s t : List ℕ) (stop count : ℕ) → Ends s t (ended stop count 0 m s) (ended stop count 0 m t)
unmoved m s t stop count = record { result = refl; agreeing = λ b e. e }

run_related : (n k : ℕ) (m : Machine) (s t : List ℕ) → Locked m → Agree m s t → Ends s t (run true n k m s) (run true n k m t)
unfolding run_by
run_related zero k m s t l a = unmoved m s t 21 k
run_related (suc n) k m s t l a =
    let r = step_related m s t l a in
    rw (sym r.result)
    (by_test s t (eqb (step m s).result.stop 0)
    (λ e1.
    by_test s t (not (inside (step m s).result.machine.hfi))
    (λ e2. record { result = refl; agreeing = r.agreeing })
    (λ e2.
    let h = run_related n (suc k) (step m s).result.machine (step m s).memory (step m t).memory (still_locked m s t l a (not-false _ e2)) (still_agree m s t l a) in
    record { result = h.result; agreeing = λ b q. h.agreeing b (r.agreeing b q) }))
    (λ e1. record { result = refl; agreeing = r.agreeing }))

call_related : (m : Machine) (s t : List ℕ) (budget : ℕ) → Locked m → Agree m s t → Ends s t (run_call m s budget) (run_call m t budget)
unfolding run_call
call_related m s t budget l a =
    rw (sym a.lengths)
    (by_test s t (ltb longest (length s)) (λ e. unmoved m s t 1 0)
    (λ e.
    by_test s t (ltb largest_budget budget) (λ e. unmoved m s t 2 0)
    (λ e.
    by_test s t (well_formed m)
    (λ e.
    by_test s t (exposes_code m.hfi) (λ e. unmoved m s t 4 0) (λ e. rw (eq-eqb _ _ l.mode) (run_related budget 0 m s t l a)))
    (λ e. unmoved m s t 3 0))))

pub isolation : Isolation
isolation m s t budget l a =
    let h = call_related m s t budget l a in
    record {
      answers = h.result;
      lengths = (run_length m s budget, run_length m t budget);
      agreeing = h.agreeing;
      unwritten = λ b w. (locked_unwritten m s budget l b w, locked_unwritten m t budget l b w);
      unchanged = λ b x. (locked_executable m s budget l b x, locked_executable m t budget l b x);
    }

-- ---- the same from plain facts and in plain terms: each half-sentence of the demand for itself

-- e and f are what the two runs answered and left
pub runs_isolated : (m : Machine) (s t : List ℕ) (budget : ℕ) (e f : Ended) → e ≡ run_call m s budget → f ≡ run_call m t budget
    → m.hfi.mode ≡ 1 → field m.hfi.options 0 1 ≡ 1 → length s ≡ length t
    → ((a : ℕ) → Readable m.hfi.regions a → get_or s a 0 ≡ get_or t a 0)
    → ((a : ℕ) → Executable m.hfi.regions a → get_or s a 0 ≡ get_or t a 0)
    → (e.result.stop ≡ f.result.stop)
    × (e.result.count ≡ f.result.count)
    × (e.result.address ≡ f.result.address)
    × (e.result.machine ≡ f.result.machine)
    × (length e.memory ≡ length s)
    × (length f.memory ≡ length t)
    × ((a : ℕ) → get_or s a 0 ≡ get_or t a 0 → get_or e.memory a 0 ≡ get_or f.memory a 0)
    × ((a : ℕ) → (Writable m.hfi.regions a → ⊥) → get_or e.memory a 0 ≡ get_or s a 0)
    × ((a : ℕ) → (Writable m.hfi.regions a → ⊥) → get_or f.memory a 0 ≡ get_or t a 0)
    × ((a : ℕ) → Executable m.hfi.regions a → get_or e.memory a 0 ≡ get_or s a 0)
    × ((a : ℕ) → Executable m.hfi.regions a → get_or f.memory a 0 ≡ get_or t a 0)
runs_isolated m s t budget e f p q mode lock lengths readable executable =
    let l : Locked m = record { mode = mode; lock = lock } in
    let a : Agree m s t = record { lengths = lengths; readable = readable; executable = executable } in
    let i : Isolated m s t e f = rw (p, q) (isolation m s t budget l a) in (
      ap (λ (r : RunAnswer). r.stop) i.answers,
      ap (λ (r : RunAnswer). r.count) i.answers,
      ap (λ (r : RunAnswer). r.address) i.answers,
      ap (λ (r : RunAnswer). r.machine) i.answers,
      i.lengths.0,
      i.lengths.1,
      i.agreeing,
      (λ b w. (i.unwritten b w).0),
      (λ b w. (i.unwritten b w).1),
      (λ b x. (i.unchanged b x).0),
      (λ b x. (i.unchanged b x).1),
    )
