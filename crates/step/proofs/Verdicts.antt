-- The step by one verdict on its fetch; and what a passed one says of memory.
-- Assumes nothing.
use Rattle.std.proofs.Common.{◌≡◌, ℕ, ◌+◌, ◌%◌, ◌^◌, ◌<◌, ◌≤◌, Bool, true, false, cond, List, length, refl, ◌∙◌, arith, eq-eqb, Option, Some, Ok, Err, sym}
use Rattle.instructions.specs.Decode.{decode_word}
use Rattle.instructions.specs.Encode.{in_range}
use Rattle.instructions.specs.declared.instruction.Instruction.{Instruction}
use Rattle.instructions.proofs.RoundTrip.{decoded_range}
use Rattle.compressed.specs.Expand.{expand_half, is_long}
use Rattle.compressed.proofs.InRange.{expanded_range}
use Rattle.model.specs.Machine.{sum, fetch_op}
use Rattle.model.specs.Bytes.{value}
use Rattle.model.specs.Access.{fetch_access, verdict}
use Rattle.model.specs.Outcome.{settle}
use Rattle.model.specs.Step.{execute_word, fetching, execute_fetched, step}
use Rattle.model.specs.declared.Machine.{Machine}
use Rattle.model.specs.declared.Region.{Region}
use Rattle.model.specs.Access.{Verdict, passed}
use Rattle.model.specs.declared.stop.Denied.{Denied}
use Rattle.model.specs.declared.stop.Denied.TheVariants.{Refused, Absent}
use Rattle.memory.specs.Loops.{fetches_whole}
use Rattle.memory.proofs.Fits.{passed_fits}
use Rattle.memory.proofs.Whole.{whole_fetched}
use Rattle.step.specs.Fetch.{and_then, half_at, fetch_verdict, size_at, word_at}

-- ---- the verdict

-- a passed one passed twice
both : (v w : Verdict) → and_then v w ≡ passed → (v ≡ passed) × (w ≡ passed)
both (Err d) w e = let z : ◌≡◌ {A = ℕ} 0 1 = cc in absurd (omega arith)
both (Ok tt) w e = (refl, e)

module _ (mode : ℕ) (rs : List Region) (mem : List ℕ) (pc : ℕ) where
  -- where all four bytes pass there is no more to ask
  pub whole_verdict : pc < 2 ^ 64 → length mem < 2 ^ 64 → fetches_whole mode rs (length mem) pc ≡ true → passed ≡ fetch_verdict mode rs mem pc
  unfolding fetch_verdict
  whole_verdict p q g = let w = whole_fetched mode rs (length mem) pc p q g in rw (w.0, w.1) (go (is_long (half_at mem pc)))
    where
      go : (b : Bool) → passed ≡ cond b passed passed
      go true = refl
      go false = refl

  -- the first two bytes do not pass
  pub refused_verdict : {at region : ℕ} → verdict mode (length mem) (fetch_access rs pc) ≡ Err (Refused at region) → Err (Refused at region) ≡ fetch_verdict mode rs mem pc
  unfolding fetch_verdict
  refused_verdict e = rw e refl

  pub absent_verdict : {at : ℕ} → verdict mode (length mem) (fetch_access rs pc) ≡ Err (Absent at) → Err (Absent at) ≡ fetch_verdict mode rs mem pc
  unfolding fetch_verdict
  absent_verdict e = rw e refl

  -- they do, and are a half-word; or the rest is to be asked
  pub half_verdict : verdict mode (length mem) (fetch_access rs pc) ≡ passed → is_long (half_at mem pc) ≡ false → passed ≡ fetch_verdict mode rs mem pc
  unfolding fetch_verdict
  half_verdict e l = rw (e, l) refl

  pub long_verdict : {v : Verdict} → verdict mode (length mem) (fetch_access rs pc) ≡ passed → is_long (half_at mem pc) ≡ true
      → v ≡ verdict mode (length mem) (fetch_access rs (sum pc 2)) → v ≡ fetch_verdict mode rs mem pc
  unfolding fetch_verdict
  long_verdict e l q = rw (e, l) q

  -- ---- what is in memory

  module _ (p : pc < 2 ^ 64) (q : length mem < 2 ^ 64) where
    pub half_fits : fetch_verdict mode rs mem pc ≡ passed → pc + 2 ≤ length mem
    unfolding fetch_verdict
    half_fits e = passed_fits mode (length mem) (fetch_access rs pc) refl p q refl (both _ _ e).0

    pub long_fits : fetch_verdict mode rs mem pc ≡ passed → is_long (half_at mem pc) ≡ true → pc + 4 ≤ length mem
    unfolding fetch_verdict
    long_fits e l =
        let b : (verdict mode (length mem) (fetch_access rs pc) ≡ passed) × (cond (is_long (half_at mem pc)) (verdict mode (length mem) (fetch_access rs (sum pc 2))) passed ≡ passed) = both _ _ e in
        let w : verdict mode (length mem) (fetch_access rs (sum pc 2)) ≡ passed = rw l at b.1 in
        let f = passed_fits mode (length mem) (fetch_access rs pc) refl p q refl b.0 in
        let s = passed_fits mode (length mem) (fetch_access rs (sum pc 2)) refl (omega arith) q refl w in
        omega (arith, f, s)

-- ---- the word

pub word_range : (mem : List ℕ) (pc : ℕ) (i : Instruction) → word_at mem pc ≡ Some i → in_range i ≡ true
unfolding word_at
word_range mem pc i e = go (is_long (half_at mem pc)) e
  where
    go : (b : Bool) → cond b (decode_word (value mem pc 0 4)) (expand_half (half_at mem pc)) ≡ Some i → in_range i ≡ true
    go true e = decoded_range _ i e
    go false e = expanded_range _ i e

-- ---- the step

step_fetched : (m : Machine) (mem : List ℕ) → m.pc % 2 ≡ 0
    → step m mem ≡ settle m mem fetch_op 11 12 (fetch_verdict m.hfi.mode m.hfi.regions mem m.pc) (execute_word m mem (size_at mem m.pc) (word_at mem m.pc))
unfolding step fetching execute_fetched fetch_verdict word_at settle
step_fetched m mem e =
    rw (eq-eqb (m.pc % 2) 0 e)
    (go (verdict m.hfi.mode (length mem) (fetch_access m.hfi.regions m.pc)) (verdict m.hfi.mode (length mem) (fetch_access m.hfi.regions (sum m.pc 2))) (is_long (half_at mem m.pc)))
  where
    d : Option Instruction
    d = decode_word (value mem m.pc 0 4)

    i : Option Instruction
    i = expand_half (half_at mem m.pc)

    go : (v w : Verdict) (b : Bool)
        → settle m mem fetch_op 11 12 v (cond b (settle m mem fetch_op 11 12 w (execute_word m mem 4 d)) (execute_word m mem 2 i))
        ≡ settle m mem fetch_op 11 12 (and_then v (cond b w passed)) (execute_word m mem (cond b 4 2) (cond b d i))
    go (Err (Refused at region)) w b = refl
    go (Err (Absent at)) w b = refl
    go (Ok tt) w true = refl
    go (Ok tt) w false = refl

module _ (m : Machine) (mem : List ℕ) (e : m.pc % 2 ≡ 0) where
  pub passed_step : fetch_verdict m.hfi.mode m.hfi.regions mem m.pc ≡ passed → step m mem ≡ execute_word m mem (size_at mem m.pc) (word_at mem m.pc)
  unfolding settle
  passed_step v = step_fetched m mem e ∙ rw v refl

  -- whatever the word, which is not executed
  pub denied_step : {d : Denied} → fetch_verdict m.hfi.mode m.hfi.regions mem m.pc ≡ Err d
      → settle m mem fetch_op 11 12 (Err d) (execute_word m mem (size_at mem m.pc) (word_at mem m.pc)) ≡ step m mem
  denied_step v = sym (step_fetched m mem e ∙ rw v refl)
