-- The pages are not empty. Two guests that execute the same bytes and each write bytes of their own are apart; what their turns answer and leave,
-- and what each leaves alone, is computed: one of them leaves with 20, and one turn is refused. Of two that are not apart the conclusion is
-- false: where one reads, writes or executes what the other writes. And a slot waits while another has its turn.
-- Assumes nothing.
use mathlib.Core.Path.{◌≡◌, refl, ap, sym, ◌∙◌}
use mathlib.Core.Bool.{Bool, true, false, false≢true}
use mathlib.Core.List.{List, [], ◌∷◌, ◌++◌, map}
use mathlib.Core.Logic.{◌⊎◌, inl, inr}
use Prim.Native.Nat.{ℕ, ◌+◌, ◌-◌, ◌*◌, ◌^◌, ◌<◌, ◌≤◌}
use native.Mathlib.Omega.{arith}
use lib.Count.{count_trailing_zeros}
use lib.Dec.{eqb, lit<, lit≤}
use lib.ListN.{length, get_or}
use borrow.Author.Tests.{eqb-true, eqb-false}
use Rattle.words.specs.Word.{sext}
use Rattle.instructions.specs.Decode.{decode_word}
use Rattle.instructions.specs.HWords.{explicit_regions}
use Rattle.instructions.proofs.HWords.{among_ind}
use Rattle.compressed.specs.Expand.{expand_half}
use Rattle.model.specs.Machine.{no_region, region}
use Rattle.model.specs.Bytes.{value, written}
use Rattle.model.specs.Outcome.{allowed, aligned, settle}
use Rattle.model.specs.WellFormed.{state_fits, well_formed}
use Rattle.model.specs.Hfi.{hfi_stop, hfi_perform}
use Rattle.model.specs.Regions.{read, write, execute, permits, data_regions, code_regions, explicit_rule, matches, first_match, implicit_grants, explicit_grants}
use Rattle.model.specs.WritableCode.{explicit_covers, writable_code, exposes_code}
use Rattle.model.specs.Access.{scan, first_refused, first_absent, verdict}
use Rattle.model.specs.Step.{load, store, perform, execute_instruction, execute_word, fetching, execute_fetched, step}
use Rattle.model.specs.Run.{run_by, run_call}
use Rattle.model.specs.Reach.{Writable}
use Rattle.model.specs.declared.Region.{Region}
use Rattle.model.proofs.Intervals.{zero_matches_none, matches_inside}
use Rattle.model.proofs.Reach.{InData, InExplicit, InImplicit, granted_by}
use Rattle.model.proofs.Forms.{readable_form, writable_form, form_writable, executable_form}
use Rattle.model.proofs.Rows.{x, pc, mode, options, base, bound, permission, bytes, with}
use Rattle.scheduler.specs.Turn.{slot, first_unstopped, slot_refusal, slots_refusal, refusal, turn_call}
use Rattle.scheduler.specs.Turns.{Given, left, State, after_all, turns_of, in_turn}
use Rattle.scheduler.specs.Apartness.{Own, regions_at, Taking, Apart, alone, alone_turns, Told, Alike}
use Rattle.scheduler.specs.declared.Slot.{Slot}
use Rattle.scheduler.proofs.Apartness.{apart_in_turn}
use Rattle.scheduler.proofs.Fairness.{fair_in_turn}

-- a guest at p that executes the sixteen bytes from c on and has the eight from a on, with the permissions v; it has n in x5
abbrev guest : ℕ → ℕ → ℕ → ℕ → ℕ → Slot
guest p c a v n =
    record {
      machine = with ((x 5, n) ∷ (pc, p) ∷ (mode, 1) ∷ (options, 1) ∷ (base 1, a) ∷ (bound 1, 8) ∷ (permission 1, v) ∷ (base 3, c) ∷ (bound 3, 2 ^ 64 - 16) ∷ (permission 3, 4) ∷ []);
      stop = 0;
    }

-- addi x7, x7, 1; hsb x7, 0(x0); bne x7, x5, -8; and the word w
abbrev code : ℕ → List ℕ
code w = bytes (0x00138393 ∷ 0x0070002b ∷ 0xfe539ce3 ∷ w ∷ [])

-- slots 1 and 2
abbrev two : Slot → Slot → List ℕ → State
two c d mem = record { scheduler = record { slots = c ∷ d ∷ d ∷ d ∷ []; count = 2; place = 1; total = 0 }; memory = mem }

-- ---- two that are apart: slot n may write the eight bytes from 8 + 8 * n on, and no others. The word is hfiexit

abbrev pair : State
pair = two (guest 0 0 16 2 9) (guest 0 0 24 2 1) (code 0x0400005b ++ bytes (9 ∷ 9 ∷ 9 ∷ 9 ∷ []))

abbrev Inside : ℕ → ℕ → Type 0
Inside a b = (a ≤ b) × (b < a + 8)

unmatched : (b : ℕ) {X : Type 0} → matches no_region b ≡ true → X
unmatched b e = absurd (false≢true (sym (zero_matches_none no_region b refl) ∙ e))

unreached : (wanted b : ℕ) {X : Type 0} → InExplicit no_region wanted b → X
unfolding explicit_rule
unreached wanted b i = absurd (false≢true i.rule)

module _ (a n b : ℕ) where
  abbrev rs : List Region
  rs = (guest 0 0 a 2 n).machine.hfi.regions

  data_inside : (wanted : ℕ) → InData rs wanted b → Inside a b
  data_inside wanted (inl i) =
      let none : (n : ℕ) → matches no_region b ≡ true → permits wanted no_region ≡ true → Inside a b = λ n t e. unmatched b t in
      granted_by rs data_regions wanted b _ (none 2, (none 7, (none 8, (none 9, tt)))) i.granted
  data_inside wanted (inr i) =
      among_ind (λ (n : ℕ). InExplicit (region rs n) wanted b → Inside a b) explicit_regions i.chosen
      ((λ j. (j.start, j.end)), (unreached wanted b, (unreached wanted b, (unreached wanted b, tt)))) i.listed i.inside

  code_inside : InImplicit rs code_regions execute b → b < 16
  unfolding count_trailing_zeros
  code_inside i = granted_by rs code_regions execute b _ ((λ t e. (matches_inside (region rs 3) b i.address t).1), ((λ t e. unmatched b t), tt)) i.granted

  written_inside : Writable rs b → Inside a b
  written_inside h = data_inside write (writable_form rs b h)

  own_inside : Own rs b → (b < 16) ⊎ Inside a b
  own_inside (Own.readable h) = inr (data_inside read (readable_form rs b h))
  own_inside (Own.writable h) = inr (written_inside h)
  own_inside (Own.executable h) = inl (code_inside (executable_form rs b h))

-- what holds of slots 1 and 2 holds of whoever takes turns
both : (P : ℕ → Type 0) → P 1 → P 2 → (n : ℕ) → Taking pair.scheduler n → P n
both P f g n t = go (eqb n 1) refl
  where
    go : (c : Bool) → eqb n 1 ≡ c → P n
    go true e = rw (eqb-true n 1 e) f
    go false e = let s : n ≡ 2 = let l = t.first in let u = t.last in let v = eqb-false n 1 e in omega (arith, l, u, v) in rw s g

pub apart : Apart pair
apart n k b m i j ne w o =
    go (both (λ (m : ℕ). Writable (regions_at pair.scheduler m) b → Inside (8 + 8 * m) b) (written_inside 16 9 b) (written_inside 24 1 b) k j w)
    (both (λ (m : ℕ). Own (regions_at pair.scheduler m) b → (b < 16) ⊎ Inside (8 + 8 * m) b) (own_inside 16 9 b) (own_inside 24 1 b) n i o)
  where
    go : Inside (8 + 8 * k) b → (b < 16) ⊎ Inside (8 + 8 * n) b → ⊥
    go v (inl q) = let l = v.0 in let one = j.first in omega (arith, l, q, one)
    go v (inr q) = let l = v.0 in let u = v.1 in let s = q.0 in let t = q.1 in omega (arith, l, u, s, t, ne)

-- so each goes on as if alone, whatever the allowances; of slot 1's bytes, which it can only write, in plain numbers
pub goes_on : (allowances : List ℕ) (n : ℕ) → Taking pair.scheduler n → Alike pair (alone pair n) n (in_turn pair allowances) (alone_turns pair n (in_turn pair allowances))
goes_on allowances n t = apart_in_turn pair allowances n apart t

pub own_bytes : (allowances : List ℕ) (b : ℕ) → 16 ≤ b → b < 24
    → get_or (after_all pair (in_turn pair allowances)).memory b 0 ≡ get_or (after_all (alone pair 1) (alone_turns pair 1 (in_turn pair allowances))).memory b 0
unfolding explicit_rule
own_bytes allowances b l u =
    (goes_on allowances 1 (record { first = lit≤ tt; last = lit≤ tt; unstopped = refl })).bytes b
    (Own.writable (form_writable _ b (inr (record { chosen = 1; listed = refl; inside = record { rule = refl; permitted = refl; start = l; end = u } }))))

-- ---- what they do

abbrev turns : List Given
turns = in_turn pair (6 ∷ 5 ∷ 0 ∷ 3 ∷ 3 ∷ [])

-- a slot's stop, pc and x7
abbrev seen : State → ℕ → List ℕ
seen p n = let d = slot p.scheduler.slots n in d.stop ∷ d.machine.pc ∷ get_or d.machine.x 7 0 ∷ []

-- of each turn its slot, stop and count; the allowances of each slot's turns; place and total after them; then slots and memory
unfoldable pub done : List (List ℕ)
done =
    let q = after_all pair turns in
    map (λ (g : Given). (left g).result.slot ∷ (left g).result.stop ∷ (left g).result.count ∷ []) turns
    ++ map (λ n. map (λ (g : Given). g.allowance) (turns_of n turns)) (1 ∷ 2 ∷ [])
    ++ (q.scheduler.place ∷ q.scheduler.total ∷ []) ∷ seen q 1 ∷ seen q 2 ∷ q.memory ∷ []

-- each alone: its slot, and the memory
unfoldable pub done_alone : ℕ → List (List ℕ)
done_alone n = let q = after_all (alone pair n) (alone_turns pair n turns) in seen q 1 ∷ q.memory ∷ []

-- the memory, with v and w in the bytes 16 and 24
abbrev with_bytes : ℕ → ℕ → List ℕ
with_bytes v w = code 0x0400005b ++ bytes (v ∷ 9 ∷ w ∷ 9 ∷ [])

pub done_rows :
    (done ≡ (1 ∷ 21 ∷ 6 ∷ []) ∷ (2 ∷ 20 ∷ 4 ∷ []) ∷ (0 ∷ 51 ∷ 0 ∷ []) ∷ (1 ∷ 21 ∷ 3 ∷ []) ∷ (1 ∷ 21 ∷ 3 ∷ [])
    ∷ (6 ∷ 3 ∷ 3 ∷ []) ∷ (5 ∷ []) ∷ (2 ∷ 16 ∷ []) ∷ (21 ∷ 0 ∷ 4 ∷ []) ∷ (20 ∷ 16 ∷ 1 ∷ []) ∷ with_bytes 4 1 ∷ [])
    × (done_alone 1 ≡ (21 ∷ 0 ∷ 4 ∷ []) ∷ with_bytes 4 9 ∷ [])
    × (done_alone 2 ≡ (20 ∷ 16 ∷ 1 ∷ []) ∷ with_bytes 9 1 ∷ [])
unfolding done done_alone turns_of in_turn turn_call first_unstopped refusal slots_refusal slot_refusal count_trailing_zeros sext decode_word expand_half matches explicit_rule first_match implicit_grants explicit_grants explicit_covers writable_code exposes_code scan first_refused first_absent verdict value written allowed aligned settle state_fits well_formed hfi_stop hfi_perform load store perform execute_instruction execute_word fetching execute_fetched step run_by run_call
done_rows = (refl, refl, refl)

-- ---- two that are not apart: slot 1 writes byte 16, and slot 2 reads, writes or executes it. The word is hlb x7, 0(x0)

abbrev overlapping : Slot → State
overlapping d = two (guest 0 0 16 2 0) d (code 0x0000038b ++ bytes (9 ∷ []))

abbrev AsAlone : Slot → Type 0
AsAlone d = let gs = in_turn (overlapping d) (12 ∷ 3 ∷ 3 ∷ []) in Alike (overlapping d) (alone (overlapping d) 2) 2 gs (alone_turns (overlapping d) 2 gs)

-- what it read, what is left of what it wrote, and how far it came are not as if alone
pub not_apart : (AsAlone (guest 12 0 16 1 0) → ⊥) × (AsAlone (guest 0 0 16 2 0) → ⊥) × (AsAlone (guest 16 16 32 2 0) → ⊥)
unfolding turns_of in_turn turn_call first_unstopped refusal slots_refusal slot_refusal count_trailing_zeros sext decode_word expand_half matches explicit_rule first_match implicit_grants explicit_grants explicit_covers writable_code exposes_code scan first_refused first_absent verdict value written allowed aligned settle state_fits well_formed hfi_stop hfi_perform load store perform execute_instruction execute_word fetching execute_fetched step run_by run_call
not_apart = (
  (λ h. let e : ◌≡◌ {A = ℕ} 4 9 = ap (λ (d : Slot). get_or d.machine.x 7 0) h.slots in omega (arith, e)),
  (λ h. let e : ◌≡◌ {A = ℕ} 5 1 = h.bytes 16 (Own.writable (form_writable _ 16 (inr (record { chosen = 1; listed = refl; inside = record { rule = refl; permitted = refl; start = lit≤ tt; end = lit< tt } })))) in omega (arith, e)),
  (λ h. let e : ◌≡◌ {A = ℕ} 0 1 = ap (λ (l : List Told). get_or (map (λ (t : Told). t.count) l) 0 9) h.turns in omega (arith, e)),
)

-- ---- fairness: slot 2 waits while slot 1 has its turn and another is refused; where the place is put back between turns, slot 1 has two

abbrev again : List Given
again = let g : Given = record { scheduler = pair.scheduler; memory = pair.memory; allowance = 6 } in g ∷ g ∷ []

pub waits : (length (turns_of 1 (in_turn pair (6 ∷ 0 ∷ []))) ≤ 1) × (turns_of 2 again ≡ []) × (length (turns_of 1 again) ≡ 2)
unfolding turns_of in_turn turn_call first_unstopped refusal slots_refusal slot_refusal count_trailing_zeros sext decode_word expand_half matches explicit_rule first_match implicit_grants explicit_grants explicit_covers writable_code exposes_code scan first_refused first_absent verdict value written allowed aligned settle state_fits well_formed hfi_stop hfi_perform load store perform execute_instruction execute_word fetching execute_fetched step run_by run_call
waits = (fair_in_turn pair (6 ∷ 0 ∷ []) 2 1 (refl, (refl, tt)) (lit≤ tt) (lit≤ tt) (lit≤ tt) refl, refl, refl)
