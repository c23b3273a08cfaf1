-- Demand 3 is not empty: a locked machine, two different memories that agree on what it may read or execute, and what its
-- runs over them do, computed. The guest stores a byte, loads one and leaves. And what h-words reach, in plain numbers.
-- Assumes nothing.
use mathlib.Core.Path.{◌≡◌, refl, ap, sym, ◌∙◌}
use mathlib.Core.Bool.{true, false≢true}
use mathlib.Core.List.{List, [], ◌∷◌, ◌++◌}
use mathlib.Core.Logic.{inl, inr}
use Prim.Native.Nat.{ℕ, ◌<◌, ◌≤◌}
use native.Mathlib.Omega.{arith}
use lib.Count.{count_trailing_zeros}
use lib.ListN.{get_or, get_or-append}
use Rattle.words.specs.Word.{sext}
use Rattle.instructions.specs.Decode.{decode_word}
use Rattle.instructions.specs.HWords.{explicit_regions}
use Rattle.instructions.proofs.HWords.{among_ind}
use Rattle.model.specs.Machine.{bit, no_region, region, set_region, zero_regions}
use Rattle.model.specs.Bytes.{value, written}
use Rattle.model.specs.Outcome.{allowed, settle}
use Rattle.model.specs.WellFormed.{state_fits, well_formed}
use Rattle.model.specs.Hfi.{hfi_stop, hfi_perform}
use Rattle.model.specs.Regions.{read, execute, permits, data_regions, code_regions, explicit_rule, matches, first_match, implicit_grants, explicit_grants}
use Rattle.model.specs.WritableCode.{explicit_covers, writable_code, exposes_code}
use Rattle.model.specs.Access.{scan, first_refused, first_absent, verdict}
use Rattle.model.specs.Step.{load, store, perform, execute_instruction, execute_word, fetching, execute_fetched, step}
use Rattle.compressed.specs.Expand.{expand_half}
use Rattle.model.specs.Run.{run_by, run_call}
use Rattle.model.specs.Reach.{Readable, Writable}
use Rattle.model.specs.Isolation.{Locked, Agree}
use Rattle.model.specs.declared.Region.{Region}
use Rattle.model.specs.declared.Machine.{Machine}
use Rattle.model.proofs.Intervals.{zero_matches_none, matches_inside}
use Rattle.model.proofs.Reach.{InData, InExplicit, InImplicit, granted_by}
use Rattle.model.proofs.Forms.{readable_form, form_readable, writable_form, form_writable, executable_form}
use Rattle.model.proofs.Alike.{held}
use Rattle.model.proofs.Rows.{Row, Answer, found, stated, x, pc, mode, reason, epc, options, base, bound, permission, puts, region_of, with, bytes}
use Rattle.model.proofs.Rows.Question.{running}
use Rattle.model.proofs.Rows.Answer.{gave}

-- region 1 grants the four bytes at 10, region 3 the sixteen at 0
abbrev start : List (ℕ × ℕ)
start =
    (mode, 1) ∷ (options, 1) ∷ (x 10, 7) ∷ (base 1, 0x10) ∷ (bound 1, 4) ∷ (permission 1, 3)
    ∷ (bound 3, 0xfffffffffffffff0) ∷ (permission 3, 4) ∷ []

abbrev pub guest : Machine
guest = with start

-- hsb x10, 1(x0); hlb x11, 0(x0); hfiexit; a word that is none; and the granted bytes 4, 3, 2, 1
abbrev common : List ℕ
common = bytes (0x00a000ab ∷ 0x0000058b ∷ 0x0400005b ∷ 0 ∷ 0x01020304 ∷ [])

-- and four bytes that are not the guest's
abbrev before : ℕ → List ℕ
before v = common ++ (v ∷ v ∷ v ∷ v ∷ [])

abbrev pub one : List ℕ
one = before 9

abbrev pub two : List ℕ
two = before 8

pub locked : Locked guest
locked = record { mode = refl; lock = refl }

pub different : one ≡ two → ⊥
different e =
    let h : ◌≡◌ {A = ℕ} 9 8 = ap (λ (l : List ℕ). get_or l 20 0) e in
    omega (arith, h)

common_same : (a : ℕ) → a < 20 → get_or one a 0 ≡ get_or two a 0
common_same a h = get_or-append common (9 ∷ 9 ∷ 9 ∷ 9 ∷ []) 0 a h ∙ sym (get_or-append common (8 ∷ 8 ∷ 8 ∷ 8 ∷ []) 0 a h)

-- a region that is zero matches nothing, and no h-word reaches a byte in it
unmatched : (b : ℕ) {X : Type 0} → matches no_region b ≡ true → X
unmatched b e = absurd (false≢true (sym (zero_matches_none no_region b refl) ∙ e))

unreached : (wanted b : ℕ) {X : Type 0} → InExplicit no_region wanted b → X
unfolding explicit_rule
unreached wanted b i = absurd (false≢true i.rule)

agree_read : (b : ℕ) → InData guest.hfi.regions read b → get_or one b 0 ≡ get_or two b 0
agree_read b (inl i) =
    let none : (n : ℕ) → matches no_region b ≡ true → permits read no_region ≡ true → get_or one b 0 ≡ get_or two b 0 = λ n t p. unmatched b t in
    granted_by guest.hfi.regions data_regions read b _ (none 2, (none 7, (none 8, (none 9, tt)))) i.granted
agree_read b (inr i) =
    among_ind (λ (n : ℕ). InExplicit (region guest.hfi.regions n) read b → get_or one b 0 ≡ get_or two b 0) explicit_regions i.chosen
    ((λ j. common_same b j.end), (unreached read b, (unreached read b, (unreached read b, tt)))) i.listed i.inside

agree_execute : (b : ℕ) → InImplicit guest.hfi.regions code_regions execute b → get_or one b 0 ≡ get_or two b 0
unfolding count_trailing_zeros
agree_execute b i =
    granted_by guest.hfi.regions code_regions execute b _
    ((λ t p. let h : b < 16 = (matches_inside (region guest.hfi.regions 3) b i.address t).1 in common_same b (omega arith)), ((λ t p. unmatched b t), tt))
    i.granted

pub agree : Agree guest one two
agree =
    record {
      lengths = refl;
      readable = λ b h. agree_read b (readable_form guest.hfi.regions b h);
      executable = λ b h. agree_execute b (executable_form guest.hfi.regions b h);
    }

-- ---- what the runs do: three steps, one answer, one byte written, and what is not the guest's as it was

abbrev answer : List ℕ → Answer
answer mem =
    gave 20 3 0 (with (start ++ ((x 11, 4) ∷ (pc, 12) ∷ (mode, 0) ∷ (reason, 1) ∷ (epc, 8) ∷ []))) (puts mem ((0x11, 7) ∷ []))

abbrev rows : List Row
rows = (running guest one 9, answer one) ∷ (running guest two 9, answer two) ∷ []

pub runs_done : found rows ≡ stated rows
unfolding count_trailing_zeros sext decode_word expand_half matches explicit_rule first_match implicit_grants explicit_grants explicit_covers writable_code exposes_code scan first_refused first_absent verdict value written allowed settle state_fits well_formed hfi_stop hfi_perform load store perform execute_instruction execute_word fetching execute_fetched step run_by run_call
runs_done = held rows refl

-- ---- what h-words reach, of a region of 2^24 bytes from 10000 on and no other: with the permission all of it, and nothing else

abbrev alone : ℕ → List Region
alone p = set_region zero_regions 1 (region_of 0x10000 0x1000000 p)

abbrev Reached : ℕ → ℕ → ℕ → Type 0
Reached wanted p b = (bit wanted p ≡ true) × (0x10000 ≤ b) × (b < 0x1010000)

only_explicit : (wanted p b : ℕ) → InData (alone p) wanted b → Reached wanted p b
only_explicit wanted p b (inl i) =
    let none : (n : ℕ) → matches no_region b ≡ true → permits wanted no_region ≡ true → Reached wanted p b = λ n t e. unmatched b t in
    granted_by (alone p) data_regions wanted b _ (none 2, (none 7, (none 8, (none 9, tt)))) i.granted
only_explicit wanted p b (inr i) =
    among_ind (λ (n : ℕ). InExplicit (region (alone p) n) wanted b → Reached wanted p b) explicit_regions i.chosen
    ((λ j. (j.permitted, j.start, j.end)), (unreached wanted b, (unreached wanted b, (unreached wanted b, tt)))) i.listed i.inside

pub alone_read : (p b : ℕ) → Readable (alone p) b → Reached 0 p b
alone_read p b h = only_explicit 0 p b (readable_form (alone p) b h)

pub alone_written : (p b : ℕ) → Writable (alone p) b → Reached 1 p b
alone_written p b h = only_explicit 1 p b (writable_form (alone p) b h)

pub read_alone : (b : ℕ) → 0x10000 ≤ b → b < 0x1010000 → Readable (alone 1) b
unfolding explicit_rule
read_alone b l u = form_readable (alone 1) b (inr (record { chosen = 1; listed = refl; inside = record { rule = refl; permitted = refl; start = l; end = u } }))

pub written_alone : (b : ℕ) → 0x10000 ≤ b → b < 0x1010000 → Writable (alone 2) b
unfolding explicit_rule
written_alone b l u = form_writable (alone 2) b (inr (record { chosen = 1; listed = refl; inside = record { rule = refl; permitted = refl; start = l; end = u } }))
