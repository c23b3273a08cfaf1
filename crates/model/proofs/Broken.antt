-- Document 02, Job 6, "Which HFI rule was broken": question 8's paragraph a clause at a time, each with its number (and Job 5's 22). The table
-- gives these numbers, each exactly for its clause; so does a whole step, and it leaves all as it was.
-- Assumes nothing.
use Rattle.std.specs.Prelude.{Ok, Err}
use mathlib.Core.Path.{◌≡◌, refl, ap, sym, ◌∙◌}
use mathlib.Core.Bool.{Bool, true, false, cond, not, ◌&&◌, false≢true}
use mathlib.Core.List.{List, [], ◌∷◌}
use mathlib.Core.Logic.{◌⊎◌, inl, inr}
use Prim.Native.Nat.{ℕ, ◌%◌, ◌<◌, ◌≤◌}
use native.Mathlib.Omega.{arith}
use lib.Dec.{eqb, leb, ltb}
use lib.ListN.{length, get_or}
use borrow.Author.Tests.{eqb-true, eqb-false, eq-eqb, ne_eqb, leb-false, lt-leb, ltb-true, lt-ltb, ltb-false, le-ltb, not-true}
use Rattle.std.proofs.Common.{Option, Some, None}
use Rattle.std.proofs.lemmas.Bool.{both_ways, and_parts}
use Rattle.words.specs.Word.{field}
use Rattle.instructions.specs.Decode.{decode_word}
use Rattle.instructions.specs.declared.kind.LoadKind.{LoadKind}
use Rattle.instructions.specs.declared.kind.StoreKind.{StoreKind}
use Rattle.instructions.specs.declared.kind.HfiKind.{HfiKind}
use Rattle.instructions.specs.declared.kind.HfiKind.TheVariants.{Enter, EnterJump, Exit, SelectRegion, SetBase, GetBase, SetBound, GetBound, SetPermission, GetPermission, SetHandler, GetHandler, ResetRegions}
use Rattle.instructions.specs.Encode.{in_range}
use Rattle.instructions.specs.declared.instruction.Instruction.{Instruction}
use Rattle.instructions.specs.declared.instruction.Instruction.TheVariants.{Upper, Jal, Jalr, Branch, Load, Store, Immediate, Shift, Addiw, ShiftWord, Register, RegisterWord, Fence, System, HLoad, HStore, Hfi}
use Rattle.instructions.proofs.RoundTrip.{decoded_range}
use Rattle.compressed.specs.Expand.{expand_half, is_long}
use Rattle.compressed.proofs.InRange.{expanded_range}
use Rattle.model.specs.Machine.{bit, sum, reg, fetch_op, largest_options, inside, locked, entered, last_region}
use Rattle.instructions.specs.HWords.{among}
use Rattle.model.specs.Regions.{region_kind}
use Rattle.model.specs.WellFormed.{well_formed}
use Rattle.model.specs.WritableCode.{WritableCode, writable_code, exposes_code}
use Rattle.model.specs.Bytes.{value}
use Rattle.model.specs.Access.{fetch_access, verdict}
use Rattle.model.specs.Outcome.{Outcome, stopped, allowed, settle}
use Rattle.model.specs.Step.{perform, execute_instruction, execute_word, fetching, execute_fetched, step, longest, step_call}
use Rattle.model.specs.Run.{Ended, ended, run_call}
use Rattle.model.specs.Hfi.{first_broken, word_rules, rules, hfi_stop}
use Rattle.model.specs.Isolation.{Locked}
use Rattle.model.specs.declared.HfiState.{HfiState}
use Rattle.model.specs.declared.Machine.{Machine}
use Rattle.model.specs.Access.{Verdict, passed}
use Rattle.model.specs.declared.stop.Denied.TheVariants.{Refused, Absent}
use Rattle.model.proofs.WritableCode.{code_tested, tested_code}
use Rattle.model.proofs.Permissions.{fitting, permissions_fitting}
use Rattle.model.proofs.Forbidden.{of_each, hfi_stops, is_hfi_stop, stop_nonzero}
use Rattle.model.proofs.Moves.{other_stops, is_other, perform_other}
use Rattle.model.proofs.HfiWords.{Enters, lockable, of_selection, enter_forms, locked_25, unselected_14}
use Rattle.model.proofs.Runs.{run_ind, call_ind, is_locked, locked_is}
use Rattle.model.proofs.Exposed.{Comes, exposes, step_made}

-- ---- the clauses

-- HFI does not allow this instruction, and this is the number
pub data Breaks (m : Machine) : Instruction → ℕ → Type 0 where
  -- "23, enter in HFI mode", whatever its operand
  enters_inside : {k : HfiKind} {rd rs1 rs2 : ℕ} → Enters k → m.hfi.mode ≡ 1 → Breaks m (Hfi k rd rs1 rs2) 23
  -- "24, exit outside it"
  exits_outside : {rd rs1 rs2 : ℕ} → (m.hfi.mode ≡ 1 → ⊥) → Breaks m (Hfi Exit rd rs1 rs2) 24
  -- "25, a region or handler instruction that HFI mode forbids", whatever its operand and whatever is selected: ".. in HFI mode when locked"
  when_locked : {k : HfiKind} {rd rs1 rs2 : ℕ} → lockable k ≡ true → Locked m → Breaks m (Hfi k rd rs1 rs2) 25
  -- and "set handler in HFI mode, locked or unlocked"
  sets_handler : {rd rs1 rs2 : ℕ} → m.hfi.mode ≡ 1 → Breaks m (Hfi SetHandler rd rs1 rs2) 25
  -- "an h-word outside HFI mode"
  h_load_outside : {k : LoadKind} {chosen rd rs1 imm : ℕ} → (m.hfi.mode ≡ 1 → ⊥) → Breaks m (HLoad k chosen rd rs1 imm) 14
  h_store_outside : {k : StoreKind} {chosen rs1 rs2 imm : ℕ} → (m.hfi.mode ≡ 1 → ⊥) → Breaks m (HStore k chosen rs1 rs2 imm) 14
  -- "Faults in an operand": "an options operand above 15"
  bad_options : {k : HfiKind} {rd rs1 rs2 : ℕ} → Enters k → (m.hfi.mode ≡ 1 → ⊥) → largest_options < reg m.x rs1
      → Breaks m (Hfi k rd rs1 rs2) 14
  -- "a selected number not 1 to 3", which goes up to 10 (Job 7)
  bad_number : {rd rs1 rs2 : ℕ} → (Locked m → ⊥) → (reg m.x rs1 ≡ 0) ⊎ (last_region < reg m.x rs1)
      → Breaks m (Hfi SelectRegion rd rs1 rs2) 14
  -- "a permission bit the region lacks" (Permissions.antt)
  bad_permission : {rd rs1 rs2 : ℕ} → (Locked m → ⊥) → (m.hfi.selector ≡ 0 → ⊥) → among (reg m.x rs1) (fitting (region_kind m.hfi.selector)) ≡ false
      → Breaks m (Hfi SetPermission rd rs1 rs2) 14
  -- "a missing selection": "funct7 4 to 9 with selector 0"
  no_selection : {k : HfiKind} {rd rs1 rs2 : ℕ} → of_selection k ≡ true → (Locked m → ⊥) → m.hfi.selector ≡ 0 → Breaks m (Hfi k rd rs1 rs2) 14
  -- "22, for either enter form that would begin such a state": the operand is good and locks, and the regions as they are have writable code
  begins : {k : HfiKind} {rd rs1 rs2 : ℕ} → Enters k → (m.hfi.mode ≡ 1 → ⊥) → reg m.x rs1 ≤ largest_options
      → field (reg m.x rs1) 0 1 ≡ 1 → WritableCode m.hfi.regions → Breaks m (Hfi k rd rs1 rs2) 22

-- an operand is the whole register that the word names, as it stands
pub operand_read : (x : List ℕ) (rs1 : ℕ) → reg x rs1 ≡ get_or x rs1 0
operand_read x rs1 = refl

-- ---- the table's tests, in the words above

is_inside : (m : Machine) → m.hfi.mode ≡ 1 → inside m.hfi ≡ true
is_inside m = eq-eqb m.hfi.mode 1

is_outside : (m : Machine) → (m.hfi.mode ≡ 1 → ⊥) → inside m.hfi ≡ false
is_outside m = ne_eqb m.hfi.mode 1

is_unlocked : (m : Machine) → (Locked m → ⊥) → locked m.hfi ≡ false
is_unlocked m n = go (locked m.hfi) refl
  where
    go : (b : Bool) → locked m.hfi ≡ b → locked m.hfi ≡ false
    go true e = absurd (n (locked_is m e))
    go false e = e

unlocked_is : (m : Machine) → locked m.hfi ≡ false → Locked m → ⊥
unlocked_is m e k = both_ways _ e (is_locked m k)

-- "not 1 to 3", or to the last
no_number : (a : ℕ) → (a ≡ 0) ⊎ (last_region < a) → (leb 1 a && leb a last_region) ≡ false
no_number a (inl e) = rw e refl
no_number a (inr l) = go (leb 1 a)
  where
    go : (b : Bool) → (b && leb a last_region) ≡ false
    go true = lt-leb a last_region l
    go false = refl

number_no : (a : ℕ) → (leb 1 a && leb a last_region) ≡ false → (a ≡ 0) ⊎ (last_region < a)
number_no a e = go (leb 1 a) refl e
  where
    go : (b : Bool) → leb 1 a ≡ b → (b && leb a last_region) ≡ false → (a ≡ 0) ⊎ (last_region < a)
    go true t u = inr (leb-false a last_region u)
    go false t u = let z = leb-false 1 a t in inl (omega (arith, z))

-- ---- each clause has its number

begins_exposed : (h : HfiState) (a : ℕ) → field a 0 1 ≡ 1 → WritableCode h.regions → exposes_code (entered h a) ≡ true
unfolding exposes_code
begins_exposed h a l w = rw (eq-eqb (field a 0 1) 1 l) (code_tested h.regions w)

exposed_begins : (h : HfiState) (a : ℕ) → exposes_code (entered h a) ≡ true → (field a 0 1 ≡ 1) × WritableCode h.regions
unfolding exposes_code
exposed_begins h a t = let p = and_parts (bit 0 a) (writable_code h.regions) t in (eqb-true _ _ p.0, tested_code h.regions p.1)

pub rule_number : (m : Machine) (i : Instruction) (n : ℕ) → Breaks m i n → hfi_stop m i ≡ n
unfolding hfi_stop
rule_number m i n (Breaks.enters_inside {k} {rd} {rs1} e o) = ap first_broken (enter_forms m.hfi (reg m.x rs1) k e) ∙ rw (is_inside m o) refl
rule_number m i n (Breaks.exits_outside o) = rw (is_outside m o) refl
rule_number m i n (Breaks.when_locked {k} t l) = locked_25 m.hfi _ k t (is_locked m l)
rule_number m i n (Breaks.sets_handler o) = rw (is_inside m o) refl
rule_number m i n (Breaks.h_load_outside o) = rw (is_outside m o) refl
rule_number m i n (Breaks.h_store_outside o) = rw (is_outside m o) refl
rule_number m i n (Breaks.bad_options {k} {rd} {rs1} e o l) =
    ap first_broken (enter_forms m.hfi (reg m.x rs1) k e) ∙ rw (is_outside m o, lt-ltb largest_options (reg m.x rs1) l) refl
rule_number m i n (Breaks.bad_number {rd} {rs1} l b) = rw (is_unlocked m l, no_number (reg m.x rs1) b) refl
rule_number m i n (Breaks.bad_permission {rd} {rs1} l s p) =
    rw (is_unlocked m l, ne_eqb m.hfi.selector 0 s, permissions_fitting m.hfi.selector (reg m.x rs1), p) refl
rule_number m i n (Breaks.no_selection {k} t l s) = unselected_14 m.hfi _ k t (is_unlocked m l) (eq-eqb _ _ s)
rule_number m i n (Breaks.begins {k} {rd} {rs1} e o l b w) =
    ap first_broken (enter_forms m.hfi (reg m.x rs1) k e)
    ∙ rw (is_outside m o, le-ltb largest_options (reg m.x rs1) l, begins_exposed m.hfi (reg m.x rs1) b w) refl

-- ---- and there are no others

-- P of the number of the first rule that is broken
abbrev First : (ℕ → Type 0) → List (Bool × ℕ) → Type 0
First P [] = Unit {0}
First P (rule ∷ rest) = (rule.0 ≡ true → P rule.1) × (rule.0 ≡ false → First P rest)

first : (P : ℕ → Type 0) (rs : List (Bool × ℕ)) → First P rs → eqb (first_broken rs) 0 ≡ false → P (first_broken rs)
first P [] f e = absurd (false≢true (sym e))
first P (r ∷ rs) f e = go r.0 f.0 (λ k u. first P rs (f.1 k) u) e
  where
    go : (b : Bool) → (b ≡ true → P r.1) → (b ≡ false → eqb (first_broken rs) 0 ≡ false → P (first_broken rs))
        → eqb (cond b r.1 (first_broken rs)) 0 ≡ false → P (cond b r.1 (first_broken rs))
    go true f g u = f refl
    go false f g u = g refl u

module _ (m : Machine) (rd rs1 rs2 : ℕ) where
  abbrev P : HfiKind → ℕ → Type 0
  P k n = Breaks m (Hfi k rd rs1 rs2) n

  enter_first : (k : HfiKind) → Enters k → First (P k) (word_rules m.hfi Enter (reg m.x rs1))
  enter_first k e = (
    λ o. Breaks.enters_inside e (eqb-true _ _ o),
    λ o. (
      λ l. Breaks.bad_options e (eqb-false _ _ o) (ltb-true _ _ l),
      λ l. (λ x. let p = exposed_begins m.hfi (reg m.x rs1) x in Breaks.begins e (eqb-false _ _ o) (ltb-false _ _ l) p.0 p.1, λ x. tt),
    ),
  )

  selected_first : (k : HfiKind) → lockable k ≡ true → of_selection k ≡ true → First (P k) (word_rules m.hfi SetBase (reg m.x rs1))
  selected_first k t u = (λ l. Breaks.when_locked t (locked_is m l), λ l. (λ s. Breaks.no_selection u (unlocked_is m l) (eqb-true _ _ s), λ s. tt))

  word_first : (k : HfiKind) → First (P k) (word_rules m.hfi k (reg m.x rs1))
  word_first Enter = enter_first Enter Enters.plain
  word_first EnterJump = enter_first EnterJump Enters.jump
  word_first Exit = (λ o. Breaks.exits_outside (eqb-false _ _ (not-true _ o)), λ o. tt)
  word_first SelectRegion = (λ l. Breaks.when_locked refl (locked_is m l), λ l. (λ b. Breaks.bad_number (unlocked_is m l) (number_no _ (not-true _ b)), λ b. tt))
  word_first SetBase = selected_first SetBase refl refl
  word_first GetBase = selected_first GetBase refl refl
  word_first SetBound = selected_first SetBound refl refl
  word_first GetBound = selected_first GetBound refl refl
  word_first SetPermission = (
    λ l. Breaks.when_locked refl (locked_is m l),
    λ l. (
      λ s. Breaks.no_selection refl (unlocked_is m l) (eqb-true _ _ s),
      λ s. (λ b. Breaks.bad_permission (unlocked_is m l) (eqb-false _ _ s) (sym (permissions_fitting m.hfi.selector (reg m.x rs1)) ∙ not-true _ b), λ b. tt),
    ),
  )
  word_first GetPermission = selected_first GetPermission refl refl
  word_first SetHandler = (λ o. Breaks.sets_handler (eqb-true _ _ o), λ o. tt)
  word_first GetHandler = (λ l. Breaks.when_locked refl (locked_is m l), λ l. tt)
  word_first ResetRegions = (λ l. Breaks.when_locked refl (locked_is m l), λ l. tt)

instruction_first : (m : Machine) (i : Instruction) → First (Breaks m i) (rules m i)
instruction_first m (Upper k rd imm) = tt
instruction_first m (Jal rd offset) = tt
instruction_first m (Jalr rd rs1 imm) = tt
instruction_first m (Branch k rs1 rs2 offset) = tt
instruction_first m (Load k rd rs1 imm) = tt
instruction_first m (Store k rs1 rs2 imm) = tt
instruction_first m (Immediate k rd rs1 imm) = tt
instruction_first m (Shift k rd rs1 amount) = tt
instruction_first m (Addiw rd rs1 imm) = tt
instruction_first m (ShiftWord k rd rs1 amount) = tt
instruction_first m (Register k rd rs1 rs2) = tt
instruction_first m (RegisterWord k rd rs1 rs2) = tt
instruction_first m (Fence fm pred succ rs1 rd) = tt
instruction_first m (System k) = tt
instruction_first m (HLoad k chosen rd rs1 imm) = (λ o. Breaks.h_load_outside (eqb-false _ _ (not-true _ o)), λ o. tt)
instruction_first m (HStore k chosen rs1 rs2 imm) = (λ o. Breaks.h_store_outside (eqb-false _ _ (not-true _ o)), λ o. tt)
instruction_first m (Hfi k rd rs1 rs2) = word_first m rd rs1 rs2 k

pub number_rule : (m : Machine) (i : Instruction) → (hfi_stop m i ≡ 0 → ⊥) → Breaks m i (hfi_stop m i)
unfolding hfi_stop
number_rule m i n = first (Breaks m i) (rules m i) (instruction_first m i) (ne_eqb _ 0 n)

-- a locked guest is told 23 or 25 and nothing else: 14 and 22 come outside HFI mode or unlocked, 24 outside it
pub locked_numbers : (m : Machine) (i : Instruction) (n : ℕ) → Locked m → Breaks m i n → (n ≡ 23) ⊎ (n ≡ 25)
locked_numbers m i n k (Breaks.enters_inside e o) = inl refl
locked_numbers m i n k (Breaks.exits_outside o) = absurd (o k.mode)
locked_numbers m i n k (Breaks.when_locked t l) = inr refl
locked_numbers m i n k (Breaks.sets_handler o) = inr refl
locked_numbers m i n k (Breaks.h_load_outside o) = absurd (o k.mode)
locked_numbers m i n k (Breaks.h_store_outside o) = absurd (o k.mode)
locked_numbers m i n k (Breaks.bad_options e o l) = absurd (o k.mode)
locked_numbers m i n k (Breaks.bad_number l b) = absurd (l k)
locked_numbers m i n k (Breaks.bad_permission l s p) = absurd (l k)
locked_numbers m i n k (Breaks.no_selection t l s) = absurd (l k)
locked_numbers m i n k (Breaks.begins e o l b w) = absurd (o k.mode)

-- ---- of a whole step

-- no other question has one of these numbers
other_numbers : (n : ℕ) → is_other n ≡ true → is_hfi_stop n ≡ true → ⊥
other_numbers n p = both_ways _ (not-true (is_hfi_stop n) (of_each (λ k. not (is_hfi_stop k)) other_stops n refl p))

clause_listed : (m : Machine) (i : Instruction) (n : ℕ) → Breaks m i n → is_hfi_stop n ≡ true
clause_listed m i n (Breaks.enters_inside e o) = refl
clause_listed m i n (Breaks.exits_outside o) = refl
clause_listed m i n (Breaks.when_locked t l) = refl
clause_listed m i n (Breaks.sets_handler o) = refl
clause_listed m i n (Breaks.h_load_outside o) = refl
clause_listed m i n (Breaks.h_store_outside o) = refl
clause_listed m i n (Breaks.bad_options e o l) = refl
clause_listed m i n (Breaks.bad_number l b) = refl
clause_listed m i n (Breaks.bad_permission l s p) = refl
clause_listed m i n (Breaks.no_selection t l s) = refl
clause_listed m i n (Breaks.begins e o l b w) = refl

-- "Nothing else about these stops changes": the stop alone is told, the address is 0, and machine and memory are as they were
abbrev pub stop_alone : ℕ → Machine → List ℕ → Outcome
stop_alone n m mem = record { result = record { stop = n; address = 0; machine = m }; memory = mem }

module _ (m : Machine) (mem : List ℕ) (next : ℕ) (i : Instruction) where
  pub instruction_stops : (n : ℕ) → Breaks m i n → execute_instruction m mem next i ≡ stop_alone n m mem
  unfolding execute_instruction allowed
  instruction_stops n b = rw (rule_number m i n b) (rw (stop_nonzero n (clause_listed m i n b)) refl)

  pub instruction_stopped : in_range i ≡ true → is_hfi_stop (execute_instruction m mem next i).result.stop ≡ true
      → Breaks m i (execute_instruction m mem next i).result.stop
  unfolding execute_instruction allowed
  instruction_stopped h q = go (eqb (hfi_stop m i) 0) refl q
    where
      go : (b : Bool) → eqb (hfi_stop m i) 0 ≡ b → is_hfi_stop (cond b (perform m mem next i) (stopped (hfi_stop m i) m mem)).result.stop ≡ true
          → Breaks m i (cond b (perform m mem next i) (stopped (hfi_stop m i) m mem)).result.stop
      go true e q = absurd (other_numbers (perform m mem next i).result.stop (perform_other m mem next i h e) q)
      go false e q = number_rule m i (eqb-false _ _ e)

-- the instruction that a step comes to, of a half-word or a long word: questions 4 to 7 are answered yes
pub record HalfWord (m : Machine) (mem : List ℕ) (size : ℕ) (i : Instruction) : Type 0 where
  pub two : size ≡ 2
  pub short : is_long (value mem m.pc 0 2) ≡ false
  pub legal : expand_half (value mem m.pc 0 2) ≡ Some i

pub record LongWord (m : Machine) (mem : List ℕ) (size : ℕ) (i : Instruction) : Type 0 where
  pub four : size ≡ 4
  pub long : is_long (value mem m.pc 0 2) ≡ true
  pub passed : verdict m.hfi.mode (length mem) (fetch_access m.hfi.regions (sum m.pc 2)) ≡ passed
  pub legal : decode_word (value mem m.pc 0 4) ≡ Some i

pub record Fetches (m : Machine) (mem : List ℕ) (i : Instruction) : Type 0 where
  pub multiple : m.pc % 2 ≡ 0
  pub passed : verdict m.hfi.mode (length mem) (fetch_access m.hfi.regions m.pc) ≡ passed
  pub size : ℕ
  pub word : HalfWord m mem size i ⊎ LongWord m mem size i

module _ (m : Machine) (mem : List ℕ) (i : Instruction) where
  fetched_word : (size : ℕ) → HalfWord m mem size i ⊎ LongWord m mem size i
      → execute_fetched m mem (value mem m.pc 0 2) ≡ execute_instruction m mem (sum m.pc size) i
  unfolding execute_fetched fetching settle execute_word
  fetched_word size (inl h) = rw (h.short, h.legal, h.two) refl
  fetched_word size (inr l) = rw (l.long, l.passed, l.legal, l.four) refl

  fetched_step : (f : Fetches m mem i) → step m mem ≡ execute_instruction m mem (sum m.pc f.size) i
  unfolding step fetching settle
  fetched_step f = rw (f.multiple, f.passed) (fetched_word f.size f.word)

  fetched_range : Fetches m mem i → in_range i ≡ true
  fetched_range f = go f.word
    where
      go : HalfWord m mem f.size i ⊎ LongWord m mem f.size i → in_range i ≡ true
      go (inl h) = expanded_range _ i h.legal
      go (inr l) = decoded_range _ i l.legal

  pub step_stops : (n : ℕ) → Fetches m mem i → Breaks m i n → step m mem ≡ stop_alone n m mem
  step_stops n f b = fetched_step f ∙ instruction_stops m mem _ i n b

  -- where no rule is broken the step does what the instruction does, and asks nothing more of HFI
  pub step_allowed : (f : Fetches m mem i) → ((n : ℕ) → Breaks m i n → ⊥) → step m mem ≡ perform m mem (sum m.pc f.size) i
  unfolding execute_instruction allowed
  step_allowed f n = fetched_step f ∙ go (eqb (hfi_stop m i) 0) refl
    where
      next : ℕ
      next = sum m.pc f.size

      go : (b : Bool) → eqb (hfi_stop m i) 0 ≡ b → cond (eqb (hfi_stop m i) 0) (perform m mem next i) (stopped (hfi_stop m i) m mem) ≡ perform m mem next i
      go true e = rw e refl
      go false e = absurd (n (hfi_stop m i) (number_rule m i (eqb-false _ _ e)))

-- a step with such a stop
pub record Forbids (m : Machine) (mem : List ℕ) (n : ℕ) : Type 0 where
  pub instruction : Instruction
  pub fetched : Fetches m mem instruction
  pub rule : Breaks m instruction n

-- a fetch that was stopped has no such number
fetching_passed : (m : Machine) (mem : List ℕ) (a : ℕ) (o : Outcome) → is_hfi_stop (fetching m mem a o).result.stop ≡ true
    → (verdict m.hfi.mode (length mem) (fetch_access m.hfi.regions a) ≡ passed) × (is_hfi_stop o.result.stop ≡ true)
unfolding fetching settle
fetching_passed m mem a o q = go (verdict m.hfi.mode (length mem) (fetch_access m.hfi.regions a)) refl q
  where
    go : (v : Verdict) → verdict m.hfi.mode (length mem) (fetch_access m.hfi.regions a) ≡ v → is_hfi_stop (settle m mem fetch_op 11 12 v o).result.stop ≡ true
        → (verdict m.hfi.mode (length mem) (fetch_access m.hfi.regions a) ≡ passed) × (is_hfi_stop o.result.stop ≡ true)
    go (Err (Refused at region)) r q = absurd (false≢true q)
    go (Err (Absent at)) r q = absurd (false≢true q)
    go (Ok tt) r q = (r, q)

-- nor has an illegal word
record Decodes (d : Option Instruction) : Type 0 where
  instruction : Instruction
  legal : d ≡ Some instruction

word_legal : (m : Machine) (mem : List ℕ) (size : ℕ) (d : Option Instruction) → is_hfi_stop (execute_word m mem size d).result.stop ≡ true → Decodes d
unfolding execute_word
word_legal m mem size (Some i) q = record { instruction = i; legal = refl }
word_legal m mem size None q = absurd (false≢true q)

pub step_stopped : (m : Machine) (mem : List ℕ) → is_hfi_stop (step m mem).result.stop ≡ true → Forbids m mem (step m mem).result.stop
unfolding step execute_fetched
step_stopped m mem q = go (eqb (m.pc % 2) 0) refl q
  where
    h : ℕ
    h = value mem m.pc 0 2

    w : ℕ
    w = value mem m.pc 0 4

    Forbidden : Type 0
    Forbidden = Forbids m mem (step m mem).result.stop

    comes : (i : Instruction) → Fetches m mem i → Forbidden
    comes i f =
        let e = ap (λ (o : Outcome). o.result.stop) (fetched_step m mem i f) in
        record { instruction = i; fetched = f; rule = rw e (instruction_stopped m mem _ i (fetched_range m mem i f) (rw e at q)) }

    fetched : m.pc % 2 ≡ 0 → verdict m.hfi.mode (length mem) (fetch_access m.hfi.regions m.pc) ≡ passed → (b : Bool) → is_long h ≡ b
        → is_hfi_stop (cond b (fetching m mem (sum m.pc 2) (execute_word m mem 4 (decode_word w))) (execute_word m mem 2 (expand_half h))).result.stop ≡ true → Forbidden
    fetched e p true l q =
        let g = fetching_passed m mem (sum m.pc 2) _ q in
        let d = word_legal m mem 4 (decode_word w) g.1 in
        comes d.instruction (record { multiple = e; passed = p; size = 4; word = inr (record { four = refl; long = l; passed = g.0; legal = d.legal }) })
    fetched e p false l q =
        let d = word_legal m mem 2 (expand_half h) q in
        comes d.instruction (record { multiple = e; passed = p; size = 2; word = inl (record { two = refl; short = l; legal = d.legal }) })

    go : (b : Bool) → eqb (m.pc % 2) 0 ≡ b → is_hfi_stop (cond b (fetching m mem m.pc (execute_fetched m mem h)) (stopped 10 m mem)).result.stop ≡ true → Forbidden
    go false e q = absurd (false≢true q)
    go true e q = let f = fetching_passed m mem m.pc _ q in fetched (eqb-true _ _ e) f.0 (is_long h) refl f.1

-- ---- of the calls

pub call_stops : (m : Machine) (mem : List ℕ) (n : ℕ) → Comes m mem → Forbids m mem n → step_call m mem ≡ stop_alone n m mem
call_stops m mem n c f = step_made m mem c ∙ step_stops m mem f.instruction n f.fetched f.rule

pub call_stopped : (m : Machine) (mem : List ℕ) → is_hfi_stop (step_call m mem).result.stop ≡ true → Comes m mem × Forbids m mem (step_call m mem).result.stop
unfolding step_call
call_stopped m mem q = go (ltb longest (length mem)) (well_formed m) (exposes_code m.hfi) refl refl refl q
  where
    go : (a c d : Bool) → ltb longest (length mem) ≡ a → well_formed m ≡ c → exposes_code m.hfi ≡ d
        → is_hfi_stop (cond a (stopped 1 m mem) (cond c (cond d (stopped 4 m mem) (step m mem)) (stopped 3 m mem))).result.stop ≡ true
        → Comes m mem × Forbids m mem (cond a (stopped 1 m mem) (cond c (cond d (stopped 4 m mem) (step m mem)) (stopped 3 m mem))).result.stop
    go true c d l w x q = absurd (false≢true q)
    go false false d l w x q = absurd (false≢true q)
    go false true true l w x q = absurd (false≢true q)
    go false true false l w x q = (record { short = ltb-false _ _ l; formed = w; safe = λ e. both_ways _ x (exposes m e) }, step_stopped m mem q)

-- what is left at such a stop is what the step call is stopped over
abbrev Left : Ended → Type 0
Left e = is_hfi_stop e.result.stop ≡ true → Forbids e.result.machine e.memory e.result.stop

refused_left : (m : Machine) (mem : List ℕ) (stop : ℕ) → 1 ≤ stop → stop ≤ 4 → Left (ended stop 0 0 m mem)
refused_left m mem stop l u q = let z = ltb-true 4 stop (of_each (ltb 4) hfi_stops stop refl q) in absurd (omega (arith, z, u))

step_left : (m : Machine) (mem : List ℕ) → is_hfi_stop (step m mem).result.stop ≡ true
    → Forbids (step m mem).result.machine (step m mem).memory (step m mem).result.stop
step_left m mem q =
    let f = step_stopped m mem q in
    let e = step_stops m mem f.instruction _ f.fetched f.rule in
    rw (ap (λ (o : Outcome). o.result.machine) e, ap (λ (o : Outcome). o.memory) e) f

-- a run that ends so: machine and memory are as they were when that instruction was come to, and pc is at its word
pub run_stopped : (m : Machine) (mem : List ℕ) (budget : ℕ) → is_hfi_stop (run_call m mem budget).result.stop ≡ true
    → Forbids (run_call m mem budget).result.machine (run_call m mem budget).memory (run_call m mem budget).result.stop
run_stopped m mem budget =
    call_ind Left m mem budget (refused_left m mem)
    (λ w x.
    run_ind (inside m.hfi) (λ n k l s e. Left e) (λ k l s q. absurd (false≢true q)) (λ n k l s z. step_left l s) (λ n k l s q. absurd (false≢true q))
    (λ n k l s e i h. h) budget 0 m mem)
