-- What a step can do, once for all instructions: memory is as it was, or is written at the bytes of one passed access of at
-- most 8; and what happens to the machine. The only proof that goes through what the instructions do; all others cite it. Question 8's table has its own,
-- Forbidden.antt.
-- Assumes nothing.
use Rattle.std.specs.Prelude.{Ok, Err}
use mathlib.Core.Path.{◌≡◌, refl}
use mathlib.Core.Bool.{Bool, true, false, cond, not, ◌&&◌, ◌||◌}
use mathlib.Core.List.{List, [], ◌∷◌}
use mathlib.Core.Logic.{◌⊎◌, inl, inr}
use Prim.Native.Nat.{ℕ, ◌%◌, ◌≤◌}
use native.Mathlib.Omega.{arith}
use lib.Dec.{eqb, leb, ltb}
use lib.ListN.{length}
use borrow.Author.Tests.{not-true, not-false, le-leb}
use Rattle.std.proofs.Common.{Option, Some, None}
use Rattle.std.proofs.lemmas.Bool.{both_ways, or_right, and_parts}
use Rattle.instructions.specs.Kinds.{hfi_code}
use Rattle.instructions.specs.Decode.{decode_word}
use Rattle.instructions.specs.Encode.{in_range}
use Rattle.instructions.specs.declared.kind.UpperKind.TheVariants.{Lui, Auipc}
use Rattle.instructions.specs.declared.kind.LoadKind.{LoadKind}
use Rattle.instructions.specs.declared.kind.SystemKind.TheVariants.{Ecall, Ebreak}
use Rattle.instructions.specs.declared.kind.HfiKind.{HfiKind}
use Rattle.instructions.specs.declared.kind.HfiKind.TheVariants.{Enter, EnterJump, Exit, SelectRegion, SetBase, GetBase, SetBound, GetBound, SetPermission, GetPermission, SetHandler, GetHandler, ResetRegions}
use Rattle.instructions.specs.declared.instruction.Instruction.{Instruction}
use Rattle.instructions.specs.declared.instruction.Instruction.TheVariants.{Upper, Jal, Jalr, Branch, Load, Store, Immediate, Shift, Addiw, ShiftWord, Register, RegisterWord, Fence, System, HLoad, HStore, Hfi}
use Rattle.instructions.proofs.RoundTrip.{decoded_range}
use Rattle.compressed.specs.Expand.{expand_half, is_long}
use Rattle.compressed.proofs.InRange.{expanded_range}
use Rattle.model.specs.Machine.{sum, reg, set_reg, load_op, store_op, fetch_op, largest_options, inside, locked, redirects_calls, region, zero_regions, entered, exited, machine, last_region}
use Rattle.instructions.specs.HWords.{explicit_regions, among}
use Rattle.instructions.proofs.HWords.{explicit_bounds}
use Rattle.instructions.proofs.Tests.{h_load_range, h_store_range}
use Rattle.model.specs.Regions.{data_regions, code_regions, permission_fits, matches, first_match}
use Rattle.model.specs.WellFormed.{well_formed}
use Rattle.model.specs.WritableCode.{exposes_code}
use Rattle.model.specs.Bytes.{value, written}
use Rattle.model.specs.Access.{Access, verdict, load_access, store_access, hload_access, hstore_access}
use Rattle.model.specs.Reach.{Passes, Readable, Writable}
use Rattle.model.specs.Outcome.{Outcome, outcome, stopped, allowed, aligned, faulted, settle}
use Rattle.model.specs.Hfi.{word_rules, hfi_stop, changed, hfi_perform}
use Rattle.model.specs.Step.{load, store, perform, execute_instruction, execute_word, fetching, execute_fetched, step}
use Rattle.model.specs.declared.Region.{Region}
use Rattle.model.specs.declared.HfiState.{HfiState}
use Rattle.model.specs.declared.Machine.{Machine}
use Rattle.model.specs.Access.{Verdict, passed}
use Rattle.model.specs.declared.stop.Denied.TheVariants.{Refused, Absent}
use Rattle.model.proofs.Forbidden.{every, of_each, is_hfi_stop, breaks_none, allowed_breaks_none, forbidden_listed}
use Rattle.model.proofs.Formed.{Good, good, formed, zero_kept, changed_fits, selected_fits, entered_fits, exited_fits, handler_fits, regions_fit, fault_fits_lem}
use Rattle.model.proofs.Reach.{load_width_lem, store_width_lem, encodes}

-- ---- the machine after a step

-- what a locked machine cannot change, its leaving step included
pub record Settings : Type 0 where
  pub regions : List Region
  pub options : ℕ
  pub handler : ℕ
  pub selector : ℕ

abbrev pub settings : Machine → Settings
settings m =
    record { regions = m.hfi.regions; options = m.hfi.options; handler = m.hfi.handler; selector = m.hfi.selector }

-- the mode of k after a step from m
pub data Mode (m k : Machine) : Type 0 where
  stays : k.hfi.mode ≡ m.hfi.mode → Mode m k
  enters : inside m.hfi ≡ false → k.hfi.mode ≡ 1 → Mode m k
  leaves : inside m.hfi ≡ true → k.hfi.mode ≡ 0 → Mode m k

pub record Kept (m k : Machine) : Type 0 where
  pub well : well_formed m ≡ true → well_formed k ≡ true
  pub mode : Mode m k
  pub options : inside m.hfi ≡ true → k.hfi.options ≡ m.hfi.options
  pub lock : locked m.hfi ≡ true → settings k ≡ settings m
  pub code : exposes_code m.hfi ≡ false → exposes_code k.hfi ≡ false

-- ---- the answer of a step

-- the numbers of a step's questions other than 8, and 0: 1 to 4 are the calls' own, and 20 and 21 the run's
abbrev pub other_stops : List ℕ
other_stops = 0 ∷ 10 ∷ 11 ∷ 12 ∷ 13 ∷ 15 ∷ 16 ∷ 17 ∷ 18 ∷ 19 ∷ []

abbrev pub is_other : ℕ → Bool
is_other stop = among stop other_stops

-- a step's numbers
abbrev pub is_stop : ℕ → Bool
is_stop stop = is_other stop || is_hfi_stop stop

-- "12 and 17 also give the first absent address .. all others give 0 there"
abbrev pub is_address : ℕ → ℕ → Bool
is_address stop at = eqb stop 12 || (eqb stop 17 || eqb at 0)

-- a stop of the kind S, with its address
abbrev pub proper : (ℕ → Bool) → ℕ → ℕ → Bool
proper S stop at = S stop && is_address stop at

-- the numbers of questions 9 to 13 that may stop an instruction: the target of an enter with jump, the bytes of an access, ECALL, EBREAK; and no others
abbrev pub later_stops : Instruction → List ℕ
later_stops (Upper k rd imm) = []
later_stops (Jal rd offset) = []
later_stops (Jalr rd rs1 imm) = []
later_stops (Branch k rs1 rs2 offset) = []
later_stops (Load k rd rs1 imm) = 16 ∷ 17 ∷ []
later_stops (Store k rs1 rs2 imm) = 16 ∷ 17 ∷ []
later_stops (Immediate k rd rs1 imm) = []
later_stops (Shift k rd rs1 amount) = []
later_stops (Addiw rd rs1 imm) = []
later_stops (ShiftWord k rd rs1 amount) = []
later_stops (Register k rd rs1 rs2) = []
later_stops (RegisterWord k rd rs1 rs2) = []
later_stops (Fence fm pred succ rs1 rd) = []
later_stops (System Ecall) = 18 ∷ []
later_stops (System Ebreak) = 19 ∷ []
later_stops (HLoad k chosen rd rs1 imm) = 16 ∷ 17 ∷ []
later_stops (HStore k chosen rs1 rs2 imm) = 16 ∷ 17 ∷ []
-- of the words of opcode 5b the enter with jump alone
later_stops (Hfi k rd rs1 rs2) = cond (eqb (hfi_code k) 1) (15 ∷ []) []

-- 0 or one of these
abbrev pub one_of : List ℕ → ℕ → Bool
one_of ns stop = among stop (0 ∷ ns)

-- ---- what an instruction does, whatever memory it is done over

-- an access of at most 8 bytes, each of which, where it passes its region, is one of the bytes R
pub record Reaches (a : Access) (R : ℕ → Type 0) : Type 0 where
  pub few : a.count ≤ 8
  pub reach : (b : ℕ) → Passes a b → R b
  pub numbered : (i : ℕ) → leb (a.fault_region i) last_region ≡ true

abbrev pub Reads : Machine → Access → Type 0
Reads m a = Reaches a (Readable m.hfi.regions)

abbrev pub Writes : Machine → Access → Type 0
Writes m a = Reaches a (Writable m.hfi.regions)

-- the stops of an access are among ns
abbrev Accesses : List ℕ → Type 0
Accesses ns = (among 16 ns ≡ true) × (among 17 ns ≡ true)

-- with a stop among ns, or none
pub data Move (ns : List ℕ) (m : Machine) : Type 0 where
  quiet : (stop at : ℕ) (k : Machine) → proper (one_of ns) stop at ≡ true → Kept m k → Move ns m
  loads : (next : ℕ) (a : Access) (k : LoadKind) (rd : ℕ) → Accesses ns → Reads m a → Move ns m
  stores : (next : ℕ) (a : Access) (v : ℕ) → Accesses ns → Writes m a → Move ns m

abbrev pub enact : {ns : List ℕ} (m : Machine) → List ℕ → Move ns m → Outcome
enact m mem (Move.quiet stop at k p c) = outcome stop at k mem
enact m mem (Move.loads next a k rd i r) = load m mem next a k rd
enact m mem (Move.stores next a v i w) = store m mem next a v

-- one move for every memory
pub record Moves (ns : List ℕ) (m : Machine) (f : List ℕ → Outcome) : Type 0 where
  pub move : Move ns m
  pub same : (mem : List ℕ) → f mem ≡ enact m mem move

-- a lock is asked only in HFI mode
asked : (b c : Bool) → cond b c false ≡ true → b ≡ true
asked true c e = refl
asked false c e = e

pub locked_inside : (h : HfiState) → locked h ≡ true → inside h ≡ true
locked_inside h = asked (inside h) _

-- so is the redirection of calls
calls_inside : (h : HfiState) → redirects_calls h ≡ true → inside h ≡ true
calls_inside h = asked (inside h) _

-- what is not locked is not refused for writable code
unlocked_safe : (h : HfiState) → locked h ≡ false → exposes_code h ≡ false
unfolding exposes_code
unlocked_safe h n = rw n refl

-- the fault region of a byte that the implicit regions refuse is none or one of them
abbrev region_numbers : List ℕ → Bool
region_numbers = every (λ n. leb n last_region)

match_numbered : (rs : List Region) (ns : List ℕ) (a : ℕ) → region_numbers ns ≡ true → leb (first_match rs ns a) last_region ≡ true
unfolding first_match
match_numbered rs [] a h = refl
match_numbered rs (n ∷ ns) a h =
    let p = and_parts (leb n last_region) (region_numbers ns) h in
    go (matches (region rs n) a) p.0 (match_numbered rs ns a p.1)
  where
    go : (b : Bool) → leb n last_region ≡ true → leb (first_match rs ns a) last_region ≡ true → leb (cond b n (first_match rs ns a)) last_region ≡ true
    go true p q = p
    go false p q = q

-- that of an h-word is the region chosen
explicit_numbered : (n : ℕ) → among n explicit_regions ≡ true → leb n last_region ≡ true
explicit_numbered n h = le-leb n last_region (omega (arith, (explicit_bounds n h).1))

module _ (m : Machine) where
  -- registers and pc alone may change
  still : (x : List ℕ) (pc : ℕ) → (reg m.x 0 ≡ 0 → reg x 0 ≡ 0) → Kept m (machine x pc m.hfi)
  still x pc z =
      record {
        well = λ w. formed _ (record { zero = z (good m w).zero; state = (good m w).state });
        mode = Mode.stays refl;
        options = λ e. refl;
        lock = λ e. refl;
        code = λ e. e;
      }

  same_kept : Kept m m
  same_kept = still m.x m.pc (λ z. z)

  faulted_kept : (op at region : ℕ) → leb op fetch_op ≡ true → leb region last_region ≡ true → Kept m (faulted m op at region)
  unfolding exposes_code
  faulted_kept op at region l r =
      record {
        well = λ w. formed _ (record { zero = (good m w).zero; state = fault_fits_lem m.hfi (good m w).state op at region l r });
        mode = Mode.stays refl;
        options = λ e. refl;
        lock = λ e. refl;
        code = λ e. e;
      }

  -- ---- the moves that there are

  stop : {ns : List ℕ} (n : ℕ) → proper (one_of ns) n 0 ≡ true → Moves ns m (λ mem. outcome n 0 m mem)
  stop n p = record { move = Move.quiet n 0 m p same_kept; same = λ mem. refl }

  onward : {ns : List ℕ} (x : List ℕ) (pc : ℕ) → (reg m.x 0 ≡ 0 → reg x 0 ≡ 0) → Moves ns m (λ mem. outcome 0 0 (machine x pc m.hfi) mem)
  onward x pc z = record { move = Move.quiet 0 0 _ refl (still x pc z); same = λ mem. refl }

  assigns : {ns : List ℕ} (pc rd v : ℕ) → Moves ns m (λ mem. outcome 0 0 (machine (set_reg m.x rd v) pc m.hfi) mem)
  assigns pc rd v = onward _ pc (zero_kept m.x rd v)

  by_test : {ns : List ℕ} (b : Bool) {f g : List ℕ → Outcome} → (b ≡ true → Moves ns m f) → (b ≡ false → Moves ns m g) → Moves ns m (λ mem. cond b (f mem) (g mem))
  by_test true p q = let t = p refl in record { move = t.move; same = t.same }
  by_test false p q = let t = q refl in record { move = t.move; same = t.same }

  aligns : {ns : List ℕ} (target : ℕ) {f : List ℕ → Outcome} → proper (one_of ns) 15 0 ≡ true → Moves ns m f → Moves ns m (λ mem. aligned m mem target (f mem))
  unfolding aligned
  aligns target h p = by_test (eqb (target % 2) 0) (λ e. p) (λ e. stop 15 h)

-- ---- the words of opcode 5b

-- where no rule of a list is broken the first is not, nor any of the rest
unbroken_first : (b c : Bool) → (not b && c) ≡ true → (b ≡ false) × (c ≡ true)
unbroken_first b c e = let p = and_parts (not b) c e in (not-true b p.0, p.1)

module _ (m : Machine) where
  -- a word that changes the state outside a lock: mode and options are as they were
  unlocked : {ns : List ℕ} (pc : ℕ) (h : HfiState) → locked m.hfi ≡ false → h.mode ≡ m.hfi.mode → h.options ≡ m.hfi.options
      → (Good m → Good (machine m.x pc h)) → Moves ns m (λ mem. outcome 0 0 (machine m.x pc h) mem)
  unlocked pc h n e o g =
      record {
        move = Move.quiet 0 0 (machine m.x pc h) refl (record {
          well = λ w. formed _ (g (good m w));
          mode = Mode.stays e;
          options = λ i. o;
          lock = λ l. absurd (both_ways _ n l);
          code = λ c. unlocked_safe h (rw (e, o) n);
        });
        same = λ mem. refl;
      }

  -- outside HFI mode nothing is locked
  outside : inside m.hfi ≡ false → locked m.hfi ≡ false
  outside n = go (locked m.hfi) refl
    where
      go : (b : Bool) → locked m.hfi ≡ b → locked m.hfi ≡ false
      go true e = absurd (both_ways _ n (locked_inside m.hfi e))
      go false e = e

  -- a word that changes the selected region
  changes : {ns : List ℕ} (pc : ℕ) (r : Region) → locked m.hfi ≡ false → eqb m.hfi.selector 0 ≡ false
      → (Good m → permission_fits m.hfi.selector r.permission ≡ true) → Moves ns m (λ mem. outcome 0 0 (machine m.x pc (changed m.hfi r)) mem)
  changes pc r n e p = unlocked pc _ n refl refl (λ g. record { zero = g.zero; state = changed_fits m.hfi g.state r e (p g) })

  entering : {ns : List ℕ} (pc a : ℕ) → inside m.hfi ≡ false → ltb largest_options a ≡ false → exposes_code (entered m.hfi a) ≡ false
      → Moves ns m (λ mem. outcome 0 0 (machine m.x pc (entered m.hfi a)) mem)
  entering pc a n e x =
      record {
        move = Move.quiet 0 0 _ refl (record {
          well = λ w. formed _ (record { zero = (good m w).zero; state = entered_fits m.hfi (good m w).state a e });
          mode = Mode.enters n refl;
          options = λ i. absurd (both_ways _ n i);
          lock = λ l. absurd (both_ways _ n (locked_inside m.hfi l));
          code = λ c. x;
        });
        same = λ mem. refl;
      }

  leaving : {ns : List ℕ} (pc reason : ℕ) → inside m.hfi ≡ true → leb reason 2 ≡ true → Moves ns m (λ mem. outcome 0 0 (machine m.x pc (exited m.hfi reason m.pc)) mem)
  leaving pc reason i r =
      record {
        move = Move.quiet 0 0 _ refl (record {
          well = λ w. formed _ (record { zero = (good m w).zero; state = exited_fits m.hfi (good m w).state reason m.pc r });
          mode = Mode.leaves i refl;
          options = λ e. refl;
          lock = λ l. refl;
          code = λ c. unlocked_safe _ refl;
        });
        same = λ mem. refl;
      }

  -- the rules of an enter, and of a word that sets a part of the selected region
  enter_moves : {ns : List ℕ} (pc a : ℕ) → breaks_none (word_rules m.hfi Enter a) ≡ true → Moves ns m (λ mem. outcome 0 0 (machine m.x pc (entered m.hfi a)) mem)
  enter_moves pc a e =
      let p = unbroken_first (inside m.hfi) _ e in
      let q = unbroken_first (ltb largest_options a) _ p.1 in
      entering pc a p.0 q.0 (unbroken_first (exposes_code (entered m.hfi a)) true q.1).0

  set_moves : {ns : List ℕ} (pc : ℕ) (r : Region) → breaks_none (word_rules m.hfi SetBase 0) ≡ true
      → (Good m → eqb m.hfi.selector 0 ≡ false → permission_fits m.hfi.selector r.permission ≡ true)
      → Moves ns m (λ mem. outcome 0 0 (machine m.x pc (changed m.hfi r)) mem)
  set_moves pc r e f =
      let p = unbroken_first (locked m.hfi) _ e in
      let s = (unbroken_first (eqb m.hfi.selector 0) true p.1).0 in
      changes pc r p.0 s (λ g. f g s)

  -- the words that HFI allows
  hfi_moves : (next : ℕ) (k : HfiKind) (rd rs1 rs2 : ℕ) → breaks_none (word_rules m.hfi k (reg m.x rs1)) ≡ true
      → Moves (later_stops (Hfi k rd rs1 rs2)) m (λ mem. hfi_perform m mem next k rd rs1 rs2)
  unfolding hfi_perform
  hfi_moves next Enter rd rs1 rs2 e = enter_moves next (reg m.x rs1) e
  hfi_moves next EnterJump rd rs1 rs2 e = aligns m (reg m.x rs2) refl (enter_moves (reg m.x rs2) (reg m.x rs1) e)
  hfi_moves next Exit rd rs1 rs2 e = leaving _ 1 (not-false _ (unbroken_first _ true e).0) refl
  hfi_moves next SelectRegion rd rs1 rs2 e =
      let a = reg m.x rs1 in
      let p = unbroken_first _ _ e in
      unlocked next _ p.0 refl refl
      (λ g. record { zero = g.zero; state = regions_fit m.hfi g.state a m.hfi.regions (and_parts (leb 1 a) (leb a last_region) (not-false _ (unbroken_first _ true p.1).0)).1 g.state.permissions })
  hfi_moves next SetBase rd rs1 rs2 e = set_moves next _ e (λ g s. selected_fits m.hfi g.state s)
  hfi_moves next GetBase rd rs1 rs2 e = assigns m next rd _
  hfi_moves next SetBound rd rs1 rs2 e = set_moves next _ e (λ g s. selected_fits m.hfi g.state s)
  hfi_moves next GetBound rd rs1 rs2 e = assigns m next rd _
  hfi_moves next SetPermission rd rs1 rs2 e =
      let p = unbroken_first (locked m.hfi) _ e in
      let q = unbroken_first (eqb m.hfi.selector 0) _ p.1 in
      changes next _ p.0 q.0 (λ g. not-false _ (unbroken_first _ true q.1).0)
  hfi_moves next GetPermission rd rs1 rs2 e = assigns m next rd _
  hfi_moves next SetHandler rd rs1 rs2 e =
      unlocked next _ (outside (unbroken_first _ true e).0) refl refl (λ g. record { zero = g.zero; state = handler_fits m.hfi g.state (reg m.x rs1) })
  hfi_moves next GetHandler rd rs1 rs2 e = assigns m next rd _
  hfi_moves next ResetRegions rd rs1 rs2 e =
      unlocked next _ (unbroken_first _ true e).0 refl refl (λ g. record { zero = g.zero; state = regions_fit m.hfi g.state 0 zero_regions refl refl })

  -- ---- the instructions

  loading : (next : ℕ) (a : Access) (k : LoadKind) (rd : ℕ) → Reads m a → Moves (16 ∷ 17 ∷ []) m (λ mem. load m mem next a k rd)
  loading next a k rd r = record { move = Move.loads next a k rd (refl, refl) r; same = λ mem. refl }

  storing : (next : ℕ) (a : Access) (v : ℕ) → Writes m a → Moves (16 ∷ 17 ∷ []) m (λ mem. store m mem next a v)
  storing next a v w = record { move = Move.stores next a v (refl, refl) w; same = λ mem. refl }

  pub perform_moves : (next : ℕ) (i : Instruction) → in_range i ≡ true → eqb (hfi_stop m i) 0 ≡ true → Moves (later_stops i) m (λ mem. perform m mem next i)
  unfolding perform
  perform_moves next (Upper Lui rd imm) h e = assigns m next rd _
  perform_moves next (Upper Auipc rd imm) h e = assigns m next rd _
  perform_moves next (Jal rd offset) h e = assigns m _ rd next
  perform_moves next (Jalr rd rs1 imm) h e = assigns m _ rd next
  perform_moves next (Branch k rs1 rs2 offset) h e = onward m m.x _ (λ z. z)
  perform_moves next (Load k rd rs1 imm) h e =
      loading next (load_access m.hfi.regions m.x k rs1 imm) k rd
      (record { few = load_width_lem k; reach = λ b p. Readable.by_load _ m.x k rd rs1 imm (encodes _ h) p; numbered = λ i. match_numbered _ data_regions _ refl })
  perform_moves next (Store k rs1 rs2 imm) h e =
      storing next (store_access m.hfi.regions m.x k rs1 imm) _
      (record { few = store_width_lem k; reach = λ b p. Writable.by_store _ m.x k rs1 rs2 imm (encodes _ h) p; numbered = λ i. match_numbered _ data_regions _ refl })
  perform_moves next (Immediate k rd rs1 imm) h e = assigns m next rd _
  perform_moves next (Shift k rd rs1 amount) h e = assigns m next rd _
  perform_moves next (Addiw rd rs1 imm) h e = assigns m next rd _
  perform_moves next (ShiftWord k rd rs1 amount) h e = assigns m next rd _
  perform_moves next (Register k rd rs1 rs2) h e = assigns m next rd _
  perform_moves next (RegisterWord k rd rs1 rs2) h e = assigns m next rd _
  perform_moves next (Fence fm pred succ rs1 rd) h e = onward m m.x next (λ z. z)
  perform_moves next (System Ecall) h e =
      by_test m (redirects_calls m.hfi) (λ t. leaving _ 2 (calls_inside m.hfi t) refl) (λ t. stop m 18 refl)
  perform_moves next (System Ebreak) h e = stop m 19 refl
  perform_moves next (HLoad k chosen rd rs1 imm) h e =
      loading next (hload_access m.hfi.regions m.x k chosen rs1 imm) k rd
      (record {
        few = load_width_lem k;
        reach = λ b p. Readable.by_h_load _ m.x k chosen rd rs1 imm (encodes _ h) p;
        numbered = λ i. explicit_numbered chosen (h_load_range k chosen rd rs1 imm h).0;
      })
  perform_moves next (HStore k chosen rs1 rs2 imm) h e =
      storing next (hstore_access m.hfi.regions m.x k chosen rs1 imm) _
      (record {
        few = store_width_lem k;
        reach = λ b p. Writable.by_h_store _ m.x k chosen rs1 rs2 imm (encodes _ h) p;
        numbered = λ i. explicit_numbered chosen (h_store_range k chosen rs1 rs2 imm h).0;
      })
  perform_moves next (Hfi k rd rs1 rs2) h e = hfi_moves next k rd rs1 rs2 (allowed_breaks_none m (Hfi k rd rs1 rs2) e)

-- what an instruction comes to, whatever memory it is done over: any stop of question 8, which leaves all as it was, or a move
pub data Executed (m : Machine) (f : List ℕ → Outcome) : Type 0 where
  forbidden : (stop : ℕ) → is_hfi_stop stop ≡ true → ((mem : List ℕ) → f mem ≡ stopped stop m mem) → Executed m f
  moves : (ns : List ℕ) → every is_other ns ≡ true → Moves ns m f → Executed m f

later_other : (i : Instruction) → every is_other (later_stops i) ≡ true
later_other (Upper k rd imm) = refl
later_other (Jal rd offset) = refl
later_other (Jalr rd rs1 imm) = refl
later_other (Branch k rs1 rs2 offset) = refl
later_other (Load k rd rs1 imm) = refl
later_other (Store k rs1 rs2 imm) = refl
later_other (Immediate k rd rs1 imm) = refl
later_other (Shift k rd rs1 amount) = refl
later_other (Addiw rd rs1 imm) = refl
later_other (ShiftWord k rd rs1 amount) = refl
later_other (Register k rd rs1 rs2) = refl
later_other (RegisterWord k rd rs1 rs2) = refl
later_other (Fence fm pred succ rs1 rd) = refl
later_other (System Ecall) = refl
later_other (System Ebreak) = refl
later_other (HLoad k chosen rd rs1 imm) = refl
later_other (HStore k chosen rs1 rs2 imm) = refl
later_other (Hfi k rd rs1 rs2) = go (eqb (hfi_code k) 1)
  where
    go : (b : Bool) → every is_other (cond b (15 ∷ []) []) ≡ true
    go true = refl
    go false = refl

-- what is decoded has every field in its range; so it is of a long word, and of a half-word's expansion
abbrev pub Ranged : Option Instruction → Type 0
Ranged d = (i : Instruction) → d ≡ Some i → in_range i ≡ true

module _ (m : Machine) where
  pub instruction_executed : (next : ℕ) (i : Instruction) → in_range i ≡ true → Executed m (λ mem. execute_instruction m mem next i)
  unfolding execute_instruction allowed
  instruction_executed next i h = go (eqb (hfi_stop m i) 0) refl
    where
      go : (b : Bool) → eqb (hfi_stop m i) 0 ≡ b → Executed m (λ mem. cond b (perform m mem next i) (stopped (hfi_stop m i) m mem))
      go true e = Executed.moves (later_stops i) (later_other i) (let p = perform_moves m next i h e in record { move = p.move; same = p.same })
      go false e = Executed.forbidden (hfi_stop m i) (forbidden_listed m i e) (λ mem. refl)

  pub word_executed : (size : ℕ) (d : Option Instruction) → Ranged d → Executed m (λ mem. execute_word m mem size d)
  unfolding execute_word
  word_executed size (Some i) r = instruction_executed _ i (r i refl)
  word_executed size None r = Executed.moves (13 ∷ []) refl (stop m 13 refl)

-- ---- the law

-- memory after a store: written at the bytes of one passed access
pub record Stored (m : Machine) (before after : List ℕ) : Type 0 where
  pub access : Access
  pub stored : ℕ
  pub may : Writes m access
  pub passed : verdict m.hfi.mode (length before) access ≡ passed
  pub bytes : after ≡ written before access.first 0 access.count stored

-- what a step from m over a memory can do, with a stop of the kind S
pub record Does (S : ℕ → Bool) (m : Machine) (mem : List ℕ) (o : Outcome) : Type 0 where
  pub kept : Kept m o.result.machine
  pub stop : proper S o.result.stop o.result.address ≡ true
  pub memory : (o.memory ≡ mem) ⊎ Stored m mem o.memory

-- the fault region of a verdict
abbrev Faults : Verdict → Type 0
Faults (Err (Refused at region)) = leb region last_region ≡ true
Faults (Err (Absent at)) = Unit {0}
Faults (Ok tt) = Unit {0}

faults : (mode length : ℕ) (a : Access) → ((i : ℕ) → leb (a.fault_region i) last_region ≡ true) → Faults (verdict mode length a)
unfolding verdict
faults mode length a h = go (ltb _ a.count) (ltb _ a.count) _ _ (a.fault_region _) (h _)
  where
    go : (b c : Bool) (x y r : ℕ) → leb r last_region ≡ true → Faults (cond b (Err (Refused x r)) (cond c (Err (Absent y)) passed))
    go true c x y r e = e
    go false true x y r e = tt
    go false false x y r e = tt

module _ (m : Machine) (mem : List ℕ) where
  settles : {S : ℕ → Bool} (op refused absent : ℕ) (v : Verdict) (o : Outcome) → leb op fetch_op ≡ true → proper S refused 0 ≡ true → ((at : ℕ) → proper S absent at ≡ true)
      → Faults v → (v ≡ passed → Does S m mem o) → Does S m mem (settle m mem op refused absent v o)
  unfolding settle
  settles op refused absent (Err (Refused at region)) o l p q f d = record { kept = faulted_kept m op at region l f; stop = p; memory = inl refl }
  settles op refused absent (Err (Absent at)) o l p q f d = record { kept = same_kept m; stop = q at; memory = inl refl }
  settles op refused absent (Ok tt) o l p q f d = d refl

  enacted : {ns : List ℕ} (v : Move ns m) → Does (one_of ns) m mem (enact m mem v)
  unfolding load store
  enacted (Move.quiet stop at k p c) = record { kept = c; stop = p; memory = inl refl }
  enacted (Move.loads next a k rd i r) =
      settles load_op 16 17 _ _ refl (rw i.0 refl) (λ at. rw i.1 refl) (faults m.hfi.mode (length mem) a r.numbered)
      (λ e. record { kept = still m _ next (zero_kept m.x rd _); stop = refl; memory = inl refl })
  enacted (Move.stores next a v i w) =
      settles store_op 16 17 _ _ refl (rw i.0 refl) (λ at. rw i.1 refl) (faults m.hfi.mode (length mem) a w.numbered)
      (λ e. record { kept = still m m.x next (λ z. z); stop = refl; memory = inr (record { access = a; stored = v; may = w; passed = e; bytes = refl }) })

  does : {ns : List ℕ} {f : List ℕ → Outcome} → Moves ns m f → Does (one_of ns) m mem (f mem)
  does p = rw (p.same mem) (enacted p.move)

  -- an instruction that HFI allows is stopped by its own later questions alone
  pub perform_stop : (next : ℕ) (i : Instruction) → in_range i ≡ true → eqb (hfi_stop m i) 0 ≡ true → one_of (later_stops i) (perform m mem next i).result.stop ≡ true
  perform_stop next i h e = (and_parts (one_of (later_stops i) (perform m mem next i).result.stop) _ (does (perform_moves m next i h e)).stop).0

  -- so by none of question 8's
  pub perform_other : (next : ℕ) (i : Instruction) → in_range i ≡ true → eqb (hfi_stop m i) 0 ≡ true → is_other (perform m mem next i).result.stop ≡ true
  perform_other next i h e = of_each is_other (0 ∷ later_stops i) (perform m mem next i).result.stop (later_other i) (perform_stop next i h e)

  any_stop : (ns : List ℕ) {o : Outcome} → every is_other ns ≡ true → Does (one_of ns) m mem o → Does is_stop m mem o
  any_stop ns {o} h d =
      let p = and_parts (one_of ns o.result.stop) _ d.stop in
      record { kept = d.kept; stop = rw (of_each is_other (0 ∷ ns) o.result.stop h p.0) p.1; memory = d.memory }

  executed_does : {f : List ℕ → Outcome} → Executed m f → Does is_stop m mem (f mem)
  executed_does (Executed.forbidden n h same) = rw (same mem) (record { kept = same_kept m; stop = rw (or_right (is_other n) (is_hfi_stop n) h) (zero_address n); memory = inl refl })
    where
      zero_address : (n : ℕ) → is_address n 0 ≡ true
      zero_address n = or_right (eqb n 12) _ (or_right (eqb n 17) true refl)
  executed_does (Executed.moves ns h p) = any_stop ns h (does p)

  fetching_does : (a : ℕ) (o : Outcome) → Does is_stop m mem o → Does is_stop m mem (fetching m mem a o)
  unfolding fetching
  fetching_does a o d =
      settles fetch_op 11 12 _ _ refl refl (λ at. refl) (faults m.hfi.mode (length mem) _ (λ i. match_numbered _ code_regions _ refl)) (λ e. d)

  word_does : (size : ℕ) (d : Option Instruction) → Ranged d → Does is_stop m mem (execute_word m mem size d)
  word_does size d r = executed_does (word_executed m size d r)

  fetched_does : (h : ℕ) → Does is_stop m mem (execute_fetched m mem h)
  unfolding execute_fetched
  fetched_does h = go (is_long h)
    where
      w : ℕ
      w = value mem m.pc 0 4

      go : (b : Bool) → Does is_stop m mem (cond b (fetching m mem (sum m.pc 2) (execute_word m mem 4 (decode_word w))) (execute_word m mem 2 (expand_half h)))
      go true = fetching_does _ _ (word_does 4 (decode_word w) (decoded_range w))
      go false = word_does 2 (expand_half h) (expanded_range h)

  pub step_does : Does is_stop m mem (step m mem)
  unfolding step
  step_does = go (eqb (m.pc % 2) 0)
    where
      go : (b : Bool) → Does is_stop m mem (cond b (fetching m mem m.pc (execute_fetched m mem (value mem m.pc 0 2))) (outcome 10 0 m mem))
      go true = fetching_does _ _ (fetched_does (value mem m.pc 0 2))
      go false = any_stop (10 ∷ []) refl (does {ns = 10 ∷ []} (stop m 10 refl))
