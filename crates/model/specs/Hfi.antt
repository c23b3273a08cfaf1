-- HFI: what question 8 forbids, of every instruction; and what each word of opcode 5b does. Document 01, question 8 and the list after the
-- table; document 02, Jobs 5 to 7.
-- Region, HfiState and Machine are declared in src/lib.rt, HfiKind and Instruction in instructions/src, Outcome in Outcome.antt. Assumes
-- nothing.
use Rattle.std.specs.Prelude.{Bool, cond, not, ◌&&◌, List, [], ◌∷◌, ℕ, eqb, leb, ltb}
use Rattle.instructions.specs.declared.kind.HfiKind.{HfiKind}
use Rattle.instructions.specs.declared.kind.HfiKind.TheVariants.{Enter, EnterJump, Exit, SelectRegion, SetBase, GetBase, SetBound, GetBound, SetPermission, GetPermission, SetHandler, GetHandler, ResetRegions}
use Rattle.instructions.specs.declared.instruction.Instruction.{Instruction}
use Rattle.instructions.specs.declared.instruction.Instruction.TheVariants.{Upper, Jal, Jalr, Branch, Load, Store, Immediate, Shift, Addiw, ShiftWord, Register, RegisterWord, Fence, System, HLoad, HStore, Hfi}
use Rattle.model.specs.Machine.{reg, largest_options, inside, locked, redirects_exits, region, set_region, with_base, with_bound, with_permission, zero_regions, entered, exited, with_handler, with_selector, with_regions, machine, last_region}
use Rattle.model.specs.Regions.{permission_fits}
use Rattle.model.specs.WellFormed.{clear_handler}
use Rattle.model.specs.WritableCode.{exposes_code}
use Rattle.model.specs.Outcome.{Outcome, completed, assigned, aligned}
use Rattle.model.specs.declared.Region.{Region}
use Rattle.model.specs.declared.HfiState.{HfiState}
use Rattle.model.specs.declared.Machine.{Machine}

-- ---- question 8: "8. Does HFI allow it? No: 14: ..". Document 02 gives some of its rules the numbers 23 to 25, "all three are asked just
-- before 14" (Job 6), and adds 22, "asked after 14 and before 15" (Job 5)

-- the number of the first rule that is broken, or 0
abbrev pub first_broken : List (Bool × ℕ) → ℕ
first_broken [] = 0
first_broken (rule ∷ rest) = cond rule.0 rule.1 (first_broken rest)

-- The rules that a word of opcode 5b may break, in the order in which they are asked: whether it breaks the rule, and the number. a is the
-- whole register rs1
abbrev pub word_rules : HfiState → HfiKind → ℕ → List (Bool × ℕ)
-- "23, enter in HFI mode"; "an options operand above 15"; "22, for either enter form that would begin such a state", which is locked HFI
-- mode with writable code
word_rules h Enter a = (inside h, 23) ∷ (ltb largest_options a, 14) ∷ (exposes_code (entered h a), 22) ∷ []
word_rules h EnterJump a = (inside h, 23) ∷ (ltb largest_options a, 14) ∷ (exposes_code (entered h a), 22) ∷ []
-- "24, exit outside it"
word_rules h Exit a = (not (inside h), 24) ∷ []
-- "25, a region or handler instruction that HFI mode forbids": "funct7 3 to 9, 11 or 12 in HFI mode when locked; set handler in HFI mode, locked
-- or unlocked". "Faults in an operand .. and a missing selection keep 14": "a selected number not 1 to 3", which "go[es] up to 10" (Job 7); "funct7 4 to 9 with
-- selector 0; a permission bit the region lacks"
word_rules h SelectRegion a = (locked h, 25) ∷ (not (leb 1 a && leb a last_region), 14) ∷ []
word_rules h SetBase a = (locked h, 25) ∷ (eqb h.selector 0, 14) ∷ []
word_rules h GetBase a = (locked h, 25) ∷ (eqb h.selector 0, 14) ∷ []
word_rules h SetBound a = (locked h, 25) ∷ (eqb h.selector 0, 14) ∷ []
word_rules h GetBound a = (locked h, 25) ∷ (eqb h.selector 0, 14) ∷ []
word_rules h SetPermission a = (locked h, 25) ∷ (eqb h.selector 0, 14) ∷ (not (permission_fits h.selector a), 14) ∷ []
word_rules h GetPermission a = (locked h, 25) ∷ (eqb h.selector 0, 14) ∷ []
word_rules h SetHandler a = (inside h, 25) ∷ []
word_rules h GetHandler a = (locked h, 25) ∷ []
word_rules h ResetRegions a = (locked h, 25) ∷ []

-- "an h-word outside it": "an h-word outside HFI mode .. keep 14"
abbrev pub h_word_rules : HfiState → List (Bool × ℕ)
h_word_rules h = (not (inside h), 14) ∷ []

-- The rules of every instruction. Of most the paragraph says nothing
abbrev pub rules : Machine → Instruction → List (Bool × ℕ)
rules m (Upper k rd imm) = []
rules m (Jal rd offset) = []
rules m (Jalr rd rs1 imm) = []
rules m (Branch k rs1 rs2 offset) = []
rules m (Load k rd rs1 imm) = []
rules m (Store k rs1 rs2 imm) = []
rules m (Immediate k rd rs1 imm) = []
rules m (Shift k rd rs1 amount) = []
rules m (Addiw rd rs1 imm) = []
rules m (ShiftWord k rd rs1 amount) = []
rules m (Register k rd rs1 rs2) = []
rules m (RegisterWord k rd rs1 rs2) = []
rules m (Fence fm pred succ rs1 rd) = []
rules m (System k) = []
rules m (HLoad k chosen rd rs1 imm) = h_word_rules m.hfi
rules m (HStore k chosen rs1 rs2 imm) = h_word_rules m.hfi
rules m (Hfi k rd rs1 rs2) = word_rules m.hfi k (reg m.x rs1)

-- question 8's number for an instruction, or 0 where HFI allows it
unfoldable pub hfi_stop : Machine → Instruction → ℕ
hfi_stop m i = first_broken (rules m i)

-- the state with the selected region changed
abbrev pub changed : HfiState → Region → HfiState
changed h r = with_regions h (set_region h.regions h.selector r)

abbrev pub selected : HfiState → Region
selected h = region h.regions h.selector

-- question 9, and what the word does; `next` is the pc after it
unfoldable pub hfi_perform : Machine → List ℕ → ℕ → HfiKind → ℕ → ℕ → ℕ → Outcome
-- "Enter: mode 1, options stored, occurred cleared."
hfi_perform m mem next Enter rd rs1 rs2 = completed (machine m.x next (entered m.hfi (reg m.x rs1))) mem
-- "The jump form sets pc to rs2."
hfi_perform m mem next EnterJump rd rs1 rs2 =
    aligned m mem (reg m.x rs2) (completed (machine m.x (reg m.x rs2) (entered m.hfi (reg m.x rs1))) mem)
-- "Exit: mode 0, reason 1, exit pc is this pc; then pc is the handler if exits are redirected, else pc + 4."
hfi_perform m mem next Exit rd rs1 rs2 =
    completed (machine m.x (cond (redirects_exits m.hfi) m.hfi.handler next) (exited m.hfi 1 m.pc)) mem
hfi_perform m mem next SelectRegion rd rs1 rs2 =
    completed (machine m.x next (with_selector m.hfi (reg m.x rs1))) mem
hfi_perform m mem next SetBase rd rs1 rs2 =
    completed (machine m.x next (changed m.hfi (with_base (selected m.hfi) (reg m.x rs1)))) mem
hfi_perform m mem next GetBase rd rs1 rs2 = completed (assigned m next rd (selected m.hfi).base) mem
hfi_perform m mem next SetBound rd rs1 rs2 =
    completed (machine m.x next (changed m.hfi (with_bound (selected m.hfi) (reg m.x rs1)))) mem
hfi_perform m mem next GetBound rd rs1 rs2 = completed (assigned m next rd (selected m.hfi).bound) mem
hfi_perform m mem next SetPermission rd rs1 rs2 =
    completed (machine m.x next (changed m.hfi (with_permission (selected m.hfi) (reg m.x rs1)))) mem
hfi_perform m mem next GetPermission rd rs1 rs2 = completed (assigned m next rd (selected m.hfi).permission) mem
-- "Set handler clears bits 0, 1, 62, 63."
hfi_perform m mem next SetHandler rd rs1 rs2 =
    completed (machine m.x next (with_handler m.hfi (clear_handler (reg m.x rs1)))) mem
hfi_perform m mem next GetHandler rd rs1 rs2 = completed (assigned m next rd m.hfi.handler) mem
-- "Reset zeroes regions and selector."
hfi_perform m mem next ResetRegions rd rs1 rs2 = completed (machine m.x next (with_selector (with_regions m.hfi zero_regions) 0)) mem
