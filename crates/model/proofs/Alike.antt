-- A table's check by numbers: what the definitions answer to each row is compared with what the row says, number by number, and a yes
-- to all of them says that the two are equal. Computing a truth takes half of the time that computing
-- two lists of machines does, and every edit of a definition waits for it.
-- Assumes nothing.
use mathlib.Core.Path.{◌≡◌, refl, ap, sym, ◌∙◌}
use mathlib.Core.Bool.{Bool, true, false, ◌&&◌, false≢true}
use mathlib.Core.List.{List, [], ◌∷◌}
use Prim.Native.Nat.{ℕ}
use lib.Dec.{eqb}
use borrow.Author.Tests.{eqb-true}
use Rattle.std.proofs.Common.{Option, Some, None}
use Rattle.std.proofs.lemmas.Bool.{and_parts}
use Rattle.instructions.specs.Decode.{decode_word}
use Rattle.instructions.specs.Fields.{word_of}
use Rattle.instructions.specs.Encode.{in_range, encode_fields}
use Rattle.instructions.specs.declared.instruction.Instruction.{Instruction}
use Rattle.instructions.proofs.RoundTrip.{one_instruction}
use Rattle.model.specs.declared.Region.{Region}
use Rattle.model.specs.declared.Fault.{Fault}
use Rattle.model.specs.declared.HfiState.{HfiState}
use Rattle.model.specs.declared.Machine.{Machine}
use Rattle.model.proofs.Reach.{encodes}
use Rattle.model.proofs.Rows.{Row, Answer, answered, found, stated}
use Rattle.model.proofs.Rows.Answer.{decoded, told, gave}

-- ---- the comparison

abbrev alike_truths : Bool → Bool → Bool
alike_truths true b = b
alike_truths false true = false
alike_truths false false = true

abbrev alike_numbers : List ℕ → List ℕ → Bool
alike_numbers [] [] = true
alike_numbers [] (b ∷ ys) = false
alike_numbers (a ∷ xs) [] = false
alike_numbers (a ∷ xs) (b ∷ ys) = eqb a b && alike_numbers xs ys

abbrev alike_regions : List Region → List Region → Bool
alike_regions [] [] = true
alike_regions [] (s ∷ ss) = false
alike_regions (r ∷ rs) [] = false
alike_regions (r ∷ rs) (s ∷ ss) = eqb r.base s.base && (eqb r.bound s.bound && (eqb r.permission s.permission && alike_regions rs ss))

abbrev alike_faults : Fault → Fault → Bool
alike_faults f g = eqb f.occurred g.occurred && (eqb f.region g.region && (eqb f.op g.op && eqb f.address g.address))

abbrev alike_states : HfiState → HfiState → Bool
alike_states h k =
    eqb h.mode k.mode && (eqb h.reason k.reason && (eqb h.epc k.epc && (eqb h.options k.options
    && (eqb h.handler k.handler && (eqb h.selector k.selector && (alike_regions h.regions k.regions && alike_faults h.fault k.fault))))))

abbrev alike_machines : Machine → Machine → Bool
alike_machines m n = alike_numbers m.x n.x && (eqb m.pc n.pc && alike_states m.hfi n.hfi)

-- two instructions in range by their words
abbrev alike_decoded : Option Instruction → Option Instruction → Bool
alike_decoded (Some i) (Some j) = in_range i && (in_range j && eqb (word_of (encode_fields i)) (word_of (encode_fields j)))
alike_decoded (Some i) None = false
alike_decoded None (Some j) = false
alike_decoded None None = true

abbrev alike : Answer → Answer → Bool
alike (decoded d) (decoded e) = alike_decoded d e
alike (decoded d) (told b) = false
alike (decoded d) (gave s c a m mem) = false
alike (told b) (decoded d) = false
alike (told b) (told c) = alike_truths b c
alike (told b) (gave s c a m mem) = false
alike (gave s c a m mem) (decoded d) = false
alike (gave s c a m mem) (told b) = false
alike (gave s c a m mem) (gave t d b n men) = eqb s t && (eqb c d && (eqb a b && (alike_machines m n && alike_numbers mem men)))

abbrev pub holds : List Row → Bool
holds [] = true
holds (r ∷ rs) = alike (answered r.0) r.1 && holds rs

-- ---- what a yes says

same_numbers : (xs ys : List ℕ) → alike_numbers xs ys ≡ true → xs ≡ ys
same_numbers [] [] e = refl
same_numbers [] (b ∷ ys) e = absurd (false≢true e)
same_numbers (a ∷ xs) [] e = absurd (false≢true e)
same_numbers (a ∷ xs) (b ∷ ys) e =
    let p = and_parts (eqb a b) _ e in
    let q = eqb-true a b p.0 in
    let r = same_numbers xs ys p.1 in
    cc

-- records are equal, each field by itself
region_of_lem : {b c n m p q : ℕ} → b ≡ c → n ≡ m → p ≡ q → ◌≡◌ {A = Region} (record { base = b; bound = n; permission = p }) (record { base = c; bound = m; permission = q })
region_of_lem e f g = cc

fault_of : {a b c d e f g h : ℕ} → a ≡ e → b ≡ f → c ≡ g → d ≡ h
    → ◌≡◌ {A = Fault} (record { occurred = a; region = b; op = c; address = d }) (record { occurred = e; region = f; op = g; address = h })
fault_of p q r s = cc

cons_of : {A : Type 0} {a b : A} {xs ys : List A} → a ≡ b → xs ≡ ys → (a ∷ xs) ≡ (b ∷ ys)
cons_of p q = cc

same_regions : (rs ss : List Region) → alike_regions rs ss ≡ true → rs ≡ ss
same_regions [] [] e = refl
same_regions [] (s ∷ ss) e = absurd (false≢true e)
same_regions (r ∷ rs) [] e = absurd (false≢true e)
same_regions (r ∷ rs) (s ∷ ss) e =
    let p = and_parts (eqb r.base s.base) _ e in
    let q = and_parts (eqb r.bound s.bound) _ p.1 in
    let t = and_parts (eqb r.permission s.permission) _ q.1 in
    cons_of (region_of_lem (eqb-true _ _ p.0) (eqb-true _ _ q.0) (eqb-true _ _ t.0)) (same_regions rs ss t.1)

same_faults : (f g : Fault) → alike_faults f g ≡ true → f ≡ g
same_faults f g e =
    let p = and_parts (eqb f.occurred g.occurred) _ e in
    let q = and_parts (eqb f.region g.region) _ p.1 in
    let t = and_parts (eqb f.op g.op) _ q.1 in
    fault_of (eqb-true _ _ p.0) (eqb-true _ _ q.0) (eqb-true _ _ t.0) (eqb-true _ _ t.1)

state_of_lem : {a b c d e f g h i j k l : ℕ} {rs ss : List Region} {u v : Fault} → a ≡ g → b ≡ h → c ≡ i → d ≡ j → e ≡ k → f ≡ l → rs ≡ ss → u ≡ v
    → ◌≡◌ {A = HfiState} (record { mode = a; reason = b; epc = c; options = d; handler = e; selector = f; regions = rs; fault = u })
    (record { mode = g; reason = h; epc = i; options = j; handler = k; selector = l; regions = ss; fault = v })
state_of_lem p q r s t u v w = cc

same_states : (h k : HfiState) → alike_states h k ≡ true → h ≡ k
same_states h k e =
    let p = and_parts (eqb h.mode k.mode) _ e in
    let q = and_parts (eqb h.reason k.reason) _ p.1 in
    let r = and_parts (eqb h.epc k.epc) _ q.1 in
    let s = and_parts (eqb h.options k.options) _ r.1 in
    let t = and_parts (eqb h.handler k.handler) _ s.1 in
    let u = and_parts (eqb h.selector k.selector) _ t.1 in
    let v = and_parts (alike_regions h.regions k.regions) _ u.1 in
    state_of_lem (eqb-true _ _ p.0) (eqb-true _ _ q.0) (eqb-true _ _ r.0) (eqb-true _ _ s.0) (eqb-true _ _ t.0) (eqb-true _ _ u.0)
    (same_regions _ _ v.0) (same_faults _ _ v.1)

machine_of_lem : {x y : List ℕ} {a b : ℕ} {h k : HfiState} → x ≡ y → a ≡ b → h ≡ k
    → ◌≡◌ {A = Machine} (record { x = x; pc = a; hfi = h }) (record { x = y; pc = b; hfi = k })
machine_of_lem p q r = cc

same_machines : (m n : Machine) → alike_machines m n ≡ true → m ≡ n
same_machines m n e =
    let p = and_parts (alike_numbers m.x n.x) _ e in
    let q = and_parts (eqb m.pc n.pc) _ p.1 in
    machine_of_lem (same_numbers _ _ p.0) (eqb-true _ _ q.0) (same_states _ _ q.1)

same_decoded : (d e : Option Instruction) → alike_decoded d e ≡ true → d ≡ e
same_decoded (Some i) (Some j) e =
    let p = and_parts (in_range i) _ e in
    let q = and_parts (in_range j) _ p.1 in
    let w = eqb-true (word_of (encode_fields i)) (word_of (encode_fields j)) q.1 in
    ap Some (one_instruction (word_of (encode_fields i)) i j (encodes i p.0) (ap decode_word w ∙ encodes j q.0))
same_decoded (Some i) None e = absurd (false≢true e)
same_decoded None (Some j) e = absurd (false≢true e)
same_decoded None None e = refl

same_truths : (b c : Bool) → alike_truths b c ≡ true → b ≡ c
same_truths true c e = sym e
same_truths false true e = absurd (false≢true e)
same_truths false false e = refl

gave_of : {s t c d a b : ℕ} {m n : Machine} {mem men : List ℕ} → s ≡ t → c ≡ d → a ≡ b → m ≡ n → mem ≡ men → gave s c a m mem ≡ gave t d b n men
gave_of p q r s t = cc

same_answers : (a b : Answer) → alike a b ≡ true → a ≡ b
same_answers (decoded d) (decoded f) e = ap decoded (same_decoded d f e)
same_answers (decoded d) (told b) e = absurd (false≢true e)
same_answers (decoded d) (gave s c a m mem) e = absurd (false≢true e)
same_answers (told b) (decoded d) e = absurd (false≢true e)
same_answers (told b) (told c) e = ap told (same_truths b c e)
same_answers (told b) (gave s c a m mem) e = absurd (false≢true e)
same_answers (gave s c a m mem) (decoded d) e = absurd (false≢true e)
same_answers (gave s c a m mem) (told b) e = absurd (false≢true e)
same_answers (gave s c a m mem) (gave t d b n men) e =
    let p = and_parts (eqb s t) _ e in
    let q = and_parts (eqb c d) _ p.1 in
    let r = and_parts (eqb a b) _ q.1 in
    let u = and_parts (alike_machines m n) _ r.1 in
    gave_of (eqb-true s t p.0) (eqb-true c d q.0) (eqb-true a b r.0) (same_machines m n u.0) (same_numbers mem men u.1)

-- the table holds: what the definitions answer is what it says
pub held : (rs : List Row) → holds rs ≡ true → found rs ≡ stated rs
held [] e = refl
held (r ∷ rs) e =
    let p = and_parts (alike (answered r.0) r.1) _ e in
    cons_of (same_answers (answered r.0) r.1 p.0) (held rs p.1)
