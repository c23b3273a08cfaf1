-- No two lines of the table take one half-word, so their order says nothing: a legal half-word stands for one instruction.
-- Assumes nothing.
use mathlib.Core.Path.{◌≡◌, refl, sym, ap, ◌∙◌}
use mathlib.Core.Bool.{Bool, true, false, cond, not, ◌&&◌, ◌||◌, false≢true}
use mathlib.Core.List.{List, [], ◌∷◌}
use Prim.Native.Nat.{ℕ, zero, suc}
use lib.Dec.{eqb}
use borrow.Author.Tests.{eqb-true, eqb-false, eq-eqb, not-true}
use Rattle.std.proofs.Common.{Some}
use Rattle.std.proofs.lemmas.Option.{none-some, same_Some}
use Rattle.std.proofs.lemmas.Bool.{and_from, and_parts}
use Rattle.words.specs.Word.{field}
use Rattle.instructions.specs.declared.instruction.Instruction.{Instruction}
use Rattle.compressed.specs.Table.{Bits, matches, matches_one, Line, takes, table}
use Rattle.compressed.specs.Expand.{expand_by, expand_half}

-- ---- a test that tells two lines apart by what they ask

abbrev some : {A : Type 0} → (A → Bool) → List A → Bool
some t [] = false
some t (x ∷ xs) = t x || some t xs

abbrev each : {A : Type 0} → (A → Bool) → List A → Bool
each t [] = true
each t (x ∷ xs) = t x && each t xs

abbrev same_field : Bits → Bits → Bool
same_field b c = eqb b.at c.at && eqb b.count c.count

abbrev agree : Bits → Bits → Bool
agree b c = same_field b c && eqb b.value c.value

abbrev disagree : Bits → Bits → Bool
disagree b c = same_field b c && not (eqb b.value c.value)

-- a field with two values
abbrev clash : List Bits → List Bits → Bool
clash p q = some (λ b. some (disagree b) q) p

-- q asks all that p does
abbrev within : List Bits → List Bits → Bool
within p q = each (λ b. some (agree b) q) p

-- one leaves out a pattern that the other has
abbrev leaves_out : Line → Line → Bool
leaves_out l m = some (λ p. within p m.pattern) l.excluded

abbrev apart : Line → Line → Bool
apart l m = clash l.pattern m.pattern || (leaves_out l m || leaves_out m l)

abbrev all_apart : List Line → Bool
all_apart [] = true
all_apart (l ∷ ls) = each (apart l) ls && all_apart ls

table_apart : all_apart table ≡ true
table_apart = refl

-- ---- what the test tells

or_ind : {P : Type 0} (a b : Bool) → (a ≡ true → P) → (b ≡ true → P) → (a || b) ≡ true → P
or_ind true b f g e = f refl
or_ind false b f g e = g e

abbrev Has : ℕ → Bits → Type 0
Has h b = field h b.at b.count ≡ b.value

-- of a pattern that h matches
asked : {P : Type 0} (h : ℕ) (t : Bits → Bool) → ((c : Bits) → t c ≡ true → Has h c → P)
    → (q : List Bits) → matches h q ≡ true → some t q ≡ true → P
asked h t f [] m e = absurd (false≢true e)
asked h t f (c ∷ q) m e =
    let p = and_parts (eqb (field h c.at c.count) c.value) (matches h q) m in
    or_ind (t c) (some t q) (λ u. f c u (eqb-true _ _ p.0)) (asked h t f q p.1) e

same_field_lem : (h : ℕ) (b c : Bits) → same_field b c ≡ true → field h b.at b.count ≡ field h c.at c.count
same_field_lem h b c e =
    let p = and_parts (eqb b.at c.at) (eqb b.count c.count) e in
    rw (eqb-true b.at c.at p.0, eqb-true b.count c.count p.1) refl

agreed : (h : ℕ) (b c : Bits) → agree b c ≡ true → Has h c → Has h b
agreed h b c e g =
    let p = and_parts (same_field b c) (eqb b.value c.value) e in
    same_field_lem h b c p.0 ∙ g ∙ sym (eqb-true b.value c.value p.1)

disagreed : (h : ℕ) (b c : Bits) → disagree b c ≡ true → Has h c → Has h b → ⊥
disagreed h b c e g f =
    let p = and_parts (same_field b c) (not (eqb b.value c.value)) e in
    eqb-false b.value c.value (not-true _ p.1) (sym f ∙ same_field_lem h b c p.0 ∙ g)

clashed : (h : ℕ) (p q : List Bits) → clash p q ≡ true → matches h p ≡ true → matches h q ≡ true → ⊥
clashed h p q e m n = asked h (λ b. some (disagree b) q) (λ b u g. asked h (disagree b) (λ c v f. disagreed h b c v f g) q n u) p m e

held : (h : ℕ) (p q : List Bits) → within p q ≡ true → matches h q ≡ true → matches h p ≡ true
held h [] q e n = refl
held h (b ∷ p) q e n =
    let s = and_parts (some (agree b) q) (within p q) e in
    and_from _ _ (eq-eqb _ _ (asked h (agree b) (agreed h b) q n s.0)) (held h p q s.1 n)

left_out : (h : ℕ) (ps : List (List Bits)) (q : List Bits) → some (λ p. within p q) ps ≡ true → matches h q ≡ true → matches_one h ps ≡ true
left_out h [] q e n = absurd (false≢true e)
left_out h (p ∷ ps) q e n =
    or_ind (within p q) (some (λ p. within p q) ps)
    (λ u. rw (held h p q u n) refl)
    (λ u. second (matches h p) (left_out h ps q u n))
    e
  where
    second : (a : Bool) {b : Bool} → b ≡ true → (a || b) ≡ true
    second true f = refl
    second false f = f

taken_both : (h : ℕ) (l : Line) → takes h l ≡ true → (matches h l.pattern ≡ true) × (matches_one h l.excluded ≡ false)
taken_both h l e =
    let p = and_parts (matches h l.pattern) (not (matches_one h l.excluded)) e in
    (p.0, not-true _ p.1)

apart_lines : (h : ℕ) (l m : Line) → apart l m ≡ true → takes h l ≡ true → takes h m ≡ true → ⊥
apart_lines h l m e s t =
    let p = taken_both h l s in
    let q = taken_both h m t in
    or_ind (clash l.pattern m.pattern) (leaves_out l m || leaves_out m l)
    (λ u. clashed h l.pattern m.pattern u p.0 q.0)
    (or_ind (leaves_out l m) (leaves_out m l)
    (λ u. false≢true (sym p.1 ∙ left_out h l.excluded m.pattern u q.0))
    (λ u. false≢true (sym q.1 ∙ left_out h m.excluded l.pattern u p.0)))
    e

-- ---- lines by their places

-- l stands at place n
abbrev pub At : List Line → ℕ → Line → Type 0
At [] n l = ⊥
At (m ∷ ms) zero l = m ≡ l
At (m ∷ ms) (suc n) l = At ms n l

each_at : (t : Line → Bool) (ls : List Line) (n : ℕ) (l : Line) → each t ls ≡ true → At ls n l → t l ≡ true
each_at t [] n l e a = absurd a
each_at t (m ∷ ms) zero l e a = ap t (sym a) ∙ (and_parts (t m) (each t ms) e).0
each_at t (m ∷ ms) (suc n) l e a = each_at t ms n l (and_parts (t m) (each t ms) e).1 a

-- the first line and a later one
first_other : (h : ℕ) (m : Line) (ms : List Line) (n : ℕ) (l : Line) → all_apart (m ∷ ms) ≡ true → At ms n l
    → takes h m ≡ true → takes h l ≡ true → ⊥
first_other h m ms n l e a s t = apart_lines h m l (each_at (apart m) ms n l (and_parts (each (apart m) ms) (all_apart ms) e).0 a) s t

one_place : (h : ℕ) (ls : List Line) (m n : ℕ) (k l : Line) → all_apart ls ≡ true → At ls m k → At ls n l
    → takes h k ≡ true → takes h l ≡ true → m ≡ n
one_place h [] m n k l e a b s t = absurd a
one_place h (x ∷ xs) zero zero k l e a b s t = refl
one_place h (x ∷ xs) zero (suc n) k l e a b s t = absurd (first_other h x xs n l e b (ap (takes h) a ∙ s) t)
one_place h (x ∷ xs) (suc m) zero k l e a b s t = absurd (first_other h x xs m k e a (ap (takes h) b ∙ t) s)
one_place h (x ∷ xs) (suc m) (suc n) k l e a b s t =
    ap suc (one_place h xs m n k l (and_parts (each (apart x) xs) (all_apart xs) e).1 a b s t)

-- two lines that take one half-word are one line of the table
pub one_line : (h m n : ℕ) (k l : Line) → At table m k → At table n l → takes h k ≡ true → takes h l ≡ true → m ≡ n
one_line h m n k l a b s t = one_place h table m n k l table_apart a b s t

-- ---- the instruction that a half-word stands for, with no order of the lines

pub record StandsBy (ls : List Line) (h : ℕ) (i : Instruction) : Type 0 where
  pub place : ℕ
  pub by : Line
  pub there : At ls place by
  pub taken : takes h by ≡ true
  pub expands : by.expansion h ≡ i

abbrev pub Stands : ℕ → Instruction → Type 0
Stands h i = StandsBy table h i

legal_by : (ls : List Line) (h : ℕ) (i : Instruction) → expand_by ls h ≡ Some i → StandsBy ls h i
legal_by [] h i e = absurd (none-some i e)
legal_by (l ∷ ls) h i e = go (takes h l) refl e (legal_by ls h i)
  where
    go : (b : Bool) → takes h l ≡ b → cond b (Some (l.expansion h)) (expand_by ls h) ≡ Some i
        → (expand_by ls h ≡ Some i → StandsBy ls h i) → StandsBy (l ∷ ls) h i
    go true t q later = record { place = 0; by = l; there = refl; taken = t; expands = same_Some (l.expansion h) i q }
    go false t q later =
        let s = later q in
        record { place = suc s.place; by = s.by; there = s.there; taken = s.taken; expands = s.expands }

by_legal : (ls : List Line) (h n : ℕ) (l : Line) → all_apart ls ≡ true → At ls n l → takes h l ≡ true → expand_by ls h ≡ Some (l.expansion h)
by_legal [] h n l e a t = absurd a
by_legal (m ∷ ms) h zero l e a t = rw (sym a) (rw (ap (takes h) a ∙ t) refl)
by_legal (m ∷ ms) h (suc n) l e a t =
    go (takes h m) (λ s. first_other h m ms n l e a s t) (by_legal ms h n l (and_parts (each (apart m) ms) (all_apart ms) e).1 a t)
  where
    go : (b : Bool) → (b ≡ true → ⊥) → expand_by ms h ≡ Some (l.expansion h)
        → cond b (Some (m.expansion h)) (expand_by ms h) ≡ Some (l.expansion h)
    go true s q = absurd (s refl)
    go false s q = q

pub legal_stands : (h : ℕ) (i : Instruction) → expand_half h ≡ Some i → Stands h i
unfolding expand_half
legal_stands h i e = legal_by table h i e

pub stands_legal : (h : ℕ) (i : Instruction) → Stands h i → expand_half h ≡ Some i
unfolding expand_half
stands_legal h i s = by_legal table h s.place s.by table_apart s.there s.taken ∙ ap Some s.expands

-- each legal half-word has one expansion
pub stands_once : (h : ℕ) (i j : Instruction) → Stands h i → Stands h j → i ≡ j
stands_once h i j s t = same_Some i j (sym (stands_legal h i s) ∙ stands_legal h j t)
