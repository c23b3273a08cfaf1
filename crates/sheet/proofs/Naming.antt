-- A question with the line that it is asked of.
use mathlib.Core.Path.{◌≡◌, refl, ap, ◌∙◌}
use Prim.Native.Nat.{ℕ}
use native.Mathlib.Omega.{arith}
use Rattle.std.specs.Prelude.{Result, Ok, Err, IfOk, IsErrAnd, MatchResult}
use Rattle.setup.specs.declared.question.Question.{Question}
use Rattle.setup.specs.declared.question.Question.TheVariants.{Whole, ForeignByte, FieldCount, FieldWidth, Range, Order}
use Rattle.setup.specs.Question.{question_number, question_of}
use Rattle.sheet.specs.declared.Refusal as code
use Rattle.sheet.specs.Sheet.{Refusal, refusal, refusal_of}

-- the answer r, of which a question is given the line n, is m
abbrev pub Named : {A : Type 0} → Result A Question → Result A code.Refusal → ℕ → Type 0
Named r m n = MatchResult r (λ x. m ≡ Ok x) (λ q. m ≡ Err (record { question = q; lineno = n }))

-- as `map_err` names it
named : {A : Type 0} (r : Result A Question) (m : Result A code.Refusal) (n : ℕ) (P : Question → code.Refusal → Type 0)
    → MatchResult r (λ x. m ≡ Ok x) (λ q. IsErrAnd m (P q))
    → ((q : Question) (e : code.Refusal) → P q e → e ≡ record { question = q; lineno = n }) → Named r m n
named (Ok a) m n P h f = h
named (Err q) (Ok a) n P h f = absurd h
named (Err q) (Err e) n P h f = ap Err (f q e h)

number_some : (q : Question) → question_number q ≡ 0 → ⊥
number_some Whole e = omega arith
number_some ForeignByte e = omega arith
number_some FieldCount e = omega arith
number_some FieldWidth e = omega arith
number_some Range e = omega arith
number_some Order e = omega arith

named_err : {A : Type 0} (r : Result A Question) (m : Result A code.Refusal) (n : ℕ) (e : code.Refusal) → Named r m n → m ≡ Err e
    → (question_number e.question ≡ question_of r) × (e.lineno ≡ n) × (question_of r ≡ 0 → ⊥)
named_err (Ok a) m n e h k = cc
named_err (Err q) m n e h k =
    let same : e ≡ record { question = q; lineno = n } = cc in
    (ap (λ x. question_number x.question) same, ap (λ x. x.lineno) same, number_some q)

named_ok : {A : Type 0} (r : Result A Question) (m : Result A code.Refusal) (n : ℕ) (a : A) → Named r m n → m ≡ Ok a
    → (question_of r ≡ 0) × ((P : A → Type 0) → IfOk r P → P a)
named_ok (Ok b) m n a h k = (refl, λ P p. (let same : a ≡ b = cc in rw same p))
named_ok (Err q) m n a h k = cc

-- the code's refusal, in the terms of the definitions, does refuse
pub refuses : (e : code.Refusal) (r : Refusal) → refusal (question_number e.question) e.lineno ≡ r → r.question ≡ 0 → ⊥
refuses e r h z = number_some e.question (ap (λ q. q.question) h ∙ z)

-- the refusal that is handed on
pub handed_on : {A : Type 0} (r : Result A code.Refusal) (e : code.Refusal) → IsErrAnd r (λ x. x ≡ e) → refusal_of r ≡ refusal (question_number e.question) e.lineno
handed_on (Ok a) e h = absurd h
handed_on (Err x) e h = ap (λ k. refusal (question_number k.question) k.lineno) h

-- `map_err` gives a question its line, and `?` hands on what it answers: a refusal, or the value that passed
module _ {A : Type 0} (r : Result A Question) (m : Result A code.Refusal) (n : ℕ) (P : Question → code.Refusal → Type 0)
    (h : MatchResult r (λ x. m ≡ Ok x) (λ q. IsErrAnd m (P q))) (f : (q : Question) (e : code.Refusal) → P q e → e ≡ record { question = q; lineno = n }) where
  pub refused : {B : Type 0} (out : Result B code.Refusal) (e : code.Refusal) → m ≡ Err e → IsErrAnd out (λ x. x ≡ e)
      → (refusal_of out ≡ refusal (question_of r) n) × (question_of r ≡ 0 → ⊥)
  refused out e k g =
      let no = named_err r m n e (named r m n P h f) k in
      (handed_on out e g ∙ ap (λ q. refusal q e.lineno) no.0 ∙ ap (refusal (question_of r)) no.1, no.2)

  pub passed : (a : A) → m ≡ Ok a → (question_of r ≡ 0) × ((Q : A → Type 0) → IfOk r Q → Q a)
  passed a k = named_ok r m n a (named r m n P h f) k
