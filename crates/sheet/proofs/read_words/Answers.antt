-- A line is refused, or its word is placed and the next line begins past its end.
use Rattle.std.proofs.Common.{◌≡◌, ◌+◌, length, drop, refl, sym, ap, ◌∙◌, ⊎_elim, arith, rules}
use borrow.Author.Tests.{tests}
use Rattle.std.proofs.lemmas.Fn.{always_returns_same}
use Rattle.text.specs.Scan.{is, newline}
use Rattle.text.specs.Split.{FirstLine, lines, row_of}
use Rattle.text.proofs.LineNumbers.{number_le}
use Rattle.setup.specs.Question.{question_of}
use Rattle.sheet.specs.Words.{words_of, memory_of}
use Rattle.sheet.specs.Sheet.{words_refusal}
use Rattle.sheet.proofs.Naming.{refused, passed}
use Rattle.sheet.proofs.Laws.{LeftAt, line_cut, read_is, word_fits, word_passed, left_on, refusal_on, refusal_stop, refusal_off, memory_on, memory_off, none_left}
use Rattle.sheet.proofs.read_words.Goals as goal

pub returns-in_err-w-clause-refusal : goal.returns-in_err-w-clause-refusal
returns-in_err-w-clause-refusal c =
    let l = c.loop-line in
    let s = c.args.s.now in
    let all = l.line-iterator.a.rest.now in
    let line = c.front.result.now in
    let after = c.next.new.self.a.rest.now in
    let lineno = c.in-Some.lineno in
    let steps = c.in-Some.ensures.steps in
    let left : LeftAt s all l.invariant.1.0 lineno = rw steps.1.0 l.invariant.1.1 in
    let first : FirstLine all line after =
    rw c.front.ensures
    (line_cut s all c.in-Some.line.now after l.invariant.1.0 lineno steps.0.1.0 left c.requires.3 steps.0.0 steps.0.1.1
    (steps.0.1.2 (is newline) (always_returns_same _ (λ a r. r ≡ is newline a.0.now) l.line-iterator.a.pred (λ a r q k. search (rules, tests)))).1
    steps.0.2) in
    let r = c.read_word in
    let no = refused r.result c.map_err.result lineno _ c.map_err.ensures.cases (λ q e k. search rules) c.from_residual.result _ c.in_err-w.was c.from_residual.ensures.1 in
    no.0 ∙ refusal_stop s all line after l.invariant.1.0 lineno left first l.least (question_of r.result) r.ensures.refusal no.1 ∙ l.invariant.1.2

pub write-requires : goal.write-requires
write-requires c =
    let l = c.loop-line in
    let r = c.read_word in
    let row = row_of 2 c.front.result.now in
    let yes = word_passed l.least row r.result r.ensures.refusal r.ensures.value (passed r.result c.map_err.result c.in-Some.lineno _ c.map_err.ensures.cases (λ q e k. search rules) c.in_ok-w.w c.in_ok-w.was) in
    (refl, omega (arith, l.invariant.0, word_fits l.least row yes.0, (read_is l.least row).0, ap (λ w. w.address) yes.1))

pub overflow_add-least : goal.overflow_add-least
overflow_add-least c =
    let l = c.loop-line in
    let r = c.read_word in
    let row = row_of 2 c.front.result.now in
    let yes = word_passed l.least row r.result r.ensures.refusal r.ensures.value (passed r.result c.map_err.result c.in-Some.lineno _ c.map_err.ensures.cases (λ q e k. search rules) c.in_ok-w.w c.in_ok-w.was) in
    omega (arith, word_fits l.least row yes.0, (read_is l.least row).0, ap (λ w. w.address) yes.1)

pub loop-line-preserved : goal.loop-line-preserved
loop-line-preserved c =
    let l = c.loop-line in
    let s = c.args.s.now in
    let all = l.line-iterator.a.rest.now in
    let line = c.front.result.now in
    let after = c.next.new.self.a.rest.now in
    let at = l.invariant.1.0 in
    let lineno = c.in-Some.lineno in
    let steps = c.in-Some.ensures.steps in
    let left : LeftAt s all at lineno = rw steps.1.0 l.invariant.1.1 in
    let first : FirstLine all line after =
    rw c.front.ensures
    (line_cut s all c.in-Some.line.now after at lineno steps.0.1.0 left c.requires.3 steps.0.0 steps.0.1.1
    (steps.0.1.2 (is newline) (always_returns_same _ (λ a r. r ≡ is newline a.0.now) l.line-iterator.a.pred (λ a r q k. search (rules, tests)))).1
    steps.0.2) in
    let r = c.read_word in
    let row = row_of 2 line in
    let yes = word_passed l.least row r.result r.ensures.refusal r.ensures.value (passed r.result c.map_err.result lineno _ c.map_err.ensures.cases (λ q e k. search rules) c.in_ok-w.w c.in_ok-w.was) in
    let next : LeftAt s after (at + length line + 1) c.next.new.self.b.start = rw steps.1.1 (left_on s all line after at lineno left first c.requires.3) in
    let on = refusal_on s all line after at lineno left first l.least c.in_ok-w.w.address yes.0 (ap (λ w. w.address) yes.1) in
    let placed = memory_on s all line after at lineno left first l.mem _ c.in_ok-w.w yes.1 c.write.ensures in
    (search rules, (at + length line + 1, next, on ∙ l.invariant.1.2, placed ∙ l.invariant.1.3))

pub loop-line-init : goal.loop-line-init
loop-line-init c =
    let s = c.args.s.now in
    let start = c.args.start in
    let gives = c.into_iter-line-iterator.ensures.into_iter_gives in
    let is : c.into_iter-line-iterator.result.a.rest.now ≡ drop start s =
    ap (λ z. z.a.rest.now) gives ∙ ap (λ a. a.rest.now) c.zip-line-items.ensures.first ∙ c.split_inclusive.ensures.rest ∙ c.rest.ensures.0 in
    let two : c.into_iter-line-iterator.result.b.start ≡ 2 = ap (λ z. z.b.start) gives ∙ ap (λ b. b.start) c.zip-line-items.ensures.second in (
      c.requires.0,
      (
        start,
        rw two (record { is = is; inside = c.requires.1; start = c.requires.4 }),
        ap (λ t. words_refusal s start 0 (lines t)) is,
        ap (λ t. memory_of c.args.mem.now (words_of (lines t))) is,
      ),
    )

-- no line is left: the numbers do not end
pub returns-clause-refusal : goal.returns-clause-refusal
returns-clause-refusal c =
    let l = c.loop-line in
    let at = l.invariant.1.0 in
    let left = l.invariant.1.1 in
    let none : length l.line-iterator.a.rest.now ≡ 0 =
    ⊎_elim (λ a. a.1.0) (λ b. absurd (omega (arith, b.1.0, left.inside, left.start.counted, number_le c.args.s.now at, c.requires.2))) c.in-None.ensures.steps in
    sym (refusal_off c.args.s.now l.line-iterator.a.rest.now at l.least (none_left l.line-iterator.a.rest.now none)) ∙ l.invariant.1.2

pub returns-clause-mem_after : goal.returns-clause-mem_after
returns-clause-mem_after c =
    let l = c.loop-line in
    let at = l.invariant.1.0 in
    let left = l.invariant.1.1 in
    let none : length l.line-iterator.a.rest.now ≡ 0 =
    ⊎_elim (λ a. a.1.0) (λ b. absurd (omega (arith, b.1.0, left.inside, left.start.counted, number_le c.args.s.now at, c.requires.2))) c.in-None.ensures.steps in
    sym (memory_off l.line-iterator.a.rest.now l.mem (none_left l.line-iterator.a.rest.now none)) ∙ l.invariant.1.3
