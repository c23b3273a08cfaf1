-- The byte is foreign, or it is an 0a, past which the next line's number holds, or it is neither.
use Rattle.std.proofs.Common.{◌≡◌, ◌+◌, ◌^◌, ◌<◌, ◌≤◌, true, false, Some, length, get_or, sym, ap, ◌∙◌, arith, rules}
use borrow.Author.Tests.{eq-eqb, ne_eqb}
use Rattle.text.specs.Scan.{first_that}
use Rattle.text.proofs.Scanning.{first_on, first_off}
use Rattle.text.proofs.LineNumbers.{number_first, number_on, number_le}
use Rattle.sheet.specs.Sheet.{foreign}
use Rattle.sheet.proofs.Laws.{foreign_here, foreign_none}
use Rattle.sheet.proofs.foreign_line.Goals as goal
use Rattle.sheet.proofs.foreign_line.Goals.{then-b-eq10, else-b-eq10}

pub loop-b-init : goal.loop-b-init
loop-b-init c = (sym (number_first c.args.s.now), omega arith)

pub returns-then-foreign : goal.returns-then-foreign
returns-then-foreign c =
    let l = c.loop-b in
    let s = c.args.s.now in
    let inside : l.b-index < length s = search rules in
    let t : foreign (get_or s l.b-index 0) ≡ true = sym c.foreign.ensures ∙ c.if-foreign.true in
    let here : first_that foreign s ≡ l.b-index = omega (arith, rw t at (first_on s l.b-index foreign inside)) in
    ap Some l.invariant.0 ∙ foreign_here s l.b-index inside here

pub overflow_add-lineno : goal.overflow_add-lineno
overflow_add-lineno c =
    let few : c.loop-b.b-index + 2 < 2 ^ 64 = search rules in
    omega (arith, number_le c.args.s.now c.loop-b.b-index)

pub loop-b-preserved : goal.loop-b-preserved
loop-b-preserved c =
    let l = c.loop-b in
    let s = c.args.s.now in
    let inside : l.b-index < length s = search rules in
    let t : foreign (get_or s l.b-index 0) ≡ false = sym c.foreign.ensures ∙ c.if-foreign.false in
    let on = rw t at (first_on s l.b-index foreign inside) in
    let number = number_on s l.b-index inside in
    elim c.if-b-eq10.branch [
      | then-b-eq10 w ↦ let n = rw (eq-eqb _ _ w.if-b-eq10.true) at number in (omega (arith, n), omega (arith, on))
      | else-b-eq10 w ↦ let n = rw (ne_eqb _ _ w.if-b-eq10.false) at number in (omega (arith, n), omega (arith, on))
    ]

pub returns : goal.returns
returns c =
    let s = c.args.s.now in
    let end : length s ≤ c.loop-b.b-index = search rules in
    let past : first_that foreign s ≡ length s = omega (arith, first_off s c.loop-b.b-index foreign end) in
    foreign_none s past
