-- A field more, or the line's end.
use Rattle.std.proofs.Common.{◌+◌, ◌^◌, ◌<◌, length, [], ◌∷◌, map, sym, ap, ◌∙◌, arith, rules}
use borrow.Author.Tests.{tests}
use Rattle.std.proofs.lemmas.List.{map-append, length-map}
use Rattle.std.proofs.lemmas.List.Splits.{length-slice_split}
use Rattle.std.proofs.lemmas.List.Sums.{count_by-le-length}
use Rattle.std.proofs.lemmas.Iterator.Consumers.{YieldsList-turn, YieldsList-end}
use Rattle.std.proofs.lemmas.Iterator.Splits.{YieldsList-from_slice_split}
use Rattle.text.specs.Scan.{is, comma}
use Rattle.text.proofs.Rows.{row_by, row_pushed, fields_are}
use Rattle.text.proofs.row.read_over.Goals as goal

pub loop-piece-preserved : goal.loop-piece-preserved
loop-piece-preserved c =
    let l = c.loop-piece in
    rw (c.fill.ensures, c.fill-in-loop-piece.ensures, map-append (λ f. f.now) l.yielded (c.in-Some.piece ∷ []))
    (row_pushed c.args.values.now c.args.widths.now l.values l.widths l.n c.number.result (map (λ f. f.now) l.yielded) c.in-Some.piece.now c.number.ensures l.invariant)

pub overflow_add-n : goal.overflow_add-n
overflow_add-n c =
    let pieces = YieldsList-from_slice_split _ (is comma) c.args.line.now (cc) (cc) (cc) (λ x b q k. search (rules, tests)) in
    let turn = YieldsList-turn pieces c.loop-piece.yielded _ c.loop-piece.yielded_by c.next.result c.next.new.self c.in-Some.piece c.in-Some.is c.next.ensures.steps in
    let few : length c.args.line.now + 2 < 2 ^ 64 = search rules in
    let pieces_le = count_by-le-length (is comma) c.args.line.now in
    let so_far = ap (λ r. r.count) c.loop-piece.invariant ∙ length-map c.loop-piece.yielded (λ f. f.now) in
    omega (arith, few, so_far, turn.0, length-slice_split (is comma) c.args.line.now, pieces_le)

pub returns : goal.returns
returns c =
    let pieces = YieldsList-from_slice_split _ (is comma) c.args.line.now (cc) (cc) (cc) (λ x b q k. search (rules, tests)) in
    let all = YieldsList-end pieces c.loop-piece.yielded _ c.loop-piece.yielded_by c.next.result c.next.new.self c.in-None.is c.next.ensures.steps in
    c.loop-piece.invariant ∙ ap (row_by c.args.values.now c.args.widths.now) (all.0 ∙ sym (fields_are c.args.line.now))
