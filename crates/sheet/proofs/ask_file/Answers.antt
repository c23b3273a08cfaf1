-- It is not whole, has a foreign byte, or passes.
use Rattle.std.proofs.Common.{sym, ◌∙◌, rules}
use Rattle.sheet.proofs.Naming.{refused, passed}
use Rattle.sheet.proofs.Laws.{file_not_whole, file_foreign, file_passed, kept_whole}
use Rattle.sheet.proofs.ask_file.Goals as goal

pub returns-in_err-map_err : goal.returns-in_err-map_err
returns-in_err-map_err c =
    let kept = rw c.whole.ensures at c.keep.ensures in
    let no = refused c.keep.result c.map_err.result 0 _ c.map_err.ensures.cases (λ q e k. search rules) c.from_residual.result _ c.in_err-map_err.was c.from_residual.ensures.1 in
    no.0 ∙ file_not_whole c.args.s.now _ kept no.1

pub returns-in-Some : goal.returns-in-Some
returns-in-Some c =
    let kept = rw c.whole.ensures at c.keep.ensures in
    let yes = passed c.keep.result c.map_err.result 0 _ c.map_err.ensures.cases (λ q e k. search rules) _ c.in_ok-map_err.was in
    file_foreign c.args.s.now _ (kept_whole c.args.s.now _ kept yes.0) (sym c.in-Some.is ∙ c.foreign_line.ensures)

pub returns : goal.returns
returns c =
    let kept = rw c.whole.ensures at c.keep.ensures in
    let yes = passed c.keep.result c.map_err.result 0 _ c.map_err.ensures.cases (λ q e k. search rules) _ c.in_ok-map_err.was in
    file_passed c.args.s.now (kept_whole c.args.s.now _ kept yes.0) (sym c.in_default.is ∙ c.foreign_line.ensures)
