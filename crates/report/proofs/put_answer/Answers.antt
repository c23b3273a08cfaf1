-- The result's row, then the registers' rows.
use Rattle.std.proofs.Common.{[], ◌∷◌, sym}
use Rattle.text.proofs.Writing.{put_then, put_as}
use Rattle.report.specs.Report.{answer, result_line, register_lines}
use Rattle.report.proofs.Laws.{rows_append}
use Rattle.report.proofs.put_answer.Goals as goal

pub returns-clause-put : goal.returns-clause-put
returns-clause-put c address =
    let r = answer c.args.stop c.args.count address c.args.m in
    let rows = sym (rows_append (result_line r ∷ []) (register_lines 0 r.machine.x)) in
    put_as rows (put_then c.put_result_line.ensures.put c.put_registers.ensures.put)
