-- A refusal, or the result of the run.
use Rattle.std.proofs.Common.{◌+◌, ◌≤◌, sym, ap, ◌∙◌, arith, rules}
use Rattle.text.specs.Write.{Put}
use Rattle.text.proofs.Writing.{put_as, put_last}
use Rattle.sheet.specs.Sheet.{refusal_of}
use Rattle.report.specs.Report.{report_over}
use Rattle.respond.proofs.Laws.{report_refused, report_run, ran, answered}
use Rattle.respond.proofs.respond_over.Goals as goal
use Rattle.respond.proofs.respond_over.Goals.{in-Ok, in-Err}

pub returns-clause-answered : goal.returns-clause-answered
returns-clause-answered c =
    let a = c.args in
    let mem = a.mem.now in
    let s = a.input.now in
    let read = c.read_sheet.ensures in
    let put : Put c.new-w.result (report_over mem s) c.match-passed.w × (c.match-passed.w.at ≤ c.new-w.result.at + 1373) =
    elim c.match-passed.branch [
      | in-Ok w ↦
          let ok = w.in-Ok.ensures in
          let run = ran w.in-Ok.setup c.read_sheet.result ok in
          let printed = report_run mem s w.in-Ok.setup _ _ _ _ (ap refusal_of ok ∙ read.refusal_value.0) (run.0 ∙ read.refusal_value.1) (run.1 _ read.mem_after) w.machine_of.ensures w.run_call-r.ensures in
          rw w.w-is (put_as printed w.put_result.ensures.put, w.put_result.ensures.upper_bound)
      | in-Err w ↦
          let no = ap refusal_of w.in-Err.ensures ∙ read.refusal_value.0 in
          rw w.w-is (put_as (report_refused mem s w.in-Err.refusal no) w.put.ensures.put, omega (arith, w.put.ensures.upper_bound))
    ] in
    let same = put.0.same_buffer ∙ c.new-w.ensures.same_buffer in
    (answered a.output.now _ _ _ (put_last put.0 c.new-w.ensures.value (search (rules, sym same))) (omega (arith, put.1, c.new-w.ensures.value.1, c.requires))).0
