-- It is by numbers.
use Rattle.std.proofs.Common.{ap}
use Rattle.text.proofs.Writing.{put_as}
use Rattle.model.specs.Stops.{stop_address}
use Rattle.report.specs.Report.{answer, result_text}
use Rattle.report.proofs.put_result.Goals as goal

pub returns-clause-put : goal.returns-clause-put
returns-clause-put c =
    let r = c.args.r in
    put_as (ap (λ n. result_text (answer n r.count (stop_address r.stop) r.machine)) c.number.ensures) (c.put_answer.ensures.put (stop_address r.stop))
