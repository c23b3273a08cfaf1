-- One field after another, then the line's end.
use Rattle.text.proofs.Writing.{put_then}
use Rattle.report.proofs.put_result_line.Goals as goal

pub returns-clause-put : goal.returns-clause-put
returns-clause-put c =
    let fields = put_then c.put_field-3.ensures.put (put_then c.put_field-4.ensures.put c.put_fault.ensures.put) in
    let line = put_then c.put_number.ensures.put (put_then c.put_field.ensures.put (put_then c.put_field-2.ensures.put fields)) in
    put_then line c.put_byte.ensures
