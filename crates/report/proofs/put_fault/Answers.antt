-- One field after another.
use Rattle.text.proofs.Writing.{put_then}
use Rattle.report.proofs.put_fault.Goals as goal

pub returns-clause-put : goal.returns-clause-put
returns-clause-put c =
    let last = put_then c.put_field-3.ensures.put c.put_field-4.ensures.put in
    put_then c.put_field.ensures.put (put_then c.put_field-2.ensures.put last)
