-- One text after another.
use Rattle.text.proofs.Writing.{put_then}
use Rattle.sheet.proofs.put_refusal.Goals as goal

pub returns-clause-put : goal.returns-clause-put
returns-clause-put c =
    let first = put_then (put_then c.put_text.ensures c.put_number.ensures.put) c.put_byte.ensures in
    put_then (put_then first c.put_number-2.ensures.put) c.put_byte-2.ensures
