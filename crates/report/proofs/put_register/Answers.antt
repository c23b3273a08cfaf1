-- Nothing for a zero, else the line.
use borrow.Author.Tests.{eq-eqb, ne_eqb}
use Rattle.text.proofs.Writing.{put_none, put_then}
use Rattle.report.proofs.put_register.Goals as goal

pub returns-then-v-eq0-clause-put : goal.returns-then-v-eq0-clause-put
returns-then-v-eq0-clause-put c = rw (eq-eqb c.args.v 0 c.if-v-eq0.true) (put_none c.args.w.now)

pub returns-clause-put : goal.returns-clause-put
returns-clause-put c =
    let line = put_then (put_then c.put_number.ensures.put c.put_field.ensures.put) c.put_byte.ensures in
    rw (ne_eqb c.args.v 0 c.if-v-eq0.false) line
