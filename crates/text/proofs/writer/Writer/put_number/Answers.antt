-- There are at most MOST digits.
use Rattle.std.proofs.Common.{arith}
use Rattle.text.proofs.Numbers.{digits_le}
use Rattle.text.proofs.writer.Writer.put_number.Goals as goal

pub returns-clause-upper_bound : goal.returns-clause-upper_bound
returns-clause-upper_bound g c = omega (arith, c.put_digits.ensures.wrote.after, digits_le g.row.BASE g.row.MOST c.args.n)
