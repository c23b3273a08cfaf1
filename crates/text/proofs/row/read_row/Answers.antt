-- The slots begin as 0.
use Rattle.std.proofs.Common.{◌≡◌, rules}
use Rattle.text.proofs.Rows.{no_field, row_in}
use Rattle.text.proofs.row.read_row.Goals as goal

pub returns : goal.returns
returns g c =
    let zero : c.default-slots.result ≡ no_field = search rules in
    row_in g.row.N c.args.line.now _ (rw zero at c.read_into-count.ensures)
