-- `==` compares the fields in a row, and `same` in groups.
use Rattle.std.proofs.Common.{◌≡◌, rules}
use Rattle.std.proofs.Math.Bool.{and_assoc}
use Rattle.koubospar_codec.specs.Flat.{same}
use Rattle.koubospar_codec.proofs.flat.InstructionTryFromFlat.try_from.Goals as goal

pub returns : goal.returns
returns c =
    let told : c.eq.result ≡ same c.from.result c.args.f = simp and_assoc c.eq.ensures in
    search rules
