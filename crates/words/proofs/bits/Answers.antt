use lib.Bits.{and_mask}
use Rattle.std.proofs.lemmas.Nat.{one_shl}
use Rattle.words.proofs.bits.Goals as goal

pub returns : goal.returns
returns c = rw (one_shl c.args.width 64 c.requires.1) (and_mask _ c.args.width)
