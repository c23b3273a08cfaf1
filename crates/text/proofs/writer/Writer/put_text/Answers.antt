-- The text is copied into its place.
use Rattle.std.proofs.Common.{refl, arith}
use Rattle.text.proofs.Writing.{wrote_mid, wrote_length}
use Rattle.text.proofs.writer.Writer.put_text.Goals as goal

pub returns : goal.returns
returns c =
    let w = wrote_mid _ c.args.text.now _ _ _ (omega arith) c.copy_from_slice.ensures.after c.requires in
    record { same_buffer = refl; same_length = wrote_length w; wrote = w }
