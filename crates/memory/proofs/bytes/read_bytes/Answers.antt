use Rattle.std.proofs.Common.{◌<◌, ◌+◌, ◌^◌, ◌-◌, ◌≡◌, ◌∙◌, length, arith, rules}
use Rattle.memory.proofs.ByBytes.{value_read, value_fits}
use Rattle.memory.proofs.bytes.read_bytes.Goals as goal

pub returns : goal.returns
returns g c =
    let a = c.args in
    let size : length a.mem.now < 2 ^ 64 = search rules in
    let after = c.copy_from_slice.ensures.after in
    let k : a.a + g.row.N - a.a ≡ g.row.N = omega arith in
    let whole = c.from_le_bytes.ensures ∙ rw (after, k) (value_read a.mem.now a.a g.row.N c.requires.0 size c.requires.1) in
    (whole, rw whole (value_fits a.mem.now a.a g.row.N (λ j. search rules)))
