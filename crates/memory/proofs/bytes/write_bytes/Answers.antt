use Rattle.std.proofs.Common.{◌<◌, ◌+◌, ◌^◌, ◌-◌, ◌≡◌, length, arith, rules}
use Rattle.memory.proofs.ByBytes.{le_written}
use Rattle.memory.proofs.bytes.write_bytes.Goals as goal

pub returns : goal.returns
returns g c =
    let a = c.args in
    let size : length a.mem.now < 2 ^ 64 = search rules in
    let k : a.a + g.row.N - a.a ≡ g.row.N = omega arith in
    rw (c.copy_from_slice.ensures.after, c.to_le_bytes.ensures, k) (le_written a.mem.now a.a g.row.N a.v c.requires.0 size c.requires.1)
