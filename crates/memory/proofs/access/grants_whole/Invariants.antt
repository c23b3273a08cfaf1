use Rattle.std.proofs.Common.{◌≡◌, drop}
use Rattle.memory.specs.Loops.{grants_whole}
use Rattle.memory.proofs.access.grants_whole.Given as goal

abbrev pub invariant-loop-number : goal.invariant-loop-number
invariant-loop-number l =
    grants_whole l.rs (drop l.number-index l.access.regions.now) l.access.wanted l.access.first l.access.count ≡ grants_whole l.rs l.access.regions.now l.access.wanted l.access.first l.access.count
