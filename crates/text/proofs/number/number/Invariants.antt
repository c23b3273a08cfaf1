-- v is what the digits before this one spell, below 16 ^ i for i of them.
use Rattle.std.proofs.Common.{◌≡◌, ◌^◌, ◌<◌, ◌≤◌, length, drop}
use Rattle.text.specs.Number.{spelled}
use Rattle.text.proofs.number.number.Given as goal

abbrev pub invariant-loop-b : goal.invariant-loop-b
invariant-loop-b l = (length l.s ≤ 16) × (l.v < 16 ^ l.b-index) × (spelled l.base l.v (drop l.b-index l.s) ≡ spelled l.base 0 l.s)
