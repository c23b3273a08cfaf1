-- The lines of the registers before i are written.
use Rattle.std.proofs.Common.{◌+◌, ◌*◌, ◌≤◌, take}
use Rattle.text.specs.Split.{join_lines}
use Rattle.text.specs.Write.{Put}
use Rattle.report.specs.Report.{register_lines}
use Rattle.report.proofs.put_registers.Given as goal

abbrev pub invariant-loop-i : goal.invariant-loop-i
invariant-loop-i l = (l.w.at ≤ l.fn.w.at + 38 * l.i) × Put l.fn.w (join_lines (register_lines 0 (take l.i l.fn.x))) l.w
