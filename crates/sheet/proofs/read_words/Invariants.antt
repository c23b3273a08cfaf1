-- What the lines still to come have left begins at a line, and the next number is that line's, one more than the 0a bytes before its first byte
-- (LineStart). Reading what is left comes to reading it all.
use Rattle.std.proofs.Common.{◌≡◌, ℕ, length, drop}
use Rattle.text.specs.Split.{lines}
use Rattle.sheet.specs.Words.{words_of, memory_of}
use Rattle.sheet.specs.Sheet.{words_refusal}
use Rattle.sheet.proofs.Laws.{LeftAt}
use Rattle.sheet.proofs.read_words.Given as goal

abbrev pub invariant-loop-line : goal.invariant-loop-line
invariant-loop-line l =
    (length l.mem ≡ 65536)
    × ((at : ℕ)
    × LeftAt l.s l.line-iterator.a.rest.now at l.line-iterator.b.start
    × (words_refusal l.s at l.least (lines l.line-iterator.a.rest.now) ≡ words_refusal l.s l.start 0 (lines (drop l.start l.s)))
    × (memory_of l.mem (words_of (lines l.line-iterator.a.rest.now)) ≡ memory_of l.fn.mem (words_of (lines (drop l.start l.s)))))
