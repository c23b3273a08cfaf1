-- "When an answer is an enum, a definition gives this paper's number and values for each enum case." (01)
-- Question is declared in src/question.rt. Assumes nothing.
use Rattle.std.specs.Prelude.{ℕ, Result, Ok, Err}
use Rattle.setup.specs.declared.question.Question.{Question}
use Rattle.setup.specs.declared.question.Question.TheVariants.{Whole, ForeignByte, FieldCount, FieldWidth, Range, Order}

abbrev pub question_number : Question → ℕ
question_number Whole = 30
question_number ForeignByte = 31
question_number FieldCount = 32
question_number FieldWidth = 33
question_number Range = 34
question_number Order = 35

-- the number of the question that refuses, 0 where none does
abbrev pub question_of : {A : Type 0} → Result A Question → ℕ
question_of (Ok a) = 0
question_of (Err q) = question_number q
