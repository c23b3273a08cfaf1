-- What a call that reads line 1 answers, where it may be refused.
-- Setup and Refused are declared in src/lib.rt. Assumes nothing.
use Rattle.std.specs.Prelude.{Result, Ok, Err}
use Rattle.setup.specs.declared.Setup.{Setup}
use Rattle.setup.specs.declared.Refused.{Refused}
use Rattle.setup.specs.declared.question.Question.{Question}
use Rattle.setup.specs.Question.{question_of}
use Rattle.setup.specs.Setup.{ReadSetup}

-- the values of line 1, refused or not
abbrev pub values_in : {R : Type 0} → Result Setup (Refused R) → Setup
values_in (Ok s) = s
values_in (Err e) = e.setup

-- what refuses, without the values
abbrev pub answer_in : {R : Type 0} → Result Setup (Refused R) → Result Setup R
answer_in (Ok s) = Ok s
answer_in (Err e) = Err e.by

-- line 1 as read
abbrev pub setup_as : Result Setup (Refused Question) → ReadSetup
setup_as r = record { question = question_of (answer_in r); setup = values_in r }
