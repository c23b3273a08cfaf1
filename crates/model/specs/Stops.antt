-- The documents' number and address of each stop of src/stop.rt: "When an answer is an enum, a definition gives this paper's number
-- and values for each enum case. The promises use this definition." The questions and their numbers stand in Step.antt, Hfi.antt and Run.antt.
-- Op, CallRefusal, Rule and Stop are declared in src/stop.rt. Assumes nothing.
use Rattle.std.specs.Prelude.{ℕ, Result, Ok, Err, ⊤}
use Rattle.model.specs.Machine.{load_op, store_op, fetch_op}
use Rattle.model.specs.declared.stop.Op.{Op}
use Rattle.model.specs.declared.stop.Op.TheVariants.{Load, Store, Fetch}
use Rattle.model.specs.declared.stop.Reason.{Reason}
use Rattle.model.specs.declared.stop.Reason.TheVariants.{Exit, SystemCall as SystemCallReason}
use Rattle.model.specs.declared.stop.CallRefusal.{CallRefusal}
use Rattle.model.specs.declared.stop.CallRefusal.TheVariants.{MemoryTooLong, NotWellFormed, WritableCode}
use Rattle.model.specs.declared.stop.Rule.{Rule}
use Rattle.model.specs.declared.stop.Rule.TheVariants.{Operand, WritableCode as EntersWritableCode, AlreadyInside, NotInside, Locked}
use Rattle.model.specs.declared.stop.Stop.{Stop}
use Rattle.model.specs.declared.stop.Stop.TheVariants.{CallRefused, BudgetTooLarge, OddPc, FetchRefused, FetchAbsent, IllegalWord, Broken, OddTarget, AccessRefused, AccessAbsent, SystemCall, Breakpoint, LeftSandbox, OutOfBudget}

-- "0 none, 1 load, 2 store, 3 fetch"
abbrev pub op_number : Op → ℕ
op_number Load = load_op
op_number Store = store_op
op_number Fetch = fetch_op

-- "exit reason (0 none, 1 hfiexit, 2 system call)"
abbrev pub reason_number : Reason → ℕ
reason_number Exit = 1
reason_number SystemCallReason = 2

-- "5. .. executable? No: 11." "10. Is every data byte granted? No: 16."
abbrev pub refused_number : Op → ℕ
refused_number Load = 16
refused_number Store = 16
refused_number Fetch = 11

-- "6. Are they in memory? No: 12." "11. Are they in memory? No: 17."
abbrev pub absent_number : Op → ℕ
absent_number Load = 17
absent_number Store = 17
absent_number Fetch = 12

-- questions 1, 3 and 4
abbrev pub call_refusal_number : CallRefusal → ℕ
call_refusal_number MemoryTooLong = 1
call_refusal_number NotWellFormed = 3
call_refusal_number WritableCode = 4

-- question 8: 14, and what document 02 made of some of its rules
abbrev pub number_of_rule : Rule → ℕ
number_of_rule Operand = 14
number_of_rule EntersWritableCode = 22
number_of_rule AlreadyInside = 23
number_of_rule NotInside = 24
number_of_rule Locked = 25

abbrev pub stop_number : Stop → ℕ
stop_number (CallRefused refusal) = call_refusal_number refusal
stop_number BudgetTooLarge = 2
stop_number OddPc = 10
stop_number FetchRefused = 11
stop_number (FetchAbsent at) = 12
stop_number IllegalWord = 13
stop_number (Broken rule) = number_of_rule rule
stop_number OddTarget = 15
stop_number AccessRefused = 16
stop_number (AccessAbsent at) = 17
stop_number SystemCall = 18
stop_number Breakpoint = 19
stop_number LeftSandbox = 20
stop_number OutOfBudget = 21

-- "12 and 17 also give the first absent address .. all others give 0 there"
abbrev pub stop_address : Stop → ℕ
stop_address (CallRefused refusal) = 0
stop_address BudgetTooLarge = 0
stop_address OddPc = 0
stop_address FetchRefused = 0
stop_address (FetchAbsent at) = at
stop_address IllegalWord = 0
stop_address (Broken rule) = 0
stop_address OddTarget = 0
stop_address AccessRefused = 0
stop_address (AccessAbsent at) = at
stop_address SystemCall = 0
stop_address Breakpoint = 0
stop_address LeftSandbox = 0
stop_address OutOfBudget = 0

-- of a step that completed or stopped: "A completed step answers 0"
abbrev pub number_of : Result ⊤ Stop → ℕ
number_of (Ok done) = 0
number_of (Err stop) = stop_number stop

abbrev pub address_of : Result ⊤ Stop → ℕ
address_of (Ok done) = 0
address_of (Err stop) = stop_address stop

-- of question 8: 0 where no rule is broken
abbrev pub broken_number : Result ⊤ Rule → ℕ
broken_number (Ok done) = 0
broken_number (Err rule) = number_of_rule rule
