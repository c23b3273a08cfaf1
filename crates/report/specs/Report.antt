-- The whole program of document 01, "The run sheet": the bytes that it prints for the bytes that it reads. A run is printed as lines
-- of fields.
-- Fault is declared in model/src/lib.rt, Sheet in sheet/specs/Sheet.antt. Assumes nothing.
use Rattle.std.specs.Prelude.{cond, List, [], ◌∷◌, ◌++◌, ℕ, ◌+◌, eqb}
use Rattle.text.specs.Number.{decimal, hexadecimal}
use Rattle.text.specs.Split.{join_lines}
use Rattle.model.specs.declared.Fault.{Fault}
use Rattle.model.specs.declared.Machine.{Machine}
use Rattle.model.specs.Run.{RunAnswer, run_call}
use Rattle.setup.specs.Setup.{machine_of}
use Rattle.sheet.specs.Words.{memory_of, blank}
use Rattle.sheet.specs.Sheet.{Sheet, read_sheet, refusal_text}

-- "the fault record's occurred, region, op, address"
abbrev pub fault_fields : Fault → List (List ℕ)
fault_fields f = hexadecimal f.occurred ∷ hexadecimal f.region ∷ hexadecimal f.op ∷ hexadecimal f.address ∷ []

-- a result by its parts
abbrev pub answer : ℕ → ℕ → ℕ → Machine → RunAnswer
answer stop count address m = record { stop = stop; count = count; address = address; machine = m }

-- "number (decimal), steps, pc, reason, exit pc, and the fault record's occurred, region, op, address"; "All else is hexadecimal
-- without leading zeros."
abbrev pub result_line : RunAnswer → List (List ℕ)
result_line r =
    decimal r.stop
    ∷ hexadecimal r.count
    ∷ hexadecimal r.machine.pc
    ∷ hexadecimal r.machine.hfi.reason
    ∷ hexadecimal r.machine.hfi.epc
    ∷ fault_fields r.machine.hfi.fault

-- "each non-zero register .. as number (decimal), value"
abbrev pub register_line : ℕ → ℕ → List (List (List ℕ))
register_line i v = cond (eqb v 0) [] ((decimal i ∷ hexadecimal v ∷ []) ∷ [])

-- "rising": the registers from register i on
unfoldable pub register_lines : ℕ → List ℕ → List (List (List ℕ))
register_lines i [] = []
register_lines i (v ∷ vs) = register_line i v ++ register_lines (i + 1) vs

-- "Otherwise it prints": the result, "then each non-zero register"
abbrev pub result_text : RunAnswer → List ℕ
result_text r = join_lines (result_line r ∷ register_lines 0 r.machine.x)

-- what is printed of a sheet whose words are placed over a memory: "The first no is printed as one line"; "Otherwise it prints"
-- the result of the run
abbrev pub printed : List ℕ → Sheet → List ℕ
printed mem h =
    cond (eqb h.refusal.question 0)
    (result_text (run_call (machine_of h.setup) (memory_of mem h.words) h.setup.budget).result)
    (refusal_text h.refusal.question h.refusal.lineno)

unfoldable pub report_over : List ℕ → List ℕ → List ℕ
report_over mem s = printed mem (read_sheet s)

-- "Memory is 65,536 zero bytes before the words are placed"
unfoldable pub report : List ℕ → List ℕ
report s = report_over blank s
