-- What the verdict on a load or a store at a leads to. No promise rests on this file: each of these is proved to be model's
-- load or store. Machine is declared in model/src/lib.rt, the kinds in instructions/src/kind.rt. Assumes nothing.
use Rattle.std.specs.Prelude.{List, ℕ}
use Rattle.instructions.specs.declared.kind.LoadKind.{LoadKind}
use Rattle.instructions.specs.declared.kind.StoreKind.{StoreKind}
use Rattle.model.specs.Machine.{load_op, store_op}
use Rattle.model.specs.Bytes.{value, written}
use Rattle.model.specs.Access.{load_width, store_width}
use Rattle.model.specs.Arithmetic.{extended}
use Rattle.model.specs.Outcome.{Outcome, completed, assigned, with_pc, settle}
use Rattle.model.specs.declared.Machine.{Machine}
use Rattle.model.specs.Access.{Verdict}

abbrev pub finish_load : Machine → List ℕ → ℕ → Verdict → LoadKind → ℕ → ℕ → Outcome
finish_load m mem next v k rd a = settle m mem load_op 16 17 v (completed (assigned m next rd (extended k (value mem a 0 (load_width k)))) mem)

abbrev pub finish_store : Machine → List ℕ → ℕ → Verdict → StoreKind → ℕ → ℕ → Outcome
finish_store m mem next v k value a = settle m mem store_op 16 17 v (completed (with_pc m next) (written mem a 0 (store_width k) value))
