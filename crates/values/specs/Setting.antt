-- What a case starts from. No promise rests on this file: it serves the program `values`.
-- Machine is declared in model/src/lib.rt. Assumes nothing.
use Rattle.std.specs.Prelude.{List, ℕ, zero, suc, ◌+◌, ◌*◌, take, drop}
use Rattle.model.specs.declared.Machine.{Machine}
use Rattle.model.specs.Machine.{zero_regions}
use Rattle.model.specs.Bytes.{written}
use Rattle.text.specs.Number.{number}

-- all zero but the registers and pc
abbrev pub machine_at : List ℕ → ℕ → Machine
machine_at x pc =
    record {
      x = x;
      pc = pc;
      hfi =
          record {
            mode = 0;
            reason = 0;
            epc = 0;
            options = 0;
            handler = 0;
            selector = 0;
            regions = zero_regions;
            fault = record { occurred = 0; region = 0; op = 0; address = 0 };
          };
    }

-- word k of a record: 8 hexadecimal digits, the first of word 0 at position `from`
abbrev pub word_at : List ℕ → ℕ → ℕ → ℕ
word_at r from k = number 16 (take 8 (drop (from + 8 * k) r))

-- the memory with the first n words of a record one after another from a on
unfoldable pub placed : List ℕ → ℕ → List ℕ → ℕ → ℕ → List ℕ
placed r from mem a zero = mem
placed r from mem a (suc k) = written (placed r from mem a k) (a + 4 * k) 0 4 (word_at r from k)
