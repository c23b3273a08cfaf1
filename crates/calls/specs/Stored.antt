-- The machine and the memory that the lines of a stored call describe; README.md has the form. No promise rests on this file: it serves the program `calls`.
-- Machine is declared in model/src/lib.rt, Lines in src/stored.rt. Assumes nothing.
use Rattle.std.specs.Prelude.{◌≡◌, ◌<◌, cond, List, [], ◌∷◌, ℕ, ◌+◌, ◌*◌, eqb, leb, length, get_or, set, drop, replicate}
use Rattle.text.specs.Number.{number}
use Rattle.text.specs.Split.{lines, fields, row_of}
use Rattle.model.specs.Bytes.{written}
use Rattle.model.specs.Machine.{last_region, regions_from}
use Rattle.model.specs.declared.HfiState.{HfiState}
use Rattle.model.specs.declared.Machine.{Machine}
use Rattle.calls.specs.declared.stored.Lines.{Lines}

-- fields by twos: a number in a base, and a hexadecimal one. A last number without a value has the value 0, and an empty last field is none
unfoldable pub pairs : ℕ → List (List ℕ) → List (ℕ × ℕ)
pairs base [] = []
pairs base (f ∷ []) = cond (eqb (length f) 0) [] ((number base f, 0) ∷ [])
pairs base (f ∷ g ∷ fs) = (number base f, number 16 g) ∷ pairs base fs

-- what `put` leaves, of each pair in turn
unfoldable pub put_all : (List ℕ → ℕ → ℕ → List ℕ) → List ℕ → List (ℕ × ℕ) → List ℕ
put_all put x [] = x
put_all put x (p ∷ ps) = put_all put (put x p.0 p.1) ps

-- the pairs of a line that begins with a word
abbrev pub pairs_of : ℕ → List ℕ → List (ℕ × ℕ)
pairs_of base line = pairs base (drop 1 (fields line))

-- "`x`: number and value of each register that is not 0", the numbers in decimal
abbrev pub registers_of : List ℕ → List ℕ
registers_of line = put_all set (replicate 32 0) (pairs_of 10 line)

-- a doubleword in 65,536 bytes, where it has room
abbrev pub put_doubleword : List ℕ → ℕ → ℕ → List ℕ
put_doubleword mem a v = cond (leb a 65528) (written mem a 0 8 v) mem

-- "`memory`: address and value of each doubleword that is not 0"
abbrev pub filled : List ℕ → List ℕ → List ℕ
filled mem line = put_all put_doubleword mem (pairs_of 16 line)

-- "then base, bound or mask and permission of regions 1 to 10"
abbrev pub first_region : ℕ
first_region = 8

-- "then the fault record's occurred, region, op, address"
abbrev pub first_fault : ℕ
first_fault = first_region + 3 * last_region

-- "42 fields with the word `state`"
abbrev pub state_values : List ℕ → List ℕ
state_values line = (row_of (first_fault + 4) line).values

-- "pc, mode, reason, exit pc, options, handler, selector"
abbrev pub hfi_of : List ℕ → HfiState
hfi_of v =
    record {
      mode = get_or v 2 0;
      reason = get_or v 3 0;
      epc = get_or v 4 0;
      options = get_or v 5 0;
      handler = get_or v 6 0;
      selector = get_or v 7 0;
      regions = regions_from v first_region last_region;
      fault =
          record {
            occurred = get_or v first_fault 0;
            region = get_or v (first_fault + 1) 0;
            op = get_or v (first_fault + 2) 0;
            address = get_or v (first_fault + 3) 0;
          };
    }

-- of a state line and a line of registers
abbrev pub machine_of : List ℕ → List ℕ → Machine
machine_of state x =
    record {
      x = registers_of x;
      pc = get_or (state_values state) 1 0;
      hfi = hfi_of (state_values state);
    }

-- "A call is five lines": a text that is not empty begins with one, of which the lines that the text has no more of are empty
pub record FirstCall (s : List ℕ) (c : Lines) (left : List ℕ) : Type 0 where
  pub some : 0 < length s
  pub name : c.name.now ≡ get_or (lines s) 0 []
  pub call : c.call.now ≡ get_or (lines s) 1 []
  pub state : c.state.now ≡ get_or (lines s) 2 []
  pub x : c.x.now ≡ get_or (lines s) 3 []
  pub memory : c.memory.now ≡ get_or (lines s) 4 []
  pub rest : lines left ≡ drop 5 (lines s)
  pub less : length left < length s
