-- What the loops of `access` find. No promise rests on this file: each of these is proved to be what model's definitions ask.
-- Region is declared in model/src/lib.rt, Denied in model/src/stop.rt. Assumes nothing.
use Rattle.std.specs.Prelude.{ℕ, ◌+◌, ◌-◌, ◌%◌, ◌^◌, Bool, true, false, cond, ◌&&◌, List, [], ◌∷◌, ℤ, pos, ◌+ℤ◌, ◌==◌, bit_and, nat_le, nat_lt, Err}
use Rattle.words.specs.Word.{word}
use Rattle.model.specs.Machine.{region}
use Rattle.model.specs.Regions.{execute, code_regions, permits, implicit_rule, explicit_grants}
use Rattle.model.specs.Bytes.{byte_of}
use Rattle.model.specs.Access.{scan, first_absent}
use Rattle.model.specs.declared.Region.{Region}
use Rattle.model.specs.Access.{Verdict, passed}
use Rattle.model.specs.declared.stop.Denied.TheVariants.{Absent}

-- ---- whether one implicit region decides the whole access: the bytes from a on, of which `last` is the last

-- it keeps its rule and has the first byte and the last, with the permission
abbrev pub has_whole : Region → ℕ → ℕ → ℕ → Bool
has_whole r wanted a last =
    cond (bit_and a r.bound == r.base && (bit_and last r.bound == r.base && permits wanted r)) (implicit_rule r) false

-- it keeps its rule and has one of n bytes
abbrev pub touches : Region → ℕ → ℕ → Bool
touches r last n =
    cond (nat_le ((last + (2 ^ 64 - r.base)) % 2 ^ 64) (((2 ^ 64 - 1) - r.bound + (n - 1)) % 2 ^ 64)) (implicit_rule r) false

-- the first of the regions that has a byte has them all
unfoldable pub grants_whole : List Region → List ℕ → ℕ → ℕ → ℕ → Bool
grants_whole rs [] wanted a n = false
grants_whole rs (m ∷ ms) wanted a n =
    let r = region rs m in
    let last = byte_of a (n - 1) in
    cond (has_whole r wanted a last) true (cond (touches r last n) false (grants_whole rs ms wanted a n))

abbrev pub passes_whole : ℕ → List Region → List ℕ → ℕ → ℕ → ℕ → Bool
passes_whole mode rs ns wanted a n = cond (mode == 0) true (grants_whole rs ns wanted a n)

-- the four bytes at a fetch are in memory, and one region decides them
abbrev pub fetches_whole : ℕ → List Region → ℕ → ℕ → Bool
fetches_whole mode rs length pc = cond (nat_le (pc + 4) length) (passes_whole mode rs code_regions execute pc 4) false

-- ---- what is found of the bytes

abbrev pub explicit_refused : ℕ → Region → ℕ → ℤ → ℕ → ℕ
explicit_refused mode r wanted offset n = scan (λ i. cond (mode == 0) true (explicit_grants r wanted offset i)) 0 n

abbrev pub presence_of : ℕ → ℕ → ℕ → Verdict
presence_of length first count =
    let i = first_absent length first count in
    cond (nat_lt i count) (Err (Absent (byte_of first i))) passed

abbrev pub explicit_first : Region → ℤ → ℕ
explicit_first r offset = word 64 (pos r.base +ℤ offset)
