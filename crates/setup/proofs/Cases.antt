-- Document 01's whole example: the values of its line 1; lines of 13 and of 34 fields; and budgets.
use mathlib.Core.Path.{◌≡◌, refl}
use mathlib.Core.Bool.{Bool, true, ◌&&◌}
use mathlib.Core.List.{List, [], ◌∷◌, ◌++◌}
use Prim.Native.Nat.{ℕ}
use lib.Dec.{eqb}
use lib.ListN.{replicate}
use Rattle.text.specs.Ascii.{ascii}
use Rattle.text.specs.Split.{split, row_of, all_wide}
use Rattle.text.specs.Number.{spelled}
use Rattle.model.specs.Machine.{no_region}
use Rattle.setup.specs.Setup.{permissions_in_range, setup_row, read_setup}

-- "13 fields, the other regions then being zero"
pub example_setup : (read_setup (setup_row (ascii "0,5,100,200,10,3,0,0,0,0,fffffffffffffff0,4,a"))).setup
    ≡ record {
      pc = 0;
      options = 5;
      handler = 0x100;
      regions =
          record { base = 0x200; bound = 0x10; permission = 3 }
          ∷ record { base = 0; bound = 0; permission = 0 }
          ∷ record { base = 0; bound = 0xfffffffffffffff0; permission = 4 }
          ∷ replicate 7 no_region;
      budget = 10;
    }
unfolding read_setup row_of split spelled
example_setup = refl

-- ---- "34, with regions 1 to 10 in order and the budget last" (02, Job 7)

-- the fields of regions 1 to 3, 4 to 9, and 10
abbrev three : List ℕ
three = ascii "0,5,100,200,10,3,0,0,0,0,fffffffffffffff0,4"

abbrev six : List ℕ
six = ascii ",41,42,43,51,52,53,61,62,63,71,72,73,81,82,83,91,92,93"

abbrev ten : List ℕ
ten = ascii ",a1,a2,a3"

pub ten_regions : (read_setup (setup_row (three ++ six ++ ten ++ ascii ",a"))).setup
    ≡ record {
      pc = 0;
      options = 5;
      handler = 0x100;
      regions =
          record { base = 0x200; bound = 0x10; permission = 3 }
          ∷ record { base = 0; bound = 0; permission = 0 }
          ∷ record { base = 0; bound = 0xfffffffffffffff0; permission = 4 }
          ∷ record { base = 0x41; bound = 0x42; permission = 0x43 }
          ∷ record { base = 0x51; bound = 0x52; permission = 0x53 }
          ∷ record { base = 0x61; bound = 0x62; permission = 0x63 }
          ∷ record { base = 0x71; bound = 0x72; permission = 0x73 }
          ∷ record { base = 0x81; bound = 0x82; permission = 0x83 }
          ∷ record { base = 0x91; bound = 0x92; permission = 0x93 }
          ∷ record { base = 0xa1; bound = 0xa2; permission = 0xa3 }
          ∷ [];
      budget = 10;
    }
unfolding read_setup row_of split spelled
ten_regions = refl

-- line 1, and the question that it fails first
abbrev pub questions : List (List ℕ × ℕ)
questions =
    -- 13 and 34 fields
    (three ++ ascii ",a", 0)
    ∷ (three ++ six ++ ten ++ ascii ",a", 0)
    -- 12, 14, 33 and 35
    ∷ (three, 32)
    ∷ (three ++ ascii ",0,a", 32)
    ∷ (three ++ six ++ ten, 32)
    ∷ (three ++ six ++ ten ++ ascii ",0,a", 32)
    -- 31, without region 10
    ∷ (three ++ six ++ ascii ",a", 32)
    -- an empty budget
    ∷ (three ++ ascii ",", 0)
    ∷ (three ++ six ++ ten ++ ascii ",", 0)
    -- a budget of 17 digits, and one above ffffffff
    ∷ (three ++ six ++ ten ++ ascii ",0000000000000000a", 33)
    ∷ (three ++ six ++ ten ++ ascii ",100000000", 34)
    -- an empty field of region 4, where 13 fields have the budget, and of region 7
    ∷ (three ++ ascii ",,42,43,51,52,53,61,62,63,71,72,73,81,82,83,91,92,93" ++ ten ++ ascii ",a", 33)
    ∷ (three ++ ascii ",41,42,43,51,52,53,61,62,63,71,,73,81,82,83,91,92,93" ++ ten ++ ascii ",a", 33)
    -- 100000000 as the base of region 4, which stands where 13 fields have the budget; 100 and ff as the permission of region 10
    ∷ (three ++ ascii ",100000000,42,43,51,52,53,61,62,63,71,72,73,81,82,83,91,92,93" ++ ten ++ ascii ",a", 0)
    ∷ (three ++ six ++ ascii ",a1,a2,100,a", 34)
    ∷ (three ++ ascii ",41,42,43,51,52,53,61,62,63,71,72,100,81,82,83,91,92,93" ++ ten ++ ascii ",a", 34)
    ∷ (three ++ six ++ ascii ",a1,a2,ff,a", 0)
    -- an empty permission before the budget, and an empty pc
    ∷ (ascii "0,5,100,200,10,3,0,0,0,0,fffffffffffffff0,,a", 33)
    ∷ (three ++ six ++ ascii ",a1,a2,,a", 33)
    ∷ (ascii ",5,100,200,10,3,0,0,0,0,fffffffffffffff0,4,a", 33)
    -- 33 is asked before 34: options of 100 and an empty field
    ∷ (ascii "0,100,100,200,10,3,0,0,0,0,,4,a", 33)
    ∷ []

abbrev pub all_questions : List (List ℕ × ℕ) → Bool
all_questions [] = true
all_questions (q ∷ qs) = eqb (read_setup (setup_row q.0)).question q.1 && all_questions qs

pub questions_hold : all_questions questions ≡ true
unfolding read_setup row_of split spelled all_wide permissions_in_range
questions_hold = refl

-- ---- the digits of the budget in line 1, and the budget: "An empty budget now means 50,000." (02, Job 4)
abbrev pub budgets : List (List ℕ × ℕ)
budgets =
    ([], 50000)
    ∷ (ascii "0", 0)
    ∷ (ascii "0000000000000000", 0)
    ∷ (ascii "a", 10)
    ∷ (ascii "3e8", 1000)
    ∷ (ascii "c350", 50000)
    ∷ (ascii "ffffffff", 0xffffffff)
    ∷ []

abbrev pub all_budgets : List ℕ → List (List ℕ × ℕ) → Bool
all_budgets before [] = true
all_budgets before (b ∷ bs) = eqb (read_setup (setup_row (before ++ ascii "," ++ b.0))).setup.budget b.1 && all_budgets before bs

pub budgets_hold : (all_budgets three budgets ≡ true) × (all_budgets (three ++ six ++ ten) budgets ≡ true)
unfolding read_setup row_of split spelled
budgets_hold = (refl, refl)
