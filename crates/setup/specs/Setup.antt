-- Line 1 of a sheet: "pc, options, handler, then base, bound or mask, permission for regions 1, 2, 3, then budget" (01, The run sheet),
-- or for all ten (02, Job 7); and the machine that a run of the sheet starts from.
-- Setup and Form are declared in src/lib.rt, Region and Machine in model/src/lib.rt, Row in text/specs/Split.antt. Assumes nothing.
use Rattle.std.specs.Prelude.{Bool, true, cond, ◌&&◌, ◌||◌, List, [], ◌∷◌, ◌++◌, ℕ, ◌+◌, ◌-◌, ◌*◌, eqb, leb, get_or, take, replicate}
use Rattle.text.specs.Split.{Row, row_of, all_wide}
use Rattle.text.specs.Questions.{first_no}
use Rattle.model.specs.Machine.{last_region, no_region, regions_from}
use Rattle.model.specs.declared.Region.{Region}
use Rattle.model.specs.declared.Machine.{Machine}
use Rattle.setup.specs.declared.Form.{Form}
use Rattle.setup.specs.declared.Form.TheVariants.{Short, Long}
use Rattle.setup.specs.declared.Setup.{Setup}

-- ---- a line that gives n regions: pc, options, handler, three fields for each region, then the budget

abbrev pub budget_field : ℕ → ℕ
budget_field n = 3 + 3 * n

abbrev pub setup_fields : ℕ → ℕ
setup_fields n = 4 + 3 * n

-- "A setup line has 13 fields, the other regions then being zero, or 34, with regions 1 to 10 in order and the budget last." (02, Job 7)

-- 13 fields give three regions, 34 give all
abbrev pub few_regions : ℕ
few_regions = 3

-- "32 lets 34 pass"
abbrev pub counted : ℕ → Bool
counted count = eqb count (setup_fields few_regions) || eqb count (setup_fields last_region)

-- how many regions a line of so many fields gives
abbrev pub regions_given : ℕ → ℕ
regions_given count = cond (eqb count (setup_fields few_regions)) few_regions last_region

-- how many regions a form gives
abbrev pub regions_in : Form → ℕ
regions_in Short = few_regions
regions_in Long = last_region

-- line 1 as a row, with a slot for each of 34 fields
abbrev pub setup_row : List ℕ → Row
setup_row line = row_of (setup_fields last_region) line

-- "An empty budget now means 50,000." (02, Job 4)
abbrev pub default_budget : ℕ
default_budget = 50000

-- the values of a row that gives n regions, "the other regions then being zero"
abbrev pub setup_of : ℕ → Row → Setup
setup_of n r =
    record {
      pc = get_or r.values 0 0;
      options = get_or r.values 1 0;
      handler = get_or r.values 2 0;
      regions = regions_from r.values 3 n ++ replicate (last_region - n) no_region;
      budget = cond (eqb (get_or r.widths (budget_field n) 0) 0) default_budget (get_or r.values (budget_field n) 0);
    }

unfoldable pub permissions_in_range : List Region → Bool
permissions_in_range [] = true
permissions_in_range (r ∷ rs) = leb r.permission 0xff && permissions_in_range rs

-- the fields before the budget have 1 to 16 digits, "an empty budget passes"
abbrev pub digits_in_range : ℕ → Row → Bool
digits_in_range n r = all_wide (take (budget_field n) r.widths) && leb (get_or r.widths (budget_field n) 0) 16

abbrev pub values_in_range : Setup → Bool
values_in_range s = leb s.options 0xff && (permissions_in_range s.regions && leb s.budget 0xffffffff)

-- "32: are there 13 fields (line 1) or 2?", and "32 lets 34 pass" (02, Job 7); "33: has each field 1 to 16 digits (an empty budget
-- passes)? 34: are options and permissions at most ff, budget and words at most ffffffff"
abbrev pub setup_questions : ℕ → Row → Setup → List (Bool × ℕ)
setup_questions n r s =
    ((counted r.count, 32)
    ∷ (digits_in_range n r, 33)
    ∷ (values_in_range s, 34)
    ∷ [])

-- line 1 as read: the question of 32 to 34 that it fails first, 0 where it fails none, and its values
pub record ReadSetup : Type 0 where
  pub question : ℕ
  pub setup : Setup

unfoldable pub read_setup : Row → ReadSetup
read_setup r =
    let n = regions_given r.count in
    record { question = first_no (setup_questions n r (setup_of n r)); setup = setup_of n r }

-- "mode starts at 1, all else at 0"
abbrev pub machine_of : Setup → Machine
machine_of s =
    record {
      x = replicate 32 0;
      pc = s.pc;
      hfi =
          record {
            mode = 1;
            reason = 0;
            epc = 0;
            options = s.options;
            handler = s.handler;
            selector = 0;
            regions = s.regions;
            fault = record { occurred = 0; region = 0; op = 0; address = 0 };
          };
    }
