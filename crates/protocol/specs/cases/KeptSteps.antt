-- Rows of the table of cases on where steps stand and what form they have (document 02, #104).
use Rattle.std.specs.Prelude.{ℕ, List, [], ◌∷◌, ◌++◌, replicate, set}
use Rattle.protocol.specs.declared.Call.TheVariants.{Open, View, Reboot, Reserve}
use Rattle.protocol.specs.Memory.{Memory, memory, step_at}
use Rattle.protocol.specs.Outcome.{wrong_form, accepted, refused}
use Rattle.protocol.specs.Runs.{plain}
use Rattle.protocol.specs.cases.Rows.{Case, ◌gives◌}
use Rattle.protocol.specs.cases.Starts.{blank, opened, every_call_refused}

-- Word by word: three of the header, eight steps, nine words a replica.
abbrev pub word_by_word : List ℕ
word_by_word =
    1 ∷ 0 ∷ 1
    ∷ 2 ∷ 3 ∷ 5 ∷ 7 ∷ 11 ∷ 13 ∷ 17 ∷ 19
    ∷ 0 ∷ 0 ∷ 1 ∷ 2 ∷ 0 ∷ 0 ∷ 0 ∷ 0 ∷ 0
    ∷ 0 ∷ 0 ∷ 1 ∷ 2 ∷ 0 ∷ 0 ∷ 0 ∷ 0 ∷ 0
    ∷ 0 ∷ 0 ∷ 1 ∷ 2 ∷ 0 ∷ 0 ∷ 0 ∷ 0 ∷ 0
    ∷ []

-- "The steps are kept after the header in the table"
abbrev pub steps_after_the_header : Case
steps_after_the_header =
    record {
      start = memory word_by_word (blank 1).log (blank 1).blocks;
      rows =
          plain (Reserve 0) gives accepted 4 0
          ∷ plain (Reserve 2) gives accepted 4 0
          ∷ plain (Reboot 2) gives accepted 1 4
          ∷ [];
    }

-- A fresh ledger with one of its steps set by hand.
abbrev pub stepped_by : ℕ → ℕ → Memory
stepped_by k value = memory (set opened.table (step_at k) value) opened.log opened.blocks

-- "the form test covers them": no call but opening takes a step of 0.
abbrev pub no_step_is_zero : Case
no_step_is_zero =
    record {
      start = stepped_by 0 0;
      rows = every_call_refused ++ (plain (Open 1) gives accepted 3 0 ∷ plain (Reserve 0) gives accepted 128 0 ∷ []);
    }

-- A last step that is the one before it is none that is smaller.
abbrev pub equal_steps_do_not_fall : Case
equal_steps_do_not_fall =
    record {
      start = stepped_by 7 512;
      rows =
          plain (View 0 1) gives accepted 0 0
          ∷ plain (Reserve 0) gives accepted 128 0
          ∷ [];
    }

-- What such a ledger gives where the step breaks the form.
abbrev pub with_step : ℕ → ℕ → Case
with_step k value =
    record {
      start = stepped_by k value;
      rows =
          plain (View 0 1) gives refused wrong_form
          ∷ plain (Reserve 0) gives refused wrong_form
          ∷ [];
    }

-- A table of so many zeros is not opened.
abbrev pub of_length : ℕ → Case
of_length words =
    record { start = memory (replicate words 0) (blank 1).log (blank 1).blocks; rows = plain (Open 1) gives refused wrong_form ∷ [] }

-- A step of 4,097, a fall at each pair of neighbours; and lengths about 38, that of a table for f = 1, and 30, which it would be without steps.
abbrev pub broken_tables : List Case
broken_tables =
    with_step 7 4097
    ∷ with_step 1 63
    ∷ with_step 2 63
    ∷ with_step 3 127
    ∷ with_step 4 127
    ∷ with_step 5 255
    ∷ with_step 6 255
    ∷ with_step 7 511
    ∷ of_length 30
    ∷ of_length 37
    ∷ of_length 39
    ∷ []

unfoldable pub kept_step_cases : List Case
kept_step_cases = steps_after_the_header ∷ no_step_is_zero ∷ equal_steps_do_not_fall ∷ broken_tables
