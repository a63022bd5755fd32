-- Document 01's worked script, as document 02 changes it, and a script of openings with steps, in the form in which the program reads and
-- writes them: fields of eight columns, line feeds, line numbers.
use Rattle.std.specs.Prelude.{ℕ, ◌≡◌, List, [], ◌∷◌, ◌++◌, replicate}
use Rattle.protocol.specs.History.{added, decided, other}
use Rattle.field.specs.Field.{field_of}
use Rattle.script.specs.Text.{line_feed}
use Rattle.stream.specs.Output.{output}
use Rattle.stream.specs.Agreement.{told_within, OpenedAt}

-- The fields of a line, and its line feed.
unfoldable pub line_of : List ℕ → List ℕ
line_of [] = line_feed ∷ []
line_of (number ∷ numbers) = field_of number ++ line_of numbers

unfoldable pub text_of : List (List ℕ) → List ℕ
text_of [] = []
text_of (numbers ∷ rest) = line_of numbers ++ text_of rest

-- "Input fields: `0 1 0`, `5 0 1`, `5 1 1`, `6 1 0 0 1`, `1 0 0`, `2 1 1 2`, `4 0 3`, `8 1 0`, `4 1 3`, `4 2 3`, `7 0 0 4 5`." Document 02,
-- #103: "In 01's script prepare and accumulate move to box 0 and the answers are worked out anew": so `6 0 0 0 1` and `2 0 1 2`; the answers
-- come out as they were.
unfoldable pub worked_input : List (List ℕ)
worked_input =
    (0 ∷ 1 ∷ 0 ∷ [])
    ∷ (5 ∷ 0 ∷ 1 ∷ [])
    ∷ (5 ∷ 1 ∷ 1 ∷ [])
    ∷ (6 ∷ 0 ∷ 0 ∷ 0 ∷ 1 ∷ [])
    ∷ (1 ∷ 0 ∷ 0 ∷ [])
    ∷ (2 ∷ 0 ∷ 1 ∷ 2 ∷ [])
    ∷ (4 ∷ 0 ∷ 3 ∷ [])
    ∷ (8 ∷ 1 ∷ 0 ∷ [])
    ∷ (4 ∷ 1 ∷ 3 ∷ [])
    ∷ (4 ∷ 2 ∷ 3 ∷ [])
    ∷ (7 ∷ 0 ∷ 0 ∷ 4 ∷ 5 ∷ [])
    ∷ []

-- Line number, answer and both values.
unfoldable pub worked_output : List (List ℕ)
worked_output =
    (1 ∷ 0 ∷ 3 ∷ 0 ∷ [])
    ∷ (2 ∷ 0 ∷ 0 ∷ 0 ∷ [])
    ∷ (3 ∷ 0 ∷ 1 ∷ 0 ∷ [])
    ∷ (4 ∷ 0 ∷ 2 ∷ 0 ∷ [])
    ∷ (5 ∷ 0 ∷ 1 ∷ 0 ∷ [])
    ∷ (6 ∷ 0 ∷ 3 ∷ 0 ∷ [])
    ∷ (7 ∷ 0 ∷ 4 ∷ 0 ∷ [])
    ∷ (8 ∷ 0 ∷ 1 ∷ 64 ∷ [])
    ∷ (9 ∷ 4 ∷ 0 ∷ 0 ∷ [])
    ∷ (10 ∷ 0 ∷ 5 ∷ 0 ∷ [])
    ∷ (11 ∷ 0 ∷ 1 ∷ 1 ∷ [])
    ∷ []

unfoldable pub WorkedScript : Type 0
WorkedScript = output (text_of worked_input) ≡ text_of worked_output

-- What the ten lines after its opening tell, the newest first: block 1 came on block 0, and replica 0 decided block 1 in view 1.
unfoldable pub WorkedScriptTells : Type 0
WorkedScriptTells =
    told_within (text_of worked_input) 0 10
    ≡ decided 0 1 1 ∷ other ∷ other ∷ other ∷ other ∷ other ∷ added 1 0 ∷ other ∷ other ∷ other ∷ []

-- Its first line is the opening, and none of the ten is another: so `ProgramAgrees` speaks of this decision.
unfoldable pub WorkedScriptOpens : Type 0
WorkedScriptOpens = OpenedAt (text_of worked_input) 0 10

-- ---- A pool's own steps (document 02, #104): "In a script they are the list of code 0, which may have 0 to 31 fields."

-- Before anything is open a bad list gives 12 and opens nothing. Then a pool's own steps; a bad list for another f, and a number field that
-- is not 0, leave f, table and steps in use: the reserve, the cut and the reserve after it go by the first and the second of them. 31 fields
-- are a list, 32 make no line. f is tested before the list. An empty list brings document 01's steps back.
unfoldable pub steps_input : List (List ℕ)
steps_input =
    (0 ∷ 1 ∷ 0 ∷ 5 ∷ [])
    ∷ (5 ∷ 0 ∷ 1 ∷ [])
    ∷ (0 ∷ 1 ∷ 0 ∷ 2 ∷ 3 ∷ 5 ∷ 7 ∷ 11 ∷ 13 ∷ 17 ∷ 19 ∷ [])
    ∷ (0 ∷ 2 ∷ 0 ∷ 2 ∷ 3 ∷ 5 ∷ 7 ∷ 11 ∷ 13 ∷ 17 ∷ [])
    ∷ (0 ∷ 1 ∷ 7 ∷ 2 ∷ 3 ∷ 5 ∷ 7 ∷ 11 ∷ 13 ∷ 17 ∷ 19 ∷ [])
    ∷ (9 ∷ 0 ∷ 0 ∷ [])
    ∷ (8 ∷ 0 ∷ 0 ∷ [])
    ∷ (9 ∷ 0 ∷ 0 ∷ [])
    ∷ (0 ∷ 1 ∷ 0 ∷ replicate 31 5)
    ∷ (0 ∷ 1 ∷ 0 ∷ replicate 32 5)
    ∷ (0 ∷ 31 ∷ 0 ∷ 5 ∷ [])
    ∷ (0 ∷ 1 ∷ 0 ∷ [])
    ∷ (9 ∷ 0 ∷ 0 ∷ [])
    ∷ []

unfoldable pub steps_output : List (List ℕ)
steps_output =
    (1 ∷ 12 ∷ 0 ∷ 0 ∷ [])
    ∷ (2 ∷ 1 ∷ 0 ∷ 0 ∷ [])
    ∷ (3 ∷ 0 ∷ 3 ∷ 0 ∷ [])
    ∷ (4 ∷ 12 ∷ 0 ∷ 0 ∷ [])
    ∷ (5 ∷ 10 ∷ 0 ∷ 0 ∷ [])
    ∷ (6 ∷ 0 ∷ 4 ∷ 0 ∷ [])
    ∷ (7 ∷ 0 ∷ 1 ∷ 4 ∷ [])
    ∷ (8 ∷ 0 ∷ 10 ∷ 0 ∷ [])
    ∷ (9 ∷ 12 ∷ 0 ∷ 0 ∷ [])
    ∷ (10 ∷ 10 ∷ 0 ∷ 0 ∷ [])
    ∷ (11 ∷ 2 ∷ 0 ∷ 0 ∷ [])
    ∷ (12 ∷ 0 ∷ 3 ∷ 0 ∷ [])
    ∷ (13 ∷ 0 ∷ 128 ∷ 0 ∷ [])
    ∷ []

unfoldable pub StepsScript : Type 0
StepsScript = output (text_of steps_input) ≡ text_of steps_output
