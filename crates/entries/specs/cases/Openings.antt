-- Openings that are lent the further slice: "An accepted opening empties the entries and these places."
use Rattle.std.specs.Prelude.{ℕ, List, [], ◌∷◌, replicate}
use Rattle.protocol.specs.Memory.{memory}
use Rattle.protocol.specs.Outcome.{wrong_form, out_of_range, wrong_certificate, wrong_steps, wrong_identity, accepted, refused}
use Rattle.entries.specs.Waiting.{Lent, lent}
use Rattle.entries.specs.Arrivals.{LedgerCall, ledger_step, ledger_after}
use Rattle.entries.specs.cases.Rows.{opens, enters, withdraws, matches, asks, Row, ◌gives◌, ◌gives◌leaving◌, Case}
use Rattle.entries.specs.cases.Starts.{forked, nothing, moves, on}

-- Slices for f = 1 that hold anything, and a further one of so many words.
abbrev unopened : ℕ → List Row → Case
unopened length rows = record { start = lent (memory (replicate 38 77) (replicate 16 77) (replicate 4 77)) (replicate length 77); rows = rows }

-- The length of the slice is tested last: "opening tests lengths only", after its 2 and its 12. A refused opening leaves every word.
abbrev pub one_word_less : Case
one_word_less =
    unopened 4218
    (opens 0 [] gives refused out_of_range leaving []
    ∷ opens 31 [] gives refused out_of_range leaving []
    ∷ opens 1 (1 ∷ []) gives refused wrong_steps leaving []
    ∷ opens 1 [] gives refused wrong_form leaving []
    ∷ [])

abbrev pub one_word_more : Case
one_word_more = unopened 4220 (opens 1 [] gives refused wrong_form ∷ [])

-- The ledger's own refusals come through: a table of another f.
abbrev pub its_length : Case
its_length =
    unopened 4219
    (opens 31 [] gives refused out_of_range
    ∷ opens 1 (1 ∷ []) gives refused wrong_steps
    ∷ opens 2 [] gives refused wrong_form
    ∷ opens 1 [] gives accepted 3 0
    ∷ [])

-- ---- what is left of a day

abbrev movements : List ℕ
movements = moves 2 0 1 5

-- Place 0 took an entry out, and one waits again.
abbrev day_before : List LedgerCall
day_before = enters 7 0 1 5 ∷ matches movements 0 7 0 ∷ enters 7 0 1 5 ∷ []

abbrev used : Lent
used = ledger_after (lent forked nothing) day_before

-- A refused opening leaves the entry and the used place.
abbrev pub refused_opening_leaves : Case
refused_opening_leaves =
    record {
      start = used;
      rows =
          matches movements 0 7 0 gives refused wrong_certificate
          ∷ opens 31 [] gives refused out_of_range leaving []
          ∷ opens 1 (1 ∷ []) gives refused wrong_steps leaving []
          ∷ opens 2 [] gives refused wrong_form leaving []
          ∷ asks 1 gives accepted 5 7
          ∷ matches movements 0 7 0 gives refused wrong_certificate
          ∷ [];
    }

-- An accepted one empties both: on the slice that it leaves the place takes out an entry again. The three slices stand as before it, as
-- after it no block is added yet.
abbrev pub opening_empties : Case
opening_empties =
    on (ledger_step used (opens 1 [])).state.waiting
    (asks 1 gives accepted 0 0
    ∷ withdraws 7 gives refused wrong_identity
    ∷ enters 7 0 1 5 gives accepted 0 0
    ∷ matches movements 0 7 0 gives accepted 0 0
    ∷ asks 1 gives accepted 0 0
    ∷ [])

-- From any words: the largest in each.
abbrev pub opened_over_anything : Case
opened_over_anything =
    on (ledger_step (lent forked (replicate 4219 4294967295)) (opens 1 [])).state.waiting
    (asks 0 gives accepted 0 0
    ∷ asks 1 gives accepted 0 0
    ∷ asks 2 gives accepted 0 0
    ∷ withdraws 4294967295 gives refused wrong_identity
    ∷ enters 7 0 1 5 gives accepted 0 0
    ∷ matches movements 0 7 0 gives accepted 0 0
    ∷ [])

unfoldable pub opening_cases : List Case
opening_cases =
    one_word_less
    ∷ one_word_more
    ∷ its_length
    ∷ refused_opening_leaves
    ∷ opening_empties
    ∷ opened_over_anything
    ∷ []
