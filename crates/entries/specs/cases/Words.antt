-- Rows with the words that each call leaves, by index: "A further slice of the ledger, laid out as the team likes". The count; two words for
-- each of 61 takers, pallets and earliest identity, from word 1 on; 512 entries of four words, identity, giver, taker and pallets, from word
-- 123 on; a word for each of 2,048 places, from word 2171 on: 4,219 in all. Each call is made where every word that it sets is another
-- before.
use Rattle.std.specs.Prelude.{List, [], ◌∷◌, ◌++◌, replicate}
use Rattle.protocol.specs.Memory.{memory}
use Rattle.protocol.specs.Theorems.{table_word, block_word}
use Rattle.protocol.specs.Outcome.{accepted}
use Rattle.protocol.specs.cases.Rows.{◌reads◌}
use Rattle.entries.specs.Waiting.{lent}
use Rattle.entries.specs.cases.Rows.{opens, enters, withdraws, matches, asks, Row, ◌gives◌, ◌gives◌leaving◌, ◌holds◌, ledger, Case}
use Rattle.entries.specs.cases.Starts.{moves, waits, by_hand, on}

-- Every word of the slice becomes 0; the ledger's are those of its own opening, with the pool's own steps too.
abbrev pub open_leaves : Case
open_leaves =
    record {
      start = lent (memory (replicate 38 77) (replicate 16 77) (replicate 4 77)) (replicate 4219 77);
      rows =
          opens 1 (2 ∷ 3 ∷ 5 ∷ 7 ∷ 11 ∷ 13 ∷ 17 ∷ 19 ∷ []) gives accepted 3 0 leaving
          (0 holds replicate 4219 0
          ∷ ledger
          (table_word 0 reads
          (1 ∷ 0 ∷ 1
          ∷ 2 ∷ 3 ∷ 5 ∷ 7 ∷ 11 ∷ 13 ∷ 17 ∷ 19
          ∷ 0 ∷ 0 ∷ 1 ∷ 2 ∷ 0 ∷ 0 ∷ 0 ∷ 0 ∷ 0
          ∷ 0 ∷ 0 ∷ 1 ∷ 2 ∷ 0 ∷ 0 ∷ 0 ∷ 0 ∷ 0
          ∷ 0 ∷ 0 ∷ 1 ∷ 2 ∷ 0 ∷ 0 ∷ 0 ∷ 0 ∷ 0
          ∷ []))
          ∷ ledger (block_word 0 reads (0 ∷ 0 ∷ []))
          ∷ [])
          ∷ [];
    }

-- One entry more, after the others; its taker's words are written from all of that taker's.
abbrev pub enter_leaves : Case
enter_leaves =
    on (by_hand 1 (waits 8 0 2 4))
    (enters 7 1 2 5 gives accepted 0 0 leaving (0 holds (2 ∷ []) ∷ 5 holds (9 ∷ 8 ∷ []) ∷ 127 holds (7 ∷ 1 ∷ 2 ∷ 5 ∷ []) ∷ [])
    ∷ enters 9 2 1 6 gives accepted 0 0 leaving (0 holds (3 ∷ []) ∷ 3 holds (6 ∷ 9 ∷ []) ∷ 131 holds (9 ∷ 2 ∷ 1 ∷ 6 ∷ []) ∷ [])
    ∷ enters 6 1 0 3 gives accepted 0 0 leaving (0 holds (4 ∷ []) ∷ 1 holds (3 ∷ 6 ∷ []) ∷ 135 holds (6 ∷ 1 ∷ 0 ∷ 3 ∷ []) ∷ [])
    ∷ [])

abbrev on_three : Row → Case
on_three row = on (by_hand 3 (waits 7 0 1 5 ++ (waits 8 2 1 4 ++ waits 9 1 0 3))) (row ∷ [])

-- The entries after one that leaves move up by one; the words of the last stay behind the count. The words of its taker are written, and of
-- no other.
abbrev pub withdraw_first_leaves : Case
withdraw_first_leaves =
    on_three
    (withdraws 7 gives accepted 0 0 leaving
    (0 holds (2 ∷ []) ∷ 3 holds (4 ∷ 8 ∷ []) ∷ 123 holds (8 ∷ 2 ∷ 1 ∷ 4 ∷ 9 ∷ 1 ∷ 0 ∷ 3 ∷ []) ∷ []))

abbrev pub withdraw_middle_leaves : Case
withdraw_middle_leaves =
    on_three
    (withdraws 8 gives accepted 0 0 leaving (0 holds (2 ∷ []) ∷ 3 holds (5 ∷ 7 ∷ []) ∷ 127 holds (9 ∷ 1 ∷ 0 ∷ 3 ∷ []) ∷ []))

abbrev pub withdraw_last_leaves : Case
withdraw_last_leaves = on_three (withdraws 9 gives accepted 0 0 leaving (0 holds (2 ∷ []) ∷ 1 holds (0 ∷ 0 ∷ []) ∷ []))

-- The same, and 1 for the place.
abbrev pub match_leaves : Case
match_leaves =
    on_three
    (matches (moves 2 0 1 5 ++ (moves 1 2 1 4 ++ moves 1 2 1 4)) 0 8 1 gives accepted 0 0 leaving
    (0 holds (2 ∷ []) ∷ 3 holds (5 ∷ 7 ∷ []) ∷ 127 holds (9 ∷ 1 ∷ 0 ∷ 3 ∷ []) ∷ 2172 holds (1 ∷ []) ∷ []))

abbrev pub match_first_place_leaves : Case
match_first_place_leaves =
    on_three
    (matches (moves 2 1 0 3) 0 9 0 gives accepted 0 0 leaving (0 holds (2 ∷ []) ∷ 1 holds (0 ∷ 0 ∷ []) ∷ 2171 holds (1 ∷ []) ∷ []))

abbrev pub ask_leaves : Case
ask_leaves = on_three (asks 1 gives accepted 77 77 leaving [])

unfoldable pub word_cases : List Case
word_cases =
    open_leaves
    ∷ enter_leaves
    ∷ withdraw_first_leaves
    ∷ withdraw_middle_leaves
    ∷ withdraw_last_leaves
    ∷ match_leaves
    ∷ match_first_place_leaves
    ∷ ask_leaves
    ∷ []
