-- Movements of pallets (document 02, "#101 Netting of movements"): a fourth slice of words, lent to a netting alone, which does not change
-- it. "Dispatchers want balances."
use Rattle.std.specs.Prelude.{ℕ, ◌+◌, ◌*◌, ◌/◌, ◌%◌, Bool, not, List, [], ◌∷◌, length, get_or, ltb, leb, eqb}
use Rattle.protocol.specs.Form.{all_hold}
use Rattle.movements.specs.declared.Movement.{Movement}

-- "A movement is four words: block, giver, taker, pallets."
abbrev pub movement_words : ℕ
movement_words = 4

abbrev pub movement_at : ℕ → ℕ
movement_at k = movement_words * k

abbrev pub movement_block_at : ℕ
movement_block_at = 0

abbrev pub giver_at : ℕ
giver_at = 1

abbrev pub taker_at : ℕ
taker_at = 2

abbrev pub pallets_at : ℕ
pallets_at = 3

abbrev pub movement_word : List ℕ → ℕ → ℕ → ℕ
movement_word movements k offset = get_or movements (movement_at k + offset) 0

-- The movement at a place in the list, from 0.
abbrev pub movement : List ℕ → ℕ → Movement
movement movements k =
    record {
      block = movement_word movements k movement_block_at;
      giver = movement_word movements k giver_at;
      taker = movement_word movements k taker_at;
      pallets = movement_word movements k pallets_at;
    }

abbrev pub movement_count : List ℕ → ℕ
movement_count movements = length movements / movement_words

-- "Giver and taker are different boxes, pallets are 1 to 10,000, the block is an added one other than 0, and at most 2,048 movements are
-- lent."
abbrev pub max_pallets : ℕ
max_pallets = 10000

abbrev pub max_movements : ℕ
max_movements = 2048

-- Of giver, taker and pallets, where there are so many replicas.
abbrev pub transfer_tests : ℕ → ℕ → ℕ → ℕ → List Bool
transfer_tests replicas giver taker pallets =
    ltb giver replicas ∷ ltb taker replicas ∷ not (eqb giver taker) ∷ leb 1 pallets ∷ leb pallets max_pallets ∷ []

-- Of a movement, where so many blocks are added too.
unfoldable pub movement_allowed : ℕ → ℕ → Movement → Bool
movement_allowed replicas added x =
    all_hold (not (eqb x.block 0) ∷ ltb x.block added ∷ transfer_tests replicas x.giver x.taker x.pallets)

-- Of the words lent: whole movements, and not too many.
unfoldable pub is_movement_list : List ℕ → Bool
is_movement_list movements = all_hold (eqb (length movements % movement_words) 0 ∷ leb (length movements) (movement_at max_movements) ∷ [])
