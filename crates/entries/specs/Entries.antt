-- Entries that wait (document 02, "#108 Movements that wait"): "A further slice of the ledger, laid out as the team likes and lent to these
-- calls and opening only, holds all this; 1 covers its form." Where each word of it stands, and how it is read and written.
use Rattle.std.specs.Prelude.{ℕ, zero, suc, ◌+◌, ◌*◌, Bool, false, cond, not, ◌||◌, List, [], ◌∷◌, ◌++◌, length, get_or, set, leb, eqb}
use Rattle.std.proofs.lemmas.List.Edits.{sets}
use Rattle.protocol.specs.Memory.{max_fault_bound, replica_count}
use Rattle.protocol.specs.Form.{all_hold, all_below}
use Rattle.movements.specs.Movements.{max_movements, transfer_tests}
use Rattle.entries.specs.declared.Entry.{Entry}

-- ---- where its words stand: the count, two words for each taker, the entries in order of arrival, a word for each place of a movement

abbrev pub waiting_count_at : ℕ
waiting_count_at = 0

-- "512 may wait"
abbrev pub max_waiting : ℕ
max_waiting = 512

-- "For each taker the program keeps the pallets waiting and the identity of the earliest arrival still waiting, or 0 if there is none":
-- there is room for as many takers as there can be replicas, so that the slice has one length.
abbrev pub taker_words : ℕ
taker_words = 2

abbrev pub takers_at : ℕ
takers_at = 1

abbrev pub kept_pallets_at : ℕ → ℕ
kept_pallets_at taker = takers_at + taker_words * taker

abbrev pub kept_earliest_at : ℕ → ℕ
kept_earliest_at taker = kept_pallets_at taker + 1

abbrev pub max_replicas : ℕ
max_replicas = replica_count max_fault_bound

-- An entry is four words: identity, giver, taker, pallets.
abbrev pub entry_width : ℕ
entry_width = 4

abbrev pub entries_at : ℕ
entries_at = kept_pallets_at max_replicas

abbrev pub entry_at : ℕ → ℕ
entry_at k = entries_at + entry_width * k

abbrev pub identity_at : ℕ
identity_at = 0

abbrev pub entry_giver_at : ℕ
entry_giver_at = 1

abbrev pub entry_taker_at : ℕ
entry_taker_at = 2

abbrev pub entry_pallets_at : ℕ
entry_pallets_at = 3

-- "the places that took an entry out are kept": a word other than 0 says that the place did.
abbrev pub places_at : ℕ
places_at = entry_at max_waiting

abbrev pub place_at : ℕ → ℕ
place_at place = places_at + place

abbrev pub waiting_words : ℕ
waiting_words = place_at max_movements

-- ---- what they hold

abbrev pub waiting_count : List ℕ → ℕ
waiting_count w = get_or w waiting_count_at 0

abbrev pub kept_pallets : List ℕ → ℕ → ℕ
kept_pallets w taker = get_or w (kept_pallets_at taker) 0

abbrev pub kept_earliest : List ℕ → ℕ → ℕ
kept_earliest w taker = get_or w (kept_earliest_at taker) 0

abbrev pub is_used : List ℕ → ℕ → Bool
is_used w place = not (eqb (get_or w (place_at place) 0) 0)

abbrev pub entry_word : List ℕ → ℕ → ℕ → ℕ
entry_word w k offset = get_or w (entry_at k + offset) 0

abbrev pub entry : List ℕ → ℕ → Entry
entry w k =
    record {
      identity = entry_word w k identity_at;
      giver = entry_word w k entry_giver_at;
      taker = entry_word w k entry_taker_at;
      pallets = entry_word w k entry_pallets_at;
    }

-- So many entries, from one on; and all that wait, the earliest arrival first.
unfoldable pub entries_from : List ℕ → ℕ → ℕ → List Entry
entries_from w k zero = []
entries_from w k (suc n) = entry w k ∷ entries_from w (suc k) n

abbrev pub entries : List ℕ → List Entry
entries w = entries_from w 0 (waiting_count w)

-- ---- the form

-- "An entry has an identity (a word other than 0), giver, taker and pallets under the rules for movements". Where there are so many replicas.
unfoldable pub entry_allowed : ℕ → Entry → Bool
entry_allowed replicas e = all_hold (not (eqb e.identity 0) ∷ transfer_tests replicas e.giver e.taker e.pallets)

-- The slice has its length, no more entries than may wait, and each is one that may be entered. The kept words need no test: they are only
-- handed out, and written from the entries.
unfoldable pub waiting_formed : ℕ → List ℕ → Bool
waiting_formed replicas w =
    all_hold
    (eqb (length w) waiting_words
    ∷ leb (waiting_count w) max_waiting
    ∷ all_below (waiting_count w) (λ k. entry_allowed replicas (entry w k))
    ∷ [])

-- ---- what a list of entries tells

unfoldable pub is_waiting : ℕ → List Entry → Bool
is_waiting identity [] = false
is_waiting identity (e ∷ es) = eqb e.identity identity || is_waiting identity es

-- The first entry of an identity; where there is none, one of zeros.
unfoldable pub entry_of : ℕ → List Entry → Entry
entry_of identity [] = record { identity = 0; giver = 0; taker = 0; pallets = 0 }
entry_of identity (e ∷ es) = cond (eqb e.identity identity) e (entry_of identity es)

-- The entries without the first of an identity.
unfoldable pub without : ℕ → List Entry → List Entry
without identity [] = []
without identity (e ∷ es) = cond (eqb e.identity identity) es (e ∷ without identity es)

-- "the pallets waiting"
unfoldable pub pallets_for : ℕ → List Entry → ℕ
pallets_for taker [] = 0
pallets_for taker (e ∷ es) = cond (eqb e.taker taker) e.pallets 0 + pallets_for taker es

-- "the identity of the earliest arrival still waiting, or 0 if there is none"
unfoldable pub earliest_for : ℕ → List Entry → ℕ
earliest_for taker [] = 0
earliest_for taker (e ∷ es) = cond (eqb e.taker taker) e.identity (earliest_for taker es)

-- ---- changes

abbrev pub words_of : Entry → List ℕ
words_of e = e.identity ∷ e.giver ∷ e.taker ∷ e.pallets ∷ []

abbrev pub all_words_of : List Entry → List ℕ
all_words_of [] = []
all_words_of (e ∷ es) = words_of e ++ all_words_of es

-- The slice with just these entries waiting: their count, and their words one after the other. Words past them are as they were.
unfoldable pub holding : List ℕ → List Entry → List ℕ
holding w es = set (sets w (entry_at 0) (all_words_of es)) waiting_count_at (length es)

-- The slice with the two words of a taker written anew from its entries.
unfoldable pub refreshed : List ℕ → ℕ → List ℕ
refreshed w taker =
    set (set w (kept_pallets_at taker) (pallets_for taker (entries w))) (kept_earliest_at taker) (earliest_for taker (entries w))
