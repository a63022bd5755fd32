-- What finding an entry tells, and what a taker's words may be written from.
use Rattle.std.specs.Prelude.{ℕ, ◌+◌, ◌-◌, ◌≤◌, ◌<◌, ◌≡◌, Bool, cond, List, ◌++◌, length, eqb, Option, None, Some}
use Rattle.movements.specs.Movements.{max_pallets}
use Rattle.entries.specs.Entries.{max_waiting, max_replicas, waiting_words, waiting_count, entry_at, entry_width, entry}
use Rattle.entries.specs.Entries.{entries_from, pallets_for, earliest_for}
use Rattle.entries.specs.declared.Entry.{Entry}
use Rattle.arrivals.specs.declared.TakerTally.{TakerTally}

-- A slice that has the words of a slot, and those of so many slots.
abbrev pub HasSlot : List ℕ → ℕ → Type 0
HasSlot w slot = (entry_at slot + entry_width ≤ length w) × (entry_at slot ≤ waiting_words)

abbrev pub HasSlots : List ℕ → ℕ → Type 0
HasSlots w count = (entry_at count ≤ length w) × (entry_at count ≤ waiting_words)

-- No entry below a slot has the identity.
abbrev pub NoneBelow : List ℕ → ℕ → ℕ → Type 0
NoneBelow w identity slot = (k : ℕ) → k < slot → (entry w k).identity ≡ identity → ⊥

-- The slot of the first entry below a count that has the identity, or none where no entry below it has.
pub record FirstWith (w : List ℕ) (identity count slot : ℕ) : Type 0 where
  pub within : slot < count
  pub before : NoneBelow w identity slot
  pub there : (entry w slot).identity ≡ identity

abbrev pub Found : List ℕ → ℕ → ℕ → Option ℕ → Type 0
Found w identity count None = NoneBelow w identity count
Found w identity count (Some slot) = FirstWith w identity count slot

abbrev pub has_identity : List ℕ → ℕ → ℕ → Bool
has_identity w identity k = eqb (entry w k).identity identity

-- A slot that has an entry; and the entries but that one.
pub record Removable (w : List ℕ) (slot : ℕ) : Type 0 where
  pub size : length w ≡ waiting_words
  pub few : waiting_count w ≤ max_waiting
  pub there : slot < waiting_count w

abbrev pub closed_up : List ℕ → ℕ → List Entry
closed_up w slot = entries_from w 0 slot ++ entries_from w (slot + 1) (waiting_count w - (slot + 1))

-- A slice whose entries are few, of few pallets each, and a taker that it has words for.
pub record Refreshable (w : List ℕ) (taker : ℕ) : Type 0 where
  pub size : length w ≡ waiting_words
  pub few : waiting_count w ≤ max_waiting
  pub pallets : (k : ℕ) → k < waiting_count w → (entry w k).pallets ≤ max_pallets
  pub known : taker < max_replicas

-- A tally with one entry before it, and of a list of entries.
abbrev pub tallied : TakerTally → Entry → ℕ → TakerTally
tallied later e taker =
    record {
      pallets = cond (eqb e.taker taker) e.pallets 0 + later.pallets;
      earliest = cond (eqb e.taker taker) e.identity later.earliest;
    }

abbrev pub tally_of : ℕ → List Entry → TakerTally
tally_of taker es = record { pallets = pallets_for taker es; earliest = earliest_for taker es }
