-- Parts of the rules, as the inner functions have them.
use Rattle.std.specs.Prelude.{ℕ, ◌+◌, ◌≤◌, ◌<◌, ◌≡◌, Bool, not, List, [], ◌∷◌, ◌++◌, length}
use Rattle.protocol.specs.Memory.{memory, row_at, replica_words, replica}
use Rattle.protocol.specs.Ancestry.{is_ancestor_by}
use Rattle.protocol.specs.Form.{all_hold}
use Rattle.protocol.specs.Outcome.{Need, ◌else◌, wrong_form}
use Rattle.movements.specs.declared.Movement.{Movement}
use Rattle.movements.specs.Movements.{max_pallets, max_movements, is_movement_list}
use Rattle.blocks.specs.inner.Records.{parent_in}
use Rattle.ancestry.specs.inner.AncestryFits.{AncestryFits}
use Rattle.entries.specs.Entries.{max_waiting, max_replicas, entry_width, entry_at, waiting_words, waiting_count, entry, is_used, holding}
use Rattle.entries.specs.Entries.{refreshed}
use Rattle.entries.specs.Waiting.{Lent, form_needs, place_needs, is_of_entry}
use Rattle.arrivals.specs.inner.Found.{closed_up}

abbrev pub decided_in : List ℕ → ℕ → ℕ
decided_in table i = (replica (memory table [] []) i).decided_block

-- The needs of a match before its identity.
abbrev pub listed_needs : Lent → List ℕ → ℕ → ℕ → List Need
listed_needs s movements i place = is_movement_list movements else wrong_form ∷ (form_needs s ++ place_needs s.memory movements i place)

-- A slot whose entry may leave; and what is left then.
pub record Leavable (w : List ℕ) (slot : ℕ) : Type 0 where
  pub size : length w ≡ waiting_words
  pub few : waiting_count w ≤ max_waiting
  pub pallets : (k : ℕ) → k < waiting_count w → (entry w k).pallets ≤ max_pallets
  pub there : slot < waiting_count w
  pub known : (entry w slot).taker < max_replicas

abbrev pub left_by : List ℕ → ℕ → List ℕ
left_by w slot = refreshed (holding w (closed_up w slot)) (entry w slot).taker

-- What is read to see whether a movement fits; and whether it does.
pub record Fitting (table blocks w : List ℕ) (i slot place : ℕ) : Type 0 where
  pub row : row_at i + replica_words ≤ length table
  pub size : length w ≡ waiting_words
  pub slot_fits : entry_at slot + entry_width ≤ waiting_words
  pub place_fits : place < max_movements
  pub walk : AncestryFits blocks (decided_in table i)

abbrev pub movement_fits : List ℕ → List ℕ → List ℕ → Movement → ℕ → ℕ → ℕ → Bool
movement_fits table blocks w x i slot place =
    all_hold
    (is_of_entry x (entry w slot)
    ∷ is_ancestor_by (parent_in blocks) x.block (decided_in table i)
    ∷ not (is_used w place)
    ∷ [])
