-- The needs that most calls begin with, in the order of document 01's table of refusals.
use Rattle.std.specs.Prelude.{ℕ, Bool, List, [], ◌∷◌, ltb}
use Rattle.protocol.specs.Memory.{Memory, replica_count, fault_bound, block_count}
use Rattle.protocol.specs.Form.{well_formed}
use Rattle.protocol.specs.Quorum.{is_quorum_size, is_issued, all_issued}
use Rattle.protocol.specs.Outcome.{Need, ◌else◌, wrong_form, out_of_range, unknown_number}

-- A replica number is below n.
abbrev pub is_replica : Memory → ℕ → Bool
is_replica m i = ltb i (replica_count (fault_bound m))

-- A block number is below the count of added ones.
abbrev pub is_block : Memory → ℕ → Bool
is_block m b = ltb b (block_count m)

-- "Every call but opening tests the form of the whole memory." Then the replica,
abbrev pub replica_needs : Memory → ℕ → List Need
replica_needs m i = well_formed m else wrong_form ∷ is_replica m i else out_of_range ∷ []

-- then a certificate's number,
abbrev pub number_needs : Memory → ℕ → List Need
number_needs m number = is_issued m number else unknown_number ∷ []

-- or a list: its length and its numbers.
abbrev pub list_needs : Memory → List ℕ → List Need
list_needs m list = is_quorum_size m list else out_of_range ∷ all_issued m list else unknown_number ∷ []
