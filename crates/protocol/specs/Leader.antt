-- The leader of a view (document 01, "Memory", the paragraph "Kinds"; document 02, #103).
use Rattle.std.specs.Prelude.{ℕ, zero, suc, ◌%◌, Bool, false, eqb}
use Rattle.protocol.specs.Memory.{replica_count}

-- Whether, with this f, a replica leads a view. In place of document 01's "The leader of view v is v mod n.", document 02, #103: "The leader
-- of view v is (v−1) mod n. View 0 has no leader". It goes by the view before, so nothing is subtracted.
unfoldable pub leads : ℕ → ℕ → ℕ → Bool
leads f zero replica = false
leads f (suc before) replica = eqb replica (before % replica_count f)
