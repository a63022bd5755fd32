-- What the front panel shows (document 01: "the height of its shown block"): the steps to block 0, by the parents in the words. The code
-- reads the height that is kept with the block; PanelIsKeptHeight says that it is the same.
use Rattle.std.specs.Prelude.{ℕ}
use Rattle.protocol.specs.Memory.{Memory, replica}
use Rattle.protocol.specs.Ancestry.{height}
use Rattle.protocol.specs.Outcome.{Answer, Rule, follow}
use Rattle.protocol.specs.FirstNeeds.{replica_needs}

-- 1 for wrong form and 2 for a replica out of range, with two zeros; else 0, the height of the decided block, and 0. No word changes.
abbrev pub panel_rule : Memory → ℕ → Rule
panel_rule m i = record { needs = replica_needs m i; first = height m (replica m i).decided_block; second = 0; after = m }

unfoldable pub panel_answer : Memory → ℕ → Answer
panel_answer m i = (follow m (panel_rule m i)).answer
