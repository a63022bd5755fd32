-- What holds of the front panel, `panel_answer`. Proved in proofs/ under the same name in lower case with hyphens.
use Rattle.std.specs.Prelude.{ℕ, ◌≤◌, ◌<◌, ◌≡◌, true, List}
use Rattle.protocol.specs.Memory.{Memory, replica_count, replica, kept_height}
use Rattle.protocol.specs.Form.{well_formed}
use Rattle.protocol.specs.FirstNeeds.{is_replica}
use Rattle.protocol.specs.Runs.{Invocation, run}
use Rattle.protocol.specs.History.{panel}
use Rattle.protocol.specs.Agreement.{OpensNone, Execution, events_of, end_of}
use Rattle.panel.specs.Panel.{panel_answer}

-- "A box's panel shows the height of its shown block, which is the block named by its accepted Decide of greatest view so far": after any
-- list of calls from an accepted opening, every replica's panel is accepted and gives the height that the calls and answers told.
unfoldable pub PanelShowsHistory : Type 0
PanelShowsHistory =
    (x : Execution) (i : ℕ) → i < replica_count x.f
    → panel_answer (end_of x) i ≡ record { number = 0; first = panel (events_of x) i; second = 0 }

-- No panel's height falls: more calls, up to the next accepted opening, leave every panel as high as it was or higher. Of a number
-- that is no replica's the panel is refused, with 0 for a height, all along.
unfoldable pub PanelNeverFalls : Type 0
PanelNeverFalls =
    (x : Execution) (more : List Invocation) → OpensNone (end_of x) more → (i : ℕ)
    → (panel_answer (end_of x) i).first ≤ (panel_answer (run (end_of x) more) i).first

-- Document 02, #105: the height of the decided block is kept with it, so that in well-formed memory a panel is one word of one record.
unfoldable pub PanelIsKeptHeight : Type 0
PanelIsKeptHeight =
    (m : Memory) (i : ℕ) → well_formed m ≡ true → is_replica m i ≡ true
    → panel_answer m i ≡ record { number = 0; first = kept_height m (replica m i).decided_block; second = 0 }
