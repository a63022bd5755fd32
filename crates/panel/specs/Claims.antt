-- What is claimed of the front panel: each field is a statement of this crate; proofs/Claims.antt holds the proof of each.
use Rattle.panel.specs.Theorems.{PanelShowsHistory, PanelNeverFalls, PanelIsKeptHeight}

pub record Claims : Type 0 where
  -- ---- Demand 3: decisions never conflict, and no panel falls.
  -- what a panel reads is the history's panel
  pub panel_shows_history : PanelShowsHistory
  -- what a panel reads never falls
  pub panel_never_falls : PanelNeverFalls
  -- ---- Heights kept with the blocks (document 02, #105).
  -- in well-formed memory a replica's panel is the height kept with its decided block
  pub panel_is_kept_height : PanelIsKeptHeight
