-- The proof of each claim.
use Rattle.panel.specs.Claims.{Claims}
use Rattle.panel.proofs.Theorems.{panel-shows-history, panel-never-falls, panel-is-kept-height}

pub claimed : Claims
claimed =
    record {
      panel_shows_history = panel-shows-history;
      panel_never_falls = panel-never-falls;
      panel_is_kept_height = panel-is-kept-height;
    }
