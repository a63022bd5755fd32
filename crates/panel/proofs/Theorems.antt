-- What specs/Theorems.antt states.
use Prim.Native.Nat.{ℕ, ◌≤◌, ◌<◌}
use mathlib.Core.Path.{◌≡◌, sym, ap, ◌∙◌}
use mathlib.Core.List.{List}
use lib.Dec.{ltb}
use Rattle.protocol.specs.Outcome.{Answer}
use Rattle.protocol.specs.Memory.{Memory, replica_count, replica}
use Rattle.protocol.specs.Form.{replica_formed}
use Rattle.protocol.specs.Runs.{run}
use Rattle.protocol.specs.History.{Event, panel}
use Rattle.protocol.specs.Agreement.{events_of, end_of}
use Rattle.protocol.proofs.logic.Booleans.{tests, by-test, each}
use Rattle.protocol.proofs.memory.Formed.{formed, form, height_kept}
use Rattle.protocol.proofs.agreement.Reached.{Reached, panel_height}
use Rattle.protocol.proofs.agreement.Agreement.{reached_by, reached_on, panel_stays_up}
use Rattle.panel.specs.Panel.{panel_answer}
use Rattle.panel.specs.Theorems.{PanelShowsHistory, PanelNeverFalls, PanelIsKeptHeight}
use Rattle.panel.proofs.Panels.{shown, panel_refused, panel_shown}

-- The panel at any memory that a list of calls reaches: of a replica, and of a number that is none.
module _ (f : ℕ) (events : List Event) (m : Memory) (h : Reached f events m) (i : ℕ) where
  shows : i < replica_count f → panel_answer m i ≡ shown (panel events i)
  shows own =
      let faults = h.faults in
      panel_shown m i (form m h.safe.formed) (omega tests) ∙ ap shown (panel_height f events m h i own)

  shows_none : replica_count f ≤ i → (panel_answer m i).first ≡ 0
  shows_none high =
      let faults = h.faults in
      ap (λ (a : Answer). a.first) (panel_refused m i (form m h.safe.formed) (omega tests))

pub panel-shows-history : PanelShowsHistory
unfolding PanelShowsHistory
panel-shows-history x i own = shows x.f (events_of x) (end_of x) (reached_by x) i own

pub panel-never-falls : PanelNeverFalls
unfolding PanelNeverFalls
panel-never-falls x more once i =
    let later = (reached_on x more once).reached in
    by-test (ltb i (replica_count x.f))
    (λ e.
    rw (shows x.f (events_of x) (end_of x) (reached_by x) i (omega tests), shows x.f _ (run (end_of x) more) later i (omega tests))
    (panel_stays_up x more once i))
    (λ e. rw (shows_none x.f (events_of x) (end_of x) (reached_by x) i (omega tests)) (omega tests))

pub panel-is-kept-height : PanelIsKeptHeight
unfolding PanelIsKeptHeight replica_formed
panel-is-kept-height m i form own =
    let z = formed m form in
    let r = each _ (z.rows i (omega tests)) in
    panel_shown m i form own ∙ ap shown (sym (height_kept m z (replica m i).decided_block (omega tests)))
