-- Statements with premises, used at a worked execution: the premises hold there by computation.
use Prim.Native.Nat.{◌≤◌}
use Rattle.protocol.specs.Runs.{run}
use Rattle.protocol.specs.Agreement.{end_of}
use Rattle.protocol.proofs.Witnesses.{more_calls, begun, none_opens}
use Rattle.panel.specs.Panel.{panel_answer}
use Rattle.panel.specs.Theorems.{PanelNeverFalls}

pub panel_never_falls_used : PanelNeverFalls → (panel_answer (end_of begun) 0).first ≤ (panel_answer (run (end_of begun) more_calls) 0).first
unfolding PanelNeverFalls
panel_never_falls_used statement = statement begun more_calls none_opens 0
