-- The view of a commit quorum has a next one.
use mathlib.Core.Path.{sym, ◌∙◌}
use Rattle.protocol.proofs.logic.Booleans.{tests}
use Rattle.checks.proofs.Needed.{needed}
use Rattle.checker.proofs.Justifications.{quorum_view_bound}
use Rattle.checker.proofs.justification.judge.Goals as goal

pub overflow_add-result : goal.overflow_add-result
overflow_add-result c =
    let within = rw c.in-Commits.is at c.requires in
    let quorum = sym c.is_commit_quorum-matching.ensures ∙ needed _ _ c.in_ok-need-in-Commits.ensures in
    omega (tests, quorum_view_bound _ _ _ _ within quorum)
