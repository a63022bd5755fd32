use mathlib.Core.Path.{◌≡◌, ◌∙◌}
use mathlib.Core.Bool.{◌&&◌}
use mathlib.Core.List.{[], ◌∷◌}
use borrow.Author.Rules.{rules}
use lib.Dec.{eqb}
use Rattle.protocol.specs.Certificates.{COMMIT}
use Rattle.protocol.specs.Quorum.{is_commit_of}
use Rattle.protocol.proofs.logic.Joined.{joined_all}
use Rattle.quorum.proofs.is_commit_quorum.Goals as goal

pub returns : goal.returns
returns c =
    let a = c.args in
    c.is_quorum.ensures (is_commit_of a.view a.block)
    (λ x r p.
    let read : r ≡ ((eqb x.kind COMMIT && eqb x.view a.view) && eqb x.block a.block) = search rules in
    read ∙ joined_all _ (_ ∷ _ ∷ []))
