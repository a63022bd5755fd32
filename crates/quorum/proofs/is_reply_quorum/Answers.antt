use mathlib.Core.Path.{◌≡◌, ◌∙◌}
use mathlib.Core.Bool.{not, ◌&&◌}
use mathlib.Core.List.{[], ◌∷◌}
use borrow.Author.Rules.{rules}
use lib.Dec.{eqb}
use Rattle.protocol.specs.Certificates.{REPLY}
use Rattle.protocol.specs.Quorum.{is_reply_to}
use Rattle.protocol.proofs.logic.Joined.{joined_all}
use Rattle.quorum.proofs.is_reply_quorum.Goals as goal

pub returns : goal.returns
returns c =
    let a = c.args in
    let replica = a.replica in
    c.is_quorum.ensures (is_reply_to replica a.boot a.view)
    (λ x r p.
    let read : r
    ≡ ((((eqb x.kind REPLY && eqb x.subject replica) && eqb x.subject_boot a.boot) && eqb x.view a.view) && not (eqb x.signer replica)) =
    search rules in
    read ∙ joined_all _ (_ ∷ _ ∷ _ ∷ _ ∷ []))
