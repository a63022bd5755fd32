-- Tests joined by `&` are a list of tests.
use mathlib.Core.List.{[], ◌∷◌}
use Rattle.protocol.proofs.logic.Joined.{joined_all}
use Rattle.certificates.proofs.four_of_other_views.Goals as goal

pub returns : goal.returns
returns c =
    rw (c.is_of_other_view.ensures, c.is_of_other_view-2.ensures)
    (rw (c.is_of_other_view-3.ensures, c.is_of_other_view-4.ensures) (joined_all _ (_ ∷ _ ∷ _ ∷ [])))
