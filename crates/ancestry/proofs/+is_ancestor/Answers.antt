use Rattle.ancestry.proofs.Nearing.{four_nearer, met}
use Rattle.ancestry.proofs.+is_ancestor.Goals as goal

pub returns-then-top-a : goal.returns-then-top-a
returns-then-top-a t c =
    met
    (four_nearer c.four_toward-first.ensures c.four_toward-second.ensures c.four_toward-third.ensures
    c.four_toward-top.ensures)
    c.if-top-a.true
