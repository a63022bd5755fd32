use Rattle.ancestry.proofs.Marking.{climbs_four, climbs_to_root}
use Rattle.ancestry.proofs.+mark_ancestors.Goals as goal

pub returns-then-top-eq-ROOT : goal.returns-then-top-eq-ROOT
returns-then-top-eq-ROOT t c =
    climbs_to_root c.if-top-eq-ROOT.true
    (climbs_four c.mark_four-first.ensures c.mark_four-second.ensures c.mark_four-third.ensures c.mark_four-top.ensures)
