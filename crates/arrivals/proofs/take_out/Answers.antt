use Rattle.arrivals.proofs.Holding.{closed}
use Rattle.arrivals.proofs.take_out.Goals as goal

pub returns : goal.returns
returns c =
    rw (c.copy_within.ensures.after, c.entry_at.ensures, c.entry_at-2.ensures, c.entry_at-3.ensures)
    (closed c.args.waiting.now c.args.slot c.requires)
