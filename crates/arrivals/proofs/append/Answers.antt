use Rattle.arrivals.proofs.Holding.{appended}
use Rattle.arrivals.proofs.append.Goals as goal

pub returns : goal.returns
returns c =
    rw c.set_entry.ensures (appended c.args.waiting.now c.args.e)
