-- `append` meets its contract.
use native.Mathlib.Omega.{arith}
use Rattle.certificates.proofs.Filing.{written}
use Rattle.certificates.proofs.append.Goals as goal

pub returns : goal.returns
returns c b =
    let fits = c.requires.fits in
    let room = c.requires.room in
    written c.args.table.now _ b _ c.args.words.now _ c.copy_from_slice.ensures.after (omega arith) (omega arith)
