use mathlib.Core.Path.{refl, ◌∙◌}
use native.Mathlib.Omega.{arith}
use borrow.Author.Rules.{rules}
use Rattle.std.proofs.lemmas.Iterator.{YieldsList-from_range}
use Rattle.std.proofs.lemmas.Iterator.Search.{all_from_yields_List}
use Rattle.form.specs.inner.Parts.{replica_ok}
use Rattle.protocol.proofs.logic.Ranges.{all_of_range}
use Rattle.form.proofs.replicas_formed.Goals as goal

pub returns : goal.returns
returns c =
    let test = replica_ok c.args.table.now c.args.added in
    all_from_yields_List test _ _ _ c.all.ensures.ran (YieldsList-from_range 0 c.args.replicas c.args.replicas refl (omega arith))
    (λ x b q k. search rules)
    ∙ all_of_range test c.args.replicas
