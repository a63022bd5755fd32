use mathlib.Core.Path.{◌∙◌}
use borrow.Author.Rules.{rules}
use lib.Dec.{ltb}
use Rattle.std.proofs.lemmas.Iterator.{YieldsList-from_slice}
use Rattle.std.proofs.lemmas.Iterator.Search.{all_from_yields_List}
use Rattle.quorum.proofs.Passes.{every_is_all}
use Rattle.quorum.proofs.all_issued.Goals as goal

pub returns : goal.returns
returns c =
    all_from_yields_List (λ x. ltb x c.args.count) _ _ _ c.all.ensures.ran (YieldsList-from_slice c.args.list.now cc)
    (λ x b q k. search rules)
    ∙ every_is_all (λ x. ltb x c.args.count) c.args.list.now
