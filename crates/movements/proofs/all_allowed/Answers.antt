use native.Mathlib.Omega.{arith}
use mathlib.Core.Path.{refl, ◌∙◌}
use borrow.Author.Tests.{tests}
use Rattle.std.proofs.Common.{rules}
use Rattle.std.proofs.lemmas.Iterator.{YieldsList-from_range}
use Rattle.std.proofs.lemmas.Iterator.Search.{all_from_yields_List}
use Rattle.movements.specs.Movements.{movement, movement_count, movement_allowed}
use Rattle.protocol.proofs.logic.Ranges.{all_of_range}
use Rattle.movements.proofs.all_allowed.Goals as goal

pub returns : goal.returns
returns c =
    let a = c.args in
    all_from_yields_List (λ k. movement_allowed a.replicas a.added (movement a.movements.now k)) _ _ _ c.all.ensures.ran
    (YieldsList-from_range 0 _ (movement_count a.movements.now) refl (omega arith))
    (λ x b q k. search (rules, tests))
    ∙ all_of_range _ (movement_count a.movements.now)
