use native.Mathlib.Omega.{arith}
use mathlib.Core.Path.{refl, ◌∙◌}
use mathlib.Core.Bool.{true, ◌&&◌}
use borrow.Author.Tests.{tests}
use Rattle.std.proofs.Common.{rules}
use Rattle.std.proofs.lemmas.Iterator.{YieldsList-from_range}
use Rattle.std.proofs.lemmas.Iterator.Consumers.{fold_from_yields_List}
use Rattle.entries.specs.Entries.{entry, entry_allowed}
use Rattle.protocol.proofs.logic.Ranges.{all_folded}
use Rattle.arrivals.proofs.entries_formed.Goals as goal

pub returns : goal.returns
returns c =
    let a = c.args in
    fold_from_yields_List _ (λ so_far k. so_far && entry_allowed a.replicas (entry a.waiting.now k)) true _ c.fold.ensures.ran
    (YieldsList-from_range 0 a.count a.count refl (omega arith))
    (λ z x b q k. search (rules, tests))
    ∙ all_folded _ a.count
