use native.Mathlib.Omega.{arith}
use Rattle.std.proofs.lemmas.Grind.{common_steps}
use Rattle.protocol.proofs.logic.Booleans.{tests, each, all-hold}
use Rattle.protocol.proofs.logic.Joined.{same_test}
use Rattle.form.proofs.is_fault_bound.Goals as goal

pub returns : goal.returns
returns c =
    same_test _ _ (λ e. all-hold _ (grind (arith, common_steps), (grind (arith, common_steps), tt)))
    (λ e. let h = each _ e in grind (tests, common_steps))
