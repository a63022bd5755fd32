-- The table of nettings, by computation.
use mathlib.Core.Path.{refl}
use mathlib.Core.List.{List, map}
use lib.IntN.{ℤ}
use Rattle.protocol.specs.Memory.{update, append_block}
use Rattle.protocol.specs.Ancestry.{ancestor_within}
use Rattle.protocol.specs.Form.{all_hold, all_below, block_formed, replica_formed, certificate_formed, lengths_fit, counts_fit, steps_formed}
use Rattle.protocol.specs.Form.{well_formed}
use Rattle.protocol.specs.Counter.{steps_from, steps_allowed}
use Rattle.protocol.specs.Outcome.{AnswerOf, first_refusal, answered, follow}
use Rattle.protocol.specs.Calls.{fresh_replicas, opening, block}
use Rattle.protocol.specs.Runs.{rule_of, step, run}
use Rattle.movements.specs.Movements.{movement_allowed, is_movement_list}
use Rattle.netting.specs.Netting.{sum_below, pallets_of, netting_rule, netting}
use Rattle.netting.specs.cases.Balances.{Case, AsExpected, balances, limits, refusals, NettingCasesHold}

-- Everything that a netting is made of opens with this.
unfoldable pub answers : List Case → List (AnswerOf ℤ)
unfolding update append_block ancestor_within all_hold all_below block_formed replica_formed certificate_formed lengths_fit counts_fit
    steps_formed well_formed steps_from steps_allowed first_refusal answered follow fresh_replicas opening block rule_of step run movement_allowed
    is_movement_list sum_below pallets_of netting_rule netting
answers cases = map (λ (c : Case). (netting c.start c.movements c.chosen c.firm).answer) cases

balances_hold : AsExpected balances
unfolding answers balances
balances_hold = refl

limits_hold : AsExpected limits
unfolding answers limits
limits_hold = refl

refusals_hold : AsExpected refusals
unfolding answers refusals
refusals_hold = refl

pub netting-cases-hold : NettingCasesHold
unfolding NettingCasesHold
netting-cases-hold = (balances_hold, limits_hold, refusals_hold)
