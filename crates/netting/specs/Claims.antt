-- What is claimed of nettings: each field is a statement of this crate; proofs/Claims.antt holds the proof of each.
use Rattle.netting.specs.Theorems.{NettingChangesNothing, RefusedNettingIsZero, NettingLowestWins, NettingPastCountsUnread}
use Rattle.netting.specs.Theorems.{BalancesAddUp, BalancesBounded, LongerCountsMore, EquallyLongIsOne, ChainLengthIsHeight}
use Rattle.netting.specs.Theorems.{CountsMatchHistory, LongerNetsMore, NettingMatchesHistory, DecidedCanBeNetted}
use Rattle.netting.specs.cases.Balances.{NettingCasesHold}

pub record Claims : Type 0 where
  -- a netting changes no word
  pub netting_changes_nothing : NettingChangesNothing
  -- a refused one returns the number of a need that fails and two zeros
  pub refused_netting_is_zero : RefusedNettingIsZero
  -- of several refusals the lowest is returned
  pub netting_lowest_wins : NettingLowestWins
  -- words past the counts change no balance
  pub netting_past_counts_unread : NettingPastCountsUnread
  -- all balances add up to 0
  pub balances_add_up : BalancesAddUp
  -- a balance is within 20,480,000 either way
  pub balances_bounded : BalancesBounded
  -- of two decided blocks the one with the longer line counts every movement that the other counts
  pub longer_counts_more : LongerCountsMore
  -- two decided blocks with equally long lines are one
  pub equally_long_is_one : EquallyLongIsOne
  -- a line has one block more than its block's height
  pub chain_length_is_height : ChainLengthIsHeight
  -- what counts by the words counts by the parents given
  pub counts_match_history : CountsMatchHistory
  -- of two decided blocks the one with the longer line nets every movement that the other nets
  pub longer_nets_more : LongerNetsMore
  -- a balance is that by the parents given
  pub netting_matches_history : NettingMatchesHistory
  -- every decided block can be netted
  pub decided_can_be_netted : DecidedCanBeNetted
  -- worked nettings
  pub netting_cases_hold : NettingCasesHold
