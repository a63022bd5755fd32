-- The proof of each claim.
use Rattle.netting.specs.Claims.{Claims}
use Rattle.netting.proofs.Theorems.{netting-changes-nothing, refused-netting-is-zero, netting-lowest-wins}
use Rattle.netting.proofs.Theorems.{netting-past-counts-unread, balances-add-up, balances-bounded, longer-counts-more}
use Rattle.netting.proofs.Theorems.{equally-long-is-one, chain-length-is-height, counts-match-history, longer-nets-more}
use Rattle.netting.proofs.Theorems.{netting-matches-history, decided-can-be-netted}
use Rattle.netting.proofs.cases.Balances.{netting-cases-hold}

pub claimed : Claims
claimed =
    record {
      netting_changes_nothing = netting-changes-nothing;
      refused_netting_is_zero = refused-netting-is-zero;
      netting_lowest_wins = netting-lowest-wins;
      netting_past_counts_unread = netting-past-counts-unread;
      balances_add_up = balances-add-up;
      balances_bounded = balances-bounded;
      longer_counts_more = longer-counts-more;
      equally_long_is_one = equally-long-is-one;
      chain_length_is_height = chain-length-is-height;
      counts_match_history = counts-match-history;
      longer_nets_more = longer-nets-more;
      netting_matches_history = netting-matches-history;
      decided_can_be_netted = decided-can-be-netted;
      netting_cases_hold = netting-cases-hold;
    }
