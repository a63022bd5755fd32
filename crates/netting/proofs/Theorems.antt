-- What specs/Theorems.antt states.
use Prim.Native.Nat.{ℕ, zero, suc, ◌≤◌, ◌<◌}
use mathlib.Core.Path.{◌≡◌, refl, sym, ap, ◌∙◌, subst}
use mathlib.Core.Bool.{true, cond}
use mathlib.Core.Logic.{⊎_elim}
use mathlib.Core.List.{List, Memᴰ}
use native.Mathlib.Omega.{arith}
use lib.IntN.{ℤ, pos, nat_abs, +ℤ_invr}
use Rattle.protocol.specs.Memory.{Memory, memory, replica_count, fault_bound, block_count, parent}
use Rattle.protocol.specs.Ancestry.{Falls, is_ancestor_by, height_by}
use Rattle.protocol.specs.Outcome.{first_refusal, answered, follow}
use Rattle.protocol.specs.Theorems.{Accepted, Alike}
use Rattle.protocol.specs.History.{decided, given_parent}
use Rattle.protocol.specs.Agreement.{Execution, events_of, end_of, Agreement}
use Rattle.protocol.proofs.logic.Booleans.{tests}
use Rattle.protocol.proofs.calls.Needs.{outcome_cases, outcome_state, refused, lowest}
use Rattle.protocol.proofs.memory.Formed.{formed, form, falls}
use Rattle.protocol.proofs.memory.Alike.{twin, parent_same, form_same}
use Rattle.protocol.proofs.agreement.Reached.{Reached, given_falls, chosen_known}
use Rattle.protocol.proofs.agreement.Agreement.{reached_by, agreement}
use Rattle.movements.specs.Movements.{movement, movement_count}
use Rattle.movements.proofs.Allowed.{is-allowed, list_short}
use Rattle.netting.specs.Netting.{sum_below, received, given, counts_by, balance_by, lent, netting_rule, netting}
use Rattle.netting.specs.Theorems.{NettingChangesNothing, RefusedNettingIsZero}
use Rattle.netting.specs.Theorems.{NettingLowestWins, NettingPastCountsUnread}
use Rattle.netting.specs.Theorems.{BalancesAddUp, max_balance, BalancesBounded, LongerCountsMore, EquallyLongIsOne}
use Rattle.netting.specs.Theorems.{chain_length, ChainLengthIsHeight, CountsMatchHistory, LongerNetsMore}
use Rattle.netting.specs.Theorems.{NettingMatchesHistory, DecidedCanBeNetted}
use Rattle.netting.proofs.Sums.{over_firms, total_same, total_less}
use Rattle.netting.proofs.Chains.{chain_same, chain_of_chain, chain_as_high, chain-length}
use Rattle.netting.proofs.Nettings.{balance_same, balance_small, Nets, passes, nets, answers, accepted_netting}

pub netting-changes-nothing : NettingChangesNothing
unfolding NettingChangesNothing netting netting_rule
netting-changes-nothing m movements b i =
    outcome_state (lent m movements) (netting_rule m movements b i) (λ x. x ≡ lent m movements) refl (λ e. refl)

pub refused-netting-is-zero : RefusedNettingIsZero
unfolding RefusedNettingIsZero netting
refused-netting-is-zero m movements b i h = refused (lent m movements) (netting_rule m movements b i) h

pub netting-lowest-wins : NettingLowestWins
unfolding NettingLowestWins netting netting_rule
netting-lowest-wins m movements b i number w = lowest (lent m movements) (netting_rule m movements b i) refl w

-- ---- sums

pub balances-bounded : BalancesBounded
unfolding BalancesBounded netting netting_rule
balances-bounded m movements b i =
    outcome_cases (lent m movements) (netting_rule m movements b i) (λ o. nat_abs o.answer.first ≤ max_balance) (λ n e. omega arith)
    (λ e.
    let h = passes m movements b i e in
    balance_small _ movements (movement_count movements) i (λ k l. (is-allowed _ _ _ (h.each k l)).few)
    (list_short movements h.list))

pub balances-add-up : BalancesAddUp
unfolding BalancesAddUp
balances-add-up m movements b i accepted =
    let n = replica_count (fault_bound m) in
    let h = nets m movements b i accepted in
    let counts = counts_by (parent m) b in
    let k = movement_count movements in
    let every : (j : ℕ) → j < n → Accepted (netting m movements b j) = λ j own. accepted_netting m movements b j h (omega tests) in
    let moved = sum_below k (λ j. cond (counts (movement movements j)) (movement movements j).pallets 0) in
    record {
      accepted = every;
      total =
          total_same n _ _ (λ j own. answers m movements b j (every j own))
          ∙ total_less n (received counts movements k) (given counts movements k)
          ∙ rw (
            over_firms (λ x. x.taker) counts movements n k (λ j l. (is-allowed _ _ _ (h.each j l)).taker),
            over_firms (λ x. x.giver) counts movements n k (λ j l. (is-allowed _ _ _ (h.each j l)).giver),
          )
          (+ℤ_invr (pos moved));
    }

-- ---- what is not read

module _ (m : Memory) (l b : List ℕ) (a : Alike m (twin m l b)) (movements : List ℕ) (chosen i : ℕ) where
  same_balance : Nets m movements chosen → balance_by (parent m) movements chosen i ≡ balance_by (parent (twin m l b)) movements chosen i
  same_balance h =
      balance_same _ _
      (λ x. chain_same (parent m) (parent (twin m l b)) (block_count m) (falls m (formed m h.formed))
      (λ y below. parent_same m l b a y (omega tests)) x.block chosen (omega (tests, h.block)))
      movements (movement_count movements) i

  same_refusal : first_refusal (netting_rule m movements chosen i).needs ≡ first_refusal (netting_rule (twin m l b) movements chosen i).needs
  unfolding netting_rule
  same_refusal = rw (form_same m l b a) refl

  same_answer : (netting m movements chosen i).answer ≡ (netting (twin m l b) movements chosen i).answer
  unfolding netting follow answered netting_rule
  same_answer = rw (← same_refusal) (go (first_refusal (netting_rule m movements chosen i).needs) refl)
    where
      go : (n : ℕ) → first_refusal (netting_rule m movements chosen i).needs ≡ n
          → (answered n (lent m movements) (netting_rule m movements chosen i)).answer
          ≡ (answered n (lent (twin m l b) movements) (netting_rule (twin m l b) movements chosen i)).answer
      go zero e = ap (λ (z : ℤ). record { number = 0; first = z; second = 0 }) (same_balance (passes m movements chosen i e))
      go (suc n) e = refl

pub netting-past-counts-unread : NettingPastCountsUnread
unfolding NettingPastCountsUnread
netting-past-counts-unread m m' a movements b i = go m'.table a.table a
  where
    with_table : List ℕ → Memory
    with_table t = memory t m'.log m'.blocks

    go : (t : List ℕ) → m.table ≡ t → Alike m (with_table t)
        → (netting m movements b i).answer ≡ (netting (with_table t) movements b i).answer
    go t e =
        subst (λ (t : List ℕ). Alike m (with_table t) → (netting m movements b i).answer ≡ (netting (with_table t) movements b i).answer) e
        (λ a. same_answer m m'.log m'.blocks a movements b i)

-- ---- of one execution

module _ (execution : Execution) where
  reached : Reached execution.f (events_of execution) (end_of execution)
  reached = reached_by execution

  parents_fall : Falls (given_parent (events_of execution)) (block_count (end_of execution))
  parents_fall = given_falls execution.f _ _ reached

  decided_known : (i b v : ℕ) → Memᴰ (decided i b v) (events_of execution) → b < block_count (end_of execution)
  decided_known i b v x = chosen_known execution.f _ _ reached (reached.decisions i b v x)

  longer_is_higher : (i b v j c w : ℕ) → Memᴰ (decided i b v) (events_of execution)
      → Memᴰ (decided j c w) (events_of execution)
      → chain_length (given_parent (events_of execution)) b ≤ chain_length (given_parent (events_of execution)) c
      → height_by (given_parent (events_of execution)) b ≤ height_by (given_parent (events_of execution)) c
  longer_is_higher i b v j c w x y h =
      let one = chain-length _ _ parents_fall b (decided_known i b v x) in
      let other = chain-length _ _ parents_fall c (decided_known j c w y) in
      omega arith

  -- Of two decided blocks the one whose line is not longer is in the line of the other.
  lower_in_chain : (i b v j c w : ℕ) → Memᴰ (decided i b v) (events_of execution)
      → Memᴰ (decided j c w) (events_of execution)
      → chain_length (given_parent (events_of execution)) b ≤ chain_length (given_parent (events_of execution)) c
      → is_ancestor_by (given_parent (events_of execution)) b c ≡ true
  unfolding Agreement
  lower_in_chain i b v j c w x y h =
      ⊎_elim (λ e. e)
      (λ e.
      let q = chain_as_high _ _ parents_fall c b (decided_known i b v x) e (longer_is_higher i b v j c w x y h) in
      rw q (rw q at e))
      ((agreement execution).one_chain i b v j c w x y)

pub chain-length-is-height : ChainLengthIsHeight
unfolding ChainLengthIsHeight
chain-length-is-height parent_of count falls b l = chain-length parent_of count falls b l

pub longer-counts-more : LongerCountsMore
unfolding LongerCountsMore
longer-counts-more execution i b v j c w x y h moved counted =
    chain_of_chain _ _ (parents_fall execution) moved.block b c (decided_known execution j c w y) counted
    (lower_in_chain execution i b v j c w x y h)

pub equally-long-is-one : EquallyLongIsOne
unfolding EquallyLongIsOne
equally-long-is-one execution i b v j c w x y h =
    chain_as_high _ _ (parents_fall execution) b c (decided_known execution j c w y)
    (lower_in_chain execution i b v j c w x y (omega arith))
    (longer_is_higher execution j c w i b v y x (omega arith))

pub counts-match-history : CountsMatchHistory
unfolding CountsMatchHistory
counts-match-history execution b known x =
    let end = end_of execution in
    let h = reached execution in
    chain_same (parent end) (given_parent (events_of execution)) (block_count end) (falls end h.safe.formed) h.told.parents
    x.block b (omega tests)

pub longer-nets-more : LongerNetsMore
unfolding LongerNetsMore LongerCountsMore CountsMatchHistory
longer-nets-more execution i b v j c w x y h moved counted =
    let known-b = decided_known execution i b v x in
    let known-c = decided_known execution j c w y in
    counts-match-history execution c (omega tests) moved
    ∙ longer-counts-more execution i b v j c w x y h moved
    (sym (counts-match-history execution b (omega tests) moved) ∙ counted)

pub netting-matches-history : NettingMatchesHistory
unfolding NettingMatchesHistory CountsMatchHistory
netting-matches-history execution movements b i accepted =
    let end = end_of execution in
    answers end movements b i accepted
    ∙ balance_same _ _
    (counts-match-history execution b (nets end movements b i accepted).block)
    movements (movement_count movements) i

pub decided-can-be-netted : DecidedCanBeNetted
unfolding DecidedCanBeNetted
decided-can-be-netted execution j b v x movements whole each i own =
    let end = end_of execution in
    let h = reached execution in
    let faults = h.faults in
    let known = decided_known execution j b v x in
    accepted_netting end movements b i
    (record {
      formed = form end h.safe.formed;
      list = whole;
      block = omega tests;
      each = λ k l. rw faults (each k l);
    })
    (omega tests)
