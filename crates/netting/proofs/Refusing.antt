-- How a netting goes from one need to the next.
use Prim.Native.Nat.{ℕ, suc}
use mathlib.Core.Path.{◌≡◌, refl, sym, ◌∙◌}
use mathlib.Core.Bool.{true}
use mathlib.Core.List.{List, [], ◌∷◌, ◌++◌}
use native.Mathlib.Omega.{arith}
use lib.IntN.{ℤ, pos}
use Rattle.std.specs.Prelude.{Result, IsErr, IsErrAnd}
use Rattle.protocol.specs.declared.Refusal.{Refusal}
use Rattle.protocol.specs.Memory.{Memory, memory, replica_count, fault_bound, block_count}
use Rattle.protocol.specs.Form.{lengths_fit}
use Rattle.protocol.specs.Outcome.{Need, ◌else◌, number_of, RuleOf, refusal_of, follow, wrong_form, unknown_number}
use Rattle.protocol.specs.FirstNeeds.{is_block, replica_needs}
use Rattle.protocol.proofs.logic.Booleans.{tests, each}
use Rattle.protocol.proofs.calls.Needs.{outcome_cases, refuses, accepts, none_refuses}
use Rattle.protocol.proofs.memory.Formed.{form}
use Rattle.movements.specs.Movements.{is_movement_list}
use Rattle.ancestry.proofs.Fitting.{ancestry_fits}
use Rattle.checks.proofs.Ready.{Ready}
use Rattle.checks.proofs.Passing.{At, start, on, handed_up}
use Rattle.netting.specs.Netting.{Lent, lent, netting_rule, netting, balance_told, netting_outcome}
use Rattle.netting.specs.inner.Tallies.{Nettable, balance_rule, balance_answer}

module _ (t l b movements : List ℕ) (chosen i : ℕ) where
  abbrev m : Memory
  m = memory t l b

  abbrev rule : RuleOf (pos 0) Lent
  rule = netting_rule m movements chosen i

  abbrev list_needs : List Need
  list_needs = is_movement_list movements else wrong_form ∷ []

  abbrev block_needs : List Need
  block_needs = is_block m chosen else unknown_number ∷ []

  abbrev movement_needs : List Need
  movement_needs = (balance_rule b movements chosen i (replica_count (fault_bound m)) (block_count m)).needs

  -- A refusal that is handed up.
  pub refused_by : (r : Result ℤ Refusal) (e : Refusal) → IsErr r × IsErrAnd r (λ d. d ≡ e)
      → refusal_of (pos 0) (number_of e) (lent m movements) ≡ follow (lent m movements) rule
      → netting_outcome r t l b movements ≡ netting m movements chosen i
  unfolding netting
  refused_by r e up stops = rw (handed_up r e up) stops

  pub at_list : At rule (is_movement_list movements else wrong_form ∷ (replica_needs m i ++ (block_needs ++ movement_needs)))
  unfolding netting_rule balance_rule
  at_list = start rule

  module _ (whole : is_movement_list movements ≡ true) where
    pub at_replica : At rule (replica_needs m i ++ (block_needs ++ movement_needs))
    at_replica = on list_needs _ refl at_list (sym (none_refuses list_needs (whole, tt)))

    module _ (ready : Ready m i) where
      pub at_block : At rule (block_needs ++ movement_needs)
      at_block = on (replica_needs m i) _ refl at_replica (sym (none_refuses (replica_needs m i) (form _ ready.formed, (ready.own, tt))))

      module _ (known : is_block m chosen ≡ true) where
        pub nettable : Nettable b movements chosen i (replica_count (fault_bound m)) (block_count m)
        unfolding lengths_fit
        nettable =
            let s = ready.sizes in
            let fit = each _ ready.formed.lengths in
            record {
              walk = ancestry_fits _ ready.formed chosen (omega tests);
              list = whole;
              block = omega tests;
              blocks_few = omega tests;
              firm = omega (tests, ready.own);
              firms_few = omega arith;
            }

        pub answers_balance : (r : Result ℤ Refusal) → balance_told r ≡ balance_answer b movements chosen i (replica_count (fault_bound m)) (block_count m)
            → netting_outcome r t l b movements ≡ netting m movements chosen i
        unfolding netting netting_rule balance_rule
        answers_balance r answer =
            let at = on block_needs movement_needs refl at_block (sym (none_refuses block_needs (known, tt))) in
            (λ d. record { answer = answer d; state = lent m movements })
            ∙ outcome_cases tt (balance_rule b movements chosen i (replica_count (fault_bound m)) (block_count m))
            (λ o. record { answer = o.answer; state = lent m movements } ≡ follow (lent m movements) rule)
            (λ n e. refuses (lent m movements) rule (suc n) (sym (at.same ∙ e)) (λ z. omega arith))
            (λ e. accepts (lent m movements) rule (sym (at.same ∙ e)))
