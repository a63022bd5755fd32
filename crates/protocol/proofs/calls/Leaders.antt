-- Whose turn it is: what an accepted Prepare or Store tells of the leader, and that view 0 has none.
use Prim.Native.Nat.{ℕ, zero, suc, ◌+◌, ◌%◌}
use mathlib.Core.Path.{◌≡◌, refl, ◌∙◌}
use mathlib.Core.Bool.{true, false}
use mathlib.Core.List.{List}
use native.Mathlib.Omega.{arith}
use Rattle.protocol.specs.declared.Call.TheVariants.{Prepare, Store}
use Rattle.protocol.specs.declared.Justification.{Justification}
use Rattle.protocol.specs.declared.Justification.TheVariants.{Acc, Commits}
use Rattle.protocol.specs.Memory.{Memory, replica_count, fault_bound}
use Rattle.protocol.specs.Leader.{leads}
use Rattle.protocol.specs.Quorum.{every, certificates_of}
use Rattle.protocol.specs.Calls.{numbers_of, proposal_view, issuing, prepare, store}
use Rattle.protocol.specs.Runs.{rule_of, step}
use Rattle.protocol.specs.Theorems.{Accepted, LedBy, OnlyLeadersPropose, ViewZeroHasNoLeader}
use Rattle.protocol.proofs.logic.Booleans.{tests}
use Rattle.protocol.proofs.calls.Needs.{holds, fails, either_fails, returned}
use Rattle.protocol.proofs.calls.Rules.{accepted_needs}

led_by : (m : Memory) (view i : ℕ) → leads (fault_bound m) view i ≡ true → LedBy m view i
unfolding leads
led_by m zero i e = let z : ◌≡◌ {A = ℕ} 0 1 = cc in absurd (omega arith)
led_by m (suc before) i e = record { before = before; next = omega arith; leader = omega tests }

next_leader : (m : Memory) (v i : ℕ) → LedBy m (v + 1) i → i ≡ v % replica_count (fault_bound m)
next_leader m v i led = let e : led.before ≡ v = omega arith in rw e at led.leader

proposer : (m : Memory) (i b : ℕ) (j : Justification) (list : List ℕ) → Accepted (step m (Prepare i b j) list)
    → LedBy m (proposal_view j (certificates_of m (numbers_of j list))) i
unfolding rule_of issuing prepare
proposer m i b j list e = led_by m _ i (accepted_needs m (Prepare i b j) list e).1.1.1.1.1.1.1.0

pub only-leaders-propose : OnlyLeadersPropose
unfolding OnlyLeadersPropose rule_of issuing store
only-leaders-propose m =
    record {
      on_acc = λ i b number list e. proposer m i b (Acc number) list e;
      on_commits = λ i b v c list e. next_leader m v i (proposer m i b (Commits v c) list e);
      store = λ i number list e. led_by m _ _ (accepted_needs m (Store i number) list e).1.1.1.1.1.0;
    }

pub unled : (f view i : ℕ) → view ≡ 0 → leads f view i ≡ false
unfolding leads
unled f view i e = rw e refl

pub view-zero-has-no-leader : ViewZeroHasNoLeader
unfolding ViewZeroHasNoLeader step rule_of issuing prepare store every
view-zero-has-no-leader m i number formed own issued status e =
    record {
      prepare =
          λ b list known.
          returned m (prepare m i b (Acc number) list)
          ∙ (holds _ _ formed
          ∙ holds _ _ own
          ∙ holds _ _ refl
          ∙ holds _ _ (rw issued refl)
          ∙ holds _ _ known
          ∙ holds _ _ status
          ∙ either_fails _ _ _ (fails _ (unled _ _ i e)));
      store =
          λ list.
          returned m (store m i number)
          ∙ (holds _ _ formed
          ∙ holds _ _ own
          ∙ holds _ _ issued
          ∙ holds _ _ status
          ∙ either_fails _ _ _ (fails _ (unled _ _ _ e)));
    }
