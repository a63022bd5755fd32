-- The ways that a call goes once the form of the slices is tested.
use Prim.Native.Nat.{ℕ}
use mathlib.Core.Path.{◌≡◌, refl}
use mathlib.Core.Bool.{Bool, true, false, not}
use mathlib.Core.List.{List, [], ◌∷◌, ◌++◌}
use Rattle.std.specs.Prelude.{Option}
use Rattle.std.specs.Option.{is_some}
use Rattle.protocol.specs.Memory.{replica_count, fault_bound}
use Rattle.protocol.specs.Outcome.{Need, ◌else◌, first_refusal, out_of_range}
use Rattle.protocol.specs.FirstNeeds.{is_replica}
use Rattle.checks.proofs.Passing.{At, start, on}
use Rattle.entries.specs.declared.Entry.{Entry}
use Rattle.entries.specs.Entries.{waiting_count, entries, is_waiting}
use Rattle.entries.specs.Waiting.{Lent, WaitingRule, form_needs, arrival_needs, departure_needs, enter_rule, withdraw_rule, ask_rule}
use Rattle.entries.specs.Waiting.{Enter, Withdraw, Ask, waiting_rule}
use Rattle.arrivals.specs.inner.Found.{Found}
use Rattle.arrivals.proofs.Finding.{waits}
use Rattle.waiting.proofs.Known.{Known, known}

-- What is known of the slices; and of a rule, that the rest is still to be tested.
pub record Formed (s : Lent) (rule : WaitingRule) (rest : List Need) : Type 0 where
  pub known : Known s
  pub at : At rule rest

formed : (s : Lent) (rule : WaitingRule) (rest : List Need) → At rule (form_needs s ++ rest) → 0 ≡ first_refusal (form_needs s)
    → Formed s rule rest
formed s rule rest at passed = record { known = known s passed; at = on (form_needs s) rest refl at passed }

-- No entry has the identity, where none is found.
pub none_waits : (w : List ℕ) (identity : ℕ) (found : Option ℕ) (none : Bool) → Found w identity (waiting_count w) found
    → is_some found ≡ not none → none ≡ not (is_waiting identity (entries w))
none_waits w identity found true f is = rw (waits identity w found f, is) refl
none_waits w identity found false f is = rw (waits identity w found f, is) refl

module _ (s : Lent) where
  abbrev arriving : Entry → List Need
  arriving e = arrival_needs (replica_count (fault_bound s.memory)) (entries s.waiting) e

  abbrev asked : ℕ → List Need
  asked taker = is_replica s.memory taker else out_of_range ∷ []

  pub to_enter : (e : Entry) → At (waiting_rule s (Enter e)) (form_needs s ++ arriving e)
  unfolding waiting_rule enter_rule
  to_enter e = start _

  pub to_withdraw : (identity : ℕ)
      → At (waiting_rule s (Withdraw identity)) (form_needs s ++ departure_needs (entries s.waiting) identity)
  unfolding waiting_rule withdraw_rule
  to_withdraw identity = start _

  pub to_ask : (taker : ℕ) → At (waiting_rule s (Ask taker)) (form_needs s ++ asked taker)
  unfolding waiting_rule ask_rule
  to_ask taker = start _

  module _ (passed : 0 ≡ first_refusal (form_needs s)) where
    pub entering : (e : Entry) → Formed s (waiting_rule s (Enter e)) (arriving e)
    entering e = formed s _ _ (to_enter e) passed

    pub withdrawing : (identity : ℕ) → Formed s (waiting_rule s (Withdraw identity)) (departure_needs (entries s.waiting) identity)
    withdrawing identity = formed s _ _ (to_withdraw identity) passed

    pub asking : (taker : ℕ) → Formed s (waiting_rule s (Ask taker)) (asked taker)
    asking taker = formed s _ _ (to_ask taker) passed
