-- A call's number is at most 9, or an opening's 12, and its values are at most 1,000,000.
use Prim.Native.Nat.{ℕ, ◌≤◌}
use mathlib.Core.Path.{◌≡◌, refl}
use mathlib.Core.Bool.{true}
use mathlib.Core.List.{List}
use native.Mathlib.Omega.{arith}
use Rattle.protocol.specs.declared.Call.{Call}
use Rattle.protocol.specs.declared.Call.TheVariants.{Open, Block, Prepare, Store, View, Accumulate, Decide, Reboot}
use Rattle.protocol.specs.declared.Call.TheVariants.{Reserve, Request, Reply, Recover}
use Rattle.protocol.specs.Memory.{Memory, Certificate, ceiling, certificate_count, block_count}
use Rattle.protocol.specs.Form.{lengths_fit, counts_fit, replica_formed, certificate_formed, well_formed}
use Rattle.protocol.specs.Certificates.{number_for, is_filed, found_or_appended}
use Rattle.protocol.specs.Outcome.{Rule}
use Rattle.protocol.specs.Calls.{issuing, opening, block, prepare, store, view, accumulate, decide, reboot}
use Rattle.protocol.specs.Calls.{reserve, request, reply, recover}
use Rattle.protocol.specs.Runs.{rule_of, step}
use Rattle.protocol.specs.Theorems.{may_return, Fits, ValuesFit}
use Rattle.protocol.proofs.logic.Booleans.{tests, by-test, by_cond, each}
use Rattle.protocol.proofs.calls.Needs.{Holds, outcome_cases, all_allowed, refusal_allowed}
use Rattle.protocol.proofs.calls.Rules.{needs_hold}
use Rattle.protocol.proofs.memory.Formed.{formed}
use Rattle.protocol.proofs.memory.Filing.{number_below}
use Rattle.protocol.proofs.memory.Lists.{all_named, first_named}
use Rattle.protocol.proofs.calls.LeavesForm.{reboot_retires, stays_active}

-- ---- values

-- Two values are at most 1,000,000.
abbrev Small : ℕ → ℕ → Type 0
Small first second = (first ≤ ceiling) × (second ≤ ceiling)

counts_small : (m : Memory) → well_formed m ≡ true → Small (certificate_count m) (block_count m)
unfolding lengths_fit counts_fit
counts_small m e =
    let z = formed m e in
    let l = each _ z.lengths in
    let c = each _ z.counts in
    omega tests

issued_small : (m : Memory) (ws : List ℕ) → well_formed m ≡ true → Small (number_for m ws) (found_or_appended m ws)
issued_small m ws e =
    let counts = counts_small m e in
    let number = number_below m ws in
    (omega arith, by_cond (λ (x : ℕ). x ≤ ceiling) (is_filed m ws) (λ e. omega arith) (λ e. omega arith))

-- ---- the calls

-- What a rule may refuse with, and its values where it does not refuse.
abbrev RuleFits : Call → Rule → Type 0
RuleFits call rule = (all_allowed (may_return call) rule.needs ≡ true) × (Holds rule.needs → Small rule.first rule.second)

rule_fits : (m : Memory) (call : Call) (list : List ℕ) → RuleFits call (rule_of m call list)
unfolding rule_of issuing opening block prepare store view accumulate decide reboot reserve request reply recover replica_formed
    certificate_formed
rule_fits m (Open f) list = (refl, λ h. let range = each _ h.0 in omega tests)
rule_fits m (Block p) list = (refl, λ h. let counts = counts_small m h.0 in omega arith)
rule_fits m (Prepare i b justification) list = (refl, λ h. issued_small m _ h.0)
rule_fits m (Store i number) list = (refl, λ h. issued_small m _ h.0)
rule_fits m (View i w) list = (refl, λ h. issued_small m _ h.0)
rule_fits m (Accumulate i) list = (refl, λ h. issued_small m _ h.0)
rule_fits m (Decide i) list = (
  refl,
  λ h.
      let small : Certificate → Type 0 = λ c. Small c.block c.view in
      let counts = counts_small m h.0 in
      first_named small m list h.1.1.0
      (all_named small m list h.1.1.1.0 (λ k l. let c = each _ ((formed m h.0).log k l) in omega tests)),
)
rule_fits m (Reboot i) list = (
  refl,
  λ h.
      let r = each _ ((formed m h.0).rows i (omega tests)) in
      by-test (reboot_retires m i) (λ e. rw e (omega tests)) (λ e. let fits = stays_active m i e in rw e (omega tests)),
)
rule_fits m (Reserve i) list = (refl, λ h. omega tests)
rule_fits m (Request i) list = (refl, λ h. issued_small m _ h.0)
rule_fits m (Reply i number) list = (refl, λ h. issued_small m _ h.0)
rule_fits m (Recover i) list = (refl, λ h. let r = each _ ((formed m h.0).rows i (omega tests)) in omega tests)

pub values-fit : ValuesFit
unfolding ValuesFit step
values-fit m call list =
    let rule = rule_of m call list in
    let good = rule_fits m call list in
    let may = refusal_allowed (may_return call) rule.needs refl good.0 in
    outcome_cases m rule (λ o. Fits call o.answer) (λ n e. record { number = rw e at may; first = omega arith; second = omega arith })
    (λ e. let both = good.1 (needs_hold m call list e) in record { number = refl; first = both.0; second = both.1 })
