-- What the rules have in common: the numbers of their needs and, but for opening, that the form is tested first. So a refused call
-- changes nothing, and the lowest number wins.
use Prim.Native.Nat.{ℕ}
use mathlib.Core.Path.{◌≡◌, refl}
use mathlib.Core.Bool.{true, false}
use mathlib.Core.List.{List}
use native.Mathlib.Omega.{arith}
use Rattle.protocol.specs.declared.Call.{Call}
use Rattle.protocol.specs.declared.Call.TheVariants.{Open, Block, Prepare, Store, View, Accumulate, Decide, Reboot}
use Rattle.protocol.specs.declared.Call.TheVariants.{Reserve, Request, Reply, Recover}
use Rattle.protocol.specs.Memory.{Memory}
use Rattle.protocol.specs.Form.{well_formed}
use Rattle.protocol.specs.Outcome.{wrong_form, first_refusal, answered, follow}
use Rattle.protocol.specs.Calls.{issuing, opening, block, prepare, store, view, accumulate, decide, reboot, reserve}
use Rattle.protocol.specs.Calls.{request, reply, recover}
use Rattle.protocol.specs.Runs.{rule_of, step}
use Rattle.protocol.specs.Theorems.{Accepted, is_opening, RefusedChangesNothing, LowestWins, OpeningOrder}
use Rattle.protocol.proofs.calls.Needs.{Holds, positive, rising_from, all_needs, fails, accepted_holds, refused, lowest}

numbers_positive : (m : Memory) (call : Call) (list : List ℕ) → positive (rule_of m call list).needs ≡ true
unfolding rule_of issuing opening block prepare store view accumulate decide reboot reserve request reply recover
numbers_positive m (Open f) list = refl
numbers_positive m (Block p) list = refl
numbers_positive m (Prepare i b justification) list = refl
numbers_positive m (Store i number) list = refl
numbers_positive m (View i w) list = refl
numbers_positive m (Accumulate i) list = refl
numbers_positive m (Decide i) list = refl
numbers_positive m (Reboot i) list = refl
numbers_positive m (Reserve i) list = refl
numbers_positive m (Request i) list = refl
numbers_positive m (Reply i number) list = refl
numbers_positive m (Recover i) list = refl

numbers_rise : (m : Memory) (call : Call) (list : List ℕ) → is_opening call ≡ false
    → rising_from 1 (rule_of m call list).needs ≡ true
unfolding rule_of issuing opening block prepare store view accumulate decide reboot reserve request reply recover
numbers_rise m (Open f) list e = let z : ◌≡◌ {A = ℕ} 0 1 = cc in absurd (omega arith)
numbers_rise m (Block p) list e = refl
numbers_rise m (Prepare i b justification) list e = refl
numbers_rise m (Store i number) list e = refl
numbers_rise m (View i w) list e = refl
numbers_rise m (Accumulate i) list e = refl
numbers_rise m (Decide i) list e = refl
numbers_rise m (Reboot i) list e = refl
numbers_rise m (Reserve i) list e = refl
numbers_rise m (Request i) list e = refl
numbers_rise m (Reply i number) list e = refl
numbers_rise m (Recover i) list e = refl

-- Each rule but opening's tests the form first.
pub no_form : (m : Memory) (call : Call) (list : List ℕ) → is_opening call ≡ false → well_formed m ≡ false
    → first_refusal (rule_of m call list).needs ≡ wrong_form
unfolding rule_of issuing block prepare store view accumulate decide reboot reserve request reply recover
no_form m (Open f) list n e = cc
no_form m (Block p) list n e = fails _ e
no_form m (Prepare i b justification) list n e = fails _ e
no_form m (Store i number) list n e = fails _ e
no_form m (View i w) list n e = fails _ e
no_form m (Accumulate i) list n e = fails _ e
no_form m (Decide i) list n e = fails _ e
no_form m (Reboot i) list n e = fails _ e
no_form m (Reserve i) list n e = fails _ e
no_form m (Request i) list n e = fails _ e
no_form m (Reply i number) list n e = fails _ e
no_form m (Recover i) list n e = fails _ e

-- Every need of a call that nothing refuses holds.
pub needs_hold : (m : Memory) (call : Call) (list : List ℕ) → first_refusal (rule_of m call list).needs ≡ 0
    → Holds (rule_of m call list).needs
needs_hold m call list e = all_needs (rule_of m call list).needs (numbers_positive m call list) e

pub accepted_needs : (m : Memory) (call : Call) (list : List ℕ) → Accepted (step m call list) → Holds (rule_of m call list).needs
unfolding step
accepted_needs m call list = accepted_holds m (rule_of m call list) (numbers_positive m call list)

pub refused-changes-nothing : RefusedChangesNothing
unfolding RefusedChangesNothing step
refused-changes-nothing m call list h = refused m (rule_of m call list) h

pub lowest-wins : LowestWins
unfolding LowestWins step
lowest-wins m call list e number w = lowest m (rule_of m call list) (numbers_rise m call list e) w

pub opening-order : OpeningOrder
unfolding OpeningOrder step rule_of opening follow first_refusal answered
opening-order m f list =
    record {
      faults = λ no. rw no refl;
      steps = λ bound no. rw (bound, no) refl;
      lengths = λ bound allowed no. rw (bound, allowed, no) refl;
      accepted = λ bound allowed fit. rw (bound, allowed, fit) refl;
    }
