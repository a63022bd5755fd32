-- What the rules of the calls tell: what a refused call leaves, which refusal is returned and of which numbers, what opening reads, and the
-- form that is left.
use Prim.Native.Nat.{ℕ, zero, suc}
use mathlib.Core.Path.{◌≡◌, refl, sym, ap, ◌∙◌}
use mathlib.Core.Bool.{Bool, true, false, ◌||◌}
use mathlib.Core.List.{List, [], ◌∷◌, Memᴰ}
use native.Mathlib.Omega.{arith}
use lib.ListN.{length}
use lib.Dec.{leb, eqb}
use Rattle.protocol.specs.Memory.{Memory, replica_count, fault_bound}
use Rattle.protocol.specs.Outcome.{Need, ◌else◌, Answer, OutcomeOf, first_refusal, answered, follow, wrong_form, wrong_certificate}
use Rattle.protocol.specs.Calls.{opening}
use Rattle.protocol.specs.Runs.{rule_of, step}
use Rattle.protocol.proofs.logic.Booleans.{tests, by-test}
use Rattle.protocol.proofs.memory.Formed as Memory
use Rattle.protocol.proofs.calls.LeavesForm.{opening_leaves}
use Rattle.protocol.proofs.calls.Needs.{all_needs, outcome_state, returned, no_refusal, refuses, accepts, accepted_after, refused, lowest}
use Rattle.protocol.proofs.calls.Needs.{lowest_of_first, lowest_refusal, refusal_allowed, first_pass, refused_first, all_pass, fails}
use Rattle.protocol.proofs.calls.Needs.{holds, all_allowed}
use Rattle.entries.specs.Entries.{waiting_words}
use Rattle.entries.specs.Waiting.{Lent, lent, WaitingRule, WaitingCall, Open, Enter, Withdraw, Match, Ask, match_needs, match_fit}
use Rattle.entries.specs.Waiting.{open_rule, enter_rule, withdraw_rule, match_rule, ask_rule, waiting_rule, waiting_step, departed}
use Rattle.entries.specs.Theorems.{RefusedWaitingChangesNothing, WaitingLeavesLedger, WaitingLowestWins, OpenWaitingOrder}
use Rattle.entries.specs.Theorems.{OpenReadsNoEntry, FormLeft, AcceptedWaitingLeavesForm, may_answer, WaitingNumbersListed}
use Rattle.entries.proofs.Slices.{Formed, form, cleared, formed_cleared, formed_placed, formed_joined, formed_without}
use Rattle.entries.proofs.Needs.{Ready, Leaves, enters, withdraws, matches, asks}

pub refused-waiting-changes-nothing : RefusedWaitingChangesNothing
unfolding RefusedWaitingChangesNothing waiting_step
refused-waiting-changes-nothing s call h = refused s (waiting_rule s call) h

pub waiting-leaves-ledger : WaitingLeavesLedger
unfolding WaitingLeavesLedger waiting_step waiting_rule open_rule enter_rule withdraw_rule match_rule ask_rule step rule_of
waiting-leaves-ledger s =
    record {
      opens = λ f steps accepted.
          let plain = opening s.memory f steps in
          let passes = first_pass plain.needs _ (no_refusal s (open_rule s f steps) accepted) in
          ap (λ (x : Lent). x.memory) (accepted_after s (open_rule s f steps) accepted)
          ∙ sym (accepted_after s.memory plain (returned s.memory plain ∙ passes));
      enters = λ e. outcome_state s (enter_rule s e) (λ x. x.memory ≡ s.memory) refl (λ e. refl);
      withdraws = λ identity. outcome_state s (withdraw_rule s identity) (λ x. x.memory ≡ s.memory) refl (λ e. refl);
      matches = λ movements i identity place.
          outcome_state s (match_rule s movements i identity place) (λ x. x.memory ≡ s.memory) refl (λ e. refl);
      asks = λ taker. outcome_state s (ask_rule s taker) (λ x. x ≡ s) refl (λ e. refl);
    }

pub waiting-lowest-wins : WaitingLowestWins
unfolding WaitingLowestWins waiting_step waiting_rule enter_rule withdraw_rule match_rule ask_rule
waiting-lowest-wins s =
    record {
      enters = λ e number w. lowest s (enter_rule s e) refl w;
      withdraws = λ identity number w. lowest s (withdraw_rule s identity) refl w;
      matches = λ movements i identity place number w.
          lowest_of_first s (match_rule s movements i identity place) (match_needs s movements i identity place)
          (match_fit s movements i identity place) refl refl w;
      before = λ movements i identity place some.
          returned s (match_rule s movements i identity place)
          ∙ refused_first (match_needs s movements i identity place) (match_fit s movements i identity place) some;
      fits = λ movements i identity place pass number w.
          let fit = match_fit s movements i identity place in
          let least = lowest_refusal fit wrong_certificate refl w in
          let most = refusal_allowed (λ n. leb n wrong_certificate) fit refl refl in
          let last = all_pass (match_needs s movements i identity place) fit refl pass in
          returned s (match_rule s movements i identity place) ∙ last ∙ omega tests;
      asks = λ taker number w. lowest s (ask_rule s taker) refl w;
    }

pub open-waiting-order : OpenWaitingOrder
unfolding OpenWaitingOrder waiting_step waiting_rule open_rule step rule_of opening first_refusal
open-waiting-order s f steps =
    let m = s.memory in
    let plain = opening m f steps in
    let rule = open_rule s f steps in
    let last : List Need = eqb (length s.waiting) waiting_words else wrong_form ∷ [] in
    let answer_of : OutcomeOf ℕ Lent → Answer = λ o. o.answer in
    let plainly : OutcomeOf ℕ Memory → Answer = λ o. o.answer in
    record {
      refused = λ h.
          let some : first_refusal plain.needs ≡ 0 → ⊥ = λ e. h (returned m plain ∙ e) in
          let n = first_refusal plain.needs in
          ap answer_of (sym (refuses s rule n (sym (refused_first plain.needs last some)) some))
          ∙ ap plainly (refuses m plain n refl some);
      sized = λ accepted long.
          let pass = no_refusal m plain accepted in
          let fit : eqb (length s.waiting) waiting_words ≡ true = omega tests in
          let none = all_pass plain.needs last refl pass ∙ holds wrong_form [] fit in
          ap answer_of (sym (accepts s rule (sym none))) ∙ ap plainly (accepts m plain (sym pass));
      unsized = λ accepted other.
          let misfit : eqb (length s.waiting) waiting_words ≡ false = omega tests in
          returned s rule ∙ all_pass plain.needs last refl (no_refusal m plain accepted) ∙ fails [] misfit;
    }

-- One rule on two states: the answer is one.
same_answer : (s s' : Lent) (rule : WaitingRule) → (follow s rule).answer ≡ (follow s' rule).answer
unfolding follow answered
same_answer s s' rule = go (first_refusal rule.needs)
  where
    go : (n : ℕ) → (answered n s rule).answer ≡ (answered n s' rule).answer
    go zero = refl
    go (suc n) = refl

same_opening : (m : Memory) (w w' : List ℕ) (f : ℕ) (steps : List ℕ) → length w ≡ length w'
    → open_rule (lent m w) f steps ≡ open_rule (lent m w') f steps
unfolding open_rule
same_opening m w w' f steps long = rw long

pub open-reads-no-entry : OpenReadsNoEntry
unfolding OpenReadsNoEntry waiting_step waiting_rule
open-reads-no-entry m w w' f steps long =
    let s = lent m w in
    let s' = lent m w' in
    let rule = open_rule s' f steps in
    let one = same_opening m w w' f steps long in
    record {
      answer = rw one (same_answer s s' rule);
      left =
          rw one
          (λ accepted.
          let also = sym (ap (λ (a : Answer). a.number) (same_answer s s' rule)) ∙ accepted in
          accepted_after s rule accepted ∙ sym (accepted_after s' rule also));
    }

-- ---- the numbers

abbrev is_one_of : List ℕ → ℕ → Bool
is_one_of [] n = false
is_one_of (k ∷ ks) n = eqb n k || is_one_of ks n

one_of : (numbers : List ℕ) (n : ℕ) → is_one_of numbers n ≡ true → Memᴰ n numbers
one_of [] n h = let z : ◌≡◌ {A = ℕ} 0 1 = cc in absurd (omega arith)
one_of (k ∷ ks) n h =
    by-test (eqb n k) (λ hit. Memᴰ.head (omega tests)) (λ miss. Memᴰ.tail (one_of ks n (rw miss at h)))

-- The numbers of a rule's needs, and 0, are among some.
all_listed : (s : Lent) (rule : WaitingRule) (numbers : List ℕ) → is_one_of numbers 0 ≡ true
    → all_allowed (is_one_of numbers) rule.needs ≡ true → Memᴰ (follow s rule).answer.number numbers
all_listed s rule numbers none all =
    rw (returned s rule) (one_of numbers _ (refusal_allowed (is_one_of numbers) rule.needs none all))

pub waiting-numbers-listed : WaitingNumbersListed
unfolding WaitingNumbersListed may_answer waiting_step waiting_rule open_rule enter_rule withdraw_rule match_rule ask_rule opening
waiting-numbers-listed s (Open f steps) = all_listed s (open_rule s f steps) _ refl refl
waiting-numbers-listed s (Enter e) = all_listed s (enter_rule s e) _ refl refl
waiting-numbers-listed s (Withdraw identity) = all_listed s (withdraw_rule s identity) _ refl refl
waiting-numbers-listed s (Match movements i identity place) = all_listed s (match_rule s movements i identity place) _ refl refl
waiting-numbers-listed s (Ask taker) = all_listed s (ask_rule s taker) _ refl refl

-- ---- the form

left_formed : (s : Lent) → Ready s → (w : List ℕ) → Formed (replica_count (fault_bound s.memory)) w → FormLeft (lent s.memory w)
left_formed s r w h = record { memory = r.memory; waiting = form _ w h }

-- Once the entry of an identity has left.
departed_formed : (s : Lent) (identity : ℕ) → Leaves s identity
    → Formed (replica_count (fault_bound s.memory)) (departed s.waiting identity)
departed_formed s identity h =
    let r = h.ready in
    formed_without _ s.waiting r.waiting r.replicas identity h.waits

pub form_left : (s : Lent) (call : WaitingCall) → first_refusal (waiting_rule s call).needs ≡ 0 → FormLeft (waiting_rule s call).after
unfolding waiting_rule open_rule enter_rule withdraw_rule match_rule ask_rule opening
form_left s (Open f steps) pass =
    let h = all_needs (open_rule s f steps).needs refl pass in
    let m = (opening s.memory f steps).after in
    record {
      memory = Memory.form m (opening_leaves s.memory f steps (h.0, (h.1.0, (h.1.1.0, tt))));
      waiting = form _ cleared (formed_cleared _);
    }
form_left s (Enter e) pass =
    let h = enters s e pass in
    let r = h.ready in
    left_formed s r _ (formed_joined _ s.waiting r.waiting r.replicas e h.allowed h.room)
form_left s (Withdraw identity) pass =
    let h = withdraws s identity pass in
    left_formed s h.ready _ (departed_formed s identity h)
form_left s (Match movements i identity place) pass =
    let h = (matches s movements i identity place pass).leaves in
    left_formed s h.ready _ (formed_placed _ (departed s.waiting identity) (departed_formed s identity h) place 1)
form_left s (Ask taker) pass = let r = (asks s taker pass).ready in left_formed s r s.waiting r.waiting

pub accepted-waiting-leaves-form : AcceptedWaitingLeavesForm
unfolding AcceptedWaitingLeavesForm waiting_step
accepted-waiting-leaves-form s call accepted =
    let rule = waiting_rule s call in
    rw (accepted_after s rule accepted) (form_left s call (no_refusal s rule accepted))
