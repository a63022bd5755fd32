-- What the further slice holds after calls on it is what a full pass over their history gives, whatever the ledger's three slices are.
use Prim.Native.Nat.{ℕ, ◌≤◌, ◌<◌}
use mathlib.Core.Path.{◌≡◌, refl, sym, ap, ◌∙◌}
use mathlib.Core.List.{List, [], ◌∷◌, ◌++◌, append-nil, append_assoc}
use native.Mathlib.Omega.{arith}
use lib.ListN.{get_or}
use lib.Seq.{get_or-set_same, get_or-set_other}
use lib.Dec.{eqb, eqb-suc-zero}
use Rattle.protocol.specs.Memory.{Memory}
use Rattle.protocol.specs.Outcome.{Answer, first_refusal}
use Rattle.protocol.specs.Theorems.{Accepted}
use Rattle.protocol.proofs.logic.Booleans.{tests, by-test}
use Rattle.protocol.proofs.calls.Needs.{outcome_cases, returned, no_refusal, accepts, accepted_after}
use Rattle.movements.specs.Movements.{max_pallets}
use Rattle.entries.specs.declared.Entry.{Entry}
use Rattle.entries.specs.Entries.{max_replicas, place_at, is_used, entry_of, without}
use Rattle.entries.specs.Waiting.{Lent, lent, WaitingOutcome, WaitingCall, Open, Enter, Withdraw, Match, Ask, open_rule, enter_rule}
use Rattle.entries.specs.Waiting.{withdraw_rule, match_rule, ask_rule, waiting_rule, waiting_step, departed}
use Rattle.entries.specs.Arrivals.{Event, opened, entered, withdrawn, matched, accepted_events, events_of, still_waiting, passed}
use Rattle.entries.specs.Arrivals.{used_by, LentCall, call_on, slice_after, history, SliceRun, opened_slice, slice_end, slice_told}
use Rattle.entries.specs.Theorems.{FormLeft, AskIsPass, AnswersBy, CallsAnswerByHistory, NeverMoreWait, PlaceTakesOutOne}
use Rattle.entries.specs.Theorems.{PalletsWaitingBounded}
use Rattle.entries.proofs.Lists.{All, Apart, all_joined, all_without, apart_joined, apart_without, pallets_small}
use Rattle.entries.proofs.Slices.{is-allowed, Slice, cleared, cleared_word, slice_cleared, slice_joined}
use Rattle.entries.proofs.Slices.{slice_without, slice_placed, joined_place, without_place, taker_known}
use Rattle.entries.proofs.Needs.{Leaves, enters, withdraws, matches, asks}
use Rattle.entries.proofs.Passes.{pallets-by, earliest-by, still_opened, still_entered, still_withdrawn, still_matched}
use Rattle.entries.proofs.Places.{used_next, Once, once_append, once_opens}

-- ---- what holds after each call

pub record Listed (w : List ℕ) (es : List Entry) : Type 0 where
  pub slice : Slice w es
  pub apart : Apart es
  pub small : All (λ e. e.pallets ≤ max_pallets) es

pub record Told (events : List Event) (w : List ℕ) : Type 0 where
  pub listed : Listed w (still_waiting events)
  pub places : (place : ℕ) → is_used w place ≡ used_by events place

-- ---- one call

-- An opening, whatever was before.
pub told_opened : (past : List Event) (n : ℕ) → Told (past ++ (opened n ∷ [])) cleared
told_opened past n =
    record {
      listed = rw (still_opened past n) (record { slice = slice_cleared; apart = tt; small = tt });
      places = λ place. rw (cleared_word (place_at place), used_next past (opened n) place);
    }

module _ (past : List Event) (m : Memory) (w : List ℕ) (h : Told past w) where
  told_entered : (e : Entry) → first_refusal (enter_rule (lent m w) e).needs ≡ 0
      → Told (past ++ (entered e ∷ [])) (enter_rule (lent m w) e).after.waiting
  unfolding enter_rule
  told_entered e pass =
      let k = enters (lent m w) e pass in
      let most = k.ready.replicas in
      let own = is-allowed _ e k.allowed in
      let l = h.listed in
      let room = rw l.slice.listed at k.room in
      record {
        listed =
            rw (still_entered past e)
            (record {
              slice = slice_joined w (still_waiting past) e l.slice (omega arith) room;
              apart = apart_joined (still_waiting past) e l.apart (rw l.slice.listed at k.new);
              small = all_joined _ (still_waiting past) e l.small own.few;
            });
        places = λ place.
            rw (joined_place w (still_waiting past) e l.slice (omega arith) room place, used_next past (entered e) place)
            (h.places place);
      }

  -- An entry leaves.
  module _ (identity : ℕ) (k : Leaves (lent m w) identity) where
    leaving_taker : (entry_of identity (still_waiting past)).taker < max_replicas
    leaving_taker = rw h.listed.slice.listed at (taker_known _ w k.ready.waiting k.ready.replicas identity k.waits)

    listed_departed : Listed (departed w identity) (without identity (still_waiting past))
    listed_departed =
        record {
          slice = slice_without w (still_waiting past) identity h.listed.slice leaving_taker;
          apart = apart_without identity (still_waiting past) h.listed.apart;
          small = all_without _ identity (still_waiting past) h.listed.small;
        }

    departed_place : (place : ℕ) → get_or (departed w identity) (place_at place) 0 ≡ get_or w (place_at place) 0
    departed_place = without_place w (still_waiting past) identity h.listed.slice leaving_taker

  told_withdrawn : (identity : ℕ) → first_refusal (withdraw_rule (lent m w) identity).needs ≡ 0
      → Told (past ++ (withdrawn identity ∷ [])) (withdraw_rule (lent m w) identity).after.waiting
  unfolding withdraw_rule
  told_withdrawn identity pass =
      let k = withdraws (lent m w) identity pass in
      record {
        listed = rw (still_withdrawn past identity h.listed.apart) (listed_departed identity k);
        places = λ place. rw (departed_place identity k place, used_next past (withdrawn identity) place) (h.places place);
      }

  told_matched : (movements : List ℕ) (i identity place : ℕ) → first_refusal (match_rule (lent m w) movements i identity place).needs ≡ 0
      → Told (past ++ (matched identity place ∷ [])) (match_rule (lent m w) movements i identity place).after.waiting
  unfolding match_rule
  told_matched movements i identity place pass =
      let k = matches (lent m w) movements i identity place pass in
      let inside = k.inside in
      let l = listed_departed identity k.leaves in
      let size = l.slice.size in
      record {
        listed =
            rw (still_matched past identity place h.listed.apart)
            (record { slice = slice_placed (departed w identity) _ place 1 l.slice; apart = l.apart; small = l.small });
        places = λ other.
            rw (used_next past (matched identity place) other)
            (by-test (eqb place other)
            (λ hit.
            let q : place ≡ other = omega tests in
            rw (hit, ← q, get_or-set_same (departed w identity) (place_at place) 1 0 (omega arith)))
            (λ miss.
            rw (
              miss,
              get_or-set_other (departed w identity) (place_at place) (place_at other) 1 0 (omega tests),
              departed_place identity k.leaves other,
            )
            (h.places other)));
      }

  -- An accepted call, with the values that it gives.
  told_accepted : (call : WaitingCall) → first_refusal (waiting_rule (lent m w) call).needs ≡ 0 → (a : Answer)
      → Told (past ++ accepted_events call a) (waiting_rule (lent m w) call).after.waiting
  unfolding waiting_rule open_rule ask_rule
  told_accepted (Open f steps) pass a = told_opened past a.first
  told_accepted (Enter e) pass a = told_entered e pass
  told_accepted (Withdraw identity) pass a = told_withdrawn identity pass
  told_accepted (Match movements i identity place) pass a = told_matched movements i identity place pass
  told_accepted (Ask taker) pass a = rw (append-nil past) h

  pub told_step : (call : WaitingCall)
      → Told (past ++ events_of call (waiting_step (lent m w) call).answer) (waiting_step (lent m w) call).state.waiting
  unfolding waiting_step events_of
  told_step call =
      outcome_cases (lent m w) (waiting_rule (lent m w) call) (λ o. Told (past ++ events_of call o.answer) o.state.waiting)
      (λ n e. rw (eqb-suc-zero n, append-nil past) h)
      (λ pass. told_accepted call pass _)

  once_accepted : (call : WaitingCall) → first_refusal (waiting_rule (lent m w) call).needs ≡ 0 → (a : Answer) (place : ℕ)
      → Once place past (accepted_events call a)
  unfolding waiting_rule
  once_accepted (Open f steps) pass a place = (λ q. cc, tt)
  once_accepted (Enter e) pass a place = (λ q. cc, tt)
  once_accepted (Withdraw identity) pass a place = (λ q. cc, tt)
  once_accepted (Match movements i identity taking) pass a place =
      let k = matches (lent m w) movements i identity taking pass in
      (λ hit. let q : taking ≡ place = omega tests in rw (← q) (sym (h.places taking) ∙ k.fresh), tt)
  once_accepted (Ask taker) pass a place = tt

  once_step : (call : WaitingCall) (place : ℕ) → Once place past (events_of call (waiting_step (lent m w) call).answer)
  unfolding waiting_step events_of
  once_step call place =
      outcome_cases (lent m w) (waiting_rule (lent m w) call) (λ o. Once place past (events_of call o.answer))
      (λ n e. rw (eqb-suc-zero n) tt)
      (λ pass. once_accepted call pass _ place)

  -- An Ask.
  pub asked : (taker : ℕ) → Accepted (waiting_step (lent m w) (Ask taker)) → (waiting_step (lent m w) (Ask taker)).answer ≡ passed past taker
  unfolding waiting_step waiting_rule ask_rule
  asked taker accepted =
      let rule = ask_rule (lent m w) taker in
      let pass = no_refusal (lent m w) rule accepted in
      let k = asks (lent m w) taker pass in
      let most = k.ready.replicas in
      let own : taker < max_replicas = omega arith in
      let l = h.listed.slice in
      ap (λ (o : WaitingOutcome). o.answer) (sym (accepts (lent m w) rule (sym pass)))
      ∙ rw (l.pallets taker own, l.earliest taker own, pallets-by past taker, earliest-by past taker)

  pub by_history : FormLeft (lent m w) → AnswersBy past (lent m w)
  unfolding waiting_step waiting_rule enter_rule withdraw_rule match_rule ask_rule first_refusal
  by_history form =
      let s = lent m w in
      let whole = form.memory in
      let shaped = form.waiting in
      let listed = h.listed.slice.listed in
      record {
        enters = λ e. returned s (enter_rule s e) ∙ rw (whole, shaped, listed);
        withdraws = λ identity. returned s (withdraw_rule s identity) ∙ rw (whole, shaped, listed);
        matches = λ movements i identity place.
            returned s (match_rule s movements i identity place) ∙ rw (whole, shaped, listed, h.places place);
        asks = λ taker. returned s (ask_rule s taker) ∙ rw (whole, shaped);
      }

-- ---- lists of calls

told-after : (qs : List LentCall) (past : List Event) (w : List ℕ) → Told past w → Told (past ++ history w qs) (slice_after w qs)
unfolding history slice_after
told-after [] past w h = rw (append-nil past) h
told-after (q ∷ qs) past w h =
    let events = events_of q.call (call_on w q).answer in
    rw (← append_assoc past events (history (call_on w q).state.waiting qs))
    (told-after qs (past ++ events) (call_on w q).state.waiting (told_step past q.memory w h q.call))

once_after : (qs : List LentCall) (past : List Event) (w : List ℕ) (place : ℕ) → Told past w → Once place past (history w qs)
unfolding history
once_after [] past w place h = tt
once_after (q ∷ qs) past w place h =
    let events = events_of q.call (call_on w q).answer in
    let left = (call_on w q).state.waiting in
    once_append place past events (history left qs) (once_step past q.memory w h q.call place)
    (once_after qs (past ++ events) left place (told_step past q.memory w h q.call))

-- ---- from an accepted opening on

pub opening_told : (s : Lent) (f : ℕ) (steps : List ℕ) → Accepted (waiting_step s (Open f steps))
    → Told (events_of (Open f steps) (waiting_step s (Open f steps)).answer) (waiting_step s (Open f steps)).state.waiting
unfolding waiting_step waiting_rule open_rule events_of
opening_told s f steps accepted = rw (accepted_after s (open_rule s f steps) accepted, accepted) (told_opened [] _)

slice-told : (x : SliceRun) → Told (slice_told x) (slice_end x)
slice-told x = told-after x.calls _ (opened_slice x) (opening_told x.start x.f x.steps x.accepted)

pub ask-is-pass : AskIsPass
unfolding AskIsPass
ask-is-pass x m taker accepted = asked (slice_told x) m (slice_end x) (slice-told x) taker accepted

pub calls-answer-by-history : CallsAnswerByHistory
unfolding CallsAnswerByHistory
calls-answer-by-history x m form = by_history (slice_told x) m (slice_end x) (slice-told x) form

pub never-more-wait : NeverMoreWait
unfolding NeverMoreWait
never-more-wait x = (slice-told x).listed.slice.few

pub pallets-waiting-bounded : PalletsWaitingBounded
unfolding PalletsWaitingBounded
pallets-waiting-bounded x taker =
    let l = (slice-told x).listed in
    let few = l.slice.few in
    let by = pallets-by (slice_told x) taker in
    let small = pallets_small taker max_pallets (still_waiting (slice_told x)) l.small in
    omega arith

slice_once : (x : SliceRun) (place : ℕ) → Once place [] (slice_told x)
unfolding events_of used_by
slice_once x place =
    let call = Open x.f x.steps in
    let events = events_of call (waiting_step x.start call).answer in
    once_append place [] events (history (opened_slice x) x.calls) (rw x.accepted (λ q. refl, tt))
    (once_after x.calls events (opened_slice x) place (opening_told x.start x.f x.steps x.accepted))

pub place-takes-out-one : PlaceTakesOutOne
unfolding PlaceTakesOutOne
place-takes-out-one x before between after first second place is =
    once_opens place first second before between after (rw is at (slice_once x place))
