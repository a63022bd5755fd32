-- Only the words of the further slice that are named for a call change, and its length never does.
use Prim.Native.Nat.{ℕ, zero, suc, ◌+◌, ◌*◌, ◌≤◌}
use mathlib.Core.Path.{◌≡◌, refl, sym, ◌∙◌}
use mathlib.Core.List.{List, [], ◌∷◌, ◌++◌, map, Memᴰ}
use native.Mathlib.Omega.{arith}
use lib.ListN.{length, get_or, length-set, get_or-eq_default}
use lib.Seq.{sets, get_or-set_other}
use Rattle.protocol.specs.Outcome.{first_refusal}
use Rattle.protocol.specs.Theorems.{below}
use Rattle.protocol.proofs.logic.Booleans.{tests}
use Rattle.protocol.proofs.memory.Words.{sets_elsewhere}
use Rattle.protocol.proofs.calls.Needs.{all_needs, outcome_state}
use Rattle.entries.specs.declared.Entry.{Entry}
use Rattle.entries.specs.Entries.{entry_width, entry_at, place_at, waiting_words, waiting_count, entries, entry_of, without, words_of}
use Rattle.entries.specs.Entries.{holding}
use Rattle.entries.specs.Waiting.{Lent, WaitingCall, Open, Enter, Withdraw, Match, Ask, open_rule, enter_rule, withdraw_rule}
use Rattle.entries.specs.Waiting.{match_rule, ask_rule, waiting_rule, waiting_step, departed}
use Rattle.entries.specs.Theorems.{departure_indices, named_waiting, OnlyNamedWaitingChange}
use Rattle.protocol.specs.Calls.{opening}
use Rattle.entries.proofs.Words.{from_length, holding_length, holding_elsewhere, holding_joined, refreshed_length}
use Rattle.entries.proofs.Words.{refreshed_elsewhere}
use Rattle.entries.proofs.Lists.{without_length}
use Rattle.entries.proofs.Slices.{cleared, cleared_length, arrived}

-- ---- indices

-- An index that is none of a list.
abbrev Away : ℕ → List ℕ → Type 0
Away k [] = Unit {0}
Away k (x ∷ xs) = (k ≡ x → ⊥) × Away k xs

away : (k : ℕ) (xs : List ℕ) → (Memᴰ k xs → ⊥) → Away k xs
away k [] h = tt
away k (x ∷ xs) h = (λ e. h (Memᴰ.head e), away k xs (λ w. h (Memᴰ.tail w)))

-- Past a run of indices.
past_run : (n at j : ℕ) → Away j (map (λ o. at + o) (below n)) → at ≤ j → at + n ≤ j
past_run zero at j h le = omega arith
past_run (suc n) at j h le =
    let more = past_run n at j h.1 le in
    let other = h.0 in
    omega arith

past_below : (n j : ℕ) → Away j (below n) → n ≤ j
past_below zero j h = omega arith
past_below (suc n) j h =
    let more = past_below n j h.1 in
    let other = h.0 in
    omega arith

-- ---- the changes

arrived_frame : (w : List ℕ) (e : Entry) (j : ℕ) → Away j (named_waiting w (Enter e)) → get_or (arrived w e) j 0 ≡ get_or w j 0
unfolding named_waiting
arrived_frame w e j h =
    let at = entry_at (waiting_count w) in
    refreshed_elsewhere (holding w (entries w ++ (e ∷ []))) e.taker j h.1.0 h.1.1.0
    ∙ rw (holding_joined w (e ∷ []))
    (get_or-set_other (sets w at (words_of e)) 0 j _ 0 h.0
    ∙ sets_elsewhere (words_of e) w at j (λ le. past_run entry_width at j h.1.1.1 le))

departed_frame : (w : List ℕ) (identity j : ℕ) → Away j (departure_indices w identity) → get_or (departed w identity) j 0 ≡ get_or w j 0
departed_frame w identity j h =
    let fewer = without_length identity (entries w) in
    let count = from_length w 0 (waiting_count w) in
    refreshed_elsewhere (holding w (without identity (entries w))) (entry_of identity (entries w)).taker j h.1.0 h.1.1.0
    ∙ holding_elsewhere w (without identity (entries w)) j h.0
    (λ le. let far = past_run (entry_width * waiting_count w) (entry_at 0) j h.1.1.1 le in omega arith)

departed_length : (w : List ℕ) (identity : ℕ) → length (departed w identity) ≡ length w
departed_length w identity =
    refreshed_length (holding w (without identity (entries w))) (entry_of identity (entries w)).taker
    ∙ holding_length w (without identity (entries w))

-- ---- the calls

frame : (s : Lent) (call : WaitingCall) (j : ℕ) → Away j (named_waiting s.waiting call)
    → first_refusal (waiting_rule s call).needs ≡ 0 → get_or (waiting_rule s call).after.waiting j 0 ≡ get_or s.waiting j 0
unfolding named_waiting waiting_rule open_rule enter_rule withdraw_rule match_rule ask_rule opening
frame s (Open f steps) j h pass =
    let long = (all_needs (open_rule s f steps).needs refl pass).1.1.1.0 in
    let far = past_below waiting_words j h in
    let size = cleared_length in
    get_or-eq_default cleared 0 {n = j} (omega tests) ∙ sym (get_or-eq_default s.waiting 0 {n = j} (omega tests))
frame s (Enter e) j h pass = arrived_frame s.waiting e j h
frame s (Withdraw identity) j h pass = departed_frame s.waiting identity j h
frame s (Match movements i identity place) j h pass =
    get_or-set_other (departed s.waiting identity) (place_at place) j 1 0 h.0 ∙ departed_frame s.waiting identity j h.1
frame s (Ask taker) j h pass = refl

size_after : (s : Lent) (call : WaitingCall) → first_refusal (waiting_rule s call).needs ≡ 0
    → length (waiting_rule s call).after.waiting ≡ length s.waiting
unfolding waiting_rule open_rule enter_rule withdraw_rule match_rule ask_rule opening
size_after s (Open f steps) pass =
    let long = (all_needs (open_rule s f steps).needs refl pass).1.1.1.0 in
    cleared_length ∙ omega tests
size_after s (Enter e) pass =
    let w = s.waiting in
    refreshed_length (holding w (entries w ++ (e ∷ []))) e.taker ∙ holding_length w (entries w ++ (e ∷ []))
size_after s (Withdraw identity) pass = departed_length s.waiting identity
size_after s (Match movements i identity place) pass =
    length-set (departed s.waiting identity) (place_at place) 1 ∙ departed_length s.waiting identity
size_after s (Ask taker) pass = refl

pub only-named-waiting-change : OnlyNamedWaitingChange
unfolding OnlyNamedWaitingChange waiting_step
only-named-waiting-change s call =
    record {
      words = λ k h.
          outcome_state s (waiting_rule s call) (λ x. get_or x.waiting k 0 ≡ get_or s.waiting k 0) refl
          (λ e. frame s call k (away k (named_waiting s.waiting call) h) e);
      size =
          outcome_state s (waiting_rule s call) (λ x. length x.waiting ≡ length s.waiting) refl (λ e. size_after s call e);
    }
