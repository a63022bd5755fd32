-- Places of movements that took out an entry, by the history.
use Prim.Native.Nat.{ℕ}
use mathlib.Core.Path.{◌≡◌, refl, sym, ◌∙◌}
use mathlib.Core.Bool.{Bool, true, false, not, ◌&&◌, ◌||◌}
use mathlib.Core.List.{List, [], ◌∷◌, ◌++◌, append-nil, append_assoc}
use lib.Dec.{eqb}
use Rattle.protocol.proofs.logic.Booleans.{tests, by-test, or-false}
use Rattle.entries.specs.Arrivals.{Event, matched, is_opened, opens_among, takes_out_by, used_by}

-- ---- a further event

opens_next : (events : List Event) (x : Event) → opens_among (events ++ (x ∷ [])) ≡ (opens_among events || is_opened x)
unfolding opens_among
opens_next [] x = by-test (is_opened x) (λ e. rw e) (λ e. rw e)
opens_next (y ∷ later) x = rw (opens_next later x) (by-test (is_opened y) (λ e. rw e) (λ e. rw e))

-- Of an event that takes out, with an opening after it or not, and of one more.
regroup : (takes opens_later opens_now takes_now used : Bool)
    → ((takes && not (opens_later || opens_now)) || (takes_now || (not opens_now && used)))
    ≡ (takes_now || (not opens_now && ((takes && not opens_later) || used)))
regroup false opens_later opens_now takes_now used = refl
regroup true true opens_now takes_now used = refl
regroup true false true takes_now used = refl
regroup true false false true used = refl
regroup true false false false used = refl

pub used_next : (events : List Event) (x : Event) (place : ℕ)
    → used_by (events ++ (x ∷ [])) place ≡ (takes_out_by x place || (not (is_opened x) && used_by events place))
unfolding used_by opens_among
used_next [] x place =
    by-test (takes_out_by x place) (λ t. rw t) (λ t. rw t (by-test (is_opened x) (λ e. rw e) (λ e. rw e)))
used_next (y ∷ later) x place =
    rw (opens_next later x, used_next later x place)
    (regroup (takes_out_by y place) (opens_among later) (is_opened x) (takes_out_by x place) (used_by later place))

-- ---- no event of a list takes an entry out by a place that did so before

abbrev pub Once : ℕ → List Event → List Event → Type 0
Once place past [] = Unit {0}
Once place past (x ∷ later) = (takes_out_by x place ≡ true → used_by past place ≡ false) × Once place (past ++ (x ∷ [])) later

pub once_append : (place : ℕ) (past events more : List Event) → Once place past events → Once place (past ++ events) more
    → Once place past (events ++ more)
once_append place past [] more h g = rw append-nil at g
once_append place past (x ∷ later) more h g =
    (h.0, once_append place (past ++ (x ∷ [])) later more h.1 (rw (append_assoc past (x ∷ []) later) g))

once_at : (place gone : ℕ) (past before after : List Event) → Once place past (before ++ (matched gone place ∷ after))
    → used_by (past ++ before) place ≡ false
once_at place gone past [] after h = rw append-nil (h.0 (omega tests))
once_at place gone past (x ∷ later) after h =
    rw (← append_assoc past (x ∷ []) later) (once_at place gone (past ++ (x ∷ [])) later after h.1)

-- A place that took one out is unused only after an opening.
opens_between : (place first : ℕ) (before between : List Event) → used_by (before ++ (matched first place ∷ between)) place ≡ false
    → opens_among between ≡ true
unfolding used_by
opens_between place first [] between h =
    let same : eqb place place ≡ true = omega tests in
    let both = or-false (eqb place place && not (opens_among between)) (used_by between place) h in
    by-test (opens_among between) (λ e. e) (λ e. e ∙ sym (rw (same, e) at both.0))
opens_between place first (x ∷ later) between h =
    let rest = later ++ (matched first place ∷ between) in
    opens_between place first later between
    (or-false (takes_out_by x place && not (opens_among rest)) (used_by rest place) h).1

pub once_opens : (place first second : ℕ) (before between after : List Event)
    → Once place [] (before ++ (matched first place ∷ (between ++ (matched second place ∷ after)))) → opens_among between ≡ true
once_opens place first second before between after h =
    opens_between place first before between
    (once_at place second [] (before ++ (matched first place ∷ between)) after
    (rw (append_assoc before (matched first place ∷ between) (matched second place ∷ after)) h))
