-- Passes over a history, and over one with a further event at its end.
use Prim.Native.Nat.{ℕ}
use mathlib.Core.Path.{◌≡◌, refl, ◌∙◌}
use mathlib.Core.Bool.{true, false, cond, ◌||◌}
use mathlib.Core.List.{List, [], ◌∷◌, ◌++◌, append-nil}
use native.Mathlib.Omega.{arith}
use lib.Dec.{eqb}
use Rattle.protocol.proofs.logic.Booleans.{tests, by-test, or-false}
use Rattle.entries.specs.declared.Entry.{Entry}
use Rattle.entries.specs.Entries.{is_waiting, without, pallets_for, earliest_for}
use Rattle.entries.specs.Arrivals.{Event, opened, entered, withdrawn, matched, takes_out, leaves, still_waiting, pallets_by}
use Rattle.entries.specs.Arrivals.{earliest_by}
use Rattle.entries.proofs.Lists.{Apart}

-- ---- the pass over the arrivals is that over those that still wait

pub pallets-by : (events : List Event) (taker : ℕ) → pallets_by events taker ≡ pallets_for taker (still_waiting events)
unfolding pallets_by pallets_for still_waiting
pallets-by [] taker = refl
pallets-by (opened n ∷ later) taker = pallets-by later taker
pallets-by (entered e ∷ later) taker =
    rw (pallets-by later taker)
    (by-test (leaves e.identity later)
    (λ gone. by-test (eqb e.taker taker) (λ own. rw (gone, own) (omega arith)) (λ other. rw (gone, other) (omega arith)))
    (λ stays. by-test (eqb e.taker taker) (λ own. rw (stays, own)) (λ other. rw (stays, other))))
pallets-by (withdrawn gone ∷ later) taker = pallets-by later taker
pallets-by (matched gone place ∷ later) taker = pallets-by later taker

pub earliest-by : (events : List Event) (taker : ℕ) → earliest_by events taker ≡ earliest_for taker (still_waiting events)
unfolding earliest_by earliest_for still_waiting
earliest-by [] taker = refl
earliest-by (opened n ∷ later) taker = earliest-by later taker
earliest-by (entered e ∷ later) taker =
    rw (earliest-by later taker)
    (by-test (leaves e.identity later)
    (λ gone. by-test (eqb e.taker taker) (λ own. rw (gone, own)) (λ other. rw (gone, other)))
    (λ stays. by-test (eqb e.taker taker) (λ own. rw (stays, own)) (λ other. rw (stays, other))))
earliest-by (withdrawn gone ∷ later) taker = earliest-by later taker
earliest-by (matched gone place ∷ later) taker = earliest-by later taker

-- ---- a further event

-- The entries that an event does not take out, and that which it brings.
abbrev staying : Event → List Entry → List Entry
staying x [] = []
staying x (e ∷ es) = cond (takes_out x e.identity) (staying x es) (e ∷ staying x es)

abbrev arrival : Event → List Entry
arrival (opened n) = []
arrival (entered e) = e ∷ []
arrival (withdrawn gone) = []
arrival (matched gone place) = []

leaves_next : (identity : ℕ) (events : List Event) (x : Event)
    → leaves identity (events ++ (x ∷ [])) ≡ (leaves identity events || takes_out x identity)
unfolding leaves
leaves_next identity [] x = by-test (takes_out x identity) (λ out. rw out) (λ kept. rw kept)
leaves_next identity (y ∷ later) x =
    rw (leaves_next identity later x) (by-test (takes_out y identity) (λ out. rw out) (λ kept. rw kept))

still_next : (events : List Event) (x : Event) → still_waiting (events ++ (x ∷ [])) ≡ staying x (still_waiting events) ++ arrival x
unfolding still_waiting leaves
still_next [] (opened n) = refl
still_next [] (entered e) = refl
still_next [] (withdrawn gone) = refl
still_next [] (matched gone place) = refl
still_next (opened n ∷ later) x = still_next later x
still_next (entered e ∷ later) x =
    rw (leaves_next e.identity later x, still_next later x)
    (by-test (leaves e.identity later) (λ gone. rw gone)
    (λ stays. rw stays (by-test (takes_out x e.identity) (λ out. rw out) (λ kept. rw kept))))
still_next (withdrawn gone ∷ later) x = still_next later x
still_next (matched gone place ∷ later) x = still_next later x

all_out : (n : ℕ) (es : List Entry) → staying (opened n) es ≡ []
all_out n [] = refl
all_out n (e ∷ es) = all_out n es

none_out : (new : Entry) (es : List Entry) → staying (entered new) es ≡ es
none_out new [] = refl
none_out new (e ∷ es) = rw (none_out new es)

-- An event that takes out one identity.
module _ (x : Event) (gone : ℕ) (departs : (identity : ℕ) → takes_out x identity ≡ eqb gone identity) where
  others_stay : (es : List Entry) → is_waiting gone es ≡ false → staying x es ≡ es
  unfolding is_waiting
  others_stay [] h = refl
  others_stay (e ∷ es) h =
      let both = or-false (eqb e.identity gone) (is_waiting gone es) h in
      let other : eqb gone e.identity ≡ false = omega tests in
      rw (departs e.identity, other, others_stay es both.1)

  one_out : (es : List Entry) → Apart es → staying x es ≡ without gone es
  unfolding without
  one_out [] h = refl
  one_out (e ∷ es) h =
      by-test (eqb e.identity gone)
      (λ hit.
      let also : eqb gone e.identity ≡ true = omega tests in
      let q : e.identity ≡ gone = omega tests in
      rw (departs e.identity, also, hit) (others_stay es (rw q at h.0)))
      (λ miss.
      let other : eqb gone e.identity ≡ false = omega tests in
      rw (departs e.identity, other, miss, one_out es h.1))

module _ (past : List Event) where
  pub still_opened : (n : ℕ) → still_waiting (past ++ (opened n ∷ [])) ≡ []
  still_opened n = still_next past (opened n) ∙ rw (all_out n (still_waiting past))

  pub still_entered : (e : Entry) → still_waiting (past ++ (entered e ∷ [])) ≡ still_waiting past ++ (e ∷ [])
  still_entered e = still_next past (entered e) ∙ rw (none_out e (still_waiting past))

  pub still_withdrawn : (gone : ℕ) → Apart (still_waiting past)
      → still_waiting (past ++ (withdrawn gone ∷ [])) ≡ without gone (still_waiting past)
  still_withdrawn gone h =
      still_next past (withdrawn gone) ∙ append-nil _ ∙ one_out (withdrawn gone) gone (λ identity. refl) (still_waiting past) h

  pub still_matched : (gone place : ℕ) → Apart (still_waiting past)
      → still_waiting (past ++ (matched gone place ∷ [])) ≡ without gone (still_waiting past)
  still_matched gone place h =
      still_next past (matched gone place) ∙ append-nil _ ∙ one_out (matched gone place) gone (λ identity. refl) (still_waiting past) h
