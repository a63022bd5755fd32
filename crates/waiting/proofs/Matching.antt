-- What a match answers, once its first needs are tested and the slot of its identity is found.
use Prim.Native.Nat.{ℕ, ◌<◌}
use mathlib.Core.Path.{◌≡◌, refl, sym, ◌∙◌}
use mathlib.Core.Bool.{Bool, true, false}
use mathlib.Core.List.{List, [], ◌∷◌, ◌++◌}
use native.Mathlib.Omega.{arith}
use Rattle.protocol.specs.Memory.{replica_count, fault_bound}
use Rattle.protocol.specs.Form.{all_hold}
use Rattle.protocol.specs.Outcome.{Need, ◌else◌, first_refusal, wrong_certificate}
use Rattle.protocol.proofs.logic.Booleans.{tests}
use Rattle.protocol.proofs.calls.Needs.{all_needs}
use Rattle.form.proofs.Within.{replica_bounds}
use Rattle.checks.proofs.Passing.{At, start, on}
use Rattle.movements.specs.Movements.{movement, movement_count, is_movement_list}
use Rattle.movements.proofs.Allowed.{list_short}
use Rattle.ancestry.proofs.Fitting.{ancestry_fits}
use Rattle.entries.specs.Entries.{waiting_count, entries}
use Rattle.entries.specs.Waiting.{Lent, Match, departure_needs, match_fit, match_rule, waiting_rule}
use Rattle.arrivals.specs.inner.Found.{FirstWith}
use Rattle.arrivals.proofs.Finding.{found_entry}
use Rattle.waiting.specs.inner.Parts.{listed_needs, Fitting, movement_fits}
use Rattle.waiting.proofs.Known.{Known, known_holding}

-- Three needs of one number are one.
three : (a b c : Bool) (n : ℕ)
    → first_refusal (a else n ∷ b else n ∷ c else n ∷ []) ≡ first_refusal (all_hold (a ∷ b ∷ c ∷ []) else n ∷ [])
unfolding all_hold first_refusal
three false b c n = refl
three true false c n = refl
three true true false n = refl
three true true true n = refl

module _ (s : Lent) (movements : List ℕ) (i place : ℕ) where
  -- What is known once the first needs hold.
  pub record Listed : Type 0 where
    pub list : is_movement_list movements ≡ true
    pub ready : Known s
    pub own : i < replica_count (fault_bound s.memory)
    pub inside : place < movement_count movements

  pub listed : 0 ≡ first_refusal (listed_needs s movements i place) → Listed
  listed passed =
      let h = all_needs (listed_needs s movements i place) refl (sym passed) in
      record {
        list = h.0;
        ready = known_holding s (h.1.0, (h.1.1.0, tt));
        own = omega tests;
        inside = omega tests;
      }

  pub fitting : Listed → (slot : ℕ) → slot < waiting_count s.waiting
      → Fitting s.memory.table s.memory.blocks s.waiting i slot place
  fitting h slot there =
      let l = h.own in
      let few = h.ready.few in
      let short = list_short movements h.list in
      let within = h.inside in
      let z = h.ready.sizes in
      let b = replica_bounds s.memory h.ready.formed i l in
      record {
        row = omega arith;
        size = h.ready.size;
        slot_fits = omega arith;
        place_fits = omega arith;
        walk = ancestry_fits s.memory h.ready.formed _ b.decided_block;
      }

  module _ (identity : ℕ) where
    abbrev last : List Need
    last = match_fit s movements i identity place

    pub to_match : At (waiting_rule s (Match movements i identity place))
        (listed_needs s movements i place ++ (departure_needs (entries s.waiting) identity ++ last))
    unfolding waiting_rule match_rule
    to_match = start _

    pub naming : 0 ≡ first_refusal (listed_needs s movements i place)
        → At (waiting_rule s (Match movements i identity place)) (departure_needs (entries s.waiting) identity ++ last)
    naming = on (listed_needs s movements i place) _ refl to_match

    pub comparing : (slot : ℕ) → FirstWith s.waiting identity (waiting_count s.waiting) slot
        → 0 ≡ first_refusal (listed_needs s movements i place) → 0 ≡ first_refusal (departure_needs (entries s.waiting) identity)
        → At (waiting_rule s (Match movements i identity place))
        (movement_fits s.memory.table s.memory.blocks s.waiting (movement movements place) i slot place else wrong_certificate ∷ [])
    comparing slot f passed waits =
        let at = on (departure_needs (entries s.waiting) identity) _ refl (naming passed) waits in
        record { same = at.same ∙ rw (found_entry identity s.waiting slot f) (three _ _ _ wrong_certificate) }
