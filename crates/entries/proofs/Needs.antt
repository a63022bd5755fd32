-- What the needs of a call tell where none refuses.
use Prim.Native.Nat.{ℕ, ◌≤◌, ◌<◌}
use mathlib.Core.Path.{◌≡◌, refl, sym}
use mathlib.Core.Bool.{Bool, true, false, not}
use mathlib.Core.List.{List}
use lib.ListN.{length}
use Rattle.protocol.specs.Memory.{replica_count, fault_bound}
use Rattle.protocol.specs.Form.{well_formed}
use Rattle.protocol.specs.Outcome.{first_refusal}
use Rattle.protocol.proofs.logic.Booleans.{tests}
use Rattle.protocol.proofs.memory.Formed.{sizes}
use Rattle.protocol.proofs.memory.Formed as Memory
use Rattle.protocol.proofs.calls.Needs.{all_needs}
use Rattle.movements.specs.Movements.{max_movements}
use Rattle.movements.proofs.Allowed.{list_short}
use Rattle.entries.specs.declared.Entry.{Entry}
use Rattle.entries.specs.Entries.{max_waiting, max_replicas, is_used, entries, entry_allowed, waiting_formed, is_waiting}
use Rattle.entries.specs.Waiting.{Lent, enter_rule, withdraw_rule, match_rule, ask_rule}
use Rattle.entries.proofs.Slices.{Formed, formed}

not-true : (b : Bool) → not b ≡ true → b ≡ false
not-true true e = sym e
not-true false e = refl

-- The form of the four slices.
pub record Ready (s : Lent) : Type 0 where
  pub memory : well_formed s.memory ≡ true
  pub waiting : Formed (replica_count (fault_bound s.memory)) s.waiting
  pub replicas : replica_count (fault_bound s.memory) ≤ max_replicas

pub record Enters (s : Lent) (e : Entry) : Type 0 where
  pub ready : Ready s
  pub allowed : entry_allowed (replica_count (fault_bound s.memory)) e ≡ true
  pub new : is_waiting e.identity (entries s.waiting) ≡ false
  pub room : length (entries s.waiting) < max_waiting

pub record Leaves (s : Lent) (identity : ℕ) : Type 0 where
  pub ready : Ready s
  pub waits : is_waiting identity (entries s.waiting) ≡ true

pub record Matches (s : Lent) (identity place : ℕ) : Type 0 where
  pub leaves : Leaves s identity
  pub inside : place < max_movements
  pub fresh : is_used s.waiting place ≡ false

pub record Asks (s : Lent) (taker : ℕ) : Type 0 where
  pub ready : Ready s
  pub own : taker < replica_count (fault_bound s.memory)

module _ (s : Lent) where
  pub ready : well_formed s.memory ≡ true → waiting_formed (replica_count (fault_bound s.memory)) s.waiting ≡ true → Ready s
  ready whole shaped =
      let z = sizes s.memory (Memory.formed s.memory whole) in
      record { memory = whole; waiting = formed _ s.waiting shaped; replicas = omega tests }

  pub enters : (e : Entry) → first_refusal (enter_rule s e).needs ≡ 0 → Enters s e
  unfolding enter_rule
  enters e pass =
      let h = all_needs (enter_rule s e).needs refl pass in
      record {
        ready = ready h.0 h.1.0;
        allowed = h.1.1.0;
        new = not-true (is_waiting e.identity (entries s.waiting)) h.1.1.1.0;
        room = omega tests;
      }

  pub withdraws : (identity : ℕ) → first_refusal (withdraw_rule s identity).needs ≡ 0 → Leaves s identity
  unfolding withdraw_rule
  withdraws identity pass =
      let h = all_needs (withdraw_rule s identity).needs refl pass in
      record { ready = ready h.0 h.1.0; waits = h.1.1.0 }

  pub matches : (movements : List ℕ) (i identity place : ℕ) → first_refusal (match_rule s movements i identity place).needs ≡ 0
      → Matches s identity place
  unfolding match_rule
  matches movements i identity place pass =
      let h = all_needs (match_rule s movements i identity place).needs refl pass in
      let short = list_short movements h.0 in
      record {
        leaves = record { ready = ready h.1.0 h.1.1.0; waits = h.1.1.1.1.1.1.0 };
        inside = omega tests;
        fresh = not-true (is_used s.waiting place) h.1.1.1.1.1.1.1.1.1.0;
      }

  pub asks : (taker : ℕ) → first_refusal (ask_rule s taker).needs ≡ 0 → Asks s taker
  unfolding ask_rule
  asks taker pass =
      let h = all_needs (ask_rule s taker).needs refl pass in
      record { ready = ready h.0 h.1.0; own = omega tests }
