-- What is known once the form of the four slices is tested.
use Prim.Native.Nat.{ℕ, ◌≤◌, ◌<◌}
use mathlib.Core.Path.{◌≡◌, refl, sym}
use mathlib.Core.Bool.{true}
use native.Mathlib.Omega.{arith}
use lib.ListN.{length}
use Rattle.protocol.specs.Memory.{replica_count, fault_bound}
use Rattle.protocol.specs.Outcome.{first_refusal}
use Rattle.protocol.proofs.calls.Needs.{Holds, all_needs}
use Rattle.protocol.proofs.memory.Formed as Memory
use Rattle.protocol.proofs.memory.Formed.{Sizes, sizes}
use Rattle.movements.specs.Movements.{max_pallets}
use Rattle.entries.specs.Entries.{max_waiting, max_replicas, waiting_words, waiting_count, entry, entry_allowed}
use Rattle.entries.specs.Waiting.{Lent, form_needs}
use Rattle.entries.proofs.Lists.{from_all}
use Rattle.entries.proofs.Slices as Slices
use Rattle.entries.proofs.Slices.{is-allowed}

pub record Known (s : Lent) : Type 0 where
  pub formed : Memory.Formed s.memory
  pub sizes : Sizes s.memory
  pub size : length s.waiting ≡ waiting_words
  pub few : waiting_count s.waiting ≤ max_waiting
  pub each : (k : ℕ) → k < waiting_count s.waiting → entry_allowed (replica_count (fault_bound s.memory)) (entry s.waiting k) ≡ true

pub known_holding : (s : Lent) → Holds (form_needs s) → Known s
known_holding s both =
    let f = Memory.formed s.memory both.0 in
    let w = Slices.formed _ s.waiting both.1.0 in
    record {
      formed = f;
      sizes = sizes s.memory f;
      size = w.size;
      few = w.few;
      each = λ k l. from_all (λ x. entry_allowed _ x ≡ true) s.waiting 0 (waiting_count s.waiting) w.each k (omega arith) (omega arith);
    }

pub known : (s : Lent) → 0 ≡ first_refusal (form_needs s) → Known s
known s passed = known_holding s (all_needs (form_needs s) refl (sym passed))

module _ (s : Lent) (h : Known s) where
  pub replicas_few : replica_count (fault_bound s.memory) ≤ max_replicas
  replicas_few = let z = h.sizes in omega arith

  pub few_each : (k : ℕ) → k < waiting_count s.waiting → (entry s.waiting k).pallets ≤ max_pallets
  few_each k l = (is-allowed _ (entry s.waiting k) (h.each k l)).few

  pub taker_each : (k : ℕ) → k < waiting_count s.waiting → (entry s.waiting k).taker < max_replicas
  taker_each k l = let t = is-allowed _ (entry s.waiting k) (h.each k l) in let n = replicas_few in omega arith
