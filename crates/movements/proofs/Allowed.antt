-- What an allowed movement, and a list of movements, tell.
use Prim.Native.Nat.{ℕ, ◌≤◌, ◌<◌}
use mathlib.Core.Path.{◌≡◌}
use mathlib.Core.Bool.{true}
use mathlib.Core.List.{List}
use Rattle.protocol.proofs.logic.Booleans.{tests, each}
use Rattle.movements.specs.declared.Movement.{Movement}
use Rattle.movements.specs.Movements.{movement_count, movement_allowed, is_movement_list, max_pallets, max_movements}

pub record Allowed (replicas added : ℕ) (x : Movement) : Type 0 where
  pub giver : x.giver < replicas
  pub taker : x.taker < replicas
  pub block : x.block < added
  pub few : x.pallets ≤ max_pallets

pub is-allowed : (replicas added : ℕ) (x : Movement) → movement_allowed replicas added x ≡ true → Allowed replicas added x
unfolding movement_allowed
is-allowed replicas added x e = let t = each _ e in omega tests

pub list_short : (movements : List ℕ) → is_movement_list movements ≡ true → movement_count movements ≤ max_movements
unfolding is_movement_list
list_short movements e = let t = each _ e in omega tests
