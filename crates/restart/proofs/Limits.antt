-- A boot more, and a step on from a view limit, fit a word.
use Prim.Native.Nat.{ℕ, ◌+◌, ◌^◌, ◌<◌}
use mathlib.Core.Path.{◌≡◌}
use native.Mathlib.Omega.{arith}
use Rattle.protocol.specs.Memory.{Memory, replica}
use Rattle.protocol.specs.Counter.{counter_step}
use Rattle.protocol.proofs.logic.Booleans.{tests}
use Rattle.form.proofs.Within.{replica_bounds}
use Rattle.counter.proofs.Steps.{counter_step_bounds}
use Rattle.checks.proofs.Ready.{Ready}

pub boot_fits : (m : Memory) (i : ℕ) → Ready m i → (replica m i).boot + 1 < 2 ^ 32
boot_fits m i w = let b = replica_bounds m w.formed i (omega (tests, w.own)) in omega arith

pub limit_fits : (m : Memory) (i boot : ℕ) {step : ℕ} → Ready m i → step ≡ counter_step m boot → (replica m i).view_limit + step < 2 ^ 32
limit_fits m i boot w p =
    let b = replica_bounds m w.formed i (omega (tests, w.own)) in
    let s = counter_step_bounds m boot w.formed in
    omega arith
