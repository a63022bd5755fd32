-- One more than the of-view of a listed certificate fits a word.
use Prim.Native.Nat.{ℕ, ◌+◌, ◌^◌, ◌<◌}
use mathlib.Core.List.{List}
use native.Mathlib.Omega.{arith}
use lib.ListN.{get_or}
use Rattle.protocol.specs.Memory.{Memory, certificate}
use Rattle.form.proofs.Within.{certificate_bounds}
use Rattle.checks.proofs.Ready.{Ready, ReadyList, issued_at}

pub of_view_fits : (m : Memory) (i : ℕ) (list : List ℕ) → Ready m i → ReadyList m list → (k : ℕ)
    → (certificate m (get_or list k 0)).of_view + 1 < 2 ^ 32
of_view_fits m i list w l k =
    let b = certificate_bounds m w.formed (get_or list k 0) (issued_at m i list w l k) in
    omega arith
