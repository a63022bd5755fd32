-- A certificate of another view is not equal.
use Prim.Native.Nat.{ℕ, ◌+◌}
use mathlib.Core.Path.{◌≡◌}
use mathlib.Core.Bool.{true, false}
use mathlib.Core.List.{List}
use native.Mathlib.Omega.{arith}
use lib.ListN.{get_or}
use lib.Dec.{eqb}
use borrow.Author.Tests.{not-true}
use Rattle.protocol.specs.Memory.{view_at, certificate_at}
use Rattle.protocol.proofs.logic.Booleans.{tests, by-test, at_below}
use Rattle.certificates.specs.inner.Filing.{equal_from, is_equal, is_of_other_view}

pub of_other_view : (log ws : List ℕ) (number : ℕ) → is_of_other_view log (get_or ws view_at 0) number ≡ true
    → is_equal log ws number ≡ false
unfolding equal_from
of_other_view log ws number e =
    let differ = not-true (eqb (get_or log (certificate_at number + view_at) 0) (get_or ws view_at 0)) e in
    by-test (is_equal log ws number) (λ same. let t = at_below _ _ same view_at (omega arith) in absurd (omega tests))
    (λ other. other)
