use Prim.Native.Nat.{◌*◌, ◌/◌}
use native.Mathlib.Omega.{arith}
use mathlib.Core.Path.{◌≡◌}
use mathlib.Core.Bool.{true, false}
use borrow.Author.Tests.{tests}
use Rattle.std.proofs.Common.{rules}
use Rattle.std.proofs.lemmas.Iterator.{first_from_Range}
use Rattle.entries.specs.Entries.{entry}
use Rattle.arrivals.proofs.Finding.{four, groups_passed, found_from}
use Rattle.arrivals.proofs.find.Goals as goal

pub overflow_mul-passed : goal.overflow_mul-passed
overflow_mul-passed c =
    let a = c.args in
    let w = a.waiting.now in
    let h = groups_passed w a.identity (a.count / 4) c.find.result
    (first_from_Range _ _ _ c.find.result (λ k. four w a.identity (4 * k) ≡ true) (λ k. four w a.identity (4 * k) ≡ false)
    c.find.ensures.ran (λ x q k. search (rules, tests)) (λ x q k. search (rules, tests))) in
    omega (arith, h.0)

pub returns : goal.returns
returns c =
    let a = c.args in
    let w = a.waiting.now in
    let h = groups_passed w a.identity (a.count / 4) c.find.result
    (first_from_Range _ _ _ c.find.result (λ k. four w a.identity (4 * k) ≡ true) (λ k. four w a.identity (4 * k) ≡ false)
    c.find.ensures.ran (λ x q k. search (rules, tests)) (λ x q k. search (rules, tests))) in
    found_from w a.identity (4 * c.unwrap_or-passed.result) a.count c.find-2.result (rw c.unwrap_or-passed.ensures h.1)
    (first_from_Range _ _ _ c.find-2.result (λ k. (entry w k).identity ≡ a.identity) (λ k. (entry w k).identity ≡ a.identity → ⊥)
    c.find-2.ensures.ran (λ x q k. search (rules, tests)) (λ x q k. search (rules, tests)))
