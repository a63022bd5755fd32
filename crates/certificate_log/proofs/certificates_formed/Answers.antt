use mathlib.Core.Path.{sym, ap, ◌∙◌}
use borrow.Author.Rules.{rules}
use native.Mathlib.Omega.{arith}
use Rattle.protocol.specs.Form.{all_below}
use Rattle.protocol.proofs.logic.Below.{next}
use Rattle.protocol.proofs.logic.Joined.{denied, granted}
use Rattle.certificate_log.specs.inner.Records.{group_exceeds}
use Rattle.certificate_log.proofs.Limits.{formed, kind_refutes, limit_refutes, group_formed, group_kinds_refute, group_limits_refute}
use Rattle.certificate_log.proofs.certificates_formed.Goals.{then-not-has_kind-via-then-not-has_kind}
use Rattle.certificate_log.proofs.certificates_formed.Goals.{then-not-has_kind-via-else-not-has_kind+then-exceeds}
use Rattle.certificate_log.proofs.certificates_formed.Goals as goal

pub loop-number-init : goal.loop-number-init
unfolding all_below
loop-number-init c = search rules

pub returns-then-not-group_has_kinds : goal.returns-then-not-group_has_kinds
returns-then-not-group_has_kinds c =
    let pre = c.requires in
    group_kinds_refute _ _ _ pre.1 pre.2 c.loop-number.number _ (omega arith)
    (denied c.group_has_kinds.ensures c.if-not-group_has_kinds.true)

pub returns-then-group_exceeds : goal.returns-then-group_exceeds
returns-then-group_exceeds c =
    let pre = c.requires in
    let loop = c.loop-number in
    group_limits_refute _ _ _ pre.1 pre.2 loop.number _ (omega arith)
    (ap (group_exceeds _ _ _) (sym loop.invariant.1) ∙ sym c.group_exceeds.ensures ∙ c.if-group_exceeds.true)

pub loop-number-preserved : goal.loop-number-preserved
loop-number-preserved c =
    let pre = c.requires in
    let loop = c.loop-number in
    let kinds = granted c.group_has_kinds.ensures c.if-not-group_has_kinds.false in
    let limits = ap (group_exceeds _ _ _) (sym loop.invariant.1) ∙ sym c.group_exceeds.ensures ∙ c.if-group_exceeds.false in
    (search rules, omega arith, group_formed _ _ _ pre.1 pre.2 loop.number loop.invariant.2 kinds limits)

pub loop-last-init : goal.loop-last-init
loop-last-init c = c.loop-number.invariant.2

pub returns-then-not-has_kind : goal.returns-then-not-has_kind
returns-then-not-has_kind c =
    let pre = c.requires in
    let last = c.loop-last.last in
    elim c.then-not-has_kind.branch [
      | then-not-has_kind-via-then-not-has_kind w ↦
          kind_refutes _ _ _ pre.1 pre.2 last _ (omega arith) (denied c.has_kind.ensures w.if-not-has_kind.true)
      | then-not-has_kind-via-else-not-has_kind+then-exceeds w ↦
          limit_refutes _ _ _ pre.1 pre.2 last _ (omega arith) (sym w.exceeds.ensures ∙ w.if-exceeds.true)
    ]

pub loop-last-preserved : goal.loop-last-preserved
loop-last-preserved c =
    let pre = c.requires in
    let kind = granted c.has_kind.ensures c.if-not-has_kind.false in
    let limits = sym c.exceeds.ensures ∙ c.if-exceeds.false in
    next _ _ c.loop-last.invariant (formed _ _ _ pre.1 pre.2 c.loop-last.last kind limits)
