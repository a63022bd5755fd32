use Rattle.std.proofs.Common.{ℕ, ◌-◌, ◌+◌, ◌<◌, ◌≡◌, sym, ◌∙◌, length, take, drop, arith}
use lib.ListN.{length-drop}
use lib.Seq.{take_all}
use Rattle.stream.proofs.Feeding.{stopped, line_fed, rest_held}
use Rattle.stream.proofs.feed.Goals as goal

pub returns-in_default-clause-text_after : goal.returns-in_default-clause-text_after
returns-in_default-clause-text_after c =
    let l = c.loop-p in
    let free = λ (k : ℕ) (u : k < length l.rest.now). c.in_default.ensures k (omega arith) u in
    let held = rest_held l.p l.table l.log l.blocks l.line l.text l.rest.now c.loop-p-test.true l.invariant.held l.invariant.line_length free
    c.hold-p.ensures in
    sym held ∙ l.invariant.same

pub loop-p-preserved : goal.loop-p-preserved
loop-p-preserved c =
    let l = c.loop-p in
    let rest = l.rest.now in
    let end = c.in-Some.end in
    let found = c.in-Some.ensures in
    let o = c.answer_from.ensures in
    let long = length-drop (end + 1) rest in
    let left : take (length rest - (end + 1)) (drop (end + 1) rest) ≡ drop (end + 1) rest =
    take_all (length rest - (end + 1)) (drop (end + 1) rest) (omega (arith, long)) in
    let fed_on =
    line_fed l.p l.table l.log l.blocks l.line l.text rest c.loop-p-test.true l.invariant.held l.invariant.line_length end found.0.high found.1
    (λ k u. found.0.before k (omega arith) u) o.text_after in
    rw left
    (record {
      within = omega (arith, long, l.invariant.within);
      table_length = c.answer_from.auto.table ∙ l.invariant.table_length;
      log_length = c.answer_from.auto.log ∙ l.invariant.log_length;
      blocks_length = c.answer_from.auto.blocks ∙ l.invariant.blocks_length;
      line_length = c.answer_from.auto.line ∙ l.invariant.line_length;
      text_length = c.answer_from.auto.text ∙ l.invariant.text_length;
      held = omega (arith, o.one_more.held);
      pending = omega (arith, o.one_more.pending, l.invariant.pending, long, found.0.high);
      same = fed_on ∙ l.invariant.same;
    })

pub returns-clause-text_after : goal.returns-clause-text_after
returns-clause-text_after c =
    let l = c.loop-p in
    sym (stopped l.p _ _ _ _ _ l.rest.now c.loop-p-test.false) ∙ l.invariant.same
