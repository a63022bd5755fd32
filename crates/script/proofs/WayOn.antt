-- Calls written as lines: the theorems that specs/WayOn.antt states.
use Prim.Native.Nat.{ℕ, ◌≤◌}
use mathlib.Core.Path.{◌≡◌, refl, sym, ap, ◌∙◌}
use mathlib.Core.Bool.{true, false, not, false≢true}
use mathlib.Core.List.{List, [], ◌∷◌, map}
use lib.Dec.{leb, eqb}
use lib.ListN.{length}
use borrow.Author.Tests.{not-true}
use Rattle.protocol.specs.declared.Call.{Call}
use Rattle.protocol.specs.declared.Call.TheVariants.{Open, Block, Prepare, Store, View, Accumulate, Decide, Reboot, Reserve, Request}
use Rattle.protocol.specs.declared.Call.TheVariants.{Reply, Recover}
use Rattle.protocol.specs.declared.Justification.TheVariants.{Acc, Commits}
use Rattle.protocol.specs.Memory.{Memory, replica_count, fault_bound, certificate_count, block_count}
use Rattle.protocol.specs.Form.{lengths_fit, well_formed}
use Rattle.protocol.specs.Quorum.{every, is_issued, all_issued}
use Rattle.protocol.specs.Outcome.{Answer}
use Rattle.protocol.specs.FirstNeeds.{is_replica}
use Rattle.protocol.specs.Calls.{issuing, block, prepare, store, view, accumulate, decide, reboot, reserve, request, reply, recover}
use Rattle.protocol.specs.Runs.{Invocation, rule_of, step, run, answers}
use Rattle.protocol.specs.Theorems.{Accepted, is_opening}
use Rattle.protocol.specs.WayOn.{can_decide, way_on, is_accepted, Numbered, WayOnNumbered}
use Rattle.protocol.proofs.logic.Booleans.{tests, by-test, and-true, each, all-hold}
use Rattle.protocol.proofs.memory.Formed.{formed, form, sizes}
use Rattle.protocol.proofs.calls.Needs.{Holds, no_refusal}
use Rattle.protocol.proofs.calls.Rules.{no_form, needs_hold}
use Rattle.protocol.proofs.agreement.Agreement.{reached_by}
use Rattle.protocol.proofs.progress.WayOn.{way-on-numbered}
use Rattle.field.specs.Field.{max_number}
use Rattle.codes.specs.Codes.{max_list}
use Rattle.ledger.specs.Coding.{open_code, accumulate_code, decide_code, recover_code, CallByCode, with_code, by_code}
use Rattle.ledger.specs.ByCode.{is_told, told_by_code}
use Rattle.ledger.proofs.ByCode.{same_call, OfEachKind, every_way_on, told_kinds}
use Rattle.script.specs.Session.{Session, Answered, lending, answer_numbers, answer_line}
use Rattle.script.specs.Agreement.{session_after, OpenedOnce, ledger_of, ScriptIsExecution}
use Rattle.script.specs.WayOn.{numbers_of, line_of_call, answers_to_lines, session_of, has_line, SameByLines, LinesMakeCalls, LinesGoOn}
use Rattle.script.proofs.Ways.{line_leaves}
use Rattle.script.proofs.Agreement.{Full, carried, stays_full, script-is-execution}
use Rattle.script.proofs.Written.{Small, line_answer}

-- ---- the numbers of an accepted call have fields

record Counts (m : Memory) : Type 0 where
  replicas : replica_count (fault_bound m) ≤ max_number
  certificates : certificate_count m ≤ max_number
  blocks : block_count m ≤ max_number

counts : (m : Memory) → well_formed m ≡ true → Counts m
unfolding lengths_fit
counts m e =
    let f = formed m e in
    let s = sizes m f in
    let fit = each _ f.lengths in
    omega tests

small_list : (m : Memory) (list : List ℕ) → certificate_count m ≤ max_number → all_issued m list ≡ true → Small list
unfolding every
small_list m [] few e = tt
small_list m (x ∷ xs) few e =
    let both = and-true (is_issued m x) (all_issued m xs) e in
    (omega tests, small_list m xs few both.1)

-- What a line needs, whose code is not that of an opening.
record Writable (c : CallByCode) : Type 0 where
  other : eqb c.code open_code ≡ false
  few : length c.list ≤ max_list
  small : Small (numbers_of c)

-- A call of a replica with a list of issued certificates, by any code but that of an opening.
with_list : (m : Memory) (i : ℕ) (list : List ℕ) → Counts m → is_replica m i ≡ true → all_issued m list ≡ true
    → leb (length list) max_list ≡ true → (code : ℕ) → (1 ≤ code) × (code ≤ max_number) → Writable (with_code code i 0 list)
with_list m i list c is issued few code one =
    let all = small_list m list c.certificates issued in
    record { other = omega tests; few = omega tests; small = (omega tests, (omega tests, (omega tests, all))) }

from_needs : (m : Memory) (call : Call) (list : List ℕ) → Counts m → Holds (rule_of m call list).needs → is_told call list ≡ true
    → is_opening call ≡ false → Writable (by_code call list)
unfolding is_told by_code rule_of issuing block prepare store view accumulate decide reboot reserve request reply recover every
from_needs m (Open f) list c h told other = absurd (false≢true (sym other))
from_needs m (Block p) list c h told other = omega tests
from_needs m (Prepare i b (Acc number)) list c h told other =
    let acc = small_list m (number ∷ []) c.certificates h.1.1.1.0 in omega tests
from_needs m (Prepare i b (Commits v b')) list c h told other = absurd (false≢true told)
from_needs m (Store i number) list c h told other = omega tests
from_needs m (View i w) list c h told other = omega tests
from_needs m (Accumulate i) list c h told other = with_list m i list c h.1.0 h.1.1.1.0 told accumulate_code (omega tests)
from_needs m (Decide i) list c h told other = with_list m i list c h.1.0 h.1.1.1.0 told decide_code (omega tests)
from_needs m (Reboot i) list c h told other = omega tests
from_needs m (Reserve i) list c h told other = omega tests
from_needs m (Request i) list c h told other = omega tests
from_needs m (Reply i number) list c h told other = omega tests
from_needs m (Recover i) list c h told other = with_list m i list c h.1.0 h.1.1.1.0 told recover_code (omega tests)

writable : (m : Memory) (call : Call) (list : List ℕ) → is_told call list ≡ true → is_opening call ≡ false → Accepted (step m call list)
    → Writable (by_code call list)
unfolding step
writable m call list told other ok =
    let no = no_refusal m (rule_of m call list) ok in
    by-test (well_formed m) (λ e. from_needs m call list (counts m e) (needs_hold m call list no) told other)
    (λ e. absurd (let one = no_form m call list other e in omega tests))

-- ---- one line

-- The line of an accepted call gives what the call gives on the ledger.
line-of-call : (s : Session) (q : Invocation) → has_line q ≡ true → Accepted (step (ledger_of s) q.call q.list)
    → answer_line s (line_of_call q) ≡ line_leaves s s.fault_bound (step (ledger_of s) q.call q.list)
unfolding answer_numbers lending
line-of-call s q has ok =
    let t = each _ has in
    let w = writable (ledger_of s) q.call q.list t.0 (not-true (is_opening q.call) t.1.0) ok in
    let few = w.few in
    line_answer (numbers_of (by_code q.call q.list)) w.small (omega tests) (omega tests) s
    ∙ rw w.other (ap (line_leaves s s.fault_bound) (same_call (ledger_of s) q.call q.list t.0))

-- ---- lines one after the other

by_lines : (s : Session) (calls : List Invocation) → Full s.fault_bound s.memory → every has_line calls ≡ true
    → every is_accepted (answers (ledger_of s) calls) ≡ true → SameByLines s calls
unfolding every answers run answers_to_lines session_after
by_lines s [] full has none = record { answered = refl; left = refl }
by_lines s (q ∷ qs) full has none =
    let o = step (ledger_of s) q.call q.list in
    let next = (line_leaves s s.fault_bound o).session in
    let here = and-true (has_line q) (every has_line qs) has in
    let ok = and-true (is_accepted o.answer) _ none in
    let same = line-of-call s q here.0 (omega tests) in
    let c = carried s s.fault_bound q.call q.list full (rw ok.0 refl) in
    let rest = by_lines next qs c.full here.1 (rw c.memory at ok.1) in
    let texts = map line_of_call qs in
    record {
      answered =
          ap (λ (x : Answered). x.answer ∷ answers_to_lines x.session texts) same
          ∙ ap (λ (l : List Answer). o.answer ∷ l) (rest.answered ∙ ap (λ (m : Memory). answers m qs) (sym c.memory));
      left =
          ap (λ (x : Answered). ledger_of (session_after x.session texts)) same
          ∙ rest.left ∙ ap (λ (m : Memory). run m qs) (sym c.memory);
    }

-- ---- the way on

has-line : (q : Invocation) → told_by_code q ≡ true → is_opening q.call ≡ false → has_line q ≡ true
has-line q told other = all-hold (told_by_code q ∷ not (is_opening q.call) ∷ []) (told, (rw other refl, tt))

line_kinds : {size : ℕ} → OfEachKind told_by_code size → OfEachKind has_line size
line_kinds told =
    record {
      view = λ i w. has-line _ (told.view i w) refl;
      accumulate = λ i list e. has-line _ (told.accumulate i list e) refl;
      block = λ p. has-line _ (told.block p) refl;
      prepare = λ i b number. has-line _ (told.prepare i b number) refl;
      store = λ i number. has-line _ (told.store i number) refl;
      decide = λ i list e. has-line _ (told.decide i list e) refl;
    }

-- ---- the theorems

pub lines-make-calls : LinesMakeCalls
unfolding LinesMakeCalls
lines-make-calls s opening lines h calls has none =
    by_lines (session_of s opening lines) calls (stays_full s opening lines h) has none

-- What is proved of executions holds of the ledger that an opening and lines leave.
pub numbered_after : (s : Session) (opening : List ℕ) (lines : List (List ℕ)) → OpenedOnce s opening lines
    → let m = ledger_of (session_of s opening lines) in
    (replicas : List ℕ) (w : ℕ) → can_decide m replicas w ≡ true → (well_formed m ≡ true) × Numbered m replicas w
unfolding ScriptIsExecution WayOnNumbered
numbered_after s opening lines h replicas w can =
    let x = script-is-execution s opening lines h in
    let formed = form _ (reached_by x.execution).safe.formed in
    let numbered = way-on-numbered x.execution replicas w (rw x.memory can) in
    (rw x.memory at formed, rw x.memory at numbered)

pub lines-go-on : LinesGoOn
unfolding LinesGoOn LinesMakeCalls
lines-go-on s opening lines h replicas w can =
    let m = ledger_of (session_of s opening lines) in
    let (formed, numbered) = numbered_after s opening lines h replicas w can in
    let has = every_way_on has_line m replicas w (line_kinds (told_kinds m replicas w formed can)) in
    (lines-make-calls s opening lines h (way_on m replicas w) has numbered.ends.none_refused).answered ∙ numbered.answered
