-- Rows of the table of cases, by computation: they hold where none of them is wrong.
use Prim.Native.Nat.{ℕ, ◌+◌}
use mathlib.Core.Path.{◌≡◌, refl}
use mathlib.Core.Bool.{Bool, true, false, cond, ◌&&◌}
use mathlib.Core.List.{List, [], ◌∷◌}
use lib.ListN.{length}
use lib.Dec.{eqb}
use Rattle.protocol.specs.Memory.{Memory, update, append_certificate, append_block}
use Rattle.protocol.specs.Form.{all_hold, all_below, block_formed, replica_formed, certificate_formed, lengths_fit, counts_fit}
use Rattle.protocol.specs.Form.{steps_formed, well_formed}
use Rattle.protocol.specs.Certificates.{first_below, has_words, number_for, is_filed, can_file, file}
use Rattle.protocol.specs.Leader.{leads}
use Rattle.protocol.specs.Counter.{steps_from, steps_allowed, counter_step}
use Rattle.protocol.specs.Quorum.{every, contains, distinct, greatest_from, is_quorum}
use Rattle.protocol.specs.Outcome.{Answer, Outcome, first_refusal, answered, follow}
use Rattle.protocol.specs.Calls.{issuing, fresh_replicas, opening, block, prepare, store, view, accumulate, decide, reboot}
use Rattle.protocol.specs.Calls.{reserve, request, reply, recover}
use Rattle.protocol.specs.Runs.{rule_of, step, run, invoked}
use Rattle.protocol.specs.cases.Rows.{Row, ◌gives◌, ◌gives◌leaving◌, Case, overwritten, invocation_of, RowHolds, RowsHold}
use Rattle.protocol.specs.cases.Rows.{EveryCaseHolds}
use Rattle.protocol.specs.cases.Starts.{holding}
use Rattle.protocol.proofs.logic.Booleans.{tests, and-true}

-- ---- equal answers, equal memories

unfoldable pub is_answer : Answer → Answer → Bool
is_answer a b = eqb a.number b.number && (eqb a.first b.first && eqb a.second b.second)

alike : {n n' f f' s s' : ℕ} → n ≡ n' → f ≡ f' → s ≡ s'
    → ◌≡◌ {A = Answer} (record { number = n; first = f; second = s }) (record { number = n'; first = f'; second = s' })
alike n f s = rw (n, f, s) refl

pub same_answer : (a b : Answer) → is_answer a b ≡ true → a ≡ b
unfolding is_answer
same_answer a b e =
    let number = and-true (eqb a.number b.number) _ e in
    let values = and-true (eqb a.first b.first) _ number.1 in
    alike (omega tests) (omega tests) (omega tests)

unfoldable pub are_words : List ℕ → List ℕ → Bool
are_words [] [] = true
are_words [] (w ∷ wanted) = false
are_words (v ∷ given) [] = false
are_words (v ∷ given) (w ∷ wanted) = eqb v w && are_words given wanted

pub same_words : (given wanted : List ℕ) → are_words given wanted ≡ true → given ≡ wanted
unfolding are_words
same_words [] [] e = refl
same_words [] (w ∷ wanted) e = cc
same_words (v ∷ given) [] e = cc
same_words (v ∷ given) (w ∷ wanted) e =
    let both = and-true (eqb v w) (are_words given wanted) e in
    let same : v ≡ w = omega tests in
    rw (same, same_words given wanted both.1) refl

unfoldable pub is_memory : Memory → Memory → Bool
is_memory m m' = are_words m.table m'.table && (are_words m.log m'.log && are_words m.blocks m'.blocks)

pub same_memory : (m m' : Memory) → is_memory m m' ≡ true → m ≡ m'
unfolding is_memory
same_memory m m' e =
    let table = and-true (are_words m.table m'.table) _ e in
    let others = and-true (are_words m.log m'.log) _ table.1 in
    rw (
      same_words m.table m'.table table.0,
      same_words m.log m'.log others.0,
      same_words m.blocks m'.blocks others.1,
    ) refl

is_outcome : Outcome → Answer → Memory → Bool
is_outcome o a m = is_answer o.answer a && is_memory o.state m

same_outcome : (o : Outcome) (a : Answer) (m : Memory) → is_outcome o a m ≡ true → o ≡ record { answer = a; state = m }
unfolding is_outcome
same_outcome o a m e =
    let both = and-true (is_answer o.answer a) _ e in
    rw (same_answer o.answer a both.0, same_memory o.state m both.1) refl

-- ---- rows

row_is_right : Memory → Row → Bool
row_is_right m (q gives a) = is_answer (invoked m q).answer a
row_is_right m (q gives a leaving ws) = is_outcome (invoked m q) a (overwritten m ws)

right_row : (m : Memory) (r : Row) → row_is_right m r ≡ true → RowHolds m r
unfolding row_is_right RowHolds
right_row m (q gives a) e = same_answer _ _ e
right_row m (q gives a leaving ws) e = same_outcome _ _ _ e

-- The numbers of the rows that do not hold, from a number on; and of those of cases, counted through.
wrong_rows : ℕ → Memory → List Row → List ℕ → List ℕ
wrong_rows n m [] later = later
wrong_rows n m (r ∷ rs) later =
    let rest = wrong_rows (n + 1) (invoked m (invocation_of r)).state rs later in
    cond (row_is_right m r) rest (n ∷ rest)

wrong_from : ℕ → List Case → List ℕ
wrong_from n [] = []
wrong_from n (c ∷ cs) = wrong_rows n c.start c.rows (wrong_from (n + length c.rows) cs)

-- Where none is wrong, every row holds.
pub none_here : (t : Bool) (n : ℕ) (rest : List ℕ) → cond t rest (n ∷ rest) ≡ [] → (t ≡ true) × (rest ≡ [])
none_here true n rest e = (refl, e)
none_here false n rest e = (cc, cc)

rows_hold : (n : ℕ) (m : Memory) (rs : List Row) (later : List ℕ) → wrong_rows n m rs later ≡ [] → RowsHold m rs × (later ≡ [])
unfolding wrong_rows RowsHold
rows_hold n m [] later e = (tt, e)
rows_hold n m (r ∷ rs) later e =
    let here = none_here (row_is_right m r) n _ e in
    let rest = rows_hold (n + 1) _ rs later here.1 in
    ((right_row m r here.0, rest.0), rest.1)

cases_hold_from : (n : ℕ) (cs : List Case) → wrong_from n cs ≡ [] → EveryCaseHolds cs
unfolding wrong_from EveryCaseHolds
cases_hold_from n [] e = tt
cases_hold_from n (c ∷ cs) e =
    let here = rows_hold n c.start c.rows _ e in
    (here.0, cases_hold_from (n + length c.rows) cs here.1)

-- ---- for the table

-- The numbers of the rows that do not hold, from 1. Everything that the rules are made of opens with it.
unfoldable pub wrong : List Case → List ℕ
unfolding update append_certificate append_block all_hold all_below block_formed replica_formed certificate_formed lengths_fit counts_fit steps_formed
    well_formed first_below has_words number_for is_filed can_file file leads steps_from steps_allowed counter_step every contains distinct is_quorum
    greatest_from first_refusal answered follow issuing fresh_replicas opening block prepare store view accumulate decide
    reboot reserve request reply recover rule_of step run overwritten holding is_answer are_words is_memory is_outcome row_is_right wrong_rows
    wrong_from
wrong cs = wrong_from 1 cs

pub all_right : (cs : List Case) → wrong cs ≡ [] → EveryCaseHolds cs
unfolding wrong
all_right cs e = cases_hold_from 1 cs e

pub right : (c : Case) → wrong (c ∷ []) ≡ [] → RowsHold c.start c.rows
unfolding EveryCaseHolds
right c e = (all_right (c ∷ []) e).0

pub ◌and◌ : {A B : Type 0} → A → B → A × B
a and b = (a, b)

infixr 5 ◌and◌
