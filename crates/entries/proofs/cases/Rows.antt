-- Rows of the table of cases, by computation: they hold where none of them is wrong.
use Prim.Native.Nat.{ℕ, ◌+◌}
use mathlib.Core.Path.{◌≡◌, refl}
use mathlib.Core.Bool.{Bool, true, cond, ◌&&◌}
use mathlib.Core.List.{List, [], ◌∷◌}
use lib.ListN.{length}
use Rattle.protocol.specs.Ancestry.{ancestor_within}
use Rattle.protocol.specs.Outcome.{Answer}
use Rattle.protocol.proofs.logic.Booleans.{and-true}
use Rattle.protocol.proofs.cases.Rows as Plain
use Rattle.protocol.proofs.cases.Rows.{is_answer, same_answer, are_words, same_words, is_memory, same_memory, none_here}
use Rattle.movements.specs.Movements.{movement_allowed, is_movement_list}
use Rattle.entries.specs.Entries.{entries_from, entry_allowed, waiting_formed, is_waiting, entry_of, without, pallets_for, earliest_for}
use Rattle.entries.specs.Entries.{holding, refreshed}
use Rattle.entries.specs.Waiting.{Lent, WaitingOutcome, open_rule, enter_rule, withdraw_rule, match_rule, ask_rule, waiting_rule, waiting_step}
use Rattle.entries.specs.Arrivals.{ledger_step, ledger_after}
use Rattle.entries.specs.cases.Rows.{Row, ◌gives◌, ◌gives◌leaving◌, Case, overwritten, call_of, RowHolds, RowsHold, EveryCaseHolds}

-- ---- equal outcomes

is_lent : Lent → Lent → Bool
is_lent s s' = are_words s.waiting s'.waiting && is_memory s.memory s'.memory

is_outcome : WaitingOutcome → Answer → Lent → Bool
is_outcome o a s = is_answer o.answer a && is_lent o.state s

same_outcome : (o : WaitingOutcome) (a : Answer) (s : Lent) → is_outcome o a s ≡ true → o ≡ record { answer = a; state = s }
unfolding is_lent is_outcome
same_outcome o a s e =
    let both = and-true (is_answer o.answer a) _ e in
    let slices = and-true (are_words o.state.waiting s.waiting) _ both.1 in
    rw (
      same_answer o.answer a both.0,
      same_words o.state.waiting s.waiting slices.0,
      same_memory o.state.memory s.memory slices.1,
    ) refl

-- ---- rows

row_is_right : Lent → Row → Bool
row_is_right s (call gives a) = is_answer (ledger_step s call).answer a
row_is_right s (call gives a leaving ws) = is_outcome (ledger_step s call) a (overwritten s ws)

right_row : (s : Lent) (r : Row) → row_is_right s r ≡ true → RowHolds s r
unfolding row_is_right RowHolds
right_row s (call gives a) e = same_answer _ _ e
right_row s (call gives a leaving ws) e = same_outcome _ _ _ e

-- The numbers of the rows that do not hold, from a number on; and of those of cases, counted through.
wrong_rows : ℕ → Lent → List Row → List ℕ → List ℕ
wrong_rows n s [] later = later
wrong_rows n s (r ∷ rs) later =
    let rest = wrong_rows (n + 1) (ledger_step s (call_of r)).state rs later in
    cond (row_is_right s r) rest (n ∷ rest)

wrong_from : ℕ → List Case → List ℕ
wrong_from n [] = []
wrong_from n (c ∷ cs) = wrong_rows n c.start c.rows (wrong_from (n + length c.rows) cs)

-- Where none is wrong, every row holds.
rows_hold : (n : ℕ) (s : Lent) (rs : List Row) (later : List ℕ) → wrong_rows n s rs later ≡ [] → RowsHold s rs × (later ≡ [])
unfolding wrong_rows RowsHold
rows_hold n s [] later e = (tt, e)
rows_hold n s (r ∷ rs) later e =
    let here = none_here (row_is_right s r) n _ e in
    let rest = rows_hold (n + 1) _ rs later here.1 in
    ((right_row s r here.0, rest.0), rest.1)

cases_hold_from : (n : ℕ) (cs : List Case) → wrong_from n cs ≡ [] → EveryCaseHolds cs
unfolding wrong_from EveryCaseHolds
cases_hold_from n [] e = tt
cases_hold_from n (c ∷ cs) e =
    let here = rows_hold n c.start c.rows _ e in
    (here.0, cases_hold_from (n + length c.rows) cs here.1)

-- ---- for the table

-- The numbers of the rows that do not hold, from 1. Everything that the rules are made of opens with it.
unfoldable pub wrong : List Case → List ℕ
unfolding Plain.wrong ancestor_within movement_allowed is_movement_list entries_from entry_allowed waiting_formed is_waiting entry_of without
    pallets_for earliest_for holding refreshed open_rule enter_rule withdraw_rule match_rule ask_rule waiting_rule waiting_step ledger_step
    ledger_after overwritten is_lent is_outcome row_is_right wrong_rows wrong_from
wrong cs = wrong_from 1 cs

pub all_right : (cs : List Case) → wrong cs ≡ [] → EveryCaseHolds cs
unfolding wrong
all_right cs e = cases_hold_from 1 cs e

pub right : (c : Case) → wrong (c ∷ []) ≡ [] → RowsHold c.start c.rows
unfolding EveryCaseHolds
right c e = (all_right (c ∷ []) e).0
