-- A row of the table of cases: a call of a ledger with entries that wait beside its answer and, where the row gives them, the words that it
-- leaves; and what it says.
use Rattle.std.specs.Prelude.{ℕ, ◌+◌, ◌≡◌, List, [], ◌∷◌, ◌++◌, length, take, drop}
use Rattle.protocol.specs.Outcome.{Answer}
use Rattle.protocol.specs.Runs.{Invocation}
use Rattle.protocol.specs.cases.Rows as Plain
use Rattle.entries.specs.declared.Entry.{Entry}
use Rattle.entries.specs.Waiting.{Lent, lent, Open, Enter, Withdraw, Match, Ask}
use Rattle.entries.specs.Arrivals.{LedgerCall, plain, on_entries, ledger_step}

-- ---- as they are written

-- One of the twelve calls of a ledger.
abbrev pub calls : Invocation → LedgerCall
calls q = plain q

-- f, and the steps beside it.
abbrev pub opens : ℕ → List ℕ → LedgerCall
opens f steps = on_entries (Open f steps)

-- An identity, a giver, a taker, pallets.
abbrev pub made : ℕ → ℕ → ℕ → ℕ → Entry
made identity giver taker pallets = record { identity = identity; giver = giver; taker = taker; pallets = pallets }

abbrev pub enters : ℕ → ℕ → ℕ → ℕ → LedgerCall
enters identity giver taker pallets = on_entries (Enter (made identity giver taker pallets))

abbrev pub withdraws : ℕ → LedgerCall
withdraws identity = on_entries (Withdraw identity)

-- The movements, a replica, an identity, a place.
abbrev pub matches : List ℕ → ℕ → ℕ → ℕ → LedgerCall
matches movements i identity place = on_entries (Match movements i identity place)

abbrev pub asks : ℕ → LedgerCall
asks taker = on_entries (Ask taker)

-- Words one after the other: of the further slice from an index on, or of one of the ledger's three.
pub data Stretch : Type 0 where
  ◌holds◌ : ℕ → List ℕ → Stretch
  ledger : Plain.Stretch → Stretch

infix 68 ◌holds◌
pub data Row : Type 0 where
  ◌gives◌ : LedgerCall → Answer → Row
  ◌gives◌leaving◌ : LedgerCall → Answer → List Stretch → Row

infix 68 ◌gives◌
infix 68 ◌gives◌leaving◌
-- A case: what the calls are lent first, and the calls, made one after the other.
pub record Case : Type 0 where
  pub start : Lent
  pub rows : List Row

-- ---- what they say

-- The words with these in place of as many from an index on.
abbrev pub replaced : List ℕ → ℕ → List ℕ → List ℕ
replaced words k ws = take k words ++ (ws ++ drop (k + length ws) words)

-- The four slices with just these words set.
unfoldable pub overwritten : Lent → List Stretch → Lent
overwritten s [] = s
overwritten s ((k holds ws) ∷ rest) = overwritten (lent s.memory (replaced s.waiting k ws)) rest
overwritten s (ledger words ∷ rest) = overwritten (lent (Plain.overwritten s.memory (words ∷ [])) s.waiting) rest

abbrev pub call_of : Row → LedgerCall
call_of (call gives a) = call
call_of (call gives a leaving ws) = call

-- The call gives the answer beside it; where words stand there, it leaves the four slices as they were but for just these words.
unfoldable pub RowHolds : Lent → Row → Type 0
RowHolds s (call gives a) = (ledger_step s call).answer ≡ a
RowHolds s (call gives a leaving ws) = ledger_step s call ≡ record { answer = a; state = overwritten s ws }

-- Each call is made on what the one before it left.
unfoldable pub RowsHold : Lent → List Row → Type 0
RowsHold s [] = Unit {0}
RowsHold s (r ∷ rs) = RowHolds s r × RowsHold (ledger_step s (call_of r)).state rs

unfoldable pub EveryCaseHolds : List Case → Type 0
EveryCaseHolds [] = Unit {0}
EveryCaseHolds (c ∷ cs) = RowsHold c.start c.rows × EveryCaseHolds cs
