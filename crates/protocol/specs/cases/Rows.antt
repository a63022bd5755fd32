-- A row of the table of cases: a call beside its answer and, where the row gives them, the words that it leaves; and what it says.
use Rattle.std.specs.Prelude.{ℕ, ◌≡◌, List, [], ◌∷◌}
use Rattle.std.proofs.lemmas.List.Edits.{sets}
use Rattle.protocol.specs.Memory.{Memory, memory}
use Rattle.protocol.specs.Outcome.{Answer}
use Rattle.protocol.specs.Runs.{Invocation, invoked}
use Rattle.protocol.specs.Theorems.{Address, table_word, log_word, block_word}

-- ---- as they are written

-- Words of a slice, one after the other from an address on.
pub data Stretch : Type 0 where
  ◌reads◌ : Address → List ℕ → Stretch

infix 68 ◌reads◌
pub data Row : Type 0 where
  ◌gives◌ : Invocation → Answer → Row
  ◌gives◌leaving◌ : Invocation → Answer → List Stretch → Row

infix 68 ◌gives◌
infix 68 ◌gives◌leaving◌
-- A case: a memory, and the calls that are made on it one after the other.
pub record Case : Type 0 where
  pub start : Memory
  pub rows : List Row

-- ---- what they say

-- The memory with just these words set.
unfoldable pub overwritten : Memory → List Stretch → Memory
overwritten m [] = m
overwritten m ((table_word k reads ws) ∷ rest) = overwritten (memory (sets m.table k ws) m.log m.blocks) rest
overwritten m ((log_word k reads ws) ∷ rest) = overwritten (memory m.table (sets m.log k ws) m.blocks) rest
overwritten m ((block_word k reads ws) ∷ rest) = overwritten (memory m.table m.log (sets m.blocks k ws)) rest

abbrev pub invocation_of : Row → Invocation
invocation_of (q gives a) = q
invocation_of (q gives a leaving ws) = q

abbrev pub answer_of : Row → Answer
answer_of (q gives a) = a
answer_of (q gives a leaving ws) = a

-- The call gives the answer beside it; where words stand there, it leaves the memory as it was but for just these words.
unfoldable pub RowHolds : Memory → Row → Type 0
RowHolds m (q gives a) = (invoked m q).answer ≡ a
RowHolds m (q gives a leaving ws) = invoked m q ≡ record { answer = a; state = overwritten m ws }

-- Each call is made on the memory that the one before it left.
unfoldable pub RowsHold : Memory → List Row → Type 0
RowsHold m [] = Unit {0}
RowsHold m (r ∷ rs) = RowHolds m r × RowsHold (invoked m (invocation_of r)).state rs

unfoldable pub EveryCaseHolds : List Case → Type 0
EveryCaseHolds [] = Unit {0}
EveryCaseHolds (c ∷ cs) = RowsHold c.start c.rows × EveryCaseHolds cs
