-- What the calls of a list and their answers tell (document 01, "Whole lists of calls"): the parents given, the decisions named, the
-- panels. Events are told from calls and answers, never from a word of the memory.
use Rattle.std.specs.Prelude.{ℕ, cond, List, [], ◌∷◌, ltb, eqb}
use Rattle.protocol.specs.Outcome.{Answer}
use Rattle.protocol.specs.declared.Call.{Call}
use Rattle.protocol.specs.declared.Call.TheVariants.{Open, Block, Prepare, Store, View, Accumulate, Decide, Reboot}
use Rattle.protocol.specs.declared.Call.TheVariants.{Reserve, Request, Reply, Recover}
use Rattle.protocol.specs.Memory.{Memory}
use Rattle.protocol.specs.Ancestry.{height_by}
use Rattle.protocol.specs.Runs.{Invocation, step}

-- What a call is to the history: an accepted Open, an accepted Block with the number it returned and the parent it was given, an accepted
-- Decide with its replica and the block and the view it returned, or anything else, every refused call included.
pub data Event : Type 0 where
  reopened : Event
  added : ℕ → ℕ → Event
  decided : ℕ → ℕ → ℕ → Event
  other : Event

abbrev pub accepted_event : Call → Answer → Event
accepted_event (Open f) a = reopened
accepted_event (Block p) a = added a.first p
accepted_event (Prepare i b justification) a = other
accepted_event (Store i number) a = other
accepted_event (View i w) a = other
accepted_event (Accumulate i) a = other
accepted_event (Decide i) a = decided i a.first a.second
accepted_event (Reboot i) a = other
accepted_event (Reserve i) a = other
accepted_event (Request i) a = other
accepted_event (Reply i number) a = other
accepted_event (Recover i) a = other

unfoldable pub event_of : Call → Answer → Event
event_of call a = cond (eqb a.number 0) (accepted_event call a) other

-- The events of a list of calls, the newest first, after those of an earlier list.
unfoldable pub history : List Event → Memory → List Invocation → List Event
history past m [] = past
history past m (q ∷ qs) =
    let o = step m q.call q.list in
    history (event_of q.call o.answer ∷ past) o.state qs

-- "A block's parent is the one that its accepted Block call was given"; block 0 has parent 0.
unfoldable pub given_parent : List Event → ℕ → ℕ
given_parent [] b = 0
given_parent (reopened ∷ past) b = given_parent past b
given_parent (added number p ∷ past) b = cond (eqb b number) p (given_parent past b)
given_parent (decided i c v ∷ past) b = given_parent past b
given_parent (other ∷ past) b = given_parent past b

-- A replica's highest decision, its shown block and view in document 01: "the block named by its accepted Decide of greatest view so far
-- (the first if several), or block 0 if there is none".
pub data Decision : Type 0 where
  none : Decision
  ◌in_view◌ : ℕ → ℕ → Decision

infix 68 ◌in_view◌
unfoldable pub higher : Decision → ℕ → ℕ → Decision
higher none b v = b in_view v
higher (c in_view w) b v = cond (ltb w v) (b in_view v) (c in_view w)

unfoldable pub highest : List Event → ℕ → Decision
highest [] i = none
highest (reopened ∷ past) i = highest past i
highest (added number p ∷ past) i = highest past i
highest (decided j b v ∷ past) i = cond (eqb i j) (higher (highest past i) b v) (highest past i)
highest (other ∷ past) i = highest past i

abbrev pub decision_block : Decision → ℕ
decision_block none = 0
decision_block (b in_view v) = b

abbrev pub decision_view : Decision → ℕ
decision_view none = 0
decision_view (b in_view v) = v

-- "A box's panel shows the height of its shown block"; "lines and heights go by these" parents.
unfoldable pub panel : List Event → ℕ → ℕ
panel past i = height_by (given_parent past) (decision_block (highest past i))
