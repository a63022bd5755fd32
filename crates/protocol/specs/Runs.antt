-- Any call, and lists of calls (document 01, "Whole lists of calls").
use Rattle.std.specs.Prelude.{ℕ, List, [], ◌∷◌}
use Rattle.protocol.specs.declared.Call.{Call}
use Rattle.protocol.specs.declared.Call.TheVariants.{Open, Block, Prepare, Store, View, Accumulate, Decide, Reboot}
use Rattle.protocol.specs.declared.Call.TheVariants.{Reserve, Request, Reply, Recover}
use Rattle.protocol.specs.Memory.{Memory}
use Rattle.protocol.specs.Outcome.{Answer, Outcome, Rule, follow}
use Rattle.protocol.specs.Calls.{opening, block, prepare, store, view, accumulate, decide, reboot, reserve, request}
use Rattle.protocol.specs.Calls.{reply, recover}

-- The rule of a call, with the list beside it.
unfoldable pub rule_of : Memory → Call → List ℕ → Rule
rule_of m (Open f) list = opening m f list
rule_of m (Block p) list = block m p
rule_of m (Prepare i b justification) list = prepare m i b justification list
rule_of m (Store i number) list = store m i number
rule_of m (View i w) list = view m i w
rule_of m (Accumulate i) list = accumulate m i list
rule_of m (Decide i) list = decide m i list
rule_of m (Reboot i) list = reboot m i
rule_of m (Reserve i) list = reserve m i
rule_of m (Request i) list = request m i
rule_of m (Reply i number) list = reply m i number
rule_of m (Recover i) list = recover m i list

-- What any call gives.
unfoldable pub step : Memory → Call → List ℕ → Outcome
step m call list = follow m (rule_of m call list)

-- A call with the list beside it.
pub record Invocation : Type 0 where
  pub call : Call
  pub list : List ℕ

-- A call without a list, and one with a list beside it.
abbrev pub plain : Call → Invocation
plain call = record { call = call; list = [] }

abbrev pub ◌on◌ : Call → List ℕ → Invocation
call on list = record { call = call; list = list }

infix 69 ◌on◌
abbrev pub invoked : Memory → Invocation → Outcome
invoked m q = step m q.call q.list

-- "Each call gets the three slices as the last left them; nothing else writes them". The memory that a list of calls leaves,
unfoldable pub run : Memory → List Invocation → Memory
run m [] = m
run m (q ∷ qs) = run (step m q.call q.list).state qs

-- and its answers.
unfoldable pub answers : Memory → List Invocation → List Answer
answers m [] = []
answers m (q ∷ qs) = let o = step m q.call q.list in o.answer ∷ answers o.state qs
