-- A call by its code, as a script line or the C interface has it: what the call gives, or the refusal and nothing changed.
use Rattle.std.specs.Prelude.{ℕ, ◌≡◌, List, Ok, Err}
use Rattle.protocol.specs.Memory.{Memory}
use Rattle.protocol.specs.Outcome.{Outcome, refusal, number_of}
use Rattle.protocol.specs.Runs.{step}
use Rattle.codes.specs.Codes.{Coded, no_call, coded_call}

-- Code, replica, number and list make a call; whether they do is the same on any memory.
abbrev pub MakeCall : Memory → ℕ → ℕ → ℕ → List ℕ → Type 0
MakeCall m code replica number list = coded_call m code replica number list ≡ no_call → ⊥

-- "a failed read or test hands its number up unchanged"
unfoldable pub called_by : Coded → Memory → List ℕ → Outcome
called_by (Ok call) m list = step m call list
called_by (Err r) m list = refusal (number_of r) m

unfoldable pub called : Memory → ℕ → ℕ → ℕ → List ℕ → Outcome
called m code replica number list = called_by (coded_call m code replica number list) m list
