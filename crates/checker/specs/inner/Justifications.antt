-- What lets a leader propose: what judging it asks of the log, and what it gives.
use Rattle.std.specs.Prelude.{ℕ, ◌≤◌, ◌<◌, List, [], ◌∷◌, length, get_or}
use Rattle.protocol.specs.declared.Justification.{Justification}
use Rattle.protocol.specs.Memory.{Certificate, ceiling}
use Rattle.protocol.specs.Outcome.{Need, ◌else◌, wrong_certificate}
use Rattle.protocol.specs.Calls.{proposal_view, justified_block, is_justified}
use Rattle.quorum.specs.inner.Lists.{certificate_in, Listed}
use Rattle.checker.specs.declared.justification.Justified.{Justified}

-- Of the numbers of a justification: their certificates are in the log, there is a first one, and its view has a next one.
pub record Justifying (log numbers : List ℕ) : Type 0 where
  pub listed : Listed log numbers
  pub some : 0 < length numbers
  pub view : (certificate_in log (get_or numbers 0 0)).view ≤ ceiling

abbrev pub justified_by : Justification → List Certificate → Justified
justified_by j cs = record { view = proposal_view j cs; block = justified_block j cs }

abbrev pub judgement_needs : ℕ → Justification → List Certificate → List Need
judgement_needs i j cs = is_justified i j cs else wrong_certificate ∷ []
