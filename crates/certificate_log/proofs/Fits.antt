-- In well-formed memory the log fits.
use native.Mathlib.Omega.{arith}
use Rattle.protocol.specs.Memory.{Memory}
use Rattle.protocol.specs.Form.{lengths_fit}
use Rattle.protocol.proofs.logic.Booleans.{tests, each}
use Rattle.protocol.proofs.memory.Formed.{Formed, sizes}
use Rattle.certificate_log.specs.inner.LogFits.{LogFits}

pub log_fits : (m : Memory) → Formed m → LogFits m.table m.log
unfolding lengths_fit
log_fits m h =
    let s = sizes m h in
    let lengths = each _ h.lengths in
    record { counted = omega arith; whole = s.log_whole; small = omega tests; issued = s.certificates_fit }
