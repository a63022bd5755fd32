-- For callers: what `issue` asks, and the rule of a call that issues, from its first need to the log's slot.
use Prim.Native.Nat.{ℕ, zero, suc}
use mathlib.Core.Path.{◌≡◌, refl, sym, ap, ◌∙◌}
use mathlib.Core.List.{List, [], ◌∷◌, ◌++◌}
use Rattle.protocol.specs.Memory.{Memory, Certificate, Assignment, words}
use Rattle.protocol.specs.Certificates.{can_file}
use Rattle.protocol.specs.Outcome.{Outcome, Need, ◌else◌, Rule, first_refusal, answered, follow, no_room}
use Rattle.protocol.specs.Calls.{issuing}
use Rattle.certificate_log.proofs.Fits.{log_fits}
use Rattle.checks.proofs.Ready.{Ready, row_within}
use Rattle.checks.proofs.Passing.{At}
use Rattle.issuing.specs.inner.Issuable.{Issuable}

pub issuable : (m : Memory) (i : ℕ) → Ready m i → Issuable m.table m.log i
issuable m i h = record { fits = log_fits m h.formed; row = row_within m i h }

-- The last need, a slot in the log.
abbrev pub slot : Memory → Certificate → List Need
slot m c = can_file m (words c) else no_room ∷ []

module _ (m : Memory) (needs : List Need) (i : ℕ) (changes : List Assignment) (c : Certificate) where
  pub start : (rule : Rule) → rule ≡ issuing m needs i changes c → At rule (needs ++ slot m c)
  unfolding issuing
  start rule e = rw e (record { same = refl })

  -- From what `issue` gives, of equal changes and an equal certificate.
  pub issues : At (issuing m needs i changes c) (slot m c) → {ch : List Assignment} {d : Certificate} → ch ≡ changes → d ≡ c
      → {o : Outcome} → o ≡ follow m (issuing m [] i ch d) → o ≡ follow m (issuing m needs i changes c)
  unfolding follow answered issuing
  issues at same-changes same e =
      (rw (same-changes, same) at e)
      ∙ go (first_refusal (issuing m [] i changes c).needs)
      ∙ ap (λ (n : ℕ). answered n m (issuing m needs i changes c)) (sym at.same)
    where
      go : (n : ℕ) → answered n m (issuing m [] i changes c) ≡ answered n m (issuing m needs i changes c)
      go zero = refl
      go (suc n) = refl
