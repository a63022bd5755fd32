-- The calls on entries that wait: an opening has one value, an enter, a withdrawal and a match none.
use Prim.Native.Nat.{ℕ}
use mathlib.Core.Path.{◌≡◌, refl, ap, ◌∙◌}
use mathlib.Core.List.{List}
use Rattle.protocol.specs.Calls.{opening}
use Rattle.protocol.proofs.calls.Needs.{outcome_cases}
use Rattle.entries.specs.declared.Entry.{Entry}
use Rattle.entries.specs.Waiting.{Lent, WaitingOutcome, Open, Enter, Withdraw, Match, open_rule, enter_rule, withdraw_rule, match_rule}
use Rattle.entries.specs.Waiting.{waiting_rule, waiting_step, MatchOutcome, matching}

abbrev valued : WaitingOutcome → WaitingOutcome
valued o = record { answer = record { number = o.answer.number; first = o.answer.first; second = 0 }; state = o.state }

abbrev valueless : WaitingOutcome → WaitingOutcome
valueless o = record { answer = record { number = o.answer.number; first = 0; second = 0 }; state = o.state }

module _ (o : WaitingOutcome) (s : Lent) where
  pub opened_value : (f : ℕ) (steps : List ℕ) → o ≡ waiting_step s (Open f steps) → valued o ≡ waiting_step s (Open f steps)
  unfolding waiting_step waiting_rule open_rule opening
  opened_value f steps e =
      ap valued e ∙ outcome_cases s (waiting_rule s (Open f steps)) (λ o. valued o ≡ o) (λ n x. refl) (λ x. refl)

  pub entered_valueless : (e : Entry) → o ≡ waiting_step s (Enter e) → valueless o ≡ waiting_step s (Enter e)
  unfolding waiting_step waiting_rule enter_rule
  entered_valueless e is =
      ap valueless is ∙ outcome_cases s (waiting_rule s (Enter e)) (λ o. valueless o ≡ o) (λ n x. refl) (λ x. refl)

  pub withdrawn_valueless : (identity : ℕ) → o ≡ waiting_step s (Withdraw identity) → valueless o ≡ waiting_step s (Withdraw identity)
  unfolding waiting_step waiting_rule withdraw_rule
  withdrawn_valueless identity is =
      ap valueless is ∙ outcome_cases s (waiting_rule s (Withdraw identity)) (λ o. valueless o ≡ o) (λ n x. refl) (λ x. refl)

-- A match has none, and leaves the movements.
abbrev matched_valueless : MatchOutcome → MatchOutcome
matched_valueless o = record { outcome = valueless o.outcome; movements = o.movements }

pub matched-valueless : (o : MatchOutcome) (s : Lent) (movements : List ℕ) (i identity place : ℕ) → o ≡ matching s movements i identity place
    → matched_valueless o ≡ matching s movements i identity place
unfolding waiting_step waiting_rule match_rule
matched-valueless o s movements i identity place is =
    ap matched_valueless is
    ∙ ap (λ (x : WaitingOutcome). record { outcome = x; movements = movements })
    (outcome_cases s (waiting_rule s (Match movements i identity place)) (λ o. valueless o ≡ o) (λ n x. refl) (λ x. refl))
