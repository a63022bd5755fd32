-- What a call gives: its answer and the state it leaves; what a rule is, over any state; and the table of refusals (document 01, "Calls").
use Rattle.std.specs.Prelude.{ℕ, zero, suc, Bool, cond, List, [], ◌∷◌, Result, Ok, Err}
use Rattle.protocol.specs.declared.Values.{Values}
use Rattle.protocol.specs.declared.Refusal.{Refusal}
use Rattle.protocol.specs.declared.Refusal.TheVariants as Code
use Rattle.protocol.specs.Memory.{Memory, memory}

-- The column "Returned" of the table. 0 is "accepted".
-- "lengths or form wrong (opening: lengths only)"
abbrev pub wrong_form : ℕ
wrong_form = 1

-- "f, box or w out of range; list not f+1 long"
abbrev pub out_of_range : ℕ
out_of_range = 2

-- "certificate or block number not below its count"; document 02, #108: the place of a movement too.
abbrev pub unknown_number : ℕ
unknown_number = 3

-- "status not the one needed"
abbrev pub wrong_status : ℕ
wrong_status = 4

-- "a certificate of the wrong kind, signer, view, block, subject or boot, or a signer twice; box not leader"; document 02, #108: a movement
-- that an entry is not matched by, too.
abbrev pub wrong_certificate : ℕ
wrong_certificate = 5

-- "prepare: block 0 or wrong parent"
abbrev pub wrong_block : ℕ
wrong_block = 6

-- "view below low; prepare: low not w, or flag 1"
abbrev pub wrong_view : ℕ
wrong_view = 7

-- "meter: bound not above the view, or below what reply or recover needs, or reserve past 1,000,000"
abbrev pub counter_limit : ℕ
counter_limit = 8

-- "no free place for a new block or certificate"
abbrev pub no_room : ℕ
no_room = 9

-- "script line unreadable (program only [..])": no call returns it.
abbrev pub unreadable : ℕ
unreadable = 10

-- Document 02, #101: a movement outside its rules. No call of the twelve returns it; a netting does, and those on entries that wait.
abbrev pub wrong_movement : ℕ
wrong_movement = 11

-- Document 02, #104: "12 for steps that break these rules or aren't eight": an opening's alone.
abbrev pub wrong_steps : ℕ
wrong_steps = 12

-- Document 02, #108: "13 for an identity already waiting, or not waiting when it should leave or be matched; 14 for 512 waiting." No call of
-- the twelve returns them; those on entries that wait do.
abbrev pub wrong_identity : ℕ
wrong_identity = 13

abbrev pub waiting_full : ℕ
waiting_full = 14

-- The number of the code's refusal, and that in what it gives: 0 where nothing is refused.
abbrev pub number_of : Refusal → ℕ
number_of Code.WrongForm = wrong_form
number_of Code.OutOfRange = out_of_range
number_of Code.UnknownNumber = unknown_number
number_of Code.WrongStatus = wrong_status
number_of Code.WrongCertificate = wrong_certificate
number_of Code.WrongBlock = wrong_block
number_of Code.WrongView = wrong_view
number_of Code.CounterLimit = counter_limit
number_of Code.NoRoom = no_room
number_of Code.Unreadable = unreadable
number_of Code.WrongMovement = wrong_movement
number_of Code.WrongSteps = wrong_steps
number_of Code.WrongIdentity = wrong_identity
number_of Code.WaitingFull = waiting_full

abbrev pub number_in : {A : Type 0} → Result A Refusal → ℕ
number_in (Ok given) = 0
number_in (Err r) = number_of r

-- The two values: "0, 0" where it is refused.
abbrev pub values_in : Result Values Refusal → Values
values_in (Ok v) = v
values_in (Err r) = record { first = 0; second = 0 }

-- A test that a call makes, and what it returns where the test fails.
pub data Need : Type 0 where
  ◌else◌ : Bool → ℕ → Need

infix 68 ◌else◌
-- The number of the first need that fails, or 0. "The lowest number wins": each call has its needs in rising order, but opening and the match
-- of document 02, #108, whose 5 comes last.
unfoldable pub first_refusal : List Need → ℕ
first_refusal [] = 0
first_refusal ((test else number) ∷ rest) = cond test (first_refusal rest) number

-- ---- Rules over any state, and over any type of the first value: a call's is a word, a netting's a signed number.

-- The number returned, 0 where the call is accepted, and two values. "Values on success are two numbers".
pub record AnswerOf (Value : Type 0) : Type 0 where
  pub number : ℕ
  pub first : Value
  pub second : ℕ

-- What a call gives: its answer, and the state that it leaves.
pub record OutcomeOf (Value State : Type 0) : Type 0 where
  pub answer : AnswerOf Value
  pub state : State

-- The rule of a call: what it needs; its two values and the state it leaves, where nothing is refused. `none` is the 0 that a refusal gives
-- for the first value.
pub record RuleOf {Value : Type 0} (none : Value) (State : Type 0) : Type 0 where
  pub needs : List Need
  pub first : Value
  pub second : ℕ
  pub after : State

-- 0, "accepted": "as above".
abbrev pub acceptance : {Value State : Type 0} → Value → ℕ → State → OutcomeOf Value State
acceptance first second s = record { answer = record { number = 0; first = first; second = second }; state = s }

-- The number, "0, 0" and "all words as before".
abbrev pub refusal_of : {Value State : Type 0} → Value → ℕ → State → OutcomeOf Value State
refusal_of none number s = record { answer = record { number = number; first = none; second = 0 }; state = s }

unfoldable pub answered : {Value State : Type 0} {none : Value} → ℕ → State → RuleOf none State → OutcomeOf Value State
answered zero s rule = acceptance rule.first rule.second rule.after
answered {none = none} (suc n) s rule = refusal_of none (suc n) s

unfoldable pub follow : {Value State : Type 0} {none : Value} → State → RuleOf none State → OutcomeOf Value State
follow s rule = answered (first_refusal rule.needs) s rule

-- ---- Rules whose values are words.

abbrev pub Answer : Type 0
Answer = AnswerOf ℕ

abbrev pub accepted : ℕ → ℕ → Answer
accepted first second = record { number = 0; first = first; second = second }

abbrev pub refused : ℕ → Answer
refused number = record { number = number; first = 0; second = 0 }

abbrev pub refusal : {State : Type 0} → ℕ → State → OutcomeOf ℕ State
refusal = refusal_of 0

-- The code's answer, as rules have it.
abbrev pub told : Result Values Refusal → Answer
told a = record { number = number_in a; first = (values_in a).first; second = (values_in a).second }

-- ---- The calls of a ledger, whose state is its memory.

abbrev pub Rule : Type 0
Rule = RuleOf {Value = ℕ} 0 Memory

abbrev pub Outcome : Type 0
Outcome = OutcomeOf ℕ Memory

-- An answer, with what the three slices hold then; and the code's.
abbrev pub left : Answer → List ℕ → List ℕ → List ℕ → Outcome
left a t l b = record { answer = a; state = memory t l b }

abbrev pub outcome : Result Values Refusal → List ℕ → List ℕ → List ℕ → Outcome
outcome a t l b = left (told a) t l b

-- What a call's rule gives on three slices.
abbrev pub outcome_by : (Memory → Rule) → List ℕ → List ℕ → List ℕ → Outcome
outcome_by rule t l b = follow (memory t l b) (rule (memory t l b))
