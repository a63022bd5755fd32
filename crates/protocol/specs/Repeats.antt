-- Issuing calls made again (document 02, #102): which certificates are found in the log, what the second value tells, what a call made again
-- gives and changes, and which calls never find their certificate.
use Rattle.std.specs.Prelude.{ℕ, ◌+◌, ◌<◌, ◌≡◌, Bool, true, false, cond, List, eqb}
use Rattle.protocol.specs.declared.Call.{Call}
use Rattle.protocol.specs.declared.Call.TheVariants.{Open, Block, Prepare, Store, View, Accumulate, Decide, Reboot}
use Rattle.protocol.specs.declared.Call.TheVariants.{Reserve, Request, Reply, Recover}
use Rattle.protocol.specs.declared.Justification.{Justification}
use Rattle.protocol.specs.Memory.{Memory, Certificate, certificate_count, certificate, words}
use Rattle.protocol.specs.Certificates.{number_for, is_filed, found, appended}
use Rattle.protocol.specs.Outcome.{Outcome, wrong_view}
use Rattle.protocol.specs.Runs.{step}
use Rattle.protocol.specs.Theorems.{Accepted}
use Rattle.protocol.specs.Agreement.{Execution, end_of}

-- ---- A certificate is found where an equal one is issued, under the first such number, and nowhere else.

pub record FirstEqual (m : Memory) (c : Certificate) (number : ℕ) : Type 0 where
  pub issued : number < certificate_count m
  pub equal : certificate m number ≡ c
  pub first : (k : ℕ) → k < number → certificate m k ≡ c → ⊥

pub record FoundByEquality (m : Memory) (c : Certificate) : Type 0 where
  pub if_filed : is_filed m (words c) ≡ true → FirstEqual m c (number_for m (words c))
  pub if_not : is_filed m (words c) ≡ false → (k : ℕ) → k < certificate_count m → certificate m k ≡ c → ⊥

unfoldable pub FoundIsFirstEqual : Type 0
FoundIsFirstEqual = (m : Memory) (c : Certificate) → FoundByEquality m c

-- ---- "the second value is 1 for a certificate found, 0 for one added": where the call is accepted, it is 1 exactly if the count of
-- certificates stays.

-- The six calls that issue a certificate. Block issues none: its second value stays 0.
abbrev pub is_issuing : Call → Bool
is_issuing (Open f) = false
is_issuing (Block p) = false
is_issuing (Prepare i b justification) = true
is_issuing (Store i number) = true
is_issuing (View i w) = true
is_issuing (Accumulate i) = true
is_issuing (Decide i) = false
is_issuing (Reboot i) = false
is_issuing (Reserve i) = false
is_issuing (Request i) = true
is_issuing (Reply i number) = true
is_issuing (Recover i) = false

-- Found: the number is that of an issued certificate, and the log is as it was, word for word.
pub record Found (m : Memory) (o : Outcome) : Type 0 where
  pub number : o.answer.first < certificate_count m
  pub log : o.state.log ≡ m.log

-- Added: the number is the next one, and one certificate more is issued.
pub record Appended (m : Memory) (o : Outcome) : Type 0 where
  pub number : o.answer.first ≡ certificate_count m
  pub count : certificate_count o.state ≡ certificate_count m + 1

pub record TellsRepeat (m : Memory) (o : Outcome) : Type 0 where
  pub exactly : o.answer.second ≡ cond (eqb (certificate_count o.state) (certificate_count m)) found appended
  pub if_found : o.answer.second ≡ found → Found m o
  pub if_appended : o.answer.second ≡ appended → Appended m o

unfoldable pub SecondValueTellsRepeat : Type 0
SecondValueTellsRepeat =
    (m : Memory) (call : Call) (list : List ℕ) → is_issuing call ≡ true → Accepted (step m call list) → TellsRepeat m (step m call list)

-- ---- Made again at once, on any memory: a View, an Accumulate, a Request or a Reply that was accepted finds its certificate and leaves every
-- word; a Prepare or a Store that was accepted is refused, by its flag or its lowest view. So a host may ask again where an answer was lost.

-- Accepted again, with the same number, found, and no word changed.
pub record SameAgain (o again : Outcome) : Type 0 where
  pub accepted : Accepted again
  pub first : again.answer.first ≡ o.answer.first
  pub second : again.answer.second ≡ found
  pub state : again.state ≡ o.state

-- What a call gives where it was just made and accepted.
abbrev pub FoundAgain : Memory → Call → List ℕ → Type 0
FoundAgain m call list = Accepted (step m call list) → SameAgain (step m call list) (step (step m call list).state call list)

abbrev pub RefusedAgain : Memory → Call → List ℕ → Type 0
RefusedAgain m call list = Accepted (step m call list) → (step (step m call list).state call list).answer.number ≡ wrong_view

pub record MadeAgain (m : Memory) (list : List ℕ) : Type 0 where
  pub view : (i w : ℕ) → FoundAgain m (View i w) list
  pub accumulate : (i : ℕ) → FoundAgain m (Accumulate i) list
  pub request : (i : ℕ) → FoundAgain m (Request i) list
  pub reply : (i number : ℕ) → FoundAgain m (Reply i number) list
  pub prepare : (i b : ℕ) (justification : Justification) → RefusedAgain m (Prepare i b justification) list
  pub store : (i number : ℕ) → RefusedAgain m (Store i number) list

unfoldable pub RepeatAtOnce : Type 0
RepeatAtOnce = (m : Memory) (list : List ℕ) → MadeAgain m list

-- ---- After an opening, a call that finds its certificate changes no word, whatever came between: when the certificate was issued the
-- replica's words were set, and they have not gone back since.

unfoldable pub RepeatChangesNothing : Type 0
RepeatChangesNothing =
    (x : Execution) (call : Call) (beside : List ℕ)
    → is_issuing call ≡ true → Accepted (step (end_of x) call beside)
    → (step (end_of x) call beside).answer.second ≡ found
    → (step (end_of x) call beside).state ≡ end_of x

-- ---- After an opening, no Prepare and no Store finds its certificate. A replica proposes once in a view: its flag falls only as its lowest
-- view rises. It commits once in a view: its lowest view rises past it. And a lowest view never falls, by a cut neither.

-- Wherever this call is accepted after an opening and a list of calls, it answers that its certificate was added.
abbrev pub NeverFound : Call → Type 0
NeverFound call =
    (x : Execution) (beside : List ℕ)
    → Accepted (step (end_of x) call beside) → (step (end_of x) call beside).answer.second ≡ appended

unfoldable pub ProposalsNeverRepeat : Type 0
ProposalsNeverRepeat = (i b : ℕ) (justification : Justification) → NeverFound (Prepare i b justification)

unfoldable pub CommitsNeverRepeat : Type 0
CommitsNeverRepeat = (i number : ℕ) → NeverFound (Store i number)
