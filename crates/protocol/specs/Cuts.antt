-- Certificates across a power cut (document 02, #107): whose boot they carry, where that changes nothing, what can be issued again.
use Rattle.std.specs.Prelude.{ℕ, ◌≤◌, ◌<◌, ◌≡◌, Bool, true, false, cond, ◌||◌, ◌≢◌, List, [], ◌∷◌, ◌++◌, length, get_or, ltb, eqb}
use Rattle.protocol.specs.declared.Call.{Call}
use Rattle.protocol.specs.declared.Call.TheVariants.{Open, Block, Prepare, Store, View, Accumulate, Decide, Reboot}
use Rattle.protocol.specs.declared.Call.TheVariants.{Reserve, Request, Reply, Recover}
use Rattle.protocol.specs.declared.Justification.{Justification}
use Rattle.protocol.specs.Memory.{Memory, Certificate, Assignment, certificate_count, replica, signer_boot_at, certificate_word}
use Rattle.protocol.specs.Memory.{certificate, words, update, append_certificate}
use Rattle.protocol.specs.Form.{all_below, well_formed}
use Rattle.protocol.specs.Certificates.{first_below, log_has_room, found, appended}
use Rattle.protocol.specs.Outcome.{Outcome, Need, ◌else◌, Rule, follow, no_room}
use Rattle.protocol.specs.Calls.{issuing}
use Rattle.protocol.specs.Runs.{Invocation, rule_of, step, run}
use Rattle.protocol.specs.Theorems.{Accepted}
use Rattle.protocol.specs.Agreement.{OpensNone, Execution, end_of}
use Rattle.protocol.specs.Repeats.{is_issuing}

-- ---- "The record gets an eighth word, the boot of its signer when it was issued": of each call that issues, accepted on any memory. The
-- signer is the calling replica, and the eighth word its boot.

-- The replica that makes a call; an opening and a block are no replica's, and have 0 here.
abbrev pub caller_of : Call → ℕ
caller_of (Open f) = 0
caller_of (Block p) = 0
caller_of (Prepare i b justification) = i
caller_of (Store i number) = i
caller_of (View i w) = i
caller_of (Accumulate i) = i
caller_of (Decide i) = i
caller_of (Reboot i) = i
caller_of (Reserve i) = i
caller_of (Request i) = i
caller_of (Reply i number) = i
caller_of (Recover i) = i

-- What an accepted call issued, or found: the certificate of the answered number.
abbrev pub issued_in : Outcome → Certificate
issued_in o = certificate o.state o.answer.first

pub record SignedBy (m : Memory) (i : ℕ) (c : Certificate) : Type 0 where
  pub signer : c.signer ≡ i
  pub boot : c.signer_boot ≡ (replica m i).boot

unfoldable pub IssuedWithItsBoot : Type 0
IssuedWithItsBoot =
    (m : Memory) (call : Call) (list : List ℕ) → is_issuing call ≡ true → Accepted (step m call list)
    → SignedBy m (caller_of call) (issued_in (step m call list))

-- ---- "A script that issues nothing twice across a cut prints what it printed before", said of one issuing call. Its premise: if the first
-- seven words alone would accept the call, then no issued certificate has those of what it issues and another eighth. Then its answer, a
-- refusal too, and the memory that it leaves are those that the seven words give; what is added has its eighth word all the same. (Of the
-- other calls: `BootsUntested`.)

-- What the rule of an issuing call is made of.
pub record Issues (m : Memory) (call : Call) (list : List ℕ) : Type 0 where
  pub needs : List Need
  pub changes : List Assignment
  pub issued : Certificate
  pub rule : rule_of m call list ≡ issuing m needs (caller_of call) changes issued

-- Document 01's "equal in all seven words": in those before the eighth.
abbrev pub has_seven_words : Memory → List ℕ → ℕ → Bool
has_seven_words m ws c = all_below signer_boot_at (λ k. eqb (certificate_word m c k) (get_or ws k 0))

abbrev pub number_by_seven : Memory → List ℕ → ℕ
number_by_seven m ws = first_below (certificate_count m) (has_seven_words m ws)

-- The rule of an issuing call by them: as `issuing`, but for that.
unfoldable pub issuing_by_seven : Memory → List Need → ℕ → List Assignment → Certificate → Rule
issuing_by_seven m needs i changes c =
    let number = number_by_seven m (words c) in
    let is_filed = ltb number (certificate_count m) in
    record {
      needs = needs ++ ((is_filed || log_has_room m) else no_room ∷ []);
      first = number;
      second = cond is_filed found appended;
      after = update (cond is_filed m (append_certificate m (words c))) i changes;
    }

-- No issued certificate has its first seven words and another eighth.
abbrev pub AtNoOtherBoot : Memory → Certificate → Type 0
AtNoOtherBoot m c =
    (k : ℕ) → k < certificate_count m → has_seven_words m (words c) k ≡ true → (certificate m k).signer_boot ≡ c.signer_boot

pub record SevenDecide (m : Memory) (call : Call) (list : List ℕ) : Type 0 where
  pub parts : Issues m call list
  pub same :
      (x : Issues m call list)
      → (let by_seven = follow m (issuing_by_seven m x.needs (caller_of call) x.changes x.issued) in
      (Accepted by_seven → AtNoOtherBoot m x.issued) → step m call list ≡ by_seven)

unfoldable pub SevenWordsDecide : Type 0
SevenWordsDecide = (m : Memory) (call : Call) (list : List ℕ) → is_issuing call ≡ true → SevenDecide m call list

-- ---- No call tests the new word. On two memories that differ in the boots of signers alone, both well-formed or neither, a call is refused
-- with the same number, unless that is 9; a call that issues nothing gives the same answer and leaves the same table. In an issuing call 9 is
-- apart, since in a full log it goes by whether an equal certificate is found. So a Prepare takes an ACC of any boot of its signer where it
-- takes one, and signers in a list differ by replica, never by boot.

pub record OtherBoots (m m' : Memory) : Type 0 where
  pub table : m.table ≡ m'.table
  pub log_length : length m.log ≡ length m'.log
  pub blocks : m.blocks ≡ m'.blocks
  pub words : (c k : ℕ) → k < signer_boot_at → certificate_word m c k ≡ certificate_word m' c k
  pub form : well_formed m ≡ well_formed m'

pub record SameVerdict (call : Call) (o o' : Outcome) : Type 0 where
  pub refused : o.answer.number ≢ 0 → o.answer.number ≢ no_room → o'.answer.number ≡ o.answer.number
  pub answer : is_issuing call ≡ false → o'.answer ≡ o.answer
  pub table : is_issuing call ≡ false → o'.state.table ≡ o.state.table

unfoldable pub BootsUntested : Type 0
BootsUntested =
    (m m' : Memory) (call : Call) (list : List ℕ) → OtherBoots m m' → SameVerdict call (step m call list) (step m' call list)

-- ---- After an opening, no PROP, COMMIT, NEWVIEW or REQ is issued again across a cut. A replica comes back at the limit that it had before, so
-- to no view again in which it proposed, committed or entered; and a REQ has its signer's boot in its seventh word too. An ACC and a REPLY
-- can be: Accumulate and Reply refuse no view for lying below the lowest (`acc_after_a_cut`, `reply_after_a_cut` in cases/Cuts.antt).

abbrev pub NotAcrossACut : Memory → Call → Type 0
NotAcrossACut m call = (list : List ℕ) → Accepted (step m call list) → AtNoOtherBoot m (issued_in (step m call list))

pub record NoneAcrossCuts (m : Memory) : Type 0 where
  pub prepare : (i b : ℕ) (justification : Justification) → NotAcrossACut m (Prepare i b justification)
  pub store : (i number : ℕ) → NotAcrossACut m (Store i number)
  pub view : (i w : ℕ) → NotAcrossACut m (View i w)
  pub request : (i : ℕ) → NotAcrossACut m (Request i)

unfoldable pub OnlyAccsAndRepliesAgain : Type 0
OnlyAccsAndRepliesAgain =
    (x : Execution) → NoneAcrossCuts (end_of x)

-- ---- "A certificate before a cut isn't the one after it." After an opening and some calls, a cut of replica i, and more calls: whatever
-- replica i issues then has a number that was not issued at the cut.

unfoldable pub CutsTellApart : Type 0
CutsTellApart =
    (x : Execution) (more : List Invocation) (i : ℕ) (beside : List ℕ)
    → (let before = end_of x in
    let cut = step before (Reboot i) beside in
    let end = run cut.state more in
    Accepted cut → OpensNone cut.state more
    → (call : Call) (its : List ℕ) → is_issuing call ≡ true → caller_of call ≡ i → Accepted (step end call its)
    → certificate_count before ≤ (step end call its).answer.first)
