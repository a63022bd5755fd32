-- What holds of the rules, for every call and any contents of the memory: what a refused call leaves, what an accepted one leaves and
-- may change, what is not read, which refusal is returned, how large an answer is, and whose turn it is. Each unfoldable type here is a
-- statement, proved in proofs/ under the same name in lower case with hyphens.
use Rattle.std.specs.Prelude.{ℕ, zero, suc, ◌+◌, ◌%◌, ◌≤◌, ◌<◌, ◌≡◌, Bool, true, false, ◌&&◌, ◌||◌, length, get_or, leb, eqb}
use mathlib.Core.List.{List, [], ◌∷◌, ◌++◌, map, Memᴰ}
use Rattle.protocol.specs.declared.Call.{Call}
use Rattle.protocol.specs.declared.Call.TheVariants.{Open, Block, Prepare, Store, View, Accumulate, Decide, Reboot}
use Rattle.protocol.specs.declared.Call.TheVariants.{Reserve, Request, Reply, Recover}
use Rattle.protocol.specs.declared.Justification.TheVariants.{Acc, Commits}
use Rattle.protocol.specs.Memory.{Memory, certificate_count_at, block_count_at, fault_bound, certificate_count, block_count}
use Rattle.protocol.specs.Memory.{replica_count, row_at, status_at, boot_at, min_view_at, view_limit_at, flag_at, stored_view_at}
use Rattle.protocol.specs.Memory.{stored_block_at, decided_view_at, decided_block_at, live, replica, certificate_words}
use Rattle.protocol.specs.Memory.{certificate_at, certificate, block_words, block_at, ceiling}
use Rattle.protocol.specs.Form.{is_fault_bound, lengths_fit, well_formed}
use Rattle.protocol.specs.Counter.{steps_allowed}
use Rattle.protocol.specs.Quorum.{is_issued}
use Rattle.protocol.specs.Outcome.{Answer, OutcomeOf, Outcome, ◌else◌, RuleOf, wrong_form, out_of_range, wrong_certificate, no_room}
use Rattle.protocol.specs.Outcome.{wrong_steps}
use Rattle.protocol.specs.FirstNeeds.{is_replica, is_block}
use Rattle.protocol.specs.Calls.{has_status}
use Rattle.protocol.specs.Runs.{rule_of, step}

-- A call is accepted: its number is 0.
abbrev pub Accepted : {Value State : Type 0} → OutcomeOf Value State → Type 0
Accepted o = o.answer.number ≡ 0

-- ---- A refused call returns the number of a need that fails and two zeros, and leaves every word.

pub record Refused {Value State : Type 0} {none : Value} (s : State) (rule : RuleOf none State) (o : OutcomeOf Value State) : Type 0 where
  pub number : Memᴰ (false else o.answer.number) rule.needs
  pub state : o.state ≡ s
  pub first : o.answer.first ≡ none
  pub second : o.answer.second ≡ 0

unfoldable pub RefusedChangesNothing : Type 0
RefusedChangesNothing =
    (m : Memory) (call : Call) (list : List ℕ) → (Accepted (step m call list) → ⊥)
    → Refused m (rule_of m call list) (step m call list)

-- ---- An accepted call leaves well-formed memory, opening from any earlier contents too.

unfoldable pub AcceptedLeavesForm : Type 0
AcceptedLeavesForm =
    (m : Memory) (call : Call) (list : List ℕ) → Accepted (step m call list) → well_formed (step m call list).state ≡ true

-- ---- A call changes at most the words named for it.

-- The address of a word of the memory: its slice and its index.
pub data Address : Type 0 where
  table_word log_word block_word : ℕ → Address

unfoldable pub word_at : Memory → Address → ℕ
word_at m (table_word k) = get_or m.table k 0
word_at m (log_word k) = get_or m.log k 0
word_at m (block_word k) = get_or m.blocks k 0

abbrev pub below : ℕ → List ℕ
below zero = []
below (suc k) = k ∷ below k

abbrev pub replica_addresses : ℕ → List ℕ → List Address
replica_addresses i offsets = map (λ k. table_word (row_at i + k)) offsets

-- The words that a new certificate changes: the count and the log's next slot; and those that a new block changes.
abbrev pub certificate_addresses : Memory → List Address
certificate_addresses m =
    table_word certificate_count_at ∷ map (λ k. log_word (certificate_at (certificate_count m) + k)) (below certificate_words)

abbrev pub record_addresses : ℕ → List Address
record_addresses b = map (λ k. block_word (block_at b + k)) (below block_words)

abbrev pub block_addresses : Memory → List Address
block_addresses m = table_word block_count_at ∷ record_addresses (block_count m)

-- The words named for each call: those that it may change where it is accepted.
unfoldable pub named : Memory → Call → List Address
named m (Open f) = record_addresses 0 ++ map table_word (below (length m.table))
named m (Block p) = block_addresses m
named m (Prepare i b justification) = replica_addresses i (flag_at ∷ []) ++ certificate_addresses m
named m (Store i number) = replica_addresses i (stored_view_at ∷ stored_block_at ∷ min_view_at ∷ flag_at ∷ []) ++ certificate_addresses m
named m (View i w) = replica_addresses i (flag_at ∷ min_view_at ∷ []) ++ certificate_addresses m
named m (Accumulate i) = certificate_addresses m
named m (Decide i) = replica_addresses i (decided_view_at ∷ decided_block_at ∷ [])
named m (Reboot i) =
    replica_addresses i (status_at ∷ boot_at ∷ min_view_at ∷ view_limit_at ∷ flag_at ∷ stored_view_at ∷ stored_block_at ∷ [])
named m (Reserve i) = replica_addresses i (view_limit_at ∷ [])
named m (Request i) = certificate_addresses m
named m (Reply i number) = replica_addresses i (min_view_at ∷ flag_at ∷ []) ++ certificate_addresses m
named m (Recover i) = replica_addresses i (status_at ∷ min_view_at ∷ stored_view_at ∷ stored_block_at ∷ [])

unfoldable pub OnlyNamedChange : Type 0
OnlyNamedChange =
    (m : Memory) (call : Call) (list : List ℕ) (a : Address) → (Memᴰ a (named m call) → ⊥)
    → word_at (step m call list).state a ≡ word_at m a

-- Lengths never change.
pub record SameLengths (m m' : Memory) : Type 0 where
  pub table : length m.table ≡ length m'.table
  pub log : length m.log ≡ length m'.log
  pub blocks : length m.blocks ≡ length m'.blocks

unfoldable pub LengthsStay : Type 0
LengthsStay = (m : Memory) (call : Call) (list : List ℕ) → SameLengths (step m call list).state m

-- ---- "Words past the counts are neither read nor changed, except where a new item goes."

-- Two memories that differ only in words past their counts.
pub record Alike (m m' : Memory) : Type 0 where
  pub table : m.table ≡ m'.table
  pub log_length : length m.log ≡ length m'.log
  pub blocks_length : length m.blocks ≡ length m'.blocks
  pub log : (k : ℕ) → k < certificate_at (certificate_count m) → get_or m.log k 0 ≡ get_or m'.log k 0
  pub blocks : (k : ℕ) → k < block_at (block_count m) → get_or m.blocks k 0 ≡ get_or m'.blocks k 0

pub record SameAnswer (o o' : Outcome) : Type 0 where
  pub answer : o.answer ≡ o'.answer
  pub after : Alike o.state o'.state

unfoldable pub PastCountsUnread : Type 0
PastCountsUnread =
    (m m' : Memory) (call : Call) (list : List ℕ) → Alike m m' → SameAnswer (step m call list) (step m' call list)

-- ---- "The lowest number wins. Opening tests f before lengths."

abbrev pub is_opening : Call → Bool
is_opening (Open f) = true
is_opening (Block p) = false
is_opening (Prepare i b justification) = false
is_opening (Store i number) = false
is_opening (View i w) = false
is_opening (Accumulate i) = false
is_opening (Decide i) = false
is_opening (Reboot i) = false
is_opening (Reserve i) = false
is_opening (Request i) = false
is_opening (Reply i number) = false
is_opening (Recover i) = false

-- Where a need fails the call is refused, with a number that is not above that of the need.
pub record Lowest {Value State : Type 0} (o : OutcomeOf Value State) (number : ℕ) : Type 0 where
  pub refused : 1 ≤ o.answer.number
  pub least : o.answer.number ≤ number

unfoldable pub LowestWins : Type 0
LowestWins =
    (m : Memory) (call : Call) (list : List ℕ) → is_opening call ≡ false → (number : ℕ)
    → Memᴰ (false else number) (rule_of m call list).needs → Lowest (step m call list) number

-- Opening: f, then the steps beside it, then the lengths. Document 02, #104: "12 for steps that break these rules or aren't eight, after
-- opening's 2 and before its 1."
pub record OpeningTests (m : Memory) (f : ℕ) (list : List ℕ) : Type 0 where
  pub faults : is_fault_bound f ≡ false → (step m (Open f) list).answer.number ≡ out_of_range
  pub steps : is_fault_bound f ≡ true → steps_allowed list ≡ false → (step m (Open f) list).answer.number ≡ wrong_steps
  pub lengths : is_fault_bound f ≡ true → steps_allowed list ≡ true → lengths_fit m f ≡ false
      → (step m (Open f) list).answer.number ≡ wrong_form
  pub accepted : is_fault_bound f ≡ true → steps_allowed list ≡ true → lengths_fit m f ≡ true → Accepted (step m (Open f) list)

unfoldable pub OpeningOrder : Type 0
OpeningOrder = (m : Memory) (f : ℕ) (list : List ℕ) → OpeningTests m f list

-- ---- A call's number is at most 9, or an opening's 12, since 10 is the program's alone, 11 a netting's, and 11, 13 and 14 those of the calls
-- on entries that wait; its values are at most 1,000,000.

abbrev pub may_return : Call → ℕ → Bool
may_return call number = leb number no_room || (is_opening call && eqb number wrong_steps)

pub record Fits (call : Call) (a : Answer) : Type 0 where
  pub number : may_return call a.number ≡ true
  pub first : a.first ≤ ceiling
  pub second : a.second ≤ ceiling

unfoldable pub ValuesFit : Type 0
ValuesFit = (m : Memory) (call : Call) (list : List ℕ) → Fits call (step m call list).answer

-- ---- Document 02, #103: "The leader of view v is (v−1) mod n. View 0 has no leader, so a PROP of view 0 returns 5 at store."

-- The view is v+1 for some v, and the replica is v mod n.
pub record LedBy (m : Memory) (view i : ℕ) : Type 0 where
  pub before : ℕ
  pub next : view ≡ before + 1
  pub leader : i ≡ before % replica_count (fault_bound m)

-- Who proposes on an ACC leads the ACC's view, who proposes on commits of view v is replica v mod n, and who signed a PROP that is stored
-- leads the PROP's view.
pub record Led (m : Memory) : Type 0 where
  pub on_acc : (i b number : ℕ) (list : List ℕ) → Accepted (step m (Prepare i b (Acc number)) list)
      → LedBy m (certificate m number).view i
  pub on_commits : (i b v c : ℕ) (list : List ℕ) → Accepted (step m (Prepare i b (Commits v c)) list)
      → i ≡ v % replica_count (fault_bound m)
  pub store : (i number : ℕ) (list : List ℕ) → Accepted (step m (Store i number) list)
      → LedBy m (certificate m number).view (certificate m number).signer

unfoldable pub OnlyLeadersPropose : Type 0
OnlyLeadersPropose = (m : Memory) → Led m

-- A Prepare on an ACC of view 0 and a Store of a PROP of view 0 return 5, unless a lower number is due: the form is right, the replica is one
-- and live, and what they name is there.
pub record Unled (m : Memory) (i number : ℕ) : Type 0 where
  pub prepare : (b : ℕ) (list : List ℕ) → is_block m b ≡ true
      → (step m (Prepare i b (Acc number)) list).answer.number ≡ wrong_certificate
  pub store : (list : List ℕ) → (step m (Store i number) list).answer.number ≡ wrong_certificate

unfoldable pub ViewZeroHasNoLeader : Type 0
ViewZeroHasNoLeader =
    (m : Memory) (i number : ℕ) → well_formed m ≡ true → is_replica m i ≡ true → is_issued m number ≡ true
    → has_status live (replica m i) ≡ true → (certificate m number).view ≡ 0 → Unled m i number
