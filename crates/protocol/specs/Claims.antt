-- What is claimed of the ledger, its calls and lists of calls: each field is a statement of this crate; proofs/Claims.antt holds the proof of
-- each.
use Rattle.protocol.specs.Theorems.{RefusedChangesNothing, AcceptedLeavesForm, OnlyNamedChange, LengthsStay, PastCountsUnread}
use Rattle.protocol.specs.Theorems.{LowestWins, OpeningOrder, ValuesFit, OnlyLeadersPropose, ViewZeroHasNoLeader}
use Rattle.protocol.specs.cases.Table.{CasesHold}
use Rattle.protocol.specs.Agreement.{Agreement, WouldAgree, WordsMatchHistory, OnlyAppended}
use Rattle.protocol.specs.Heights.{HeightsKept, HeightsMatchHistory, HeightsStay}
use Rattle.protocol.specs.Steps.{OpeningReadsNothing, WithoutStepsIsDefault, FirstLimitIsFirstStep, CountersMoveBySteps}
use Rattle.protocol.specs.Repeats.{FoundIsFirstEqual, SecondValueTellsRepeat, RepeatAtOnce, RepeatChangesNothing}
use Rattle.protocol.specs.Repeats.{ProposalsNeverRepeat, CommitsNeverRepeat}
use Rattle.protocol.specs.Cuts.{IssuedWithItsBoot, SevenWordsDecide, BootsUntested, OnlyAccsAndRepliesAgain, CutsTellApart}
use Rattle.protocol.specs.WayOn.{WayOn, ViewsSuffice, WayOnNumbered}
use Rattle.protocol.specs.cases.Stops.{WayOnCasesHold}

pub record Claims : Type 0 where
  -- ---- Demand 1: any contents, no fault. (That every call ends without a fault is what the check proves of each function.)
  -- a refused call leaves every word and returns its number and two zeros
  pub refused_changes_nothing : RefusedChangesNothing
  -- an accepted call leaves well-formed memory
  pub accepted_leaves_form : AcceptedLeavesForm
  -- a call changes at most the words named for it
  pub only_named_change : OnlyNamedChange
  -- lengths never change
  pub lengths_stay : LengthsStay
  -- words past the counts change no answer
  pub past_counts_unread : PastCountsUnread
  -- ---- Demand 2: accepted exactly when the rules accept. (The contracts are equations with the rules; these follow from the rules.)
  -- of several refusals the lowest is returned, but by opening
  pub lowest_wins : LowestWins
  -- opening tests f, then its steps, then the lengths
  pub opening_order : OpeningOrder
  -- a number is at most 9, or an opening's 12, a value at most 1,000,000
  pub values_fit : ValuesFit
  -- the cases that document 01 marks P, and some more
  pub cases_hold : CasesHold
  -- ---- Demand 3: decisions never conflict, and no panel falls.
  -- of two decided blocks one is in the line of the other; no panel falls
  pub agreement : Agreement
  -- the same of blocks that a Decide would name
  pub would_agree : WouldAgree
  -- parents and decided words are what calls and answers told
  pub words_match_history : WordsMatchHistory
  -- certificates and blocks are only ever appended
  pub only_appended : OnlyAppended
  -- ---- Heights kept with the blocks (document 02, #105).
  -- in well-formed memory the height kept with an added block is the number of steps to block 0
  pub heights_kept : HeightsKept
  -- after an opening it is the height by the parents given
  pub heights_match_history : HeightsMatchHistory
  -- and it stays, up to the next accepted opening
  pub heights_stay : HeightsStay
  -- ---- A pool's own steps (document 02, #104). (That decisions never conflict with any of them: demand 3.)
  -- opening reads no word: what it answers, and the table it leaves where it is accepted, go by its arguments and the lengths
  pub opening_reads_nothing : OpeningReadsNothing
  -- an opening without steps is the one with document 01's
  pub without_steps_is_default : WithoutStepsIsDefault
  -- an opening's first limit is the first step
  pub first_limit_is_first_step : FirstLimitIsFirstStep
  -- after an opening, each accepted Reserve, and each Reboot that does not retire, moves the limit by the step that the opening was given
  -- for the boot, a Reboot by that of the boot that begins
  pub counters_move_by_steps : CountersMoveBySteps
  -- ---- Leaders (document 02, #103).
  -- an accepted Prepare is by the leader of its view, replica v mod n on commits of view v; an accepted Store is of a leader's proposal
  pub only_leaders_propose : OnlyLeadersPropose
  -- a Prepare on an ACC of view 0 and a Store of a PROP of view 0 return 5, unless a lower number is due
  pub view_zero_has_no_leader : ViewZeroHasNoLeader
  -- ---- Repeats (document 02, #102).
  -- a certificate is found where an equal one is issued, under the first such number, and nowhere else
  pub found_is_first_equal : FoundIsFirstEqual
  -- the second value of an accepted issuing call is 1 exactly if the count of certificates stays, and then the log is as it was
  pub second_value_tells_repeat : SecondValueTellsRepeat
  -- an accepted call made again at once: a View, Accumulate, Request or Reply finds its certificate and leaves every word, a Prepare or
  -- Store is refused
  pub repeat_at_once : RepeatAtOnce
  -- after an opening, a call that finds its certificate changes no word
  pub repeat_changes_nothing : RepeatChangesNothing
  -- after an opening, no Prepare finds its certificate
  pub proposals_never_repeat : ProposalsNeverRepeat
  -- nor does any Store
  pub commits_never_repeat : CommitsNeverRepeat
  -- ---- Cuts (document 02, #107).
  -- what an accepted call issues or finds is signed by its replica and has that replica's boot as its eighth word
  pub issued_with_its_boot : IssuedWithItsBoot
  -- where no issued certificate differs in its eighth word alone from what an issuing call issues, the call gives and leaves what the first
  -- seven words give
  pub seven_words_decide : SevenWordsDecide
  -- on memories that differ in eighth words alone, both well-formed or neither, a refusal other than 9 is the same, and a call that issues
  -- nothing gives the same
  pub boots_untested : BootsUntested
  -- after an opening, what a Prepare, Store, View or Request issues was never issued at another boot
  pub only_accs_and_replies_again : OnlyAccsAndRepliesAgain
  -- after an opening, and with none since, what a replica issues after its cut has a number that was not issued at the cut
  pub cuts_tell_apart : CutsTellApart
  -- ---- A way on (document 02, #109).
  -- in well-formed memory f+1 different live replicas, a view above their lowest views and below their limits, whose leader is one of them,
  -- 2f+4 free slots for certificates and one for a block are enough: 2f+6 calls, none refused, end in a decision of a new block in that view
  pub way_on : WayOn
  -- of f+1 views in a row that f+1 replicas can all enter, one is led by one of them: with room, they can decide in it
  pub views_suffice : ViewsSuffice
  -- after an opening they add just 2f+4 certificates and a block: calls and answers are known before the first call
  pub way_on_numbered : WayOnNumbered
  -- worked cases of it: each limit and one past it, calls and answers, and what is refused where something does not last
  pub way_on_cases_hold : WayOnCasesHold
