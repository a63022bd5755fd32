-- The thirteen call codes (document 01, "Script program").
use Rattle.std.specs.Prelude.{Result, Ok, Err, ℕ, Bool, cond, ◌&&◌, List, [], ◌∷◌, length, get_or, leb, eqb}
use Rattle.protocol.specs.declared.Call.{Call}
use Rattle.protocol.specs.declared.Call.TheVariants.{Open, Block, Prepare, Store, View, Accumulate, Decide, Reboot, Reserve, Request}
use Rattle.protocol.specs.declared.Call.TheVariants.{Reply, Recover}
use Rattle.protocol.specs.declared.Justification.TheVariants.{Acc, Commits}
use Rattle.protocol.specs.Memory.{Memory, certificate_word, view_at, proposed_block_at}
use Rattle.protocol.specs.declared.Refusal.{Refusal}
use Rattle.protocol.specs.declared.Refusal.TheVariants.{Unreadable}
use Rattle.protocol.specs.Quorum.{is_issued}

abbrev pub max_list : ℕ
max_list = 31

-- "Unused fields are 0; a list stands only where a call has one". Where a call has no unused field, the table below
-- puts a 0 for it.
abbrev pub is_plain : ℕ → List ℕ → Bool
is_plain unused list = eqb unused 0 && eqb (length list) 0

-- "0 to 31 fields for codes 3, 6, 7 and 12"; and document 02, #104, of steps: "In a script they are the list of code 0, which may have 0 to
-- 31 fields." An unused field is 0 here too.
abbrev pub is_short : ℕ → List ℕ → Bool
is_short unused list = eqb unused 0 && leb (length list) max_list

-- A word of the list's first certificate, read only where its number is below the count; else 0. What is claimed does no harm then:
-- the answer is 1, 2 or 3 in any case.
unfoldable pub claimed_word : Memory → List ℕ → ℕ → ℕ
claimed_word m [] k = 0
claimed_word m (number ∷ rest) k = cond (is_issued m number) (certificate_word m number k) 0

-- The call of a code, or a refusal.
abbrev pub Coded : Type 0
Coded = Result Call Refusal

-- "Anything else [..] returns 10."
abbrev pub no_call : Coded
no_call = Err Unreadable

unfoldable pub when : Bool → Call → Coded
when t call = cond t (Ok call) no_call

-- "Codes: 0 open (f as box), 1 block, 2 prepare on ACC (block as number, ACC as the one list field), 3 prepare on commits, 4 store, 5 view,
-- 6 accumulate, 7 decide, 8 reboot, 9 reserve, 10 request, 11 reply, 12 recover."
unfoldable pub code_table : Memory → ℕ → ℕ → List ℕ → List Coded
code_table m replica number list =
    when (is_short number list) (Open replica)  -- 0
    ∷ when (is_plain replica list) (Block number)  -- 1
    ∷ when (eqb (length list) 1) (Prepare replica number (Acc (get_or list 0 0)))  -- 2
    ∷ when (is_short 0 list) (Prepare replica number (Commits (claimed_word m list view_at) (claimed_word m list proposed_block_at)))  -- 3
    ∷ when (is_plain 0 list) (Store replica number)  -- 4
    ∷ when (is_plain 0 list) (View replica number)  -- 5
    ∷ when (is_short number list) (Accumulate replica)  -- 6
    ∷ when (is_short number list) (Decide replica)  -- 7
    ∷ when (is_plain number list) (Reboot replica)  -- 8
    ∷ when (is_plain number list) (Reserve replica)  -- 9
    ∷ when (is_plain number list) (Request replica)  -- 10
    ∷ when (is_plain 0 list) (Reply replica number)  -- 11
    ∷ when (is_short number list) (Recover replica)  -- 12
    ∷ []

-- Any other code makes no call.
abbrev pub coded_call : Memory → ℕ → ℕ → ℕ → List ℕ → Coded
coded_call m code replica number list = get_or (code_table m replica number list) code no_call
