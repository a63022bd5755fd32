-- What the cases start from: memories, and the worked script; and the rows of every call on memory of a broken form.
use Rattle.std.specs.Prelude.{ℕ, List, [], ◌∷◌, map, replicate}
use Rattle.protocol.specs.declared.Call.TheVariants.{Open, Block, Prepare, Store, View, Accumulate, Decide, Reboot}
use Rattle.protocol.specs.declared.Call.TheVariants.{Reserve, Request, Reply, Recover}
use Rattle.protocol.specs.declared.Justification.TheVariants.{Acc, Commits}
use Rattle.protocol.specs.Memory.{Memory, Certificate, table_length, certificate_at, words, block_at, append_certificate}
use Rattle.protocol.specs.Outcome.{wrong_form, wrong_status, accepted, refused}
use Rattle.protocol.specs.Runs.{Invocation, run, plain, ◌on◌}
use Rattle.protocol.specs.cases.Rows.{Row, ◌gives◌, invocation_of}

-- Zeros, with a table for f and so many slots for certificates and for blocks.
abbrev pub zeros : ℕ → ℕ → ℕ → Memory
zeros f certificates blocks =
    record { table = replicate (table_length f) 0; log = replicate (certificate_at certificates) 0; blocks = replicate (block_at blocks) 0 }

-- More slots than any row uses: a row that is about the last slot has its own.
abbrev pub blank : ℕ → Memory
blank f = zeros f 32 16

-- "Input fields: `0 1 0`, `5 0 1`, `5 1 1`, `6 1 0 0 1`, `1 0 0`, `2 1 1 2`, `4 0 3`, `8 1 0`, `4 1 3`, `4 2 3`, `7 0 0 4 5`." Document 02,
-- #103: "In 01's script prepare and accumulate move to box 0 and the answers are worked out anew": so `6 0 0 0 1` and `2 0 1 2`; the answers
-- come out as they were.
abbrev pub script : List Row
script =
    plain (Open 1) gives accepted 3 0
    ∷ plain (View 0 1) gives accepted 0 0
    ∷ plain (View 1 1) gives accepted 1 0
    ∷ Accumulate 0 on (0 ∷ 1 ∷ []) gives accepted 2 0
    ∷ plain (Block 0) gives accepted 1 0
    ∷ plain (Prepare 0 1 (Acc 2)) gives accepted 3 0
    ∷ plain (Store 0 3) gives accepted 4 0
    ∷ plain (Reboot 1) gives accepted 1 64
    ∷ plain (Store 1 3) gives refused wrong_status
    ∷ plain (Store 2 3) gives accepted 5 0
    ∷ Decide 0 on (4 ∷ 5 ∷ []) gives accepted 1 1
    ∷ []

-- The memory that a list of calls leaves, from zeros.
abbrev pub from : List Invocation → Memory
from calls = run (blank 1) calls

abbrev pub after_script : Memory
after_script = from (map invocation_of script)

abbrev pub opened : Memory
opened = from (plain (Open 1) ∷ [])

-- f = 1, with a block 1 on block 0
abbrev pub with_block : Memory
with_block = run opened (plain (Block 0) ∷ [])

-- With certificates put into the log by hand, for what no list of calls issues.
unfoldable pub holding : Memory → List Certificate → Memory
holding m [] = m
holding m (c ∷ cs) = holding (append_certificate m (words c)) cs

-- f = 1, with an ACC of view 1 on block 0, number 2, by the view's leader, and a block 1 on block 0
abbrev pub accumulated : Memory
accumulated =
    from (plain (Open 1) ∷ plain (View 0 1) ∷ plain (View 1 1) ∷ Accumulate 0 on (0 ∷ 1 ∷ []) ∷ plain (Block 0) ∷ [])

-- Then block 1 is proposed, PROP 3, and stored by replicas 0 and 1, COMMITs 4 and 5; replica 1 leads the next view.
abbrev pub committed : Memory
committed = run accumulated (plain (Prepare 0 1 (Acc 2)) ∷ plain (Store 0 3) ∷ plain (Store 1 3) ∷ [])

-- Every call but opening, on small numbers: where the form is broken, each gives 1.
abbrev pub every_call_refused : List Row
every_call_refused =
    plain (Block 0) gives refused wrong_form
    ∷ plain (Prepare 0 0 (Acc 0)) gives refused wrong_form
    ∷ plain (Prepare 0 0 (Commits 0 0)) gives refused wrong_form
    ∷ plain (Store 0 0) gives refused wrong_form
    ∷ plain (View 0 1) gives refused wrong_form
    ∷ plain (Accumulate 0) gives refused wrong_form
    ∷ plain (Decide 0) gives refused wrong_form
    ∷ plain (Reboot 0) gives refused wrong_form
    ∷ plain (Reserve 0) gives refused wrong_form
    ∷ plain (Request 0) gives refused wrong_form
    ∷ plain (Reply 0 0) gives refused wrong_form
    ∷ plain (Recover 0) gives refused wrong_form
    ∷ []
