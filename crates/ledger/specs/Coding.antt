-- A call as the C interface and a script line have it: "call code, box, number, list" (document 01, "Script program").
use Rattle.std.specs.Prelude.{ℕ, List, [], ◌∷◌}
use Rattle.protocol.specs.declared.Call.{Call}
use Rattle.protocol.specs.declared.Call.TheVariants.{Open, Block, Prepare, Store, View, Accumulate, Decide, Reboot, Reserve, Request}
use Rattle.protocol.specs.declared.Call.TheVariants.{Reply, Recover}
use Rattle.protocol.specs.declared.Justification.TheVariants.{Acc, Commits}
use Rattle.protocol.specs.Runs.{Invocation}

-- "Codes: 0 open (f as box), 1 block, 2 prepare on ACC (block as number, ACC as the one list field), 3 prepare on commits, 4 store, 5 view,
-- 6 accumulate, 7 decide, 8 reboot, 9 reserve, 10 request, 11 reply, 12 recover."
abbrev pub open_code : ℕ
open_code = 0

abbrev pub block_code : ℕ
block_code = 1

abbrev pub prepare_on_acc_code : ℕ
prepare_on_acc_code = 2

abbrev pub prepare_on_commits_code : ℕ
prepare_on_commits_code = 3

abbrev pub store_code : ℕ
store_code = 4

abbrev pub view_code : ℕ
view_code = 5

abbrev pub accumulate_code : ℕ
accumulate_code = 6

abbrev pub decide_code : ℕ
decide_code = 7

abbrev pub reboot_code : ℕ
reboot_code = 8

abbrev pub reserve_code : ℕ
reserve_code = 9

abbrev pub request_code : ℕ
request_code = 10

abbrev pub reply_code : ℕ
reply_code = 11

abbrev pub recover_code : ℕ
recover_code = 12

pub record CallByCode : Type 0 where
  pub code : ℕ
  pub replica : ℕ
  pub number : ℕ
  pub list : List ℕ

abbrev pub with_code : ℕ → ℕ → ℕ → List ℕ → CallByCode
with_code code replica number list = record { code = code; replica = replica; number = number; list = list }

-- "Unused fields are 0; a list stands only where a call has one". A Prepare on commits does not say what it claims: that is read from the
-- first of its list.
unfoldable pub by_code : Call → List ℕ → CallByCode
by_code (Open f) list = with_code open_code f 0 list
by_code (Block p) list = with_code block_code 0 p []
by_code (Prepare i b (Acc number)) list = with_code prepare_on_acc_code i b (number ∷ [])
by_code (Prepare i b (Commits view block)) list = with_code prepare_on_commits_code i b list
by_code (Store i number) list = with_code store_code i number []
by_code (View i w) list = with_code view_code i w []
by_code (Accumulate i) list = with_code accumulate_code i 0 list
by_code (Decide i) list = with_code decide_code i 0 list
by_code (Reboot i) list = with_code reboot_code i 0 []
by_code (Reserve i) list = with_code reserve_code i 0 []
by_code (Request i) list = with_code request_code i 0 []
by_code (Reply i number) list = with_code reply_code i number []
by_code (Recover i) list = with_code recover_code i 0 list

abbrev pub coded : Invocation → CallByCode
coded q = by_code q.call q.list
