-- A replica of the code as the rules have it, one of the rules as the code has it, and words set together.
use Rattle.std.specs.Prelude.{ℕ, ◌≡◌, true, List, map, ltb}
use Rattle.std.specs.List.{list_all}
use Rattle.protocol.specs.Memory as Memory
use Rattle.protocol.specs.Memory.{Assignment, ◌becomes◌, replica_words}
use Rattle.records.specs.declared.Replica.{Replica}

abbrev pub replica_of : Replica → Memory.Replica
replica_of r =
    record {
      status = r.status;
      boot = r.boot;
      min_view = r.min_view;
      view_limit = r.view_limit;
      flag = r.flag;
      stored_view = r.stored_view;
      stored_block = r.stored_block;
      decided_view = r.decided_view;
      decided_block = r.decided_block;
    }

abbrev pub replica_from : Memory.Replica → Replica
replica_from r =
    record {
      status = r.status;
      boot = r.boot;
      min_view = r.min_view;
      view_limit = r.view_limit;
      flag = r.flag;
      stored_view = r.stored_view;
      stored_block = r.stored_block;
      decided_view = r.decided_view;
      decided_block = r.decided_block;
    }

-- Each word that is set, by its offset in the row and its new value.
abbrev pub assignments : List (ℕ × ℕ) → List Assignment
assignments words = map (λ w. w.0 becomes w.1) words

-- Each offset is one of the row's.
abbrev pub Settable : List (ℕ × ℕ) → Type 0
Settable words = list_all (λ w. ltb w.0 replica_words) words ≡ true
