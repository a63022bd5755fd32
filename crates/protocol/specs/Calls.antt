-- The rules of the twelve calls (document 01, "Calls"), each with its sentence. The needs of each stand in rising order, as in the
-- table of refusals; opening alone tests f (2), then its steps (12), before lengths (1). The first needs of most are those of
-- FirstNeeds.antt. What a call asks of the replica and the certificates that it reads is a list of its own above the rule (as store_needs),
-- which the code's tests cite too.
use Rattle.std.specs.Prelude.{ℕ, zero, suc, ◌+◌, max, Bool, true, cond, not, ◌||◌, List, [], ◌∷◌, ◌++◌, length, get_or, set, ltb, leb, eqb}
use Rattle.std.proofs.lemmas.List.Edits.{sets}
use Rattle.protocol.specs.declared.Justification.{Justification}
use Rattle.protocol.specs.declared.Justification.TheVariants.{Acc, Commits}
use Rattle.protocol.specs.Memory.{Memory, Replica, Certificate, Assignment, ◌becomes◌, replica_count, ceiling}
use Rattle.protocol.specs.Memory.{fault_bound_at, certificate_count_at, block_count_at, fault_bound, block_count, step_at}
use Rattle.protocol.specs.Memory.{status_at, boot_at, min_view_at, view_limit_at, flag_at, stored_view_at, stored_block_at, decided_view_at}
use Rattle.protocol.specs.Memory.{decided_block_at, live, recovering, retired, lowered, raised, replica, certificate, words}
use Rattle.protocol.specs.Memory.{block_at, parent, kept_height, block_record, update, append_block}
use Rattle.protocol.specs.Form.{all_hold, is_fault_bound, lengths_fit, well_formed}
use Rattle.protocol.specs.Certificates.{PROP, ACC, REQ, is_kind, prop_of, commit_of, new_view_of, acc_of, req_of, reply_of}
use Rattle.protocol.specs.Certificates.{number_for, found_or_appended, can_file, file}
use Rattle.protocol.specs.Leader.{leads}
use Rattle.protocol.specs.Counter.{steps_from, steps_allowed, counter_step}
use Rattle.protocol.specs.Quorum.{is_quorum_size, all_issued, certificates_of, first_of, is_commit_quorum}
use Rattle.protocol.specs.Quorum.{is_new_view_quorum, is_reply_quorum, greatest}
use Rattle.protocol.specs.Outcome.{Need, ◌else◌, Rule, wrong_form, out_of_range, unknown_number, wrong_status}
use Rattle.protocol.specs.Outcome.{wrong_certificate, wrong_block, wrong_view, counter_limit, no_room, wrong_steps}
use Rattle.protocol.specs.FirstNeeds.{is_block, replica_needs, number_needs, list_needs}

abbrev pub has_status : ℕ → Replica → Bool
has_status status r = eqb r.status status

-- A call that issues a certificate: "an issuing call gives the certificate number and 0"; for that 0, document 02, #102: "every issuing call
-- hands that up: the second value is 1 for a certificate found, 0 for one added." Found or added, the replica's words change alike. 9 comes
-- last, and only where the certificate must be added.
unfoldable pub issuing : Memory → List Need → ℕ → List Assignment → Certificate → Rule
issuing m needs i changes c =
    record {
      needs = needs ++ (can_file m (words c) else no_room ∷ []);
      first = number_for m (words c);
      second = found_or_appended m (words c);
      after = update (file m (words c)) i changes;
    }

-- "Open(f): boxes live, boot 0, low 1, bound 64, all else 0;" and for that 64, document 02, #104: "The first bound is the first step."
abbrev pub fresh_replica : ℕ → List Assignment
fresh_replica limit =
    status_at becomes live
    ∷ boot_at becomes 0
    ∷ min_view_at becomes 1
    ∷ view_limit_at becomes limit
    ∷ flag_at becomes lowered
    ∷ stored_view_at becomes 0
    ∷ stored_block_at becomes 0
    ∷ decided_view_at becomes 0
    ∷ decided_block_at becomes 0
    ∷ []

unfoldable pub fresh_replicas : Memory → ℕ → ℕ → Memory
fresh_replicas m limit zero = m
fresh_replicas m limit (suc i) = update (fresh_replicas m limit i) i (fresh_replica limit)

-- "one block, number 0, whose parent word becomes 0; no certificates. [..] The book and the other block words aren't touched." Document 02,
-- #105: "opening writes both words of block 0."
abbrev pub fresh_header : Memory → ℕ → Memory
fresh_header m f =
    record {
      table = set (set (set m.table fault_bound_at f) certificate_count_at 0) block_count_at 1;
      log = m.log;
      blocks = sets m.blocks (block_at 0) (block_record 0 0);
    }

-- Document 02, #104: "The steps are kept after the header in the table".
abbrev pub keep_steps : Memory → List ℕ → Memory
keep_steps m steps = record { table = sets m.table (step_at 0) steps; log = m.log; blocks = m.blocks }

-- "Values n, 0." Document 02, #104: "12 for steps that break these rules or aren't eight, after opening's 2 and before its 1."
unfoldable pub opening : Memory → ℕ → List ℕ → Rule
opening m f list =
    let steps = steps_from list in
    record {
      needs = is_fault_bound f else out_of_range ∷ steps_allowed list else wrong_steps ∷ lengths_fit m f else wrong_form ∷ [];
      first = replica_count f;
      second = 0;
      after = fresh_replicas (keep_steps (fresh_header m f) steps) (get_or steps 0 0) (replica_count f);
    }

-- "Block(parent): values new number, 0." The new block is one higher than its parent (document 02, #105).
unfoldable pub block : Memory → ℕ → Rule
block m p =
    record {
      needs =
          well_formed m else wrong_form
          ∷ is_block m p else unknown_number
          ∷ ltb (block_at (block_count m)) (length m.blocks) else no_room
          ∷ [];
      first = block_count m;
      second = 0;
      after = append_block m (block_record p (kept_height m p + 1));
    }

-- "the ground is either one ACC or matching commits." The certificate numbers of a justification.
abbrev pub numbers_of : Justification → List ℕ → List ℕ
numbers_of (Acc number) list = number ∷ []
numbers_of (Commits view block) list = list

-- A commit quorum is a list of f+1; an ACC has no list.
abbrev pub is_sized : Memory → Justification → List ℕ → Bool
is_sized m (Acc number) list = true
is_sized m (Commits view block) list = is_quorum_size m list

-- "Ground view w is the ACC's view, or one above the commits'."
abbrev pub proposal_view : Justification → List Certificate → ℕ
proposal_view (Acc number) cs = (first_of cs).view
proposal_view (Commits view block) cs = view + 1

-- "the ground's block"
abbrev pub justified_block : Justification → List Certificate → ℕ
justified_block (Acc number) cs = (first_of cs).block
justified_block (Commits view block) cs = block

-- "An ACC's signer is the box"; the commits are of the view and block that the caller names.
abbrev pub is_justified : ℕ → Justification → List Certificate → Bool
is_justified i (Acc number) cs = all_hold (is_kind ACC (first_of cs) ∷ eqb (first_of cs).signer i ∷ [])
is_justified i (Commits view block) cs = is_commit_quorum view block cs

-- The length of a list, then the certificates' numbers.
abbrev pub justification_needs : Memory → Justification → List ℕ → List Need
justification_needs m justification list =
    is_sized m justification list else out_of_range ∷ all_issued m (numbers_of justification list) else unknown_number ∷ []

-- "the box leads w; the block isn't 0 and its parent is the ground's block; low = w; flag 0; w < bound": of f, the replica, the block and
-- its parent, and of the view and the block that the justification gives.
abbrev pub proposal_needs : ℕ → ℕ → Replica → ℕ → ℕ → ℕ → ℕ → List Need
proposal_needs f i r b its_parent w justified =
    leads f w i else wrong_certificate
    ∷ not (eqb b 0) else wrong_block
    ∷ eqb its_parent justified else wrong_block
    ∷ eqb r.min_view w else wrong_view
    ∷ eqb r.flag lowered else wrong_view
    ∷ ltb w r.view_limit else counter_limit
    ∷ []

-- "Prepare(box, block, ground): [..] The box is live. [..] An ACC's signer is the box; the box leads w; the block isn't 0 and its parent
-- is the ground's block; low = w; flag 0; w < bound. Sets flag 1, issues PROP(w, block)."
unfoldable pub prepare : Memory → ℕ → ℕ → Justification → List ℕ → Rule
prepare m i b justification list =
    let r = replica m i in
    let cs = certificates_of m (numbers_of justification list) in
    let w = proposal_view justification cs in
    issuing m
    (replica_needs m i
    ++ (justification_needs m justification list
    ++ (is_block m b else unknown_number
    ∷ has_status live r else wrong_status
    ∷ is_justified i justification cs else wrong_certificate
    ∷ proposal_needs (fault_bound m) i r b (parent m b) w (justified_block justification cs))))
    i (flag_at becomes raised ∷ []) (prop_of i r.boot w b)

-- "live; the signer leads its view v; v ≥ low, v < bound": of f, the replica and the PROP.
abbrev pub store_needs : ℕ → Replica → Certificate → List Need
store_needs f r p =
    has_status live r else wrong_status
    ∷ is_kind PROP p else wrong_certificate
    ∷ leads f p.view p.signer else wrong_certificate
    ∷ leb r.min_view p.view else wrong_view
    ∷ ltb p.view r.view_limit else counter_limit
    ∷ []

-- "Store(box, PROP): live; the signer leads its view v; v ≥ low, v < bound. Stored becomes v and the block, low v+1, flag 0. Issues
-- COMMIT(v, block)."
unfoldable pub store : Memory → ℕ → ℕ → Rule
store m i number =
    let r = replica m i in
    let p = certificate m number in
    issuing m (replica_needs m i ++ (number_needs m number ++ store_needs (fault_bound m) r p)) i
    (stored_view_at becomes p.view
    ∷ stored_block_at becomes p.block
    ∷ min_view_at becomes (p.view + 1)
    ∷ flag_at becomes lowered
    ∷ [])
    (commit_of i r.boot p.view p.block)

-- "w > low"
abbrev pub is_ahead : Replica → ℕ → Bool
is_ahead r w = ltb r.min_view w

-- "live; 1 ≤ w ≤ 1,000,000, w ≥ low, w < bound", by their numbers
abbrev pub view_needs : Replica → ℕ → List Need
view_needs r w =
    leb 1 w else out_of_range
    ∷ leb w ceiling else out_of_range
    ∷ has_status live r else wrong_status
    ∷ leb r.min_view w else wrong_view
    ∷ ltb w r.view_limit else counter_limit
    ∷ []

-- "View(box, w): live; 1 ≤ w ≤ 1,000,000, w ≥ low, w < bound. Flag 0 if w > low; then low is w. Issues NEWVIEW(w, stored block, of-view =
-- stored view)."
unfoldable pub view : Memory → ℕ → ℕ → Rule
view m i w =
    let r = replica m i in
    issuing m (replica_needs m i ++ view_needs r w) i
    (flag_at becomes cond (is_ahead r w) lowered r.flag ∷ min_view_at becomes w ∷ [])
    (new_view_of i r.boot w r.stored_block r.stored_view)

-- "live; NEWVIEWs of one view, different signers"
abbrev pub accumulate_needs : Replica → List Certificate → List Need
accumulate_needs r cs = has_status live r else wrong_status ∷ is_new_view_quorum (first_of cs).view cs else wrong_certificate ∷ []

-- "Accumulate(box, list): live; NEWVIEWs of one view, different signers. Issues ACC with that view and the block and of-view of the
-- greatest of-view, the first in the list if several."
unfoldable pub accumulate : Memory → ℕ → List ℕ → Rule
accumulate m i list =
    let r = replica m i in
    let cs = certificates_of m list in
    issuing m (replica_needs m i ++ (list_needs m list ++ accumulate_needs r cs)) i []
    (acc_of i r.boot (first_of cs).view (greatest cs).block (greatest cs).of_view)

-- "matching commits"
abbrev pub decide_needs : List Certificate → List Need
decide_needs cs = is_commit_quorum (first_of cs).view (first_of cs).block cs else wrong_certificate ∷ []

-- "If the view is above the shown view, both shown words are set."
abbrev pub decision_words : Replica → Certificate → List Assignment
decision_words r c = cond (ltb r.decided_view c.view) (decided_view_at becomes c.view ∷ decided_block_at becomes c.block ∷ []) []

-- "Decide(box, list): any status; matching commits. Values block, view. If the view is above the shown view, both shown words are set."
unfoldable pub decide : Memory → ℕ → List ℕ → Rule
decide m i list =
    let cs = certificates_of m list in
    record {
      needs = replica_needs m i ++ (list_needs m list ++ decide_needs cs);
      first = (first_of cs).block;
      second = (first_of cs).view;
      after = update m i (decision_words (replica m i) (first_of cs));
    }

-- "If boot or bound would pass 1,000,000, or the box is spent": a reboot to this boot and view limit then retires the replica.
abbrev pub retires : Replica → ℕ → ℕ → Bool
retires r boot limit = has_status retired r || ltb ceiling boot || ltb ceiling limit

-- Reboot: "bound grows by the new boot's step"; reserve: "bound grows by its boot's step".
abbrev pub limit_after : Memory → Replica → ℕ → ℕ
limit_after m r boot = r.view_limit + counter_step m boot

-- "Reboot(box): boot + 1, low is the old bound, bound grows by the new boot's step, flag and stored words 0, waiting; shown stays. If
-- boot or bound would pass 1,000,000, or the box is spent, only the status becomes 2. Values boot, low as they then are." "Reboot has
-- no 4."
unfoldable pub reboot : Memory → ℕ → Rule
reboot m i =
    let r = replica m i in
    let boot = r.boot + 1 in
    let limit = limit_after m r boot in
    record {
      needs = replica_needs m i;
      first = cond (retires r boot limit) r.boot boot;
      second = cond (retires r boot limit) r.min_view r.view_limit;
      after =
          update m i
          (cond (retires r boot limit) (status_at becomes retired ∷ [])
          (status_at becomes recovering
          ∷ boot_at becomes boot
          ∷ min_view_at becomes r.view_limit
          ∷ view_limit_at becomes limit
          ∷ flag_at becomes lowered
          ∷ stored_view_at becomes 0
          ∷ stored_block_at becomes 0
          ∷ []));
    }

-- "not spent", and not past 1,000,000 (8)
abbrev pub reserve_needs : Replica → ℕ → List Need
reserve_needs r limit = not (has_status retired r) else wrong_status ∷ leb limit ceiling else counter_limit ∷ []

-- "Reserve(box): not spent; bound grows by its boot's step. Values bound, 0."
unfoldable pub reserve : Memory → ℕ → Rule
reserve m i =
    let r = replica m i in
    let limit = limit_after m r r.boot in
    record {
      needs = replica_needs m i ++ reserve_needs r limit;
      first = limit;
      second = 0;
      after = update m i (view_limit_at becomes limit ∷ []);
    }

-- "Request(box): waiting. Issues REQ(view = low, subject = box, boot)."
unfoldable pub request : Memory → ℕ → Rule
request m i =
    let r = replica m i in
    issuing m (replica_needs m i ++ (has_status recovering r else wrong_status ∷ [])) i [] (req_of i r.boot r.min_view)

-- "live; signer is another box; the REQ's view ≤ bound": of the replica's number and words, and of the REQ.
abbrev pub reply_needs : ℕ → Replica → Certificate → List Need
reply_needs i r q =
    has_status live r else wrong_status
    ∷ is_kind REQ q else wrong_certificate
    ∷ not (eqb q.signer i) else wrong_certificate
    ∷ leb q.view r.view_limit else counter_limit
    ∷ []

-- "Reply(box, REQ): live; signer is another box; the REQ's view ≤ bound. If low is below that view, low rises to it and flag is 0; else
-- both stay. Issues REPLY(that view, stored block, of-view = stored view, subject = the REQ's signer, its boot)."
unfoldable pub reply : Memory → ℕ → ℕ → Rule
reply m i number =
    let r = replica m i in
    let q = certificate m number in
    issuing m (replica_needs m i ++ (number_needs m number ++ reply_needs i r q)) i
    (cond (ltb r.min_view q.view) (min_view_at becomes q.view ∷ flag_at becomes lowered ∷ []) [])
    (reply_of i r.boot q.view r.stored_block r.stored_view q.signer q.subject_boot)

-- "low the larger of low and g+1"
abbrev pub recovered_view : Replica → List Certificate → ℕ
recovered_view r cs = max r.min_view ((greatest cs).of_view + 1)

-- "waiting; REPLYs with this subject, its boot, view = low, different signers, none the box. [..] which must be ≤ bound"
abbrev pub recover_needs : ℕ → Replica → List Certificate → List Need
recover_needs i r cs =
    has_status recovering r else wrong_status
    ∷ is_reply_quorum i r.boot r.min_view cs else wrong_certificate
    ∷ leb (recovered_view r cs) r.view_limit else counter_limit
    ∷ []

-- "Recover(box, list): waiting; REPLYs with this subject, its boot, view = low, different signers, none the box. With g the greatest
-- of-view (first in the list if several): stored becomes g and its block, low the larger of low and g+1, which must be ≤ bound; live.
-- Values low, g."
unfoldable pub recover : Memory → ℕ → List ℕ → Rule
recover m i list =
    let r = replica m i in
    let cs = certificates_of m list in
    record {
      needs = replica_needs m i ++ (list_needs m list ++ recover_needs i r cs);
      first = recovered_view r cs;
      second = (greatest cs).of_view;
      after =
          update m i
          (status_at becomes live
          ∷ min_view_at becomes recovered_view r cs
          ∷ stored_view_at becomes (greatest cs).of_view
          ∷ stored_block_at becomes (greatest cs).block
          ∷ []);
    }
