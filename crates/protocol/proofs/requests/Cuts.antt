-- What specs/Cuts.antt states.
use Prim.Native.Nat.{ℕ, ◌≤◌, ◌<◌}
use mathlib.Core.Path.{◌≡◌, refl, sym, ap, ◌∙◌}
use mathlib.Core.Bool.{true, false, ◌||◌, false≢true}
use mathlib.Core.List.{List, []}
use mathlib.Core.Logic.{◌≢◌}
use native.Mathlib.Omega.{arith}
use lib.ListN.{get_or}
use lib.Dec.{ltb, leb, eqb}
use Rattle.protocol.specs.declared.Call.{Call}
use Rattle.protocol.specs.declared.Call.TheVariants.{Prepare, Store, View, Reboot, Request}
use Rattle.protocol.specs.Memory.{Memory, Certificate, Assignment, certificate_count, replica, retired, kind_at}
use Rattle.protocol.specs.Memory.{signer_at, view_at, subject_boot_at, signer_boot_at, certificate_word, certificate, words}
use Rattle.protocol.specs.Form.{all_below}
use Rattle.protocol.specs.Certificates.{PROP, COMMIT, NEWVIEW, ACC, REQ, REPLY, log_has_room, has_words, number_for, is_filed, can_file}
use Rattle.protocol.specs.Certificates.{file}
use Rattle.protocol.specs.Outcome.{Need, Rule, first_refusal, follow}
use Rattle.protocol.specs.Calls.{issuing, prepare, store, view, accumulate, request, reply}
use Rattle.protocol.specs.Runs.{rule_of, step, run}
use Rattle.protocol.specs.Theorems.{Accepted}
use Rattle.protocol.specs.Agreement.{end_of}
use Rattle.protocol.specs.Repeats.{is_issuing}
use Rattle.protocol.specs.Cuts.{caller_of, issued_in, SignedBy, IssuedWithItsBoot, Issues, has_seven_words, number_by_seven, issuing_by_seven}
use Rattle.protocol.specs.Cuts.{AtNoOtherBoot, SevenWordsDecide, NotAcrossACut, OnlyAccsAndRepliesAgain, CutsTellApart}
use Rattle.protocol.proofs.logic.Booleans.{tests, by-test, or-false, at_below}
use Rattle.protocol.proofs.calls.Needs.{Holds, refused_first, both_pass, returned, refuses}
use Rattle.protocol.proofs.memory.Filing.{first_least}
use Rattle.protocol.proofs.memory.Alike.{same_first}
use Rattle.protocol.proofs.requests.Repeats.{accepted_gives, by_issuing}
use Rattle.protocol.proofs.requests.Ages.{Passes, Signed, Signs, AllDated, prepare_signs, store_signs, view_signs, accumulate_signs}
use Rattle.protocol.proofs.requests.Ages.{request_signs}
use Rattle.protocol.proofs.requests.Ages.{reply_signs, reboots, run_keeps, all_dated}

-- ---- whose boot

record Issuing (m : Memory) (i : ℕ) (rule : Rule) : Type 0 where
  kind : ℕ
  signs : Signs m kind i rule

issues_signed : (m : Memory) (list : List ℕ) (call : Call) → is_issuing call ≡ true → Holds (rule_of m call list).needs
    → Issuing m (caller_of call) (rule_of m call list)
unfolding rule_of
issues_signed m list =
    by_issuing (λ call. Holds (rule_of m call list).needs → Issuing m (caller_of call) (rule_of m call list))
    (λ i b j h. record { kind = PROP; signs = prepare_signs m i b j list h })
    (λ i number h. record { kind = COMMIT; signs = store_signs m i number h })
    (λ i w h. record { kind = NEWVIEW; signs = view_signs m i w h })
    (λ i h. record { kind = ACC; signs = accumulate_signs m i list h })
    (λ i h. record { kind = REQ; signs = request_signs m i h })
    (λ i number h. record { kind = REPLY; signs = reply_signs m i number h })

pub issued-with-its-boot : IssuedWithItsBoot
unfolding IssuedWithItsBoot
issued-with-its-boot m call list e =
    accepted_gives (λ o. SignedBy m (caller_of call) (issued_in o)) m call list
    (λ h. let signed = (issues_signed m list call e h).signs.signed in record { signer = signed.signer; boot = signed.boot })

-- ---- by the first seven words

module _ (m : Memory) (c : Certificate) where
  same_test : AtNoOtherBoot m c → (k : ℕ) → k < certificate_count m → has_words m (words c) k ≡ has_seven_words m (words c) k
  unfolding has_words all_below
  same_test once k l =
      by-test (has_seven_words m (words c) k)
      (λ e.
      let boot = once k l e in
      let last : eqb (certificate_word m k signer_boot_at) c.signer_boot ≡ true = omega tests in
      rw (e, last) refl)
      (λ e. rw e refl)

  same_rule : AtNoOtherBoot m c → (needs : List Need) (i : ℕ) (changes : List Assignment)
      → issuing m needs i changes c ≡ issuing_by_seven m needs i changes c
  unfolding issuing issuing_by_seven can_file file is_filed number_for
  same_rule once needs i changes = rw (same_first (certificate_count m) _ _ (same_test once)) refl

  -- Where the seven words find none, no issued certificate has them.
  none_has : ltb (number_by_seven m (words c)) (certificate_count m) ≡ false → AtNoOtherBoot m c
  none_has none k l same =
      absurd (false≢true (sym (first_least (certificate_count m) (has_seven_words m (words c)) k (omega tests)) ∙ same))

  -- What the seven words refuse is refused alike: by an earlier need, or as nothing is found.
  seven_decide : (needs : List Need) (i : ℕ) (changes : List Assignment)
      → (let by_seven = issuing_by_seven m needs i changes c in
      (Accepted (follow m by_seven) → AtNoOtherBoot m c) → follow m (issuing m needs i changes c) ≡ follow m by_seven)
  unfolding issuing issuing_by_seven first_refusal
  seven_decide needs i changes once =
      let by_seven = issuing_by_seven m needs i changes c in
      let same : AtNoOtherBoot m c → follow m (issuing m needs i changes c) ≡ follow m by_seven =
      λ o. ap (follow m) (same_rule o needs i changes) in
      by-test (eqb (first_refusal needs) 0)
      (λ e.
      by-test (ltb (number_by_seven m (words c)) (certificate_count m) || log_has_room m)
      (λ can. same (once (returned m by_seven ∙ both_pass needs _ (omega tests) (rw can refl))))
      (λ full. same (none_has (or-false (ltb (number_by_seven m (words c)) (certificate_count m)) _ full).0)))
      (λ e.
      let refused : first_refusal needs ≡ 0 → ⊥ = (λ z. omega tests) in
      sym (refuses m (issuing m needs i changes c) _ (sym (refused_first needs _ refused)) refused)
      ∙ refuses m by_seven _ (sym (refused_first needs _ refused)) refused)

issues : (m : Memory) (list : List ℕ) (call : Call) → is_issuing call ≡ true → Issues m call list
unfolding rule_of prepare store view accumulate request reply
issues m list =
    by_issuing (λ call. Issues m call list)
    (λ i b j. record { needs = _; changes = _; issued = _; rule = refl })
    (λ i number. record { needs = _; changes = _; issued = _; rule = refl })
    (λ i w. record { needs = _; changes = _; issued = _; rule = refl })
    (λ i. record { needs = _; changes = _; issued = _; rule = refl })
    (λ i. record { needs = _; changes = _; issued = _; rule = refl })
    (λ i number. record { needs = _; changes = _; issued = _; rule = refl })

pub seven-words-decide : SevenWordsDecide
unfolding SevenWordsDecide step
seven-words-decide m call list e =
    record {
      parts = issues m list call e;
      same =
          λ x once.
          ap (follow m) x.rule ∙ seven_decide m x.issued x.needs (caller_of call) x.changes once;
    }

-- ---- never across cuts

once_issued : (m : Memory) (kind i : ℕ) (c : Certificate) → AllDated m → (NEWVIEW < kind → kind ≡ REQ) → Signed m kind i c
    → AtNoOtherBoot m c
once_issued m kind i c all another signed k l same =
    let word : (j : ℕ) → j < signer_boot_at → certificate_word m k j ≡ get_or (words c) j 0 =
    λ j l. let equal = at_below signer_boot_at _ same j l in omega tests in
    let named = word kind_at (omega arith) in
    let view = word view_at (omega arith) in
    let dated = all k i l (word signer_at (omega arith) ∙ signed.signer) in
    by-test (leb kind NEWVIEW)
    (λ e. dated.same (omega tests) (omega (tests, signed.from (omega tests))) ∙ sym signed.boot)
    (λ e.
    let request = another (omega tests) in
    sym (dated.request (omega arith)) ∙ word subject_boot_at (omega arith) ∙ signed.request request)

never_across : (m : Memory) → AllDated m → (call : Call) (kind : ℕ) → (NEWVIEW < kind → kind ≡ REQ)
    → ((list : List ℕ) → Holds (rule_of m call list).needs → Signs m kind (caller_of call) (rule_of m call list)) → NotAcrossACut m call
never_across m all call kind another its list =
    accepted_gives (λ o. AtNoOtherBoot m (issued_in o)) m call list (λ h. once_issued m kind _ _ all another (its list h).signed)

pub only-accs-and-replies-again : OnlyAccsAndRepliesAgain
unfolding OnlyAccsAndRepliesAgain rule_of
only-accs-and-replies-again execution =
    let end = end_of execution in
    let all = all_dated execution in
    record {
      prepare = λ i b j. never_across end all (Prepare i b j) PROP (omega arith) (λ list. prepare_signs end i b j list);
      store = λ i number. never_across end all (Store i number) COMMIT (omega arith) (λ list. store_signs end i number);
      view = λ i w. never_across end all (View i w) NEWVIEW (omega arith) (λ list. view_signs end i w);
      request = λ i. never_across end all (Request i) REQ (omega arith) (λ list. request_signs end i);
    }

-- ---- cuts told apart

-- What replica i signed below this number is of an earlier boot than it has now, unless it is retired.
record Behind (number i : ℕ) (m : Memory) : Type 0 where
  issued : number ≤ certificate_count m
  older :
      (replica m i).status ≢ retired → (k : ℕ) → k < number → (certificate m k).signer ≡ i
      → (certificate m k).signer_boot < (replica m i).boot

behind_after : (number i : ℕ) (m m' : Memory) → Passes m m' → number ≤ certificate_count m
    → ((replica m' i).status ≢ retired → (k : ℕ) → k < number → (certificate m k).signer ≡ i
    → (certificate m k).signer_boot < (replica m' i).boot)
    → Behind number i m'
behind_after number i m m' p issued older =
    let grows = p.grows in
    record {
      issued = omega arith;
      older =
          λ active k l signer.
          let same = p.old k (omega arith) in
          let boot = ap (λ (c : Certificate). c.signer_boot) same in
          omega (arith, older active k l (ap (λ (c : Certificate). c.signer) (sym same) ∙ signer));
    }

-- What it signs now, at its boot, is none of that.
apart : (number kind i : ℕ) (m : Memory) (rule : Rule) → Behind number i m → Signs m kind i rule → number ≤ rule.first
apart number kind i m rule behind its =
    by-test (ltb rule.first number)
    (λ e.
    let had = behind.issued in
    let signed = its.signed in
    let same = its.passes.old rule.first (omega tests) in
    let mine = ap (λ (c : Certificate). c.signer) (sym same) ∙ signed.signer in
    let boot = ap (λ (c : Certificate). c.signer_boot) (sym same) ∙ signed.boot in
    omega (tests, behind.older signed.active rule.first (omega tests) mine))
    (λ e. omega tests)

pub cuts-tell-apart : CutsTellApart
unfolding CutsTellApart rule_of
cuts-tell-apart execution more i beside accepted once call its e mine =
    let before = end_of execution in
    let number = certificate_count before in
    let cut = step before (Reboot i) beside in
    let end = run cut.state more in
    let behind : Behind number i cut.state =
    accepted_gives (λ o. Behind number i o.state) before (Reboot i) beside
    (λ h.
    let x = reboots before i h in
    behind_after number i before _ x.passes (omega arith)
    (λ active k l signer. omega (arith, (all_dated execution k i l signer).boot, x.counts active)))
    accepted in
    let still : Behind number i end =
    run_keeps (Behind number i)
    (λ x x' p b.
    behind_after number i x x' p b.issued
    (λ active k l signer.
    omega (arith, b.older (λ e. active ((p.ages i).ended e)) k l signer, (p.ages i).boot)))
    [] cut.state more once behind in
    accepted_gives (λ o. number ≤ o.answer.first) end call its
    (λ h. let x = issues_signed end its call e h in apart number _ i end _ still (rw mine at x.signs))
