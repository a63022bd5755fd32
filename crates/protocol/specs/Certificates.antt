-- Kinds of certificates, and filing one (document 01, "Memory", the paragraph "Kinds").
use Rattle.std.specs.Prelude.{ℕ, zero, suc, ◌+◌, Bool, cond, ◌||◌, List, length, get_or, ltb, eqb}
use Rattle.protocol.specs.Memory.{Memory, Certificate, certificate_words, certificate_at, certificate_word, certificate_count}
use Rattle.protocol.specs.Memory.{append_certificate}
use Rattle.protocol.specs.Form.{all_below}

-- "Kinds: 1 PROP, 2 COMMIT, 3 NEWVIEW, 4 ACC, 5 REQ, 6 REPLY."
abbrev pub PROP : ℕ
PROP = 1

abbrev pub COMMIT : ℕ
COMMIT = 2

abbrev pub NEWVIEW : ℕ
NEWVIEW = 3

abbrev pub ACC : ℕ
ACC = 4

abbrev pub REQ : ℕ
REQ = 5

abbrev pub REPLY : ℕ
REPLY = 6

abbrev pub is_kind : ℕ → Certificate → Bool
is_kind k c = eqb c.kind k

-- What the calls issue: "Fields not named below are 0." Each is given its signer and, by document 02, #107, "the boot of its signer when it
-- was issued".
abbrev pub prop_of : ℕ → ℕ → ℕ → ℕ → Certificate
prop_of signer boot view block =
    record { kind = PROP; signer = signer; view = view; block = block; of_view = 0; subject = 0; subject_boot = 0; signer_boot = boot }

abbrev pub commit_of : ℕ → ℕ → ℕ → ℕ → Certificate
commit_of signer boot view block =
    record { kind = COMMIT; signer = signer; view = view; block = block; of_view = 0; subject = 0; subject_boot = 0; signer_boot = boot }

abbrev pub new_view_of : ℕ → ℕ → ℕ → ℕ → ℕ → Certificate
new_view_of signer boot view block of_view =
    record { kind = NEWVIEW; signer = signer; view = view; block = block; of_view = of_view; subject = 0; subject_boot = 0; signer_boot = boot }

abbrev pub acc_of : ℕ → ℕ → ℕ → ℕ → ℕ → Certificate
acc_of signer boot view block of_view =
    record { kind = ACC; signer = signer; view = view; block = block; of_view = of_view; subject = 0; subject_boot = 0; signer_boot = boot }

-- A REQ's subject is its signer, so its seventh and its eighth word are one boot.
abbrev pub req_of : ℕ → ℕ → ℕ → Certificate
req_of signer boot view =
    record { kind = REQ; signer = signer; view = view; block = 0; of_view = 0; subject = signer; subject_boot = boot; signer_boot = boot }

abbrev pub reply_of : ℕ → ℕ → ℕ → ℕ → ℕ → ℕ → ℕ → Certificate
reply_of signer boot view block of_view subject subject_boot =
    record {
      kind = REPLY;
      signer = signer;
      view = view;
      block = block;
      of_view = of_view;
      subject = subject;
      subject_boot = subject_boot;
      signer_boot = boot;
    }

-- The least number below a count of which a test holds, or the count itself.
unfoldable pub first_below : ℕ → (ℕ → Bool) → ℕ
first_below zero test = 0
first_below (suc k) test = cond (ltb (first_below k test) k) (first_below k test) (cond (test k) k (k + 1))

-- "equal in all seven words"; for that, document 02, #107: "Equal now means equal in all eight."
unfoldable pub has_words : Memory → List ℕ → ℕ → Bool
has_words m ws c = all_below certificate_words (λ k. eqb (certificate_word m c k) (get_or ws k 0))

-- "A certificate equal in all seven words to an issued one isn't added again: the first such number is returned."
-- With eight in place of seven, the number that a certificate of these words has or gets: the first equal one's, or else the next.
unfoldable pub number_for : Memory → List ℕ → ℕ
number_for m ws = first_below (certificate_count m) (has_words m ws)

unfoldable pub is_filed : Memory → List ℕ → Bool
is_filed m ws = ltb (number_for m ws) (certificate_count m)

-- A free slot in the log.
abbrev pub log_has_room : Memory → Bool
log_has_room m = ltb (certificate_at (certificate_count m)) (length m.log)

unfoldable pub can_file : Memory → List ℕ → Bool
can_file m ws = is_filed m ws || log_has_room m

unfoldable pub file : Memory → List ℕ → Memory
file m ws = cond (is_filed m ws) m (append_certificate m ws)

-- Document 02, #102: "The filing step now says which": the certificate was found in the log, or is appended.
abbrev pub found : ℕ
found = 1

abbrev pub appended : ℕ
appended = 0

abbrev pub found_or_appended : Memory → List ℕ → ℕ
found_or_appended m ws = cond (is_filed m ws) found appended
