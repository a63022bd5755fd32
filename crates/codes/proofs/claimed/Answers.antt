-- The view and the block of the list's first certificate; 0 where there is no list, or the certificate is not issued.
use Rattle.protocol.proofs.logic.Booleans.{tests}
use Rattle.codes.proofs.Commits.{no_list, not_issued, claimed, no_count}
use Rattle.codes.proofs.claimed.Goals as goal

pub returns-in_default : goal.returns-in_default
returns-in_default c =
    let empty = c.in_default.ensures.item.3 in
    record { view = no_list _ _ _ (omega (tests, empty)); block = no_list _ _ _ (omega (tests, empty)) }

pub returns-in_default-get : goal.returns-in_default-get
returns-in_default-get c =
    let past = c.in_default-get.ensures.lookup.3 in
    record { view = no_count _ _ _ past; block = no_count _ _ _ past }

pub returns-then-count-number : goal.returns-then-count-number
returns-then-count-number c =
    let first = c.in-Some.ensures.item.3.1 0 in
    let count = c.in-Some-get.ensures.lookup.3.1 0 in
    let past = rw (first, count) at c.if-count-number.true in
    record { view = not_issued _ _ _ (omega (tests, past)); block = not_issued _ _ _ (omega (tests, past)) }

pub returns : goal.returns
returns c =
    let some = c.in-Some.ensures.item.3.0 in
    let first = c.in-Some.ensures.item.3.1 0 in
    let count = c.in-Some-get.ensures.lookup.3.1 0 in
    let issued = rw (first, count) at c.if-count-number.false in
    record {
      view = rw (c.word_at.ensures, c.certificate_at-start.ensures, first) (claimed _ _ _ (λ e. omega (tests, some, e)) (omega (tests, issued)));
      block = rw (c.word_at-2.ensures, c.certificate_at-start.ensures, first) (claimed _ _ _ (λ e. omega (tests, some, e)) (omega (tests, issued)));
    }
