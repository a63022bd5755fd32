-- `file` meets its contract.
use Rattle.certificates.proofs.Filing.{files_found, files_appended, files_none}
use Rattle.certificates.proofs.file.Goals as goal

pub returns-then-number-count : goal.returns-then-number-count
returns-then-number-count c b = files_found _ _ _ _ (rw c.words-words.ensures at c.find-number.ensures) b c.if-number-count.true

pub returns-then-count-log : goal.returns-then-count-log
returns-then-count-log c b =
    files_appended _ _ _ _ (rw c.words-words.ensures at c.find-number.ensures) b c.if-number-count.false c.if-count-log.true
    (rw c.words-words.ensures at (c.append.ensures b))

pub returns : goal.returns
returns c b = files_none _ _ _ _ (rw c.words-words.ensures at c.find-number.ensures) b c.if-number-count.false c.if-count-log.false
