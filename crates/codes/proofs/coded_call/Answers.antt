-- One case for each code. A prepare on commits claims the view and the block of its list's first certificate.
use Rattle.codes.specs.Codes.{code_table}
use Rattle.codes.proofs.Commits.{unknown_code}
use borrow.Author.Rules.{rules}
use Rattle.codes.proofs.coded_call.Goals as goal

pub returns-in-0 : goal.returns-in-0
unfolding code_table
returns-in-0 c = rw c.in-0.is (rw c.is_short.ensures at c.coded_when.ensures)

pub returns-in-1 : goal.returns-in-1
unfolding code_table
returns-in-1 c = rw c.in-1.is (rw c.is_plain.ensures at c.coded_when-in-1.ensures)

pub returns-in-2 : goal.returns-in-2
unfolding code_table
returns-in-2 c = rw c.in-2.is (rw c.word_at.ensures at c.coded_when-in-2.ensures)

pub returns-in-3 : goal.returns-in-3
unfolding code_table
returns-in-3 c =
    rw c.in-3.is
    (rw (c.is_short-in-3.ensures, c.claimed-c.ensures.view, c.claimed-c.ensures.block) at c.coded_when-in-3.ensures)

pub returns-in-4 : goal.returns-in-4
unfolding code_table
returns-in-4 c = rw c.in-4.is (rw c.is_plain-in-4.ensures at c.coded_when-in-4.ensures)

pub returns-in-5 : goal.returns-in-5
unfolding code_table
returns-in-5 c = rw c.in-5.is (rw c.is_plain-in-5.ensures at c.coded_when-in-5.ensures)

pub returns-in-6 : goal.returns-in-6
unfolding code_table
returns-in-6 c = rw c.in-6.is (rw c.is_short-in-6.ensures at c.coded_when-in-6.ensures)

pub returns-in-7 : goal.returns-in-7
unfolding code_table
returns-in-7 c = rw c.in-7.is (rw c.is_short-in-7.ensures at c.coded_when-in-7.ensures)

pub returns-in-8 : goal.returns-in-8
unfolding code_table
returns-in-8 c = rw c.in-8.is (rw c.is_plain-in-8.ensures at c.coded_when-in-8.ensures)

pub returns-in-9 : goal.returns-in-9
unfolding code_table
returns-in-9 c = rw c.in-9.is (rw c.is_plain-in-9.ensures at c.coded_when-in-9.ensures)

pub returns-in-10 : goal.returns-in-10
unfolding code_table
returns-in-10 c = rw c.in-10.is (rw c.is_plain-in-10.ensures at c.coded_when-in-10.ensures)

pub returns-in-11 : goal.returns-in-11
unfolding code_table
returns-in-11 c = rw c.in-11.is (rw c.is_plain-in-11.ensures at c.coded_when-in-11.ensures)

pub returns-in-12 : goal.returns-in-12
unfolding code_table
returns-in-12 c = rw c.in-12.is (rw c.is_short-in-12.ensures at c.coded_when-in-12.ensures)

pub returns-in_default : goal.returns-in_default
returns-in_default c = unknown_code _ _ _ _ _ (search rules)
