use Rattle.std.proofs.Common.{refl, inl, inr}
use Rattle.mt_answers.specs.Read.{absent, failed}
use Rattle.mt_answers.proofs.read.read_file.Goals as goal

pub returns-in-Absent-clause-cause : goal.returns-in-Absent-clause-cause
returns-in-Absent-clause-cause g c = inr (_, refl, absent c.in-Absent.ensures.content)

pub returns-in-Failed-clause-cause : goal.returns-in-Failed-clause-cause
returns-in-Failed-clause-cause g c = inr (_, refl, failed (c.in-Failed.ensures.failed refl))

pub returns-in-NoMemory-clause-cause : goal.returns-in-NoMemory-clause-cause
returns-in-NoMemory-clause-cause g c = inl refl

-- a read that did not fail is not counted
pub returns-in-Got-clause-uncounted_ok : goal.returns-in-Got-clause-uncounted_ok
returns-in-Got-clause-uncounted_ok g c = c.in-Got.ensures.uncounted (λ e. cc)

pub returns-in-Absent-clause-uncounted_err : goal.returns-in-Absent-clause-uncounted_err
returns-in-Absent-clause-uncounted_err g c = λ no_fault. c.in-Absent.ensures.uncounted (λ e. cc)

pub returns-in-Failed-clause-uncounted_err : goal.returns-in-Failed-clause-uncounted_err
returns-in-Failed-clause-uncounted_err g c = λ no_fault. absurd (no_fault tt)

pub returns-in-NoMemory-clause-uncounted_err : goal.returns-in-NoMemory-clause-uncounted_err
returns-in-NoMemory-clause-uncounted_err g c = λ no_fault. c.in-NoMemory.ensures.uncounted (λ e. cc)
