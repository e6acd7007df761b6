use Rattle.std.proofs.Common.{◌≡◌, ◌∙◌}
use Rattle.clap.specs.Matches.{found_of}
use Rattle.clap.specs.Walk.{rows_of}
use Rattle.mt_words.proofs.Parsing.{is_given, is_read, not_read}
use Rattle.mt_words.proofs.given.read.Goals as goal

pub returns-in_ok-given_of-in-Ok-clause-read : goal.returns-in_ok-given_of-in-Ok-clause-read
returns-in_ok-given_of-in-Ok-clause-read c = is_read _ _ c.in_ok-command.ensures c.in-Ok.ensures.kinds

pub returns-in_ok-given_of-in-Ok-clause-given : goal.returns-in_ok-given_of-in-Ok-clause-given
returns-in_ok-given_of-in-Ok-clause-given c =
    c.in_ok-given_of-in-Ok.ensures
    ∙ is_given _ _ (rows_of (found_of c.in-Ok.matches)) c.in_ok-command.ensures (λ simple. (c.in-Ok.ensures.matches simple).0)

pub returns-in_ok-refused-in-Err-clause-fault : goal.returns-in_ok-refused-in-Err-clause-fault
returns-in_ok-refused-in-Err-clause-fault c =
    not_read _ _ c.in-Err.error c.in_ok-command.ensures c.in-Err.ensures.kinds c.in_ok-refused-in-Err.ensures
