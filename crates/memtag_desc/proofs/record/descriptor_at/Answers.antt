use Rattle.std.proofs.Common.{◌∙◌}
use Rattle.memtag_desc.proofs.Cases.{passed_on, rest_is, first_fails, one_number, second_fails, second_small, second_large}
use Rattle.memtag_desc.proofs.record.descriptor_at.Goals as goal

pub returns-in_err-first-clause-is : goal.returns-in_err-first-clause-is
returns-in_err-first-clause-is c =
    passed_on c.from_residual.result c.in_err-first.field-0.0 c.from_residual.ensures.1
    ∙ first_fails c.args.from c.args.place c.args.total c.args.rest.now c.in_err-first.field-0.0 c.in_err-first.ensures.is

pub returns-then-size-gt0-clause-is : goal.returns-then-size-gt0-clause-is
returns-then-size-gt0-clause-is c = c.judged.ensures.is ∙ one_number c.args.from c.args.place c.args.total c.args.rest.now
    c.in_ok-first.first c.in_ok-first.ensures.is c.if-size-gt0.true

pub returns-in_err-second-clause-is : goal.returns-in_err-second-clause-is
returns-in_err-second-clause-is c =
    passed_on c.from_residual-in_err-second.result c.in_err-second.field-0.0 c.from_residual-in_err-second.ensures.1
    ∙ second_fails c.args.from c.args.place c.args.total c.args.rest.now c.in_ok-first.first c.in_err-second.field-0.0
    c.in_ok-first.ensures.is c.if-size-gt0.false
    _ (rest_is c.in_ok-first.first.bytes c.args.rest.now) c.in_err-second.ensures.is

pub returns-then-second-lt7-clause-is : goal.returns-then-second-lt7-clause-is
returns-then-second-lt7-clause-is c =
    second_small c.args.from c.args.place c.args.total c.args.rest.now c.in_ok-first.first c.in_ok-second.second c.in_ok-first.ensures.is
    c.if-size-gt0.false
    _ (rest_is c.in_ok-first.first.bytes c.args.rest.now) c.in_ok-second.ensures.is c.if-second-lt7.true

pub returns-clause-is : goal.returns-clause-is
returns-clause-is c =
    c.judged-2.ensures.is
    ∙ second_large c.args.from c.args.place c.args.total c.args.rest.now c.in_ok-first.first c.in_ok-second.second
    c.in_ok-first.ensures.is c.if-size-gt0.false
    _ (rest_is c.in_ok-first.first.bytes c.args.rest.now) c.in_ok-second.ensures.is c.if-second-lt7.false
