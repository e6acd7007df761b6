use Rattle.std.proofs.Common.{sym, refl}
use Rattle.c_parse_base.specs.Laws.AnswerLaws.{answers_on, answers_by, answers_stop, answers_next, answers_made}
use Rattle.c_parse.specs.Laws.Code.{head_is, no_body_follows, body_wrong, body_taken}
use Rattle.c_parse.proofs.parser.head.Goals as goal

pub returns-in_err-head-clause-answers : goal.returns-in_err-head-clause-answers
returns-in_err-head-clause-answers c = answers_on _ c.from_residual.ensures.1
    (answers_by (head_is c.args.depth c.args.cursor.now) (answers_stop _ c.in_err-head.ensures.answers))

pub returns-then-not-sees-clause-answers : goal.returns-then-not-sees-clause-answers
returns-then-not-sees-clause-answers c =
    answers_by (head_is c.args.depth c.args.cursor.now)
    (answers_next _ c.in_ok-head.ensures.answers (record {
      is =
          no_body_follows c.args.depth c.in_ok-head.head c.plain_head.new.cursor (sym c.if-not-sees.ensures);
    }))

pub returns-then-is_none-clause-answers : goal.returns-then-is_none-clause-answers
returns-then-is_none-clause-answers c =
    answers_by (head_is c.args.depth c.args.cursor.now)
    (answers_next _ c.in_ok-head.ensures.answers (record {
      is =
          body_wrong c.args.depth c.in_ok-head.head c.plain_head.new.cursor (sym c.if-not-sees.ensures) c.if-is_none.ensures;
    }))

pub returns-in_err-read-clause-answers : goal.returns-in_err-read-clause-answers
returns-in_err-read-clause-answers c =
    answers_on _ c.from_residual-in_err-read.ensures.1
    (answers_by (head_is c.args.depth c.args.cursor.now)
    (answers_next _ c.in_ok-head.ensures.answers
    (answers_by (body_taken c.args.depth c.in_ok-head.head c.plain_head.new.cursor (sym c.if-not-sees.ensures) c.if-is_none.ensures)
    (answers_stop _ c.in_err-read.ensures.answers))))

pub returns-clause-answers : goal.returns-clause-answers
returns-clause-answers c =
    answers_made c.with_body.ensures
    (answers_by (head_is c.args.depth c.args.cursor.now)
    (answers_next _ c.in_ok-head.ensures.answers
    (answers_by (body_taken c.args.depth c.in_ok-head.head c.plain_head.new.cursor (sym c.if-not-sees.ensures) c.if-is_none.ensures)
    (answers_next _ c.in_ok-read.ensures.answers (record { is = refl })))))
