use Rattle.std.proofs.Common.{◌∙◌, ap, refl}
use Rattle.c_parse_base.specs.Laws.AnswerLaws.{answers_on, answers_by, answers_stop, answers_next, answers_made}
use Rattle.c_parse_decl.specs.Reading.Declarators.{plain, named_of}
use Rattle.c_parse_decl.specs.Laws.Declarators.Code.{starred_is, pointed_at}
use Rattle.c_parse_decl.proofs.declarators.parser.starred.Goals as goal

pub returns-in_err-read-clause-answers : goal.returns-in_err-read-clause-answers
returns-in_err-read-clause-answers c =
    let read = pointed_at c.args.depth c.in_ok-base.base (plain c.args.base.now) c.args.cursor.now c.pointed.new.cursor _
    c.in_ok-base.ensures c.in_err-read.ensures.answers in
    answers_on _ c.from_residual-in_err-read.ensures.1
    (answers_by (starred_is c.args.depth c.args.base.now c.args.cursor.now) (answers_stop _ (answers_stop _ (answers_stop _ read))))

pub returns-in_err-name-clause-answers : goal.returns-in_err-name-clause-answers
returns-in_err-name-clause-answers c =
    let read = pointed_at c.args.depth c.in_ok-base.base (plain c.args.base.now) c.args.cursor.now c.pointed.new.cursor _
    c.in_ok-base.ensures c.in_ok-read.ensures.answers in
    answers_on _ c.from_residual-in_err-name.ensures.1
    (answers_by (starred_is c.args.depth c.args.base.now c.args.cursor.now)
    (answers_stop _ (answers_stop _ (answers_next _ read (answers_stop _ c.in_err-name.ensures)))))

pub returns-clause-answers : goal.returns-clause-answers
returns-clause-answers c =
    let read = pointed_at c.args.depth c.in_ok-base.base (plain c.args.base.now) c.args.cursor.now c.pointed.new.cursor _
    c.in_ok-base.ensures c.in_ok-read.ensures.answers in
    answers_made (c.named.ensures ∙ ap (λ start. named_of (start, (c.in_ok-read.read, c.in_ok-name.name))) c.start-start.ensures)
    (answers_by (starred_is c.args.depth c.args.base.now c.args.cursor.now)
    (answers_next _ (answers_next _ (answers_next _ read (answers_next _ c.in_ok-name.ensures (record { is = refl })))
    (record { is = refl })) (record { is = refl })))
