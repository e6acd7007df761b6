use Rattle.std.proofs.Common.{refl}
use Rattle.c_parse_base.specs.Laws.AnswerLaws.{answers_on, answers_by, answers_stop, answers_next, answers_made}
use Rattle.c_parse_decl.specs.Reading.Declarators.{no_lengths}
use Rattle.c_parse_decl.specs.Laws.Declarators.Code.{bracketed_is, pairs_at}
use Rattle.c_parse_decl.proofs.declarators.brackets.bracketed.Goals as goal

pub returns-in_err-lengths-clause-answers : goal.returns-in_err-lengths-clause-answers
returns-in_err-lengths-clause-answers c =
    let read = pairs_at c.args.depth c.none.result (no_lengths c.args.read) c.args.cursor.now c.pairs.new.cursor _ c.none.ensures
    c.in_err-lengths.ensures.answers in
    answers_on _ c.from_residual.ensures.1 (answers_by (bracketed_is c.args.depth c.args.read c.args.cursor.now) (answers_stop _ read))

pub returns-clause-answers : goal.returns-clause-answers
returns-clause-answers c =
    let read = pairs_at c.args.depth c.none.result (no_lengths c.args.read) c.args.cursor.now c.pairs.new.cursor _ c.none.ensures
    c.in_ok-lengths.ensures.answers in
    answers_made c.in_ok-with_lengths.ensures
    (answers_by (bracketed_is c.args.depth c.args.read c.args.cursor.now) (answers_next _ read (record { is = refl })))
