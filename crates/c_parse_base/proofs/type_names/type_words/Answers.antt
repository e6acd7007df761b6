use Rattle.std.proofs.Common.{sym, refl}
use Rattle.c_parse_base.specs.Laws.AnswerLaws.{answers_on, answers_by, answers_stop, answers_next, answers_made}
use Rattle.c_parse_base.specs.Laws.TypeCode.{words_is, int_none, int_wrong, int_taken}
use Rattle.c_parse_base.proofs.type_names.type_words.Goals as goal

pub returns-in_err-words : goal.returns-in_err-words
returns-in_err-words c = answers_on _ c.from_residual.ensures.1
    (answers_by (words_is c.args.cursor.now) (answers_stop _ c.in_err-words.ensures))

pub returns-then-not-sees_keyword : goal.returns-then-not-sees_keyword
returns-then-not-sees_keyword c =
    answers_by (words_is c.args.cursor.now)
    (answers_next _ c.in_ok-words.ensures (record {
      is = int_none c.in_ok-words.words c.sized.new.cursor
          (sym c.if-not-sees_keyword.ensures);
    }))

pub returns-then-not-words : goal.returns-then-not-words
returns-then-not-words c =
    answers_by (words_is c.args.cursor.now)
    (answers_next _ c.in_ok-words.ensures (record {
      is = int_wrong c.in_ok-words.words c.sized.new.cursor
          (sym c.if-not-sees_keyword.ensures) c.if-not-words.true;
    }))

pub returns-in_err-place : goal.returns-in_err-place
returns-in_err-place c =
    answers_on _ c.from_residual-in_err-place.ensures.1
    (answers_by (words_is c.args.cursor.now)
    (answers_next _ c.in_ok-words.ensures
    (answers_by (int_taken c.in_ok-words.words c.sized.new.cursor (sym c.if-not-sees_keyword.ensures) c.if-not-words.false)
    (answers_stop _ c.in_err-place.ensures))))

pub returns : goal.returns
returns c =
    answers_made c.int.ensures
    (answers_by (words_is c.args.cursor.now)
    (answers_next _ c.in_ok-words.ensures
    (answers_by (int_taken c.in_ok-words.words c.sized.new.cursor (sym c.if-not-sees_keyword.ensures) c.if-not-words.false)
    (answers_next _ c.in_ok-place.ensures (record { is = refl })))))
