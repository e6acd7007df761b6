use Rattle.std.proofs.Common.{sym, ◌∙◌, refl}
use Rattle.c_parse_base.specs.Laws.AnswerLaws.{answers_on, answers_by, answers_stop, answers_next, answers_made}
use Rattle.c_parse_base.specs.Reading.TypeWords.{size_at}
use Rattle.c_parse_base.specs.Laws.TypeCode.{sized_is, size_none, size_wrong, size_taken, ending_read, ending_stop}
use Rattle.c_parse_base.proofs.type_names.sized.Goals as goal

pub returns-in_err-first : goal.returns-in_err-first
returns-in_err-first c = answers_on _ c.from_residual.ensures.1
    (answers_by (sized_is c.args.cursor.now) (answers_stop _ c.in_err-first.ensures))

pub returns-in_default : goal.returns-in_default
returns-in_default c =
    answers_by (sized_is c.args.cursor.now)
    (answers_next _ c.in_ok-first.ensures (record {
      is = size_none c.in_ok-first.first c.first_word.new.cursor
          (sym c.next_size.ensures ∙ c.in_default.is);
    }))

pub returns-then-not-first : goal.returns-then-not-first
returns-then-not-first c =
    answers_by (sized_is c.args.cursor.now)
    (answers_next _ c.in_ok-first.ensures (record {
      is = size_wrong c.in_ok-first.first c.first_word.new.cursor c.in-Some.size
          (sym c.in-Some.ensures) c.if-not-first.true;
    }))

pub returns-in_err-place : goal.returns-in_err-place
returns-in_err-place c =
    answers_on _ c.from_residual-in_err-place.ensures.1
    (answers_by (sized_is c.args.cursor.now)
    (answers_next _ c.in_ok-first.ensures
    (answers_by (size_taken c.in_ok-first.first c.first_word.new.cursor c.in-Some.size (sym c.in-Some.ensures) c.if-not-first.false)
    (answers_stop _ (ending_stop size_at c.first_word.new.cursor _ c.in-Some.size _ (sym c.in-Some.ensures) c.in_err-place.ensures)))))

pub returns : goal.returns
returns c =
    answers_made c.sized.ensures
    (answers_by (sized_is c.args.cursor.now)
    (answers_next _ c.in_ok-first.ensures
    (answers_by (size_taken c.in_ok-first.first c.first_word.new.cursor c.in-Some.size (sym c.in-Some.ensures) c.if-not-first.false)
    (answers_next _ (ending_read size_at c.first_word.new.cursor _ c.in-Some.size c.in_ok-place.place
    (sym c.in-Some.ensures) c.in_ok-place.ensures) (record { is = refl })))))
