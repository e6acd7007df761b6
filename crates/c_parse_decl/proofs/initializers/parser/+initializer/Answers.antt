use Rattle.std.proofs.Common.{arith, sym, ◌∙◌, ap, refl}
use Rattle.c_ast.specs.declared.punctuator.Punctuator.TheVariants as mark
use Rattle.c_parse_base.specs.Reading.Words.{punct}
use Rattle.c_parse_base.specs.Laws.AnswerLaws.{answers_on, answers_by, answers_stop, answers_next, answers_behind, answers_made}
use Rattle.c_parse_base.specs.Reading.Answer.{Read, and_then}
use Rattle.c_parse_base.specs.Laws.LoopLaws.{left, loop_end, loop_stops, loop_read, loop_takes}
use Rattle.c_parse_decl.specs.Reading.Initializers.{one_item, closed, under}
use Rattle.c_parse_decl.specs.Laws.Initializers.Code.{further_turn, further_good, turn_item, turn_comma, items_is, closed_is}
use Rattle.c_parse_decl.specs.Laws.Initializers.Code.{initial_value, initial_deep, initial_braces}
use Rattle.c_parse_decl.proofs.initializers.parser.+initializer.Goals as goal

pub turn-returns-in_err-expect-clause-answers : goal.turn-returns-in_err-expect-clause-answers
turn-returns-in_err-expect-clause-answers t c =
    answers_on _ c.from_residual.ensures.1 (answers_by (turn_comma c.args.depth c.args.read c.args.cursor.now c.if-not-read.true)
    (answers_stop _ c.in_err-expect.ensures))

pub turn-returns-then-not-read-clause-answers : goal.turn-returns-then-not-read-clause-answers
turn-returns-then-not-read-clause-answers t c =
    answers_made c.with_comma.ensures (answers_by (turn_comma c.args.depth c.args.read c.args.cursor.now c.if-not-read.true)
    (answers_next _ c.in_ok-expect.ensures (record { is = refl })))

pub turn-returns-in_err-next-clause-answers : goal.turn-returns-in_err-next-clause-answers
turn-returns-in_err-next-clause-answers t c =
    answers_on _ c.from_residual-in_err-next.ensures.1 (answers_by
    (turn_item c.args.depth c.args.read c.args.cursor.now c.requires.room c.if-not-read.false)
    (answers_stop _ c.in_err-next.ensures.answers))

pub turn-returns-clause-answers : goal.turn-returns-clause-answers
turn-returns-clause-answers t c =
    answers_made c.in_ok-with.ensures
    (answers_by (turn_item c.args.depth c.args.read c.args.cursor.now c.requires.room c.if-not-read.false)
    (answers_next _ c.in_ok-next.ensures.answers (record { is = refl })))

pub items-returns-in_err-first-clause-answers : goal.items-returns-in_err-first-clause-answers
items-returns-in_err-first-clause-answers t c =
    answers_on _ c.from_residual.ensures.1 (answers_by (items_is c.args.depth c.args.cursor.now c.requires)
    (answers_stop _ (answers_stop _ c.in_err-first.ensures.answers)))

pub items-loop-alloc-init : goal.items-loop-alloc-init
items-loop-alloc-init t c = record {
  reads = items_is c.args.depth c.args.cursor.now c.requires
      ∙ ap (λ o. and_then (and_then o (λ a us. Read (one_item a) us)) (left (further_turn c.args.depth))) c.in_ok-first.ensures.answers.is
      ∙ ap (λ a. left (further_turn c.args.depth) a c.initial.new.cursor) (sym c.in_ok-read.ensures);
  low = omega (arith, ap (λ a. a.height) c.in_ok-read.ensures, c.in_ok-first.ensures.low, c.requires);
}

pub items-returns-in_err-read-2-clause-answers : goal.items-returns-in_err-read-2-clause-answers
items-returns-in_err-read-2-clause-answers t c =
    answers_on _ c.from_residual-in_err-read-2.ensures.1
    (answers_by c.loop-alloc.invariant.reads (loop_stops (further_turn c.args.depth) c.loop-alloc.read c.loop-alloc.cursor
    (sym c.goes_on.ensures ∙ c.loop-alloc-test.true) refl c.in_err-read-2.ensures.answers))

pub items-loop-alloc-smaller : goal.items-loop-alloc-smaller
items-loop-alloc-smaller t c = loop_takes (further_turn c.args.depth) c.loop-alloc.read c.loop-alloc.cursor
    (further_good c.args.depth c.requires) (record { fits = c.loop-alloc.invariant.low; has_room = refl }) c.in_ok-read-2.read
    c.turn.new.cursor c.in_ok-read-2.ensures.answers.is

pub items-loop-alloc-preserved : goal.items-loop-alloc-preserved
items-loop-alloc-preserved t c = record {
  reads = c.loop-alloc.invariant.reads
      ∙ loop_read (further_turn c.args.depth) c.loop-alloc.read c.loop-alloc.cursor (further_good c.args.depth c.requires)
      (record { fits = c.loop-alloc.invariant.low; has_room = refl }) c.in_ok-read-2.read c.turn.new.cursor
      c.in_ok-read-2.ensures.answers.is (sym c.goes_on.ensures ∙ c.loop-alloc-test.true);
  low = c.in_ok-read-2.ensures.low;
}

pub items-returns-clause-answers : goal.items-returns-clause-answers
items-returns-clause-answers t c = record {
  is = c.loop-alloc.invariant.reads ∙ loop_end (further_turn c.args.depth) c.loop-alloc.read c.loop-alloc.cursor
      (sym c.goes_on.ensures ∙ c.loop-alloc-test.false);
}

pub closed-returns-in_err-read-clause-answers : goal.closed-returns-in_err-read-clause-answers
closed-returns-in_err-read-clause-answers t c =
    answers_on _ c.from_residual.ensures.1 (answers_by (closed_is c.args.depth c.args.left c.args.cursor.now)
    (answers_stop _ (answers_stop _ c.in_err-read.ensures.answers)))

pub closed-returns-in_err-right-clause-answers : goal.closed-returns-in_err-right-clause-answers
closed-returns-in_err-right-clause-answers t c =
    answers_on _ c.from_residual-in_err-right.ensures.1
    (answers_by (closed_is c.args.depth c.args.left c.args.cursor.now)
    (answers_stop _ (answers_next _ c.in_ok-read.ensures.answers (answers_stop _ c.in_err-right.ensures))))

pub closed-returns-clause-answers : goal.closed-returns-clause-answers
closed-returns-clause-answers t c =
    answers_made c.list.ensures
    (answers_by (closed_is c.args.depth c.args.left c.args.cursor.now)
    (answers_next _ (answers_next _ c.in_ok-read.ensures.answers (answers_next _ c.in_ok-right.ensures (record { is = refl })))
    (record { is = refl })))

pub initial-returns-in_err-read-clause-answers : goal.initial-returns-in_err-read-clause-answers
initial-returns-in_err-read-clause-answers t c =
    answers_on _ c.from_residual.ensures.1 (answers_by (initial_value c.args.depth c.args.cursor.now (sym c.if-not-sees.ensures))
    (answers_stop _ c.in_err-read.ensures.answers))

pub initial-returns-then-not-sees-clause-answers : goal.initial-returns-then-not-sees-clause-answers
initial-returns-then-not-sees-clause-answers t c =
    answers_made c.value.ensures
    (answers_by (initial_value c.args.depth c.args.cursor.now (sym c.if-not-sees.ensures))
    (answers_next _ c.in_ok-read.ensures.answers (record { is = refl })))

pub initial-returns-then-depth-eq0-clause-answers : goal.initial-returns-then-depth-eq0-clause-answers
initial-returns-then-depth-eq0-clause-answers t c = record {
  is = initial_deep c.args.depth c.args.cursor.now (sym c.if-not-sees.ensures)
      (omega arith);
}

pub initial-returns-in_err-left-clause-answers : goal.initial-returns-in_err-left-clause-answers
initial-returns-in_err-left-clause-answers t c =
    answers_on _ c.from_residual-in_err-left.ensures.1
    (answers_by (initial_braces c.args.depth c.args.cursor.now (sym c.if-not-sees.ensures) (omega arith))
    (answers_stop _ (answers_stop _ c.in_err-left.ensures)))

pub initial-returns-clause-answers : goal.initial-returns-clause-answers
initial-returns-clause-answers t c =
    answers_by (initial_braces c.args.depth c.args.cursor.now (sym c.if-not-sees.ensures) (omega arith))
    (answers_behind (punct mark.LeftBrace) (closed (under c.args.depth)) _ c.in_ok-left.ensures c.closed.ensures.answers)
