use Rattle.std.proofs.Common.{◌-◌, arith, sym, ◌∙◌, ap, refl}
use Rattle.c_parse_base.specs.Laws.AnswerLaws.{answers_on, answers_by, answers_stop, answers_next, answers_made, passed}
use Rattle.c_grammar.specs.Statements.{InLoop}
use Rattle.c_parse_base.specs.Reading.Answer.{Read, and_then}
use Rattle.c_parse_base.specs.Laws.LoopLaws.{left, loop_end, loop_deep, loop_stops, loop_read, loop_takes}
use Rattle.c_parse_stmt.specs.Reading.Nodes.{no_items, with_item}
use Rattle.c_parse_stmt.specs.Laws.Room.{has_room, no_room}
use Rattle.c_parse_stmt.specs.Reading.Statements.{placed, for_head}
use Rattle.c_parse_stmt.specs.Laws.Code.{lower, headed, headed_is, alone, if_is, else_none, else_wrong, else_read, while_is, do_is}
use Rattle.c_parse_stmt.specs.Laws.Code.{for_is, item_local, item_statement, further_item, items_chain, item_good, may_item, further_is}
use Rattle.c_parse_stmt.specs.Laws.Code.{further_read, block_in_is, compound_is, statement_brace, statement_if, statement_if_deep}
use Rattle.c_parse_stmt.specs.Laws.Code.{statement_other, or_while, or_while_deep, or_do, or_do_deep, or_for, or_for_deep, or_return}
use Rattle.c_parse_stmt.specs.Laws.Code.{or_last}
use Rattle.c_parse_stmt.proofs.parser.+statement.Goals as goal

pub headed-returns-in_err-inner-clause-answers : goal.headed-returns-in_err-inner-clause-answers
headed-returns-in_err-inner-clause-answers t c =
    answers_on _ c.from_residual.ensures.1
    (answers_by (headed_is c.args.depth (placed c.args.in_loop) c.args.cursor.now)
    (answers_stop _ c.in_err-inner.ensures.answers))

pub headed-returns-in_err-chosen-clause-answers : goal.headed-returns-in_err-chosen-clause-answers
headed-returns-in_err-chosen-clause-answers t c =
    answers_on _ c.from_residual-in_err-chosen.ensures.1
    (answers_by (headed_is c.args.depth (placed c.args.in_loop) c.args.cursor.now)
    (answers_next _ c.in_ok-inner.ensures.answers (answers_stop _ c.in_err-chosen.ensures.answers)))

pub headed-returns-clause-answers : goal.headed-returns-clause-answers
headed-returns-clause-answers t c =
    answers_by (headed_is c.args.depth (placed c.args.in_loop) c.args.cursor.now)
    (answers_next _ c.in_ok-inner.ensures.answers (answers_next _ c.in_ok-chosen.ensures.answers (record { is = refl })))

pub if_statement-returns-in_err-parts-clause-answers : goal.if_statement-returns-in_err-parts-clause-answers
if_statement-returns-in_err-parts-clause-answers t c =
    answers_on _ c.from_residual.ensures.1
    (answers_by (if_is c.args.depth (placed c.args.in_loop) c.args.cursor.now c.requires.room c.requires.next)
    (answers_stop _ (answers_stop _ (answers_stop _ (passed (headed c.args.depth (placed c.args.in_loop)) c.skip.ensures
    c.in_err-parts.ensures.answers)))))

pub if_statement-returns-then-not-sees_keyword-clause-answers : goal.if_statement-returns-then-not-sees_keyword-clause-answers
if_statement-returns-then-not-sees_keyword-clause-answers t c =
    answers_made c.in_ok-if_then.ensures
    (answers_by (if_is c.args.depth (placed c.args.in_loop) c.args.cursor.now c.requires.room c.requires.next)
    (answers_next _ (answers_next _ (answers_next _ (passed (headed c.args.depth (placed c.args.in_loop)) c.skip.ensures
    c.in_ok-parts.ensures.answers) (record { is = refl })) (record {
      is = else_none c.args.depth (placed c.args.in_loop)
          (alone c.in_ok-parts.parts) c.headed.new.cursor (sym c.if-not-sees_keyword.ensures);
    })) (record { is = refl })))

pub if_statement-returns-then-not-parts-clause-answers : goal.if_statement-returns-then-not-parts-clause-answers
if_statement-returns-then-not-parts-clause-answers t c =
    answers_by (if_is c.args.depth (placed c.args.in_loop) c.args.cursor.now c.requires.room c.requires.next)
    (answers_stop _ (answers_next _ (answers_next _ (passed (headed c.args.depth (placed c.args.in_loop)) c.skip.ensures
    c.in_ok-parts.ensures.answers) (record { is = refl })) (record {
      is = else_wrong c.args.depth
          (placed c.args.in_loop) c.in_ok-parts.parts c.headed.new.cursor (sym c.if-not-sees_keyword.ensures) c.if-not-parts.true;
    })))

pub if_statement-returns-in_err-other-clause-answers : goal.if_statement-returns-in_err-other-clause-answers
if_statement-returns-in_err-other-clause-answers t c =
    answers_on _ c.from_residual-in_err-other.ensures.1
    (answers_by (if_is c.args.depth (placed c.args.in_loop) c.args.cursor.now c.requires.room c.requires.next)
    (answers_stop _ (answers_next _ (answers_next _ (passed (headed c.args.depth (placed c.args.in_loop)) c.skip.ensures
    c.in_ok-parts.ensures.answers) (record { is = refl })) (answers_by (else_read c.args.depth
    (placed c.args.in_loop) c.in_ok-parts.parts c.headed.new.cursor c.requires.room
    (sym c.if-not-sees_keyword.ensures) c.if-not-parts.false) (answers_stop _
    (passed (lower c.args.depth (placed c.args.in_loop)) c.skip-2.ensures c.in_err-other.ensures.answers))))))

pub if_statement-returns-clause-answers : goal.if_statement-returns-clause-answers
if_statement-returns-clause-answers t c =
    answers_made c.in_ok-if_else.ensures
    (answers_by (if_is c.args.depth (placed c.args.in_loop) c.args.cursor.now c.requires.room c.requires.next)
    (answers_next _ (answers_next _ (answers_next _ (passed (headed c.args.depth (placed c.args.in_loop)) c.skip.ensures
    c.in_ok-parts.ensures.answers) (record { is = refl })) (answers_by (else_read c.args.depth
    (placed c.args.in_loop) c.in_ok-parts.parts c.headed.new.cursor c.requires.room
    (sym c.if-not-sees_keyword.ensures) c.if-not-parts.false) (answers_next _
    (passed (lower c.args.depth (placed c.args.in_loop)) c.skip-2.ensures c.in_ok-other.ensures.answers)
    (record { is = refl })))) (record { is = refl })))

pub while_loop-returns-in_err-parts-clause-answers : goal.while_loop-returns-in_err-parts-clause-answers
while_loop-returns-in_err-parts-clause-answers t c =
    answers_on _ c.from_residual.ensures.1
    (answers_by (while_is c.args.depth c.args.cursor.now c.requires.room c.requires.next)
    (answers_stop _ (passed (headed c.args.depth InLoop) c.skip.ensures c.in_err-parts.ensures.answers)))

pub while_loop-returns-clause-answers : goal.while_loop-returns-clause-answers
while_loop-returns-clause-answers t c =
    answers_made c.in_ok-while_loop.ensures
    (answers_by (while_is c.args.depth c.args.cursor.now c.requires.room c.requires.next)
    (answers_next _ (passed (headed c.args.depth InLoop) c.skip.ensures c.in_ok-parts.ensures.answers) (record { is = refl })))

pub do_loop-returns-in_err-body-clause-answers : goal.do_loop-returns-in_err-body-clause-answers
do_loop-returns-in_err-body-clause-answers t c =
    answers_on _ c.from_residual.ensures.1
    (answers_by (do_is c.args.depth c.args.cursor.now c.requires.room c.requires.next)
    (answers_stop _ (answers_stop _ (passed (lower c.args.depth InLoop) c.skip.ensures c.in_err-body.ensures.answers))))

pub do_loop-returns-in_err-inner-clause-answers : goal.do_loop-returns-in_err-inner-clause-answers
do_loop-returns-in_err-inner-clause-answers t c =
    answers_on _ c.from_residual-in_err-inner.ensures.1
    (answers_by (do_is c.args.depth c.args.cursor.now c.requires.room c.requires.next)
    (answers_stop _ (answers_next _ (passed (lower c.args.depth InLoop) c.skip.ensures c.in_ok-body.ensures.answers)
    (answers_stop _ c.in_err-inner.ensures.answers))))

pub do_loop-returns-clause-answers : goal.do_loop-returns-clause-answers
do_loop-returns-clause-answers t c =
    answers_made c.in_ok-do_loop.ensures
    (answers_by (do_is c.args.depth c.args.cursor.now c.requires.room c.requires.next)
    (answers_next _ (answers_next _ (passed (lower c.args.depth InLoop) c.skip.ensures c.in_ok-body.ensures.answers)
    (answers_next _ c.in_ok-inner.ensures.answers (record { is = refl }))) (record { is = refl })))

pub for_loop-returns-in_err-head-clause-answers : goal.for_loop-returns-in_err-head-clause-answers
for_loop-returns-in_err-head-clause-answers t c =
    answers_on _ c.from_residual.ensures.1
    (answers_by (for_is c.args.depth c.args.cursor.now c.requires.room c.requires.next)
    (answers_stop _ (answers_stop _ (passed (for_head c.args.depth) c.skip.ensures c.in_err-head.ensures.answers))))

pub for_loop-returns-in_err-body-clause-answers : goal.for_loop-returns-in_err-body-clause-answers
for_loop-returns-in_err-body-clause-answers t c =
    answers_on _ c.from_residual-in_err-body.ensures.1
    (answers_by (for_is c.args.depth c.args.cursor.now c.requires.room c.requires.next)
    (answers_stop _ (answers_next _ (passed (for_head c.args.depth) c.skip.ensures c.in_ok-head.ensures.answers)
    (answers_stop _ c.in_err-body.ensures.answers))))

pub for_loop-returns-clause-answers : goal.for_loop-returns-clause-answers
for_loop-returns-clause-answers t c =
    answers_made c.in_ok-for_loop.ensures
    (answers_by (for_is c.args.depth c.args.cursor.now c.requires.room c.requires.next)
    (answers_next _ (answers_next _ (passed (for_head c.args.depth) c.skip.ensures c.in_ok-head.ensures.answers)
    (answers_next _ c.in_ok-body.ensures.answers (record { is = refl }))) (record { is = refl })))

pub item-returns-in_err-read-clause-answers : goal.item-returns-in_err-read-clause-answers
item-returns-in_err-read-clause-answers t c =
    answers_on _ c.from_residual.ensures.1
    (answers_by (item_local c.args.depth (placed c.args.in_loop) c.args.cursor.now (sym c.if-begins_type.ensures))
    (answers_stop _ c.in_err-read.ensures.answers))

pub item-returns-then-begins_type-clause-answers : goal.item-returns-then-begins_type-clause-answers
item-returns-then-begins_type-clause-answers t c =
    answers_made c.local_item.ensures
    (answers_by (item_local c.args.depth (placed c.args.in_loop) c.args.cursor.now (sym c.if-begins_type.ensures))
    (answers_next _ c.in_ok-read.ensures.answers (record { is = refl })))

pub item-returns-in_err-read-2-clause-answers : goal.item-returns-in_err-read-2-clause-answers
item-returns-in_err-read-2-clause-answers t c =
    answers_on _ c.from_residual-in_err-read-2.ensures.1
    (answers_by (item_statement c.args.depth (placed c.args.in_loop) c.args.cursor.now c.requires (sym c.if-begins_type.ensures))
    (answers_stop _ c.in_err-read-2.ensures.answers))

pub item-returns-clause-answers : goal.item-returns-clause-answers
item-returns-clause-answers t c =
    answers_made c.statement_item.ensures
    (answers_by (item_statement c.args.depth (placed c.args.in_loop) c.args.cursor.now c.requires (sym c.if-begins_type.ensures))
    (answers_next _ c.in_ok-read-2.ensures.answers (record { is = refl })))

pub items-returns-in_err-expect-clause-answers : goal.items-returns-in_err-expect-clause-answers
items-returns-in_err-expect-clause-answers t c =
    answers_on _ c.from_residual.ensures.1
    (answers_by (items_chain c.args.depth (placed c.args.in_loop) c.args.cursor.now)
    (answers_stop _ (answers_stop _ c.in_err-expect.ensures)))

pub items-loop-alloc-init : goal.items-loop-alloc-init
items-loop-alloc-init t c = record {
  reads = items_chain c.args.depth (placed c.args.in_loop) c.args.cursor.now
      ∙ ap (λ o. and_then (and_then o (λ p us. Read (no_items p) us)) (left (further_item c.args.depth (placed c.args.in_loop))))
      c.in_ok-expect.ensures.is
      ∙ ap (λ a. left (further_item c.args.depth (placed c.args.in_loop)) a c.expect.new.self) (sym c.no_items-read.ensures);
  low = omega (arith, ap (λ a. a.height) c.no_items-read.ensures);
}

pub items-returns-then-depth-eq0-clause-answers : goal.items-returns-then-depth-eq0-clause-answers
items-returns-then-depth-eq0-clause-answers t c = record {
  is = c.loop-alloc.invariant.reads ∙ loop_deep (further_item c.args.depth (placed c.args.in_loop)) c.loop-alloc.read c.loop-alloc.cursor
      (sym c.begins_item.ensures ∙ c.loop-alloc-test.true) (no_room c.args.depth (omega arith));
}

pub items-returns-in_err-next-clause-answers : goal.items-returns-in_err-next-clause-answers
items-returns-in_err-next-clause-answers t c =
    answers_on _ c.from_residual-in_err-next.ensures.1
    (answers_by c.loop-alloc.invariant.reads (loop_stops (further_item c.args.depth (placed c.args.in_loop)) c.loop-alloc.read
    c.loop-alloc.cursor (sym c.begins_item.ensures ∙ c.loop-alloc-test.true) (has_room c.args.depth (omega arith))
    (answers_by (further_is c.args.depth (placed c.args.in_loop) c.loop-alloc.read c.loop-alloc.cursor)
    (answers_stop _ c.in_err-next.ensures.answers))))

pub items-loop-alloc-smaller : goal.items-loop-alloc-smaller
items-loop-alloc-smaller t c = loop_takes (further_item c.args.depth (placed c.args.in_loop)) c.loop-alloc.read c.loop-alloc.cursor
    (item_good c.args.depth (placed c.args.in_loop)) (may_item c.args.depth c.loop-alloc.read (omega arith) c.loop-alloc.invariant.low)
    (with_item c.loop-alloc.read c.in_ok-next.next) c.item.new.cursor
    (further_read c.args.depth (placed c.args.in_loop) c.loop-alloc.read c.in_ok-next.next c.loop-alloc.cursor c.item.new.cursor
    c.in_ok-next.ensures.answers.is)

pub items-loop-alloc-preserved : goal.items-loop-alloc-preserved
items-loop-alloc-preserved t c = record {
  reads = c.loop-alloc.invariant.reads
      ∙ loop_read (further_item c.args.depth (placed c.args.in_loop)) c.loop-alloc.read c.loop-alloc.cursor
      (item_good c.args.depth (placed c.args.in_loop)) (may_item c.args.depth c.loop-alloc.read (omega arith) c.loop-alloc.invariant.low)
      (with_item c.loop-alloc.read c.in_ok-next.next) c.item.new.cursor
      (further_read c.args.depth (placed c.args.in_loop) c.loop-alloc.read c.in_ok-next.next c.loop-alloc.cursor c.item.new.cursor
      c.in_ok-next.ensures.answers.is) (sym c.begins_item.ensures ∙ c.loop-alloc-test.true)
      ∙ ap (λ a. left (further_item c.args.depth (placed c.args.in_loop)) a c.item.new.cursor) (sym c.in_ok-read.ensures);
  low = omega (arith, ap (λ a. a.height) c.in_ok-read.ensures, c.in_ok-next.ensures.low, c.loop-alloc.invariant.low);
}

pub items-returns-clause-answers : goal.items-returns-clause-answers
items-returns-clause-answers t c = record {
  is = c.loop-alloc.invariant.reads ∙ loop_end (further_item c.args.depth (placed c.args.in_loop)) c.loop-alloc.read c.loop-alloc.cursor
      (sym c.begins_item.ensures ∙ c.loop-alloc-test.false);
}

pub block_in-returns-in_err-read-clause-answers : goal.block_in-returns-in_err-read-clause-answers
block_in-returns-in_err-read-clause-answers t c =
    answers_on _ c.from_residual.ensures.1
    (answers_by (block_in_is c.args.depth (placed c.args.in_loop) c.args.cursor.now)
    (answers_stop _ (answers_stop _ c.in_err-read.ensures.answers)))

pub block_in-returns-in_err-right-clause-answers : goal.block_in-returns-in_err-right-clause-answers
block_in-returns-in_err-right-clause-answers t c =
    answers_on _ c.from_residual-in_err-right.ensures.1
    (answers_by (block_in_is c.args.depth (placed c.args.in_loop) c.args.cursor.now)
    (answers_stop _ (answers_next _ c.in_ok-read.ensures.answers (answers_stop _ c.in_err-right.ensures))))

pub block_in-returns-clause-answers : goal.block_in-returns-clause-answers
block_in-returns-clause-answers t c =
    answers_made c.block.ensures
    (answers_by (block_in_is c.args.depth (placed c.args.in_loop) c.args.cursor.now)
    (answers_next _ (answers_next _ c.in_ok-read.ensures.answers (answers_next _ c.in_ok-right.ensures (record { is = refl })))
    (record { is = refl })))

pub compound-returns-in_err-read-clause-answers : goal.compound-returns-in_err-read-clause-answers
compound-returns-in_err-read-clause-answers t c =
    answers_on _ c.from_residual.ensures.1
    (answers_by (compound_is c.args.depth (placed c.args.in_loop) c.args.cursor.now)
    (answers_stop _ c.in_err-read.ensures.answers))

pub compound-returns-clause-answers : goal.compound-returns-clause-answers
compound-returns-clause-answers t c =
    answers_made c.in_ok-compound.ensures
    (answers_by (compound_is c.args.depth (placed c.args.in_loop) c.args.cursor.now)
    (answers_next _ c.in_ok-read.ensures.answers (record { is = refl })))

pub loop_or-returns-then-depth-eq0-clause-answers : goal.loop_or-returns-then-depth-eq0-clause-answers
loop_or-returns-then-depth-eq0-clause-answers t c =
    record { is = or_while_deep c.args.depth (placed c.args.in_loop) c.args.cursor.now (sym c.if-sees_keyword.ensures) (omega arith) }

pub loop_or-returns-then-sees_keyword-clause-answers : goal.loop_or-returns-then-sees_keyword-clause-answers
loop_or-returns-then-sees_keyword-clause-answers t c =
    answers_by (or_while c.args.depth (placed c.args.in_loop) c.args.cursor.now (sym c.if-sees_keyword.ensures) (omega arith))
    c.while_loop.ensures.answers

pub loop_or-returns-then-depth-eq0-2-clause-answers : goal.loop_or-returns-then-depth-eq0-2-clause-answers
loop_or-returns-then-depth-eq0-2-clause-answers t c =
    record {
      is = or_do_deep c.args.depth (placed c.args.in_loop) c.args.cursor.now (sym c.if-sees_keyword.ensures)
          (sym c.if-sees_keyword-2.ensures) (omega arith);
    }

pub loop_or-returns-then-sees_keyword-2-clause-answers : goal.loop_or-returns-then-sees_keyword-2-clause-answers
loop_or-returns-then-sees_keyword-2-clause-answers t c =
    answers_by (or_do c.args.depth (placed c.args.in_loop) c.args.cursor.now (sym c.if-sees_keyword.ensures)
    (sym c.if-sees_keyword-2.ensures) (omega arith))
    c.do_loop.ensures.answers

pub loop_or-returns-then-depth-eq0-3-clause-answers : goal.loop_or-returns-then-depth-eq0-3-clause-answers
loop_or-returns-then-depth-eq0-3-clause-answers t c =
    record {
      is = or_for_deep c.args.depth (placed c.args.in_loop) c.args.cursor.now (sym c.if-sees_keyword.ensures)
          (sym c.if-sees_keyword-2.ensures) (sym c.if-sees_keyword-3.ensures) (omega arith);
    }

pub loop_or-returns-then-sees_keyword-3-clause-answers : goal.loop_or-returns-then-sees_keyword-3-clause-answers
loop_or-returns-then-sees_keyword-3-clause-answers t c =
    answers_by (or_for c.args.depth (placed c.args.in_loop) c.args.cursor.now (sym c.if-sees_keyword.ensures)
    (sym c.if-sees_keyword-2.ensures) (sym c.if-sees_keyword-3.ensures) (omega arith))
    c.for_loop.ensures.answers

pub loop_or-returns-then-sees_keyword-4-clause-answers : goal.loop_or-returns-then-sees_keyword-4-clause-answers
loop_or-returns-then-sees_keyword-4-clause-answers t c =
    answers_by (or_return c.args.depth (placed c.args.in_loop) c.args.cursor.now (sym c.if-sees_keyword.ensures)
    (sym c.if-sees_keyword-2.ensures) (sym c.if-sees_keyword-3.ensures) (sym c.if-sees_keyword-4.ensures))
    c.returned.ensures.answers

pub loop_or-returns-clause-answers : goal.loop_or-returns-clause-answers
loop_or-returns-clause-answers t c =
    answers_by (or_last c.args.depth (placed c.args.in_loop) c.args.cursor.now (sym c.if-sees_keyword.ensures)
    (sym c.if-sees_keyword-2.ensures) (sym c.if-sees_keyword-3.ensures) (sym c.if-sees_keyword-4.ensures))
    c.last.ensures.answers

pub statement-returns-then-sees-clause-answers : goal.statement-returns-then-sees-clause-answers
statement-returns-then-sees-clause-answers t c =
    answers_by (statement_brace c.args.depth (placed c.args.in_loop) c.args.cursor.now (sym c.if-sees.ensures))
    c.compound.ensures.answers

pub statement-returns-then-depth-eq0-clause-answers : goal.statement-returns-then-depth-eq0-clause-answers
statement-returns-then-depth-eq0-clause-answers t c =
    record {
      is = statement_if_deep c.args.depth (placed c.args.in_loop) c.args.cursor.now (sym c.if-sees.ensures)
          (sym c.if-sees_keyword.ensures) (omega arith);
    }

pub statement-returns-then-sees_keyword-clause-answers : goal.statement-returns-then-sees_keyword-clause-answers
statement-returns-then-sees_keyword-clause-answers t c =
    answers_by (statement_if c.args.depth (placed c.args.in_loop) c.args.cursor.now (sym c.if-sees.ensures)
    (sym c.if-sees_keyword.ensures) (omega arith))
    c.if_statement.ensures.answers

pub statement-returns-clause-answers : goal.statement-returns-clause-answers
statement-returns-clause-answers t c =
    answers_by (statement_other c.args.depth (placed c.args.in_loop) c.args.cursor.now (sym c.if-sees.ensures)
    (sym c.if-sees_keyword.ensures))
    c.loop_or.ensures.answers
