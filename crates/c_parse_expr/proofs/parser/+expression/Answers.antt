use Rattle.std.proofs.Common.{◌-◌, suc, arith, sym, ◌∙◌, ap, refl}
use Rattle.std.specs.Prelude.{true, false}
use Rattle.c_parse_base.specs.Reading.Answer.{Read, and_then}
use Rattle.c_parse_base.specs.Reading.Answers.{rest_of}
use Rattle.c_parse_base.specs.Laws.Depths.{is_below, not_below}
use Rattle.c_parse_base.specs.Laws.LoopLaws.{left, loop_end, loop_deep, loop_stops, loop_read, loop_takes}
use Rattle.c_parse_expr.specs.Reading.Nodes.{one_argument, more_arguments, applied}
use Rattle.c_parse_base.specs.Laws.AnswerLaws.{answers_on, answers_by, answers_stop, answers_next, answers_behind, answers_made, passed}
use Rattle.c_parse_base.specs.Laws.WordLaws.{value_passed}
use Rattle.c_parse_expr.specs.Reading.Operators.{pick_binary}
use Rattle.c_parse_expr.specs.Laws.Code.{further_argument, further_is, good_further, further_read, further_suffix, suffix_seen}
use Rattle.c_parse_expr.specs.Laws.Code.{good_apply, apply_is, applied_read, further_operation, seen_some, seen_none, good_operation}
use Rattle.c_parse_expr.specs.Laws.Code.{may_go_on, branches_of, branches_is, chosen_is, conditional_is, no_choice, choice_deep}
use Rattle.c_parse_expr.specs.Laws.Code.{choice_read, assignment_is, no_assign, assign_wrong, assign_deep, assign_read, assigned_is}
use Rattle.c_parse_expr.specs.Laws.Code.{arguments_is, called_empty, called_full, indexed_is, behind_index, behind_call, behind_short}
use Rattle.c_parse_expr.specs.Laws.Code.{more_suffixes, operation_is, tier_is, tier_zero, tier_chain, at_tier}
use Rattle.c_parse_expr.specs.Laws.OperandCode.{grouped_is, stepped_is, operated_is, size_opened_name, size_opened_deep}
use Rattle.c_parse_expr.specs.Laws.OperandCode.{size_opened_group, size_rest_bare, size_rest_deep, size_rest_open, sized_is, bare_step}
use Rattle.c_parse_expr.specs.Laws.OperandCode.{bare_step_deep, bare_operated, bare_operated_deep, bare_sized, bare_worded, unary_bare}
use Rattle.c_parse_expr.specs.Laws.OperandCode.{unary_deep, unary_group, casted_is, open_type, open_group, operand_bare, operand_deep}
use Rattle.c_parse_expr.specs.Laws.OperandCode.{operand_open}
use Rattle.c_ast.specs.declared.keyword.Keyword.TheVariants as key
use Rattle.c_ast.specs.declared.punctuator.Punctuator.TheVariants as mark
use Rattle.c_parse_base.specs.Reading.Words as read
use Rattle.c_parse_base.specs.Reading.Words.{punct}
use Rattle.c_parse_expr.specs.Reading.Expressions.{assignment, called, grouped, size_opened, size_rest, cast_or_group, under, tier}
use Rattle.c_parse_expr.specs.Reading.Expressions.{step_word, unary_word}
use Rattle.c_parse_expr.specs.declared.suffix.Suffix.TheVariants as suffix
use Rattle.c_parse_expr.specs.Laws.WordCode.{any_taken, placed_read}
use Rattle.c_parse_expr.proofs.parser.+expression.Goals as goal

pub grouped-returns-in_err-inner-clause-answers : goal.grouped-returns-in_err-inner-clause-answers
grouped-returns-in_err-inner-clause-answers t c =
    answers_on _ c.from_residual.ensures.1
    (answers_by (grouped_is c.args.depth c.args.left c.args.cursor.now c.requires)
    (answers_stop _ (answers_stop _ (answers_stop _ c.in_err-inner.ensures.answers))))

pub grouped-returns-in_err-right-clause-answers : goal.grouped-returns-in_err-right-clause-answers
grouped-returns-in_err-right-clause-answers t c =
    answers_on _ c.from_residual-in_err-right.ensures.1
    (answers_by (grouped_is c.args.depth c.args.left c.args.cursor.now c.requires)
    (answers_stop _ (answers_stop _ (answers_next _ c.in_ok-inner.ensures.answers (answers_stop _ c.in_err-right.ensures)))))

pub grouped-returns-clause-answers : goal.grouped-returns-clause-answers
grouped-returns-clause-answers t c =
    answers_by (grouped_is c.args.depth c.args.left c.args.cursor.now c.requires)
    (answers_next _
    (answers_made c.in_ok-read.ensures
    (answers_next _ (answers_next _ c.in_ok-inner.ensures.answers (answers_next _ c.in_ok-right.ensures (record { is = refl })))
    (record { is = refl })))
    c.suffixes.ensures.answers)

pub operation-returns-in_err-right-clause-answers : goal.operation-returns-in_err-right-clause-answers
operation-returns-in_err-right-clause-answers t c =
    let taken = value_passed (pick_binary (suc c.args.tier)) c.args.cursor.now c.args.operator c.requires.next in
    answers_on _ c.from_residual.ensures.1
    (answers_by (operation_is c.args.depth c.args.tier c.args.left c.args.cursor.now (omega arith))
    (answers_stop _ (answers_next _ (record { is = taken }) (answers_stop _
    (passed (tier (c.args.depth - 1) (under (c.args.depth - 1)) c.args.tier) c.skip.ensures c.in_err-right.ensures.answers)))))

pub operation-returns-clause-answers : goal.operation-returns-clause-answers
operation-returns-clause-answers t c =
    let taken = value_passed (pick_binary (suc c.args.tier)) c.args.cursor.now c.args.operator c.requires.next in
    answers_made c.in_ok-binary.ensures
    (answers_by (operation_is c.args.depth c.args.tier c.args.left c.args.cursor.now (omega arith))
    (answers_next _ (answers_next _ (record { is = taken }) (answers_next _
    (passed (tier (c.args.depth - 1) (under (c.args.depth - 1)) c.args.tier) c.skip.ensures c.in_ok-right.ensures.answers)
    (record { is = refl }))) (record { is = refl })))

pub binary-returns-then-tier-eq0-clause-answers : goal.binary-returns-then-tier-eq0-clause-answers
binary-returns-then-tier-eq0-clause-answers t c =
    answers_by (tier_is c.args.depth c.args.tier 0 c.args.cursor.now c.if-tier-eq0.true ∙ tier_zero c.args.depth c.args.cursor.now)
    c.operand.ensures.answers

pub binary-returns-in_err-left-clause-answers : goal.binary-returns-in_err-left-clause-answers
binary-returns-in_err-left-clause-answers t c =
    answers_on _ c.from_residual.ensures.1
    (answers_by (tier_is c.args.depth c.args.tier (suc (c.args.tier - 1)) c.args.cursor.now (omega arith)
    ∙ tier_chain c.args.depth (c.args.tier - 1) c.args.cursor.now)
    (answers_stop _ c.in_err-left.ensures.answers))

pub binary-loop-operator-init : goal.binary-loop-operator-init
binary-loop-operator-init t c = record {
  reads = tier_is c.args.depth c.args.tier (suc (c.args.tier - 1)) c.args.cursor.now (omega arith)
      ∙ tier_chain c.args.depth (c.args.tier - 1) c.args.cursor.now
      ∙ ap (λ o. and_then o (left (further_operation c.args.depth (c.args.tier - 1)))) c.in_ok-left.ensures.answers.is;
  low = c.in_ok-left.ensures.low;
}

pub binary-returns-then-left-depth-clause-answers : goal.binary-returns-then-left-depth-clause-answers
binary-returns-then-left-depth-clause-answers t c =
    let h = at_tier c.args.tier (suc (c.args.tier - 1)) c.loop-operator.cursor _ (omega arith) (sym c.in-Some.ensures) in
    record {
      is = c.loop-operator.invariant.reads ∙ loop_deep (further_operation c.args.depth (c.args.tier - 1)) c.loop-operator.left
          c.loop-operator.cursor (seen_some (c.args.tier - 1) c.loop-operator.cursor c.in-Some.operator h)
          (not_below c.loop-operator.left.height c.args.depth (omega arith));
    }

pub binary-returns-in_err-left-2-clause-answers : goal.binary-returns-in_err-left-2-clause-answers
binary-returns-in_err-left-2-clause-answers t c =
    let h = at_tier c.args.tier (suc (c.args.tier - 1)) c.loop-operator.cursor _ (omega arith) (sym c.in-Some.ensures) in
    answers_on _ c.from_residual-in_err-left-2.ensures.1
    (answers_by c.loop-operator.invariant.reads (loop_stops (further_operation c.args.depth (c.args.tier - 1)) c.loop-operator.left
    c.loop-operator.cursor (seen_some (c.args.tier - 1) c.loop-operator.cursor c.in-Some.operator h)
    (is_below c.loop-operator.left.height c.args.depth (omega arith)) c.in_err-left-2.ensures.answers))

pub binary-loop-operator-smaller : goal.binary-loop-operator-smaller
binary-loop-operator-smaller t c =
    loop_takes (further_operation c.args.depth (c.args.tier - 1)) c.loop-operator.left c.loop-operator.cursor
    (good_operation c.args.depth (c.args.tier - 1) (omega arith)) (may_go_on c.args.depth c.loop-operator.left (omega arith))
    c.in_ok-left-2.left c.operation.new.cursor c.in_ok-left-2.ensures.answers.is

pub binary-loop-operator-preserved : goal.binary-loop-operator-preserved
binary-loop-operator-preserved t c =
    let h = at_tier c.args.tier (suc (c.args.tier - 1)) c.loop-operator.cursor _ (omega arith) (sym c.in-Some.ensures) in
    record {
      reads = c.loop-operator.invariant.reads
          ∙ loop_read (further_operation c.args.depth (c.args.tier - 1)) c.loop-operator.left c.loop-operator.cursor
          (good_operation c.args.depth (c.args.tier - 1) (omega arith)) (may_go_on c.args.depth c.loop-operator.left (omega arith))
          c.in_ok-left-2.left c.operation.new.cursor c.in_ok-left-2.ensures.answers.is
          (seen_some (c.args.tier - 1) c.loop-operator.cursor c.in-Some.operator h);
      low = c.in_ok-left-2.ensures.low;
    }

pub binary-returns-clause-answers : goal.binary-returns-clause-answers
binary-returns-clause-answers t c =
    let h = at_tier c.args.tier (suc (c.args.tier - 1)) c.loop-operator.cursor _ (omega arith)
    (sym c.tier_operator.ensures ∙ c.in_default.is) in
    record {
      is = c.loop-operator.invariant.reads ∙ loop_end (further_operation c.args.depth (c.args.tier - 1)) c.loop-operator.left
          c.loop-operator.cursor (seen_none (c.args.tier - 1) c.loop-operator.cursor h);
    }

pub arguments-returns-in_err-first-clause-answers : goal.arguments-returns-in_err-first-clause-answers
arguments-returns-in_err-first-clause-answers t c =
    answers_on _ c.from_residual.ensures.1
    (answers_by (arguments_is c.args.depth c.args.cursor.now c.requires) (answers_stop _ (answers_stop _ c.in_err-first.ensures.answers)))

pub arguments-loop-alloc-init : goal.arguments-loop-alloc-init
arguments-loop-alloc-init t c = record {
  reads = arguments_is c.args.depth c.args.cursor.now c.requires
      ∙ ap (λ o. and_then (and_then o (λ a us. Read (one_argument a) us)) (left (further_argument c.args.depth)))
      c.in_ok-first.ensures.answers.is
      ∙ ap (λ a. left (further_argument c.args.depth) a c.assignment.new.cursor) (sym c.in_ok-read.ensures);
  low = omega (arith, ap (λ a. a.height) c.in_ok-read.ensures, c.in_ok-first.ensures.low);
}

pub arguments-returns-in_err-next-clause-answers : goal.arguments-returns-in_err-next-clause-answers
arguments-returns-in_err-next-clause-answers t c =
    let seen = sym c.sees.ensures ∙ c.loop-alloc-test.true in
    answers_on _ c.from_residual-in_err-next.ensures.1
    (answers_by c.loop-alloc.invariant.reads (loop_stops (further_argument c.args.depth) c.loop-alloc.read c.loop-alloc.cursor seen refl
    (answers_by (further_is c.args.depth c.loop-alloc.read c.loop-alloc.cursor c.requires seen)
    (answers_stop _ (passed (assignment (c.args.depth - 1) (under (c.args.depth - 1))) c.skip.ensures c.in_err-next.ensures.answers)))))

pub arguments-loop-alloc-smaller : goal.arguments-loop-alloc-smaller
arguments-loop-alloc-smaller t c =
    let seen = sym c.sees.ensures ∙ c.loop-alloc-test.true in
    let read = passed (assignment (c.args.depth - 1) (under (c.args.depth - 1))) c.skip.ensures c.in_ok-next.ensures.answers in
    loop_takes (further_argument c.args.depth) c.loop-alloc.read c.loop-alloc.cursor (good_further c.args.depth c.requires)
    (record { fits = omega (arith, c.loop-alloc.invariant.low); has_room = refl }) (more_arguments c.loop-alloc.read c.in_ok-next.next)
    c.assignment-in-loop-alloc.new.cursor (further_read c.args.depth c.loop-alloc.read c.in_ok-next.next c.loop-alloc.cursor
    c.assignment-in-loop-alloc.new.cursor c.requires seen read.is)

pub arguments-loop-alloc-preserved : goal.arguments-loop-alloc-preserved
arguments-loop-alloc-preserved t c =
    let seen = sym c.sees.ensures ∙ c.loop-alloc-test.true in
    let read = passed (assignment (c.args.depth - 1) (under (c.args.depth - 1))) c.skip.ensures c.in_ok-next.ensures.answers in
    record {
      reads = c.loop-alloc.invariant.reads
          ∙ loop_read (further_argument c.args.depth) c.loop-alloc.read c.loop-alloc.cursor (good_further c.args.depth c.requires)
          (record { fits = omega (arith, c.loop-alloc.invariant.low); has_room = refl })
          (more_arguments c.loop-alloc.read c.in_ok-next.next)
          c.assignment-in-loop-alloc.new.cursor (further_read c.args.depth c.loop-alloc.read c.in_ok-next.next c.loop-alloc.cursor
          c.assignment-in-loop-alloc.new.cursor c.requires seen read.is) seen
          ∙ ap (λ a. left (further_argument c.args.depth) a c.assignment-in-loop-alloc.new.cursor) (sym c.in_ok-read-2.ensures);
      low = omega (arith, ap (λ a. a.height) c.in_ok-read-2.ensures, c.in_ok-next.ensures.low, c.loop-alloc.invariant.low);
    }

pub arguments-returns-clause-answers : goal.arguments-returns-clause-answers
arguments-returns-clause-answers t c = record {
  is = c.loop-alloc.invariant.reads ∙ loop_end (further_argument c.args.depth) c.loop-alloc.read c.loop-alloc.cursor
      (sym c.sees.ensures ∙ c.loop-alloc-test.false);
}

pub called-returns-in_err-right-clause-answers : goal.called-returns-in_err-right-clause-answers
called-returns-in_err-right-clause-answers t c =
    answers_on _ c.from_residual.ensures.1
    (answers_by (called_empty c.args.depth c.args.cursor.now (sym c.if-sees.ensures)) (answers_stop _ c.in_err-right.ensures))

pub called-returns-then-sees-clause-answers : goal.called-returns-then-sees-clause-answers
called-returns-then-sees-clause-answers t c =
    answers_made (ap (λ a. suffix.Call a c.in_ok-right.right) c.none.ensures)
    (answers_by (called_empty c.args.depth c.args.cursor.now (sym c.if-sees.ensures))
    (answers_next _ c.in_ok-right.ensures (record { is = refl })))

pub called-returns-in_err-read-clause-answers : goal.called-returns-in_err-read-clause-answers
called-returns-in_err-read-clause-answers t c =
    answers_on _ c.from_residual-in_err-read.ensures.1
    (answers_by (called_full c.args.depth c.args.cursor.now (sym c.if-sees.ensures))
    (answers_stop _ (answers_stop _ c.in_err-read.ensures.answers)))

pub called-returns-in_err-right-2-clause-answers : goal.called-returns-in_err-right-2-clause-answers
called-returns-in_err-right-2-clause-answers t c =
    answers_on _ c.from_residual-in_err-right-2.ensures.1
    (answers_by (called_full c.args.depth c.args.cursor.now (sym c.if-sees.ensures))
    (answers_stop _ (answers_next _ c.in_ok-read.ensures.answers (answers_stop _ c.in_err-right-2.ensures))))

pub called-returns-clause-answers : goal.called-returns-clause-answers
called-returns-clause-answers t c =
    answers_by (called_full c.args.depth c.args.cursor.now (sym c.if-sees.ensures))
    (answers_next _ (answers_next _ c.in_ok-read.ensures.answers (answers_next _ c.in_ok-right-2.ensures (record { is = refl })))
    (record { is = refl }))

pub behind-returns-in_err-inner-clause-answers : goal.behind-returns-in_err-inner-clause-answers
behind-returns-in_err-inner-clause-answers t c =
    answers_on _ c.from_residual.ensures.1
    (answers_by (behind_index c.args.depth c.args.cursor.now (sym c.if-sees.ensures)
    ∙ indexed_is c.args.depth (rest_of c.args.cursor.now) c.requires)
    (answers_stop _ (answers_stop _ (passed (assignment (c.args.depth - 1) (under (c.args.depth - 1))) c.skip.ensures
    c.in_err-inner.ensures.answers))))

pub behind-returns-in_err-right-clause-answers : goal.behind-returns-in_err-right-clause-answers
behind-returns-in_err-right-clause-answers t c =
    answers_on _ c.from_residual-in_err-right.ensures.1
    (answers_by (behind_index c.args.depth c.args.cursor.now (sym c.if-sees.ensures)
    ∙ indexed_is c.args.depth (rest_of c.args.cursor.now) c.requires)
    (answers_stop _ (answers_next _ (passed (assignment (c.args.depth - 1) (under (c.args.depth - 1))) c.skip.ensures
    c.in_ok-inner.ensures.answers) (answers_stop _ c.in_err-right.ensures))))

pub behind-returns-then-sees-clause-answers : goal.behind-returns-then-sees-clause-answers
behind-returns-then-sees-clause-answers t c =
    answers_by (behind_index c.args.depth c.args.cursor.now (sym c.if-sees.ensures)
    ∙ indexed_is c.args.depth (rest_of c.args.cursor.now) c.requires)
    (answers_next _ (answers_next _ (passed (assignment (c.args.depth - 1) (under (c.args.depth - 1))) c.skip.ensures
    c.in_ok-inner.ensures.answers) (answers_next _ c.in_ok-right.ensures (record { is = refl }))) (record { is = refl }))

pub behind-returns-then-sees-2-clause-answers : goal.behind-returns-then-sees-2-clause-answers
behind-returns-then-sees-2-clause-answers t c =
    answers_by (behind_call c.args.depth c.args.cursor.now (sym c.if-sees.ensures) (sym c.if-sees-2.ensures))
    (passed (called c.args.depth (under c.args.depth)) c.skip-then-sees-2.ensures c.called.ensures.answers)

pub behind-returns-clause-answers : goal.behind-returns-clause-answers
behind-returns-clause-answers t c =
    answers_by (behind_short c.args.depth c.args.cursor.now (sym c.if-sees.ensures) (sym c.if-sees-2.ensures))
    c.short_suffix.ensures.answers

pub suffixes-loop-alloc-init : goal.suffixes-loop-alloc-init
suffixes-loop-alloc-init t c = record { reads = refl; low = c.requires }

pub suffixes-returns-then-read-depth-clause-answers : goal.suffixes-returns-then-read-depth-clause-answers
suffixes-returns-then-read-depth-clause-answers t c = record {
  is = c.loop-alloc.invariant.reads ∙ loop_deep (further_suffix c.args.depth) c.loop-alloc.read c.loop-alloc.cursor
      (suffix_seen c.loop-alloc.cursor true (sym c.sees_suffix.ensures ∙ c.loop-alloc-test.true))
      (not_below c.loop-alloc.read.height c.args.depth (omega arith));
}

pub suffixes-returns-in_err-suffix-clause-answers : goal.suffixes-returns-in_err-suffix-clause-answers
suffixes-returns-in_err-suffix-clause-answers t c =
    answers_on _ c.from_residual.ensures.1
    (answers_by c.loop-alloc.invariant.reads (loop_stops (further_suffix c.args.depth) c.loop-alloc.read c.loop-alloc.cursor
    (suffix_seen c.loop-alloc.cursor true (sym c.sees_suffix.ensures ∙ c.loop-alloc-test.true))
    (is_below c.loop-alloc.read.height c.args.depth (omega arith))
    (answers_by (apply_is c.args.depth c.loop-alloc.read c.loop-alloc.cursor) (answers_stop _ c.in_err-suffix.ensures.answers))))

pub suffixes-loop-alloc-smaller : goal.suffixes-loop-alloc-smaller
suffixes-loop-alloc-smaller t c = loop_takes (further_suffix c.args.depth) c.loop-alloc.read c.loop-alloc.cursor (good_apply c.args.depth)
    (may_go_on c.args.depth c.loop-alloc.read (omega arith)) (applied c.loop-alloc.read c.in_ok-suffix.suffix) c.behind.new.cursor
    (applied_read c.args.depth c.loop-alloc.read c.in_ok-suffix.suffix c.loop-alloc.cursor c.behind.new.cursor
    c.in_ok-suffix.ensures.answers.is)

pub suffixes-loop-alloc-preserved : goal.suffixes-loop-alloc-preserved
suffixes-loop-alloc-preserved t c = record {
  reads = c.loop-alloc.invariant.reads
      ∙ loop_read (further_suffix c.args.depth) c.loop-alloc.read c.loop-alloc.cursor (good_apply c.args.depth)
      (may_go_on c.args.depth c.loop-alloc.read (omega arith)) (applied c.loop-alloc.read c.in_ok-suffix.suffix) c.behind.new.cursor
      (applied_read c.args.depth c.loop-alloc.read c.in_ok-suffix.suffix c.loop-alloc.cursor c.behind.new.cursor
      c.in_ok-suffix.ensures.answers.is)
      (suffix_seen c.loop-alloc.cursor true (sym c.sees_suffix.ensures ∙ c.loop-alloc-test.true))
      ∙ ap (λ a. more_suffixes c.args.depth a c.behind.new.cursor) (sym c.in_ok-read.ensures);
  low = omega (arith, ap (λ a. a.height) c.in_ok-read.ensures, c.in_ok-suffix.ensures.low);
}

pub suffixes-returns-clause-answers : goal.suffixes-returns-clause-answers
suffixes-returns-clause-answers t c = record {
  is = c.loop-alloc.invariant.reads ∙ loop_end (further_suffix c.args.depth) c.loop-alloc.read c.loop-alloc.cursor
      (suffix_seen c.loop-alloc.cursor false (sym c.sees_suffix.ensures ∙ c.loop-alloc-test.false));
}

pub stepped-returns-in_err-place-clause-answers : goal.stepped-returns-in_err-place-clause-answers
stepped-returns-in_err-place-clause-answers t c = answers_on _ c.from_residual.ensures.1
    (any_taken step_word c.args.cursor.now c.args.step c.requires.next c.in_err-place.ensures)

pub stepped-returns-in_err-operand-clause-answers : goal.stepped-returns-in_err-operand-clause-answers
stepped-returns-in_err-operand-clause-answers t c =
    answers_on _ c.from_residual-in_err-operand.ensures.1
    (answers_by (stepped_is c.args.depth c.args.cursor.now c.take.new.self (c.args.step, c.in_ok-place.place) c.requires.room
    (placed_read step_word c.args.cursor.now c.take.new.self c.args.step c.in_ok-place.place c.requires.next c.in_ok-place.ensures.is))
    (answers_stop _ c.in_err-operand.ensures.answers))

pub stepped-returns-clause-answers : goal.stepped-returns-clause-answers
stepped-returns-clause-answers t c =
    answers_made c.in_ok-step.ensures
    (answers_by (stepped_is c.args.depth c.args.cursor.now c.take.new.self (c.args.step, c.in_ok-place.place) c.requires.room
    (placed_read step_word c.args.cursor.now c.take.new.self c.args.step c.in_ok-place.place c.requires.next c.in_ok-place.ensures.is))
    (answers_next _ c.in_ok-operand.ensures.answers (record { is = refl })))

pub operated-returns-in_err-place-clause-answers : goal.operated-returns-in_err-place-clause-answers
operated-returns-in_err-place-clause-answers t c = answers_on _ c.from_residual.ensures.1
    (any_taken unary_word c.args.cursor.now c.args.operator c.requires.next c.in_err-place.ensures)

pub operated-returns-in_err-operand-clause-answers : goal.operated-returns-in_err-operand-clause-answers
operated-returns-in_err-operand-clause-answers t c =
    answers_on _ c.from_residual-in_err-operand.ensures.1
    (answers_by (operated_is c.args.depth c.args.cursor.now c.take.new.self (c.args.operator, c.in_ok-place.place) c.requires.room
    (placed_read unary_word c.args.cursor.now c.take.new.self c.args.operator c.in_ok-place.place c.requires.next
    c.in_ok-place.ensures.is))
    (answers_stop _ c.in_err-operand.ensures.answers))

pub operated-returns-clause-answers : goal.operated-returns-clause-answers
operated-returns-clause-answers t c =
    answers_made c.in_ok-unary.ensures
    (answers_by (operated_is c.args.depth c.args.cursor.now c.take.new.self (c.args.operator, c.in_ok-place.place) c.requires.room
    (placed_read unary_word c.args.cursor.now c.take.new.self c.args.operator c.in_ok-place.place c.requires.next
    c.in_ok-place.ensures.is))
    (answers_next _ c.in_ok-operand.ensures.answers (record { is = refl })))

pub size_opened-returns-then-not-begins_expression-clause-answers : goal.size_opened-returns-then-not-begins_expression-clause-answers
size_opened-returns-then-not-begins_expression-clause-answers t c =
    answers_by (size_opened_name c.args.depth c.args.place c.args.left c.args.cursor.now (sym c.if-not-begins_expression.ensures))
    c.size_name.ensures.answers

pub size_opened-returns-then-depth-le1-clause-answers : goal.size_opened-returns-then-depth-le1-clause-answers
size_opened-returns-then-depth-le1-clause-answers t c =
    record {
      is = size_opened_deep c.args.depth c.args.place c.args.left c.args.cursor.now (sym c.if-not-begins_expression.ensures)
          (omega arith);
    }

pub size_opened-returns-in_err-operand-clause-answers : goal.size_opened-returns-in_err-operand-clause-answers
size_opened-returns-in_err-operand-clause-answers t c =
    answers_on _ c.from_residual.ensures.1
    (answers_by (size_opened_group c.args.depth c.args.place c.args.left c.args.cursor.now (sym c.if-not-begins_expression.ensures)
    (omega arith)) (answers_stop _ c.in_err-operand.ensures.answers))

pub size_opened-returns-clause-answers : goal.size_opened-returns-clause-answers
size_opened-returns-clause-answers t c =
    answers_made c.in_ok-size_of.ensures
    (answers_by (size_opened_group c.args.depth c.args.place c.args.left c.args.cursor.now (sym c.if-not-begins_expression.ensures)
    (omega arith))
    (answers_next _ c.in_ok-operand.ensures.answers (record { is = refl })))

pub sized-returns-in_err-place-clause-answers : goal.sized-returns-in_err-place-clause-answers
sized-returns-in_err-place-clause-answers t c =
    answers_on _ c.from_residual.ensures.1 (answers_by (sized_is c.args.depth c.args.cursor.now)
    (answers_stop _ (answers_stop _ c.in_err-place.ensures)))

pub sized-returns-then-depth-eq0-clause-answers : goal.sized-returns-then-depth-eq0-clause-answers
sized-returns-then-depth-eq0-clause-answers t c =
    answers_by (sized_is c.args.depth c.args.cursor.now)
    (answers_behind (read.key key.Sizeof) (size_rest c.args.depth (under c.args.depth)) _ c.in_ok-place.ensures
    (record { is = size_rest_deep c.args.depth c.in_ok-place.place _ (sym c.if-begins_bare.ensures) (omega arith) }))

pub sized-returns-in_err-operand-clause-answers : goal.sized-returns-in_err-operand-clause-answers
sized-returns-in_err-operand-clause-answers t c =
    answers_on _ c.from_residual-in_err-operand.ensures.1
    (answers_by (sized_is c.args.depth c.args.cursor.now)
    (answers_behind (read.key key.Sizeof) (size_rest c.args.depth (under c.args.depth)) _ c.in_ok-place.ensures
    (answers_by (size_rest_bare c.args.depth c.in_ok-place.place _ (sym c.if-begins_bare.ensures) (omega arith))
    (answers_stop _ c.in_err-operand.ensures.answers))))

pub sized-returns-then-begins_bare-clause-answers : goal.sized-returns-then-begins_bare-clause-answers
sized-returns-then-begins_bare-clause-answers t c =
    answers_made c.in_ok-size_of.ensures
    (answers_by (sized_is c.args.depth c.args.cursor.now)
    (answers_behind (read.key key.Sizeof) (size_rest c.args.depth (under c.args.depth)) _ c.in_ok-place.ensures
    (answers_by (size_rest_bare c.args.depth c.in_ok-place.place _ (sym c.if-begins_bare.ensures) (omega arith))
    (answers_next _ c.in_ok-operand.ensures.answers (record { is = refl })))))

pub sized-returns-in_err-left-clause-answers : goal.sized-returns-in_err-left-clause-answers
sized-returns-in_err-left-clause-answers t c =
    answers_on _ c.from_residual-in_err-left.ensures.1
    (answers_by (sized_is c.args.depth c.args.cursor.now)
    (answers_behind (read.key key.Sizeof) (size_rest c.args.depth (under c.args.depth)) _ c.in_ok-place.ensures
    (answers_by (size_rest_open c.args.depth c.in_ok-place.place _ (sym c.if-begins_bare.ensures))
    (answers_stop _ (answers_stop _ c.in_err-left.ensures)))))

pub sized-returns-clause-answers : goal.sized-returns-clause-answers
sized-returns-clause-answers t c =
    answers_by (sized_is c.args.depth c.args.cursor.now)
    (answers_behind (read.key key.Sizeof) (size_rest c.args.depth (under c.args.depth)) _ c.in_ok-place.ensures
    (answers_by (size_rest_open c.args.depth c.in_ok-place.place _ (sym c.if-begins_bare.ensures))
    (answers_behind (punct mark.LeftParen) (size_opened c.args.depth (under c.args.depth) c.in_ok-place.place) _ c.in_ok-left.ensures
    c.size_opened.ensures.answers)))

pub bare-returns-then-depth-eq0-clause-answers : goal.bare-returns-then-depth-eq0-clause-answers
bare-returns-then-depth-eq0-clause-answers t c =
    record { is = bare_step_deep c.args.depth c.args.cursor.now c.in-Some.step (sym c.in-Some.ensures) (omega arith) }

pub bare-returns-in-Some-clause-answers : goal.bare-returns-in-Some-clause-answers
bare-returns-in-Some-clause-answers t c =
    answers_by (bare_step c.args.depth c.args.cursor.now c.in-Some.step (sym c.in-Some.ensures) (omega arith)) c.stepped.ensures.answers

pub bare-returns-then-depth-eq0-2-clause-answers : goal.bare-returns-then-depth-eq0-2-clause-answers
bare-returns-then-depth-eq0-2-clause-answers t c =
    record {
      is = bare_operated_deep c.args.depth c.args.cursor.now c.in-Some-next_unary.operator
          (sym c.next_step.ensures ∙ c.in_default.is) (sym c.in-Some-next_unary.ensures) (omega arith);
    }

pub bare-returns-in-Some-next_unary-clause-answers : goal.bare-returns-in-Some-next_unary-clause-answers
bare-returns-in-Some-next_unary-clause-answers t c =
    answers_by (bare_operated c.args.depth c.args.cursor.now c.in-Some-next_unary.operator (sym c.next_step.ensures ∙ c.in_default.is)
    (sym c.in-Some-next_unary.ensures) (omega arith)) c.operated.ensures.answers

pub bare-returns-then-sees_keyword-clause-answers : goal.bare-returns-then-sees_keyword-clause-answers
bare-returns-then-sees_keyword-clause-answers t c =
    answers_by (bare_sized c.args.depth c.args.cursor.now (sym c.next_step.ensures ∙ c.in_default.is)
    (sym c.next_unary.ensures ∙ c.in_default-next_unary.is) (sym c.if-sees_keyword.ensures)) c.sized.ensures.answers

pub bare-returns-in_err-read-clause-answers : goal.bare-returns-in_err-read-clause-answers
bare-returns-in_err-read-clause-answers t c =
    answers_on _ c.from_residual.ensures.1
    (answers_by (bare_worded c.args.depth c.args.cursor.now (sym c.next_step.ensures ∙ c.in_default.is)
    (sym c.next_unary.ensures ∙ c.in_default-next_unary.is) (sym c.if-sees_keyword.ensures))
    (answers_stop _ c.in_err-read.ensures.answers))

pub bare-returns-clause-answers : goal.bare-returns-clause-answers
bare-returns-clause-answers t c =
    answers_by (bare_worded c.args.depth c.args.cursor.now (sym c.next_step.ensures ∙ c.in_default.is)
    (sym c.next_unary.ensures ∙ c.in_default-next_unary.is) (sym c.if-sees_keyword.ensures))
    (answers_next _ c.in_ok-read.ensures.answers c.suffixes.ensures.answers)

pub unary-returns-then-not-sees-clause-answers : goal.unary-returns-then-not-sees-clause-answers
unary-returns-then-not-sees-clause-answers t c = answers_by (unary_bare c.args.depth c.args.cursor.now (sym c.if-not-sees.ensures))
    c.bare.ensures.answers

pub unary-returns-then-depth-eq0-clause-answers : goal.unary-returns-then-depth-eq0-clause-answers
unary-returns-then-depth-eq0-clause-answers t c = record {
  is = unary_deep c.args.depth c.args.cursor.now (sym c.if-not-sees.ensures)
      (omega arith);
}

pub unary-returns-in_err-left-clause-answers : goal.unary-returns-in_err-left-clause-answers
unary-returns-in_err-left-clause-answers t c =
    answers_on _ c.from_residual.ensures.1
    (answers_by (unary_group c.args.depth c.args.cursor.now (sym c.if-not-sees.ensures) (omega arith))
    (answers_stop _ (answers_stop _ c.in_err-left.ensures)))

pub unary-returns-clause-answers : goal.unary-returns-clause-answers
unary-returns-clause-answers t c =
    answers_by (unary_group c.args.depth c.args.cursor.now (sym c.if-not-sees.ensures) (omega arith))
    (answers_behind (punct mark.LeftParen) (grouped c.args.depth (under c.args.depth)) _ c.in_ok-left.ensures c.grouped.ensures.answers)

pub casted-returns-in_err-read-clause-answers : goal.casted-returns-in_err-read-clause-answers
casted-returns-in_err-read-clause-answers t c =
    answers_on _ c.from_residual.ensures.1
    (answers_by (casted_is c.args.depth c.args.left c.args.cursor.now c.requires)
    (answers_stop _ (answers_stop _ c.in_err-read.ensures.answers)))

pub casted-returns-in_err-right-clause-answers : goal.casted-returns-in_err-right-clause-answers
casted-returns-in_err-right-clause-answers t c =
    answers_on _ c.from_residual-in_err-right.ensures.1
    (answers_by (casted_is c.args.depth c.args.left c.args.cursor.now c.requires)
    (answers_stop _ (answers_next _ c.in_ok-read.ensures.answers (answers_stop _ (answers_stop _ c.in_err-right.ensures)))))

pub casted-returns-in_err-inner-clause-answers : goal.casted-returns-in_err-inner-clause-answers
casted-returns-in_err-inner-clause-answers t c =
    answers_on _ c.from_residual-in_err-inner.ensures.1
    (answers_by (casted_is c.args.depth c.args.left c.args.cursor.now c.requires)
    (answers_stop _ (answers_next _ c.in_ok-read.ensures.answers
    (answers_stop _ (answers_next _ c.in_ok-right.ensures (answers_stop _ c.in_err-inner.ensures.answers))))))

pub casted-returns-clause-answers : goal.casted-returns-clause-answers
casted-returns-clause-answers t c =
    answers_made c.in_ok-cast.ensures
    (answers_by (casted_is c.args.depth c.args.left c.args.cursor.now c.requires)
    (answers_next _
    (answers_next _ c.in_ok-read.ensures.answers (answers_next _
    (answers_next _ c.in_ok-right.ensures (answers_next _ c.in_ok-inner.ensures.answers (record { is = refl })))
    (record { is = refl })))
    (record { is = refl })))

pub operand-returns-then-not-sees-clause-answers : goal.operand-returns-then-not-sees-clause-answers
operand-returns-then-not-sees-clause-answers t c = answers_by
    (operand_bare c.args.depth c.args.cursor.now (sym c.if-not-sees.ensures)) c.bare.ensures.answers

pub operand-returns-then-depth-eq0-clause-answers : goal.operand-returns-then-depth-eq0-clause-answers
operand-returns-then-depth-eq0-clause-answers t c = record {
  is = operand_deep c.args.depth c.args.cursor.now (sym c.if-not-sees.ensures)
      (omega arith);
}

pub operand-returns-in_err-left-clause-answers : goal.operand-returns-in_err-left-clause-answers
operand-returns-in_err-left-clause-answers t c =
    answers_on _ c.from_residual.ensures.1
    (answers_by (operand_open c.args.depth c.args.cursor.now (sym c.if-not-sees.ensures) (omega arith))
    (answers_stop _ (answers_stop _ c.in_err-left.ensures)))

pub operand-returns-then-begins_type-clause-answers : goal.operand-returns-then-begins_type-clause-answers
operand-returns-then-begins_type-clause-answers t c =
    answers_by (operand_open c.args.depth c.args.cursor.now (sym c.if-not-sees.ensures) (omega arith))
    (answers_behind (punct mark.LeftParen) (cast_or_group c.args.depth (under c.args.depth)) _ c.in_ok-left.ensures
    (answers_by (open_type c.args.depth c.in_ok-left.left _ (sym c.if-begins_type.ensures)) c.casted.ensures.answers))

pub operand-returns-clause-answers : goal.operand-returns-clause-answers
operand-returns-clause-answers t c =
    answers_by (operand_open c.args.depth c.args.cursor.now (sym c.if-not-sees.ensures) (omega arith))
    (answers_behind (punct mark.LeftParen) (cast_or_group c.args.depth (under c.args.depth)) _ c.in_ok-left.ensures
    (answers_by (open_group c.args.depth c.in_ok-left.left _ (sym c.if-begins_type.ensures)) c.grouped.ensures.answers))

pub branches-returns-in_err-chosen-clause-answers : goal.branches-returns-in_err-chosen-clause-answers
branches-returns-in_err-chosen-clause-answers t c =
    answers_on _ c.from_residual.ensures.1 (answers_by (branches_is c.args.depth c.args.cursor.now)
    (answers_stop _ c.in_err-chosen.ensures.answers))

pub branches-returns-in_err-colon-clause-answers : goal.branches-returns-in_err-colon-clause-answers
branches-returns-in_err-colon-clause-answers t c =
    answers_on _ c.from_residual-in_err-colon.ensures.1
    (answers_by (branches_is c.args.depth c.args.cursor.now)
    (answers_next _ c.in_ok-chosen.ensures.answers (answers_stop _ (answers_stop _ c.in_err-colon.ensures))))

pub branches-returns-in_err-other-clause-answers : goal.branches-returns-in_err-other-clause-answers
branches-returns-in_err-other-clause-answers t c =
    answers_on _ c.from_residual-in_err-other.ensures.1
    (answers_by (branches_is c.args.depth c.args.cursor.now)
    (answers_next _ c.in_ok-chosen.ensures.answers (answers_stop _
    (answers_next _ c.in_ok-colon.ensures (answers_stop _ c.in_err-other.ensures.answers)))))

pub branches-returns-clause-answers : goal.branches-returns-clause-answers
branches-returns-clause-answers t c =
    answers_by (branches_is c.args.depth c.args.cursor.now)
    (answers_next _ c.in_ok-chosen.ensures.answers (answers_next _
    (answers_next _ c.in_ok-colon.ensures (answers_next _ c.in_ok-other.ensures.answers (record { is = refl })))
    (record { is = refl })))

pub conditional-returns-in_err-condition-clause-answers : goal.conditional-returns-in_err-condition-clause-answers
conditional-returns-in_err-condition-clause-answers t c =
    answers_on _ c.from_residual.ensures.1 (answers_by (conditional_is c.args.depth c.args.cursor.now)
    (answers_stop _ c.in_err-condition.ensures.answers))

pub conditional-returns-then-not-sees-clause-answers : goal.conditional-returns-then-not-sees-clause-answers
conditional-returns-then-not-sees-clause-answers t c =
    answers_by (conditional_is c.args.depth c.args.cursor.now)
    (answers_next _ c.in_ok-condition.ensures.answers (record {
      is =
          no_choice c.args.depth c.in_ok-condition.condition c.binary.new.cursor (sym c.if-not-sees.ensures);
    }))

pub conditional-returns-then-condition-depth-clause-answers : goal.conditional-returns-then-condition-depth-clause-answers
conditional-returns-then-condition-depth-clause-answers t c =
    answers_by (conditional_is c.args.depth c.args.cursor.now)
    (answers_next _ c.in_ok-condition.ensures.answers (record {
      is =
          choice_deep c.args.depth c.in_ok-condition.condition c.binary.new.cursor (sym c.if-not-sees.ensures) (omega arith);
    }))

pub conditional-returns-in_err-parts-clause-answers : goal.conditional-returns-in_err-parts-clause-answers
conditional-returns-in_err-parts-clause-answers t c =
    answers_on _ c.from_residual-in_err-parts.ensures.1
    (answers_by (conditional_is c.args.depth c.args.cursor.now)
    (answers_next _ c.in_ok-condition.ensures.answers
    (answers_by (choice_read c.args.depth c.in_ok-condition.condition c.binary.new.cursor (sym c.if-not-sees.ensures) (omega arith)
    ∙ chosen_is c.args.depth c.in_ok-condition.condition c.binary.new.cursor (omega arith) (sym c.if-not-sees.ensures))
    (answers_stop _ (passed (branches_of c.args.depth) c.skip.ensures c.in_err-parts.ensures.answers)))))

pub conditional-returns-clause-answers : goal.conditional-returns-clause-answers
conditional-returns-clause-answers t c =
    answers_made c.in_ok-choice.ensures
    (answers_by (conditional_is c.args.depth c.args.cursor.now)
    (answers_next _ c.in_ok-condition.ensures.answers
    (answers_by (choice_read c.args.depth c.in_ok-condition.condition c.binary.new.cursor (sym c.if-not-sees.ensures) (omega arith)
    ∙ chosen_is c.args.depth c.in_ok-condition.condition c.binary.new.cursor (omega arith) (sym c.if-not-sees.ensures))
    (answers_next _ (passed (branches_of c.args.depth) c.skip.ensures c.in_ok-parts.ensures.answers) (record { is = refl })))))

pub assignment-returns-in_err-left-clause-answers : goal.assignment-returns-in_err-left-clause-answers
assignment-returns-in_err-left-clause-answers t c =
    answers_on _ c.from_residual.ensures.1 (answers_by (assignment_is c.args.depth c.args.cursor.now)
    (answers_stop _ c.in_err-left.ensures.answers))

pub assignment-returns-in_default-clause-answers : goal.assignment-returns-in_default-clause-answers
assignment-returns-in_default-clause-answers t c =
    answers_by (assignment_is c.args.depth c.args.cursor.now)
    (answers_next _ c.in_ok-left.ensures.answers (record {
      is =
          no_assign c.args.depth c.in_ok-left.left c.conditional.new.cursor (sym c.next_assign.ensures ∙ c.in_default.is);
    }))

pub assignment-returns-then-not-is_assignable-clause-answers : goal.assignment-returns-then-not-is_assignable-clause-answers
assignment-returns-then-not-is_assignable-clause-answers t c =
    answers_by (assignment_is c.args.depth c.args.cursor.now)
    (answers_next _ c.in_ok-left.ensures.answers (record {
      is =
          assign_wrong c.args.depth c.in_ok-left.left c.conditional.new.cursor c.in-Some.operator (sym c.in-Some.ensures)
          (sym c.if-not-is_assignable.ensures);
    }))

pub assignment-returns-then-left-depth-clause-answers : goal.assignment-returns-then-left-depth-clause-answers
assignment-returns-then-left-depth-clause-answers t c =
    answers_by (assignment_is c.args.depth c.args.cursor.now)
    (answers_next _ c.in_ok-left.ensures.answers (record {
      is =
          assign_deep c.args.depth c.in_ok-left.left c.conditional.new.cursor c.in-Some.operator (sym c.in-Some.ensures)
          (sym c.if-not-is_assignable.ensures) (omega arith);
    }))

pub assignment-returns-in_err-right-clause-answers : goal.assignment-returns-in_err-right-clause-answers
assignment-returns-in_err-right-clause-answers t c =
    answers_on _ c.from_residual-in_err-right.ensures.1
    (answers_by (assignment_is c.args.depth c.args.cursor.now)
    (answers_next _ c.in_ok-left.ensures.answers
    (answers_by (assign_read c.args.depth c.in_ok-left.left c.conditional.new.cursor c.in-Some.operator (sym c.in-Some.ensures)
    (sym c.if-not-is_assignable.ensures) (omega arith)
    ∙ assigned_is c.args.depth c.in_ok-left.left c.conditional.new.cursor c.in-Some.operator (omega arith) (sym c.in-Some.ensures))
    (answers_stop _ (passed (assignment (c.args.depth - 1) (under (c.args.depth - 1))) c.skip.ensures c.in_err-right.ensures.answers)))))

pub assignment-returns-clause-answers : goal.assignment-returns-clause-answers
assignment-returns-clause-answers t c =
    answers_made c.in_ok-assign.ensures
    (answers_by (assignment_is c.args.depth c.args.cursor.now)
    (answers_next _ c.in_ok-left.ensures.answers
    (answers_by (assign_read c.args.depth c.in_ok-left.left c.conditional.new.cursor c.in-Some.operator (sym c.in-Some.ensures)
    (sym c.if-not-is_assignable.ensures) (omega arith)
    ∙ assigned_is c.args.depth c.in_ok-left.left c.conditional.new.cursor c.in-Some.operator (omega arith) (sym c.in-Some.ensures))
    (answers_next _ (passed (assignment (c.args.depth - 1) (under (c.args.depth - 1))) c.skip.ensures c.in_ok-right.ensures.answers)
    (record { is = refl })))))
