use Rattle.std.proofs.Common.{◌≡◌, ap, sym, ◌∙◌, subst, map, Some, arith}
use Rattle.block_meaning.specs.Statements.{local_of}
use Rattle.frame_layout.specs.StatementNeeds.{item_need}
use Rattle.gen_base.specs.Code.{Appends}
use Rattle.gen_stmt.specs.Loops.{for_code}
use Rattle.gen_stmt.specs.Scopes.{range_of, enter}
use Rattle.gen_stmt.specs.Statements.{coded_item, for_parts, statement_code, maybe_value, condition}
use Rattle.gen_stmt.proofs.Appended.{scope_appended, turns_appended}
use Rattle.gen_stmt.proofs.Constructs.{block_appended, alone_appended, either_appended, for_appended}
use Rattle.gen_stmt.proofs.Turns.{within_sum, room, items_turn}
use Rattle.gen_stmt.proofs.Weight.{item_weight}
use Rattle.gen_stmt.proofs.+statement.Goals as goal

pub for_loop::for_loop-returns : goal.for_loop::for_loop-returns
for_loop::for_loop-returns t c =
    let s = c.args.unit.now.structs in
    let f = c.args.frame.now in
    let ds = c.args.decls.now in
    let ks = map local_of ds in
    let range = c.in-Some.range in
    let same : c.as_slice.result.now ≡ ks = c.as_slice.ensures.value ∙ c.in_ok-locals.ensures in
    let again : c.as_slice-in-Some.result.now ≡ ks = c.as_slice-in-Some.ensures.value ∙ c.in_ok-locals.ensures in
    let known : range_of ks ≡ Some range = sym (c.in-Some.ensures ∙ ap range_of same) in
    let entered : Appends c.args.code.now (enter f ks) c.push_enter.new.code =
    subst (λ ks. Appends c.args.code.now (enter f ks) c.push_enter.new.code) again c.in_ok-push_enter-in-Some.ensures in
    let loop = for_code (condition s f c.args.condition.now) (maybe_value s f c.args.next.now) (statement_code s f c.args.body.now) in
    scope_appended c.push_leave.result f (λ around. for_parts s f ds c.args.first.now loop) c.args.around range c.args.code.now
    c.push_enter.new.code c.parts-in-Some.new.code c.push_leave.new.code ks known entered c.in_ok-parts-in-Some.ensures
    c.push_leave.ensures

pub loops::turns-returns : goal.loops::turns-returns
loops::turns-returns t c =
    let s = c.args.unit.now.structs in
    let f = c.args.frame.now in
    turns_appended c.push_test.result (condition s f c.args.condition.now) (maybe_value s f c.args.next.now)
    (statement_code s f c.args.body.now) c.args.code.now c.push.new.code c.turn.new.code c.push_test.new.code c.in_ok-label.label
    c.in_ok-label.ensures.number c.in_ok-push.ensures c.in_ok-turn.ensures c.push_test.ensures

pub statements::body-item-requires : goal.statements::body-item-requires
statements::body-item-requires t c =
    let xs = c.args.items.now in
    let i = c.loop-part.part-index in
    let x = c.part-item.result in
    let less = within_sum xs i x c.loop-part-test.true c.part-item.is item_weight in
    (omega arith, (room xs i x c.loop-part-test.true c.part-item.is item_need c.loop-part.invariant.room).0)

pub statements::body-loop-part-preserved : goal.statements::body-loop-part-preserved
statements::body-loop-part-preserved t c =
    let xs = c.args.items.now in
    let i = c.loop-part.part-index in
    let x = c.part-item.result in
    record {
      room = (room xs i x c.loop-part-test.true c.part-item.is item_need c.loop-part.invariant.room).1;
      code =
          items_turn xs i x c.loop-part-test.true c.part-item.is (coded_item c.args.unit.now.structs c.args.frame.now) c.args.around _ _ _
          c.loop-part.invariant.code c.in_ok-item.ensures;
    }

pub statements::statement-returns-in-Block : goal.statements::statement-returns-in-Block
statements::statement-returns-in-Block t c =
    block_appended c.block.result c.args.unit.now.structs c.args.frame.now c.args.stmt.now c.args.around c.args.code.now
    c.block.new.code c.in-Block.items c.as_slice.result.now c.as_slice.ensures c.in-Block.is c.block.ensures

pub statements::statement-returns-in-None : goal.statements::statement-returns-in-None
statements::statement-returns-in-None t c =
    alone_appended c.branch-alloc.result c.args.unit.now.structs c.args.frame.now c.args.stmt.now c.args.around c.args.code.now
    c.branch-alloc.new.code c.in-If.condition c.in-If.then c.get.result.now c.in-If.other c.expression-in-If.new.code c.get.ensures
    c.in-None.is c.in-If.is c.in_ok-expression-in-If.ensures c.branch-alloc.ensures

pub statements::statement-returns-in-Some : goal.statements::statement-returns-in-Some
statements::statement-returns-in-Some t c =
    either_appended c.branches.result c.args.unit.now.structs c.args.frame.now c.args.stmt.now c.args.around c.args.code.now
    c.branches.new.code c.in-If.condition c.in-If.then c.get-in-Some.result.now c.in-Some.other c.get-in-Some-2.result.now c.in-If.other
    c.expression-in-If.new.code c.get-in-Some.ensures c.get-in-Some-2.ensures c.in-Some.is c.in-If.is c.in_ok-expression-in-If.ensures
    c.branches.ensures

pub statements::statement-returns-in-For : goal.statements::statement-returns-in-For
statements::statement-returns-in-For t c =
    for_appended c.for_loop.result c.args.unit.now.structs c.args.frame.now c.args.stmt.now c.args.around c.args.code.now
    c.for_loop.new.code c.in-For.decls c.as_slice-in-For.result.now c.in-For.first c.in-For.condition c.in-For.next c.in-For.body
    c.get-in-For.result.now c.as_slice-in-For.ensures c.get-in-For.ensures c.in-For.is c.for_loop.ensures
