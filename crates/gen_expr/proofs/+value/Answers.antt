use Rattle.std.proofs.Common.{◌≡◌, true, false, sym, ◌∙◌, arith, [], ◌∷◌, length, map, Some, None}
use Rattle.std.proofs.lemmas.Grind.{common_steps}
use Rattle.frame_layout.specs.Needs.{need}
use Rattle.block_meaning.specs.Operators.{int_in}
use Rattle.gen_base.specs.Accesses.{OnStack, Behind, load_scalar}
use Rattle.gen_base.specs.Code.{plain, in_turn}
use Rattle.gen_base.specs.Registers.{left, scratch}
use Rattle.gen_expr.specs.Coded.{read}
use Rattle.gen_expr.specs.Expressions.{coded}
use Rattle.gen_expr.specs.Laws.CodeLaws.{coded_ty}
use Rattle.gen_expr.specs.Laws.WaitingLaws.{first_waits_is}
use Rattle.gen_base.specs.Integers.{on_integer}
use Rattle.gen_base.specs.Laws.Appending.{appended_as}
use Rattle.gen_expr.specs.Nodes.{unary_value}
use Rattle.gen_expr.specs.Laws.ArgumentLaws.{fetch_arguments-is}
use Rattle.gen_expr.proofs.Steps.{compound-behind, read-local, read-place, unary-integer}
use Rattle.gen_expr.proofs.Turns.{keep_turn, room_here, room_left, within_sum}
use Rattle.gen_expr.proofs.Weight.{weight}
use Rattle.gen_expr.proofs.+value.Goals as goal

pub binary::second-returns-then-is_alone : goal.binary::second-returns-then-is_alone
binary::second-returns-then-is_alone t c =
    let alone : (coded c.args.unit.now.structs c.args.frame.now c.args.expr.now).alone ≡ true =
    sym (c.is_alone.ensures c.args.unit.now.structs c.args.frame.now) ∙ c.if-is_alone.true in
    rw alone (grind (arith, common_steps))

pub binary::second-returns : goal.binary::second-returns
binary::second-returns t c =
    let other : (coded c.args.unit.now.structs c.args.frame.now c.args.expr.now).alone ≡ false =
    sym (c.is_alone.ensures c.args.unit.now.structs c.args.frame.now) ∙ c.if-is_alone.false in
    rw other (grind (arith, common_steps))

pub binary::on_values-returns : goal.binary::on_values-returns
binary::on_values-returns t c =
    let s = c.args.unit.now.structs in
    let f = c.args.frame.now in
    let a = coded s f c.args.left.now in
    let b = coded s f c.args.right.now in
    let at = length c.args.code.now.items.items in
    let ty = coded_ty s f c.args.left.now in
    let other = coded_ty s f c.args.right.now in
    rw (first_waits_is left a.value b c.args.to.temp c.args.to.reg at) (grind (arith, common_steps))

pub value::read-returns-in-Some : goal.value::read-returns-in-Some
value::read-returns-in-Some t c =
    let s = c.args.unit.now.structs in
    let e = c.args.object.now in
    let code = coded s c.args.frame.now e in
    let to = c.args.to in
    appended_as _ c.args.code.now c.push_load_local.new.code
    (plain (load_scalar e.ty (OnStack c.in-Some.start) to.reg ∷ [])) (read code to.temp to.reg)
    (read-local code e.ty (coded_ty s c.args.frame.now e) (sym c.is_struct.ensures ∙ c.if-is_struct.false) to.temp to.reg _
    c.in-Some.start (sym (c.in-Some.ensures.is s))) c.push_load_local.ensures

pub value::read-returns-in_ok-place-in-None : goal.value::read-returns-in_ok-place-in-None
value::read-returns-in_ok-place-in-None t c =
    let s = c.args.unit.now.structs in
    let e = c.args.object.now in
    let code = coded s c.args.frame.now e in
    let to = c.args.to in
    appended_as _ c.args.code.now c.push_load.new.code
    (in_turn (code.pointer to.temp to.reg ∷ plain (load_scalar e.ty (Behind to.reg) to.reg ∷ []) ∷ [])) (read code to.temp to.reg)
    (read-place code e.ty (coded_ty s c.args.frame.now e) (sym c.is_struct.ensures ∙ c.if-is_struct.false) to.temp to.reg _
    (sym (c.in-None.ensures.is s))) (grind (arith, common_steps))

pub binary::index-returns : goal.binary::index-returns
binary::index-returns t c =
    let s = c.args.unit.now.structs in
    let f = c.args.frame.now in
    let a = coded s f c.args.left.now in
    let b = coded s f c.args.right.now in
    let at = length c.args.code.now.items.items in
    let ty = coded_ty s f c.args.left.now in
    rw (first_waits_is left a.value b c.args.to.temp c.args.to.reg at) (grind (arith, common_steps))

pub assign::simple-returns-in_ok-value-in-Some : goal.assign::simple-returns-in_ok-value-in-Some
assign::simple-returns-in_ok-value-in-Some t c =
    let s = c.args.unit.now.structs in
    let f = c.args.frame.now in
    let slot : (coded s f c.args.left.now).slot ≡ Some c.in-Some.start = sym (c.in-Some.ensures.is s) in
    let ty = coded_ty s f c.args.left.now in
    rw slot (grind (arith, common_steps))

pub assign::simple-returns-in_ok-second-in-None : goal.assign::simple-returns-in_ok-second-in-None
assign::simple-returns-in_ok-second-in-None t c =
    let s = c.args.unit.now.structs in
    let f = c.args.frame.now in
    let a = coded s f c.args.left.now in
    let b = coded s f c.args.right.now in
    let at = length c.args.code.now.items.items in
    let slot : a.slot ≡ None = sym (c.in-None.ensures.is s) in
    let ty = coded_ty s f c.args.left.now in
    rw (slot, first_waits_is scratch a.pointer b c.args.to.temp c.args.to.reg at) (grind (arith, common_steps))

pub assign::compound-returns-in_ok-value-in-Some : goal.assign::compound-returns-in_ok-value-in-Some
assign::compound-returns-in_ok-value-in-Some t c =
    let s = c.args.unit.now.structs in
    let f = c.args.frame.now in
    let slot : (coded s f c.args.left.now).slot ≡ Some c.in-Some.start = sym (c.in-Some.ensures.is s) in
    let ty = coded_ty s f c.args.left.now in
    let other = coded_ty s f c.args.right.now in
    rw slot (grind (arith, common_steps))

pub assign::step-returns-in-Some : goal.assign::step-returns-in-Some
assign::step-returns-in-Some t c =
    let s = c.args.unit.now.structs in
    let f = c.args.frame.now in
    let slot : (coded s f c.args.object.now).slot ≡ Some c.in-Some.start = sym (c.in-Some.ensures.is s) in
    let ty = coded_ty s f c.args.object.now in
    rw slot (grind (arith, common_steps))

pub assign::step-returns-in_ok-place-in-None : goal.assign::step-returns-in_ok-place-in-None
assign::step-returns-in_ok-place-in-None t c =
    let s = c.args.unit.now.structs in
    let f = c.args.frame.now in
    let slot : (coded s f c.args.object.now).slot ≡ None = sym (c.in-None.ensures.is s) in
    let ty = coded_ty s f c.args.object.now in
    rw slot (grind (arith, common_steps))

pub assign::compound-returns-in_ok-value-in-None : goal.assign::compound-returns-in_ok-value-in-None
assign::compound-returns-in_ok-value-in-None t c =
    let s = c.args.unit.now.structs in
    let f = c.args.frame.now in
    let a = coded s f c.args.left.now in
    let b = coded s f c.args.right.now in
    compound-behind _ s c.args.operator a b c.args.left.now.ty c.args.right.now.ty c.args.to.temp _ c.args.to.reg c.args.code.now
    c.place.new.code c.push_keep.new.code c.value-in-None.new.code c.push_combined_behind.new.code (sym (c.in-None.ensures.is s))
    (coded_ty s f c.args.left.now) (coded_ty s f c.args.right.now) (omega arith) c.in_ok-place-in-None.ensures
    c.in_ok-push_keep-in-None.ensures c.in_ok-value-in-None.ensures c.push_combined_behind.ensures

pub call::call-returns : goal.call::call-returns
call::call-returns t c =
    let s = c.args.unit.now.structs in
    let f = c.args.frame.now in
    rw (fetch_arguments-is c.args.to.temp 0 (map (coded s f) c.args.arguments.now)) (grind (arith, common_steps))

pub call::keep_arguments-value-requires : goal.call::keep_arguments-value-requires
call::keep_arguments-value-requires t c =
    let xs = c.args.arguments.now in
    let i = c.loop-argument.argument-index in
    let x = c.argument-item.result in
    let less = within_sum weight xs i x c.loop-argument-test.true c.argument-item.is in
    let room = room_here need xs i x c.loop-argument-test.true c.argument-item.is c.args.to.temp c.loop-argument.invariant.room in
    (omega arith, omega arith)

pub call::keep_arguments-loop-argument-preserved : goal.call::keep_arguments-loop-argument-preserved
call::keep_arguments-loop-argument-preserved t c =
    let xs = c.args.arguments.now in
    let i = c.loop-argument.argument-index in
    let x = c.argument-item.result in
    record {
      temp = omega arith;
      room = room_left need xs i x c.loop-argument-test.true c.argument-item.is c.args.to.temp c.loop-argument.invariant.room;
      code =
          keep_turn (coded c.args.unit.now.structs c.args.frame.now) xs i x c.loop-argument.temp c.args.to.reg _ _ _ _
          c.loop-argument-test.true c.argument-item.is c.loop-argument.invariant.code c.in_ok-value.ensures c.in_ok-push_keep.ensures;
    }

pub value::unary-returns-in_ok-value-in_default : goal.value::unary-returns-in_ok-value-in_default
value::unary-returns-in_ok-value-in_default t c =
    let s = c.args.unit.now.structs in
    let e = c.args.operand.now in
    let code = coded s c.args.frame.now e in
    let to = c.args.to in
    appended_as _ c.args.code.now c.push_on_integer.new.code
    (in_turn (code.value to.temp to.reg ∷ plain (on_integer c.args.operator (int_in e.ty) to.reg) ∷ []))
    (unary_value c.args.operator code to.temp to.reg)
    (unary-integer c.args.operator code e.ty to.temp to.reg _ c.in_default.not-AddressOf (coded_ty s c.args.frame.now e))
    (grind (arith, common_steps))
