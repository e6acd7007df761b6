-- An expression in order is safe where it has the levels that it needs, and gives a value of its type.
use Rattle.std.proofs.Common.{List}
use Rattle.c_type_base.specs.declared.ty.Ty.{Ty}
use Rattle.c_type_base.specs.declared.expr.TExpr.{TExpr}
use Rattle.block_meaning.specs.Expressions.{NodeLayer}
use Rattle.block_meaning.specs.ExpressionsInOrder as order
use Rattle.block_meaning.specs.ExpressionsInOrder.{Scope, Group, Logical, group_of, is_sign, BinaryTypes, CompoundTypes, Converts}
use Rattle.block_meaning.specs.ExpressionsInOrder.{Callable}
use Rattle.block_meaning.specs.ExpressionsInOrder.{HasMember, IsDefined, HasValue, Designates, Arguments, int_type}
use Rattle.block_meaning.specs.Laws.Progress.Nodes.{ValueSafe, PlaceSafe, ArgumentsSafe}
use Rattle.block_meaning.specs.Laws.Progress.Values.{constant_safe, paren_safe, address_safe, denied_safe, signed_safe}
use Rattle.block_meaning.specs.Laws.Progress.Values.{logical_safe, operated_safe, assigned_safe}
use Rattle.block_meaning.specs.Laws.Progress.Values.{compound_safe, step_safe, chosen_safe, cast_safe, void_safe, convert_safe}
use Rattle.block_meaning.specs.Laws.Progress.Values.{size_safe, size_name_safe, read_safe, decay_safe}
use Rattle.block_meaning.specs.Laws.Progress.Arguments.{no_argument_safe, argument_safe}
use Rattle.block_meaning.specs.Laws.Progress.Arguments.{call_safe}
use Rattle.block_meaning.specs.Laws.Progress.Places.{text_safe, global_safe, local_safe, extern_safe, place_paren_safe}
use Rattle.block_meaning.specs.Laws.Progress.Places.{target_safe, index_safe, member_safe, member_value_safe, arrow_safe}
use Rattle.block_meaning.specs.Laws.Progress.Places.{struct_safe}

mutual
  pub value-safe : {s : Scope} {t : Ty} {node : NodeLayer} → HasValue s t node → ValueSafe s t node
  value-safe {s} (order.constant {n} {i}) = constant_safe s i n
  value-safe (order.paren d) = paren_safe (value-safe d)
  value-safe (order.address d) = address_safe (place-safe d)
  value-safe (order.denied d is) = denied_safe (value-safe d)
  value-safe (order.signed {o} sign d is) = signed_safe o sign (value-safe d) is
  value-safe (order.logical {o} group d is x its) = logical_safe o group (value-safe d) (value-safe x)
  value-safe (order.operated {o} d x types) = operated_safe o (value-safe d) (value-safe x) types
  value-safe (order.assigned d x same) = assigned_safe (place-safe d) (value-safe x) same
  value-safe (order.compound {o} d x types) = compound_safe o (place-safe d) (value-safe x) types
  value-safe (order.chosen c is d a_is x b_is) = chosen_safe (value-safe c) (value-safe d) a_is (value-safe x) b_is
  value-safe (order.cast d types) = cast_safe (value-safe d) types
  value-safe (order.cast_to_void d is) = void_safe (value-safe d) is
  value-safe order.size_of = size_safe
  value-safe order.size_of_type = size_name_safe
  value-safe (order.call callable xs) = call_safe callable (arguments-safe xs)
  value-safe (order.step {o} d is) = step_safe o (place-safe d) is
  value-safe (order.read d is) = read_safe (place-safe d)
  value-safe (order.decay {t} d is) = decay_safe t (place-safe d)
  value-safe (order.convert d types) = convert_safe (value-safe d) types
  value-safe (order.member_value {k} {m} d has is) = member_value_safe k m (place-safe d) has

  pub place-safe : {s : Scope} {t : Ty} {node : NodeLayer} → Designates s t node → PlaceSafe s t node
  place-safe (order.text {k} {bytes} is) = text_safe k bytes is
  place-safe (order.local {k} has is) = local_safe k has
  place-safe (order.global {k} {g} is) = global_safe k g is
  place-safe (order.extern_object {k} {e} is its defines) = extern_safe k e is defines
  place-safe (order.paren_place d) = place_paren_safe (place-safe d)
  place-safe (order.target d is) = target_safe (value-safe d)
  place-safe (order.element d is x its) = index_safe (value-safe d) (value-safe x)
  place-safe (order.element_of_second x its d is) = index_safe (value-safe x) (value-safe d)
  place-safe (order.member {k} {m} d has) = member_safe k m (place-safe d) has
  place-safe (order.arrow {k} {m} d is has) = arrow_safe k m (value-safe d) is has
  place-safe (order.struct_assigned d x same is) = struct_safe (place-safe d) (value-safe x) same

  pub arguments-safe : {s : Scope} {es : List TExpr} {ts : List Ty} → Arguments s es ts → ArgumentsSafe s es ts
  arguments-safe order.no_argument = no_argument_safe
  arguments-safe (order.argument d xs) = argument_safe (value-safe d) (arguments-safe xs)
