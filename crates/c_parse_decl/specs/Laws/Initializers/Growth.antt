-- A greater limit changes an answer only where it was that something is too deep.
use Rattle.std.specs.Prelude.{◌≡◌, ℕ, zero, suc, ◌<◌, Bool, true, false}
use Rattle.std.proofs.Common.{arith}
use Rattle.c_ast.specs.declared.token.Span.{Span}
use Rattle.c_ast.specs.declared.punctuator.Punctuator.TheVariants as mark
use Rattle.c_grammar.specs.Words.{punctuator}
use Rattle.c_parse_base.specs.Reading.Words.{is, punct}
use Rattle.c_parse_base.specs.Reading.Answer.{makes}
use Rattle.c_parse_base.specs.Laws.Deeper.{Grows, grows_same, grows_then, grows_made, grows_either, grows_chain_by}
use Rattle.c_parse_expr.specs.Laws.Growth.{grows_at}
use Rattle.c_parse_decl.specs.declared.initializers.list_read.ListRead.{ListRead}
use Rattle.c_parse_decl.specs.Reading.Initializers.{Reader, value_of, one_item, more_items, comma_behind, list_of, room, list_goes_on}
use Rattle.c_parse_decl.specs.Reading.Initializers.{turn_by, items, closed, layer, under, initial}
use Rattle.c_parse_base.specs.Laws.Depths.{below_is, is_below}

module _ {below above : Reader} (grows : Grows below above) where
  turn_grows : (x : Bool) (a : ListRead) → Grows (turn_by below x a) (turn_by above x a)
  unfolding turn_by
  turn_grows true a = grows_made (more_items a) grows
  turn_grows false a = grows_same (makes (λ (p : Span). comma_behind a) (punct mark.Comma))

  items_grow : Grows (items below) (items above)
  unfolding items
  items_grow = grows_chain_by list_goes_on (λ _. true) (λ _. true) (λ a e. e) (λ a e. turn_grows a.comma a) (grows_made one_item grows)

  closed_grows : (l : Span) → Grows (closed below l) (closed above l)
  unfolding closed
  closed_grows l = grows_made (list_of l) (grows_then items_grow (λ _. grows_same (punct mark.RightBrace)))

more_room : (d : ℕ) → room d ≡ true → room (suc d) ≡ true
more_room d e = is_below 0 (suc d) (omega arith)

layer_grows : (d : ℕ) (below above : Reader) → (0 < d → Grows below above) → Grows (layer d below) (layer (suc d) above)
layer_grows d below above grows = grows_either (is (punctuator mark.LeftBrace)) (room d) (room (suc d)) (more_room d)
    (λ r. grows_made (λ c. c.1) (grows_then (grows_same (punct mark.LeftBrace)) (closed_grows (grows (below_is 0 d r)))))
    (grows_made value_of (grows_at d).expression)

-- by one level
pub initial_grows : (d : ℕ) → Grows (initial d) (initial (suc d))
unfolding initial under
initial_grows zero = layer_grows 0 (under 0) (under 1) (λ h. absurd (omega arith))
initial_grows (suc d) = layer_grows (suc d) (initial d) (initial (suc d)) (λ h. initial_grows d)
