-- A greater limit changes an answer only where it was that something is too deep.
use Rattle.std.specs.Prelude.{◌≡◌, ℕ, suc, ◌-◌, ◌<◌, true, nat_lt}
use Rattle.std.proofs.Common.{subst, arith}
use Rattle.c_ast.specs.declared.token.Span.{Span}
use Rattle.c_ast.specs.declared.expr.CType.{CType}
use Rattle.c_ast.specs.declared.punctuator.Punctuator.TheVariants as mark
use Rattle.c_grammar.specs.Words.{punctuator}
use Rattle.c_parse_base.specs.Reading.Answer.{makes}
use Rattle.c_parse_base.specs.Laws.Deeper.{Grows, grows_same, grows_then, grows_made, grows_either, grows_chain, grows_optional}
use Rattle.c_parse_base.specs.Reading.Words.{is, punct}
use Rattle.c_parse_base.specs.Laws.Depths.{below_is, more_room}
use Rattle.c_parse_base.specs.Reading.TypeNames as types
use Rattle.c_parse_decl.specs.declared.declarators.declared.Declared.{Declared}
use Rattle.c_parse_decl.specs.Reading.Initializers.{initial}
use Rattle.c_parse_decl.specs.Laws.Declarators.Growth.{starred_grows, bracketed_grows, declarator_grows}
use Rattle.c_parse_decl.specs.Laws.Initializers.Growth.{initial_grows}
use Rattle.c_parse_decl.specs.declared.objects.objects_read.ObjectRead.{ObjectRead}
use Rattle.c_parse_decl.specs.declared.objects.objects_read.ObjectsRead.{ObjectsRead}
use Rattle.c_parse_decl.specs.Reading.Objects.{plain_of, valued, one_object, more_objects, equal, comma, room, free, value, object}
use Rattle.c_parse_decl.specs.Reading.Objects.{further, list, ended, valued_rest, rest, named, local}

value_grows : (d : ℕ) (a : ObjectRead) → room d ≡ true → Grows (value d a) (value (suc d) a)
unfolding value
value_grows d a e =
    let high : 1 < d = below_is 1 d e in
    let above : suc (d - 2) ≡ suc d - 2 = omega arith in
    grows_made (λ c. valued a c.1) (grows_then (grows_same (punct mark.Equal))
    (λ _. subst (λ k. Grows (initial (d - 2)) (initial k)) above (initial_grows (d - 2))))

module _ (d : ℕ) (base : CType) where
  object_grows : Grows (object d base) (object (suc d) base)
  unfolding object
  object_grows = grows_optional equal free (λ _. room d) (λ _. room (suc d)) (λ a. more_room d 1) (λ a e. value_grows d a e)
      (grows_made plain_of (declarator_grows d base))

  further_grows : (a : ObjectsRead) → Grows (further d base a) (further (suc d) base a)
  unfolding further
  further_grows a = grows_made (λ c. more_objects a c.1) (grows_then (grows_same (punct mark.Comma)) (λ _. object_grows))

  list_grows : (a : ObjectsRead) → Grows (list d base a) (list (suc d) base a)
  unfolding list
  list_grows a = grows_chain comma free free (λ a e. e) (λ a e. further_grows a) (further_grows a)

  ended_grows : (a : ObjectsRead) → Grows (ended d base a) (ended (suc d) base a)
  unfolding ended
  ended_grows a = grows_either comma true true (λ e. e) (λ e. grows_made (λ c. c.0)
      (grows_then (list_grows a) (λ _. grows_same (punct mark.Semicolon))))
      (grows_same (makes (λ (p : Span). a) (punct mark.Semicolon)))

  valued_rest_grows : (a : Declared) → Grows (valued_rest d base a) (valued_rest (suc d) base a)
  unfolding valued_rest
  valued_rest_grows a = grows_either equal (room d) (room (suc d)) (more_room d 1)
      (λ e. grows_made (λ c. c.1) (grows_then (value_grows d (plain_of a) e) (λ b. ended_grows (one_object b))))
      (ended_grows (one_object (plain_of a)))

-- by one level
pub rest_grows : (d : ℕ) (base : CType) (a : Declared) → Grows (rest d base a) (rest (suc d) base a)
unfolding rest
rest_grows d base a = grows_either (is (punctuator mark.LeftBracket)) (nat_lt a.height d) (nat_lt a.height (suc d)) (more_room d a.height)
    (λ e. grows_made (λ c. c.1) (grows_then (bracketed_grows d a e) (valued_rest_grows d base))) (valued_rest_grows d base a)

named_grows : (d : ℕ) (base : CType) → Grows (named d base) (named (suc d) base)
unfolding named
named_grows d base = grows_made (λ c. c.1) (grows_then (starred_grows d base) (rest_grows d base))

pub local_grows : (d : ℕ) → Grows (local d) (local (suc d))
unfolding local
local_grows d = grows_made (λ c. c.1) (grows_then (grows_same types.base) (λ b. named_grows d b.ty))
