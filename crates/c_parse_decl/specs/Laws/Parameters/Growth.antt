-- A greater limit changes an answer only where it was that something is too deep.
use Rattle.std.specs.Prelude.{ℕ, suc, true}
use Rattle.c_ast.specs.declared.punctuator.Punctuator.TheVariants as mark
use Rattle.c_parse_base.specs.Laws.Deeper.{Grows, grows_same, grows_then, grows_made, grows_either, grows_chain, grows_optional}
use Rattle.c_parse_base.specs.Laws.StartingLaws.{starting_grows}
use Rattle.c_parse_base.specs.Reading.Words.{punct}
use Rattle.c_parse_base.specs.Laws.Depths.{more_room}
use Rattle.c_parse_base.specs.Reading.TypeNames.{begins_type}
use Rattle.c_parse_base.specs.Laws.TypeGrowth.{type_grows}
use Rattle.c_parse_decl.specs.Laws.Declarators.Growth.{bracketed_grows}
use Rattle.c_parse_decl.specs.declared.parameter_list.parameters_read.ListRead.{ListRead}
use Rattle.c_parse_decl.specs.Reading.Parameters.{always, has_room, bracket, comma, is_name, unnamed, typed, name_behind, nameable}
use Rattle.c_parse_decl.specs.Reading.Parameters.{parameter, one_parameter, more_parameters, closed, further, list, listed, nothing_there}
use Rattle.c_parse_decl.specs.Reading.Parameters.{inside, parameters}

nameable_grows : (d : ℕ) → Grows (nameable d) (nameable (suc d))
unfolding nameable typed
nameable_grows d = grows_optional is_name always always always (λ a e. e) (λ a e. grows_same (name_behind a))
    (grows_made unnamed (starting_grows (type_grows d)))

parameter_grows : (d : ℕ) → Grows (parameter d) (parameter (suc d))
unfolding parameter
parameter_grows d = grows_optional bracket always (has_room d) (has_room (suc d)) (λ a. more_room d a.height) (λ a. bracketed_grows d a)
    (nameable_grows d)

further_grows : (d : ℕ) (l : ListRead) → Grows (further d l) (further (suc d) l)
unfolding further
further_grows d l = grows_made (λ c. more_parameters l c.1) (grows_then (grows_same (punct mark.Comma)) (λ _. parameter_grows d))

list_grows : (d : ℕ) → Grows (list d) (list (suc d))
unfolding list
list_grows d = grows_chain comma always always (λ l e. e) (λ l e. further_grows d l) (grows_made one_parameter (parameter_grows d))

inside_grows : (d : ℕ) → Grows (inside d) (inside (suc d))
unfolding inside listed
inside_grows d = grows_either begins_type true true (λ e. e)
    (λ r. grows_made closed (grows_then (list_grows d) (λ _. grows_same (punct mark.RightParen)))) (grows_same nothing_there)

-- by one level
pub parameters_grow : (d : ℕ) → Grows (parameters d) (parameters (suc d))
unfolding parameters
parameters_grow d = grows_made (λ c. c.1) (grows_then (grows_same (punct mark.LeftParen)) (λ _. inside_grows d))
