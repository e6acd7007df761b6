-- Which programs keep all rules, what they are with their names resolved and their types, and which rule of another is broken first.
-- (The rules of ISO C11 6.3 and 6.5 to 6.9, cut to the profile.)
--
-- Which rule has which number, and the files with the cases that ask it, here, in c_type_stmt and in c_type_expr:
--    9  a used name and tag is declared ............ Said (name_row, tag_of)
--   10  one declaration in one scope ............... Declarations (is_new), Functions (parameter, head_rules), Redeclarations, Structs
--                                                    (members, body_rules), Units (object_judged)
--   11  lvalues .................................... Expressions (address_row, simple_row, compound_row, step_row)
--   12  operands fit ............................... Operators, Postfix (index_row, member_row, arrow_row, calls), Expressions (target_row,
--                                                    cast_row, sizeof_row, assignments, steps)
--       conditions, returns, void calls, lengths ... Statements (condition, returned), Initials (assigned, array_by, init_step), Said
--                                                    (judged_length)
--       parameters and results ..................... Functions (parameter_rules, result_rules)
--   13  what is called is a function's name ........ Postfix (not_called), Said (name_row)
--   14  numbers of arguments and parameters ........ Postfix (call_known), Functions (head_rules)
--   15  complete types ............................. Said (pointer_to, array_of), Operators (complete_target and its uses), Postfix
--                                                    (element, member_in, arrow_in), Expressions (target_row, sizeof), Declarations
--                                                    (object_rules), Functions (parameter_rules), Structs (members)
--   16  initialisers fit ........................... Initials, Units (extern_rules)
--   17  sizes ...................................... Said (text), Declarations (object_rules), Functions (parameter_rules), Structs
--                                                    (body_rules)
--   18  the struct has the member .................. Postfix (member_found, arrow_found)
--   19  the form of main ........................... Functions (main_form), Units (object_judged)
use Rattle.std.specs.Prelude.{◌≡◌, ℕ, []}
use Rattle.c_ast.specs.declared.token.Span.{Span}
use Rattle.c_ast.specs.declared.program.Program.{Program}
use Rattle.c_type_base.specs.declared.typed.Typed.{Typed}
use Rattle.c_type_expr.specs.Faults.{fault, IsFirst}
use Rattle.c_types.specs.Files.{file_names}
use Rattle.c_types.specs.Units.{judged, typed_by}

-- a program keeps all rules, and this is what it is with its types
pub record WellTyped (program : Program) (typed : Typed) : Type 0 where
  pub kept : (judged program).faults ≡ []
  pub typed_is : typed ≡ typed_by (file_names program) (judged program)

-- the first rule that is broken in a program, and the span of its construct
abbrev pub FirstBroken : Program → ℕ → Span → Type 0
FirstBroken program number span = IsFirst (judged program).faults (fault number span)
