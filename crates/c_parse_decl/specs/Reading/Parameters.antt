-- Parameters, as they are read (ISO C11 6.7.6.3).
use Rattle.std.specs.Prelude.{◌≡◌, ℕ, suc, ◌≤◌, max, Bool, true, false, nat_lt, if◌then◌else◌, List, [], ◌∷◌, ◌++◌, None}
use Rattle.c_ast.specs.declared.token.Span.{Span}
use Rattle.c_ast.specs.Seen.{Seen as Token}
use Rattle.c_ast.specs.declared.expr.CType.{out-CType}
use Rattle.c_ast.specs.declared.expr.CType.TheOpen.{CType-F}
use Rattle.c_ast.specs.declared.declaration.Decl.{Decl}
use Rattle.c_ast.specs.declared.punctuator.Punctuator.TheVariants as mark
use Rattle.c_ast.specs.Tree.{TypeLayer}
use Rattle.c_grammar.specs.Words.{span_of, punctuator, a_name}
use Rattle.c_grammar.specs.Parameters as grammar
use Rattle.c_parse_base.specs.declared.words.Named.{Named}
use Rattle.c_parse_base.specs.Reading.Answer.{Parser, thens, makes, either, chain, optional}
use Rattle.c_parse_base.specs.Reading.Spans.{join_spans, starting}
use Rattle.c_parse_base.specs.Reading.Words.{is, punct, name}
use Rattle.c_parse_base.specs.declared.type_read.TypeRead.{TypeRead}
use Rattle.c_parse_base.specs.Reading.TypeNames.{begins_type, type_name}
use Rattle.c_parse_decl.specs.declared.declarators.declared.Declared.{Declared}
use Rattle.c_parse_decl.specs.Reading.Declarators.{bracketed}
use Rattle.c_parse_decl.specs.declared.parameter_list.parameters_read.ListRead.{ListRead}
use Rattle.c_parse_decl.specs.declared.parameter_list.parameters_read.ParametersRead.{ParametersRead}

abbrev pub Reader : Type 0
Reader = Parser Token ParametersRead

abbrev pub ListReader : Type 0
ListReader = Parser Token ListRead

-- one parameter
abbrev pub OneReader : Type 0
OneReader = Parser Token Declared

-- the types of the parameters have at most so many levels, and the parameters one more
abbrev pub Low : ℕ → ParametersRead → Type 0
Low d v = v.height ≤ suc d

abbrev pub has_name : List ℕ → Bool
has_name [] = false
has_name (b ∷ bs) = true

-- each of these has a name
abbrev pub all_named : List Decl → Bool
all_named [] = true
all_named (d ∷ ds) = if has_name d.name then all_named ds else false

-- parameters with their parentheses
pub record ParametersWord (v : ParametersRead) (w : List Token) : Type 0 where
  pub list : grammar.Parameters v.height v.decls w
  pub end : v.end ≡ (span_of w).end
  pub named : v.all_named ≡ all_named v.decls

-- ---- one parameter

-- there is always room
abbrev pub always : {A : Type 0} → A → Bool
always a = true

abbrev pub has_room : ℕ → Declared → Bool
has_room d a = nat_lt a.height d

abbrev pub bracket : Token → Bool
bracket = is (punctuator mark.LeftBracket)

abbrev pub comma : Token → Bool
comma = is (punctuator mark.Comma)

-- the token is a name
abbrev pub is_name : Token → Bool
is_name = is a_name

-- a type that starts there, without a name
abbrev pub unnamed : ℕ × TypeRead → Declared
unnamed c = record { name = []; ty = c.1.ty; height = c.1.height; span = record { start = c.0; end = c.1.end } }

abbrev pub named : Declared → Named → Declared
named a n = record { name = n.name; ty = a.ty; height = a.height; span = join_spans a.span n.place }

-- a type name
unfoldable pub typed : ℕ → OneReader
typed d = makes unnamed (starting (type_name d))

-- NAME behind a type
unfoldable pub name_behind : Declared → OneReader
name_behind a = makes (named a) name

-- base stars [ NAME ]
unfoldable pub nameable : ℕ → OneReader
nameable d = optional is_name always always (typed d) name_behind

-- base stars [ NAME ] { "[" [ cond ] "]" }
unfoldable pub parameter : ℕ → OneReader
parameter d = optional bracket always (has_room d) (nameable d) (bracketed d)

-- ---- lists

abbrev pub decl_of : Declared → Decl
decl_of a = record { name = a.name; ty = a.ty; init = None; span = a.span }

-- the levels of parameters are one more than those of their types
abbrev pub one_parameter : Declared → ListRead
one_parameter a = record { decls = decl_of a ∷ []; height = suc a.height; all_named = has_name a.name }

abbrev pub more_parameters : ListRead → Declared → ListRead
more_parameters l a = record {
  decls = l.decls ++ decl_of a ∷ [];
  height = max l.height (suc a.height);
  all_named = if l.all_named then has_name a.name else false;
}

-- ", param" behind others
unfoldable pub further : ℕ → ListRead → ListReader
further d l = makes (λ c. more_parameters l c.1) (thens (punct mark.Comma) (λ _. parameter d))

-- param { "," param }
unfoldable pub list : ℕ → ListReader
list d = chain comma always (makes one_parameter (parameter d)) (further d)

-- ---- all parameters

abbrev pub no_parameter : Span → ParametersRead
no_parameter place = record { decls = []; height = 0; end = place.end; all_named = true }

abbrev pub void_layer : TypeLayer → Bool
void_layer CType-F.Void = true
void_layer _ = false

-- one parameter alone, of type `void` and without a name: it is no parameter (6.7.6.3 paragraph 10)
unfoldable pub is_void : List Decl → Bool
is_void [] = false
is_void (d ∷ []) = if has_name d.name then false else void_layer (out-CType d.ty)
is_void (d ∷ e ∷ ds) = false

abbrev pub closed_by : Bool → ListRead × Span → ParametersRead
closed_by true c = no_parameter c.1
closed_by false c = record { decls = c.0.decls; height = c.0.height; end = c.1.end; all_named = c.0.all_named }

-- a list with the parenthesis behind it
abbrev pub closed : ListRead × Span → ParametersRead
closed c = closed_by (is_void c.0.decls) c

-- a list and ")"
unfoldable pub listed : ℕ → Reader
listed d = makes closed (thens (list d) (λ _. punct mark.RightParen))

unfoldable pub nothing_there : Reader
nothing_there = makes no_parameter (punct mark.RightParen)

-- the parameters and ")"
unfoldable pub inside : ℕ → Reader
inside d = either begins_type true (listed d) nothing_there

-- "(" [ param { "," param } ] ")"
unfoldable pub parameters : ℕ → Reader
parameters d = makes (λ c. c.1) (thens (punct mark.LeftParen) (λ _. inside d))
