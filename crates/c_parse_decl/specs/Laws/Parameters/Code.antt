-- What the code of the parser needs of the parser.
use Rattle.std.specs.Prelude.{◌≡◌, ℕ, suc, ◌-◌, ◌<◌, ◌≤◌, true, false, List, length, refl}
use Rattle.std.proofs.Common.{◌∙◌, ap}
use Rattle.c_ast.specs.Seen.{Seen as Token}
use Rattle.c_ast.specs.declared.punctuator.Punctuator.TheVariants as mark
use Rattle.c_parse_base.specs.Reading.Answer.{Answer, Read, Stuck, and_then, thens, makes, sees, follows, repeats, turns}
use Rattle.c_parse_base.specs.Laws.LoopLaws.{Loop, left}
use Rattle.c_parse_base.specs.Reading.Good.{Good}
use Rattle.c_parse_base.specs.Laws.ChainLaws.{MayTurn}
use Rattle.c_parse_base.specs.Laws.OptionalLaws.{follows_stop, follows_part}
use Rattle.c_parse_base.specs.Reading.Answers.{rest_of}
use Rattle.c_parse_base.specs.Laws.AnswerLaws.{either_one, either_other}
use Rattle.c_parse_base.specs.Reading.Spans.{start_of}
use Rattle.c_parse_base.specs.Reading.Words.{punct, name}
use Rattle.c_parse_base.specs.declared.type_read.TypeRead.{TypeRead}
use Rattle.c_parse_base.specs.Reading.TypeNames.{begins_type, type_name}
use Rattle.c_parse_expr.specs.Laws.WordCode.{marked_makes}
use Rattle.c_parse_decl.specs.declared.declarators.declared.Declared.{Declared}
use Rattle.c_parse_decl.specs.Reading.Declarators.{bracketed}
use Rattle.c_parse_decl.specs.declared.parameter_list.parameters_read.ListRead.{ListRead}
use Rattle.c_parse_decl.specs.Reading.Parameters.{ListReader, OneReader, always, has_room, bracket, comma, is_name, unnamed, named, typed}
use Rattle.c_parse_decl.specs.Reading.Parameters.{name_behind, nameable, parameter, one_parameter, more_parameters, closed, no_parameter}
use Rattle.c_parse_decl.specs.Reading.Parameters.{further, list, listed, nothing_there, inside, parameters}
use Rattle.c_parse_decl.specs.Laws.Parameters.ParameterLaws.{parameter_on}
use Rattle.c_parse_decl.specs.Laws.Parameters.ListLaws.{CommaWord, LowList, further_good}

-- ---- behind a type

-- what may stand behind a type, and behind that
abbrev pub name_follows : Declared → OneReader
name_follows = follows is_name always always name_behind

abbrev pub bracket_follows : ℕ → Declared → OneReader
bracket_follows d = follows bracket always (has_room d) (bracketed d)

unfoldable pub behind : ℕ → Declared → OneReader
behind d a ts = and_then (name_follows a ts) (bracket_follows d)

pub behind_is : (d : ℕ) (a : Declared) (ts : List Token) → behind d a ts ≡ and_then (name_follows a ts) (bracket_follows d)
unfolding behind
behind_is d a ts = refl

pub name_some : (a : Declared) (ts : List Token) → sees is_name ts ≡ true → name_follows a ts ≡ makes (named a) name ts
unfolding name_behind
name_some a ts e = follows_part is_name always always name_behind a ts e refl refl

pub bracket_none : (d : ℕ) (a : Declared) (ts : List Token) → sees bracket ts ≡ false → bracket_follows d a ts ≡ Read a ts
bracket_none d = follows_stop bracket always (has_room d) (bracketed d)

-- a type that starts there, and what stands behind it
abbrev pub behind_type : ℕ → ℕ → TypeRead → OneReader
behind_type d start r = behind d (unnamed (start, r))

typed_behind : (d start : ℕ) (o : Answer Token TypeRead) →
    and_then (and_then (and_then (and_then o (λ r us. Read (start, r) us)) (λ c us. Read (unnamed c) us)) name_follows)
    (bracket_follows d) ≡ and_then o (behind_type d start)
unfolding behind
typed_behind d start (Read r us) = refl
typed_behind d start (Stuck f us) = refl

pub parameter_is : (d : ℕ) (ts : List Token) → parameter d ts ≡ and_then (type_name d ts) (behind_type d (start_of ts))
unfolding parameter nameable typed
parameter_is d ts = typed_behind d (start_of ts) (type_name d ts)

-- ---- lists

-- a further parameter
abbrev pub further_parameter : ℕ → Loop Token ListRead
further_parameter d = record { test = λ _. comma; room = always; step = further d }

pub list_is : (d : ℕ) (ts : List Token) → list d ts ≡ and_then (makes one_parameter (parameter d) ts) (left (further_parameter d))
unfolding list left
list_is d ts = refl

pub parameter_behind : (d : ℕ) (l : ListRead) → MayTurn (LowList d) always l →
    Good (further d l) (CommaWord l) (LowList d) comma (λ _. parameter_on)
parameter_behind d l may = further_good d l may.fits

pub further_is : (d : ℕ) (l : ListRead) (ts : List Token) → sees comma ts ≡ true →
    further d l ts ≡ makes (more_parameters l) (parameter d) (rest_of ts)
unfolding further
further_is d l ts e = marked_makes mark.Comma (parameter d) (more_parameters l) ts e

pub further_read : (d : ℕ) (l : ListRead) (a : Declared) (ts us : List Token) → sees comma ts ≡ true →
    parameter d (rest_of ts) ≡ Read a us → further d l ts ≡ Read (more_parameters l a) us
further_read d l a ts us e r = further_is d l ts e ∙ ap (λ o. and_then o (λ a us. Read (more_parameters l a) us)) r

-- ---- behind "("

pub inside_nothing : (d : ℕ) (ts : List Token) → sees begins_type ts ≡ false → inside d ts ≡ makes no_parameter (punct mark.RightParen) ts
unfolding inside nothing_there
inside_nothing d ts e = either_other begins_type true (listed d) (makes no_parameter (punct mark.RightParen)) ts e

pub inside_listed : (d : ℕ) (ts : List Token) → sees begins_type ts ≡ true →
    inside d ts ≡ makes closed (thens (list d) (λ _. punct mark.RightParen)) ts
unfolding inside listed
inside_listed d ts e = either_one begins_type true (makes closed (thens (list d) (λ _. punct mark.RightParen))) nothing_there ts e refl

pub parameters_is : (d : ℕ) (ts : List Token) → parameters d ts ≡ makes (λ c. c.1) (thens (punct mark.LeftParen) (λ _. inside d)) ts
unfolding parameters
parameters_is d ts = refl
