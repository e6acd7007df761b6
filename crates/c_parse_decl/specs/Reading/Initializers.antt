-- Initializers, as they are read (ISO C11 6.7.9), by the number of levels that may stand below the level of their expressions.
use Rattle.std.specs.Prelude.{◌≡◌, ℕ, zero, suc, ◌≤◌, ◌||◌, Bool, true, false, max, nat_lt, List, [], ◌∷◌, ◌++◌}
use Rattle.c_ast.specs.declared.token.Span.{Span}
use Rattle.c_ast.specs.Seen.{Seen as Token}
use Rattle.c_ast.specs.declared.declaration.Init.TheVariants as init
use Rattle.c_ast.specs.declared.punctuator.Punctuator.TheVariants as mark
use Rattle.c_grammar.specs.Words.{span_of, punctuator}
use Rattle.c_grammar.specs.Objects.{Initial}
use Rattle.c_parse_base.specs.declared.fault.Fault.TheVariants.{Unexpected}
use Rattle.c_parse_base.specs.Reading.Answer.{Parser, Stuck, thens, makes, either, chain_by}
use Rattle.c_parse_base.specs.Reading.Words.{is, punct}
use Rattle.c_parse_expr.specs.declared.measured.Measured.{Measured}
use Rattle.c_parse_expr.specs.Reading.Expressions.{at}
use Rattle.c_parse_expr.specs.Reading.Levels.{begins, expression_on, example}
use Rattle.c_parse_decl.specs.declared.initializers.init_read.InitRead.{InitRead}
use Rattle.c_parse_decl.specs.declared.initializers.list_read.ListRead.{ListRead}

abbrev pub Reader : Type 0
Reader = Parser Token InitRead

abbrev pub ListReader : Type 0
ListReader = Parser Token ListRead

abbrev pub Low : ℕ → InitRead → Type 0
Low d v = v.height ≤ d

-- an initializer, by the levels below that of its expression
pub record InitialWord (v : InitRead) (w : List Token) : Type 0 where
  pub initial : Initial (suc v.height) v.init w
  pub end : v.end ≡ (span_of w).end

-- the tokens with which an initializer begins
abbrev pub begins_initial : Token → Bool
begins_initial t = is (punctuator mark.LeftBrace) t || begins t

-- the tokens that go on behind an initializer: those that go on behind an expression
abbrev pub initial_on : InitRead → Token → Bool
initial_on v t = expression_on example t

-- an expression
abbrev pub value_of : Measured → InitRead
value_of a = record { init = init.One a.tree; height = a.height; end = a.tree.span.end }

-- the first initializer of a list
abbrev pub one_item : InitRead → ListRead
one_item a = record { inits = a.init ∷ []; height = suc a.height; comma = false }

-- one more
abbrev pub more_items : ListRead → InitRead → ListRead
more_items a b = record { inits = a.inits ++ b.init ∷ []; height = max a.height (suc b.height); comma = false }

-- a comma behind them
abbrev pub comma_behind : ListRead → ListRead
comma_behind a = record { inits = a.inits; height = a.height; comma = true }

-- the list, from its "{" to its "}"
abbrev pub list_of : Span → ListRead × Span → InitRead
list_of l c = record { init = init.List c.0.inits (record { start = l.start; end = c.1.end }); height = c.0.height; end = c.1.end }

-- there are levels left
abbrev pub room : ℕ → Bool
room d = nat_lt 0 d

-- the tokens with which a list goes on: a comma, and behind that an initializer
abbrev pub goes_on_by : Bool → Token → Bool
goes_on_by true t = begins_initial t
goes_on_by false t = is (punctuator mark.Comma) t

abbrev pub list_goes_on : ListRead → Token → Bool
list_goes_on a = goes_on_by a.comma

module _ (below : Reader) where
  -- a comma, or behind that an initializer
  unfoldable pub turn_by : Bool → ListRead → ListReader
  turn_by true a = makes (more_items a) below
  turn_by false a = makes (λ _. comma_behind a) (punct mark.Comma)

  abbrev pub turn : ListRead → ListReader
  turn a = turn_by a.comma a

  -- initial { "," initial } [ "," ]
  unfoldable pub items : ListReader
  items = chain_by list_goes_on (λ _. true) (makes one_item below) turn

  -- the same and "}", behind a "{" at this place
  unfoldable pub closed : Span → Reader
  closed l = makes (list_of l) (thens items (λ _. punct mark.RightBrace))

-- a list in braces, or an expression
abbrev pub layer : ℕ → Reader → Reader
layer d below = either (is (punctuator mark.LeftBrace)) (room d) (makes (λ c. c.1) (thens (punct mark.LeftBrace) (closed below)))
    (makes value_of (at d).expression)

-- the parser of one level less than this many
unfoldable pub under : ℕ → Reader
under zero = Stuck Unexpected
under (suc d) = layer d (under d)

-- the parser where this many levels may stand below that of an expression
unfoldable pub initial : ℕ → Reader
initial d = layer d (under d)
