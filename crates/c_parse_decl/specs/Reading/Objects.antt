-- Declarations of objects, as they are read (ISO C11 6.7), by the number of levels that may stand below the declaration.
use Rattle.std.specs.Prelude.{◌≡◌, ℕ, suc, ◌≤◌, ◌-◌, Bool, true, max, nat_lt, List, [], ◌∷◌, ◌++◌, Some, None}
use Rattle.c_ast.specs.declared.token.Span.{Span}
use Rattle.c_ast.specs.Seen.{Seen as Token}
use Rattle.c_ast.specs.declared.expr.CType.{CType}
use Rattle.c_ast.specs.declared.punctuator.Punctuator.TheVariants as mark
use Rattle.c_grammar.specs.Words.{IsPunct, punctuator}
use Rattle.c_parse_base.specs.Reading.Answer.{Parser, thens, makes, either, chain, optional}
use Rattle.c_parse_base.specs.Reading.Good.{Language}
use Rattle.c_parse_base.specs.Reading.Languages.{Then, Either, Chain, Made}
use Rattle.c_parse_base.specs.Reading.Words.{is, punct, Spot, among}
use Rattle.c_grammar.specs.Objects as grammar
use Rattle.c_parse_base.specs.Reading.TypeNames as types
use Rattle.c_parse_decl.specs.declared.declarators.declared.Declared.{Declared}
use Rattle.c_parse_decl.specs.Reading.Declarators.{StarredWord, BracketedWord, starred, bracketed, declarator}
use Rattle.c_parse_decl.specs.declared.initializers.init_read.InitRead.{InitRead}
use Rattle.c_parse_decl.specs.Reading.Initializers.{InitialWord, initial}
use Rattle.c_parse_decl.specs.declared.objects.objects_read.ObjectRead.{ObjectRead}
use Rattle.c_parse_decl.specs.declared.objects.objects_read.ObjectsRead.{ObjectsRead}

abbrev pub Reader : Type 0
Reader = Parser Token ObjectsRead

abbrev pub ObjectReader : Type 0
ObjectReader = Parser Token ObjectRead

abbrev pub Low : ℕ → ObjectsRead → Type 0
Low d v = v.height ≤ d

-- ---- objects, and lists of them

-- a declarator alone
abbrev pub plain_of : Declared → ObjectRead
plain_of a = record { decl = record { name = a.name; ty = a.ty; init = None; span = a.span }; height = a.height }

-- with an initializer behind it, whose expression is two levels below the declaration
abbrev pub valued : ObjectRead → InitRead → ObjectRead
valued a i = record {
  decl = record { name = a.decl.name; ty = a.decl.ty; init = Some i.init; span = record { start = a.decl.span.start; end = i.end } };
  height = max a.height (suc (suc i.height));
}

abbrev pub one_object : ObjectRead → ObjectsRead
one_object a = record { decls = a.decl ∷ []; height = a.height }

abbrev pub more_objects : ObjectsRead → ObjectRead → ObjectsRead
more_objects a b = record { decls = a.decls ++ b.decl ∷ []; height = max a.height b.height }

-- ---- the parsers

abbrev pub equal : Token → Bool
equal = is (punctuator mark.Equal)

abbrev pub comma : Token → Bool
comma = is (punctuator mark.Comma)

-- two levels are left
abbrev pub room : ℕ → Bool
room d = nat_lt 1 d

-- there is always room
abbrev pub free : {A : Type 0} → A → Bool
free a = true

module _ (d : ℕ) where
  -- "=" initial, behind a declarator
  unfoldable pub value : ObjectRead → ObjectReader
  value a = makes (λ c. valued a c.1) (thens (punct mark.Equal) (λ _. initial (d - 2)))

  module _ (base : CType) where
    -- declr [ "=" initial ]
    unfoldable pub object : ObjectReader
    object = optional equal free (λ _. room d) (makes plain_of (declarator d base)) value

    -- "," init
    unfoldable pub further : ObjectsRead → Reader
    further a = makes (λ c. more_objects a c.1) (thens (punct mark.Comma) (λ _. object))

    -- "," init { "," init }, behind others
    unfoldable pub list : ObjectsRead → Reader
    list a = chain comma free (further a) further

    -- { "," init } ";", behind others
    unfoldable pub ended : ObjectsRead → Reader
    ended a = either comma true (makes (λ c. c.0) (thens (list a) (λ _. punct mark.Semicolon))) (makes (λ _. a) (punct mark.Semicolon))

    -- [ "=" initial ] { "," init } ";", behind a declarator
    unfoldable pub valued_rest : Declared → Reader
    valued_rest a = either equal (room d) (makes (λ c. c.1) (thens (value (plain_of a)) (λ b. ended (one_object b))))
        (ended (one_object (plain_of a)))

    -- what is left of a declaration behind the base and the first name: brackets, an initializer, further objects and the semicolon
    unfoldable pub rest : Declared → Reader
    rest a = either (is (punctuator mark.LeftBracket)) (nat_lt a.height d) (makes (λ c. c.1) (thens (bracketed d a) valued_rest))
        (valued_rest a)

    -- stars NAME, and what is left behind it
    unfoldable pub named : Reader
    named = makes (λ c. c.1) (thens (starred d base) rest)

  -- base inits ";"
  unfoldable pub local : Reader
  local = makes (λ c. c.1) (thens types.base (λ b. named b.ty))

-- ---- the languages

-- a declaration in a block
abbrev pub LocalWord : Language Token ObjectsRead
LocalWord v w = grammar.Local v.height v.decls w

abbrev pub ObjectWord : CType → Language Token ObjectRead
ObjectWord base v w = grammar.Object base v.height v.decl w

-- "=" initial, behind a declarator
abbrev pub ValueWord : ObjectRead → Language Token ObjectRead
ValueWord a = Made (λ (c : Span × InitRead). valued a c.1) (Then (Spot (punctuator mark.Equal)) (λ _. InitialWord))

-- "," init
abbrev pub FurtherWord : CType → ObjectsRead → Language Token ObjectsRead
FurtherWord base a = Made (λ (c : Span × ObjectRead). more_objects a c.1) (Then (Spot (punctuator mark.Comma)) (λ _. ObjectWord base))

-- "," init { "," init }
abbrev pub ListWord : CType → ObjectsRead → Language Token ObjectsRead
ListWord base a = Chain (FurtherWord base a) (FurtherWord base)

abbrev pub ListedWord : CType → ObjectsRead → Language Token ObjectsRead
ListedWord base a = Made (λ (c : ObjectsRead × Span). c.0) (Then (ListWord base a) (λ _. Spot (punctuator mark.Semicolon)))

abbrev pub LastWord : ObjectsRead → Language Token ObjectsRead
LastWord a = Made (λ (p : Span). a) (Spot (punctuator mark.Semicolon))

-- { "," init } ";"
abbrev pub EndedWord : CType → ObjectsRead → Language Token ObjectsRead
EndedWord base a = Either (ListedWord base a) (LastWord a)

abbrev pub ValuedWord : CType → Declared → Language Token ObjectsRead
ValuedWord base a = Made (λ (c : ObjectRead × ObjectsRead). c.1) (Then (ValueWord (plain_of a)) (λ b. EndedWord base (one_object b)))

-- [ "=" initial ] { "," init } ";"
abbrev pub ValuedRestWord : CType → Declared → Language Token ObjectsRead
ValuedRestWord base a = Either (ValuedWord base a) (EndedWord base (one_object (plain_of a)))

abbrev pub BracketRestWord : CType → Declared → Language Token ObjectsRead
BracketRestWord base a = Made (λ (c : Declared × ObjectsRead). c.1) (Then (BracketedWord a) (ValuedRestWord base))

-- what is left of a declaration behind the base and the first name: brackets, an initializer, further objects and the semicolon
unfoldable pub RestWord : CType → Declared → Language Token ObjectsRead
RestWord base a = Either (BracketRestWord base a) (ValuedRestWord base a)

-- these tokens are the objects behind a first name, and a semicolon
pub record ObjectsBehind (base : CType) (u : List Token) (v : ObjectsRead) (w : List Token) : Type 0 where
  pub list : List Token
  pub semicolon : Token
  pub parts : w ≡ list ++ semicolon ∷ []
  pub is_semicolon : IsPunct mark.Semicolon semicolon
  pub objects : grammar.Objects base v.height v.decls (u ++ list)

-- objects and a semicolon, by their first name and what is left
pub record ByFirstName (base : CType) (v : ObjectsRead) (w : List Token) : Type 0 where
  pub first : Declared
  pub before : List Token
  pub behind : List Token
  pub parts : w ≡ before ++ behind
  pub starred : StarredWord base first before
  pub rest : RestWord base first v behind

-- the tokens with which it begins
abbrev pub begins_rest : Token → Bool
begins_rest = among (punctuator mark.LeftBracket ∷ punctuator mark.Equal ∷ punctuator mark.Comma ∷ punctuator mark.Semicolon ∷ [])
