-- The parser of the bodies of structs (ISO C11 6.7.2.1), by the number of levels that may stand below a member.
use Rattle.std.specs.Prelude.{ℕ, max, ◌≤◌, Bool, true, List, [], ◌∷◌, ◌++◌, None}
use Rattle.c_ast.specs.declared.token.Span.{Span}
use Rattle.c_ast.specs.Seen.{Seen as Token}
use Rattle.c_ast.specs.declared.expr.CType.{CType}
use Rattle.c_ast.specs.declared.declaration.Decl.{Decl}
use Rattle.c_ast.specs.declared.punctuator.Punctuator.TheVariants as mark
use Rattle.c_grammar.specs.Words.{IsPunct, end_of, punctuator}
use Rattle.c_grammar.specs.Structs.{Members}
use Rattle.c_parse_base.specs.Reading.Answer.{Parser, thens, makes, chain}
use Rattle.c_parse_base.specs.Reading.Words.{is, punct}
use Rattle.c_parse_base.specs.Reading.TypeNames.{begins_type, base}
use Rattle.c_parse_decl.specs.declared.declarators.declared.Declared.{Declared}
use Rattle.c_parse_decl.specs.Reading.Declarators.{declarator}
use Rattle.c_parse_decl.specs.declared.members.member_list.MemberList.{MemberList}
use Rattle.c_parse_decl.specs.declared.members.body_read.BodyRead.{BodyRead}

abbrev pub Reader : Type 0
Reader = Parser Token BodyRead

abbrev pub ListReader : Type 0
ListReader = Parser Token MemberList

-- at most this many levels stand below a member
abbrev pub Low : ℕ → BodyRead → Type 0
Low d v = v.height ≤ d

-- "{" member { member } "}"
pub data BodyWord : BodyRead → List Token → Type 0 where
  in_braces : {h : ℕ} {ds : List Decl} {v : List Token} (l r : Token) → IsPunct mark.LeftBrace l → Members h ds v →
      IsPunct mark.RightBrace r →
      BodyWord (record { members = ds; height = h; end = end_of r }) (l ∷ v ++ r ∷ [])

-- the member that a declarator declares
abbrev pub decl_of : Declared → Decl
decl_of v = record { name = v.name; ty = v.ty; init = None; span = v.span }

abbrev pub no_members : MemberList
no_members = record { decls = []; height = 0 }

-- with one more member behind them
abbrev pub extended : MemberList → Declared → MemberList
extended a v = record { decls = a.decls ++ decl_of v ∷ []; height = max a.height v.height }

-- members in braces, of which the right one stands there
abbrev pub body_of : Span × (MemberList × Span) → BodyRead
body_of c = record { members = c.1.0.decls; height = c.1.0.height; end = c.1.1.end }

-- there is always room for a further member
abbrev pub free : MemberList → Bool
free a = true

module _ (d : ℕ) where
  -- "," declr, behind other members
  unfoldable pub further : CType → MemberList → ListReader
  further of a = makes (λ c. extended a c.1) (thens (punct mark.Comma) (λ _. declarator d of))

  -- declr { "," declr }, behind other members
  unfoldable pub declarators : CType → MemberList → ListReader
  declarators of a = chain (is (punctuator mark.Comma)) free (makes (extended a) (declarator d of)) (further of)

  -- likewise, and ";"
  unfoldable pub ended : CType → MemberList → ListReader
  ended of a = makes (λ c. c.0) (thens (declarators of a) (λ _. punct mark.Semicolon))

  -- member, behind other members
  unfoldable pub member : MemberList → ListReader
  member a = makes (λ c. c.1) (thens base (λ b. ended b.ty a))

  -- member { member }
  unfoldable pub members : ListReader
  members = chain begins_type free (member no_members) member

  unfoldable pub body : Reader
  body = makes body_of (thens (punct mark.LeftBrace) (λ _. thens members (λ _. punct mark.RightBrace)))
