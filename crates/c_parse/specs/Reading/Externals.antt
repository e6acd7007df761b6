-- The parser of translation units (ISO C11 6.7, 6.9), by the number of levels.
use Rattle.std.specs.Prelude.{ℕ, ◌+◌, Bool, true, ◌&&◌, ◌||◌, ◌==◌, if◌then◌else◌, Option, Some, None, is_some}
use Rattle.c_ast.specs.Seen.{Seen as Token}
use Rattle.c_ast.specs.declared.token.Lexeme.{Lexeme}
use Rattle.c_ast.specs.declared.token.Lexeme.TheVariants as lexeme
use Rattle.c_ast.specs.declared.expr.CType.{CType}
use Rattle.c_ast.specs.declared.declaration.Storage.{Storage}
use Rattle.c_ast.specs.declared.declaration.Storage.TheVariants as storage
use Rattle.c_ast.specs.declared.keyword.Keyword.TheVariants as key
use Rattle.c_ast.specs.declared.punctuator.Punctuator.TheVariants as mark
use Rattle.c_grammar.specs.Words.{word_of, keyword, punctuator}
use Rattle.c_parse_base.specs.Reading.Answer.{Parser, word, thens, makes, either, optional, chain}
use Rattle.c_parse_base.specs.Reading.Spans.{starting}
use Rattle.c_parse_base.specs.Reading.Words.{is, punct}
use Rattle.c_parse_base.specs.Reading.TypeNames.{base, begins_type}
use Rattle.c_parse_decl.specs.declared.declarators.declared.Declared.{Declared}
use Rattle.c_parse_decl.specs.Reading.Declarators.{starred}
use Rattle.c_parse_decl.specs.declared.parameter_list.parameters_read.ParametersRead.{ParametersRead}
use Rattle.c_parse_decl.specs.Reading.Parameters.{parameters}
use Rattle.c_parse_decl.specs.Reading.Objects.{rest}
use Rattle.c_parse_decl.specs.Reading.Members.{body}
use Rattle.c_parse_stmt.specs.Reading.Statements.{block}
use Rattle.c_parse.specs.declared.head.Head.{Head}
use Rattle.c_parse.specs.declared.head.Specifiers.{Specifiers}
use Rattle.c_parse.specs.declared.behind.Ending.{Ending}
use Rattle.c_parse.specs.declared.behind.Behind.{Behind}
use Rattle.c_parse.specs.declared.behind.Behind.TheVariants as behind
use Rattle.c_parse.specs.declared.externals.Externals.{Externals}
use Rattle.c_parse.specs.Reading.Values.{plain_head, with_body, is_struct, stored, unstored, is_lone, no_body, body_of, function_of}
use Rattle.c_parse.specs.Reading.Values.{external_of, include_line, more_externals}

-- the first parser where it is allowed and the next token is one of its own, and else the second
abbrev pub allowed : {A : Type 0} → Bool → (Token → Bool) → Parser Token A → Parser Token A → Parser Token A
allowed may test p q = either (λ t. may && test t) may p q

-- So many levels may stand below those of a declaration and of what it holds: below a member, below a parameter. Those two levels are
-- within any limit of two at least.

-- ---- types at file scope

-- the storage class that a word is (6.7.1)
unfoldable pub storage_at : ℕ → Option Storage
storage_at w = if w == keyword key.Static then Some storage.Static else (if w == keyword key.Extern then Some storage.Extern else None)

abbrev pub from_start : ℕ → Option Storage → Option (Storage × ℕ)
from_start start None = None
from_start start (Some c) = Some (c, start)

-- a storage class, and where it starts
abbrev pub pick_storage : Token → Option (Storage × ℕ)
pick_storage t = from_start t.start (storage_at (word_of t))

abbrev pub is_storage : Token → Bool
is_storage t = is_some (storage_at (word_of t))

-- a type without a body
unfoldable pub plain : Parser Token Head
plain = makes plain_head (starting base)

-- the body of a struct: its members are level 2
unfoldable pub body_behind : ℕ → Head → Parser Token Head
body_behind d a = makes (with_body a) (body d)

-- base | "struct" NAME body
unfoldable pub head : ℕ → Parser Token Head
head d = optional (is (punctuator mark.LeftBrace)) is_struct (λ _. true) plain (body_behind d)

-- storage head
unfoldable pub stored_head : ℕ → Parser Token Specifiers
stored_head d = makes stored (thens (word pick_storage) (λ _. head d))

-- [ storage ] head
unfoldable pub specifiers : ℕ → Parser Token Specifiers
specifiers d = either is_storage true (stored_head d) (makes unstored (head d))

-- ---- what stands behind them

-- ";", or a block where all parameters have names
unfoldable pub ending : ℕ → ParametersRead → Parser Token Ending
ending d p = allowed p.all_named (is (punctuator mark.LeftBrace)) (makes body_of (block (d + 1))) (makes no_body (punct mark.Semicolon))

-- params ( ";" | block )
unfoldable pub function : ℕ → Declared → Parser Token Behind
function d a = makes (function_of a) (thens (parameters d) (ending d))

-- what is left behind the first name
unfoldable pub after_name : ℕ → CType → Declared → Parser Token Behind
after_name d of a = either (is (punctuator mark.LeftParen)) true (function d a) (makes behind.Objects (rest (d + 1) of a))

-- stars NAME, and what is left
unfoldable pub named : ℕ → CType → Parser Token Behind
named d of = makes (λ c. c.1) (thens (starred (d + 1) of) (after_name d of))

-- ";" alone, or a name and what is left
unfoldable pub tail : ℕ → Specifiers → Parser Token Behind
tail d s = allowed (is_lone s) (is (punctuator mark.Semicolon)) (makes (λ _. behind.Lone) (punct mark.Semicolon)) (named d s.head.base)

-- ---- external declarations

-- a declaration or a definition
unfoldable pub declaration : ℕ → Parser Token Externals
declaration d = makes external_of (thens (specifiers d) (tail d))

abbrev pub included_at : Lexeme → Option Externals
included_at lexeme.Include = Some include_line
included_at _ = None

-- the line `#include <stdio.h>` (6.10.2)
abbrev pub pick_include : Token → Option Externals
pick_include t = included_at t.kind

abbrev pub is_include : Token → Bool
is_include t = is_some (pick_include t)

abbrev pub begins_declaration : Token → Bool
begins_declaration t = is_storage t || begins_type t

-- the tokens with which an external declaration begins
abbrev pub begins_external : Token → Bool
begins_external t = begins_declaration t || is_include t

-- an external declaration
unfoldable pub external : ℕ → Parser Token Externals
external d = either begins_declaration true (declaration d) (word pick_include)

-- one more external declaration
unfoldable pub next_external : ℕ → Externals → Parser Token Externals
next_external d a = makes (more_externals a) (external d)

-- one external declaration or more
unfoldable pub unit : ℕ → Parser Token Externals
unit d = chain begins_external (λ _. true) (external d) (next_external d)
