-- Which bytes spell which token (C11 6.4).
use Rattle.std.specs.Prelude.{◌≡◌, ℕ, Bool, IsTrue, false, ◌&&◌, List, [], ◌∷◌, Some, None}
use Rattle.std.specs.List.{list_all}
use Rattle.c_ast.specs.declared.token.Lexeme.{Lexeme}
use Rattle.c_ast.specs.declared.token.Lexeme.TheVariants.{Include, Name, Number, Character, Text, Keyword, Punct}
use Rattle.c_ast.specs.Words.{keyword_of, punctuator_of}
use Rattle.c_lex.specs.Bytes.{is_letter, is_word}
use Rattle.c_lex.specs.Constant.{IsConstant}
use Rattle.c_lex.specs.Written.{IsCharacter, IsText}
use Rattle.c_lex.specs.Directive.{is_include}

-- a letter or `_`, then letters, digits and `_` (C11 6.4.2.1)
abbrev pub is_identifier : List ℕ → Bool
is_identifier [] = false
is_identifier (b ∷ rest) = is_letter b && list_all is_word rest

-- These bytes alone are this token. A name is its own spelling and no keyword; keywords and punctuators are spelled
-- by their lists; a number is an integer constant of its value and type; a character and a string have the values of
-- their bytes as they are written.
unfoldable pub Spells : Lexeme → List ℕ → Type 0
Spells Include bytes = IsTrue (is_include bytes)
Spells (Name name) bytes = IsTrue (is_identifier bytes) × (keyword_of bytes ≡ None) × (name ≡ bytes)
Spells (Number value ty) bytes = IsConstant value ty bytes
Spells (Character value) bytes = IsCharacter value bytes
Spells (Text values) bytes = IsText values bytes
Spells (Keyword number) bytes = keyword_of bytes ≡ Some number
Spells (Punct number) bytes = punctuator_of bytes ≡ Some number
