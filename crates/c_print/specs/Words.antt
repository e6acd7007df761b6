-- Words that printing puts between the parts of a tree.
use Rattle.std.specs.Prelude.{ℕ, zero, suc, List, [], ◌∷◌, ◌++◌, flat_map}
use Rattle.c_ast.specs.declared.token.Lexeme.{Lexeme}
use Rattle.c_ast.specs.declared.token.Lexeme.TheVariants as lexeme
use Rattle.c_ast.specs.declared.keyword.Keyword.{Keyword}
use Rattle.c_ast.specs.declared.punctuator.Punctuator.{Punctuator}
use Rattle.c_ast.specs.declared.punctuator.Punctuator.TheVariants as mark
use Rattle.c_ast.specs.Words.{keyword_number, punctuator_number}

-- the lexeme of a keyword
abbrev pub word : Keyword → Lexeme
word k = lexeme.Keyword (keyword_number k)

-- the lexeme of a punctuator
abbrev pub punct : Punctuator → Lexeme
punct p = lexeme.Punct (punctuator_number p)

abbrev pub after_comma : List Lexeme → List Lexeme
after_comma w = punct mark.Comma ∷ w

-- several parts, with a comma between each and the next
abbrev pub with_commas : List (List Lexeme) → List Lexeme
with_commas [] = []
with_commas (w ∷ ws) = w ++ flat_map after_comma ws

-- what stands before the part of this number, counted from 0
abbrev pub separator : ℕ → List Lexeme
separator zero = []
separator (suc n) = punct mark.Comma ∷ []
