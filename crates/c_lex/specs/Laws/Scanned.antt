-- Which bytes spell which token, as the scanner finds it, and that it is how the definitions say.
use Rattle.std.specs.Prelude.{◌≡◌, ℕ, IsTrue, List, Some, None}
use Rattle.c_ast.specs.declared.token.Lexeme.{Lexeme}
use Rattle.c_ast.specs.declared.token.Lexeme.TheVariants.{Include, Name, Number, Character, Text, Keyword, Punct}
use Rattle.c_ast.specs.Words.{keyword_of, punctuator_of}
use Rattle.c_lex.specs.Scan.Numeral.{is_numeral, numeral_value, numeral_type}
use Rattle.c_lex.specs.Scan.Quoted.{character_of, text_of}
use Rattle.c_lex.specs.Directive.{is_include}
use Rattle.c_lex.specs.Number.{is_preprocessing_number}
use Rattle.c_lex.specs.Spelling.{is_identifier, Spells}
use Rattle.c_lex.specs.Laws.Literals.{character-spelled, spelled-character, text-spelled, spelled-text}
use Rattle.c_lex.specs.Laws.Constants.{numeral-constant, constant-numeral}
use Rattle.c_lex.specs.Laws.ConstantNumbers.{constant-number}

unfoldable pub Scans : Lexeme → List ℕ → Type 0
Scans Include bytes = IsTrue (is_include bytes)
Scans (Name name) bytes = IsTrue (is_identifier bytes) × (keyword_of bytes ≡ None) × (name ≡ bytes)
Scans (Number value ty) bytes =
    IsTrue (is_preprocessing_number bytes) × IsTrue (is_numeral bytes) × (value ≡ numeral_value bytes) × (numeral_type bytes ≡ Some ty)
Scans (Character value) bytes = character_of bytes ≡ Some value
Scans (Text values) bytes = text_of bytes ≡ Some values
Scans (Keyword number) bytes = keyword_of bytes ≡ Some number
Scans (Punct number) bytes = punctuator_of bytes ≡ Some number

pub spells-scans : (kind : Lexeme) (bytes : List ℕ) → Spells kind bytes → Scans kind bytes
unfolding Spells Scans
spells-scans Include bytes spells = spells
spells-scans (Name name) bytes spells = spells
spells-scans (Number value ty) bytes spells =
    let found = constant-numeral value ty bytes spells in
    (constant-number value ty bytes spells, found.0, found.1, found.2)
spells-scans (Character value) bytes spells = spelled-character value bytes spells
spells-scans (Text values) bytes spells = spelled-text values bytes spells
spells-scans (Keyword number) bytes spells = spells
spells-scans (Punct number) bytes spells = spells

pub scans-spells : (kind : Lexeme) (bytes : List ℕ) → Scans kind bytes → Spells kind bytes
unfolding Spells Scans
scans-spells Include bytes scans = scans
scans-spells (Name name) bytes scans = scans
scans-spells (Number value ty) bytes scans = numeral-constant value ty bytes scans.1 scans.2 scans.3
scans-spells (Character value) bytes scans = character-spelled value bytes scans
scans-spells (Text values) bytes scans = text-spelled values bytes scans
scans-spells (Keyword number) bytes scans = scans
scans-spells (Punct number) bytes scans = scans
