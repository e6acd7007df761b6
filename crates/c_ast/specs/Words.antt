-- How the keywords and the punctuators are spelled and numbered.
use Rattle.std.specs.Prelude.{ℕ, Option, List, [], ◌∷◌, codes}
use Rattle.std.specs.List.{position_from}
use Rattle.std.specs.Str.{bytes_eq}
use Rattle.c_ast.specs.declared.keyword.Keyword.{Keyword}
use Rattle.c_ast.specs.declared.keyword.Keyword.TheVariants as keyword
use Rattle.c_ast.specs.declared.punctuator.Punctuator.{Punctuator}
use Rattle.c_ast.specs.declared.punctuator.Punctuator.TheVariants as punctuator

-- the keywords in the order of C11 6.4.1: a keyword's number is its place in this list
abbrev pub keywords : List (List ℕ)
keywords =
    codes "auto" ∷ codes "break" ∷ codes "case" ∷ codes "char" ∷ codes "const" ∷ codes "continue" ∷ codes "default" ∷ codes "do" ∷
    codes "double" ∷ codes "else" ∷ codes "enum" ∷ codes "extern" ∷ codes "float" ∷ codes "for" ∷ codes "goto" ∷ codes "if" ∷
    codes "inline" ∷ codes "int" ∷ codes "long" ∷ codes "register" ∷ codes "restrict" ∷ codes "return" ∷ codes "short" ∷ codes "signed" ∷
    codes "sizeof" ∷ codes "static" ∷ codes "struct" ∷ codes "switch" ∷ codes "typedef" ∷ codes "union" ∷ codes "unsigned" ∷ codes "void" ∷
    codes "volatile" ∷ codes "while" ∷ codes "_Alignas" ∷ codes "_Alignof" ∷ codes "_Atomic" ∷ codes "_Bool" ∷ codes "_Complex"
    ∷ codes "_Generic" ∷
    codes "_Imaginary" ∷ codes "_Noreturn" ∷ codes "_Static_assert" ∷ codes "_Thread_local" ∷ []

-- the punctuators of the profile: a punctuator's number is its place in this list
abbrev pub punctuators : List (List ℕ)
punctuators =
    codes "{" ∷ codes "}" ∷ codes "(" ∷ codes ")" ∷ codes "[" ∷ codes "]" ∷ codes ";" ∷ codes "," ∷ codes "." ∷ codes "->" ∷ codes "++"
    ∷ codes "--" ∷
    codes "&" ∷ codes "*" ∷ codes "+" ∷ codes "-" ∷ codes "~" ∷ codes "!" ∷ codes "/" ∷ codes "%" ∷ codes "<<" ∷ codes ">>" ∷ codes "<"
    ∷ codes ">" ∷
    codes "<=" ∷ codes ">=" ∷ codes "==" ∷ codes "!=" ∷ codes "^" ∷ codes "|" ∷ codes "&&" ∷ codes "||" ∷ codes "?" ∷ codes ":" ∷ codes "="
    ∷ codes "+=" ∷
    codes "-=" ∷ codes "*=" ∷ codes "/=" ∷ codes "%=" ∷ codes "<<=" ∷ codes ">>=" ∷ codes "&=" ∷ codes "^=" ∷ codes "|=" ∷ []

-- the number of each keyword
abbrev pub keyword_number : Keyword → ℕ
keyword_number keyword.Auto = 0
keyword_number keyword.Break = 1
keyword_number keyword.Case = 2
keyword_number keyword.Char = 3
keyword_number keyword.Const = 4
keyword_number keyword.Continue = 5
keyword_number keyword.Default = 6
keyword_number keyword.Do = 7
keyword_number keyword.Double = 8
keyword_number keyword.Else = 9
keyword_number keyword.Enum = 10
keyword_number keyword.Extern = 11
keyword_number keyword.Float = 12
keyword_number keyword.For = 13
keyword_number keyword.Goto = 14
keyword_number keyword.If = 15
keyword_number keyword.Inline = 16
keyword_number keyword.Int = 17
keyword_number keyword.Long = 18
keyword_number keyword.Register = 19
keyword_number keyword.Restrict = 20
keyword_number keyword.Return = 21
keyword_number keyword.Short = 22
keyword_number keyword.Signed = 23
keyword_number keyword.Sizeof = 24
keyword_number keyword.Static = 25
keyword_number keyword.Struct = 26
keyword_number keyword.Switch = 27
keyword_number keyword.Typedef = 28
keyword_number keyword.Union = 29
keyword_number keyword.Unsigned = 30
keyword_number keyword.Void = 31
keyword_number keyword.Volatile = 32
keyword_number keyword.While = 33
keyword_number keyword.Alignas = 34
keyword_number keyword.Alignof = 35
keyword_number keyword.Atomic = 36
keyword_number keyword.Bool = 37
keyword_number keyword.Complex = 38
keyword_number keyword.Generic = 39
keyword_number keyword.Imaginary = 40
keyword_number keyword.Noreturn = 41
keyword_number keyword.StaticAssert = 42
keyword_number keyword.ThreadLocal = 43

-- the number of each punctuator
abbrev pub punctuator_number : Punctuator → ℕ
punctuator_number punctuator.LeftBrace = 0
punctuator_number punctuator.RightBrace = 1
punctuator_number punctuator.LeftParen = 2
punctuator_number punctuator.RightParen = 3
punctuator_number punctuator.LeftBracket = 4
punctuator_number punctuator.RightBracket = 5
punctuator_number punctuator.Semicolon = 6
punctuator_number punctuator.Comma = 7
punctuator_number punctuator.Dot = 8
punctuator_number punctuator.Arrow = 9
punctuator_number punctuator.PlusPlus = 10
punctuator_number punctuator.MinusMinus = 11
punctuator_number punctuator.Ampersand = 12
punctuator_number punctuator.Star = 13
punctuator_number punctuator.Plus = 14
punctuator_number punctuator.Minus = 15
punctuator_number punctuator.Tilde = 16
punctuator_number punctuator.Exclamation = 17
punctuator_number punctuator.Slash = 18
punctuator_number punctuator.Percent = 19
punctuator_number punctuator.ShiftLeft = 20
punctuator_number punctuator.ShiftRight = 21
punctuator_number punctuator.Less = 22
punctuator_number punctuator.Greater = 23
punctuator_number punctuator.LessEqual = 24
punctuator_number punctuator.GreaterEqual = 25
punctuator_number punctuator.EqualEqual = 26
punctuator_number punctuator.ExclamationEqual = 27
punctuator_number punctuator.Caret = 28
punctuator_number punctuator.Bar = 29
punctuator_number punctuator.AmpersandAmpersand = 30
punctuator_number punctuator.BarBar = 31
punctuator_number punctuator.Question = 32
punctuator_number punctuator.Colon = 33
punctuator_number punctuator.Equal = 34
punctuator_number punctuator.PlusEqual = 35
punctuator_number punctuator.MinusEqual = 36
punctuator_number punctuator.StarEqual = 37
punctuator_number punctuator.SlashEqual = 38
punctuator_number punctuator.PercentEqual = 39
punctuator_number punctuator.ShiftLeftEqual = 40
punctuator_number punctuator.ShiftRightEqual = 41
punctuator_number punctuator.AmpersandEqual = 42
punctuator_number punctuator.CaretEqual = 43
punctuator_number punctuator.BarEqual = 44

-- how each keyword is spelled (C11 6.4.1)
abbrev pub spelling_of : Keyword → List ℕ
spelling_of keyword.Auto = codes "auto"
spelling_of keyword.Break = codes "break"
spelling_of keyword.Case = codes "case"
spelling_of keyword.Char = codes "char"
spelling_of keyword.Const = codes "const"
spelling_of keyword.Continue = codes "continue"
spelling_of keyword.Default = codes "default"
spelling_of keyword.Do = codes "do"
spelling_of keyword.Double = codes "double"
spelling_of keyword.Else = codes "else"
spelling_of keyword.Enum = codes "enum"
spelling_of keyword.Extern = codes "extern"
spelling_of keyword.Float = codes "float"
spelling_of keyword.For = codes "for"
spelling_of keyword.Goto = codes "goto"
spelling_of keyword.If = codes "if"
spelling_of keyword.Inline = codes "inline"
spelling_of keyword.Int = codes "int"
spelling_of keyword.Long = codes "long"
spelling_of keyword.Register = codes "register"
spelling_of keyword.Restrict = codes "restrict"
spelling_of keyword.Return = codes "return"
spelling_of keyword.Short = codes "short"
spelling_of keyword.Signed = codes "signed"
spelling_of keyword.Sizeof = codes "sizeof"
spelling_of keyword.Static = codes "static"
spelling_of keyword.Struct = codes "struct"
spelling_of keyword.Switch = codes "switch"
spelling_of keyword.Typedef = codes "typedef"
spelling_of keyword.Union = codes "union"
spelling_of keyword.Unsigned = codes "unsigned"
spelling_of keyword.Void = codes "void"
spelling_of keyword.Volatile = codes "volatile"
spelling_of keyword.While = codes "while"
spelling_of keyword.Alignas = codes "_Alignas"
spelling_of keyword.Alignof = codes "_Alignof"
spelling_of keyword.Atomic = codes "_Atomic"
spelling_of keyword.Bool = codes "_Bool"
spelling_of keyword.Complex = codes "_Complex"
spelling_of keyword.Generic = codes "_Generic"
spelling_of keyword.Imaginary = codes "_Imaginary"
spelling_of keyword.Noreturn = codes "_Noreturn"
spelling_of keyword.StaticAssert = codes "_Static_assert"
spelling_of keyword.ThreadLocal = codes "_Thread_local"

-- how each punctuator is spelled (C11 6.4.6)
abbrev pub spelling_of_punctuator : Punctuator → List ℕ
spelling_of_punctuator punctuator.LeftBrace = codes "{"
spelling_of_punctuator punctuator.RightBrace = codes "}"
spelling_of_punctuator punctuator.LeftParen = codes "("
spelling_of_punctuator punctuator.RightParen = codes ")"
spelling_of_punctuator punctuator.LeftBracket = codes "["
spelling_of_punctuator punctuator.RightBracket = codes "]"
spelling_of_punctuator punctuator.Semicolon = codes ";"
spelling_of_punctuator punctuator.Comma = codes ","
spelling_of_punctuator punctuator.Dot = codes "."
spelling_of_punctuator punctuator.Arrow = codes "->"
spelling_of_punctuator punctuator.PlusPlus = codes "++"
spelling_of_punctuator punctuator.MinusMinus = codes "--"
spelling_of_punctuator punctuator.Ampersand = codes "&"
spelling_of_punctuator punctuator.Star = codes "*"
spelling_of_punctuator punctuator.Plus = codes "+"
spelling_of_punctuator punctuator.Minus = codes "-"
spelling_of_punctuator punctuator.Tilde = codes "~"
spelling_of_punctuator punctuator.Exclamation = codes "!"
spelling_of_punctuator punctuator.Slash = codes "/"
spelling_of_punctuator punctuator.Percent = codes "%"
spelling_of_punctuator punctuator.ShiftLeft = codes "<<"
spelling_of_punctuator punctuator.ShiftRight = codes ">>"
spelling_of_punctuator punctuator.Less = codes "<"
spelling_of_punctuator punctuator.Greater = codes ">"
spelling_of_punctuator punctuator.LessEqual = codes "<="
spelling_of_punctuator punctuator.GreaterEqual = codes ">="
spelling_of_punctuator punctuator.EqualEqual = codes "=="
spelling_of_punctuator punctuator.ExclamationEqual = codes "!="
spelling_of_punctuator punctuator.Caret = codes "^"
spelling_of_punctuator punctuator.Bar = codes "|"
spelling_of_punctuator punctuator.AmpersandAmpersand = codes "&&"
spelling_of_punctuator punctuator.BarBar = codes "||"
spelling_of_punctuator punctuator.Question = codes "?"
spelling_of_punctuator punctuator.Colon = codes ":"
spelling_of_punctuator punctuator.Equal = codes "="
spelling_of_punctuator punctuator.PlusEqual = codes "+="
spelling_of_punctuator punctuator.MinusEqual = codes "-="
spelling_of_punctuator punctuator.StarEqual = codes "*="
spelling_of_punctuator punctuator.SlashEqual = codes "/="
spelling_of_punctuator punctuator.PercentEqual = codes "%="
spelling_of_punctuator punctuator.ShiftLeftEqual = codes "<<="
spelling_of_punctuator punctuator.ShiftRightEqual = codes ">>="
spelling_of_punctuator punctuator.AmpersandEqual = codes "&="
spelling_of_punctuator punctuator.CaretEqual = codes "^="
spelling_of_punctuator punctuator.BarEqual = codes "|="

-- the first place of a list at which these bytes stand
abbrev pub place_of : List ℕ → List (List ℕ) → Option ℕ
place_of bytes = position_from (λ spelled. bytes_eq spelled bytes) 0

-- the number of the keyword that the bytes spell
unfoldable pub keyword_of : List ℕ → Option ℕ
keyword_of bytes = place_of bytes keywords

-- the number of the punctuator that the bytes spell
unfoldable pub punctuator_of : List ℕ → Option ℕ
punctuator_of bytes = place_of bytes punctuators
