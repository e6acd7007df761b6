-- Names, spellings and numbers agree: what the crates above may cite.
use Rattle.std.specs.Prelude.{◌≡◌, List, [], ◌∷◌, refl, Some}
use Rattle.std.proofs.Common.{ap, sym, ◌∙◌, get_or}
use Rattle.c_ast.specs.declared.keyword.Keyword.{Keyword}
use Rattle.c_ast.specs.declared.keyword.Keyword.TheVariants as keyword
use Rattle.c_ast.specs.declared.punctuator.Punctuator.{Punctuator}
use Rattle.c_ast.specs.declared.punctuator.Punctuator.TheVariants as punctuator
use Rattle.c_ast.specs.Words.{keyword_number, keyword_of, spelling_of, punctuator_number, punctuator_of, spelling_of_punctuator}

-- the spelling of a keyword is read as its number
pub keyword_of-spelling_of : (k : Keyword) → keyword_of (spelling_of k) ≡ Some (keyword_number k)
unfolding keyword_of
keyword_of-spelling_of keyword.Auto = refl
keyword_of-spelling_of keyword.Break = refl
keyword_of-spelling_of keyword.Case = refl
keyword_of-spelling_of keyword.Char = refl
keyword_of-spelling_of keyword.Const = refl
keyword_of-spelling_of keyword.Continue = refl
keyword_of-spelling_of keyword.Default = refl
keyword_of-spelling_of keyword.Do = refl
keyword_of-spelling_of keyword.Double = refl
keyword_of-spelling_of keyword.Else = refl
keyword_of-spelling_of keyword.Enum = refl
keyword_of-spelling_of keyword.Extern = refl
keyword_of-spelling_of keyword.Float = refl
keyword_of-spelling_of keyword.For = refl
keyword_of-spelling_of keyword.Goto = refl
keyword_of-spelling_of keyword.If = refl
keyword_of-spelling_of keyword.Inline = refl
keyword_of-spelling_of keyword.Int = refl
keyword_of-spelling_of keyword.Long = refl
keyword_of-spelling_of keyword.Register = refl
keyword_of-spelling_of keyword.Restrict = refl
keyword_of-spelling_of keyword.Return = refl
keyword_of-spelling_of keyword.Short = refl
keyword_of-spelling_of keyword.Signed = refl
keyword_of-spelling_of keyword.Sizeof = refl
keyword_of-spelling_of keyword.Static = refl
keyword_of-spelling_of keyword.Struct = refl
keyword_of-spelling_of keyword.Switch = refl
keyword_of-spelling_of keyword.Typedef = refl
keyword_of-spelling_of keyword.Union = refl
keyword_of-spelling_of keyword.Unsigned = refl
keyword_of-spelling_of keyword.Void = refl
keyword_of-spelling_of keyword.Volatile = refl
keyword_of-spelling_of keyword.While = refl
keyword_of-spelling_of keyword.Alignas = refl
keyword_of-spelling_of keyword.Alignof = refl
keyword_of-spelling_of keyword.Atomic = refl
keyword_of-spelling_of keyword.Bool = refl
keyword_of-spelling_of keyword.Complex = refl
keyword_of-spelling_of keyword.Generic = refl
keyword_of-spelling_of keyword.Imaginary = refl
keyword_of-spelling_of keyword.Noreturn = refl
keyword_of-spelling_of keyword.StaticAssert = refl
keyword_of-spelling_of keyword.ThreadLocal = refl

-- the spelling of a punctuator is read as its number
pub punctuator_of-spelling_of_punctuator : (p : Punctuator) → punctuator_of (spelling_of_punctuator p) ≡ Some (punctuator_number p)
unfolding punctuator_of
punctuator_of-spelling_of_punctuator punctuator.LeftBrace = refl
punctuator_of-spelling_of_punctuator punctuator.RightBrace = refl
punctuator_of-spelling_of_punctuator punctuator.LeftParen = refl
punctuator_of-spelling_of_punctuator punctuator.RightParen = refl
punctuator_of-spelling_of_punctuator punctuator.LeftBracket = refl
punctuator_of-spelling_of_punctuator punctuator.RightBracket = refl
punctuator_of-spelling_of_punctuator punctuator.Semicolon = refl
punctuator_of-spelling_of_punctuator punctuator.Comma = refl
punctuator_of-spelling_of_punctuator punctuator.Dot = refl
punctuator_of-spelling_of_punctuator punctuator.Arrow = refl
punctuator_of-spelling_of_punctuator punctuator.PlusPlus = refl
punctuator_of-spelling_of_punctuator punctuator.MinusMinus = refl
punctuator_of-spelling_of_punctuator punctuator.Ampersand = refl
punctuator_of-spelling_of_punctuator punctuator.Star = refl
punctuator_of-spelling_of_punctuator punctuator.Plus = refl
punctuator_of-spelling_of_punctuator punctuator.Minus = refl
punctuator_of-spelling_of_punctuator punctuator.Tilde = refl
punctuator_of-spelling_of_punctuator punctuator.Exclamation = refl
punctuator_of-spelling_of_punctuator punctuator.Slash = refl
punctuator_of-spelling_of_punctuator punctuator.Percent = refl
punctuator_of-spelling_of_punctuator punctuator.ShiftLeft = refl
punctuator_of-spelling_of_punctuator punctuator.ShiftRight = refl
punctuator_of-spelling_of_punctuator punctuator.Less = refl
punctuator_of-spelling_of_punctuator punctuator.Greater = refl
punctuator_of-spelling_of_punctuator punctuator.LessEqual = refl
punctuator_of-spelling_of_punctuator punctuator.GreaterEqual = refl
punctuator_of-spelling_of_punctuator punctuator.EqualEqual = refl
punctuator_of-spelling_of_punctuator punctuator.ExclamationEqual = refl
punctuator_of-spelling_of_punctuator punctuator.Caret = refl
punctuator_of-spelling_of_punctuator punctuator.Bar = refl
punctuator_of-spelling_of_punctuator punctuator.AmpersandAmpersand = refl
punctuator_of-spelling_of_punctuator punctuator.BarBar = refl
punctuator_of-spelling_of_punctuator punctuator.Question = refl
punctuator_of-spelling_of_punctuator punctuator.Colon = refl
punctuator_of-spelling_of_punctuator punctuator.Equal = refl
punctuator_of-spelling_of_punctuator punctuator.PlusEqual = refl
punctuator_of-spelling_of_punctuator punctuator.MinusEqual = refl
punctuator_of-spelling_of_punctuator punctuator.StarEqual = refl
punctuator_of-spelling_of_punctuator punctuator.SlashEqual = refl
punctuator_of-spelling_of_punctuator punctuator.PercentEqual = refl
punctuator_of-spelling_of_punctuator punctuator.ShiftLeftEqual = refl
punctuator_of-spelling_of_punctuator punctuator.ShiftRightEqual = refl
punctuator_of-spelling_of_punctuator punctuator.AmpersandEqual = refl
punctuator_of-spelling_of_punctuator punctuator.CaretEqual = refl
punctuator_of-spelling_of_punctuator punctuator.BarEqual = refl

-- the keywords in the order of their numbers
abbrev all_keywords : List Keyword
all_keywords =
    keyword.Auto ∷ keyword.Break ∷ keyword.Case ∷ keyword.Char ∷ keyword.Const ∷ keyword.Continue ∷ keyword.Default ∷ keyword.Do ∷
    keyword.Double ∷ keyword.Else ∷ keyword.Enum ∷ keyword.Extern ∷ keyword.Float ∷ keyword.For ∷ keyword.Goto ∷ keyword.If ∷
    keyword.Inline ∷ keyword.Int ∷ keyword.Long ∷ keyword.Register ∷ keyword.Restrict ∷ keyword.Return ∷ keyword.Short ∷ keyword.Signed ∷
    keyword.Sizeof ∷ keyword.Static ∷ keyword.Struct ∷ keyword.Switch ∷ keyword.Typedef ∷ keyword.Union ∷ keyword.Unsigned ∷ keyword.Void ∷
    keyword.Volatile ∷ keyword.While ∷ keyword.Alignas ∷ keyword.Alignof ∷ keyword.Atomic ∷ keyword.Bool ∷ keyword.Complex
    ∷ keyword.Generic ∷
    keyword.Imaginary ∷ keyword.Noreturn ∷ keyword.StaticAssert ∷ keyword.ThreadLocal ∷ []

-- a keyword stands at its number in the list of all
by-keyword_number : (k : Keyword) → get_or all_keywords (keyword_number k) keyword.Auto ≡ k
by-keyword_number keyword.Auto = refl
by-keyword_number keyword.Break = refl
by-keyword_number keyword.Case = refl
by-keyword_number keyword.Char = refl
by-keyword_number keyword.Const = refl
by-keyword_number keyword.Continue = refl
by-keyword_number keyword.Default = refl
by-keyword_number keyword.Do = refl
by-keyword_number keyword.Double = refl
by-keyword_number keyword.Else = refl
by-keyword_number keyword.Enum = refl
by-keyword_number keyword.Extern = refl
by-keyword_number keyword.Float = refl
by-keyword_number keyword.For = refl
by-keyword_number keyword.Goto = refl
by-keyword_number keyword.If = refl
by-keyword_number keyword.Inline = refl
by-keyword_number keyword.Int = refl
by-keyword_number keyword.Long = refl
by-keyword_number keyword.Register = refl
by-keyword_number keyword.Restrict = refl
by-keyword_number keyword.Return = refl
by-keyword_number keyword.Short = refl
by-keyword_number keyword.Signed = refl
by-keyword_number keyword.Sizeof = refl
by-keyword_number keyword.Static = refl
by-keyword_number keyword.Struct = refl
by-keyword_number keyword.Switch = refl
by-keyword_number keyword.Typedef = refl
by-keyword_number keyword.Union = refl
by-keyword_number keyword.Unsigned = refl
by-keyword_number keyword.Void = refl
by-keyword_number keyword.Volatile = refl
by-keyword_number keyword.While = refl
by-keyword_number keyword.Alignas = refl
by-keyword_number keyword.Alignof = refl
by-keyword_number keyword.Atomic = refl
by-keyword_number keyword.Bool = refl
by-keyword_number keyword.Complex = refl
by-keyword_number keyword.Generic = refl
by-keyword_number keyword.Imaginary = refl
by-keyword_number keyword.Noreturn = refl
by-keyword_number keyword.StaticAssert = refl
by-keyword_number keyword.ThreadLocal = refl

-- no two keywords have one number
pub keyword_number-injective : (k other : Keyword) → keyword_number k ≡ keyword_number other → k ≡ other
keyword_number-injective k other same =
    sym (by-keyword_number k) ∙ ap (λ n. get_or all_keywords n keyword.Auto) same ∙ by-keyword_number other

-- the punctuators in the order of their numbers
abbrev all_punctuators : List Punctuator
all_punctuators =
    punctuator.LeftBrace ∷ punctuator.RightBrace ∷ punctuator.LeftParen ∷ punctuator.RightParen ∷ punctuator.LeftBracket
    ∷ punctuator.RightBracket ∷
    punctuator.Semicolon ∷ punctuator.Comma ∷ punctuator.Dot ∷ punctuator.Arrow ∷ punctuator.PlusPlus ∷ punctuator.MinusMinus ∷
    punctuator.Ampersand ∷ punctuator.Star ∷ punctuator.Plus ∷ punctuator.Minus ∷ punctuator.Tilde ∷ punctuator.Exclamation ∷
    punctuator.Slash ∷ punctuator.Percent ∷ punctuator.ShiftLeft ∷ punctuator.ShiftRight ∷ punctuator.Less ∷ punctuator.Greater ∷
    punctuator.LessEqual ∷ punctuator.GreaterEqual ∷ punctuator.EqualEqual ∷ punctuator.ExclamationEqual ∷ punctuator.Caret
    ∷ punctuator.Bar ∷
    punctuator.AmpersandAmpersand ∷ punctuator.BarBar ∷ punctuator.Question ∷ punctuator.Colon ∷ punctuator.Equal ∷ punctuator.PlusEqual ∷
    punctuator.MinusEqual ∷ punctuator.StarEqual ∷ punctuator.SlashEqual ∷ punctuator.PercentEqual ∷ punctuator.ShiftLeftEqual
    ∷ punctuator.ShiftRightEqual ∷
    punctuator.AmpersandEqual ∷ punctuator.CaretEqual ∷ punctuator.BarEqual ∷ []

-- a punctuator stands at its number in the list of all
by-punctuator_number : (p : Punctuator) → get_or all_punctuators (punctuator_number p) punctuator.LeftBrace ≡ p
by-punctuator_number punctuator.LeftBrace = refl
by-punctuator_number punctuator.RightBrace = refl
by-punctuator_number punctuator.LeftParen = refl
by-punctuator_number punctuator.RightParen = refl
by-punctuator_number punctuator.LeftBracket = refl
by-punctuator_number punctuator.RightBracket = refl
by-punctuator_number punctuator.Semicolon = refl
by-punctuator_number punctuator.Comma = refl
by-punctuator_number punctuator.Dot = refl
by-punctuator_number punctuator.Arrow = refl
by-punctuator_number punctuator.PlusPlus = refl
by-punctuator_number punctuator.MinusMinus = refl
by-punctuator_number punctuator.Ampersand = refl
by-punctuator_number punctuator.Star = refl
by-punctuator_number punctuator.Plus = refl
by-punctuator_number punctuator.Minus = refl
by-punctuator_number punctuator.Tilde = refl
by-punctuator_number punctuator.Exclamation = refl
by-punctuator_number punctuator.Slash = refl
by-punctuator_number punctuator.Percent = refl
by-punctuator_number punctuator.ShiftLeft = refl
by-punctuator_number punctuator.ShiftRight = refl
by-punctuator_number punctuator.Less = refl
by-punctuator_number punctuator.Greater = refl
by-punctuator_number punctuator.LessEqual = refl
by-punctuator_number punctuator.GreaterEqual = refl
by-punctuator_number punctuator.EqualEqual = refl
by-punctuator_number punctuator.ExclamationEqual = refl
by-punctuator_number punctuator.Caret = refl
by-punctuator_number punctuator.Bar = refl
by-punctuator_number punctuator.AmpersandAmpersand = refl
by-punctuator_number punctuator.BarBar = refl
by-punctuator_number punctuator.Question = refl
by-punctuator_number punctuator.Colon = refl
by-punctuator_number punctuator.Equal = refl
by-punctuator_number punctuator.PlusEqual = refl
by-punctuator_number punctuator.MinusEqual = refl
by-punctuator_number punctuator.StarEqual = refl
by-punctuator_number punctuator.SlashEqual = refl
by-punctuator_number punctuator.PercentEqual = refl
by-punctuator_number punctuator.ShiftLeftEqual = refl
by-punctuator_number punctuator.ShiftRightEqual = refl
by-punctuator_number punctuator.AmpersandEqual = refl
by-punctuator_number punctuator.CaretEqual = refl
by-punctuator_number punctuator.BarEqual = refl

-- no two punctuators have one number
pub punctuator_number-injective : (p other : Punctuator) → punctuator_number p ≡ punctuator_number other → p ≡ other
punctuator_number-injective p other same =
    sym (by-punctuator_number p) ∙ ap (λ n. get_or all_punctuators n punctuator.LeftBrace) same ∙ by-punctuator_number other
