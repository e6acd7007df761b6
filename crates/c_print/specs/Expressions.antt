-- The lexemes that spell an expression and a type (ISO C11 6.5, 6.7.2, 6.7.6). Of several spellings of a type it is the shortest.
use Rattle.std.specs.Prelude.{List, [], ◌∷◌, ◌++◌, Option, Some, None}
use Rattle.c_ast.specs.declared.token.Lexeme.{Lexeme}
use Rattle.c_ast.specs.declared.token.Lexeme.TheVariants as lexeme
use Rattle.c_ast.specs.declared.int_type.IntType.{IntType}
use Rattle.c_ast.specs.declared.int_type.IntType.TheVariants as integer
use Rattle.c_ast.specs.declared.expr.CType.{CType}
use Rattle.c_ast.specs.declared.expr.Expr.{Expr}
use Rattle.c_ast.specs.declared.expr.Node.{Node}
use Rattle.c_ast.specs.declared.expr.CType.TheOpen.{CType-F, Node-F, Expr-F}
use Rattle.c_ast.specs.declared.expr.CType.TheFolds.{fold-CType, fold-Node, fold-Expr}
use Rattle.c_ast.specs.declared.keyword.Keyword.TheVariants as key
use Rattle.c_ast.specs.declared.punctuator.Punctuator.TheVariants as mark
use Rattle.c_ast.specs.Operators.{unary_punctuator, binary_punctuator, step_punctuator}
use Rattle.c_grammar.specs.Operators.{assign_mark, Side, Before, Behind, step_side}
use Rattle.c_print.specs.Words.{word, punct, with_commas}

-- an integer type
abbrev pub int_words : IntType → List Lexeme
int_words integer.Char = word key.Char ∷ []
int_words integer.SignedChar = word key.Signed ∷ word key.Char ∷ []
int_words integer.UnsignedChar = word key.Unsigned ∷ word key.Char ∷ []
int_words integer.Short = word key.Short ∷ []
int_words integer.UShort = word key.Unsigned ∷ word key.Short ∷ []
int_words integer.Int = word key.Int ∷ []
int_words integer.UInt = word key.Unsigned ∷ []
int_words integer.Long = word key.Long ∷ []
int_words integer.ULong = word key.Unsigned ∷ word key.Long ∷ []

-- the three parts of a type that stand before, right before and behind a declared name: `struct s`, `**`, `[2][3]`
pub record TypeParts : Type 0 where
  pub base : List Lexeme
  pub stars : List Lexeme
  pub brackets : List Lexeme

abbrev pub only : List Lexeme → TypeParts
only w = record { base = w; stars = []; brackets = [] }

abbrev pub length_of : Option (List Lexeme) → List Lexeme
length_of None = []
length_of (Some e) = e

-- a type, whose inner types and length are given by their own parts
abbrev pub type_step : CType-F TypeParts (List Lexeme) (List Lexeme) → TypeParts
type_step CType-F.Void = only (word key.Void ∷ [])
type_step (CType-F.Int ty) = only (int_words ty)
type_step (CType-F.Struct tag) = only (word key.Struct ∷ lexeme.Name tag ∷ [])
type_step (CType-F.Pointer t) = record t { stars = t.stars ++ punct mark.Star ∷ [] }
type_step (CType-F.Array t length) = record t {
  brackets = (punct mark.LeftBracket ∷ length_of length ++ punct mark.RightBracket ∷ []) ++
      t.brackets;
}

-- the type in a cast or behind `sizeof`
abbrev pub type_name_of : TypeParts → List Lexeme
type_name_of t = t.base ++ t.stars

abbrev pub step_at : Side → Lexeme → List Lexeme → List Lexeme
step_at Before o e = o ∷ e
step_at Behind o e = e ++ o ∷ []

-- an expression, whose operands are given by their own lexemes
abbrev pub node_step : Node-F TypeParts (List Lexeme) (List Lexeme) → List Lexeme
node_step (Node-F.Constant value ty) = lexeme.Number value ty ∷ []
node_step (Node-F.Text bytes) = lexeme.Text bytes ∷ []
node_step (Node-F.Variable name) = lexeme.Name name ∷ []
node_step (Node-F.Paren e) = punct mark.LeftParen ∷ e ++ punct mark.RightParen ∷ []
node_step (Node-F.Unary o e) = punct (unary_punctuator o) ∷ e
node_step (Node-F.Binary o a b) = a ++ punct (binary_punctuator o) ∷ b
node_step (Node-F.Assign o a b) = a ++ punct (assign_mark o) ∷ b
node_step (Node-F.Cond c a b) = c ++ (punct mark.Question ∷ a ++ punct mark.Colon ∷ b)
node_step (Node-F.Cast ty e) = punct mark.LeftParen ∷ type_name_of ty ++ punct mark.RightParen ∷ e
node_step (Node-F.SizeofExpr e) = word key.Sizeof ∷ e
node_step (Node-F.SizeofName ty) = word key.Sizeof ∷ punct mark.LeftParen ∷ type_name_of ty ++ punct mark.RightParen ∷ []
node_step (Node-F.Call f es) = f ++ (punct mark.LeftParen ∷ with_commas es ++ punct mark.RightParen ∷ [])
node_step (Node-F.Index e i) = e ++ (punct mark.LeftBracket ∷ i ++ punct mark.RightBracket ∷ [])
node_step (Node-F.Member e name) = e ++ punct mark.Dot ∷ lexeme.Name name ∷ []
node_step (Node-F.Arrow e name) = e ++ punct mark.Arrow ∷ lexeme.Name name ∷ []
node_step (Node-F.Step s e) = step_at (step_side s) (punct (step_punctuator s)) e

abbrev pub expr_step : Expr-F TypeParts (List Lexeme) (List Lexeme) → List Lexeme
expr_step e = e.node

-- the lexemes of an expression
abbrev pub lexemes_of : Expr → List Lexeme
lexemes_of = fold-Expr TypeParts (List Lexeme) (List Lexeme) type_step node_step expr_step

abbrev pub lexemes_of_node : Node → List Lexeme
lexemes_of_node = fold-Node TypeParts (List Lexeme) (List Lexeme) type_step node_step expr_step

-- the parts of a type
abbrev pub parts_of : CType → TypeParts
parts_of = fold-CType TypeParts (List Lexeme) (List Lexeme) type_step node_step expr_step
