-- The lexemes that spell statements (ISO C11 6.8).
use Rattle.std.specs.Prelude.{List, [], ◌∷◌, ◌++◌, flat_map, Option, Some, None}
use Rattle.c_ast.specs.declared.token.Lexeme.{Lexeme}
use Rattle.c_ast.specs.declared.expr.Expr.{Expr}
use Rattle.c_ast.specs.declared.declaration.Decl.{Decl}
use Rattle.c_ast.specs.declared.statement.Stmt.{Stmt}
use Rattle.c_ast.specs.declared.statement.Item.{Item}
use Rattle.c_ast.specs.declared.statement.Item.TheOpen.{Item-F, Stmt-F}
use Rattle.c_ast.specs.declared.statement.Item.TheFolds.{fold-Item, fold-Stmt}
use Rattle.c_ast.specs.declared.keyword.Keyword.TheVariants as key
use Rattle.c_ast.specs.declared.punctuator.Punctuator.TheVariants as mark
use Rattle.c_print.specs.Words.{word, punct}
use Rattle.c_print.specs.Expressions.{lexemes_of}
use Rattle.c_print.specs.Declarations.{objects_of}

-- an expression, where there is one
abbrev pub maybe_of : Option Expr → List Lexeme
maybe_of None = []
maybe_of (Some e) = lexemes_of e

-- what comes first in a `for`: declarations, or an expression
abbrev pub first_of_for : List Decl → Option Expr → List Lexeme
first_of_for [] e = maybe_of e ++ punct mark.Semicolon ∷ []
first_of_for (d ∷ ds) e = objects_of (d ∷ ds)

abbrev pub joined : List (List Lexeme) → List Lexeme
joined = flat_map (λ w. w)

abbrev pub item_step : Item-F (List Lexeme) (List Lexeme) → List Lexeme
item_step (Item-F.Local ds) = objects_of ds
item_step (Item-F.Stmt s) = s

-- a statement, whose inner ones are given by their own lexemes
abbrev pub stmt_step : Stmt-F (List Lexeme) (List Lexeme) → List Lexeme
stmt_step (Stmt-F.Block is) = punct mark.LeftBrace ∷ joined is ++ punct mark.RightBrace ∷ []
stmt_step (Stmt-F.Expr e) = lexemes_of e ++ punct mark.Semicolon ∷ []
stmt_step Stmt-F.Empty = punct mark.Semicolon ∷ []
stmt_step (Stmt-F.If e s None) = word key.If ∷ punct mark.LeftParen ∷ lexemes_of e ++ punct mark.RightParen ∷ s
stmt_step (Stmt-F.If e s (Some o)) = word key.If ∷ punct mark.LeftParen ∷ lexemes_of e ++ (punct mark.RightParen ∷ s ++ word key.Else ∷ o)
stmt_step (Stmt-F.While e s) = word key.While ∷ punct mark.LeftParen ∷ lexemes_of e ++ punct mark.RightParen ∷ s
stmt_step (Stmt-F.DoWhile s e) =
    word key.Do ∷ s ++ (word key.While ∷ punct mark.LeftParen ∷ lexemes_of e ++ punct mark.RightParen ∷ punct mark.Semicolon ∷ [])
stmt_step (Stmt-F.For ds e c d s) =
    word key.For ∷ punct mark.LeftParen ∷ first_of_for ds e ++ (maybe_of c ++
    (punct mark.Semicolon ∷ maybe_of d ++ punct mark.RightParen ∷ s))
stmt_step (Stmt-F.Return e span) = word key.Return ∷ maybe_of e ++ punct mark.Semicolon ∷ []
stmt_step (Stmt-F.Break span) = word key.Break ∷ punct mark.Semicolon ∷ []
stmt_step (Stmt-F.Continue span) = word key.Continue ∷ punct mark.Semicolon ∷ []

abbrev pub stmt_of : Stmt → List Lexeme
stmt_of = fold-Stmt (List Lexeme) (List Lexeme) item_step stmt_step

abbrev pub item_of : Item → List Lexeme
item_of = fold-Item (List Lexeme) (List Lexeme) item_step stmt_step
