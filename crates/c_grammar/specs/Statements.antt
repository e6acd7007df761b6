-- How statements are spelled (ISO C11 6.8).
use Rattle.std.specs.Prelude.{ℕ, suc, max, List, [], ◌∷◌, ◌++◌, Option, Some, None}
use Rattle.c_ast.specs.Seen.{Seen as Token}
use Rattle.c_ast.specs.declared.expr.Expr.{Expr}
use Rattle.c_ast.specs.declared.declaration.Decl.{Decl}
use Rattle.c_ast.specs.declared.statement.Stmt.{Stmt}
use Rattle.c_ast.specs.declared.statement.Stmt.TheVariants as stmt
use Rattle.c_ast.specs.declared.statement.Item.{Item}
use Rattle.c_ast.specs.declared.statement.Item.TheVariants as item
use Rattle.c_ast.specs.declared.keyword.Keyword.TheVariants as key
use Rattle.c_ast.specs.declared.punctuator.Punctuator.TheVariants as mark
use Rattle.c_grammar.specs.Words.{IsKeyword, IsPunct, span_of}
use Rattle.c_grammar.specs.Expressions.{Expression}
use Rattle.c_grammar.specs.Objects.{Local}

-- where a statement stands: `break` and `continue` are spelled only in a loop's body (6.8.6.2, 6.8.6.3)
pub data Place : Type 0 where
  Outside InLoop : Place

-- how a statement ends: open where an `else` behind it would belong to an `if` in it, and else closed (6.8.4.1 paragraph 3)
pub data Ending : Type 0 where
  Open Closed : Ending

-- [ expr ]: how many levels it has, none where it is left out (6.8.3, 6.8.5.3, 6.8.6.4)
pub data MaybeExpression : ℕ → Option Expr → List Token → Type 0 where
  left_out : MaybeExpression 0 None []
  written : {h : ℕ} {e : Expr} {w : List Token} → Expression h e w → MaybeExpression (suc h) (Some e) w

-- local | [ expr ] ";": what comes first in a `for`, and how many levels it has (6.8.5.3)
pub data First : ℕ → List Decl → Option Expr → List Token → Type 0 where
  first_local : {h : ℕ} {ds : List Decl} {w : List Token} → Local h ds w → First (suc h) ds None w
  first_expression : {n : ℕ} {e : Option Expr} {w : List Token} (s : Token) → MaybeExpression n e w → IsPunct mark.Semicolon s →
      First n [] e (w ++ s ∷ [])

mutual
  -- stmt = block | [ expr ] ";" | "if" "(" expr ")" stmt [ "else" stmt ]
  --      | "while" "(" expr ")" stmt | "do" stmt "while" "(" expr ")" ";"
  --      | "for" "(" ( local | [ expr ] ";" ) [ expr ] ";" [ expr ] ")" stmt
  --      | "return" [ expr ] ";" | "break" ";" | "continue" ";"
  -- (6.8.2 to 6.8.6), by how many levels it has below it
  pub data Statement : Place → Ending → ℕ → Stmt → List Token → Type 0 where
    compound : {p : Place} {n : ℕ} {s : Stmt} {w : List Token} → Block p n s w → Statement p Closed n s w
    expression : {p : Place} {h : ℕ} {e : Expr} {w : List Token} (z : Token) → Expression h e w → IsPunct mark.Semicolon z →
        Statement p Closed (suc h) (stmt.Expr e) (w ++ z ∷ [])
    empty : {p : Place} (z : Token) → IsPunct mark.Semicolon z → Statement p Closed 0 stmt.Empty (z ∷ [])
    if_then : {p : Place} {h k : ℕ} {e : Expr} {a : Ending} {s : Stmt} {u v : List Token} (t l r : Token) →
        IsKeyword key.If t → IsPunct mark.LeftParen l → Expression h e u → IsPunct mark.RightParen r → Statement p a k s v →
        Statement p Open (suc (max h k)) (stmt.If e s None) (t ∷ l ∷ u ++ r ∷ v)
    if_else : {p : Place} {h k j : ℕ} {e : Expr} {a : Ending} {s o : Stmt} {u v w : List Token} (t l r x : Token) →
        IsKeyword key.If t → IsPunct mark.LeftParen l → Expression h e u → IsPunct mark.RightParen r → Statement p Closed k s v →
        IsKeyword key.Else x → Statement p a j o w →
        Statement p a (suc (max h (max k j))) (stmt.If e s (Some o)) (t ∷ l ∷ u ++ (r ∷ v ++ x ∷ w))
    while_loop : {p : Place} {h k : ℕ} {e : Expr} {a : Ending} {s : Stmt} {u v : List Token} (t l r : Token) →
        IsKeyword key.While t → IsPunct mark.LeftParen l → Expression h e u → IsPunct mark.RightParen r → Statement InLoop a k s v →
        Statement p a (suc (max h k)) (stmt.While e s) (t ∷ l ∷ u ++ r ∷ v)
    do_loop : {p : Place} {h k : ℕ} {e : Expr} {a : Ending} {s : Stmt} {u v : List Token} (t x l r z : Token) →
        IsKeyword key.Do t → Statement InLoop a k s u → IsKeyword key.While x → IsPunct mark.LeftParen l → Expression h e v →
        IsPunct mark.RightParen r →
        IsPunct mark.Semicolon z →
        Statement p Closed (suc (max k h)) (stmt.DoWhile s e) (t ∷ u ++ (x ∷ l ∷ v ++ r ∷ z ∷ []))
    for_loop : {p : Place} {n m i h : ℕ} {ds : List Decl} {e c d : Option Expr} {a : Ending} {s : Stmt} {u v w x : List Token}
        (t l z r : Token) →
        IsKeyword key.For t → IsPunct mark.LeftParen l → First n ds e u → MaybeExpression m c v → IsPunct mark.Semicolon z →
        MaybeExpression i d w →
        IsPunct mark.RightParen r → Statement InLoop a h s x →
        Statement p a (max n (max m (max i (suc h)))) (stmt.For ds e c d s) (t ∷ l ∷ u ++ (v ++ (z ∷ w ++ r ∷ x)))
    return_word : {p : Place} {n : ℕ} {e : Option Expr} {v : List Token} (t z : Token) → IsKeyword key.Return t → MaybeExpression n e v →
        IsPunct mark.Semicolon z →
        Statement p Closed n (stmt.Return e (span_of (t ∷ v ++ z ∷ []))) (t ∷ v ++ z ∷ [])
    break_word : (t z : Token) → IsKeyword key.Break t → IsPunct mark.Semicolon z →
        Statement InLoop Closed 0 (stmt.Break (span_of (t ∷ z ∷ []))) (t ∷ z ∷ [])
    continue_word : (t z : Token) → IsKeyword key.Continue t → IsPunct mark.Semicolon z →
        Statement InLoop Closed 0 (stmt.Continue (span_of (t ∷ z ∷ []))) (t ∷ z ∷ [])

  -- block = "{" { item } "}" (6.8.2)
  pub data Block : Place → ℕ → Stmt → List Token → Type 0 where
    block : {p : Place} {n : ℕ} {is : List Item} {v : List Token} (l r : Token) → IsPunct mark.LeftBrace l → BlockItems p n is v →
        IsPunct mark.RightBrace r →
        Block p n (stmt.Block is) (l ∷ v ++ r ∷ [])

  -- { item }: how many levels the items have, none where there are none (6.8.2)
  pub data BlockItems : Place → ℕ → List Item → List Token → Type 0 where
    no_item : {p : Place} → BlockItems p 0 [] []
    more_item : {p : Place} {n h : ℕ} {is : List Item} {i : Item} {u v : List Token} → BlockItems p n is u → BlockItem p h i v →
        BlockItems p (max n (suc h)) (is ++ i ∷ []) (u ++ v)

  -- item = local | stmt (6.8.2)
  pub data BlockItem : Place → ℕ → Item → List Token → Type 0 where
    local : {p : Place} {h : ℕ} {ds : List Decl} {w : List Token} → Local h ds w → BlockItem p h (item.Local ds) w
    statement : {p : Place} {h : ℕ} {a : Ending} {s : Stmt} {w : List Token} → Statement p a h s w → BlockItem p h (item.Stmt s) w
