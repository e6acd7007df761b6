-- How expressions are spelled (ISO C11 6.5): by the number of levels below an expression, its tree and its tokens.
use Rattle.std.specs.Prelude.{◌≡◌, ℕ, suc, max, List, [], ◌∷◌, ◌++◌, Option}
use Rattle.c_ast.specs.Seen.{Seen as Token}
use Rattle.c_ast.specs.declared.token.Lexeme.TheVariants as lexeme
use Rattle.c_ast.specs.declared.int_type.IntType.{IntType}
use Rattle.c_ast.specs.declared.int_type.IntType.TheVariants as integer
use Rattle.c_ast.specs.declared.expr.CType.{CType}
use Rattle.c_ast.specs.declared.expr.Expr.{Expr}
use Rattle.c_ast.specs.Tree.{expr}
use Rattle.c_ast.specs.declared.expr.Node.{Node}
use Rattle.c_ast.specs.declared.expr.Node.TheVariants as node
use Rattle.c_ast.specs.declared.operator.UnaryOperator.{UnaryOperator}
use Rattle.c_ast.specs.declared.operator.BinaryOperator.{BinaryOperator}
use Rattle.c_ast.specs.declared.operator.AssignOperator.{AssignOperator}
use Rattle.c_ast.specs.declared.operator.Step.{Step}
use Rattle.c_ast.specs.declared.keyword.Keyword.TheVariants as key
use Rattle.c_ast.specs.declared.punctuator.Punctuator.TheVariants as mark
use Rattle.c_grammar.specs.Words.{IsKeyword, IsPunct, IsName, span_of}
use Rattle.c_grammar.specs.Operators.{BinaryWord, UnaryWord, AssignWord, StepWord, Before, Behind}
use Rattle.c_grammar.specs.Types.{TypeName}

-- an expression that these tokens spell
abbrev pub spelled : List Token → Node → Expr
spelled w n = expr (span_of w) n

-- TEXT { TEXT }: adjacent texts are one
pub data Texts : List ℕ → List Token → Type 0 where
  one_text : {bytes : List ℕ} (t : Token) → t.kind ≡ lexeme.Text bytes → Texts bytes (t ∷ [])
  more_text : {before bytes : List ℕ} {w : List Token} (t : Token) → Texts before w → t.kind ≡ lexeme.Text bytes →
      Texts (before ++ bytes) (w ++ t ∷ [])

mutual
  -- primary = NAME | NUMBER | CHARACTER | TEXT { TEXT } | "(" expr ")"
  pub data Primary : ℕ → Expr → List Token → Type 0 where
    variable : {n : List ℕ} (t : Token) → IsName n t → Primary 0 (spelled (t ∷ []) (node.Variable n)) (t ∷ [])
    number : {value : ℕ} {ty : IntType} (t : Token) → t.kind ≡ lexeme.Number value ty →
        Primary 0 (spelled (t ∷ []) (node.Constant value ty)) (t ∷ [])
    character : {value : ℕ} (t : Token) → t.kind ≡ lexeme.Character value →
        Primary 0 (spelled (t ∷ []) (node.Constant value integer.Int)) (t ∷ [])
    text : {bytes : List ℕ} {w : List Token} → Texts bytes w → Primary 0 (spelled w (node.Text bytes)) w
    paren : {h : ℕ} {e : Expr} {u : List Token} (l r : Token) → IsPunct mark.LeftParen l → Expression h e u → IsPunct mark.RightParen r →
        Primary (suc h) (spelled (l ∷ u ++ r ∷ []) (node.Paren e)) (l ∷ u ++ r ∷ [])

  -- postfix = primary { "[" expr "]" | "(" [ assign { "," assign } ] ")" | "." NAME | "->" NAME | "++" | "--" }
  pub data Postfix : ℕ → Expr → List Token → Type 0 where
    primary : {h : ℕ} {e : Expr} {w : List Token} → Primary h e w → Postfix h e w
    index : {h k : ℕ} {e i : Expr} {u v : List Token} (l r : Token) →
        Postfix h e u → IsPunct mark.LeftBracket l → Expression k i v → IsPunct mark.RightBracket r →
        Postfix (suc (max h k)) (spelled (u ++ (l ∷ v ++ r ∷ [])) (node.Index e i)) (u ++ (l ∷ v ++ r ∷ []))
    call : {h k : ℕ} {e : Expr} {es : List Expr} {u v : List Token} (l r : Token) →
        Postfix h e u → IsPunct mark.LeftParen l → Arguments k es v → IsPunct mark.RightParen r →
        Postfix (suc (max h k)) (spelled (u ++ (l ∷ v ++ r ∷ [])) (node.Call e es)) (u ++ (l ∷ v ++ r ∷ []))
    member : {h : ℕ} {e : Expr} {n : List ℕ} {u : List Token} (d t : Token) → Postfix h e u → IsPunct mark.Dot d → IsName n t →
        Postfix (suc h) (spelled (u ++ d ∷ t ∷ []) (node.Member e n)) (u ++ d ∷ t ∷ [])
    arrow : {h : ℕ} {e : Expr} {n : List ℕ} {u : List Token} (d t : Token) → Postfix h e u → IsPunct mark.Arrow d → IsName n t →
        Postfix (suc h) (spelled (u ++ d ∷ t ∷ []) (node.Arrow e n)) (u ++ d ∷ t ∷ [])
    step_behind : {h : ℕ} {e : Expr} {s : Step} {u : List Token} (t : Token) → Postfix h e u → StepWord Behind s t →
        Postfix (suc h) (spelled (u ++ t ∷ []) (node.Step s e)) (u ++ t ∷ [])

  -- [ assign { "," assign } ]
  pub data Arguments : ℕ → List Expr → List Token → Type 0 where
    no_argument : Arguments 0 [] []
    arguments : {h : ℕ} {es : List Expr} {w : List Token} → ArgumentList h es w → Arguments h es w

  pub data ArgumentList : ℕ → List Expr → List Token → Type 0 where
    argument : {h : ℕ} {e : Expr} {w : List Token} → Expression h e w → ArgumentList h (e ∷ []) w
    more_argument : {h k : ℕ} {es : List Expr} {e : Expr} {u v : List Token} (c : Token) → ArgumentList h es u → IsPunct mark.Comma c →
        Expression k e v →
        ArgumentList (max h k) (es ++ e ∷ []) (u ++ c ∷ v)

  -- unary = postfix | ( "++" | "--" ) unary | ( "&" | "*" | "+" | "-" | "~" | "!" ) cast | "sizeof" unary | "sizeof" "(" tname ")"
  pub data Unary : ℕ → Expr → List Token → Type 0 where
    postfix : {h : ℕ} {e : Expr} {w : List Token} → Postfix h e w → Unary h e w
    step_before : {h : ℕ} {e : Expr} {s : Step} {u : List Token} (t : Token) → StepWord Before s t → Unary h e u →
        Unary (suc h) (spelled (t ∷ u) (node.Step s e)) (t ∷ u)
    operated : {h : ℕ} {e : Expr} {o : UnaryOperator} {u : List Token} (t : Token) → UnaryWord o t → Cast h e u →
        Unary (suc h) (spelled (t ∷ u) (node.Unary o e)) (t ∷ u)
    sizeof_expr : {h : ℕ} {e : Expr} {u : List Token} (t : Token) → IsKeyword key.Sizeof t → Unary h e u →
        Unary (suc h) (spelled (t ∷ u) (node.SizeofExpr e)) (t ∷ u)
    sizeof_name : {k : ℕ} {ty : CType} {v : List Token} (t l r : Token) → IsKeyword key.Sizeof t → IsPunct mark.LeftParen l →
        TypeName k ty v → IsPunct mark.RightParen r →
        Unary k (spelled (t ∷ l ∷ v ++ r ∷ []) (node.SizeofName ty)) (t ∷ l ∷ v ++ r ∷ [])

  -- cast = unary | "(" tname ")" cast
  pub data Cast : ℕ → Expr → List Token → Type 0 where
    unary : {h : ℕ} {e : Expr} {w : List Token} → Unary h e w → Cast h e w
    cast : {k h : ℕ} {ty : CType} {e : Expr} {v u : List Token} (l r : Token) → IsPunct mark.LeftParen l → TypeName k ty v →
        IsPunct mark.RightParen r → Cast h e u →
        Cast (max k (suc h)) (spelled (l ∷ v ++ r ∷ u) (node.Cast ty e)) (l ∷ v ++ r ∷ u)

  -- binary, by its levels: 0 is cast, 1 is `* / %`, and so on to 10, which is `||`. Each is left to right over the next tighter one.
  pub data Binary : ℕ → ℕ → Expr → List Token → Type 0 where
    operand : {h : ℕ} {e : Expr} {w : List Token} → Cast h e w → Binary 0 h e w
    tighter : {n h : ℕ} {e : Expr} {w : List Token} → Binary n h e w → Binary (suc n) h e w
    operation : {n h k : ℕ} {o : BinaryOperator} {a b : Expr} {u v : List Token} (t : Token) →
        Binary (suc n) h a u → BinaryWord (suc n) o t → Binary n k b v →
        Binary (suc n) (suc (max h k)) (spelled (u ++ t ∷ v) (node.Binary o a b)) (u ++ t ∷ v)

  -- cond = binary [ "?" expr ":" cond ]
  pub data Conditional : ℕ → Expr → List Token → Type 0 where
    binary : {h : ℕ} {e : Expr} {w : List Token} → Binary 10 h e w → Conditional h e w
    choice : {h k j : ℕ} {c a b : Expr} {u v w : List Token} (q s : Token) →
        Binary 10 h c u → IsPunct mark.Question q → Expression k a v → IsPunct mark.Colon s → Conditional j b w →
        Conditional (suc (max h (max k j))) (spelled (u ++ (q ∷ v ++ s ∷ w)) (node.Cond c a b)) (u ++ (q ∷ v ++ s ∷ w))

  -- expr = assign, assign = unary asgop assign | cond
  pub data Expression : ℕ → Expr → List Token → Type 0 where
    conditional : {h : ℕ} {e : Expr} {w : List Token} → Conditional h e w → Expression h e w
    assignment : {h k : ℕ} {o : Option AssignOperator} {a b : Expr} {u v : List Token} (t : Token) →
        Unary h a u → AssignWord o t → Expression k b v →
        Expression (suc (max h k)) (spelled (u ++ t ∷ v) (node.Assign o a b)) (u ++ t ∷ v)
