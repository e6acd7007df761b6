-- What a tree made of its parts is without spans, and which lexemes it has.
use Rattle.std.proofs.Common.{◌≡◌, List, sym, ◌∙◌, subst}
use Rattle.c_ast.specs.Laws.Opened.{given_trees}
use Rattle.c_ast.specs.Tree.{TypeLayer, NodeLayer, expr}
use Rattle.c_ast.specs.declared.token.Lexeme.{Lexeme}
use Rattle.c_ast.specs.Seen.{Seen as Token}
use Rattle.c_ast.specs.declared.token.Span.{Span}
use Rattle.c_ast.specs.declared.expr.CType.{CType, roll-CType, map-CType}
use Rattle.c_ast.specs.declared.expr.Expr.{Expr}
use Rattle.c_ast.specs.declared.expr.Node.{Node, roll-Node, map-Node}
use Rattle.c_ast.specs.declared.expr.CType.TheOpen.{CType-F, Node-F}
use Rattle.c_ast.specs.declared.expr.CType.TheFolds.{fold-roll-CType, fold-roll-Node, fold_out-Expr}
use Rattle.c_grammar.specs.Words.{span_of}
use Rattle.c_print.specs.Laws.SeenTokens.{tokens_of}
use Rattle.c_print.specs.Expressions.{TypeParts, type_step, node_step, expr_step, lexemes_of, lexemes_of_node, parts_of}
use Rattle.c_print.specs.Spans.{bare, bare_type}
use Rattle.c_print.specs.Laws.BareLaws.{bare_in_type, bare_in_node, type_bare, expr_bare}
use Rattle.c_print.proofs.Lists.{span_of-tokens}

abbrev pub parts_in : TypeLayer → CType-F TypeParts (List Lexeme) (List Lexeme)
parts_in = map-CType CType Node Expr TypeParts (List Lexeme) (List Lexeme) parts_of lexemes_of_node lexemes_of

abbrev pub lexemes_in : NodeLayer → Node-F TypeParts (List Lexeme) (List Lexeme)
lexemes_in = map-Node CType Node Expr TypeParts (List Lexeme) (List Lexeme) parts_of lexemes_of_node lexemes_of

-- a fact of a type made of its parts
pub type_made : (P : CType → TypeParts → Type 0) (d : TypeLayer) → P (roll-CType (bare_in_type d)) (type_step (parts_in d)) →
    P (bare_type (roll-CType d)) (parts_of (roll-CType d))
type_made P d p =
    let tree = type_bare d in
    let parts = fold-roll-CType TypeParts (List Lexeme) (List Lexeme) type_step node_step expr_step d in
    let Q : TypeParts → Type 0 = P (bare_type (roll-CType d)) in
    let R : CType → Type 0 = λ t. P t (type_step (parts_in d)) in
    subst Q (sym parts) (subst R (sym tree) p)

-- a fact of an expression made of its parts, at the tokens of its lexemes
pub expr_made : (P : Expr → List Token → Type 0) (s : Span) (d : NodeLayer) {w : List Token} →
    tokens_of (node_step (lexemes_in d)) ≡ w → P (expr (span_of w) (roll-Node (bare_in_node d))) w →
    P (bare (expr s (roll-Node d))) (tokens_of (lexemes_of (expr s (roll-Node d))))
unfolding given_trees
expr_made P s d {w} is p =
    let tree = expr_bare s d in
    let one = fold_out-Expr TypeParts (List Lexeme) (List Lexeme) type_step node_step expr_step (expr s (roll-Node d)) in
    let lexemes = fold-roll-Node TypeParts (List Lexeme) (List Lexeme) type_step node_step expr_step d in
    let Q : List Lexeme → Type 0 = λ ls. P (bare (expr s (roll-Node d))) (tokens_of ls) in
    let R : Expr → Type 0 = λ e. P e (tokens_of (node_step (lexemes_in d))) in
    let S : Span → Type 0 = λ z. P (expr z (roll-Node (bare_in_node d))) (tokens_of (node_step (lexemes_in d))) in
    let T : List Token → Type 0 = λ ts. P (expr (span_of ts) (roll-Node (bare_in_node d))) ts in
    subst Q (sym (one ∙ lexemes)) (subst R (sym tree) (subst S (span_of-tokens (node_step (lexemes_in d))) (subst T (sym is) p)))
