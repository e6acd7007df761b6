-- What is known of an expression, by what is known of its operand.
use Rattle.std.proofs.Common.{◌≡◌, ap, sym, ◌∙◌, ℕ, Bool, List, Option}
use Rattle.c_ast.specs.declared.operator.UnaryOperator.{UnaryOperator}
use Rattle.c_type_base.specs.declared.ty.Ty.{Ty}
use Rattle.c_type_base.specs.declared.expr.TExpr.{TExpr}
use Rattle.c_type_base.specs.declared.expr.TNode.{TNode}
use Rattle.c_type_base.specs.declared.expr.TNode.TheVariants as node
use Rattle.c_type_base.specs.declared.typed.StructInfo.{StructInfo}
use Rattle.frame_layout.specs.declared.frame.Frame.{Frame}
use Rattle.gen_expr.specs.Expressions.{coded, coded_node}
use Rattle.gen_expr.specs.Laws.CodeLaws.{coded-expression, coded-paren, coded-unary, coded-cast}
use Rattle.gen_expr.specs.Laws.CodeLaws.{coded-read, coded-decay, coded-convert, unary-alone}

-- whatever the structs and the frame
abbrev pub IsAlone : Bool → TExpr → Type 0
IsAlone alone e = (structs : List StructInfo) (f : Frame) → alone ≡ (coded structs f e).alone

abbrev pub IsSlot : Option ℕ → Frame → TExpr → Type 0
IsSlot slot f e = (structs : List StructInfo) → slot ≡ (coded structs f e).slot

module _ (e inner : TExpr) (n : TNode) (is : n ≡ e.node) where
  at_node : (structs : List StructInfo) (f : Frame) (m : TNode) → n ≡ m → coded structs f e ≡ coded_node structs f m e.ty
  at_node structs f m shape = coded-expression structs f e ∙ ap (λ k. coded_node structs f k e.ty) (sym is ∙ shape)

  pub slot-paren : (slot : Option ℕ) (f : Frame) → n ≡ node.Paren inner → IsSlot slot f inner → IsSlot slot f e
  slot-paren slot f shape known structs =
      known structs ∙ ap (λ c. c.slot) (sym (at_node structs f (node.Paren inner) shape ∙ coded-paren structs f inner e.ty))

  module _ (alone : Bool) (known : IsAlone alone inner) where
    pub alone-paren : n ≡ node.Paren inner → IsAlone alone e
    alone-paren shape structs f =
        known structs f ∙ ap (λ c. c.alone) (sym (at_node structs f (node.Paren inner) shape ∙ coded-paren structs f inner e.ty))

    pub alone-unary : (o : UnaryOperator) → n ≡ node.Unary o inner → IsAlone alone e
    alone-unary o shape structs f =
        known structs f ∙ sym (unary-alone structs f o (coded structs f inner) e.ty)
        ∙ ap (λ c. c.alone) (sym (at_node structs f (node.Unary o inner) shape ∙ coded-unary structs f o inner e.ty))

    pub alone-cast : (s : Ty) → n ≡ node.Cast s inner → IsAlone alone e
    alone-cast s shape structs f =
        known structs f ∙ ap (λ c. c.alone) (sym (at_node structs f (node.Cast s inner) shape ∙ coded-cast structs f s inner e.ty))

    pub alone-read : n ≡ node.Read inner → IsAlone alone e
    alone-read shape structs f =
        known structs f ∙ ap (λ c. c.alone) (sym (at_node structs f (node.Read inner) shape ∙ coded-read structs f inner e.ty))

    pub alone-decay : n ≡ node.Decay inner → IsAlone alone e
    alone-decay shape structs f =
        known structs f ∙ ap (λ c. c.alone) (sym (at_node structs f (node.Decay inner) shape ∙ coded-decay structs f inner e.ty))

    pub alone-convert : n ≡ node.Convert inner → IsAlone alone e
    alone-convert shape structs f =
        known structs f ∙ ap (λ c. c.alone) (sym (at_node structs f (node.Convert inner) shape ∙ coded-convert structs f inner e.ty))
