-- The body of a function follows, by what is known of its statements (this project's own).
use Rattle.std.specs.Prelude.{◌≡◌, ℕ, ◌+◌, List, length, refl, Option, Some, None}
use Rattle.std.proofs.Common.{ap, sym, subst, ◌∙◌}
use Rattle.std.proofs.lemmas.Option.{same_Some}
use Rattle.c_type_base.specs.declared.typed.StructInfo.{StructInfo}
use Rattle.c_type_base.specs.declared.typed.TFunction.{TFunction}
use Rattle.block_meaning.specs.ExpressionsInOrder.{Scope}
use Rattle.block_meaning.specs.Linkage.{structs_of}
use Rattle.block_meaning.specs.Meaning.{calls_at}
use Rattle.block_meaning.specs.Running.{Function}
use Rattle.block_meaning.specs.Statements.{statements_at, items}
use Rattle.block_meaning.specs.StatementsInOrder.{Items}
use Rattle.code_relation.specs.Calls.{frame_of}
use Rattle.code_relation.specs.Follows.{Code, Follows}
use Rattle.code_relation.specs.Fresh.{FreshItems}
use Rattle.code_relation.specs.Items.{Place}
use Rattle.code_relation.specs.Sites.{units_of}
use Rattle.code_relation.specs.Trees.{IsPlaced, IsScope, statement_tree}
use Rattle.code_follows.specs.Aligned.{AlignedSlots}
use Rattle.code_follows.specs.CallsGive.{CallsGive}
use Rattle.code_follows.specs.Laws.AllNodes.{nodes_follow}
use Rattle.frame_layout.specs.declared.frame.Frame.{Frame}
use Rattle.gen_stmt.specs.Statements.{body_code}
use Rattle.gen_unit.specs.Functions.{parts_of, no_loop}
use Rattle.stmt_follows.specs.Expressions.{moved}
use Rattle.stmt_follows.specs.Ready.{ReadyItems}
use Rattle.stmt_follows.specs.Laws.Following.{scene_at, items_follow}
use Rattle.stmt_follows.specs.Laws.Whole.{expressions_follow}
use Rattle.unit_follows.specs.Functions.{IsFunctionAt, argument_items, body_part}
use Rattle.unit_follows.specs.Placing.{Placing}

module _ {c : Code} {p : Placing} {f : Function} {tf : TFunction} {at : ℕ} (fn : IsFunctionAt c p f tf at)
    (slots : AlignedSlots (units_of c.given)) (give : (bound : ℕ) → CallsGive c.given.program bound)
    (ready : ReadyItems (frame_of (units_of c.given) f) tf fn.order.items) where
  abbrev structs : List StructInfo
  structs = structs_of (units_of c.given) f.unit

  abbrev fr : Frame
  fr = frame_of (units_of c.given) f

  pub body_follows : (place : Place) (scope : Scope) → IsPlaced (body_part fn.file.file structs f tf fr) c place → IsScope c f scope →
      Items scope fn.order.items → FreshItems scope.locals fn.order.items → (bound depth : ℕ) →
      Follows c (statement_tree c.given (λ around. items (statements_at (calls_at bound) depth) around fn.order.items)
      (body_part fn.file.file structs f tf fr) place scope.locals (record { broke = place.label 0; continued = place.label 0 }))
  body_follows place scope placed of_scope ordered new bound depth =
      items_follow (record {
        code = record {
          around = no_loop;
          position = 0 + length (argument_items tf fr);
          broke_is = refl;
          continued_is = refl;
          code_is = ap (λ s. body_code structs fr (parts_of s) no_loop (0 + length (argument_items tf fr))) fn.order.body_is;
        };
        followed = record {
          expressions = λ here. expressions_follow (λ s there scene. nodes_follow (moved
              (scene_at c f place scope here bound) s there) scene slots (give bound));
          safe = fn.safe;
        };
        ready = subst (λ (g : TFunction). ReadyItems fr g fn.order.items) (same_Some _ _ (sym fn.is ∙ of_scope.function_is)) ready;
      }) placed of_scope ordered new depth
