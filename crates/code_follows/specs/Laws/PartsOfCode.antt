-- A list of items that is the code of an expression follows it wherever it is placed, where all kinds of nodes do (this project's own).
use Rattle.std.specs.Prelude.{◌≡◌, ℕ, ◌+◌, ◌≤◌, true, refl, List, Option, Some, slice_get, length}
use Rattle.std.proofs.Common.{ap, sym, subst, ◌∙◌}
use Rattle.c_type_base.specs.declared.expr.TExpr.{TExpr}
use Rattle.c_type_base.specs.declared.typed.TFunction.{TFunction}
use Rattle.c_type_base.specs.declared.typed.Typed.{Typed}
use Rattle.a64_code.specs.declared.instr.Reg.{Reg}
use Rattle.sym_code.specs.declared.item.SymItem.{SymItem}
use Rattle.frame_layout.specs.declared.frame.Frame.{Frame}
use Rattle.frame_layout.specs.Frames.{frame}
use Rattle.frame_layout.specs.Needs.{need}
use Rattle.block_meaning.specs.ExpressionsInOrder.{Scope}
use Rattle.block_meaning.specs.Linkage.{function_in, structs_in as structs_of_file}
use Rattle.block_meaning.specs.Running.{Context}
use Rattle.code_relation.specs.Calls.{frame_by}
use Rattle.code_relation.specs.Follows.{Code}
use Rattle.code_relation.specs.Items.{Place, StandsAt}
use Rattle.code_relation.specs.Trees.{Part, IsPlaced, IsScope, FollowsExpression, FollowsPlace}
use Rattle.gen_expr.specs.Coded.{Emits, Coded}
use Rattle.gen_expr.specs.Expressions.{coded}
use Rattle.code_follows.specs.Covered.{covered}
use Rattle.code_follows.specs.Nodes.{Nodes}
use Rattle.code_follows.specs.Scene.{Scene, IsScene, IsFree, Lies, structs_in, frame_in}
use Rattle.code_follows.specs.Laws.Expressions.{AllNodes, scene_at, expression_follows, place_follows}

-- the items are such code of an expression that is covered, with registers and temps that the function has
pub record IsCodeOf (code : Coded → Emits) (part : Part) (e : TExpr) (reg : Reg) : Type 0 where
  pub function : TFunction
  pub function_is : function_in (Some part.file) part.function.number ≡ Some function
  pub position : ℕ
  pub items_are : part.items ≡ code (coded part.file.structs (frame part.file.structs function) e) part.first reg position
  pub is_covered : covered e ≡ true
  pub low : 9 ≤ reg.0
  pub high : reg.0 ≤ 15
  pub temps : part.first + need e ≤ (frame part.file.structs function).temps
  pub near : part.first + need e ≤ 4093

-- in each scene all nodes do what they mean
abbrev pub NodesFollow : Type 1
NodesFollow = (k : Scene) → IsScene k → Nodes k

-- where a part is placed, with what its trees may name
abbrev pub placed_scene : Part → Code → Place → Scope → ℕ → Context → Scene
placed_scene part c p scope bound here = record {
  code = c;
  function = part.function;
  label = p.label;
  scope = scope;
  here = here;
  bound = bound;
}

module _ {code : Coded → Emits} {part : Part} {e : TExpr} {reg : Reg} (of : IsCodeOf code part e reg) {c : Code} {p : Place} {scope : Scope}
    (placed : IsPlaced part c p) (of_scope : IsScope c part.function scope) (bound : ℕ) (here : Context) where
  abbrev scene : Scene
  scene = placed_scene part c p scope bound here

  file_is : slice_get c.given.program.units part.function.unit ≡ Some part.file
  file_is = placed.file.is ∙ ap Some placed.of_part

  structs_are : structs_in scene ≡ part.file.structs
  structs_are = ap structs_of_file file_is

  frame_is : frame_in scene ≡ frame part.file.structs of.function
  frame_is =
      ap (λ (o : Option Typed). frame_by c.given.program.units part.function.unit (function_in o part.function.number)) file_is
      ∙ ap (frame_by c.given.program.units part.function.unit) of.function_is
      ∙ ap (λ (o : Option Typed). frame (structs_of_file o) of.function) file_is

  code_is : part.items ≡ code (coded (structs_in scene) (frame_in scene) e) part.first reg of.position
  code_is =
      of.items_are
      ∙ sym (ap (λ structs. code (coded structs (frame_in scene) e) part.first reg of.position) structs_are
      ∙ ap (λ f. code (coded part.file.structs f e) part.first reg of.position) frame_is)

  lies_there : Lies scene (code (coded (structs_in scene) (frame_in scene) e) part.first reg) (p.at 0) (p.at (length part.items))
  lies_there = record {
    position = of.position;
    place = p;
    label_is = refl;
    stands = subst (λ items. StandsAt c part.function p items) code_is placed.stands;
    from_is = refl;
    to_is = ap (λ (items : List SymItem). p.at (length items)) (sym code_is);
  }

  is_free : IsFree scene (need e) part.first reg
  is_free = record {
    low = of.low;
    high = of.high;
    temps = subst (λ (f : Frame). part.first + need e ≤ f.temps) (sym frame_is) of.temps;
    near = of.near;
  }

  all_nodes : NodesFollow → AllNodes scene
  all_nodes nodes = record {
    nodes = λ there inside. nodes (scene_at scene there) (record { file = placed.file; of_scope = of_scope; inside = inside });
  }

-- an expression's value comes into the register
pub expression-follows : NodesFollow → {part : Part} {e : TExpr} {reg : Reg} → IsCodeOf (λ x. x.value) part e reg →
    FollowsExpression part e reg
expression-follows nodes {part} {e} of = record {
  follows = λ c p scope placed of_scope in_order bound depth around. record {
    does = λ here now s.
        (expression_follows (all_nodes of placed of_scope bound here nodes) e in_order of.is_covered (is_free of placed of_scope bound here)
        (lies_there of placed of_scope bound here) depth around).does here now s;
  };
}

-- and so does the place of what one designates
pub place-follows : NodesFollow → {part : Part} {e : TExpr} {reg : Reg} → IsCodeOf (λ x. x.place) part e reg → FollowsPlace part e reg
place-follows nodes {part} {e} of = record {
  follows = λ c p scope placed of_scope in_order bound depth. record {
    does = λ here now s.
        (place_follows (all_nodes of placed of_scope bound here nodes) e in_order of.is_covered (is_free of placed of_scope bound here)
        (lies_there of placed of_scope bound here) depth).does here now s;
  };
}
