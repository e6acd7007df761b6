-- Code that stands among a function's items follows its statement (this project's own), in a function without tagged slots.
use Rattle.std.specs.Prelude.{◌≡◌, ℕ, false, List, map, length, slice_get, Some, refl}
use Rattle.std.proofs.Common.{arith, ap, sym, subst, ◌∙◌}
use Rattle.c_type_base.specs.declared.typed.Typed.{Typed}
use Rattle.a64_code.specs.State.{State}
use Rattle.block_meaning.specs.ExpressionsInOrder.{Scope}
use Rattle.block_meaning.specs.Meaning.{calls_at}
use Rattle.block_meaning.specs.Running.{Function, Context, Run, State as MeaningState}
use Rattle.block_meaning.specs.Statements.{Flow, Next, Broke, Continued, Returned, statements_at}
use Rattle.block_meaning.specs.Statements.{items as items_run}
use Rattle.c_type_base.specs.declared.statement.TItem.{TItem}
use Rattle.c_type_base.specs.declared.statement.TStmt.{TStmt, out-TStmt}
use Rattle.code_follows.specs.Scene.{Scene}
use Rattle.block_meaning.specs.Linkage.{structs_of}
use Rattle.block_meaning.specs.StatementsInOrder.{Items}
use Rattle.code_relation.specs.Fresh.{FreshItems}
use Rattle.code_relation.specs.Calls.{has_tagged, frame_of}
use Rattle.code_relation.specs.Sites.{units_of}
use Rattle.code_relation.specs.Follows.{Code, Follows}
use Rattle.code_relation.specs.Items.{Place, StandsAt}
use Rattle.code_relation.specs.Trees.{Part, Exits, no_scope, ComesBy, IsPlaced, IsScope, statement_tree}
use Rattle.code_relation.specs.Trees.{FollowsStatement, FollowsItems}
use Rattle.code_runs.specs.Laws.Bounded.{IsWider-same, changes}
use Rattle.gen_stmt.specs.Loops.{Around, Emits}
use Rattle.gen_stmt.specs.Statements.{items, statement_code, coded_item}
use Rattle.sym_code.specs.declared.item.SymItem.{SymItem}
use Rattle.sym_code.specs.declared.item.SymItem.TheVariants as item
use Rattle.stmt_follows.specs.Expressions.{ExpressionsFollow, IsPlace}
use Rattle.stmt_follows.specs.Parts.{ways, Ends, Flows, StmtPart}
use Rattle.stmt_follows.specs.Ready.{Ready, ReadyItems}
use Rattle.stmt_follows.specs.Laws.Statements.Declarations.{declarations_follow}
use Rattle.stmt_follows.specs.Laws.Whole.{all_below, items_below}

-- a list of items of a function, whose temps are all free
abbrev pub part_of : Typed → Function → List SymItem → Part
part_of file f is = record { file = file; function = f; items = is; first = 0 }

-- the code of trees of a scope, where it stands
abbrev pub scene_at : Code → Function → Place → Scope → Context → ℕ → Scene
scene_at c f p s here bound = record { code = c; function = f; label = p.label; scope = s; here = here; bound = bound }

-- what is asked of a function's expressions and slots, whatever runs there
pub record IsFollowed (c : Code) (f : Function) (p : Place) (s : Scope) (bound : ℕ) : Type 0 where
  pub expressions : (here : Context) → ExpressionsFollow (scene_at c f p s here bound)
  pub safe : has_tagged (units_of c.given) f ≡ false

-- the item at a position, where the function ends
record LeavesAt (p : Place) (is : List SymItem) (at : ℕ) : Type 0 where
  position : ℕ
  there : slice_get is position ≡ Some item.Leave
  at_is : p.at position ≡ at

module _ (file : Typed) (c : Code) (f : Function) (p : Place) (s : Scope) (bound : ℕ) (is : List SymItem) (broke continued : ℕ) where
  -- the addresses of the labels
  abbrev exits : Exits
  exits = record { broke = p.label broke; continued = p.label continued }

  comes_by : (here : Context) (t : State) (x : Flow) (now : MeaningState) (u : State) →
      Ends (scene_at c f p s here bound)
      (record { broke = p.label broke; continued = p.label continued; Leaving = λ at. LeavesAt p is at }) t (p.at (length is)) x now u →
      ComesBy c.given (part_of file f is) p exits here t 0 x now u
  comes_by here t Next now u ends = ends
  comes_by here t Broke now u ends = (ends, no_scope)
  comes_by here t Continued now u ends = (ends, no_scope)
  comes_by here t (Returned v) now u left = record {
    position = left.leaving.position;
    leave = left.leaving.there;
    value = left.value;
    tags = u.tag;
    comes = record {
      relates = left.comes.relates;
      pc = left.comes.pc ∙ sym left.leaving.at_is;
      kept = left.comes.kept;
    };
    same = λ granule none. refl;
  }

  -- from what a part promises, in each context
  follows_by : (emits : Emits) (around : Around) (position : ℕ) → around.broke ≡ broke → around.continued ≡ continued →
      is ≡ emits around position → (run : Context → Run Flow) → IsPlaced (part_of file f is) c p → IsScope c f s →
      has_tagged (units_of c.given) f ≡ false →
      ((here : Context) → IsPlace (scene_at c f p s here bound) → StmtPart (scene_at c f p s here bound) emits (run here)) →
      Follows c (statement_tree c.given run (part_of file f is) p s.locals exits)
  follows_by emits around position broke_is continued_is code_is run placed of_scope safe each = record {
    does = λ here now t within relates begins.
        let k : Scene = scene_at c f p s here bound in
        let place : IsPlace k = record {
          scene = record { file = placed.file; of_scope = of_scope; inside = begins.0.0 };
          safe = record { safe = safe };
          only = begins.1;
        } in
        let flows : Flows k (ways k around (λ at. LeavesAt p is at)) (p.at 0) (p.at (length is)) (run here) =
        (each here place).part around (λ at. LeavesAt p is at) (p.at 0) (p.at (length is)) (record {
          lies = record {
            position = position;
            place = p;
            label_is = refl;
            stands = subst (λ items. StandsAt c f p items) code_is placed.stands;
            from_is = refl;
            to_is = ap (λ items. p.at (length items)) (sym code_is);
          };
          leaving = λ n there. record {
            position = n;
            there = subst (λ items. slice_get items n ≡ Some item.Leave) (sym code_is) there;
            at_is = refl;
          };
        }) in
        record {
          extra = 0;
          bounded = changes (record { least = omega arith; most = omega arith }) (λ x. IsWider-same _)
              (λ x later u ends. comes_by here t x later u (named here t x later u broke_is continued_is ends))
              (flows.flows now t within relates begins.0.1).bounded;
        };
  }
    where
      named : (here : Context) (t : State) (x : Flow) (later : MeaningState) (u : State) → around.broke ≡ broke →
          around.continued ≡ continued →
          Ends (scene_at c f p s here bound) (ways (scene_at c f p s here bound) around (λ at. LeavesAt p is at)) t (p.at (length is)) x
          later u →
          Ends (scene_at c f p s here bound)
          (record { broke = p.label broke; continued = p.label continued; Leaving = λ at. LeavesAt p is at }) t (p.at (length is)) x later u
      named here t x later u one other ends =
          subst (λ (n : ℕ). Ends (scene_at c f p s here bound)
          (record { broke = p.label n; continued = p.label continued; Leaving = λ at. LeavesAt p is at }) t (p.at (length is)) x later u)
          one
          (subst (λ (n : ℕ). Ends (scene_at c f p s here bound)
          (record { broke = p.label around.broke; continued = p.label n; Leaving = λ at. LeavesAt p is at }) t (p.at (length is)) x later u)
          other ends)

-- ---- statements, and the parts of a block

-- the items are the code of a statement of the function, in a file with these structs and with its frame
pub record IsCodeOf (is : List SymItem) (broke continued : ℕ) (emits : Emits) : Type 0 where
  pub around : Around
  pub position : ℕ
  pub broke_is : around.broke ≡ broke
  pub continued_is : around.continued ≡ continued
  pub code_is : is ≡ emits around position

-- What is asked where the items stand: that they are the statement's code, and that the statement is ready.
pub record IsStatement (c : Code) (f : Function) (p : Place) (s : Scope) (bound : ℕ) (is : List SymItem) (broke continued : ℕ) (st : TStmt)
    : Type 0 where
  pub code : IsCodeOf is broke continued (statement_code (structs_of (units_of c.given) f.unit) (frame_of (units_of c.given) f) st)
  pub followed : IsFollowed c f p s bound
  pub ready : Ready (frame_of (units_of c.given) f) s.function (out-TStmt st)

-- The items follow the statement.
pub follows_statement : (file : Typed) (f : Function) (is : List SymItem) (broke continued : ℕ) (st : TStmt) →
    ((c : Code) (p : Place) (s : Scope) (bound : ℕ) → IsPlaced (part_of file f is) c p → IsScope c f s →
    IsStatement c f p s bound is broke continued st) → FollowsStatement (part_of file f is) broke continued st
follows_statement file f is broke continued st each = record {
  follows = λ c p s placed of_scope ordered new bound depth.
      let asked : IsStatement c f p s bound is broke continued st = each c p s bound placed of_scope in
      follows_by file c f p s bound is broke continued
      (statement_code (structs_of (units_of c.given) f.unit) (frame_of (units_of c.given) f) st) asked.code.around asked.code.position
      asked.code.broke_is asked.code.continued_is asked.code.code_is (λ here. (statements_at (calls_at bound) depth).run here st) placed
      of_scope asked.followed.safe (λ here place.
      (all_below (asked.followed.expressions here) (declarations_follow _ (asked.followed.expressions here)) depth).statement s here refl
      place st ordered new asked.ready);
}

-- the same of the parts of a block, whose locals are in scope
pub record AreItems (c : Code) (f : Function) (p : Place) (s : Scope) (bound : ℕ) (is : List SymItem) (broke continued : ℕ)
    (parts : List TItem) : Type 0 where
  pub code : IsCodeOf is broke continued
      (items (map (coded_item (structs_of (units_of c.given) f.unit) (frame_of (units_of c.given) f)) parts))
  pub followed : IsFollowed c f p s bound
  pub ready : ReadyItems (frame_of (units_of c.given) f) s.function parts

-- where they stand
pub items_follow : {file : Typed} {c : Code} {f : Function} {p : Place} {s : Scope} {bound : ℕ} {is : List SymItem} {broke continued : ℕ}
    {parts : List TItem} → AreItems c f p s bound is broke continued parts → IsPlaced (part_of file f is) c p → IsScope c f s →
    Items s parts → FreshItems s.locals parts → (depth : ℕ) →
    Follows c (statement_tree c.given (λ here. items_run (statements_at (calls_at bound) depth) here parts) (part_of file f is) p s.locals
    (record { broke = p.label broke; continued = p.label continued }))
items_follow {file} {c} {f} {p} {s} {bound} {is} {broke} {continued} {parts} asked placed of_scope ordered new depth =
    follows_by file c f p s bound is broke continued
    (items (map (coded_item (structs_of (units_of c.given) f.unit) (frame_of (units_of c.given) f)) parts)) asked.code.around
    asked.code.position asked.code.broke_is asked.code.continued_is asked.code.code_is
    (λ here. items_run (statements_at (calls_at bound) depth) here parts) placed of_scope asked.followed.safe (λ here place.
    items_below (asked.followed.expressions here) (declarations_follow _ (asked.followed.expressions here)) depth s here refl place parts
    ordered new asked.ready)

-- and so wherever they are placed
pub follows_items : (file : Typed) (f : Function) (is : List SymItem) (broke continued : ℕ) (parts : List TItem) →
    ((c : Code) (p : Place) (s : Scope) (bound : ℕ) → IsPlaced (part_of file f is) c p → IsScope c f s →
    AreItems c f p s bound is broke continued parts) → FollowsItems (part_of file f is) broke continued parts
follows_items file f is broke continued parts each = record {
  follows = λ c p s placed of_scope ordered new bound depth.
      items_follow (each c p s bound placed of_scope) placed of_scope ordered new depth;
}
