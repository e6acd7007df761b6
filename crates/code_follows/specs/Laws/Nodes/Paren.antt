-- Parentheses have no code of their own (this project's own).
use Rattle.std.specs.Prelude.{ℕ}
use Rattle.c_type_base.specs.declared.expr.TExpr.{TExpr}
use Rattle.c_type_base.specs.declared.expr.TNode.TheOpen.{TNode-F}
use Rattle.code_follows.specs.Parts.{ValueFollows, PlaceFollows, ValueNode, PlaceNode}
use Rattle.code_follows.specs.Scene.{Scene}

pub paren_follows : (k : Scene) (depth : ℕ) (e : TExpr) → ValueFollows k depth e → ValueNode k depth e.ty (TNode-F.Paren e)
paren_follows k depth e follows = record { at = λ span around. record { part = (follows.around around).part } }

pub paren_place_follows : (k : Scene) (depth : ℕ) (e : TExpr) → PlaceFollows k depth e → PlaceNode k depth e.ty (TNode-F.Paren e)
paren_place_follows k depth e follows = record {
  at = λ span. record {
    place = follows.part.place;
    pointer = record {
      owes = follows.part.pointer.owes;
      first = follows.part.pointer.first;
      run_is = follows.part.pointer.run_is;
      part = follows.part.pointer.part;
    };
    slot = follows.part.slot;
  };
}
