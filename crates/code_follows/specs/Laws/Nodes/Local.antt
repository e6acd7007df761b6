-- The code of the name of a local does what it means (this project's own).
use Rattle.std.specs.Prelude.{◌≡◌, ℕ, true, false, slice_get, Some, refl}
use Rattle.c_type_base.specs.declared.expr.TNode.TheOpen.{TNode-F}
use Rattle.c_type_base.specs.declared.typed.LocalInfo.{LocalInfo}
use Rattle.block_meaning.specs.Expressions.{starts}
use Rattle.sym_code.specs.declared.item.SymItem.TheVariants as item
use Rattle.gen_base.specs.Code.{only}
use Rattle.code_follows.specs.Leaves.{place_leaves}
use Rattle.code_follows.specs.Parts.{Part, PlaceNode, names}
use Rattle.code_follows.specs.Scene.{Scene, IsScene, given_in}
use Rattle.code_follows.specs.Values.{PlaceIs}
use Rattle.code_follows.specs.Laws.Addresses.{address_part}
use Rattle.code_follows.specs.Laws.Here.{and_then-gives}

pub local_follows : (k : Scene) → IsScene k → (depth n : ℕ) (l : LocalInfo) → slice_get k.scope.function.locals n ≡ Some l →
    PlaceNode k depth l.ty (TNode-F.Local n)
local_follows k scene depth n l there =
    let part : Part k (λ m r. only (item.SlotAddress n r)) 0 place_leaves true (PlaceIs (given_in k)) (starts (k.here.local n)) =
    address_part scene (record { names = λ reg spot acts. acts }) in
    record {
      at = λ span. record {
        place = part;
        pointer = record { owes = false; first = starts (k.here.local n); run_is = and_then-gives (starts (k.here.local n)); part = part };
        slot = λ start is now. names n l there refl is refl;
      };
    }
