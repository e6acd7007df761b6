-- Facts of a function's frame, and of values where a call more was made (this project's own).
use Rattle.std.specs.Prelude.{◌≡◌, ℕ, ◌%◌, ◌≤◌, [], ◌∷◌, refl}
use Rattle.std.proofs.Common.{arith}
use Rattle.c_type_base.specs.declared.typed.TFunction.{TFunction}
use Rattle.block_meaning.specs.declared.value.Value.{Value}
use Rattle.block_meaning.specs.declared.value.Value.TheVariants.{Number, Address, Struct, NoValue}
use Rattle.block_meaning.specs.Running.{Function, Call, Context, State as MeaningState}
use Rattle.code_relation.specs.Calls.{frame_of}
use Rattle.code_relation.specs.Follows.{Code}
use Rattle.code_relation.specs.Numbers.{Holds}
use Rattle.code_relation.specs.Sites.{Given, units_of}
use Rattle.code_relation.specs.Stands.{Stands}
use Rattle.code_relation.specs.Laws.Called.{with_call, IsNumber-called}
use Rattle.code_relation.specs.Laws.LocalBytes.{all_framed}
use Rattle.stmt_follows.specs.Laws.Locals.Slots.{open_whole}
use Rattle.unit_follows.specs.Functions.{IsPlacedFunction}
use Rattle.unit_follows.specs.Placing.{Placing}

-- a frame has its words
pub frame_some : {c : Code} {p : Placing} {f : Function} {tf : TFunction} {base : ℕ} → IsPlacedFunction c p f tf base →
    24 ≤ (frame_of (units_of c.given) f).bytes
frame_some {c} {p} {f} {tf} fn =
    let one : Call = record { number = 0; function = f; place = 0 } in
    let framed = all_framed c.given.program fn.here.file.meant.in_order (one ∷ []) (one ∷ [])
    (refl, record { function = tf; is = fn.here.is }, tt) in
    omega (arith, framed.0)

-- a frame has whole granules
pub frame_whole : {c : Code} {p : Placing} {f : Function} {tf : TFunction} {base : ℕ} → IsPlacedFunction c p f tf base →
    (frame_of (units_of c.given) f).bytes % 16 ≡ 0
frame_whole {c} {p} {f} {tf} fn =
    let one : Call = record { number = 0; function = f; place = (frame_of (units_of c.given) f).bytes } in
    open_whole (units_of c.given) (one ∷ []) (one ∷ []) (refl, record { function = tf; is = fn.here.is }, tt) (omega arith, tt)

-- a value is as before where a call more was made
pub Holds-called : (g : Given) {here : Context} (call : Call) (now : MeaningState) → Stands g here now → (v : Value) (n : ℕ) →
    Holds g now v n → Holds g (with_call call now) v n
Holds-called g call now stands (Number m) n holds = holds
Holds-called g call now stands (Address q) n holds = IsNumber-called call stands holds
Holds-called g call now stands (Struct q) n holds = IsNumber-called call stands holds
Holds-called g call now stands NoValue n holds = tt
