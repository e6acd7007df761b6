use Rattle.std.proofs.Common.{refl}
use Rattle.block_meaning.specs.declared.value.Value.TheVariants.{Struct}
use Rattle.block_meaning.specs.Memory.{Copy, object, copy_struct}
use Rattle.block_meaning.specs.Running.{gives}
use Rattle.mean_effects.specs.Laws.Giving.{done-then, stopped-then, gives-value}
use Rattle.mean_effects.specs.declared.assigning.Assignment.{Assignment}
use Rattle.block_meaning.specs.declared.value.Pointer.{Pointer}
use Rattle.mean_effects.proofs.assigning.copy_to_left.Goals as goal

abbrev copy_from : Assignment → Pointer → Copy
copy_from a q = record {
  source = object a.left.now.ty q;
  target = object a.left.now.ty a.at;
  source_span = a.right.now.span;
  target_span = a.left.now.span;
  span = a.span;
}

pub returns-in-Ok : goal.returns-in-Ok
returns-in-Ok c = λ here now of_here of_now.
    let a = c.args.a in
    done-then (copy_struct here (copy_from a c.args.q) now) (λ _. gives (Struct a.at)) c.in-Ok.is
    (c.copy_struct.ensures here now of_here of_now) (λ after shown. gives-value refl shown)

pub returns-in-Err : goal.returns-in-Err
returns-in-Err c = λ here now of_here of_now.
    let a = c.args.a in
    stopped-then (copy_struct here (copy_from a c.args.q) now) (λ _. gives (Struct a.at)) c.in-Err.is
    (c.copy_struct.ensures here now of_here of_now)
