use Rattle.std.proofs.Common.{◌≡◌, List, [], ◌∷◌, Some, length, get_or, slice_get, subst, sym, ap, arith}
use Rattle.c_type_base.specs.Layout.{LaidOut}
use Rattle.c_type_base.specs.Sizes.{AreObjects}
use Rattle.plan_rows.proofs.frames.of_typed.Goals as goal

-- the first of a list that has some
first_of : {A : Type 0} (xs ys : List A) (x : A) → xs ≡ ys → length xs ≡ 1 → x ≡ get_or xs 0 x → slice_get ys 0 ≡ Some x
first_of [] ys x same one is = absurd (omega (arith, one))
first_of (y ∷ rest) ys x same one is = subst (λ zs. slice_get zs 0 ≡ Some x) same (ap Some (sym is))

-- the structs are laid out, and the one function's locals have types that objects may have
pub layout-requires-clause-laid_out : goal.layout-requires-clause-laid_out
layout-requires-clause-laid_out c = subst LaidOut (sym c.as_slice.ensures) c.requires.laid_out

pub layout-requires-clause-objects : goal.layout-requires-clause-objects
layout-requires-clause-objects c =
    subst (λ structs. AreObjects structs c.index-functions-0.result.locals) (sym c.as_slice.ensures)
    (c.requires.objects 0 c.index-functions-0.result
    (first_of c.as_slice-functions.result.now _ c.index-functions-0.result c.as_slice-functions.ensures c.if-functions-ne1.false
    c.index-functions-0.is))
