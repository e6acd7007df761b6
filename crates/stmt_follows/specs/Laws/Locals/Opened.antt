-- No block that is there before the call of `main` is one of a local (this project's own).
use Rattle.std.specs.Prelude.{◌≡◌, ℕ, zero, suc, ◌+◌, Bool, true, false, List, [], ◌∷◌, ◌++◌, slice_get, Some, refl}
use Rattle.std.proofs.Common.{ap, sym, ◌∙◌}
use Rattle.c_type_base.specs.declared.typed.GlobalInfo.{GlobalInfo}
use Rattle.c_type_base.specs.declared.typed.StructInfo.{StructInfo}
use Rattle.c_type_base.specs.declared.typed.TFunction.{TFunction}
use Rattle.c_type_base.specs.declared.typed.Typed.{Typed}
use Rattle.block_meaning.specs.declared.kind.Kind.{Kind}
use Rattle.block_meaning.specs.declared.kind.Kind.TheVariants.{Local}
use Rattle.block_meaning.specs.Blocks.{Block}
use Rattle.block_meaning.specs.Opening.{objects_from, texts_from, codes_from, opening_from, opening}
use Rattle.code_relation.specs.Laws.Lists.{InJoined, front, back, get_joined}

abbrev pub is_local : Kind → Bool
is_local (Local call k) = true
is_local _ = false

record NoLocal (bs : List Block) : Type 0 where
  none : (i : ℕ) (d : Block) → slice_get bs i ≡ Some d → is_local d.kind ≡ false

no_block : NoLocal []
no_block = record { none = λ i d is. absurd (cc) }

one_more : (b : Block) (bs : List Block) → is_local b.kind ≡ false → NoLocal bs → NoLocal (b ∷ bs)
one_more b bs first rest = record { none = by_place }
  where
    by_place : (i : ℕ) (d : Block) → slice_get (b ∷ bs) i ≡ Some d → is_local d.kind ≡ false
    by_place zero d is = let same : b ≡ d = cc in ap (λ y. is_local y.kind) (sym same) ∙ first
    by_place (suc i) d is = rest.none i d is

joined : {xs ys : List Block} → NoLocal xs → NoLocal ys → NoLocal (xs ++ ys)
joined {xs} {ys} first second = record { none = λ i d is. by_list i d (get_joined xs ys i d is) }
  where
    by_list : (i : ℕ) (d : Block) → InJoined xs ys i d → is_local d.kind ≡ false
    by_list i d (front is) = first.none i d is
    by_list i d (back j same is) = second.none j d is

objects : (units : List Typed) (unit : ℕ) (structs : List StructInfo) (number : ℕ) (gs : List GlobalInfo) →
    NoLocal (objects_from units unit structs number gs)
objects units unit structs number [] = no_block
objects units unit structs number (g ∷ gs) = one_more _ _ refl (objects units unit structs (number + 1) gs)

texts : (unit number : ℕ) (bytes : List (List ℕ)) → NoLocal (texts_from unit number bytes)
texts unit number [] = no_block
texts unit number (bytes ∷ more) = one_more _ _ refl (texts unit (number + 1) more)

codes : (unit number : ℕ) (fs : List TFunction) → NoLocal (codes_from unit number fs)
codes unit number [] = no_block
codes unit number (f ∷ fs) = one_more _ _ refl (codes unit (number + 1) fs)

files : (units : List Typed) (unit : ℕ) (us : List Typed) → NoLocal (opening_from units unit us)
files units unit [] = no_block
files units unit (u ∷ us) =
    joined (joined (joined (objects units unit u.structs 0 u.globals) (texts unit 0 u.texts)) (codes unit 0 u.functions))
    (files units (unit + 1) us)

pub no_local_opened : (units : List Typed) (i : ℕ) (d : Block) → slice_get (opening units) i ≡ Some d → is_local d.kind ≡ false
no_local_opened units i d is = (one_more _ _ refl (files units 0 units)).none i d is
