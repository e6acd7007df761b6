-- One more turn of the loops over what a block declares.
use Rattle.std.proofs.Common.{◌≡◌, refl, ℕ, ◌+◌, ◌<◌, Bool, true, List, [], ◌∷◌, ◌++◌, length, drop, map, flat_map, get_or, ap, sym, ◌∙◌}
use Rattle.std.specs.Prelude.{slice_set}
use Rattle.c_type_base.specs.declared.statement.TDecl.{TDecl}
use Rattle.slot_safety.specs.Kinds.{put}
use Rattle.frame_layout.specs.Scopes.{number_of}
use Rattle.frame_layout.proofs.NeedTurns.{drop-here}

put-append : {A : Type 0} (a : A) (xs : List A) (ks js : List ℕ) → put a xs (ks ++ js) ≡ put a (put a xs ks) js
put-append a xs [] js = refl
put-append a xs (k ∷ ks) js = put-append a _ ks js

pub decl_turn : (xs : List TDecl) (i : ℕ) (x : TDecl) (before after all : List Bool) → i < length xs → x ≡ get_or xs i x →
    put true before (map number_of (drop i xs)) ≡ all → after ≡ slice_set before x.local true →
    put true after (map number_of (drop (i + 1) xs)) ≡ all
decl_turn xs i x before after all within is passed turn =
    ap (λ flags. put true flags (map number_of (drop (i + 1) xs))) turn
    ∙ ap (λ ys. put true before (map number_of ys)) (sym (drop-here xs i x within is)) ∙ passed

pub item_turn : {A : Type 0} (f : A → List ℕ) (xs : List A) (i : ℕ) (x : A) (before after all : List Bool) → i < length xs →
    x ≡ get_or xs i x → put true before (flat_map f (drop i xs)) ≡ all → after ≡ put true before (f x) →
    put true after (flat_map f (drop (i + 1) xs)) ≡ all
item_turn f xs i x before after all within is passed turn =
    ap (λ flags. put true flags (flat_map f (drop (i + 1) xs))) turn
    ∙ sym (put-append true before (f x) (flat_map f (drop (i + 1) xs)))
    ∙ ap (λ ys. put true before (flat_map f ys)) (sym (drop-here xs i x within is)) ∙ passed
