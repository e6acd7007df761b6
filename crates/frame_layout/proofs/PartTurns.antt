-- The loop over the parts of a frame, and what it gives.
use Rattle.std.proofs.Common.{◌≡◌, refl, ℕ, suc, ◌+◌, ◌<◌, Bool, ltb, List, [], ◌∷◌, ◌++◌, length, drop, get_or}
use Rattle.std.proofs.Common.{Result, Ok, Err, ap, sym, ◌∙◌, arith, append_assoc, subst}
use Rattle.std.specs.Prelude.{IfOk}
use Rattle.c_type_base.specs.declared.typed.StructInfo.{StructInfo}
use Rattle.c_type_base.specs.declared.typed.LocalInfo.{LocalInfo}
use Rattle.c_type_base.specs.declared.typed.TFunction.{TFunction}
use Rattle.c_type_base.specs.Layout.{LaidOut}
use Rattle.slot_safety.specs.declared.kind.Kind.{Kind}
use Rattle.slot_safety.specs.Kinds.{by_number, kind_by, kinds, is_tagged, harms}
use Rattle.frame_layout.specs.declared.placed.Part.{Part}
use Rattle.frame_layout.specs.Scopes.{inner_by, outermost, is_inner, as_told}
use Rattle.frame_layout.specs.Parts.{setting, part_of, parts, parts_from, parts_by, ArePositive}
use Rattle.frame_layout.specs.Laws.PartLaws.{parts-positive}
use Rattle.frame_layout.proofs.NeedTurns.{drop-here}

pub parts_turn : (structs : List StructInfo) (params : ℕ) (ls : List LocalInfo) (kinds : List Kind) (outers : List Bool) (i : ℕ)
    (l : LocalInfo) (kind : Kind) (outer : Bool) (before after all : List Part) → i < length ls → i < length kinds → i < length outers →
    l ≡ get_or ls i l → kind ≡ get_or kinds i kind → outer ≡ get_or outers i outer →
    before ++ parts_by (setting structs params) i (drop i ls) (drop i kinds) (drop i outers) ≡ all →
    after ≡ before ++ part_of structs l kind (inner_by (ltb i params) outer) ∷ [] →
    after ++ parts_by (setting structs params) (i + 1) (drop (i + 1) ls) (drop (i + 1) kinds) (drop (i + 1) outers) ≡ all
parts_turn structs params ls kinds outers i l kind outer before after all w1 w2 w3 is1 is2 is3 passed turn =
    let given = setting structs params in
    let rest = parts_by given (i + 1) (drop (i + 1) ls) (drop (i + 1) kinds) (drop (i + 1) outers) in
    let p = part_of structs l kind (inner_by (ltb i params) outer) in
    let next : i + 1 ≡ suc i = omega arith in
    let more_kinds = drop (i + 1) kinds in
    let more_outers = drop (i + 1) outers in
    ap (λ ps. ps ++ rest) turn
    ∙ append_assoc before (p ∷ []) rest
    ∙ ap (λ n. before ++ p ∷ parts_by given n (drop (i + 1) ls) more_kinds more_outers) next
    ∙ ap (λ ys. before ++ parts_by given i ys (kind ∷ more_kinds) (outer ∷ more_outers)) (sym (drop-here ls i l w1 is1))
    ∙ ap (λ ys. before ++ parts_by given i (drop i ls) ys (outer ∷ more_outers)) (sym (drop-here kinds i kind w2 is2))
    ∙ ap (λ ys. before ++ parts_by given i (drop i ls) (drop i kinds) ys) (sym (drop-here outers i outer w3 is3))
    ∙ passed

pub parts-as_defined : (structs : List StructInfo) (f : TFunction) (k : ℕ) (ls : List LocalInfo) →
    parts_by (setting structs f.params) k ls (by_number kind_by (harms structs f) k ls) (by_number as_told (outermost f.body) k ls)
    ≡ parts_from structs f k ls
parts-as_defined structs f k [] = refl
parts-as_defined structs f k (l ∷ ls) =
    ap (λ ps. part_of structs l (kind_by (is_tagged structs f k)) (is_inner f k) ∷ ps) (parts-as_defined structs f (suc k) ls)

pub parts_are : (structs : List StructInfo) (f : TFunction) (ls : List LocalInfo) (found : List Kind) (outers : List Bool)
    (all : List Part) → ls ≡ f.locals → found ≡ kinds structs f → outers ≡ by_number as_told (outermost f.body) 0 f.locals →
    all ≡ parts_by (setting structs f.params) 0 ls found outers → all ≡ parts structs f
parts_are structs f ls found outers all is1 is2 is3 is =
    let given = setting structs f.params in
    is
    ∙ ap (λ ls. parts_by given 0 ls found outers) is1
    ∙ ap (λ found. parts_by given 0 f.locals found outers) is2
    ∙ ap (λ outers. parts_by given 0 f.locals (kinds structs f) outers) is3
    ∙ parts-as_defined structs f 0 f.locals

pub are_positive : (structs : List StructInfo) → LaidOut structs → (f : TFunction) (all : List Part) → all ≡ parts structs f →
    ArePositive all
are_positive structs laid f all is = subst ArePositive (sym is) (parts-positive structs laid f 0 f.locals)

pub if_ok : {A E : Type 0} (r : Result A E) (P Q : A → Type 0) → ((a : A) → P a → Q a) → IfOk r P → IfOk r Q
if_ok (Ok a) P Q more held = more a held
if_ok (Err e) P Q more held = held
