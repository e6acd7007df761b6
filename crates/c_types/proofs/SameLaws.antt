-- Signatures that are one are equal.
use Rattle.std.proofs.Common.{◌≡◌, refl, true, List, [], ◌∷◌}
use Rattle.std.proofs.lemmas.Bool.{and_parts}
use Rattle.c_type_base.specs.declared.ty.Ty.{Ty}
use Rattle.c_type_base.specs.Types.{same_type}
use Rattle.c_type_base.specs.Laws.SameLaws.{one-type}
use Rattle.c_type_expr.specs.declared.scopes.Signature.{Signature}
use Rattle.c_types.specs.Redeclarations.{same_types, same_signature}

pub types_are : (ss ts : List Ty) → same_types ss ts ≡ true → ss ≡ ts
types_are [] [] is = refl
types_are [] (t ∷ ts) is = absurd (cc)
types_are (s ∷ ss) [] is = absurd (cc)
types_are (s ∷ ss) (t ∷ ts) is =
    let parts = and_parts (same_type s t) (same_types ss ts) is in
    let first = one-type s t parts.0 in
    let rest = types_are ss ts parts.1 in
    λ i. first i ∷ rest i

pub signature_is : (f g : Signature) → same_signature f g ≡ true → f ≡ g
signature_is f g is =
    let parts = and_parts (same_type f.result g.result) (same_types f.params g.params) is in
    let one = one-type f.result g.result parts.0 in
    let all = types_are f.params g.params parts.1 in
    λ i. record { result = one i; params = all i }
