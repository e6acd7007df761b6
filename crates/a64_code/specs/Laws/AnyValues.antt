-- What is said of a row's bits does not depend on the values of its fields.
use Rattle.std.proofs.Common.{◌≡◌, ℕ, Bool, List, [], ◌∷◌, refl}
use Rattle.a64_code.specs.Field.{fields_of, bits_beside}
use Rattle.a64_code.specs.Sound.{are_apart}
use Rattle.a64_code.specs.Line.{FieldPlace}
use Rattle.a64_code.specs.Table.{filled}

pub fields_of-filled : (word : ℕ) (wide : Bool) (ps : List FieldPlace) (v : List ℕ) →
    fields_of word (filled wide ps v) ≡ fields_of word (filled wide ps [])
fields_of-filled word wide [] v = refl
fields_of-filled word wide (p ∷ ps) [] = refl
fields_of-filled word wide (p ∷ ps) (n ∷ v) = rw (fields_of-filled word wide ps v) refl

pub bits_beside-filled : (top : ℕ) (wide : Bool) (ps : List FieldPlace) (v : List ℕ) →
    bits_beside top (filled wide ps v) ≡ bits_beside top (filled wide ps [])
bits_beside-filled top wide [] v = refl
bits_beside-filled top wide (p ∷ ps) [] = refl
bits_beside-filled top wide (p ∷ ps) (n ∷ v) = rw (bits_beside-filled p.low wide ps v) refl

pub are_apart-filled : (top base : ℕ) (wide : Bool) (ps : List FieldPlace) (v : List ℕ) →
    are_apart top base (filled wide ps v) ≡ are_apart top base (filled wide ps [])
are_apart-filled top base wide [] v = refl
are_apart-filled top base wide (p ∷ ps) [] = refl
are_apart-filled top base wide (p ∷ ps) (n ∷ v) = rw (are_apart-filled p.low base wide ps v) refl
