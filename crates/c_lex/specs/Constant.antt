-- Integer constants: a prefix, digits of its base, and a suffix (C11 6.4.4.1, without the suffix `ll`, and without floating constants).
use Rattle.std.specs.Prelude.{◌≡◌, ◌≢◌, ℕ, Bool, true, false, IsTrue, ◌||◌, ◌==◌, ◌⊎◌, List, [], ◌∷◌, ◌++◌, Some}
use Rattle.c_ast.specs.declared.int_type.IntType.{IntType}
use Rattle.c_lex.specs.Digits.{are_digits, number_of}
use Rattle.c_lex.specs.ConstantTypes.{listed_types, first_type}

-- A base, the bytes before the digits, and the digits, of which there is one at least. The `0` of an octal constant is its first digit.
pub data Based : ℕ → List ℕ → List ℕ → Type 0 where
  decimal : {first : ℕ} {more : List ℕ} → first ≢ 48 → IsTrue (are_digits 10 (first ∷ more)) → Based 10 [] (first ∷ more)
  octal : {more : List ℕ} → IsTrue (are_digits 8 (48 ∷ more)) → Based 8 [] (48 ∷ more)
  hexadecimal : {x first : ℕ} {more : List ℕ} → (x ≡ 120) ⊎ (x ≡ 88) → IsTrue (are_digits 16 (first ∷ more)) →
      Based 16 (48 ∷ x ∷ []) (first ∷ more)

-- `u` or `U`
abbrev pub is_unsigned_mark : ℕ → Bool
is_unsigned_mark b = b == 117 || b == 85

-- `l` or `L`
abbrev pub is_long_mark : ℕ → Bool
is_long_mark b = b == 108 || b == 76

-- one `u` or `U`, one `l` or `L`, both in either order, or none: whether it has the one, and whether it has the other
pub data Suffix : Bool → Bool → List ℕ → Type 0 where
  none : Suffix false false []
  unsigned : {u : ℕ} → IsTrue (is_unsigned_mark u) → Suffix true false (u ∷ [])
  long : {l : ℕ} → IsTrue (is_long_mark l) → Suffix false true (l ∷ [])
  unsigned_long : {u l : ℕ} → IsTrue (is_unsigned_mark u) → IsTrue (is_long_mark l) → Suffix true true (u ∷ l ∷ [])
  long_unsigned : {l u : ℕ} → IsTrue (is_long_mark l) → IsTrue (is_unsigned_mark u) → Suffix true true (l ∷ u ∷ [])

-- these bytes are written as an integer constant, whatever its value
pub record IsInteger (bytes : List ℕ) : Type 0 where
  pub radix : ℕ
  pub prefix : List ℕ
  pub digits : List ℕ
  pub suffix : List ℕ
  pub unsigned : Bool
  pub long : Bool
  pub parts : bytes ≡ prefix ++ (digits ++ suffix)
  pub based : Based radix prefix digits
  pub marked : Suffix unsigned long suffix

-- these bytes are a constant of this value and type: the first type of its list that holds the value (6.4.4.1 paragraph 5)
pub record IsConstant (value : ℕ) (ty : IntType) (bytes : List ℕ) : Type 0 where
  pub written : IsInteger bytes
  pub valued : value ≡ number_of written.radix written.digits
  pub typed : first_type value (listed_types (written.radix == 10) written.unsigned written.long) ≡ Some ty
