-- How types are spelled (ISO C11 6.7.2, 6.7.6).
use Rattle.std.specs.Prelude.{ℕ, suc, List, [], ◌∷◌, ◌++◌}
use Rattle.c_ast.specs.Seen.{Seen as Token}
use Rattle.c_ast.specs.declared.int_type.IntType.{IntType}
use Rattle.c_ast.specs.declared.int_type.IntType.TheVariants as integer
use Rattle.c_ast.specs.declared.expr.CType.{CType}
use Rattle.c_ast.specs.declared.expr.CType.TheVariants as type
use Rattle.c_ast.specs.declared.keyword.Keyword.{Keyword}
use Rattle.c_ast.specs.declared.keyword.Keyword.TheVariants as key
use Rattle.c_ast.specs.declared.punctuator.Punctuator.TheVariants as mark
use Rattle.c_grammar.specs.Words.{IsKeyword, IsPunct, IsName}

-- words = [ "signed" | "unsigned" ] "char" | [ "signed" | "unsigned" ] ( "short" | "long" ) [ "int" ]
--       | [ "signed" | "unsigned" ] "int" | "signed" | "unsigned"
pub data Keywords : List Keyword → List Token → Type 0 where
  none : Keywords [] []
  word : {k : Keyword} {ks : List Keyword} {w : List Token} (t : Token) → IsKeyword k t → Keywords ks w → Keywords (k ∷ ks) (t ∷ w)

pub data TypeWords : IntType → List Keyword → Type 0 where
  char : TypeWords integer.Char (key.Char ∷ [])
  signed_char : TypeWords integer.SignedChar (key.Signed ∷ key.Char ∷ [])
  unsigned_char : TypeWords integer.UnsignedChar (key.Unsigned ∷ key.Char ∷ [])
  short : TypeWords integer.Short (key.Short ∷ [])
  short_int : TypeWords integer.Short (key.Short ∷ key.Int ∷ [])
  signed_short : TypeWords integer.Short (key.Signed ∷ key.Short ∷ [])
  signed_short_int : TypeWords integer.Short (key.Signed ∷ key.Short ∷ key.Int ∷ [])
  unsigned_short : TypeWords integer.UShort (key.Unsigned ∷ key.Short ∷ [])
  unsigned_short_int : TypeWords integer.UShort (key.Unsigned ∷ key.Short ∷ key.Int ∷ [])
  long : TypeWords integer.Long (key.Long ∷ [])
  long_int : TypeWords integer.Long (key.Long ∷ key.Int ∷ [])
  signed_long : TypeWords integer.Long (key.Signed ∷ key.Long ∷ [])
  signed_long_int : TypeWords integer.Long (key.Signed ∷ key.Long ∷ key.Int ∷ [])
  unsigned_long : TypeWords integer.ULong (key.Unsigned ∷ key.Long ∷ [])
  unsigned_long_int : TypeWords integer.ULong (key.Unsigned ∷ key.Long ∷ key.Int ∷ [])
  int : TypeWords integer.Int (key.Int ∷ [])
  signed_int : TypeWords integer.Int (key.Signed ∷ key.Int ∷ [])
  unsigned_int : TypeWords integer.UInt (key.Unsigned ∷ key.Int ∷ [])
  signed : TypeWords integer.Int (key.Signed ∷ [])
  unsigned : TypeWords integer.UInt (key.Unsigned ∷ [])

-- base = words | "void" | "struct" NAME
pub data Base : CType → List Token → Type 0 where
  words : {ty : IntType} {ks : List Keyword} {w : List Token} → TypeWords ty ks → Keywords ks w → Base (type.Int ty) w
  void : (t : Token) → IsKeyword key.Void t → Base type.Void (t ∷ [])
  struct : {tag : List ℕ} (s t : Token) → IsKeyword key.Struct s → IsName tag t → Base (type.Struct tag) (s ∷ t ∷ [])

-- stars = { "*" }: the type before them, the type behind them, and one level for each
pub data Stars (base : CType) : ℕ → CType → List Token → Type 0 where
  none : Stars base 0 base []
  star : {n : ℕ} {ty : CType} {w : List Token} (t : Token) → Stars base n ty w → IsPunct mark.Star t →
      Stars base (suc n) (type.Pointer ty) (w ++ t ∷ [])

-- tname = base stars
pub data TypeName : ℕ → CType → List Token → Type 0 where
  type_name : {n : ℕ} {base ty : CType} {u v : List Token} → Base base u → Stars base n ty v → TypeName n ty (u ++ v)
