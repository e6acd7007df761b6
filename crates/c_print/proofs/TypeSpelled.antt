-- The lexemes of a type spell it.
use Rattle.std.proofs.Common.{◌≡◌, refl, ℕ, suc, List, []}
use Rattle.c_ast.specs.Laws.Opened.{given_trees}
use Rattle.c_ast.specs.Seen.{Seen as Token}
use Rattle.c_ast.specs.declared.int_type.IntType.{IntType}
use Rattle.c_ast.specs.declared.int_type.IntType.TheVariants as integer
use Rattle.c_ast.specs.declared.expr.CType.{CType}
use Rattle.c_ast.specs.declared.expr.CType.TheVariants as type
use Rattle.c_ast.specs.declared.expr.CType.TheOpen.{CType-F}
use Rattle.c_grammar.specs.Types.{Keywords, Base, TypeName, Stars, char, signed_char, unsigned_char, short, unsigned_short, int, unsigned}
use Rattle.c_grammar.specs.Types.{long, unsigned_long, words, word, type_name, star}
use Rattle.c_grammar.specs.Types as types
use Rattle.c_print.specs.Laws.SeenTokens.{tokens_of}
use Rattle.c_print.specs.Expressions.{int_words, type_name_of, parts_of}
use Rattle.c_print.specs.Spans.{bare_type}
use Rattle.c_print.proofs.Lists.{tokens-append}
use Rattle.c_print.proofs.Made.{type_made}

int_spelled : (ty : IntType) → Base (type.Int ty) (tokens_of (int_words ty))
int_spelled integer.Char = words char (word _ refl types.Keywords.none)
int_spelled integer.SignedChar = words signed_char (word _ refl (word _ refl types.Keywords.none))
int_spelled integer.UnsignedChar = words unsigned_char (word _ refl (word _ refl types.Keywords.none))
int_spelled integer.Short = words short (word _ refl types.Keywords.none)
int_spelled integer.UShort = words unsigned_short (word _ refl (word _ refl types.Keywords.none))
int_spelled integer.Int = words int (word _ refl types.Keywords.none)
int_spelled integer.UInt = words unsigned (word _ refl types.Keywords.none)
int_spelled integer.Long = words long (word _ refl types.Keywords.none)
int_spelled integer.ULong = words unsigned_long (word _ refl (word _ refl types.Keywords.none))

pub base_spelled : {base : CType} {w : List Token} → Base base w → Base (bare_type base) (tokens_of (parts_of base).base)
unfolding given_trees
base_spelled (words {ty} tw ks) = type_made (λ t p. Base t (tokens_of p.base)) (CType-F.Int ty) (int_spelled ty)
base_spelled (types.Base.void t k) = type_made (λ t p. Base t (tokens_of p.base)) CType-F.Void (types.Base.void _ refl)
base_spelled (types.Base.struct {tag} s t k n) = type_made (λ t p. Base t (tokens_of p.base)) (CType-F.Struct tag)
    (types.Base.struct _ _ refl refl)

-- neither stars nor brackets
pub record Plain (ty : CType) : Type 0 where
  pub stars : (parts_of ty).stars ≡ []
  pub brackets : (parts_of ty).brackets ≡ []

pub base_plain : {base : CType} {w : List Token} → Base base w → Plain base
unfolding given_trees
base_plain (words {ty} tw ks) = record {
  stars = type_made (λ t p. p.stars ≡ []) (CType-F.Int ty) refl;
  brackets = type_made (λ t p. p.brackets ≡ []) (CType-F.Int ty) refl;
}
base_plain (types.Base.void t k) = record {
  stars = type_made (λ t p. p.stars ≡ []) CType-F.Void refl;
  brackets = type_made (λ t p. p.brackets ≡ []) CType-F.Void refl;
}
base_plain (types.Base.struct {tag} s t k n) =
    record {
      stars = type_made (λ t p. p.stars ≡ []) (CType-F.Struct tag) refl;
      brackets = type_made (λ t p. p.brackets ≡ []) (CType-F.Struct tag) refl;
    }

pub stars_base : {base ty : CType} {n : ℕ} {w : List Token} → Stars base n ty w → (parts_of ty).base ≡ (parts_of base).base
unfolding given_trees
stars_base types.Stars.none = refl
stars_base {base} (star {ty} t s p) = type_made (λ t p. p.base ≡ (parts_of base).base) (CType-F.Pointer ty) (stars_base s)

pub stars_brackets : {base ty : CType} {n : ℕ} {w : List Token} → Stars base n ty w → (parts_of ty).brackets ≡ (parts_of base).brackets
unfolding given_trees
stars_brackets types.Stars.none = refl
stars_brackets {base} (star {ty} t s p) = type_made (λ t p. p.brackets ≡ (parts_of base).brackets) (CType-F.Pointer ty) (stars_brackets s)

pub stars_spelled : {base ty : CType} {n : ℕ} {w : List Token} → Stars base n ty w → (parts_of base).stars ≡ [] →
    Stars (bare_type base) n (bare_type ty) (tokens_of (parts_of ty).stars)
unfolding given_trees
stars_spelled types.Stars.none e = rw e types.Stars.none
stars_spelled {base} {n} (star {n = m} {ty} t s p) e =
    type_made (λ t p. Stars (bare_type base) (suc m) t (tokens_of p.stars)) (CType-F.Pointer ty)
    (rw tokens-append (star _ (stars_spelled s e) refl))

pub type_name_spelled : {ty : CType} {n : ℕ} {w : List Token} → TypeName n ty w →
    TypeName n (bare_type ty) (tokens_of (type_name_of (parts_of ty)))
type_name_spelled (type_name b s) = rw (tokens-append, stars_base s) (type_name (base_spelled b) (stars_spelled s (base_plain b).stars))
