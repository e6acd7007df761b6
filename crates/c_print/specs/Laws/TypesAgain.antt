-- Types without lengths have no spans: other tokens with their lexemes spell the same ones.
use Rattle.std.specs.Prelude.{ℕ, List}
use Rattle.c_ast.specs.Seen.{Seen as Token}
use Rattle.c_ast.specs.declared.keyword.Keyword.{Keyword}
use Rattle.c_ast.specs.declared.expr.CType.{CType}
use Rattle.c_grammar.specs.Types as types
use Rattle.c_grammar.specs.Types.{Keywords, Base, Stars, TypeName, words, struct, star, type_name}
use Rattle.c_print.specs.Laws.Again.{Alike, done, kind, word, before, last}

keywords_again : {ks : List Keyword} {w : List Token} → Keywords ks w → Alike w (Keywords ks)
keywords_again types.Keywords.none = done types.Keywords.none
keywords_again (types.Keywords.word t k ks) = word t k (λ t k. last (keywords_again ks) (λ v ks. types.Keywords.word t k ks))

pub base_again : {base : CType} {w : List Token} → Base base w → Alike w (Base base)
base_again (words tw ks) = last (keywords_again ks) (λ v ks. words tw ks)
base_again (types.Base.void t k) = word t k (λ t k. done (types.Base.void t k))
base_again (struct s t k n) = word s k (λ s k. kind t n (λ t n. done (struct s t k n)))

pub stars_again : {base ty : CType} {n : ℕ} {w : List Token} → Stars base n ty w → Alike w (Stars base n ty)
stars_again types.Stars.none = done types.Stars.none
stars_again (star t s p) = before (stars_again s) (λ u s. word t p (λ t p. done (star t s p)))

pub type_name_again : {ty : CType} {n : ℕ} {w : List Token} → TypeName n ty w → Alike w (TypeName n ty)
type_name_again (type_name b s) = before (base_again b) (λ u b. last (stars_again s) (λ v s. type_name b s))
