-- Other tokens with the lexemes of a struct spell it again, spans aside.
use Rattle.std.specs.Prelude.{ℕ, List, [], ◌∷◌, ◌++◌, map, Some, None, refl}
use Rattle.c_ast.specs.Seen.{Seen as Token}
use Rattle.c_ast.specs.declared.expr.CType.{CType}
use Rattle.c_ast.specs.declared.declaration.Decl.{Decl}
use Rattle.c_ast.specs.declared.declaration.StructDecl.{StructDecl}
use Rattle.c_grammar.specs.Words.{span_of}
use Rattle.c_grammar.specs.Structs.{Declarators, Member, Members, Tag, Structure}
use Rattle.c_grammar.specs.Structs as grammar
use Rattle.c_print.specs.Spans.{no_span, bare_decl, bare_struct}
use Rattle.c_print.specs.Laws.Again.{Again, Alike, done, kind, word, before, last, more_alike, appended_alike}
use Rattle.c_print.specs.Laws.TypesAgain.{base_again}
use Rattle.c_print.specs.Laws.DeclaratorsAgain.{declarator_again}
use Rattle.c_print.specs.Laws.ObjectsAgain.{declared}

declarators_again : {base : CType} {h : ℕ} {ds : List Decl} {w : List Token} → Declarators base h ds w →
    Alike w (Again (Declarators base h) (map bare_decl) ds)
declarators_again (grammar.first {name} d) =
    last (declarator_again d) (λ u a. record {
      tree = declared name a.tree None (span_of u) ∷ [];
      word = grammar.first a.word;
      same = λ i. declared name (a.same i) None no_span ∷ [];
    })
declarators_again (grammar.further {ds} {name} c ms p d) =
    before (declarators_again ms) (λ u a. word c p (λ c p. last (declarator_again d) (λ v b. record {
      tree = a.tree ++ declared name b.tree None (span_of v) ∷ [];
      word = grammar.further c a.word p b.word;
      same = more_alike bare_decl a.tree ds (declared name b.tree None (span_of v)) _ a.same (λ i. declared name (b.same i) None no_span);
    })))

member_again : {h : ℕ} {ds : List Decl} {w : List Token} → Member h ds w → Alike w (Again (Member h) (map bare_decl) ds)
member_again (grammar.member s b ds p) =
    before (base_again b) (λ u b. before (declarators_again ds)
    (λ v a. word s p (λ s p. done (record { tree = a.tree; word = grammar.member s b a.word p; same = a.same }))))

members_again : {h : ℕ} {ds : List Decl} {w : List Token} → Members h ds w → Alike w (Again (Members h) (map bare_decl) ds)
members_again (grammar.members m) = last (member_again m) (λ u a. record { tree = a.tree; word = grammar.members a.word; same = a.same })
members_again (grammar.more_members {ds} {es} ms m) =
    before (members_again ms) (λ u a. last (member_again m) (λ v b. record {
      tree = a.tree ++ b.tree;
      word = grammar.more_members a.word b.word;
      same = appended_alike bare_decl a.tree ds b.tree es a.same b.same;
    }))

pub tag_again : {d : StructDecl} {w : List Token} → Tag d w → Alike w (Again Tag bare_struct d)
tag_again (grammar.tag {name} s t k n) =
    word s k (λ s k. kind t n (λ t n. done (record {
      tree = record { name = name; members = None; span = span_of (s ∷ t ∷ []) };
      word = grammar.tag s t k n;
      same = refl;
    })))

pub structure_again : {h : ℕ} {d : StructDecl} {w : List Token} → Structure h d w → Alike w (Again (Structure h) bare_struct d)
structure_again (grammar.structure {name} s t l r k n pl ms pr) =
    word s k (λ s k. kind t n (λ t n. word l pl (λ l pl. before (members_again ms) (λ v a. word r pr (λ r pr. done (record {
      tree = record { name = name; members = Some a.tree; span = span_of (s ∷ t ∷ l ∷ v ++ r ∷ []) };
      word = grammar.structure s t l r k n pl a.word pr;
      same = λ i. record { name = name; members = Some (a.same i); span = no_span };
    }))))))
