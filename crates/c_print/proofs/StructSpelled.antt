-- The lexemes of a struct spell it.
use Rattle.std.proofs.Common.{◌≡◌, refl, ℕ, suc, max, List, [], ◌∷◌, ◌++◌, map, flat_map, Some, None, ap, subst, append_assoc, arith}
use Rattle.std.proofs.lemmas.List.{append-nil, map-append}
use Rattle.std.proofs.lemmas.Grind.{flat_map-append}
use Rattle.c_ast.specs.declared.token.Lexeme.{Lexeme}
use Rattle.c_ast.specs.declared.token.Lexeme.TheVariants as lexeme
use Rattle.c_ast.specs.Seen.{Seen as Token}
use Rattle.c_ast.specs.declared.token.Span.{Span}
use Rattle.c_ast.specs.declared.expr.CType.{CType}
use Rattle.c_ast.specs.declared.declaration.Decl.{Decl}
use Rattle.c_ast.specs.declared.declaration.StructDecl.{StructDecl}
use Rattle.c_ast.specs.declared.keyword.Keyword.TheVariants as key
use Rattle.c_ast.specs.declared.punctuator.Punctuator.TheVariants as mark
use Rattle.c_grammar.specs.Types.{Base}
use Rattle.c_grammar.specs.Declarators.{Declarator}
use Rattle.c_grammar.specs.Structs.{Declarators, Member, Members, Tag, Structure}
use Rattle.c_grammar.specs.Structs as grammar
use Rattle.c_print.specs.Words.{word, punct}
use Rattle.c_print.specs.Laws.SeenTokens.{token_of, tokens_of}
use Rattle.c_print.specs.Expressions.{parts_of}
use Rattle.c_print.specs.Declarations.{among, member_of, struct_of}
use Rattle.c_print.specs.Spans.{no_span, bare_type, bare_decl, bare_struct}
use Rattle.c_print.proofs.Lists.{tokens-append, tokens-inside, tokens-three, span_of-tokens, placed}
use Rattle.c_print.proofs.TypeSpelled.{base_plain, base_spelled}
use Rattle.c_print.proofs.DeclaratorSpelled.{declarator_spelled, declarator_base}

-- one member as a declaration of its own
member_alone : {base : CType} {h : ℕ} {name : List ℕ} {ty : CType} {u w : List Token} (s : Span) → Base base u →
    Declarator base h name ty w →
    Member h (record { name = name; ty = bare_type ty; init = None; span = no_span } ∷ [])
    (tokens_of (member_of (record { name = name; ty = ty; init = None; span = s })))
member_alone {base} {h} {name} {ty} s b d =
    let declared : List Lexeme = among (parts_of ty) (lexeme.Name name ∷ []) in
    let P : Span → Type 0 = λ z. Member h (record { name = name; ty = bare_type ty; init = None; span = z } ∷ [])
    (tokens_of (parts_of base).base ++ (tokens_of declared ++ token_of (punct mark.Semicolon) ∷ [])) in
    rw (declarator_base d, tokens-three) (subst P (span_of-tokens declared)
    (grammar.member (token_of (punct mark.Semicolon)) (base_spelled b) (grammar.first (declarator_spelled (base_plain b) d)) refl))

declarators_spelled : {base : CType} {h : ℕ} {ds : List Decl} {u w : List Token} → Base base u → Declarators base h ds w →
    Members h (map bare_decl ds) (tokens_of (flat_map member_of ds))
declarators_spelled b (grammar.first d) = rw append-nil (grammar.members (member_alone no_span b d))
declarators_spelled b (grammar.further {ds} {name} {ty} c ms p d) =
    rw (map-append bare_decl ds, flat_map-append member_of ds, append-nil, tokens-append)
    (grammar.more_members (declarators_spelled b ms) (member_alone no_span b d))

member_spelled : {h : ℕ} {ds : List Decl} {w : List Token} → Member h ds w →
    Members h (map bare_decl ds) (tokens_of (flat_map member_of ds))
member_spelled (grammar.member s b ds p) = declarators_spelled b ds

max_assoc : (h k j : ℕ) → max (max h k) j ≡ max h (max k j)
max_assoc h k j = omega arith

-- members in turn
members_append : {h k : ℕ} {ds es : List Decl} {u v : List Token} → Members h ds u → Members k es v → Members (max h k) (ds ++ es) (u ++ v)
members_append ms (grammar.members m) = grammar.more_members ms m
members_append {h} {ds} {u} ms (grammar.more_members {h = k} {k = j} {ds = es} {es = fs} {u = v} {v = w} ns m) =
    rw (← max_assoc h k j, ← append_assoc ds es fs, ← append_assoc u v w) (grammar.more_members (members_append ms ns) m)

members_spelled : {h : ℕ} {ds : List Decl} {w : List Token} → Members h ds w →
    Members h (map bare_decl ds) (tokens_of (flat_map member_of ds))
members_spelled (grammar.members m) = member_spelled m
members_spelled (grammar.more_members {ds} {es} ms m) =
    rw (map-append bare_decl ds es, flat_map-append member_of ds es, tokens-append) (members_append (members_spelled ms) (member_spelled m))

pub tag_spelled : {d : StructDecl} {w : List Token} → Tag d w → Tag (bare_struct d) (tokens_of (struct_of d))
tag_spelled (grammar.tag s t k n) = grammar.tag _ _ refl refl

pub structure_spelled : {h : ℕ} {d : StructDecl} {w : List Token} → Structure h d w → Structure h (bare_struct d) (tokens_of (struct_of d))
structure_spelled (grammar.structure {h} {name} {ds} s t l r k n pl ms pr) =
    let S : Lexeme = word key.Struct in
    let N : Lexeme = lexeme.Name name in
    placed (λ z w. Structure (suc h) (record { name = name; members = Some (map bare_decl ds); span = z }) w)
    (S ∷ N ∷ punct mark.LeftBrace ∷ flat_map member_of ds ++ punct mark.RightBrace ∷ [])
    (ap (λ w. token_of S ∷ token_of N ∷ w) (tokens-inside (punct mark.LeftBrace) (flat_map member_of ds) (punct mark.RightBrace ∷ [])))
    (grammar.structure (token_of S) (token_of N) (token_of (punct mark.LeftBrace)) (token_of (punct mark.RightBrace)) refl refl refl
    (members_spelled ms) refl)
