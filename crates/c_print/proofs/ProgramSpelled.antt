-- The lexemes of a program spell it.
use Rattle.std.proofs.Common.{◌≡◌, ◌≢◌, refl, ℕ, suc, max, List, [], ◌∷◌, ◌++◌, map, flat_map, Some, None, ap, sym, ◌∙◌, subst}
use Rattle.std.proofs.Common.{append_assoc, arith}
use Rattle.std.proofs.lemmas.List.{append-nil, map-append}
use Rattle.std.proofs.lemmas.List.Elements.{All-map}
use Rattle.std.proofs.lemmas.Grind.{flat_map-append}
use Rattle.c_ast.specs.Laws.Opened.{given_trees}
use Rattle.c_ast.specs.declared.token.Lexeme.{Lexeme}
use Rattle.c_ast.specs.declared.token.Lexeme.TheVariants as lexeme
use Rattle.c_ast.specs.Seen.{Seen as Token}
use Rattle.c_ast.specs.declared.expr.CType.{CType}
use Rattle.c_ast.specs.declared.expr.CType.TheOpen.{CType-F}
use Rattle.c_ast.specs.declared.declaration.Storage.{Storage}
use Rattle.c_ast.specs.declared.declaration.Decl.{Decl}
use Rattle.c_ast.specs.declared.statement.Stmt.{Stmt}
use Rattle.c_ast.specs.declared.program.Program.{Program}
use Rattle.c_ast.specs.declared.program.External.{External}
use Rattle.c_ast.specs.declared.program.External.TheVariants as external
use Rattle.c_ast.specs.declared.punctuator.Punctuator.TheVariants as mark
use Rattle.c_grammar.specs.Types.{Base, Stars}
use Rattle.c_grammar.specs.Types as types
use Rattle.c_grammar.specs.Externals.{StorageClass, Head, FunctionHead, function_head, ExternalDeclaration, TranslationUnit, no_external}
use Rattle.c_grammar.specs.Externals.{more_external}
use Rattle.c_grammar.specs.Externals as grammar
use Rattle.c_grammar.specs.Parameters.{Parameters, AllNamed}
use Rattle.c_grammar.specs.Objects.{Objects}
use Rattle.c_grammar.specs.Statements.{Outside, Block}
use Rattle.c_grammar.specs.Words.{span_of}
use Rattle.c_grammar.specs.Spells.{Spells}
use Rattle.c_print.specs.Words.{punct, with_commas}
use Rattle.c_ast.specs.declared.token.Token as given
use Rattle.c_print.specs.Tokens as printed
use Rattle.c_print.specs.Laws.SeenTokens.{token_of, tokens_of, seen-tokens}
use Rattle.c_print.specs.Expressions.{parts_of}
use Rattle.c_print.specs.Declarations.{object_of, parameters_of, storage_of}
use Rattle.c_print.specs.Statements.{stmt_of}
use Rattle.c_print.specs.Program.{external_of, lexemes_of_program}
use Rattle.c_print.specs.Spans.{no_span, bare_type, bare_decl, bare_stmt, bare_external, bare_program}
use Rattle.c_print.proofs.Lists.{tokens-append, tokens-four, placed}
use Rattle.c_print.proofs.Made.{type_made}
use Rattle.c_print.proofs.TypeSpelled.{Plain, base_plain, base_spelled, stars_spelled, stars_base}
use Rattle.c_print.proofs.ObjectSpelled.{objects_base, objects_spelled}
use Rattle.c_print.proofs.StructSpelled.{tag_spelled, structure_spelled}
use Rattle.c_print.proofs.ParameterSpelled.{parameters_spelled}
use Rattle.c_print.proofs.StatementSpelled.{block_spelled}

-- the lexemes of these parts, behind tokens that spell others, spell all of them
record Goes (n : ℕ) (is : List External) (u : List Token) (js : List External) : Type 0 where
  unit : TranslationUnit n (is ++ map bare_external js) (u ++ tokens_of (flat_map external_of js))

-- one more part
one_more : {n k : ℕ} {is : List External} {u : List Token} (js : List External) (x : External) → Goes n is u js →
    ExternalDeclaration k (bare_external x ∷ []) (tokens_of (external_of x)) →
    Goes (max n k) is u (js ++ x ∷ [])
one_more {n} {k} {is} {u} js x g d =
    let items : is ++ map bare_external (js ++ x ∷ []) ≡ (is ++ map bare_external js) ++ bare_external x ∷ [] =
    ap (λ ys. is ++ ys) (map-append bare_external js (x ∷ [])) ∙ sym (append_assoc is (map bare_external js) (bare_external x ∷ [])) in
    let words : flat_map external_of (js ++ x ∷ []) ≡ flat_map external_of js ++ external_of x =
    flat_map-append external_of js (x ∷ []) ∙ ap (λ w. flat_map external_of js ++ w) (append-nil (external_of x)) in
    let tokens : u ++ tokens_of (flat_map external_of (js ++ x ∷ [])) ≡ (u ++ tokens_of (flat_map external_of js)) ++ tokens_of
    (external_of x) =
    ap (λ w. u ++ tokens_of w) words ∙ ap (λ w. u ++ w) (tokens-append (flat_map external_of js) (external_of x))
    ∙ sym (append_assoc u (tokens_of (flat_map external_of js)) (tokens_of (external_of x))) in
    record { unit = rw (items, tokens) (more_external g.unit d) }

none_more : {n : ℕ} {is : List External} {u : List Token} → TranslationUnit n is u → Goes n is u []
none_more {is} {u} d = record { unit = rw (append-nil is, append-nil u) d }

at_level : {n m : ℕ} {is js : List External} {u : List Token} → n ≡ m → Goes n is u js → Goes m is u js
at_level {is} {js} {u} same g = let P : ℕ → Type 0 = λ k. Goes k is u js in subst P same g

storage_spelled : {c : Storage} {w : List Token} → StorageClass c w → StorageClass c (tokens_of (storage_of c))
storage_spelled grammar.no_storage = grammar.no_storage
storage_spelled (grammar.static_word t k) = grammar.static_word _ refl
storage_spelled (grammar.extern_word t k) = grammar.extern_word _ refl

-- a head by its base, where the struct that it declares stands before
head_base : {n : ℕ} {before : List External} {base : CType} {w : List Token} → Head n before base w →
    Base (bare_type base) (tokens_of (parts_of base).base)
unfolding given_trees
head_base (grammar.plain b) = base_spelled b
head_base (grammar.with_body {d} s) = type_made (λ t p. Base t (tokens_of p.base)) (CType-F.Struct d.name) (types.Base.struct _ _ refl refl)

head_plain : {n : ℕ} {before : List External} {base : CType} {w : List Token} → Head n before base w → Plain base
unfolding given_trees
head_plain (grammar.plain b) = base_plain b
head_plain (grammar.with_body {d} s) =
    record {
      stars = type_made (λ t p. p.stars ≡ []) (CType-F.Struct d.name) refl;
      brackets = type_made (λ t p. p.brackets ≡ []) (CType-F.Struct d.name) refl;
    }

struct_declared : {h : ℕ} (x : External) → ExternalDeclaration h (bare_external x ∷ []) (tokens_of (external_of x)) →
    {n : ℕ} {is : List External} {u : List Token} → TranslationUnit n is u →
    Goes (max n h) is u (x ∷ [])
struct_declared x d t = one_more [] x (none_more t) d

head_goes : {n m : ℕ} {before : List External} {base : CType} {w : List Token} {is : List External} {u : List Token} →
    Head n before base w → TranslationUnit m is u → Goes (max m n) is u before
head_goes {m} (grammar.plain b) t = at_level (omega arith) (none_more t)
head_goes (grammar.with_body {d} s) t =
    struct_declared (external.Struct d) (rw tokens-append (grammar.structure (token_of (punct mark.Semicolon))
    (structure_spelled s) refl)) t

objects_declared : {n h : ℕ} {c : Storage} {before : List External} {base : CType} {ds : List Decl} {u v w : List Token} →
    StorageClass c u → Head n before base v →
    Objects base h ds w → ExternalDeclaration (suc h) (bare_external (external.Objects c ds) ∷ [])
    (tokens_of (external_of (external.Objects c ds)))
objects_declared {h} {c} {base} {ds} sc hd os =
    rw (objects_base os, tokens-four (storage_of c) (parts_of base).base (with_commas (map object_of ds)) (punct mark.Semicolon ∷ []))
    (let P : ℕ → Type 0 = λ k. ExternalDeclaration k (external.Objects c (map bare_decl ds) ∷ [])
    (tokens_of (storage_of c) ++ (tokens_of (parts_of base).base ++
    (tokens_of (with_commas (map object_of ds)) ++ token_of (punct mark.Semicolon) ∷ []))) in
    let level : max 0 (suc h) ≡ suc h = omega arith in
    subst P level (grammar.objects (token_of (punct mark.Semicolon)) (storage_spelled sc) (grammar.plain (head_base hd))
    (objects_spelled (head_plain hd) os) refl))

-- a function's head without a struct's body
record Headed (level : ℕ) (c : Storage) (name : List ℕ) (ty : CType) (ds : List Decl) : Type 0 where
  words : List Token
  are : tokens_of (storage_of c ++ ((parts_of ty).base ++ ((parts_of ty).stars ++ lexeme.Name name ∷ parameters_of ds))) ≡ words
  head : FunctionHead level [] (record {
    storage = c;
    name = name;
    result = bare_type ty;
    params = map bare_decl ds;
    body = None;
    span = span_of words;
  }) words

function_headed : {n i j : ℕ} {c : Storage} {before : List External} {base ty : CType} {ds : List Decl} {u v w x : List Token}
    (name : List ℕ) →
    StorageClass c u → Head n before base v → Stars base i ty w → Parameters j ds x → Headed (suc (max i j)) c name ty ds
function_headed {i} {j} {c} {base} {ty} {ds} name sc hd st ps =
    let words : List Token = tokens_of (storage_of c) ++ (tokens_of
    (parts_of base).base ++ (tokens_of (parts_of ty).stars ++ token_of (lexeme.Name name) ∷ tokens_of (parameters_of ds))) in
    let P : ℕ → Type 0 = λ k. FunctionHead k [] (record {
      storage = c;
      name = name;
      result = bare_type ty;
      params = map bare_decl ds;
      body = None;
      span = span_of words;
    }) words in
    let level : max 0 (suc (max i j)) ≡ suc (max i j) = omega arith in
    record {
      words = words;
      are = rw (stars_base st) (tokens-four (storage_of c) (parts_of base).base (parts_of ty).stars (lexeme.Name name ∷ parameters_of ds));
      head = subst P level (function_head (token_of (lexeme.Name name)) (storage_spelled sc) (grammar.plain (head_base hd))
          (stars_spelled st (head_plain hd).stars) refl (parameters_spelled ps));
    }

function_declared : {level : ℕ} {c : Storage} {name : List ℕ} {ty : CType} {ds : List Decl} → Headed level c name ty ds →
    ExternalDeclaration level (external.Function (record {
      storage = c;
      name = name;
      result = bare_type ty;
      params = map bare_decl ds;
      body = None;
      span = no_span;
    }) ∷ [])
    (tokens_of ((storage_of c ++ ((parts_of ty).base ++ ((parts_of ty).stars ++ lexeme.Name name ∷ parameters_of ds))) ++ punct
    mark.Semicolon ∷ []))
function_declared {level} {c} {name} {ty} {ds} h =
    placed (λ z w. ExternalDeclaration level (external.Function
    (record { storage = c; name = name; result = bare_type ty; params = map bare_decl ds; body = None; span = z }) ∷ []) w)
    ((storage_of c ++ ((parts_of ty).base ++ ((parts_of ty).stars ++ lexeme.Name name ∷ parameters_of ds))) ++ punct mark.Semicolon ∷ [])
    (tokens-append _ _ ∙ ap (λ w. w ++ token_of (punct mark.Semicolon) ∷ []) h.are)
    (grammar.declaration (token_of (punct mark.Semicolon)) h.head refl)

function_defined : {level k : ℕ} {c : Storage} {name : List ℕ} {ty : CType} {ds : List Decl} {s : Stmt} {v : List Token} →
    Headed level c name ty ds → AllNamed ds → Block Outside k s v →
    ExternalDeclaration (max level (suc k)) (external.Function
    (record {
      storage = c;
      name = name;
      result = bare_type ty;
      params = map bare_decl ds;
      body = Some (bare_stmt s);
      span = no_span;
    }) ∷ [])
    (tokens_of ((storage_of c ++ ((parts_of ty).base ++ ((parts_of ty).stars ++ lexeme.Name name ∷ parameters_of ds))) ++ stmt_of s))
function_defined {level} {k} {c} {name} {ty} {ds} {s} h named b =
    placed (λ z w. ExternalDeclaration (max level (suc k)) (external.Function
    (record { storage = c; name = name; result = bare_type ty; params = map bare_decl ds; body = Some (bare_stmt s); span = z }) ∷
    []) w)
    ((storage_of c ++ ((parts_of ty).base ++ ((parts_of ty).stars ++ lexeme.Name name ∷ parameters_of ds))) ++ stmt_of s)
    (tokens-append _ _ ∙ ap (λ w. w ++ tokens_of (stmt_of s)) h.are)
    (grammar.definition h.head (All-map (λ d. d.name ≢ []) bare_decl ds named) (block_spelled b))

external_goes : {m k : ℕ} {is js : List External} {u w : List Token} → ExternalDeclaration k js w → TranslationUnit m is u →
    Goes (max m k) is u js
external_goes (grammar.include t k) d = one_more [] external.Include (none_more d) (grammar.include (token_of lexeme.Include) refl)
external_goes (grammar.tag {d} z s p) t = one_more [] (external.Struct d) (none_more t)
    (rw tokens-append (grammar.tag (token_of (punct mark.Semicolon)) (tag_spelled s) refl))
external_goes (grammar.structure {d} z s p) t = one_more [] (external.Struct d) (none_more t)
    (rw tokens-append (grammar.structure (token_of (punct mark.Semicolon)) (structure_spelled s) refl))
external_goes {m} (grammar.objects {n} {h} {c} {before} {ds} z sc hd os p) t =
    at_level (omega arith) (one_more before (external.Objects c ds) (head_goes hd t) (objects_declared sc hd os))
external_goes {m} (grammar.declaration z (function_head {n} {i} {j} {c} {before} {ty} {name} {ds} x sc hd st k ps) p) t =
    at_level (omega arith) (one_more before (external.Function
    (record { storage = c; name = name; result = ty; params = ds; body = None; span = _ })) (head_goes hd t)
    (function_declared (function_headed name sc hd st ps)))
external_goes {m} (grammar.definition {k} {s} (function_head {n} {i} {j} {c} {before} {ty} {name} {ds} x sc hd st w ps) named b) t =
    at_level (omega arith) (one_more before (external.Function
    (record { storage = c; name = name; result = ty; params = ds; body = Some s; span = _ })) (head_goes hd t)
    (function_defined (function_headed name sc hd st ps) named b))

unit_spelled : {n : ℕ} {is : List External} {w : List Token} → TranslationUnit n is w →
    TranslationUnit n (map bare_external is) (tokens_of (flat_map external_of is))
unit_spelled no_external = no_external
unit_spelled (more_external {is} {js} t d) =
    rw (
      map-append bare_external is js,
      flat_map-append external_of is js,
      tokens-append (flat_map external_of is)
          (flat_map external_of js),
    ) (external_goes d (unit_spelled t)).unit

-- the lexemes of a program that is spelled spell it, spans aside
pub program_spelled : (program : Program) (tokens : List given.Token) (depth : ℕ) → Spells tokens program depth →
    Spells (printed.tokens_of (lexemes_of_program program)) (bare_program program) depth
program_spelled program tokens depth d =
    subst (λ w. TranslationUnit depth (bare_program program).items w) (sym (seen-tokens (lexemes_of_program program))) (unit_spelled d)

pub printed_program : (program : Program) (tokens : List given.Token) (depth : ℕ) (out : List Lexeme) →
    out ≡ lexemes_of_program program → Spells tokens program depth →
    Spells (printed.tokens_of out) (bare_program program) depth
printed_program program tokens depth out is d =
    let P : List Lexeme → Type 0 = λ ls. Spells (printed.tokens_of ls) (bare_program program) depth in
    subst P (sym is) (program_spelled program tokens depth d)
