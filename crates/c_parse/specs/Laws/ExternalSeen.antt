-- External declarations of the grammar as they are read.
use Rattle.std.specs.Prelude.{◌≡◌, ℕ, suc, max, true, List, [], ◌∷◌, ◌++◌, Some, None, refl}
use Rattle.std.proofs.Common.{sym, ◌∙◌, ap, subst, arith, inl, inr, append_assoc}
use Rattle.c_ast.specs.declared.token.Span.{Span}
use Rattle.c_ast.specs.Seen.{Seen as Token}
use Rattle.c_ast.specs.declared.expr.CType.{CType}
use Rattle.c_ast.specs.declared.declaration.Decl.{Decl}
use Rattle.c_ast.specs.declared.declaration.Storage.{Storage}
use Rattle.c_ast.specs.declared.statement.Stmt.{Stmt}
use Rattle.c_ast.specs.declared.program.External.{External}
use Rattle.c_ast.specs.declared.program.External.TheVariants as external
use Rattle.c_ast.specs.declared.program.Function.{Function}
use Rattle.c_ast.specs.declared.punctuator.Punctuator.TheVariants as mark
use Rattle.c_grammar.specs.Types.{Stars}
use Rattle.c_grammar.specs.Words.{IsPunct, IsName, span_of}
use Rattle.c_grammar.specs.Structs as structs
use Rattle.c_grammar.specs.Objects.{Objects}
use Rattle.c_grammar.specs.Externals as externals
use Rattle.c_grammar.specs.Externals.{StorageClass, Head as HeadSpelled, FunctionHead, ExternalDeclaration}
use Rattle.c_grammar.specs.Parameters.{Parameters, AllNamed}
use Rattle.c_grammar.specs.Statements.{Outside, Block}
use Rattle.c_parse_base.specs.Reading.Good.{Language, StartsIn}
use Rattle.c_parse_base.specs.Reading.Languages.{Word, word_of as one_word_of, Then, join, Either, Made}
use Rattle.c_parse_base.specs.Reading.Words.{place_of, spot, among}
use Rattle.c_parse_decl.specs.declared.declarators.declared.Declared.{Declared}
use Rattle.c_parse_decl.specs.Reading.Declarators.{StarredWord, starred_name}
use Rattle.c_parse_decl.specs.declared.parameter_list.parameters_read.ParametersRead.{ParametersRead}
use Rattle.c_parse_decl.specs.Reading.Parameters.{all_named}
use Rattle.c_parse_decl.specs.declared.objects.objects_read.ObjectsRead.{ObjectsRead}
use Rattle.c_parse_decl.specs.Reading.Objects.{ByFirstName}
use Rattle.c_parse_stmt.specs.declared.block_read.BlockRead.{BlockRead}
use Rattle.c_parse_decl.specs.Laws.Objects.RestParts.{rest_out}
use Rattle.c_parse.specs.declared.head.Head.{Head}
use Rattle.c_parse.specs.declared.head.Specifiers.{Specifiers}
use Rattle.c_parse.specs.declared.behind.Ending.{Ending}
use Rattle.c_parse.specs.declared.behind.Behind.TheVariants as behind
use Rattle.c_parse.specs.declared.externals.Externals.{Externals}
use Rattle.c_parse.specs.Reading.Values.{is_struct, struct_at, before_of, unstored, no_body, body_of, function_of, external_of}
use Rattle.c_parse.specs.Reading.Externals.{included_at, pick_include, begins_declaration}
use Rattle.c_parse.specs.Laws.HeadLaws.{HeadWord, SpecifiersWord, specifiers_good}
use Rattle.c_parse.specs.Laws.TailLaws.{EndingWord, TailWord, ending_words, ending_starts}
use Rattle.c_parse.specs.Laws.HeadBridge.{reach, tag_struct, tag_is, tag_head, tag_read, body_head, body_read, body_declares}
use Rattle.c_parse.specs.Laws.HeadBridge.{SpecifiersSeen, specifiers_seen}
use Rattle.c_parse.specs.Laws.ExternalBridge.{is_all_named, whole_function, span_parts, head_parts, ending_end}

abbrev pub DeclarationWord : Language Token Externals
DeclarationWord = Made external_of (Then SpecifiersWord TailWord)

abbrev pub AnyExternal : Language Token Externals
AnyExternal = Either DeclarationWord (Word pick_include)

abbrev read_as : ℕ → List External → Externals
read_as h items = record { items = items; height = h }

-- ---- a struct alone

lone_read : (a : Head) (w : List Token) (z : Token) (h : ℕ) (items : List External) → HeadWord a w → is_struct a ≡ true →
    IsPunct mark.Semicolon z →
    struct_at a.tag a.members a.span ≡ items → max a.height 1 ≡ h → DeclarationWord (read_as h items) (w ++ z ∷ [])
lone_read a w z h items m may isz e f = record {
  source = (unstored a, behind.Lone);
  is = ap (read_as (max a.height 1)) e ∙ ap (λ h. read_as h items) f;
  word = join (inr (record { source = a; is = refl; word = m }))
      (inl (record { allowed = may; made = record { source = place_of z; is = refl; word = spot z isz } }));
}

tag_seen : {d : _} {w : List Token} (z : Token) → structs.Tag d w → IsPunct mark.Semicolon z →
    DeclarationWord (read_as 1 (external.Struct d ∷ [])) (w ++ z ∷ [])
tag_seen z (structs.tag {name = name} s t iss ist) isz =
    lone_read (tag_head name s t) (s ∷ t ∷ []) z 1 (external.Struct
    (record { name = name; members = None; span = span_of (s ∷ t ∷ []) }) ∷ []) (tag_read name s t iss ist) (tag_is name) isz
    (ap (λ tag. struct_at tag None (span_of (s ∷ t ∷ []))) (tag_struct name)) (omega arith)

structure_seen : {h : ℕ} {d : _} {w : List Token} (z : Token) → structs.Structure h d w → IsPunct mark.Semicolon z →
    DeclarationWord (read_as (suc h) (external.Struct d ∷ [])) (w ++ z ∷ [])
structure_seen z (structs.structure {h = h} {name = name} {ds = ds} {v = v} s t l r iss ist isl ms isr) isz =
    lone_read (body_head name s t ds h r) (s ∷ t ∷ l ∷ v ++ r ∷ []) z (suc (suc h))
    (external.Struct (record { name = name; members = Some ds; span = span_of (s ∷ t ∷ l ∷ v ++ r ∷ []) }) ∷ [])
    (body_read s t l r iss ist isl ms isr) (tag_is name) isz (body_declares name s t l v r ds) (omega arith)

-- ---- objects

objects_items : (value : Specifiers) (o : ObjectsRead) (c : Storage) (n : ℕ) (before : List External) → value.storage ≡ c →
    value.head.height ≡ n → before_of value.head ≡ before →
    external_of (value, behind.Objects o) ≡ read_as (max n (suc o.height)) (before ++ external.Objects c o.decls ∷ [])
objects_items value o c n before e f g =
    ap (λ c. read_as (max value.head.height (suc o.height)) (before_of value.head ++ external.Objects c o.decls ∷ [])) e
    ∙ ap (λ n. read_as (max n (suc o.height)) (before_of value.head ++ external.Objects c o.decls ∷ [])) f
    ∙ ap (λ before. read_as (max n (suc o.height)) (before ++ external.Objects c o.decls ∷ [])) g

objects_seen : {n h : ℕ} {c : Storage} {before : List External} {base : CType} {ds : List Decl} {u v w : List Token} (z : Token) →
    StorageClass c u → HeadSpelled n before base v → Objects base h ds w → IsPunct mark.Semicolon z →
    DeclarationWord (read_as (max n (suc h)) (before ++ external.Objects c ds ∷ [])) (u ++ (v ++ (w ++ z ∷ [])))
objects_seen {n} {h} {c} {before} {base} {ds} {u} {v} {w} z class hd os isz =
    let seen : SpecifiersSeen c n before base (u ++ v) = specifiers_seen class hd in
    let o : ObjectsRead = record { decls = ds; height = h } in
    let b : ByFirstName seen.value.head.base o (w ++ z ∷ []) =
    rest_out seen.value.head.base o w z (subst (λ base. Objects base h ds w) (sym seen.base_is) os) isz in
    let tail : TailWord seen.value (behind.Objects o) (w ++ z ∷ []) =
    subst (TailWord seen.value (behind.Objects o)) (sym b.parts)
    (inr (record {
      source = (b.first, behind.Objects o);
      is = refl;
      word = join b.starred (inr (record { source = o; is = refl; word = b.rest }));
    })) in
    subst (DeclarationWord (read_as (max n (suc h)) (before ++ external.Objects c ds ∷ []))) (append_assoc u v (w ++ z ∷ []))
    (record {
      source = (seen.value, behind.Objects o);
      is = objects_items seen.value o c n before seen.storage_is seen.height
          seen.before_is;
      word = join seen.word tail;
    })

-- ---- functions

function_items : (value : Specifiers) (a : Declared) (p : ParametersRead) (k : Ending) (c : Storage) (n h : ℕ) (before : List External)
    (span : Span) →
    value.storage ≡ c → value.head.height ≡ n → before_of value.head ≡ before → reach value.start k.end ≡ span →
    max n (suc (max (max a.height p.height) k.height)) ≡ h →
    external_of (value, function_of a (p, k)) ≡ read_as h (before ++ external.Function
    (whole_function c a.ty a.name p.decls k.body span) ∷ [])
function_items value a p k c n h before span e f g s i =
    ap (λ c. read_as (max value.head.height (suc (max (max a.height p.height) k.height)))
    (before_of value.head ++ external.Function (whole_function c a.ty a.name p.decls k.body (reach value.start k.end)) ∷ [])) e
    ∙ ap (λ s. read_as (max value.head.height (suc (max (max a.height p.height) k.height)))
    (before_of value.head ++ external.Function (whole_function c a.ty a.name p.decls k.body s) ∷ [])) s
    ∙ ap (λ before. read_as (max value.head.height (suc (max (max a.height p.height) k.height)))
    (before ++ external.Function (whole_function c a.ty a.name p.decls k.body span) ∷ [])) g
    ∙ ap (λ n. read_as (max n (suc (max (max a.height p.height) k.height)))
    (before ++ external.Function (whole_function c a.ty a.name p.decls k.body span) ∷ [])) f
    ∙ ap (λ h. read_as h (before ++ external.Function (whole_function c a.ty a.name p.decls k.body span) ∷ [])) i

function_tokens : (u v w x e : List Token) (t : Token) → (u ++ v) ++ ((w ++ t ∷ []) ++ (x ++ e)) ≡ (u ++ (v ++ (w ++ t ∷ x))) ++ e
function_tokens u v w x e t =
    ap (λ k. (u ++ v) ++ k) (sym (append_assoc (w ++ t ∷ []) x e)) ∙ sym (append_assoc (u ++ v) ((w ++ t ∷ []) ++ x) e)
    ∙ ap (λ k. k ++ e) (sym (head_parts (u ++ v) u v w x t refl))

-- parameters, as they are read
abbrev params_read : ℕ → List Decl → List Token → ParametersRead
params_read j ds x = record { decls = ds; height = j; end = (span_of x).end; all_named = all_named ds }

function_seen : {n i j : ℕ} {c : Storage} {before : List External} {base ty : CType} {name : List ℕ} {ds : List Decl} {u v w x : List
    Token} (t : Token) (k : Ending) (e : List Token) (h : ℕ) →
    StorageClass c u → HeadSpelled n before base v → Stars base i ty w → IsName name t → Parameters j ds x →
    EndingWord (params_read j ds x) k e →
    max n (suc (max (max i j) k.height)) ≡ h →
    DeclarationWord (read_as h (before ++ external.Function (whole_function c ty name ds k.body
    (span_of ((u ++ (v ++ (w ++ t ∷ x))) ++ e))) ∷ [])) ((u ++ (v ++ (w ++ t ∷ x))) ++ e)
function_seen {n} {i} {j} {c} {before} {base} {ty} {name} {ds} {u} {v} {w} {x} t k e h class hd stars isn ps ending height =
    let seen : SpecifiersSeen c n before base (u ++ v) = specifiers_seen class hd in
    let p : ParametersRead = params_read j ds x in
    let a : Declared = record { name = name; ty = ty; height = i; span = span_of (w ++ t ∷ []) } in
    let st : StartsIn begins_declaration (u ++ v) = (specifiers_good 0).starts seen.value (u ++ v) seen.word in
    let span : reach seen.value.start k.end ≡ span_of ((u ++ (v ++ (w ++ t ∷ x))) ++ e) =
    sym (ap (λ k. span_of (k ++ e)) (head_parts (u ++ v) u v w x t refl)
    ∙ span_parts begins_declaration (among ending_words) (u ++ v) ((w ++ t ∷ []) ++ x) e st (ending_starts p k e ending)
    ∙ ap (λ start. reach start (span_of e).end) (sym seen.start) ∙ ap (reach seen.value.start) (sym (ending_end p k e ending))) in
    let named : StarredWord seen.value.head.base a (w ++ t ∷ []) =
    subst (λ base. StarredWord base a (w ++ t ∷ [])) (sym seen.base_is) (starred_name t stars isn) in
    let tail : TailWord seen.value (function_of a (p, k)) ((w ++ t ∷ []) ++ (x ++ e)) =
    inr (record {
      source = (a, function_of a (p, k));
      is = refl;
      word = join named (inl (record { source = (p, k); is = refl; word = join (record { list = ps; end = refl; named = refl }) ending }));
    }) in
    subst (DeclarationWord (read_as h (before ++ external.Function
    (whole_function c ty name ds k.body (span_of ((u ++ (v ++ (w ++ t ∷ x))) ++ e))) ∷ []))) (function_tokens u v w x e t)
    (record {
      source = (seen.value, function_of a (p, k));
      is = function_items seen.value a p k c n h before (span_of ((u ++ (v ++ (w ++ t ∷ x))) ++ e)) seen.storage_is seen.height
          seen.before_is span height;
      word = join seen.word tail;
    })

declared_seen : {n : ℕ} {before : List External} {f : Function} {w : List Token} (z : Token) → FunctionHead n before f w →
    IsPunct mark.Semicolon z →
    DeclarationWord (read_as n (before ++ external.Function (record f { span = span_of (w ++ z ∷ []) }) ∷ [])) (w ++ z ∷ [])
declared_seen z (externals.function_head t class hd stars isn ps) isz =
    function_seen t (no_body (place_of z)) (z ∷ []) _ class hd stars isn ps
    (inr (record { source = place_of z; is = refl; word = spot z isz })) (omega arith)

defined_seen : {n k : ℕ} {before : List External} {f : Function} {s : Stmt} {w v : List Token} → FunctionHead n before f w →
    AllNamed f.params → Block Outside k s v →
    DeclarationWord (read_as (max n (suc k)) (before ++ external.Function (record f { body = Some s; span = span_of (w ++ v) }) ∷ []))
    (w ++ v)
defined_seen {k = k} {s = s} {v = v} (externals.function_head {ds = ds} t class hd stars isn ps) named b =
    let block : BlockRead = record { tree = s; height = k; end = (span_of v).end } in
    function_seen t (body_of block) v _ class hd stars isn ps
    (inl (record {
      allowed = is_all_named ds named;
      made = record { source = block; is = refl; word = record { block = b; end = refl } };
    })) (omega arith)

-- ---- all external declarations

-- an external declaration is read
pub external_seen : {h : ℕ} {items : List External} {w : List Token} → ExternalDeclaration h items w → AnyExternal (read_as h items) w
external_seen (externals.include t e) = inr (one_word_of (ap included_at e))
external_seen (externals.tag z d isz) = inl (tag_seen z d isz)
external_seen (externals.structure z d isz) = inl (structure_seen z d isz)
external_seen (externals.objects z class hd os isz) = inl (objects_seen z class hd os isz)
external_seen (externals.declaration z f isz) = inl (declared_seen z f isz)
external_seen (externals.definition f named b) = inl (defined_seen f named b)
