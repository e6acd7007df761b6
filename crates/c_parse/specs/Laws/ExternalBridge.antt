-- External declarations as the grammar has them.
use Rattle.std.specs.Prelude.{◌≡◌, ◌≢◌, ℕ, suc, ◌≤◌, max, Bool, true, false, if◌then◌else◌, List, [], ◌∷◌, ◌++◌, Option, None, refl}
use Rattle.std.proofs.Common.{sym, ◌∙◌, ap, subst, arith, inl, inr, append_assoc}
use Rattle.std.proofs.lemmas.List.Elements.{All-nil, All-cons, All-head, All-tail}
use Rattle.c_ast.specs.declared.token.Span.{Span}
use Rattle.c_ast.specs.Seen.{Seen as Token}
use Rattle.c_ast.specs.declared.expr.CType.{CType}
use Rattle.c_ast.specs.declared.declaration.Decl.{Decl}
use Rattle.c_ast.specs.declared.declaration.Storage.{Storage}
use Rattle.c_ast.specs.declared.statement.Stmt.{Stmt}
use Rattle.c_ast.specs.declared.program.External.{External}
use Rattle.c_ast.specs.declared.program.External.TheVariants as external
use Rattle.c_ast.specs.declared.program.Function.{Function}
use Rattle.c_ast.specs.declared.punctuator.Punctuator.TheVariants as mark
use Rattle.c_grammar.specs.Words.{IsName, punctuator, span_of, last_end}
use Rattle.c_grammar.specs.Types.{Stars}
use Rattle.c_grammar.specs.Externals as externals
use Rattle.c_grammar.specs.Externals.{StorageClass, FunctionHead, ExternalDeclaration}
use Rattle.c_grammar.specs.Parameters.{Parameters, AllNamed}
use Rattle.c_parse_base.specs.Reading.Good.{StartsIn}
use Rattle.c_parse_base.specs.Reading.Languages.{Then, join}
use Rattle.c_parse_base.specs.Laws.SpanLaws.{last_end_append}
use Rattle.c_parse_base.specs.Reading.Words.{Spot, spot, among}
use Rattle.c_parse_decl.specs.declared.declarators.declared.Declared.{Declared}
use Rattle.c_parse_decl.specs.Reading.Declarators.{StarredWord, starred_name}
use Rattle.c_parse_decl.specs.declared.parameter_list.parameters_read.ParametersRead.{ParametersRead}
use Rattle.c_parse_decl.specs.Reading.Parameters.{ParametersWord, has_name, all_named}
use Rattle.c_parse_decl.specs.declared.objects.objects_read.ObjectsRead.{ObjectsRead}
use Rattle.c_parse_decl.specs.Reading.Objects.{ObjectsBehind}
use Rattle.c_parse_decl.specs.Laws.Objects.RestParts.{rest_into}
use Rattle.c_parse.specs.declared.head.Specifiers.{Specifiers}
use Rattle.c_parse.specs.declared.behind.Ending.{Ending}
use Rattle.c_parse.specs.declared.behind.Behind.{Behind}
use Rattle.c_parse.specs.Reading.Values.{is_struct, struct_at, before_of, no_storage, is_lone, function_of, height_behind, items_of}
use Rattle.c_parse.specs.Reading.Values.{external_of}
use Rattle.c_parse.specs.Laws.WordTests.{both_so}
use Rattle.c_parse.specs.Laws.HeadLaws.{SpecifiersWord, specifiers_good}
use Rattle.c_parse.specs.Laws.TailLaws.{EndingWord, AfterName, TailWord, ending_words, ending_starts}
use Rattle.c_parse.specs.Laws.HeadBridge.{reach, SpecifiersSpelling, specifiers_spelling}

-- ---- names of parameters

has_name_is : (n : List ℕ) → has_name n ≡ true → n ≢ []
has_name_is [] e = cc
has_name_is (b ∷ bs) e = λ n. cc

is_has_name : (n : List ℕ) → n ≢ [] → has_name n ≡ true
is_has_name [] e = absurd (e refl)
is_has_name (b ∷ bs) e = refl

named_step : (n : List ℕ) (left : Bool) → (if has_name n then left else false) ≡ true → (has_name n ≡ true) × (left ≡ true)
named_step [] left e = cc
named_step (b ∷ bs) left e = (refl, e)

step_named : (n : List ℕ) (left : Bool) → has_name n ≡ true → left ≡ true → (if has_name n then left else false) ≡ true
step_named [] left e h = cc
step_named (b ∷ bs) left e h = h

abbrev named_decl : Decl → Type 0
named_decl d = d.name ≢ []

all_named_is : (ds : List Decl) → all_named ds ≡ true → AllNamed ds
all_named_is [] e = All-nil named_decl
all_named_is (d ∷ ds) e = let s = named_step d.name (all_named ds) e in
    All-cons named_decl d ds (has_name_is d.name s.0) (all_named_is ds s.1)

pub is_all_named : (ds : List Decl) → AllNamed ds → all_named ds ≡ true
is_all_named [] h = refl
is_all_named (d ∷ ds) h = step_named d.name (all_named ds) (is_has_name d.name (All-head named_decl d ds h))
    (is_all_named ds (All-tail named_decl d ds h))

-- ---- spans

start_append : (first : Token → Bool) (u v : List Token) → StartsIn first u → (span_of (u ++ v)).start ≡ (span_of u).start
start_append first u v s = ap (λ u. (span_of (u ++ v)).start) s.parts ∙ ap (λ u. (span_of u).start) (sym s.parts)

end_at : (u : List Token) (y : Token) (v : List Token) → (span_of (u ++ y ∷ v)).end ≡ last_end y v
end_at [] y v = refl
end_at (x ∷ u) y v = last_end_append x u y v

-- from the start of the first words to the end of the last ones
pub span_parts : (first second : Token → Bool) (u v x : List Token) → StartsIn first u → StartsIn second x →
    span_of ((u ++ v) ++ x) ≡ reach (span_of u).start (span_of x).end
span_parts first second u v x s r =
    let a : (span_of ((u ++ v) ++ x)).start ≡ (span_of u).start = ap (λ w. (span_of w).start) (append_assoc u v x)
    ∙ start_append first u (v ++ x) s in
    let b : (span_of ((u ++ v) ++ x)).end ≡ (span_of x).end =
    ap (λ x. (span_of ((u ++ v) ++ x)).end) r.parts ∙ end_at (u ++ v) r.head r.tail ∙ ap (λ x. (span_of x).end) (sym r.parts) in
    ap (λ start. reach start (span_of ((u ++ v) ++ x)).end) a ∙ ap (reach (span_of u).start) b

-- ---- a semicolon alone

none_words : {c : Storage} {w : List Token} → StorageClass c w → no_storage c ≡ true → w ≡ []
none_words externals.no_storage e = refl
none_words (externals.static_word t s) e = cc
none_words (externals.extern_word t s) e = cc

lone_into : (s : Specifiers) (u : List Token) → SpecifiersSpelling s u → is_lone s ≡ true → (place : Span) (w : List Token) →
    Spot (punctuator mark.Semicolon) place w →
    ExternalDeclaration (max s.head.height 1) (struct_at s.head.tag s.head.members s.head.span) (u ++ w)
lone_into s u sp may place w (spot z isz) =
    let so = both_so (no_storage s.storage) (is_struct s.head) may in
    let same : sp.behind ≡ u = sym (sp.parts ∙ ap (λ words. words ++ sp.behind) (none_words sp.class so.0)) in
    subst (λ u. ExternalDeclaration (max s.head.height 1) (struct_at s.head.tag s.head.members s.head.span) (u ++ z ∷ [])) same
    (sp.head.lone so.1 z isz)

-- ---- objects

objects_parts : (u words behind y x list : List Token) (z : Token) → u ≡ words ++ behind → x ≡ list ++ z ∷ [] →
    words ++ (behind ++ ((y ++ list) ++ z ∷ [])) ≡ u ++ (y ++ x)
objects_parts u words behind y x list z e f =
    ap (λ k. words ++ (behind ++ k)) (append_assoc y list (z ∷ [])) ∙ sym (append_assoc words behind (y ++ (list ++ z ∷ [])))
    ∙ ap (λ u. u ++ (y ++ (list ++ z ∷ []))) (sym e) ∙ ap (λ x. u ++ (y ++ x)) (sym f)

objects_made : (s : Specifiers) (u y x : List Token) (o : ObjectsRead) → SpecifiersSpelling s u → ObjectsBehind s.head.base y o x →
    ExternalDeclaration (max s.head.height (suc o.height)) (before_of s.head ++ external.Objects s.storage o.decls ∷ []) (u ++ (y ++ x))
objects_made s u y x o sp b =
    subst (λ w. ExternalDeclaration (max s.head.height (suc o.height)) (before_of s.head ++ external.Objects s.storage o.decls ∷ []) w)
    (objects_parts u sp.words sp.behind y x b.list b.semicolon sp.parts b.parts)
    (externals.objects b.semicolon sp.class sp.head.head b.objects b.is_semicolon)

-- ---- functions

-- a function as far as its head says it
abbrev pub head_function : Storage → CType → List ℕ → List Decl → Span → Function
head_function c ty name ds span = record { storage = c; name = name; result = ty; params = ds; body = None; span = span }

abbrev pub whole_function : Storage → CType → List ℕ → List Decl → Option Stmt → Span → Function
whole_function c ty name ds body span = record { storage = c; name = name; result = ty; params = ds; body = body; span = span }

pub head_parts : (u words behind y x : List Token) (t : Token) → u ≡ words ++ behind →
    words ++ (behind ++ (y ++ t ∷ x)) ≡ u ++ ((y ++ t ∷ []) ++ x)
head_parts u words behind y x t e =
    sym (append_assoc words behind (y ++ t ∷ x)) ∙ ap (λ u. u ++ (y ++ t ∷ x)) (sym e) ∙ ap (λ k. u ++ k) (sym (append_assoc y (t ∷ []) x))

-- a function's head, by its words
head_made : (s : Specifiers) (u : List Token) (n j : ℕ) (ty : CType) (name : List ℕ) (ds : List Decl) (y x : List Token) (t : Token) →
    SpecifiersSpelling s u → Stars s.head.base n ty y → IsName name t → Parameters j ds x →
    FunctionHead (max s.head.height (suc (max n j))) (before_of s.head)
    (head_function s.storage ty name ds (span_of (u ++ ((y ++ t ∷ []) ++ x)))) (u ++ ((y ++ t ∷ []) ++ x))
head_made s u n j ty name ds y x t sp st isn ps =
    subst (λ w. FunctionHead (max s.head.height (suc (max n j))) (before_of s.head) (head_function s.storage ty name ds (span_of w)) w)
    (head_parts u sp.words sp.behind y x t sp.parts) (externals.function_head t sp.class sp.head.head st isn ps)

-- ---- how a function ends

bare_made : {m : ℕ} {before : List External} {w : List Token} (c : Storage) (ty : CType) (name : List ℕ) (ds : List Decl) (span : Span)
    (place : Span) (x : List Token) →
    FunctionHead m before (head_function c ty name ds span) w → 1 ≤ m → Spot (punctuator mark.Semicolon) place x →
    ExternalDeclaration (max m 1) (before ++ external.Function (whole_function c ty name ds None (span_of (w ++ x))) ∷ []) (w ++ x)
bare_made {m} {before} {w} c ty name ds span place x f low (spot z isz) =
    let same : m ≡ max m 1 = omega arith in
    subst (λ m. ExternalDeclaration m (before ++ external.Function (whole_function c ty name ds None (span_of (w ++ z ∷ []))) ∷ [])
    (w ++ z ∷ [])) same (externals.declaration z f isz)

ended_made : {m : ℕ} {before : List External} {w : List Token} (c : Storage) (ty : CType) (name : List ℕ) (p : ParametersRead)
    (span : Span) (k : Ending) (x : List Token) →
    FunctionHead m before (head_function c ty name p.decls span) w → 1 ≤ m → p.all_named ≡ all_named p.decls → EndingWord p k x →
    ExternalDeclaration (max m (suc k.height)) (before ++ external.Function
    (whole_function c ty name p.decls k.body (span_of (w ++ x))) ∷ []) (w ++ x)
ended_made {m} {before} {w} c ty name p span k x f low named (inl e) =
    subst (λ (k : Ending). ExternalDeclaration (max m (suc k.height))
    (before ++ external.Function (whole_function c ty name p.decls k.body (span_of (w ++ x))) ∷ []) (w ++ x)) e.made.is
    (externals.definition f (all_named_is p.decls (sym named ∙ e.allowed)) e.made.word.block)
ended_made {m} {before} {w} c ty name p span k x f low named (inr e) =
    subst (λ (k : Ending). ExternalDeclaration (max m (suc k.height))
    (before ++ external.Function (whole_function c ty name p.decls k.body (span_of (w ++ x))) ∷ []) (w ++ x)) e.is
    (bare_made c ty name p.decls span e.source x f low e.word)

spot_end : (place : Span) (w : List Token) → Spot (punctuator mark.Semicolon) place w → place.end ≡ (span_of w).end
spot_end place w (spot z isz) = refl

pub ending_end : (p : ParametersRead) (k : Ending) (x : List Token) → EndingWord p k x → k.end ≡ (span_of x).end
ending_end p k x (inl e) = ap (λ (k : Ending). k.end) (sym e.made.is) ∙ e.made.word.end
ending_end p k x (inr e) = ap (λ (k : Ending). k.end) (sym e.is) ∙ spot_end e.source x e.word

abbrev of_function : Specifiers → Declared → ParametersRead → Ending → Span → List External
of_function s a p k span = before_of s.head ++ external.Function (whole_function s.storage a.ty a.name p.decls k.body span) ∷ []

function_spelled : {first : Token → Bool} (s : Specifiers) (u : List Token) (a : Declared) (y : List Token) (p : ParametersRead)
    (x : List Token) (k : Ending) (z : List Token) →
    SpecifiersSpelling s u → StartsIn first u → StarredWord s.head.base a y → ParametersWord p x → EndingWord p k z →
    ExternalDeclaration (max (max s.head.height (suc (max a.height p.height))) (suc k.height))
    (of_function s a p k (reach s.start k.end)) ((u ++ (y ++ x)) ++ z)
function_spelled {first} s u a y p x k z sp st (starred_name {n = n} {ty = ty} {name = name} {u = v} t stars isn) ps e =
    let span : span_of ((u ++ ((v ++ t ∷ []) ++ x)) ++ z) ≡ reach s.start k.end =
    span_parts first (among ending_words) u ((v ++ t ∷ []) ++ x) z st (ending_starts p k z e)
    ∙ ap (λ start. reach start (span_of z).end) (sym sp.start) ∙ ap (reach s.start) (sym (ending_end p k z e)) in
    subst (λ span. ExternalDeclaration (max (max s.head.height (suc (max n p.height))) (suc k.height))
    (before_of s.head ++ external.Function (whole_function s.storage ty name p.decls k.body span) ∷ [])
    ((u ++ ((v ++ t ∷ []) ++ x)) ++ z)) span
    (ended_made s.storage ty name p (span_of (u ++ ((v ++ t ∷ []) ++ x))) k z
    (head_made s u n p.height ty name p.decls v x t sp stars isn ps.list) (omega arith) ps.named e)

function_into : {first : Token → Bool} (s : Specifiers) (u : List Token) (a : Declared) (y : List Token) (c : ParametersRead × Ending)
    (x : List Token) →
    SpecifiersSpelling s u → StartsIn first u → StarredWord s.head.base a y → Then ParametersWord EndingWord c x →
    ExternalDeclaration (max s.head.height (suc (height_behind (function_of a c)))) (items_of s (function_of a c)) (u ++ (y ++ x))
function_into s u a y c x sp st l (join {a = p} {b = k} {u = v} {v = z} m e) =
    let height : max (max s.head.height (suc (max a.height p.height))) (suc k.height) ≡ max s.head.height
    (suc (max (max a.height p.height) k.height)) = omega arith in
    let parts : (u ++ (y ++ v)) ++ z ≡ u ++ (y ++ (v ++ z)) = append_assoc u (y ++ v) z ∙ ap (λ w. u ++ w) (append_assoc y v z) in
    subst (λ w. ExternalDeclaration (max s.head.height (suc (max (max a.height p.height) k.height)))
    (of_function s a p k (reach s.start k.end)) w) parts
    (subst (λ h. ExternalDeclaration h (of_function s a p k (reach s.start k.end)) ((u ++ (y ++ v)) ++ z)) height
    (function_spelled s u a y p v k z sp st l m e))

-- ---- all that may stand behind a type

after_into : {first : Token → Bool} (s : Specifiers) (u : List Token) (a : Declared) (y : List Token) (v : Behind) (x : List Token) →
    SpecifiersSpelling s u → StartsIn first u → StarredWord s.head.base a y → AfterName s.head.base a v x →
    ExternalDeclaration (max s.head.height (suc (height_behind v))) (items_of s v) (u ++ (y ++ x))
after_into s u a y v x sp st l (inl m) =
    subst (λ v. ExternalDeclaration (max s.head.height (suc (height_behind v))) (items_of s v) (u ++ (y ++ x))) m.is
    (function_into s u a y m.source x sp st l m.word)
after_into s u a y v x sp st l (inr m) =
    subst (λ v. ExternalDeclaration (max s.head.height (suc (height_behind v))) (items_of s v) (u ++ (y ++ x))) m.is
    (objects_made s u y x m.source sp (rest_into s.head.base a y m.source x l m.word))

named_into : {first : Token → Bool} (s : Specifiers) (u : List Token) (c : Declared × Behind) (w : List Token) → SpecifiersSpelling s u →
    StartsIn first u →
    Then (StarredWord s.head.base) (AfterName s.head.base) c w →
    ExternalDeclaration (max s.head.height (suc (height_behind c.1))) (items_of s c.1) (u ++ w)
named_into s u c w sp st (join {a = a} {b = b} {u = y} {v = x} l m) = after_into s u a y b x sp st l m

tail_into : {first : Token → Bool} (s : Specifiers) (u : List Token) (v : Behind) (w : List Token) → SpecifiersSpelling s u →
    StartsIn first u → TailWord s v w →
    ExternalDeclaration (max s.head.height (suc (height_behind v))) (items_of s v) (u ++ w)
tail_into s u v w sp st (inl m) =
    subst (λ v. ExternalDeclaration (max s.head.height (suc (height_behind v))) (items_of s v) (u ++ w)) m.made.is
    (lone_into s u sp m.allowed m.made.source w m.made.word)
tail_into s u v w sp st (inr m) =
    subst (λ v. ExternalDeclaration (max s.head.height (suc (height_behind v))) (items_of s v) (u ++ w)) m.is
    (named_into s u m.source w sp st m.word)

-- ---- external declarations

pub declaration_into : (c : Specifiers × Behind) (w : List Token) → Then SpecifiersWord TailWord c w →
    ExternalDeclaration (external_of c).height (external_of c).items w
declaration_into c w (join {a = s} {b = v} {u = u} {v = x} l m) = tail_into s u v x (specifiers_spelling s u l)
    ((specifiers_good 0).starts s u l) m
