-- Other tokens with the lexemes of a program spell it again, spans aside.
use Rattle.std.specs.Prelude.{◌≡◌, ℕ, suc, List, [], ◌∷◌, ◌++◌, map, Option, Some, None, refl}
use Rattle.std.proofs.Common.{sym, ◌∙◌, ap, subst}
use Rattle.c_ast.specs.Seen.{Seen as Token, all_seen}
use Rattle.c_ast.specs.declared.expr.CType.{CType}
use Rattle.c_ast.specs.declared.expr.CType.TheVariants as type
use Rattle.c_ast.specs.declared.declaration.Storage.{Storage}
use Rattle.c_ast.specs.declared.declaration.StructDecl.{StructDecl}
use Rattle.c_ast.specs.declared.program.Program.{Program}
use Rattle.c_ast.specs.declared.program.Function.{Function}
use Rattle.c_ast.specs.declared.program.External.{External}
use Rattle.c_ast.specs.declared.program.External.TheVariants as external
use Rattle.c_ast.specs.declared.statement.Stmt.{Stmt}
use Rattle.c_grammar.specs.Words.{span_of}
use Rattle.c_grammar.specs.Externals.{StorageClass, Head, FunctionHead, function_head, ExternalDeclaration, TranslationUnit}
use Rattle.c_grammar.specs.Externals as grammar
use Rattle.c_grammar.specs.Spells.{Spells}
use Rattle.c_ast.specs.declared.token.Lexeme.{Lexeme}
use Rattle.c_ast.specs.declared.token.Token as given
use Rattle.c_print.specs.Tokens.{tokens_of, kinds}
use Rattle.c_print.specs.Laws.SeenTokens.{seen-kinds}
use Rattle.c_print.specs.Spans.{no_span, bare_type, bare_function, bare_external, bare_program}
use Rattle.c_print.specs.Laws.BareTwice.{program_twice}
use Rattle.c_print.specs.Laws.Again.{Again, Alike, done, kind, word, before, last, more_alike, appended_alike}
use Rattle.c_print.specs.Laws.TypesAgain.{base_again, stars_again}
use Rattle.c_print.specs.Laws.ObjectsAgain.{objects_again}
use Rattle.c_print.specs.Laws.StructsAgain.{tag_again, structure_again}
use Rattle.c_print.specs.Laws.ParametersAgain.{all_named, parameters_again}
use Rattle.c_print.specs.Laws.StatementsAgain.{block_again}

storage_again : {c : Storage} {w : List Token} → StorageClass c w → Alike w (StorageClass c)
storage_again grammar.no_storage = done grammar.no_storage
storage_again (grammar.static_word t k) = word t k (λ t k. done (grammar.static_word t k))
storage_again (grammar.extern_word t k) = word t k (λ t k. done (grammar.extern_word t k))

abbrev HeadWord : ℕ → CType → List External → List Token → Type 0
HeadWord n base is w = Head n is base w

head_again : {n : ℕ} {is : List External} {base : CType} {w : List Token} → Head n is base w →
    Alike w (Again (HeadWord n base) (map bare_external) is)
head_again (grammar.plain b) = last (base_again b) (λ u b. record { tree = []; word = grammar.plain b; same = refl })
head_again (grammar.with_body {h} {d} s) =
    last (structure_again s) (λ u a. record {
      tree = external.Struct a.tree ∷ [];
      word = subst (λ name. Head (suc h) (external.Struct a.tree ∷ []) (type.Struct name) u) (ap (λ (d : StructDecl). d.name) a.same)
          (grammar.with_body a.word);
      same = λ i. external.Struct (a.same i) ∷ [];
    })

-- the items before a function, and the function
abbrev Headed : Type 0
Headed = List External × Function

abbrev HeadedWord : ℕ → Headed → List Token → Type 0
HeadedWord n c w = FunctionHead n c.0 c.1 w

abbrev bare_headed : Headed → Headed
bare_headed c = (map bare_external c.0, bare_function c.1)

function_again : {n : ℕ} {is : List External} {f : Function} {w : List Token} → FunctionHead n is f w →
    Alike w (Again (HeadedWord n) bare_headed (is, f))
function_again (function_head {c} {ty} {name} t sc hd st k ps) =
    before (storage_again sc) (λ u sc. before (head_again hd)
    (λ v a. before (stars_again st) (λ w st. kind t k (λ t k. last (parameters_again ps) (λ x b. record {
      tree = (
        a.tree,
        record {
          storage = c;
          name = name;
          result = ty;
          params = b.tree;
          body = None;
          span = span_of (u ++ (v ++ (w ++ t ∷ x)));
        },
      );
      word = function_head t sc a.word st k b.word;
      same = λ i. (a.same i, record { storage = c; name = name; result = bare_type ty; params = b.same i; body = None; span = no_span });
    })))))

-- the function with its body, where the head is alike
abbrev with_body : Function → Option Stmt → Function
with_body f s = record f { body = s; span = no_span }

external_again : {n : ℕ} {is : List External} {w : List Token} → ExternalDeclaration n is w →
    Alike w (Again (ExternalDeclaration n) (map bare_external) is)
external_again (grammar.include t k) = kind t k (λ t k. done
    (record { tree = external.Include ∷ []; word = grammar.include t k; same = refl }))
external_again (grammar.tag z d p) =
    before (tag_again d) (λ u a. word z p (λ z p. done (record {
      tree = external.Struct a.tree ∷ [];
      word = grammar.tag z a.word p;
      same = λ i. external.Struct (a.same i) ∷ [];
    })))
external_again (grammar.structure z d p) =
    before (structure_again d) (λ u a. word z p (λ z p. done
    (record { tree = external.Struct a.tree ∷ []; word = grammar.structure z a.word p; same = λ i. external.Struct (a.same i) ∷ [] })))
external_again (grammar.objects {c} {before = is} {ds} z sc hd os p) =
    before (storage_again sc) (λ u sc. before (head_again hd) (λ v a. before (objects_again os) (λ w b. word z p (λ z p. done (record {
      tree = a.tree ++ external.Objects c b.tree ∷ [];
      word = grammar.objects z sc a.word b.word p;
      same = more_alike bare_external a.tree is (external.Objects c b.tree) (external.Objects c ds) a.same
          (λ i. external.Objects c (b.same i));
    })))))
external_again (grammar.declaration {before = is} {f} z d p) =
    before (function_again d) (λ u a. word z p (λ z p. done (record {
      tree = a.tree.0 ++ external.Function (record a.tree.1 { span = span_of (u ++ z ∷ []) }) ∷ [];
      word = grammar.declaration z a.word p;
      same = more_alike bare_external a.tree.0 is (external.Function (record a.tree.1 { span = span_of (u ++ z ∷ []) }))
          (external.Function (record f { span = _ }))
          (λ i. (a.same i).0) (λ i. external.Function (a.same i).1);
    })))
external_again (grammar.definition {before = is} {f} {s} d named b) =
    before (function_again d) (λ u a. last (block_again b) (λ v c. record {
      tree = a.tree.0 ++ external.Function (record a.tree.1 { body = Some c.tree; span = span_of (u ++ v) }) ∷ [];
      word = grammar.definition a.word (all_named f.params a.tree.1.params (λ i. (a.same i).1.params) named) c.word;
      same = more_alike bare_external a.tree.0 is (external.Function (record a.tree.1 { body = Some c.tree; span = span_of (u ++ v) }))
          (external.Function (record f { body = Some s; span = _ }))
          (λ i. (a.same i).0) (λ i. external.Function (with_body (a.same i).1 (Some (c.same i))));
    }))

unit_again : {n : ℕ} {is : List External} {w : List Token} → TranslationUnit n is w →
    Alike w (Again (TranslationUnit n) (map bare_external) is)
unit_again grammar.no_external = done (record { tree = []; word = grammar.no_external; same = refl })
unit_again (grammar.more_external {is} {js} d e) =
    before (unit_again d) (λ u a. last (external_again e) (λ v b. record {
      tree = a.tree ++ b.tree;
      word = grammar.more_external a.word b.word;
      same = appended_alike bare_external a.tree is b.tree js a.same b.same;
    }))

-- tokens with the lexemes of tokens that spell a program spell that program, spans aside
pub lexemes_spell : (ts us : List given.Token) (p : Program) (d : ℕ) → Spells ts p d → kinds us ≡ kinds ts →
    (q : Program) × Spells us q d × (bare_program q ≡ bare_program p)
lexemes_spell ts us p d s e =
    let a = (unit_again s).at (all_seen us) (seen-kinds us ∙ e ∙ sym (seen-kinds ts)) in
    (record { items = a.tree }, a.word, ap (λ is. record { items = is }) a.same)

kinds-tokens : (ls : List Lexeme) → kinds (tokens_of ls) ≡ ls
kinds-tokens [] = refl
kinds-tokens (l ∷ ls) = ap (λ ls. l ∷ ls) (kinds-tokens ls)

-- likewise where tokens of these lexemes alone spell the program without spans, as those that are printed do
pub printed_spell : (ls : List Lexeme) (us : List given.Token) (p : Program) (d : ℕ) → Spells (tokens_of ls) (bare_program p) d →
    kinds us ≡ ls →
    (q : Program) × Spells us q d × (bare_program q ≡ bare_program p)
printed_spell ls us p d s e =
    let again = lexemes_spell (tokens_of ls) us (bare_program p) d s (e ∙ sym (kinds-tokens ls)) in
    (again.0, again.1, again.2 ∙ program_twice p)
