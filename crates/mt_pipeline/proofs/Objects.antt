-- The code of texts in turn, where the texts and their code stand in slices.
use Rattle.std.proofs.Common.{◌≡◌, ◌<◌, ◌≤◌, ℕ, ◌+◌, List, [], ◌∷◌, ◌++◌, length, get_or, take, drop, refl, sym, ap, ◌∙◌, subst, arith}
use Rattle.std.specs.Prelude.{map, codes}
use Rattle.std.proofs.lemmas.List.{map_push, map_more, take-append-drop, drop_more, length-map, length-take-le, map-append}
use Rattle.mt_compile.specs.Compiled.{Compiled}
use Rattle.mt_compile.specs.Refused.{IsCause as IsSourceCause}
use Rattle.mt_compile.specs.declared.refusal.CompileRefusal.{CompileRefusal}
use Rattle.mt_compile.specs.declared.refused.Refused.{Refused}
use Rattle.mt_compile.specs.declared.source.SourceText.{SourceText}
use Rattle.mt_pipeline.specs.Built.{AreCompiled, RefusesLink, too_many, twice, no_main, texts_of}
use Rattle.linker.specs.declared.refusal.LinkRefusal.TheVariants.{TooManyObjects, Duplicate, NoMain}
use Rattle.mt_answers.specs.Refusals.{of_source}
use Rattle.mt_pipeline.specs.Unbuilt.{IsCause}
use Rattle.mt_pipeline.specs.Laws.BuiltLaws.{compiled_more}
use Rattle.mt_pipeline.proofs.BuildRefused.{source_cause}

-- with the code of one more text
pub compiled_so_far : {O : Type 0} (view : O → List ℕ) (texts : List SourceText) (i : ℕ) (text : SourceText) (objects all : List O)
    (words : O) → i < length texts → text ≡ get_or texts i text →
    all ≡ objects ++ words ∷ [] → AreCompiled (texts_of (take i texts)) (map view objects) → Compiled text.bytes.items (view words) →
    AreCompiled (texts_of (take (i + 1) texts)) (map view all)
compiled_so_far view texts i text objects all words within is more compiled last =
    let front : texts_of (take (i + 1) texts) ≡ texts_of (take i texts) ++ text.bytes.items ∷ [] =
    map_more (λ t. t.bytes.items) texts i text within ∙ ap (λ t. texts_of (take i texts) ++ t.bytes.items ∷ []) (sym is) in
    let behind : map view all ≡ map view objects ++ view words ∷ [] = ap (map view) more ∙ map_push view objects words in
    subst (λ ts. AreCompiled ts (map view all)) (sym front)
    (subst (λ os. AreCompiled (texts_of (take i texts) ++ text.bytes.items ∷ []) os) (sym behind)
    (compiled_more (texts_of (take i texts)) (map view objects) text.bytes.items (view words) compiled last))

-- the text that comes now is refused
pub refused_here : {O : Type 0} (view : O → List ℕ) (texts : List SourceText) (i : ℕ) (text : SourceText) (objects : List O)
    (refused : Refused CompileRefusal) → i < length texts → text ≡ get_or texts i text →
    AreCompiled (texts_of (take i texts)) (map view objects) → IsSourceCause text.bytes.items refused →
    IsCause (texts_of texts) (of_source i refused.refusal refused.place)
refused_here view texts i text objects refused within is compiled cause =
    let rest : drop i texts ≡ text ∷ drop (i + 1) texts = drop_more texts i text within ∙ ap (λ t. t ∷ drop (i + 1) texts) (sym is) in
    let parts : texts_of texts ≡ texts_of (take i texts) ++ text.bytes.items ∷ texts_of (drop (i + 1) texts) =
    ap texts_of (sym (take-append-drop i texts) ∙ ap (λ r. take i texts ++ r) rest)
    ∙ map-append (λ t. t.bytes.items) (take i texts) (text ∷ drop (i + 1) texts) in
    source_cause (texts_of texts) (texts_of (take i texts)) (texts_of (drop (i + 1) texts))
    (map view objects) text.bytes.items i refused parts compiled
    (length-map (take i texts) (λ t. t.bytes.items) ∙ length-take-le i texts (omega (arith, within))) cause

-- ---- how many there are

pub too_many_link : {O : Type 0} (view : O → List ℕ) (objects : List O) (count : ℕ) → count ≡ length objects → 16 < count →
    RefusesLink (map view objects) (TooManyObjects count)
too_many_link view objects count is more =
    let same : length (map view objects) ≡ count = length-map objects view ∙ sym is in
    subst (λ n. RefusesLink (map view objects) (TooManyObjects n)) same (too_many (omega (arith, same, more)))

pub two_link : {O : Type 0} (view : O → List ℕ) (objects : List O) (name : List ℕ) → name ≡ codes "main" → 1 < length objects →
    length objects ≤ 16 → RefusesLink (map view objects) (Duplicate name)
two_link view objects name is two most =
    subst (λ n. RefusesLink (map view objects) (Duplicate n)) (sym is)
    (twice (omega (arith, two, length-map objects view)) (omega (arith, most, length-map objects view)))

pub none_link : {O : Type 0} (view : O → List ℕ) (objects : List O) → length objects ≡ 0 → RefusesLink (map view objects) NoMain
none_link view [] none = no_main refl
none_link view (o ∷ os) none = absurd (omega arith)
