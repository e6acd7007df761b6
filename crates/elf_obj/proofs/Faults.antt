-- The first fault of conditions that a loop goes through.
use Rattle.std.proofs.Common.{◌≡◌, ℕ, ◌+◌, Bool, true, false, List, [], ◌∷◌, ◌++◌, length, drop, sym, ap, subst, ◌∙◌, Option, Some, None}
use Rattle.std.specs.Prelude.{Result, MatchResult, ◌&&◌, slice_get}
use Rattle.mt_base.specs.Granules.{round16}
use Rattle.elf_base.specs.Index.{told_index}
use Rattle.elf_base.specs.Laws.Conditions.{holds_is, fails_is}
use Rattle.elf_base.specs.Conditions.{Condition, condition, first_fault}
use Rattle.elf_obj.specs.declared.parts.Symbol.{Symbol}
use Rattle.elf_obj.specs.declared.parts.Reloc.{Reloc}
use Rattle.elf_obj.specs.declared.refusal.ObjectRefusal.{ObjectRefusal}
use Rattle.elf_obj.specs.declared.refusal.ObjectRefusal.TheVariants.{BadSection, BadSymbol, BadRelocation}
use Rattle.elf_obj.specs.declared.section.Section.{Section}
use Rattle.elf_obj.specs.declared.sizes.Sizes.{Sizes}
use Rattle.elf_obj.specs.Conditions.{Tells}
use Rattle.elf_obj.specs.ObjectFault.{is_section, section_conditions, is_symbol, symbol_conditions, is_reloc, reloc_conditions, is_tag}
use Rattle.elf_obj.specs.ObjectFault.{tag_conditions, symbol_spot, reloc_spot, tag_spot}
use Rattle.elf_obj.specs.Rules.{tag_keeps}
use Rattle.elf_obj.proofs.Steps.{left_at}

-- an answer behind a test that holds
pub tells-behind : {T : Type 0} (r : Result T ObjectRefusal) (b : Bool) (e : ObjectRefusal) (cs : List (Condition ObjectRefusal))
    → b ≡ true → Tells r cs → Tells r (condition b e ∷ cs)
tells-behind r b e cs h t = subst (λ (o : Option ObjectRefusal). MatchResult r (λ _. o ≡ None) (λ f. o ≡ Some f))
    (sym (holds_is b e (first_fault cs) h)) t

pub tells-same : {T : Type 0} (r : Result T ObjectRefusal) (xs ys : List (Condition ObjectRefusal)) → xs ≡ ys → Tells r xs → Tells r ys
tells-same r xs ys e t = subst (λ (cs : List (Condition ObjectRefusal)). Tells r cs) e t

-- ---- sections

pub section-holds : (file : List ℕ) (at k i : ℕ) (ss : List Section) (fs : List Bool) (s : Section) (f : Bool) → slice_get ss i ≡ Some s
    → slice_get fs i ≡ Some f
    → (is_section file at k s && f) ≡ true
    → first_fault (section_conditions file at k (drop i ss) (drop i fs))
    ≡ first_fault (section_conditions file (round16 at + s.bytes) (k + 1) (drop (i + 1) ss) (drop (i + 1) fs))
section-holds file at k i ss fs s f gs gf h =
    let rest = section_conditions file (round16 at + s.bytes) (k + 1) (drop (i + 1) ss) (drop (i + 1) fs) in
    ap (λ (l : List Section). first_fault (section_conditions file at k l (drop i fs))) (left_at ss i s gs)
    ∙ ap (λ (l : List Bool). first_fault (section_conditions file at k (s ∷ drop (i + 1) ss) l)) (left_at fs i f gf)
    ∙ holds_is (is_section file at k s && f) (BadSection k) (first_fault rest) h

pub section-fails : (file : List ℕ) (at k i : ℕ) (ss : List Section) (fs : List Bool) (s : Section) (f : Bool) → slice_get ss i ≡ Some s
    → slice_get fs i ≡ Some f
    → (is_section file at k s && f) ≡ false
    → first_fault (section_conditions file at k (drop i ss) (drop i fs)) ≡ Some (BadSection k)
section-fails file at k i ss fs s f gs gf h =
    let rest = section_conditions file (round16 at + s.bytes) (k + 1) (drop (i + 1) ss) (drop (i + 1) fs) in
    ap (λ (l : List Section). first_fault (section_conditions file at k l (drop i fs))) (left_at ss i s gs)
    ∙ ap (λ (l : List Bool). first_fault (section_conditions file at k (s ∷ drop (i + 1) ss) l)) (left_at fs i f gf)
    ∙ fails_is (is_section file at k s && f) (BadSection k) (first_fault rest) h

-- ---- relocations

pub reloc-holds : (file : List ℕ) (rule : ℕ → Reloc → Bool) (at least k : ℕ) (r : Reloc) (rs : List Reloc)
    → (is_reloc file at r && rule least r) ≡ true
    → first_fault (reloc_conditions file rule (reloc_spot at least) k (r ∷ rs))
    ≡ first_fault (reloc_conditions file rule (reloc_spot (at + 24) (r.offset + 1)) (k + 1) rs)
reloc-holds file rule at least k r rs h =
    holds_is (is_reloc file at r && rule least r) (BadRelocation (told_index k))
    (first_fault (reloc_conditions file rule (reloc_spot (at + 24) (r.offset + 1)) (k + 1) rs)) h

pub reloc-fails : (file : List ℕ) (rule : ℕ → Reloc → Bool) (at least k : ℕ) (r : Reloc) (rs : List Reloc)
    → (is_reloc file at r && rule least r) ≡ false
    → first_fault (reloc_conditions file rule (reloc_spot at least) k (r ∷ rs)) ≡ Some (BadRelocation (told_index k))
reloc-fails file rule at least k r rs h =
    fails_is (is_reloc file at r && rule least r) (BadRelocation (told_index k))
    (first_fault (reloc_conditions file rule (reloc_spot (at + 24) (r.offset + 1)) (k + 1) rs)) h

-- ---- tagged symbols

pub tag-holds : (file : List ℕ) (symbols : List Symbol) (at : ℕ) (earlier : List ℕ) (least k t : ℕ) (ts : List ℕ)
    → (is_tag file at t && tag_keeps symbols earlier least t) ≡ true
    → first_fault (tag_conditions file symbols (tag_spot at earlier least) k (t ∷ ts))
    ≡ first_fault (tag_conditions file symbols (tag_spot (at + 24) (earlier ++ t ∷ []) (t + 1)) (k + 1) ts)
tag-holds file symbols at earlier least k t ts h =
    holds_is (is_tag file at t && tag_keeps symbols earlier least t) (BadRelocation (told_index k))
    (first_fault (tag_conditions file symbols (tag_spot (at + 24) (earlier ++ t ∷ []) (t + 1)) (k + 1) ts)) h

pub tag-fails : (file : List ℕ) (symbols : List Symbol) (at : ℕ) (earlier : List ℕ) (least k t : ℕ) (ts : List ℕ)
    → (is_tag file at t && tag_keeps symbols earlier least t) ≡ false
    → first_fault (tag_conditions file symbols (tag_spot at earlier least) k (t ∷ ts)) ≡ Some (BadRelocation (told_index k))
tag-fails file symbols at earlier least k t ts h =
    fails_is (is_tag file at t && tag_keeps symbols earlier least t) (BadRelocation (told_index k))
    (first_fault (tag_conditions file symbols (tag_spot (at + 24) (earlier ++ t ∷ []) (t + 1)) (k + 1) ts)) h

-- ---- symbols

pub symbol-holds : (file : List ℕ) (z : Sizes) (at place k : ℕ) (earlier : List Symbol) (s : Symbol) (ss : List Symbol)
    → is_symbol file z (symbol_spot at place earlier) s ≡ true
    → first_fault (symbol_conditions file z (symbol_spot at place earlier) k (s ∷ ss))
    ≡ first_fault (symbol_conditions file z (symbol_spot (at + 24) (place + length s.name + 1) (earlier ++ s ∷ [])) (k + 1) ss)
symbol-holds file z at place k earlier s ss h =
    holds_is (is_symbol file z (symbol_spot at place earlier) s) (BadSymbol (told_index k))
    (first_fault (symbol_conditions file z (symbol_spot (at + 24) (place + length s.name + 1) (earlier ++ s ∷ [])) (k + 1) ss)) h

pub symbol-fails : (file : List ℕ) (z : Sizes) (at place k : ℕ) (earlier : List Symbol) (s : Symbol) (ss : List Symbol)
    → is_symbol file z (symbol_spot at place earlier) s ≡ false
    → first_fault (symbol_conditions file z (symbol_spot at place earlier) k (s ∷ ss)) ≡ Some (BadSymbol (told_index k))
symbol-fails file z at place k earlier s ss h =
    fails_is (is_symbol file z (symbol_spot at place earlier) s) (BadSymbol (told_index k))
    (first_fault (symbol_conditions file z (symbol_spot (at + 24) (place + length s.name + 1) (earlier ++ s ∷ [])) (k + 1) ss)) h
