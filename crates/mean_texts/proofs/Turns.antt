-- The files of texts, one text more.
use Rattle.std.proofs.Common.{◌≡◌, ◌⊎◌, refl, sym, ap, subst, ◌∙◌, inl, inr, ℕ, zero, suc, ◌+◌, ◌<◌, ◌≤◌, arith, List, [], ◌∷◌, ◌++◌}
use Rattle.std.proofs.Common.{map, take, drop, length, get_or, drop-cons}
use Rattle.std.proofs.Math.Seq.{take-suc}
use Rattle.std.proofs.lemmas.List.{map-append, take-append-drop, length-map, take_all}
use Rattle.std.specs.Global.{Vec}
use Rattle.c_ast.specs.declared.program.Program.{Program as Tree}
use Rattle.c_type_base.specs.declared.typed.Typed.{Typed}
use Rattle.mean_texts.specs.Refusal.{AreRefused, source, of_source, file_number}
use Rattle.mean_texts.specs.Texts.{AreFiles, AreFilesOf, texts_of}
use Rattle.mean_texts.specs.declared.files.Files.{Files}
use Rattle.mean_texts.specs.declared.refusal.MeanRefusal.TheVariants.{Compile, NoMemory}
use Rattle.mean_start.specs.Files.{frames_in}
use Rattle.mt_compile.specs.Planned.{HasFile, PlanRefuses, IsPlanCause, not_typed, unplanned}
use Rattle.mt_compile.specs.Refused.{faulty, too_long, unexpected, too_deep}
use Rattle.mt_compile.specs.Typed.{not_read, broken}
use Rattle.mt_compile.specs.declared.refused.Refused.{Refused}
use Rattle.mt_compile.specs.declared.refusal.CompileRefusal.{CompileRefusal}
use Rattle.mt_compile.specs.declared.source.SourceText.{SourceText}

-- ---- files

files_more : (ts : List (List ℕ)) (ps : List Tree) (us : List Typed) (fs : List (List ℕ)) (t : List ℕ) (p : Tree) (u : Typed)
    (f : List ℕ) →
    AreFiles ts ps us fs → HasFile t p u f → AreFiles (ts ++ t ∷ []) (ps ++ p ∷ []) (us ++ u ∷ []) (fs ++ f ∷ [])
files_more [] [] [] [] t p u f files has = (has, tt)
files_more (x ∷ ts) (y ∷ ps) (z ∷ us) (w ∷ fs) t p u f files has = (files.0, files_more ts ps us fs t p u f files.1 has)
files_more [] (y ∷ ps) us fs t p u f files has = absurd files
files_more [] [] (z ∷ us) fs t p u f files has = absurd files
files_more [] [] [] (w ∷ fs) t p u f files has = absurd files
files_more (x ∷ ts) [] us fs t p u f files has = absurd files
files_more (x ∷ ts) (y ∷ ps) [] fs t p u f files has = absurd files
files_more (x ∷ ts) (y ∷ ps) (z ∷ us) [] t p u f files has = absurd files

-- what was pushed is there
pub pushed : (ps qs : List Tree) (us vs : List Typed) (fs gs : List (Vec ℕ)) (p : Tree) (u : Typed) (f : Vec ℕ) → qs ≡ ps ++ p ∷ [] →
    vs ≡ us ++ u ∷ [] → gs ≡ fs ++ f ∷ [] → (texts : List (List ℕ)) (text : List ℕ) →
    AreFiles texts ps us (map (λ file. file.items) fs) → HasFile text p u f.items →
    AreFiles (texts ++ text ∷ []) qs vs (map (λ file. file.items) gs)
pushed ps qs us vs fs gs p u f trees units frames texts text files has =
    let frames_are : map (λ file. file.items) gs ≡ map (λ file. file.items) fs ++ f.items ∷ [] =
    ap (map (λ (file : Vec ℕ). file.items)) frames ∙ map-append (λ (file : Vec ℕ). file.items) fs (f ∷ []) in
    subst (λ q. AreFiles (texts ++ text ∷ []) q vs (map (λ file. file.items) gs)) (sym trees)
    (subst (λ v. AreFiles (texts ++ text ∷ []) (ps ++ p ∷ []) v (map (λ file. file.items) gs)) (sym units)
    (subst (λ g. AreFiles (texts ++ text ∷ []) (ps ++ p ∷ []) (us ++ u ∷ []) g) (sym frames_are)
    (files_more texts ps us (map (λ file. file.items) fs) text p u f.items files has)))

pub no_files : (ps : List Tree) (us : List Typed) (fs : List (Vec ℕ)) → ps ≡ [] → us ≡ [] → fs ≡ [] →
    AreFiles [] ps us (map (λ file. file.items) fs)
no_files ps us fs trees units frames =
    subst (λ p. AreFiles [] p us (map (λ file. file.items) fs)) (sym trees)
    (subst (λ u. AreFiles [] [] u (map (λ file. file.items) fs)) (sym units)
    (subst (λ f. AreFiles [] [] [] (map (λ (file : Vec ℕ). file.items) f)) (sym frames) tt))

-- as many of each
pub as_many_trees : (ts : List (List ℕ)) (ps : List Tree) (us : List Typed) (fs : List (List ℕ)) → AreFiles ts ps us fs →
    length ps ≡ length us
as_many_trees [] [] [] [] files = refl
as_many_trees (x ∷ ts) (y ∷ ps) (z ∷ us) (w ∷ fs) files = ap suc (as_many_trees ts ps us fs files.1)
as_many_trees [] (y ∷ ps) us fs files = absurd files
as_many_trees [] [] (z ∷ us) fs files = absurd files
as_many_trees [] [] [] (w ∷ fs) files = absurd files
as_many_trees (x ∷ ts) [] us fs files = absurd files
as_many_trees (x ∷ ts) (y ∷ ps) [] fs files = absurd files
as_many_trees (x ∷ ts) (y ∷ ps) (z ∷ us) [] files = absurd files

pub as_many_frames : (ts : List (List ℕ)) (ps : List Tree) (us : List Typed) (fs : List (List ℕ)) → AreFiles ts ps us fs →
    length fs ≡ length us
as_many_frames [] [] [] [] files = refl
as_many_frames (x ∷ ts) (y ∷ ps) (z ∷ us) (w ∷ fs) files = ap suc (as_many_frames ts ps us fs files.1)
as_many_frames [] (y ∷ ps) us fs files = absurd files
as_many_frames [] [] (z ∷ us) fs files = absurd files
as_many_frames [] [] [] (w ∷ fs) files = absurd files
as_many_frames (x ∷ ts) [] us fs files = absurd files
as_many_frames (x ∷ ts) (y ∷ ps) [] fs files = absurd files
as_many_frames (x ∷ ts) (y ∷ ps) (z ∷ us) [] files = absurd files

-- ---- a text of a number

take-here : {A : Type 0} (xs : List A) (i : ℕ) (x : A) → i < length xs → x ≡ get_or xs i x → take (i + 1) xs ≡ take i xs ++ x ∷ []
take-here xs i x within is =
    let next : i + 1 ≡ suc i = omega arith in
    ap (λ j. take j xs) next ∙ take-suc xs i x within ∙ ap (λ y. take i xs ++ y ∷ []) (sym is)

drop-here : {A : Type 0} (xs : List A) (i : ℕ) (x : A) → i < length xs → x ≡ get_or xs i x → drop i xs ≡ x ∷ drop (i + 1) xs
drop-here xs i x within is =
    let next : suc i ≡ i + 1 = omega arith in
    drop-cons xs i x within ∙ ap (λ j. get_or xs i x ∷ drop j xs) next ∙ ap (λ y. y ∷ drop (i + 1) xs) (sym is)

length-took : {A : Type 0} (xs : List A) (i : ℕ) → i ≤ length xs → length (take i xs) ≡ i
length-took xs zero h = refl
length-took [] (suc i) h = absurd (omega (arith, h))
length-took (x ∷ xs) (suc i) h = ap suc (length-took xs i (omega (arith, h)))

-- the texts passed and this one
pub texts_more : (texts : List SourceText) (i : ℕ) (t : SourceText) (files : Files) → i < length texts → t ≡ get_or texts i t →
    AreFilesOf (texts_of (take i texts) ++ t.bytes.items ∷ []) files → AreFilesOf (texts_of (take (i + 1) texts)) files
texts_more texts i t files within is =
    subst (λ ts. AreFilesOf ts files)
    (sym (ap texts_of (take-here texts i t within is) ∙ map-append (λ (t : SourceText). t.bytes.items) (take i texts) (t ∷ [])))

pub all_texts : (texts : List SourceText) (i : ℕ) (files : Files) → length texts ≤ i → AreFilesOf (texts_of (take i texts)) files →
    AreFilesOf (texts_of texts) files
all_texts texts i files beyond = subst (λ ts. AreFilesOf (texts_of ts) files) (take_all i texts beyond)

-- a text that is refused is told by its number
told_so : {text : List ℕ} {refusal : CompileRefusal} {byte : ℕ} (n : ℕ) → PlanRefuses text refusal byte →
    of_source n refusal ≡ Compile (file_number n) refusal
told_so n (not_typed (not_read (faulty within fault))) = refl
told_so n (not_typed (not_read (too_long more))) = refl
told_so n (not_typed (not_read (unexpected tokens first))) = refl
told_so n (not_typed (not_read (too_deep tokens first))) = refl
told_so n (not_typed (broken program number span spelled first)) = refl
told_so n (unplanned typed fault is none) = refl

pub refused_here : (texts : List SourceText) (i : ℕ) (t : SourceText) (files : Files) (refused : Refused CompileRefusal) →
    i < length texts → t ≡ get_or texts i t → AreFilesOf (texts_of (take i texts)) files → IsPlanCause t.bytes.items refused →
    (of_source i refused.refusal ≡ NoMemory) ⊎ AreRefused (texts_of texts) (of_source i refused.refusal)
refused_here texts i t files refused within is held (inl wanting) = inl (ap (of_source i) wanting)
refused_here texts i t files refused within is held (inr refuses) =
    let bytes : SourceText → List ℕ = λ t. t.bytes.items in
    let front = texts_of (take i texts) in
    let back = texts_of (drop (i + 1) texts) in
    let parts : texts_of texts ≡ front ++ t.bytes.items ∷ back =
    ap texts_of (sym (take-append-drop i texts)) ∙ map-append bytes (take i texts) (drop i texts)
    ∙ ap (λ l. front ++ texts_of l) (drop-here texts i t within is) in
    let long : length front ≡ i = length-map (take i texts) bytes ∙ length-took texts i (omega (arith, within)) in
    let told : Compile (file_number (length front)) refused.refusal ≡ of_source i refused.refusal =
    ap (λ n. Compile (file_number n) refused.refusal) long ∙ sym (told_so i refuses) in
    inr (subst (AreRefused (texts_of texts)) told
    (refused.place, source front back files.trees files.units (frames_in files.frames) parts held refuses))
