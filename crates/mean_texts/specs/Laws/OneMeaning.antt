-- Texts have one meaning, or one refusal, and not both: each has its file in turn, and then their names are linked.
use Rattle.std.proofs.Common.{◌≡◌, ℕ, suc, ◌+◌, List, [], ◌∷◌, ◌++◌, length, refl, sym, ap, ◌∙◌, subst, arith}
use Rattle.c_ast.specs.declared.program.Program.{Program as Tree}
use Rattle.c_type_base.specs.declared.typed.Typed.{Typed}
use Rattle.block_meaning.specs.Laws.Bound.Meaning.{one_meaning}
use Rattle.block_meaning.specs.Meaning.{Meaning, Outcome}
use Rattle.c_types.specs.Laws.WellTypedLaws.{one_typed}
use Rattle.frame_plan.specs.Laws.OneText.{one_sizes}
use Rattle.linker.specs.declared.refusal.LinkRefusal.{LinkRefusal}
use Rattle.mean_link.specs.Laws.OneAnswer.{one_fault, no_fault}
use Rattle.mean_link.specs.LinkFault.{AreLinked, LinkFault}
use Rattle.mean_link.specs.Names.{names_in}
use Rattle.mean_link.specs.declared.names.FileNames.{FileNames}
use Rattle.mean_texts.specs.Refusal.{RefusesTexts, AreRefused, source, unlinked, file_number}
use Rattle.mean_texts.specs.Texts.{AreFiles, AreTogether, TextsMean, program_of}
use Rattle.mean_texts.specs.declared.refusal.MeanRefusal.{MeanRefusal}
use Rattle.mean_texts.specs.declared.refusal.MeanRefusal.TheVariants.{Compile, Link}
use Rattle.mt_compile.specs.Laws.OnePlan.{no_file, one_plan_refusal, one_program}
use Rattle.mt_compile.specs.Laws.OneWay.{OneWay, GoesOn, Stops, at_first, behind, in_turn, ToldBy, told_by}
use Rattle.mt_compile.specs.Planned.{HasFile, PlanRefuses}
use Rattle.mt_compile.specs.declared.refusal.CompileRefusal.{CompileRefusal}

-- ---- one text

-- what a text's file has
record File : Type 0 where
  tree : Tree
  typed : Typed
  sizes : List ℕ

abbrev file_of : Tree → Typed → List ℕ → File
file_of tree typed sizes = record { tree = tree; typed = typed; sizes = sizes }

abbrev FileGives : List ℕ → File → Type 0
FileGives text f = HasFile text f.tree f.typed f.sizes

by_tree : (text : List ℕ) (p q : Tree) (u v : Typed) (f g : List ℕ) → p ≡ q → HasFile text p u f → HasFile text q v g →
    file_of p u f ≡ file_of q v g
by_tree text p q u v f g tree a b = by_typed (subst (λ t. HasFile text t u f) tree a)
  where
    by_sizes : u ≡ v → HasFile text q v f → file_of p u f ≡ file_of q v g
    by_sizes typed c =
        let sizes = one_sizes v f g c.sizes_are b.sizes_are in (λ i. file_of (tree i) (typed i) (sizes i))

    by_typed : HasFile text q u f → file_of p u f ≡ file_of q v g
    by_typed c = let typed = one_typed q u v c.well b.well in by_sizes typed (subst (λ u. HasFile text q u f) typed c)

one_file : (text : List ℕ) (f g : File) → FileGives text f → FileGives text g → f ≡ g
one_file text f g a b = by_tree text f.tree g.tree f.typed g.typed f.sizes g.sizes (one_program a.spelled b.spelled) a b

one_cause : (text : List ℕ) (r s : CompileRefusal) (p q : ℕ) → PlanRefuses text r p → PlanRefuses text s q → (r ≡ s) × (p ≡ q)
one_cause text r s p q x y = let one = one_plan_refusal x y in (one.same, one.there)

filing : (text : List ℕ) → OneWay (FileGives text) (PlanRefuses text)
filing text = record {
  gives_one = one_file text;
  refuses_one = one_cause text;
  never_both = λ f r p has refuses. no_file has refuses;
}

-- ---- the texts in turn

-- the file of a text, with those of the texts behind it
record InFront (Rest : List File → Type 0) (file : File) (files : List File) : Type 0 where
  rest : List File
  is : files ≡ file ∷ rest
  gives : Rest rest

in_front : {R : Type 0} {Rest : List File → Type 0} {Refuses : R → ℕ → Type 0} (file : File) → OneWay Rest Refuses →
    OneWay (InFront Rest file) Refuses
in_front file way = record {
  gives_one = λ b c x y. x.is ∙ ap (λ r. file ∷ r) (way.gives_one x.rest y.rest x.gives y.gives) ∙ sym y.is;
  refuses_one = way.refuses_one;
  never_both = λ b r p x. way.never_both x.rest r p x.gives;
}

FilesGive : List (List ℕ) → List File → Type 0
FilesGive [] = λ files. files ≡ []
FilesGive (t ∷ ts) = GoesOn (FileGives t) (InFront (FilesGive ts))

-- the first of them has this number
FilesStop : List (List ℕ) → ℕ → MeanRefusal → ℕ → Type 0
FilesStop [] n = λ r p. ⊥
FilesStop (t ∷ ts) n = Stops (FileGives t) (ToldBy (Compile (file_number n)) (PlanRefuses t)) (λ _. FilesStop ts (suc n))

filing_all : (texts : List (List ℕ)) (n : ℕ) → OneWay (FilesGive texts) (FilesStop texts n)
unfolding FilesGive FilesStop
filing_all [] n = record {
  gives_one = λ b c x y. x ∙ sym y;
  refuses_one = λ r s p q x y. absurd x;
  never_both = λ b r p x y. y;
}
filing_all (t ∷ ts) n =
    in_turn (FileGives t) (ToldBy (Compile (file_number n)) (PlanRefuses t)) (InFront (FilesGive ts)) (λ _. FilesStop ts (suc n))
    (told_by (Compile (file_number n)) (filing t)) (λ file. in_front file (filing_all ts (suc n)))

-- their parts, list by list
trees_of : List File → List Tree
trees_of [] = []
trees_of (f ∷ fs) = f.tree ∷ trees_of fs

units_of : List File → List Typed
units_of [] = []
units_of (f ∷ fs) = f.typed ∷ units_of fs

frames_of : List File → List (List ℕ)
frames_of [] = []
frames_of (f ∷ fs) = f.sizes ∷ frames_of fs

-- what files are side by side, apart again
record Apart (trees : List Tree) (units : List Typed) (frames : List (List ℕ)) (files : List File) : Type 0 where
  trees_are : trees_of files ≡ trees
  units_are : units_of files ≡ units
  frames_are : frames_of files ≡ frames

record Sided (texts : List (List ℕ)) (trees : List Tree) (units : List Typed) (frames : List (List ℕ)) : Type 0 where
  files : List File
  gives : FilesGive texts files
  apart : Apart trees units frames files

sided : (texts : List (List ℕ)) (trees : List Tree) (units : List Typed) (frames : List (List ℕ)) → AreFiles texts trees units frames →
    Sided texts trees units frames
unfolding FilesGive trees_of units_of frames_of
sided [] [] [] [] files = record { files = []; gives = refl; apart = record { trees_are = refl; units_are = refl; frames_are = refl } }
sided (t ∷ ts) (p ∷ ps) (u ∷ us) (f ∷ fs) files =
    let rest = sided ts ps us fs files.1 in
    record {
      files = file_of p u f ∷ rest.files;
      gives = record { between = file_of p u f; first = files.0; second = record { rest = rest.files; is = refl; gives = rest.gives } };
      apart = record {
        trees_are = ap (λ l. p ∷ l) rest.apart.trees_are;
        units_are = ap (λ l. u ∷ l) rest.apart.units_are;
        frames_are = ap (λ l. f ∷ l) rest.apart.frames_are;
      };
    }
sided [] (p ∷ ps) units frames files = absurd files
sided [] [] (v ∷ us) frames files = absurd files
sided [] [] [] (f ∷ fs) files = absurd files
sided (t ∷ ts) [] units frames files = absurd files
sided (t ∷ ts) (p ∷ ps) [] frames files = absurd files
sided (t ∷ ts) (p ∷ ps) (v ∷ us) [] files = absurd files

files_stop : (front back : List (List ℕ)) (files : List File) (text : List ℕ) (n k : ℕ) (refusal : CompileRefusal) (byte : ℕ) →
    length front + n ≡ k → FilesGive front files → PlanRefuses text refusal byte →
    FilesStop (front ++ text ∷ back) n (Compile (file_number k) refusal) byte
unfolding FilesStop FilesGive
files_stop [] back files text n k refusal byte at gives refuses =
    let same : k ≡ n = omega (arith, at) in
    at_first (record { reason = refusal; refuses = refuses; is = ap (λ m. Compile (file_number m) refusal) same })
files_stop (f ∷ front) back files text n k refusal byte at gives refuses =
    behind gives.between gives.first
    (files_stop front back gives.second.rest text (suc n) k refusal byte (omega (arith, at)) gives.second.gives refuses)

-- ---- and the link

abbrev seen_of : List File → List FileNames
seen_of files = names_in (trees_of files) (units_of files)

-- the names of the files are linked, which gives nothing more
abbrev Linking : List File → Unit {0} → Type 0
Linking files done = AreLinked (seen_of files)

-- the link has this refusal, and no byte is told of it
record LinkStops (files : List File) (r : LinkRefusal) (p : ℕ) : Type 0 where
  fault : LinkFault (seen_of files) r
  none : p ≡ 0

linking : (files : List File) → OneWay (Linking files) (LinkStops files)
linking files = record {
  gives_one = λ b c x y. refl;
  refuses_one = λ r s p q x y. (one_fault (seen_of files) r s x.fault y.fault, x.none ∙ sym y.none);
  never_both = λ b r p x y. no_fault (seen_of files) r x y.fault;
}

abbrev LinkTold : List File → MeanRefusal → ℕ → Type 0
LinkTold files = ToldBy Link (LinkStops files)

abbrev MeanGives : List (List ℕ) → Unit {0} → Type 0
MeanGives texts = GoesOn (FilesGive texts) Linking

abbrev MeanStops : List (List ℕ) → MeanRefusal → ℕ → Type 0
MeanStops texts = Stops (FilesGive texts) (FilesStop texts 0) LinkTold

meaning : (texts : List (List ℕ)) → OneWay (MeanGives texts) (MeanStops texts)
meaning texts =
    in_turn (FilesGive texts) (FilesStop texts 0) Linking LinkTold (filing_all texts 0) (λ files. told_by Link (linking files))

seen_is : (trees : List Tree) (units : List Typed) (frames : List (List ℕ)) (files : List File) → Apart trees units frames files →
    seen_of files ≡ names_in trees units
seen_is trees units frames files apart = (λ i. names_in (apart.trees_are i) (apart.units_are i))

mean_stops : {texts : List (List ℕ)} {refusal : MeanRefusal} {place : ℕ} → RefusesTexts texts refusal place →
    MeanStops texts refusal place
mean_stops (source {text} {refusal} {byte} front back trees units frames parts files refuses) =
    let side = sided front trees units frames files in
    at_first (subst (λ ts. FilesStop ts 0 (Compile (file_number (length front)) refusal) byte) (sym parts)
    (files_stop front back side.files text 0 (length front) refusal byte (omega arith) side.gives refuses))
mean_stops {texts} (unlinked {refusal} trees units frames files fault) =
    let side = sided texts trees units frames files in
    behind side.files side.gives
    (record {
      reason = refusal;
      refuses = record {
        fault = subst (λ names. LinkFault names refusal) (sym (seen_is trees units frames side.files side.apart)) fault;
        none = refl;
      };
      is = refl;
    })

mean_gives : (texts : List (List ℕ)) → AreTogether texts → MeanGives texts tt
mean_gives texts together =
    let side = sided texts together.trees together.units together.frames together.files in
    record {
      between = side.files;
      first = side.gives;
      second = subst AreLinked (sym (seen_is together.trees together.units together.frames side.files side.apart)) together.linked;
    }

-- ---- the laws

-- texts that are refused have no meaning together
pub never_refused : (texts : List (List ℕ)) (refusal : MeanRefusal) → AreTogether texts → AreRefused texts refusal → ⊥
never_refused texts refusal together refused =
    (meaning texts).never_both tt refusal refused.0 (mean_gives texts together) (mean_stops refused.1)

-- two refusals of the same texts are the same
pub one_refusal : (texts : List (List ℕ)) (refusal other : MeanRefusal) → AreRefused texts refusal → AreRefused texts other →
    refusal ≡ other
one_refusal texts refusal other first second =
    ((meaning texts).refuses_one refusal other first.0 second.0 (mean_stops first.1) (mean_stops second.1)).0

-- the files of texts are the same
pub record SameFiles (trees also_trees : List Tree) (units also_units : List Typed) (frames also_frames : List (List ℕ)) : Type 0 where
  pub trees_same : trees ≡ also_trees
  pub units_same : units ≡ also_units
  pub frames_same : frames ≡ also_frames

pub one_files : (texts : List (List ℕ)) (trees also_trees : List Tree) (units also_units : List Typed)
    (frames also_frames : List (List ℕ)) → AreFiles texts trees units frames → AreFiles texts also_trees also_units also_frames →
    SameFiles trees also_trees units also_units frames also_frames
one_files texts trees also_trees units also_units frames also_frames first second =
    let a = sided texts trees units frames first in
    let b = sided texts also_trees also_units also_frames second in
    let same = (filing_all texts 0).gives_one a.files b.files a.gives b.gives in
    record {
      trees_same = sym a.apart.trees_are ∙ ap trees_of same ∙ b.apart.trees_are;
      units_same = sym a.apart.units_are ∙ ap units_of same ∙ b.apart.units_are;
      frames_same = sym a.apart.frames_are ∙ ap frames_of same ∙ b.apart.frames_are;
    }

-- and so is what they mean
pub one_outcome : {texts : List (List ℕ)} {stack : ℕ} {input : List ℕ} {work : ℕ} {o other : Outcome} →
    TextsMean texts stack input work o → TextsMean texts stack input work other → o ≡ other
one_outcome {texts} {stack} {input} {work} {o} {other} first second =
    let a = first.together in
    let b = second.together in
    let same = one_files texts a.trees b.trees a.units b.units a.frames b.frames a.files b.files in
    one_meaning
    (subst (λ units. Meaning (program_of units b.frames stack) input work o) same.units_same
    (subst (λ frames. Meaning (program_of a.units frames stack) input work o) same.frames_same first.means))
    second.means
