-- The run of typed files, as a cause of what is answered.
use Rattle.std.proofs.Common.{◌≡◌, ◌⊎◌, ◌≤◌, ◌<◌, ℕ, List, Bool, true, false, Option, Some, None, Result, Ok, Err, length, map}
use Rattle.std.proofs.Common.{refl, sym, ◌∙◌, subst, inl, inr, arith}
use Rattle.std.proofs.lemmas.List.{length-map}
use Rattle.std.proofs.lemmas.Bool.{cases_lt}
use Rattle.block_meaning.specs.Meaning.{Meaning, Outcome}
use Rattle.c_ast.specs.declared.program.Program.{Program as Tree}
use Rattle.c_type_base.specs.declared.typed.Typed.{Typed}
use Rattle.linker.specs.declared.refusal.LinkRefusal.{LinkRefusal}
use Rattle.linker.specs.declared.refusal.LinkRefusal.TheVariants as link
use Rattle.mean_link.specs.LinkFault.{AreLinked, LinkFault, file_limit, first_repeated, has_main, first_missing}
use Rattle.mean_link.specs.Laws.OneAnswer.{no_fault}
use Rattle.mean_link.specs.Names.{names_in}
use Rattle.mean_link.specs.declared.names.FileNames.{FileNames}
use Rattle.mean_program.specs.declared.end.MeanEnd.{MeanEnd}
use Rattle.mean_program.specs.declared.end.MeanEnd.TheVariants as end
use Rattle.mean_program.specs.declared.end.MeanFault.{MeanFault}
use Rattle.mean_program.specs.declared.end.MeanFault.TheVariants as fault
use Rattle.mean_texts.specs.Answers.{TextsGive}
use Rattle.mean_texts.specs.Laws.Causes.{IsFilesCause}
use Rattle.mean_texts.specs.Laws.OneMeaning.{one_files}
use Rattle.mean_start.specs.Files.{frames_in}
use Rattle.mean_texts.specs.Texts.{AreFiles, AreFilesOf, AreTogether, TextsMean, program_of}
use Rattle.mean_texts.specs.declared.files.Files.{Files}
use Rattle.mean_texts.specs.declared.refusal.MeanRefusal.{MeanRefusal}
use Rattle.mean_texts.specs.declared.refusal.MeanRefusal.TheVariants.{Compile, Link, Fault, NoMemory}
use Rattle.mt_answers.specs.Answer.{ended_of}
use Rattle.mt_answers.specs.Each.{AreMadeOf, Hold, viewed}
use Rattle.mt_answers.specs.Laws.EachLaws.{seen_made}
use Rattle.mt_answers.specs.Refusals.{answer_to_link}
use Rattle.mt_answers.specs.Seen.{FilesSeen, Seen, IsSilent}
use Rattle.mt_compile.specs.declared.file.TypedFile.{TypedFile}
use Rattle.mt_mean.specs.Laws.Sides.{sides, held_texts, same_count}
use Rattle.mt_mean.specs.Mean.{ended_as, IsCounted, CauseOfMean, ran, nothing, no_memory}
use Rattle.mt_mean.specs.Sources.{no_link, filed, held_as, AreTyped}
use Rattle.mt_mean.specs.Told.{answer_to_end, answer_to_refusal}
use Rattle.mt_outside.specs.Told.{Rose}
use Rattle.mt_outside.specs.declared.sink.Sink.{Ghosts as SinkGhosts}
use Rattle.mt_outside.specs.declared.source.Source.{Ghosts as SourceGhosts}
use Rattle.mte_machine.specs.Objects.{objects}
use Rattle.mt_words.specs.Jobs.{MeanOptions}

-- what texts mean, the files that they have mean
meaning_here : (texts : List (List ℕ)) (trees : List Tree) (units : List Typed) (frames : List (List ℕ)) (stack : ℕ) (input : List ℕ)
    (work : ℕ) (o : Outcome) → AreFiles texts trees units frames → TextsMean texts stack input work o →
    Meaning (program_of units frames stack) input work o
meaning_here texts trees units frames stack input work o are m =
    let same = one_files texts m.together.trees trees m.together.units units m.together.frames frames m.together.files are in
    subst (λ us. Meaning (program_of us frames stack) input work o) same.units_same
    (subst (λ fs. Meaning (program_of m.together.units fs stack) input work o) same.frames_same m.means)

-- files are linked or they are not
decide_some : {A : Type 0} (o : Option A) → (o ≡ None) ⊎ ¬ (o ≡ None)
decide_some None = inl refl
decide_some (Some x) = inr (λ is. cc)

decide_true : (b : Bool) → (b ≡ true) ⊎ ¬ (b ≡ true)
decide_true true = inl refl
decide_true false = inr (λ is. cc)

decided : (files : List FileNames) → (file_limit < length files) ⊎ (length files ≤ file_limit) →
    (first_repeated files ≡ None) ⊎ ¬ (first_repeated files ≡ None) → (has_main files ≡ true) ⊎ ¬ (has_main files ≡ true) →
    (first_missing files ≡ None) ⊎ ¬ (first_missing files ≡ None) → AreLinked files ⊎ ¬ AreLinked files
decided files (inr few) (inl once) (inl main) (inl defined) =
    inl (record { few = few; once = once; main = main; defined = defined })
decided files (inl many) once main defined = inr (λ linked. let few = linked.few in omega (arith, many, few))
decided files (inr few) (inr twice) main defined = inr (λ linked. twice linked.once)
decided files (inr few) (inl once) (inr none) defined = inr (λ linked. none linked.main)
decided files (inr few) (inl once) (inl main) (inr missing) = inr (λ linked. missing linked.defined)

decide_linked : (files : List FileNames) → AreLinked files ⊎ ¬ AreLinked files
decide_linked files =
    decided files (cases_lt file_limit (length files)) (decide_some (first_repeated files)) (decide_true (has_main files))
    (decide_some (first_missing files))

-- an end is answered as the specification has it
end_same : (e : MeanEnd) → ended_of (answer_to_end e) ≡ ended_as (Ok e)
end_same (end.Done status) = refl
end_same end.Divide = refl
end_same end.Deep = refl
end_same end.More = refl
end_same (end.Undefined why file span) = refl

module _ {S K : Type 0} (files : List (List ℕ)) (options : MeanOptions) (before after : Seen S K) (texts : List (List ℕ))
    (trees : List Tree) (units : List Typed) (frames : List (List ℕ)) (held : Hold before.files files texts)
    (are : AreFiles texts trees units frames) where
  abbrev names : List FileNames
  names = names_in trees units

  together : AreLinked names → AreTogether texts
  together linked = record { trees = trees; units = units; frames = frames; files = are; linked = linked }

  -- what the call answers to what the files mean
  abbrev pub Gives : Result MeanEnd MeanRefusal → Type 0
  Gives result = AreLinked names → (input taken : List ℕ) → before.streams.input ≡ Some input → before.streams.output ≡ Some taken →
      (o : Outcome) → Meaning (program_of units frames options.stack) input options.work o →
      TextsGive taken o result after.streams.input after.streams.output

  pub ended : (e : MeanEnd) → AreLinked names → Gives (Ok e) → CauseOfMean files options before after (ended_of (answer_to_end e))
  ended e linked gives =
      subst (λ a. CauseOfMean files options before after a) (sym (end_same e))
      (ran texts (Ok e) held (together linked) (record {
        gives = λ input taken left put o means.
            gives linked input taken left put o (meaning_here texts trees units frames options.stack input options.work o are means);
        counted = tt;
      }))

  -- memory was wanting: while the program ran, or before
  cut : Gives (Err NoMemory) → (¬ AreLinked names → IsSilent before after) → AreLinked names ⊎ ¬ AreLinked names →
      CauseOfMean files options before after (ended_as (Err fault.NoMemory))
  cut gives silent (inl linked) =
      ran texts (Err fault.NoMemory) held (together linked) (record {
        gives = λ input taken left put o means.
            gives linked input taken left put o (meaning_here texts trees units frames options.stack input options.work o are means);
        counted = tt;
      })
  cut gives silent (inr not) = no_memory (silent not)

  -- the source or the sink failed
  failed : (f : MeanFault) → AreLinked names → Gives (Err (Fault f)) → IsCounted (Err f) before.streams after.streams →
      CauseOfMean files options before after (ended_as (Err f))
  failed f linked gives counted =
      ran texts (Err f) held (together linked) (record {
        gives = λ input taken left put o means.
            gives linked input taken left put o (meaning_here texts trees units frames options.stack input options.work o are means);
        counted = counted;
      })

  -- the names are not linked
  unlinked : (refusal : LinkRefusal) → LinkFault names refusal → IsSilent before after →
      CauseOfMean files options before after (ended_of (answer_to_link refusal))
  unlinked link.NoMemory cause silent = no_memory silent
  unlinked refusal cause silent =
      let side = sides before.files files texts trees units frames held are in
      nothing (no_link side.made refusal side.are (subst (λ ns. LinkFault ns refusal) (sym side.names) cause)) silent

  pub refused : (r : MeanRefusal) → IsFilesCause names r → Gives (Err r) → (¬ AreLinked names → IsSilent before after) →
      (r ≡ Fault fault.InputFault → Rose before.streams.read_faults after.streams.read_faults) →
      (r ≡ Fault fault.OutputFault → Rose before.streams.write_faults after.streams.write_faults) →
      CauseOfMean files options before after (ended_of (answer_to_refusal r))
  refused NoMemory cause gives silent reads writes = cut gives silent (decide_linked names)
  refused (Link refusal) cause gives silent reads writes =
      unlinked refusal cause (silent (λ linked. no_fault names refusal linked cause))
  refused (Fault fault.InputFault) cause gives silent reads writes = failed fault.InputFault cause gives (reads refl)
  refused (Fault fault.OutputFault) cause gives silent reads writes = failed fault.OutputFault cause gives (writes refl)
  refused (Fault fault.NoMemory) cause gives silent reads writes = failed fault.NoMemory cause gives tt
  refused (Compile file refusal) cause gives silent reads writes = absurd cause

-- ---- the typed files of the sources, as the call takes them

-- the texts that the files hold have these typed files
pub record Placed (seen : FilesSeen) (names : List (List ℕ)) (files : Files) : Type 0 where
  pub texts : List (List ℕ)
  pub held : Hold seen names texts
  pub are : AreFilesOf texts files

pub placed : (before after : FilesSeen) (names : List (List ℕ)) (typed : List TypedFile) (files : Files) →
    AreMadeOf (viewed held_as filed) before names typed →
    ((texts : List (List ℕ)) → AreTyped texts (map held_as typed) → AreFilesOf texts files) → Placed before names files
placed before after names typed files made sides =
    let found = held_texts before names (map held_as typed) (seen_made held_as filed before after names typed made) in
    record { texts = found.texts; held = found.held; are = sides found.texts found.typed }

-- they are as many of each kind
pub record Counted (files : Files) : Type 0 where
  pub trees : length files.trees ≡ length files.units
  pub frames : length files.frames.bytes.items ≡ length files.units

pub counted_files : (texts : List (List ℕ)) (files : Files) → AreFilesOf texts files → Counted files
counted_files texts files are =
    let count = same_count texts files.trees files.units (frames_in files.frames) are in
    record { trees = count.trees_are; frames = sym (length-map files.frames.bytes.items (λ file. file.items)) ∙ count.frames_are }

-- objects that are as they were
pub same_objects : {S K : Type 0} (source_shows : SourceGhosts S) (sink_shows : SinkGhosts K) (source other : S) (sink last : K) →
    other ≡ source → last ≡ sink → objects source_shows sink_shows other last ≡ objects source_shows sink_shows source sink
same_objects source_shows sink_shows source other sink last first second =
    λ i. objects source_shows sink_shows (first i) (second i)
