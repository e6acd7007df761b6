-- One more typed file beside those before it.
use Rattle.std.proofs.Common.{◌≡◌, ℕ, List, [], ◌∷◌, ◌++◌, map, refl, sym, ap, subst}
use Rattle.std.proofs.lemmas.List.{map-append}
use Rattle.mean_texts.specs.Texts.{AreFilesOf}
use Rattle.mean_texts.specs.declared.files.Files.{Files}
use Rattle.mt_compile.specs.declared.file.TypedFile.{TypedFile}
use Rattle.mt_mean.specs.Sources.{SourceFile, IsTypedAs, held_as, AreTyped}

-- the last text of some
record Last (texts : List (List ℕ)) (files : List SourceFile) (file : SourceFile) : Type 0 where
  front : List (List ℕ)
  text : List ℕ
  is : texts ≡ front ++ text ∷ []
  typed : AreTyped front files
  has : IsTypedAs text file

behind_one : (t : List ℕ) (f : SourceFile) (texts : List (List ℕ)) (files : List SourceFile) (file : SourceFile) → IsTypedAs t f →
    Last texts files file → Last (t ∷ texts) (f ∷ files) file
behind_one t f texts files file has last = record {
  front = t ∷ last.front;
  text = last.text;
  is = ap (λ ts. t ∷ ts) last.is;
  typed = (has, last.typed);
  has = last.has;
}

last_of : (texts : List (List ℕ)) (files : List SourceFile) (file : SourceFile) → AreTyped texts (files ++ file ∷ []) →
    Last texts files file
last_of [] [] file typed = absurd typed
last_of [] (f ∷ fs) file typed = absurd typed
last_of (t ∷ []) [] file typed = record { front = []; text = t; is = refl; typed = tt; has = typed.0 }
last_of (t ∷ s ∷ ts) [] file typed = absurd typed.1
last_of (t ∷ ts) (f ∷ fs) file typed = behind_one t f ts fs file typed.0 (last_of ts fs file typed.1)

-- a file that was pushed stands beside the others
pub pushed_file : (held : List TypedFile) (file : TypedFile) (before after : Files) →
    ((texts : List (List ℕ)) → AreTyped texts (map held_as held) → AreFilesOf texts before) →
    ((texts : List (List ℕ)) (text : List ℕ) → AreFilesOf texts before → IsTypedAs text (held_as file) →
    AreFilesOf (texts ++ text ∷ []) after) →
    (texts : List (List ℕ)) → AreTyped texts (map held_as (held ++ file ∷ [])) → AreFilesOf texts after
pushed_file held file before after so_far more texts typed =
    let last = last_of texts (map held_as held) (held_as file)
    (subst (λ fs. AreTyped texts fs) (map-append held_as held (file ∷ [])) typed) in
    subst (λ ts. AreFilesOf ts after) (sym last.is) (more last.front last.text (so_far last.front last.typed) last.has)

-- before the first file there is none
pub no_file_yet : (files : Files) → AreFilesOf [] files → (texts : List (List ℕ)) → AreTyped texts [] → AreFilesOf texts files
no_file_yet files none [] typed = none
no_file_yet files none (t ∷ ts) typed = absurd typed
