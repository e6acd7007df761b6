-- The loops over what a link sees of files.
use Rattle.std.proofs.Common.{◌≡◌, refl, sym, ◌∙◌, ap, subst, ℕ, zero, suc, ◌+◌, ◌<◌, ◌≤◌, arith, Bool, true, false, not, ◌||◌}
use Rattle.std.proofs.Common.{List, [], ◌∷◌, ◌++◌}
use Rattle.std.proofs.Common.{take, drop, find, flat_map, length, get_or, Option, Some, None}
use Rattle.std.specs.Prelude.{if◌then◌else◌}
use Rattle.std.specs.List.{filter, list_any}
use Rattle.std.specs.Option.{option_or}
use Rattle.std.proofs.lemmas.List.{drop_all, take_all}
use Rattle.std.proofs.lemmas.List.Folds.{find-append}
use Rattle.c_ast.specs.declared.program.Program.{Program}
use Rattle.c_type_base.specs.declared.typed.ExternInfo.{ExternInfo}
use Rattle.c_type_base.specs.declared.typed.Typed.{Typed}
use Rattle.slot_safety.specs.Kinds.{among, by_number}
use Rattle.mean_link.specs.LinkFault.{defined_by, undefined_by, repeated_from, first_repeated, first_missing, is_missing}
use Rattle.mean_link.specs.Names.{is_among, declared, global_names, is_main, names_of, names_in, used_from}
use Rattle.mean_link.specs.Uses.{file_uses}
use Rattle.mean_link.specs.declared.names.FileNames.{FileNames}
use Rattle.mean_link.specs.Laws.NameLaws.{HaveSame, Adds, is_unknown, used_by}
use Rattle.mean_link.specs.Laws.UseLaws.{as_told}
use Rattle.mean_link.proofs.Tables.{take-here, drop-here, flat-here, find_same, filter_same, adds_two}

abbrev Name : Type 0
Name = List ℕ

-- ---- externs

-- those that are marked are those whose numbers are there
pub used_is : (numbers : List ℕ) (k : ℕ) (es : List ExternInfo) → used_by (by_number as_told numbers k es) es ≡ used_from numbers k es
used_is numbers k [] = refl
used_is numbers k (e ∷ es) =
    ap (λ l. if among k numbers then e.name ∷ l else l) (used_is numbers (suc k) es)

-- ---- files

abbrev earlier : List FileNames → ℕ → List Name
earlier files i = flat_map defined_by (take i files)

module _ (files : List FileNames) (i : ℕ) (file : FileNames) (within : i < length files) (is : file ≡ get_or files i file) where
  abbrev rest : List FileNames
  rest = drop (i + 1) files

  abbrev later : Option Name
  later = repeated_from (earlier files i ++ file.defined) rest

  by_first : repeated_from (earlier files i) (drop i files) ≡ option_or (find (is_among (earlier files i)) file.defined) later
  by_first = ap (repeated_from (earlier files i)) (drop-here files i file within is)

  found_is : (known : List Name) (o : Option Name) → HaveSame known (earlier files i) → find (is_among known) file.defined ≡ o →
      find (is_among (earlier files i)) file.defined ≡ o
  found_is known o same found = sym (find_same (is_among known) (is_among (earlier files i)) same file.defined) ∙ found

  -- this file repeats a name
  pub repeats_here : (known : List Name) (name : Name) → HaveSame known (earlier files i) →
      find (is_among known) file.defined ≡ Some name → repeated_from (earlier files i) (drop i files) ≡ first_repeated files →
      first_repeated files ≡ Some name
  repeats_here known name same found before =
      sym before ∙ by_first ∙ ap (λ o. option_or o later) (found_is known (Some name) same found)

  -- or none
  pub repeats_later : (known : List Name) → HaveSame known (earlier files i) → find (is_among known) file.defined ≡ None →
      repeated_from (earlier files i) (drop i files) ≡ first_repeated files →
      repeated_from (earlier files (i + 1)) (drop (i + 1) files) ≡ first_repeated files
  repeats_later known same found before =
      ap (λ names. repeated_from names rest) (flat-here defined_by files i file within is)
      ∙ sym (ap (λ o. option_or o later) (found_is known None same found))
      ∙ sym by_first ∙ before

  -- its names are known then
  pub known_more : (known after : List Name) → HaveSame known (earlier files i) → Adds known after file.defined →
      HaveSame after (earlier files (i + 1))
  known_more known after same adds name =
      let all : Adds [] after (earlier files i ++ file.defined) =
      adds_two [] known after (earlier files i) file.defined same adds in
      all name ∙ ap (λ names. is_among names name) (sym (flat-here defined_by files i file within is))

  -- ---- names that are missing

  abbrev missing_from : ℕ → Option Name
  missing_from k = find (is_missing files) (flat_map undefined_by (drop k files))

  missing_first : missing_from i ≡ option_or (find (is_missing files) file.undefined) (missing_from (i + 1))
  missing_first =
      ap (λ l. find (is_missing files) (flat_map undefined_by l)) (drop-here files i file within is)
      ∙ find-append (is_missing files) file.undefined (flat_map undefined_by (drop (i + 1) files))

  unknown_is : (known : List Name) (o : Option Name) → HaveSame known (flat_map defined_by files) →
      find (is_unknown known) file.undefined ≡ o → find (is_missing files) file.undefined ≡ o
  unknown_is known o same found =
      sym (find_same (is_unknown known) (is_missing files) (λ name. ap not (same name)) file.undefined) ∙ found

  pub missing_here : (known : List Name) (name : Name) → HaveSame known (flat_map defined_by files) →
      find (is_unknown known) file.undefined ≡ Some name → missing_from i ≡ first_missing files → Some name ≡ first_missing files
  missing_here known name same found before =
      sym (missing_first ∙ ap (λ o. option_or o (missing_from (i + 1))) (unknown_is known (Some name) same found)) ∙ before

  pub missing_later : (known : List Name) → HaveSame known (flat_map defined_by files) →
      find (is_unknown known) file.undefined ≡ None → missing_from i ≡ first_missing files → missing_from (i + 1) ≡ first_missing files
  missing_later known same found before =
      sym (missing_first ∙ ap (λ o. option_or o (missing_from (i + 1))) (unknown_is known None same found)) ∙ before

module _ (files : List FileNames) (i : ℕ) (beyond : length files ≤ i) where
  pub all_known : (known : List Name) → HaveSame known (earlier files i) → HaveSame known (flat_map defined_by files)
  all_known known same name = same name ∙ ap (λ l. is_among (flat_map defined_by l) name) (take_all i files beyond)

  pub none_repeated : repeated_from (earlier files i) (drop i files) ≡ first_repeated files → first_repeated files ≡ None
  none_repeated before = sym before ∙ ap (repeated_from (earlier files i)) (drop_all i files beyond)

  pub none_missing : find (is_missing files) (flat_map undefined_by (drop i files)) ≡ first_missing files → None ≡ first_missing files
  none_missing before = sym (ap (λ l. find (is_missing files) (flat_map undefined_by l)) (drop_all i files beyond)) ∙ before

-- ---- what a link sees of files

names_in-more : (ps : List Program) (us : List Typed) (p : Program) (u : Typed) → length ps ≡ length us →
    names_in (ps ++ p ∷ []) (us ++ u ∷ []) ≡ names_in ps us ++ names_of p u ∷ []
names_in-more [] [] p u same = refl
names_in-more [] (v ∷ us) p u same = absurd (omega (arith, same))
names_in-more (q ∷ ps) [] p u same = absurd (omega (arith, same))
names_in-more (q ∷ ps) (v ∷ us) p u same = ap (λ l. names_of q v ∷ l) (names_in-more ps us p u (omega (arith, same)))

length-took : {A : Type 0} (xs : List A) (i : ℕ) → i ≤ length xs → length (take i xs) ≡ i
length-took xs zero h = refl
length-took [] (suc i) h = absurd (omega (arith, h))
length-took (x ∷ xs) (suc i) h = ap suc (length-took xs i (omega (arith, h)))

pub names_turn : (ps : List Program) (us : List Typed) (i : ℕ) (p : Program) (u : Typed) (before after : List FileNames)
    (names : FileNames) → i < length ps → i < length us → p ≡ get_or ps i p → u ≡ get_or us i u → names ≡ names_of p u →
    before ≡ names_in (take i ps) (take i us) → after ≡ before ++ names ∷ [] → after ≡ names_in (take (i + 1) ps) (take (i + 1) us)
names_turn ps us i p u before after names first second is1 is2 said passed turn =
    turn ∙ ap (λ n. before ++ n ∷ []) said ∙ ap (λ l. l ++ names_of p u ∷ []) passed
    ∙ sym (names_in-more (take i ps) (take i us) p u (length-took ps i (omega (arith, first)) ∙ sym (length-took us i
    (omega (arith, second)))))
    ∙ ap (λ l. names_in l (take i us ++ u ∷ [])) (sym (take-here ps i p first is1))
    ∙ ap (names_in (take (i + 1) ps)) (sym (take-here us i u second is2))

pub length-names_in : (ps : List Program) (us : List Typed) → length ps ≡ length us → length (names_in ps us) ≡ length us
length-names_in [] [] same = refl
length-names_in [] (v ∷ us) same = absurd (omega (arith, same))
length-names_in (q ∷ ps) [] same = absurd (omega (arith, same))
length-names_in (q ∷ ps) (v ∷ us) same = ap suc (length-names_in ps us (omega (arith, same)))

pub all_names : (ps : List Program) (us : List Typed) (i : ℕ) (files : List FileNames) → length ps ≡ length us → length us ≤ i →
    files ≡ names_in (take i ps) (take i us) → files ≡ names_in ps us
all_names ps us i files same beyond passed =
    passed ∙ ap (λ l. names_in l (take i us)) (take_all i ps (omega (arith, same, beyond))) ∙ ap (names_in ps) (take_all i us beyond)

-- the parts of what a link sees of a file
pub made : (p : Program) (u : Typed) (known defined undefined : List Name) (main : Bool) (marks : List Bool) →
    HaveSame known (global_names u) → defined ≡ filter (is_among known) (declared p) → main ≡ list_any is_main u.functions →
    undefined ≡ used_by marks u.externs → marks ≡ by_number as_told (file_uses u) 0 u.externs →
    record { defined = defined; has_main = main; undefined = undefined } ≡ names_of p u
made p u known defined undefined main marks same defined_is main_is undefined_is marks_are =
    let first : defined ≡ filter (is_among (global_names u)) (declared p) =
    defined_is ∙ filter_same known (global_names u) (declared p) same in
    let last : undefined ≡ used_from (file_uses u) 0 u.externs =
    undefined_is ∙ ap (λ bs. used_by bs u.externs) marks_are ∙ used_is (file_uses u) 0 u.externs in
    (λ i. record { defined = first i; has_main = main_is i; undefined = last i })
