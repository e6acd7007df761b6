-- Texts together have a meaning: their files are well typed, and the names that they use are linked.
use Rattle.std.proofs.Common.{◌≡◌, refl, sym, ap, subst, ◌∙◌, ℕ, zero, suc, ◌+◌, Bool, true, false, ◌||◌, List, [], ◌∷◌, ◌++◌}
use Rattle.std.proofs.Common.{map, length, slice_get, arith, Some}
use Rattle.std.proofs.lemmas.List.{length-map}
use Rattle.std.proofs.lemmas.Option.{same_Some}
use Rattle.c_ast.specs.declared.program.Program.{Program as Tree}
use Rattle.c_type_base.specs.declared.typed.TFunction.{TFunction}
use Rattle.c_type_base.specs.declared.typed.Typed.{Typed}
use Rattle.slot_safety.specs.Kinds.{among}
use Rattle.block_meaning.specs.Linkage.{function_of, extern_in}
use Rattle.frame_plan.specs.Refusal.{frame_bytes}
use Rattle.mean_link.specs.LinkFault.{AreLinked}
use Rattle.mean_link.specs.Names.{names_in}
use Rattle.mean_link.specs.Uses.{joined, file_uses, object_uses, function_uses}
use Rattle.mean_texts.specs.Laws.Used.{used-among}
use Rattle.mean_texts.specs.Laws.Bodies.{spelled-bodied}
use Rattle.mean_texts.specs.Laws.Mains.{no-main-object}
use Rattle.mean_texts.specs.Laws.Named.{used_in, used-defined, main-defined}
use Rattle.mean_texts.specs.Texts.{AreFiles, AreTogether, HaveMeaning, program_of}
use Rattle.mt_compile.specs.Planned.{HasFile}
use Rattle.well_typed_order.specs.Laws.Programs.{program-has_meaning}
use Rattle.well_typed_order.specs.Links.{Links, Framed, UsedLinked}
use Rattle.well_typed_order.specs.WellTypedPrograms.{FileOf, WellTypedProgram}

-- the text and the rest of the file of a number
record FileAt (trees : List Tree) (frames : List (List ℕ)) (unit : ℕ) (u : Typed) : Type 0 where
  text : List ℕ
  tree : Tree
  tree_is : slice_get trees unit ≡ Some tree
  sizes : List ℕ
  sizes_are : slice_get frames unit ≡ Some sizes
  file : HasFile text tree u sizes

file_at : (texts : List (List ℕ)) (trees : List Tree) (units : List Typed) (frames : List (List ℕ)) → AreFiles texts trees units frames →
    (unit : ℕ) (u : Typed) → slice_get units unit ≡ Some u → FileAt trees frames unit u
file_at [] [] [] [] files unit u is = absurd cc
file_at (t ∷ ts) (p ∷ ps) (v ∷ us) (f ∷ fs) files zero u is = record {
  text = t;
  tree = p;
  tree_is = refl;
  sizes = f;
  sizes_are = refl;
  file = subst (λ v. HasFile t p v f) (same_Some v u is) files.0;
}
file_at (t ∷ ts) (p ∷ ps) (v ∷ us) (f ∷ fs) files (suc unit) u is =
    let found = file_at ts ps us fs files.1 unit u is in
    record {
      text = found.text;
      tree = found.tree;
      tree_is = found.tree_is;
      sizes = found.sizes;
      sizes_are = found.sizes_are;
      file = found.file;
    }
file_at [] (p ∷ ps) units frames files unit u is = absurd files
file_at [] [] (v ∷ us) frames files unit u is = absurd files
file_at [] [] [] (f ∷ fs) files unit u is = absurd files
file_at (t ∷ ts) [] units frames files unit u is = absurd files
file_at (t ∷ ts) (p ∷ ps) [] frames files unit u is = absurd files
file_at (t ∷ ts) (p ∷ ps) (v ∷ us) [] files unit u is = absurd files

among_second : (k : ℕ) (xs ys : List ℕ) → among k ys ≡ true → among k (xs ++ ys) ≡ true
among_second k [] ys is = is
among_second k (x ∷ xs) ys is = or_true _ _ (among_second k xs ys is)
  where
    or_true : (a b : Bool) → b ≡ true → (a || b) ≡ true
    or_true true b is = refl
    or_true false b is = is

among_first : (k : ℕ) (xs ys : List ℕ) → among k xs ≡ true → among k (xs ++ ys) ≡ true
among_first k [] ys is = absurd cc
among_first k (x ∷ xs) ys is = by_test _ _ _ is (among_first k xs ys)
  where
    by_test : (a b c : Bool) → (a || b) ≡ true → (b ≡ true → c ≡ true) → (a || c) ≡ true
    by_test true b c is next = refl
    by_test false b c is next = next is

-- what a function uses its file does
function_among : (fs : List TFunction) (number : ℕ) (f : TFunction) (k : ℕ) → slice_get fs number ≡ Some f →
    among k (function_uses f) ≡ true → among k (joined (map function_uses fs)) ≡ true
function_among [] number f k is used = absurd cc
function_among (g ∷ fs) zero f k is used =
    among_first k (function_uses g) (joined (map function_uses fs))
    (subst (λ f. among k (function_uses f) ≡ true) (sym (same_Some g f is)) used)
function_among (g ∷ fs) (suc number) f k is used =
    among_second k (function_uses g) (joined (map function_uses fs)) (function_among fs number f k is used)

module _ (texts : List (List ℕ)) (trees : List Tree) (units : List Typed) (frames : List (List ℕ)) (stack : ℕ)
    (files : AreFiles texts trees units frames) (linked : AreLinked (names_in trees units)) where
  at : (unit : ℕ) (u : Typed) → slice_get units unit ≡ Some u → FileAt trees frames unit u
  at = file_at texts trees units frames files

  used_linked : (unit : ℕ) (u : Typed) → slice_get units unit ≡ Some u → UsedLinked units unit u
  used_linked unit u is number k f e there used its =
      let file = at unit u is in
      let mine : slice_get u.externs k ≡ Some e = ap (λ o. extern_in o k) (sym is) ∙ its in
      let plus : 0 + k ≡ k = omega arith in
      let all : among (0 + k) (file_uses u) ≡ true =
      ap (λ n. among n (file_uses u)) plus
      ∙ among_second k (joined (map object_uses u.globals)) (joined (map function_uses u.functions))
      (function_among u.functions number f k there (used-among f.body k used)) in
      used-defined trees units unit file.tree u e.name linked.defined file.tree_is is
      (used_in (file_uses u) 0 u.externs k e mine all)

  links : Links units
  links =
      let main = main-defined trees units
      (λ u has g among_them. no-main-object (at has.0 u has.1).tree u (at has.0 u has.1).file.well g among_them) linked.main in
      record { main = function_of main.0 main.1; main_is = main.2; used = used_linked }

  framed : Framed (program_of units frames stack)
  framed unit u is =
      let file = at unit u is in
      (file.sizes, file.sizes_are, ap length file.file.sizes_are.is ∙ length-map u.functions (frame_bytes u.structs))

  file_of : (unit : ℕ) (u : Typed) → slice_get units unit ≡ Some u → FileOf u
  file_of unit u is =
      let file = at unit u is in
      record { text = file.tree; well = file.file.well; bodied = spelled-bodied file.file.spelled }

  -- the program of linked files is one of well-typed files
  pub linked-program : WellTypedProgram (program_of units frames stack)
  linked-program = record { files = file_of; frames = framed; links = links }

-- texts together have a meaning, whatever their stack, their input and their work
pub together-mean : (texts : List (List ℕ)) (stack : ℕ) (input : List ℕ) (work : ℕ) → AreTogether texts →
    HaveMeaning texts stack input work
together-mean texts stack input work together =
    let well = linked-program texts together.trees together.units together.frames stack together.files together.linked in
    let has = program-has_meaning (program_of together.units together.frames stack) well input work in
    record { outcome = has.outcome; means = record { together = together; means = has.means } }
