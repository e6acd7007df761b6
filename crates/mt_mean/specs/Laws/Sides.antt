-- Typed files, one by one and side by side.
use Rattle.std.proofs.Common.{◌≡◌, ℕ, suc, List, [], ◌∷◌, length, map, refl, sym, ap, ◌∙◌}
use Rattle.c_ast.specs.declared.program.Program.{Program as Tree}
use Rattle.c_type_base.specs.declared.typed.Typed.{Typed}
use Rattle.mean_link.specs.Names.{names_in}
use Rattle.mean_texts.specs.Texts.{AreFiles}
use Rattle.mt_answers.specs.Each.{AreMadeOf, Hold}
use Rattle.mt_answers.specs.Seen.{FilesSeen}
use Rattle.mt_compile.specs.Planned.{HasFile}
use Rattle.mt_mean.specs.Sources.{SourceFile, IsTypedAs, filed, link_names, AreTyped}

abbrev pub trees_of : List SourceFile → List Tree
trees_of files = map (λ f. f.tree) files

abbrev pub units_of : List SourceFile → List Typed
units_of files = map (λ f. f.typed) files

-- ---- files of texts that are told side by side

-- the same files one by one
pub record Sides (seen : FilesSeen) (files : List (List ℕ)) (trees : List Tree) (units : List Typed) : Type 0 where
  pub made : List SourceFile
  pub are : AreMadeOf filed seen files made
  pub trees_are : trees_of made ≡ trees
  pub units_are : units_of made ≡ units
  pub names : link_names made ≡ names_in trees units

with_one : (seen : FilesSeen) (file text : List ℕ) (files : List (List ℕ)) (p : Tree) (ps : List Tree) (u : Typed) (us : List Typed)
    (f : List ℕ) → Hold seen (file ∷ []) (text ∷ []) → HasFile text p u f → Sides seen files ps us →
    Sides seen (file ∷ files) (p ∷ ps) (u ∷ us)
with_one seen file text files p ps u us f held has rest =
    let one : SourceFile = record { tree = p; typed = u; sizes = f } in
    let trees : trees_of (one ∷ rest.made) ≡ p ∷ ps = ap (λ ts. p ∷ ts) rest.trees_are in
    let units : units_of (one ∷ rest.made) ≡ u ∷ us = ap (λ ts. u ∷ ts) rest.units_are in
    record {
      made = one ∷ rest.made;
      are = (record { bytes = text; holds = held.0; makes = has }, rest.are);
      trees_are = trees;
      units_are = units;
      names = ap (λ ts. names_in ts (units_of (one ∷ rest.made))) trees ∙ ap (names_in (p ∷ ps)) units;
    }

pub sides : (seen : FilesSeen) (files texts : List (List ℕ)) (trees : List Tree) (units : List Typed) (frames : List (List ℕ)) →
    Hold seen files texts → AreFiles texts trees units frames → Sides seen files trees units
sides seen [] [] [] [] [] held are = record { made = []; are = tt; trees_are = refl; units_are = refl; names = refl }
sides seen [] [] [] [] (f ∷ fs) held are = absurd are
sides seen [] [] [] (u ∷ us) frames held are = absurd are
sides seen [] [] (p ∷ ps) units frames held are = absurd are
sides seen [] (t ∷ ts) trees units frames held are = absurd held
sides seen (file ∷ files) [] trees units frames held are = absurd held
sides seen (file ∷ files) (t ∷ ts) (p ∷ ps) (u ∷ us) (f ∷ fs) held are =
    with_one seen file t files p ps u us f (held.0, tt) are.0 (sides seen files ts ps us fs held.1 are.1)
sides seen (file ∷ files) (t ∷ ts) [] units frames held are = absurd are
sides seen (file ∷ files) (t ∷ ts) (p ∷ ps) [] frames held are = absurd are
sides seen (file ∷ files) (t ∷ ts) (p ∷ ps) (u ∷ us) [] held are = absurd are

-- ---- files that were made one by one

-- the texts that the files hold, which have what was made
pub record Held (seen : FilesSeen) (files : List (List ℕ)) (made : List SourceFile) : Type 0 where
  pub texts : List (List ℕ)
  pub held : Hold seen files texts
  pub typed : AreTyped texts made

pub held_texts : (seen : FilesSeen) (files : List (List ℕ)) (made : List SourceFile) → AreMadeOf filed seen files made →
    Held seen files made
held_texts seen [] [] are = record { texts = []; held = tt; typed = tt }
held_texts seen [] (m ∷ ms) are = absurd are
held_texts seen (f ∷ fs) [] are = absurd are
held_texts seen (f ∷ fs) (m ∷ ms) are =
    let rest = held_texts seen fs ms are.1 in
    record { texts = are.0.bytes ∷ rest.texts; held = (are.0.holds, rest.held); typed = (are.0.makes, rest.typed) }

-- as many trees as typed files, and as many lists of frames
pub record SameCount (trees : List Tree) (units : List Typed) (frames : List (List ℕ)) : Type 0 where
  pub trees_are : length trees ≡ length units
  pub frames_are : length frames ≡ length units

pub same_count : (texts : List (List ℕ)) (trees : List Tree) (units : List Typed) (frames : List (List ℕ)) →
    AreFiles texts trees units frames → SameCount trees units frames
same_count [] [] [] [] are = record { trees_are = refl; frames_are = refl }
same_count [] [] [] (f ∷ fs) are = absurd are
same_count [] [] (u ∷ us) frames are = absurd are
same_count [] (p ∷ ps) units frames are = absurd are
same_count (t ∷ ts) (p ∷ ps) (u ∷ us) (f ∷ fs) are =
    let rest = same_count ts ps us fs are.1 in
    record { trees_are = ap suc rest.trees_are; frames_are = ap suc rest.frames_are }
same_count (t ∷ ts) [] units frames are = absurd are
same_count (t ∷ ts) (p ∷ ps) [] frames are = absurd are
same_count (t ∷ ts) (p ∷ ps) (u ∷ us) [] are = absurd are
