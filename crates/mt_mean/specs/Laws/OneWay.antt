-- Sources have one typed file each and mean something together, or nothing for one reason, where their files are told and no read failed.
use Rattle.std.proofs.Common.{◌≡◌, ℕ, List, refl, sym, ap, ◌∙◌, subst}
use Rattle.c_ast.specs.declared.program.Program.{Program as Tree}
use Rattle.c_type_base.specs.declared.typed.Typed.{Typed}
use Rattle.c_types.specs.Laws.WellTypedLaws.{one_typed}
use Rattle.frame_plan.specs.Laws.OneText.{one_sizes}
use Rattle.linker.specs.Refusal.{number_of as link_number}
use Rattle.linker.specs.declared.refusal.LinkRefusal.{LinkRefusal}
use Rattle.mean_link.specs.LinkFault.{AreLinked, LinkFault}
use Rattle.mean_link.specs.Laws.OneAnswer.{one_fault, no_fault}
use Rattle.mean_texts.specs.Texts.{AreTogether}
use Rattle.mt_answers.specs.Each.{AreMadeOf, Hold}
use Rattle.mt_answers.specs.Laws.EachLaws.{GoesOneWay, one_each, never_stops, one_stop}
use Rattle.mt_answers.specs.Seen.{FilesSeen, IsTold, ReadFailed}
use Rattle.mt_answers.specs.declared.ended.Why.{Why}
use Rattle.mt_answers.specs.declared.ended.Why.TheVariants.{Refused, Link}
use Rattle.mt_compile.specs.Laws.OnePlan.{no_file as no_typed_file, one_plan_refusal, one_program}
use Rattle.mt_compile.specs.Planned.{HasFile}
use Rattle.mt_compile.specs.Refused.{number_of}
use Rattle.mt_mean.specs.Sources.{SourceFile, IsTypedAs, RefusesFile, source, filed, link_names, MeansNothing, no_file, no_link}
use Rattle.mt_mean.specs.Laws.Sides.{sides}

-- ---- one source

abbrev file_of : Tree → Typed → List ℕ → SourceFile
file_of tree typed sizes = record { tree = tree; typed = typed; sizes = sizes }

by_tree : (text : List ℕ) (p q : Tree) (u v : Typed) (f g : List ℕ) → p ≡ q → HasFile text p u f → HasFile text q v g →
    file_of p u f ≡ file_of q v g
by_tree text p q u v f g tree a b = by_typed (subst (λ t. HasFile text t u f) tree a)
  where
    by_sizes : u ≡ v → HasFile text q v f → file_of p u f ≡ file_of q v g
    by_sizes typed c =
        let sizes = one_sizes v f g c.sizes_are b.sizes_are in (λ i. file_of (tree i) (typed i) (sizes i))

    by_typed : HasFile text q u f → file_of p u f ≡ file_of q v g
    by_typed c = let typed = one_typed q u v c.well b.well in by_sizes typed (subst (λ u. HasFile text q u f) typed c)

one_file : (text : List ℕ) (f g : SourceFile) → IsTypedAs text f → IsTypedAs text g → f ≡ g
one_file text f g a b = by_tree text f.tree g.tree f.typed g.typed f.sizes g.sizes (one_program a.spelled b.spelled) a b

refuses_one : (number : ℕ) (text : List ℕ) (why other : Why) → RefusesFile number text why → RefusesFile number text other → why ≡ other
refuses_one number text _ _ (source a) (source b) =
    let one = one_plan_refusal a b in
    (λ i. Refused number (number_of (one.same i)) (one.there i))

never_both : (number : ℕ) (text : List ℕ) (made : SourceFile) (why : Why) → IsTypedAs text made → RefusesFile number text why → ⊥
never_both number text made _ has (source refuses) = no_typed_file has refuses

pub one_way : GoesOneWay filed
one_way = record { makes_one = one_file; refuses_one = refuses_one; never_both = never_both }

-- ---- all of them

module _ (files : List (List ℕ)) (before after : FilesSeen) (told : IsTold before) (no_failure : ¬ ReadFailed before after) where
  linked_or_not : (made : List SourceFile) (why : Why) → AreMadeOf filed before files made → AreLinked (link_names made) →
      MeansNothing files before after why → ⊥
  linked_or_not made why are linked (no_file stops) =
      never_stops filed before after one_way told no_failure 0 files made why are stops
  linked_or_not made _ are linked (no_link others refusal these fault) =
      let same : others ≡ made = one_each filed before after one_way told no_failure files others made these are in
      no_fault (link_names made) refusal linked (subst (λ ms. LinkFault (link_names ms) refusal) same fault)

  pub something_or_nothing : (texts : List (List ℕ)) (why : Why) → Hold before files texts → AreTogether texts →
      MeansNothing files before after why → ⊥
  something_or_nothing texts why held together not =
      let side = sides before files texts together.trees together.units together.frames held together.files in
      linked_or_not side.made why side.are (subst AreLinked (sym side.names) together.linked) not

  pub one_reason : (why other : Why) → MeansNothing files before after why → MeansNothing files before after other → why ≡ other
  one_reason why other (no_file stops) (no_file also) = one_stop filed before after one_way told no_failure 0 files why other stops also
  one_reason why _ (no_file stops) (no_link made refusal are fault) =
      absurd (never_stops filed before after one_way told no_failure 0 files made why are stops)
  one_reason _ other (no_link made refusal are fault) (no_file also) =
      absurd (never_stops filed before after one_way told no_failure 0 files made other are also)
  one_reason _ _ (no_link made refusal are fault) (no_link others last these also) =
      let same : others ≡ made = one_each filed before after one_way told no_failure files others made these are in
      ap (λ (r : LinkRefusal). Link (link_number r))
      (one_fault (link_names made) refusal last fault (subst (λ ms. LinkFault (link_names ms) last) same also))
