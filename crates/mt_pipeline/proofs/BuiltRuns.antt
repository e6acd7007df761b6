-- The run of the image that texts are built into does what they mean, and it is a file.
use Rattle.std.proofs.Common.{ℕ, ◌%◌, List, sym, subst}
use Rattle.elf_image.specs.Laws.ConstantLaws.{constant_valid}
use Rattle.elf_image.specs.Image.{Image}
use Rattle.elf_image.specs.Places.{IsValid}
use Rattle.tag_startup.specs.Starts.{Starts}
use Rattle.mt_compile.specs.Laws.ConstantTrees.{constant_in_range}
use Rattle.mt_pipeline.specs.Agrees.{ExitsAlways}
use Rattle.mt_pipeline.specs.Built.{AreCompiled, Builds, Linked}
use Rattle.mt_pipeline.specs.Laws.BuiltLaws.{IsOfConstant, of_constant, only_constant}
use Rattle.mt_pipeline.specs.Laws.ConstantRun.{constant_starts, constant_exits}

-- the image exits always with its constant
pub of_exits : (texts : List (List ℕ)) (image : Image) (of : IsOfConstant texts image) → ExitsAlways image (of.constant % 256)
of_exits texts image of =
    subst (λ i. ExitsAlways i (of.constant % 256)) (sym of.is) (constant_exits of.constant (constant_in_range of.returns.returns))

pub linked_builds : (texts objects : List (List ℕ)) (image : Image) → AreCompiled texts objects → Linked objects image → Builds texts image
linked_builds texts objects image compiled linked =
    let of = of_constant texts objects image compiled linked in
    record {
      objects = objects;
      compiled = compiled;
      linked = linked;
      agrees = λ n r. subst (λ m. ExitsAlways image (m % 256)) (sym (only_constant texts image n of r)) (of_exits texts image of);
    }

-- what is said of a built image alone
pub record IsWhole (texts : List (List ℕ)) (image : Image) : Type 0 where
  pub of : IsOfConstant texts image
  pub valid : IsValid image
  pub starts : Starts image
  pub exits : ExitsAlways image (of.constant % 256)

pub whole : (texts : List (List ℕ)) (image : Image) → Builds texts image → IsWhole texts image
whole texts image builds =
    let found = of_constant texts builds.objects image builds.compiled builds.linked in
    record {
      of = found;
      valid = subst (λ i. IsValid i) (sym found.is) (constant_valid found.constant);
      starts = subst (λ i. Starts i) (sym found.is) (constant_starts found.constant);
      exits = of_exits texts image found;
    }
