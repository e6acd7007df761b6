-- The code of the name of an object, of an object of another file, and of a text does what it means (this project's own).
use Rattle.std.specs.Prelude.{◌≡◌, ℕ, List}
use Rattle.std.proofs.Common.{ap, ◌∙◌}
use Rattle.c_type_base.specs.declared.expr.TNode.TheOpen.{TNode-F}
use Rattle.c_type_base.specs.declared.ty.Ty.{Ty}
use Rattle.c_type_base.specs.declared.typed.Typed.{Typed}
use Rattle.a64_code.specs.State.{State}
use Rattle.block_meaning.specs.Expressions.{starts, start_of}
use Rattle.block_meaning.specs.Linkage.{object_block, text_block, extern_block}
use Rattle.block_meaning.specs.Running.{unit_gives, State as MeaningState}
use Rattle.code_relation.specs.Relates.{Relates}
use Rattle.code_relation.specs.Sites.{units_of}
use Rattle.code_follows.specs.Parts.{PlaceNode}
use Rattle.code_follows.specs.Scene.{Scene, IsScene, given_in}
use Rattle.code_follows.specs.Laws.Addresses.{address_part}
use Rattle.code_follows.specs.Laws.Here.{Part-same, PlacePart-paid}

module _ {k : Scene} (scene : IsScene k) where
  -- what hangs on the files and the file's number is the same for the code as in the context
  same_file : {A : Type 0} (f : List Typed → ℕ → A) {now : MeaningState} {s : State} → Relates (given_in k) k.here now s →
      f k.here.program.units k.here.unit ≡ f (units_of (given_in k)) k.function.unit
  same_file f relates =
      ap (λ p. f p.units k.here.unit) relates.injects.stands.program_is ∙ ap (λ unit. f (units_of (given_in k)) unit) scene.inside.3

  pub global_follows : (depth n : ℕ) (t : Ty) → PlaceNode k depth t (TNode-F.Global n)
  global_follows depth n t = record {
    at = λ span. PlacePart-paid
        (Part-same (λ now s relates. same_file (λ units unit. unit_gives (start_of (object_block units unit n)) now) relates)
        (address_part scene (record { names = λ reg spot acts. acts })));
  }

  pub text_follows : (depth n : ℕ) (t : Ty) → PlaceNode k depth t (TNode-F.Text n)
  text_follows depth n t = record {
    at = λ span. PlacePart-paid
        (Part-same (λ now s relates. same_file (λ units unit. unit_gives (start_of (text_block units unit n)) now) relates)
        (address_part scene (record { names = λ reg spot acts. acts })));
  }

  pub extern_follows : (depth n : ℕ) (t : Ty) → PlaceNode k depth t (TNode-F.Extern n)
  extern_follows depth n t = record {
    at = λ span. PlacePart-paid
        (Part-same (λ now s relates. same_file (λ units unit. starts (extern_block units unit n) now) relates)
        (address_part scene (record { names = λ reg spot acts. acts })));
  }
