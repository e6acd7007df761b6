-- The words of all functions of a file follow them, where those of other files do as far as less work reaches (this project's own).
use Rattle.std.specs.Prelude.{◌≡◌, ℕ, zero, suc, ◌<◌, ◌≤◌, List, length, slice_get, Some}
use Rattle.std.proofs.Common.{arith, ap, sym, subst, ◌∙◌, inl, inr}
use Rattle.std.proofs.lemmas.Bool.{cases_eq}
use Rattle.c_type_base.specs.declared.typed.StructInfo.{StructInfo}
use Rattle.c_type_base.specs.declared.typed.TFunction.{TFunction}
use Rattle.c_type_base.specs.declared.typed.Typed.{Typed}
use Rattle.block_meaning.specs.Linkage.{function_of, function_in, function_named, structs_in, structs_of}
use Rattle.block_meaning.specs.Running.{Function}
use Rattle.code_relation.specs.Calls.{frame_by, frame_of}
use Rattle.code_relation.specs.Follows.{Code, types_of, WordsFollow}
use Rattle.code_relation.specs.Sites.{units_of}
use Rattle.code_relation.specs.Stands.{IsThere}
use Rattle.frame_layout.specs.declared.frame.Frame.{Frame}
use Rattle.frame_layout.specs.Frames.{frame}
use Rattle.gen_unit.specs.Functions.{function_items}
use Rattle.gen_unit.specs.Units.{all_words}
use Rattle.unit_follows.specs.Functions.{IsPlacedFunction, all_items}
use Rattle.unit_follows.specs.Placed.{IsPlacedFile}
use Rattle.unit_follows.specs.Placing.{Placing}
use Rattle.unit_follows.specs.Units.{IsInside, Setup, code, OthersFollow, IsPlacedIn, UnitFollows}
use Rattle.unit_follows.specs.Laws.CallItems.{AllFollow}
use Rattle.unit_follows.specs.Laws.FileWords.{FunctionWords, FunctionWords-file}
use Rattle.unit_follows.specs.Laws.Whole.{WordsFollow-function}

-- ---- the words of a function of a placed file

pub FunctionWords-named : {c : Code} {p : Placing} {unit : ℕ} (placed : IsPlacedFile c.given p unit) →
    IsInside c p.words (length (all_words placed.file.structs placed.file.functions)) → (n : ℕ) (tf : TFunction) →
    function_named (units_of c.given) (function_of unit n) ≡ Some tf →
    FunctionWords c p unit (p.function (function_of unit n)) (frame_of (units_of c.given) (function_of unit n))
    (all_items (structs_of (units_of c.given) unit) tf (frame_of (units_of c.given) (function_of unit n)))
FunctionWords-named {c} {p} {unit} placed inside n tf is =
    subst (λ (fr : Frame). FunctionWords c p unit (p.function (function_of unit n)) fr (all_items (structs_of
    (units_of c.given) unit) tf fr))
    (sym frame_is)
    (subst (λ (structs : List StructInfo). FunctionWords c p unit (p.function (function_of unit n)) (frame structs tf)
    (function_items structs tf)) (sym structs_is) (FunctionWords-file placed inside n tf there))
  where
    structs_is : structs_of (units_of c.given) unit ≡ placed.file.structs
    structs_is = ap structs_in placed.file_is

    frame_is : frame_of (units_of c.given) (function_of unit n) ≡ frame (structs_of (units_of c.given) unit) tf
    frame_is = ap (λ o. frame_by (units_of c.given) unit o) is

    there : slice_get placed.file.functions n ≡ Some tf
    there = sym (ap (λ o. function_in o n) placed.file_is) ∙ is

-- ---- all functions of a file

module _ (u : Setup) (p : Placing) (unit : ℕ) where
  -- what is known of the functions of the file, where all follow that they call
  pub record AreReady : Type 1 where
    pub few : (f : Function) → length (types_of (function_named (units_of u.given) f)) ≤ 30
    pub placed : (reach n : ℕ) (tf : TFunction) → function_named (units_of u.given) (function_of unit n) ≡ Some tf →
        AllFollow (code u reach) p →
        IsPlacedFunction (code u reach) p (function_of unit n) tf (p.function (function_of unit n))

  -- with no work nothing is begun
  no_work : (f : Function) (at : ℕ) → WordsFollow (code u 0) f at
  no_work f at = record {
    follows = λ bound vs. record { does = λ here now s within relates begins. absurd (let b = begins.0 in omega (arith, within, b)) };
  }

  all_follow : AreReady → (reach : ℕ) → ((n : ℕ) (tf : TFunction) → function_named (units_of u.given) (function_of unit n) ≡ Some tf →
      WordsFollow (code u reach) (function_of unit n) (p.function (function_of unit n))) → OthersFollow u p unit reach →
      AllFollow (code u reach) p
  all_follow ready reach own others = record {
    follow = λ f there. by_unit f there;
    few = ready.few;
  }
    where
      named_here : (f : Function) (there : IsThere (units_of u.given) f) → f.unit ≡ unit → WordsFollow (code u reach) f (p.function f)
      named_here f there same =
          subst (λ v. WordsFollow (code u reach) (function_of v f.number) (p.function (function_of v f.number))) (sym same)
          (own f.number there.function (ap (λ v. function_named (units_of u.given) (function_of v f.number)) (sym same) ∙ there.is))

      by_unit : (f : Function) → IsThere (units_of u.given) f → WordsFollow (code u reach) f (p.function f)
      by_unit f there = elim (cases_eq f.unit unit) [
        | inl same ↦ named_here f there same
        | inr other ↦ others f other there
      ]

  pub WordsFollow-file : AreReady → (reach : ℕ) → ((fewer : ℕ) → fewer < reach → OthersFollow u p unit fewer) → (n : ℕ) (tf : TFunction) →
      function_named (units_of u.given) (function_of unit n) ≡ Some tf →
      WordsFollow (code u reach) (function_of unit n) (p.function (function_of unit n))
  WordsFollow-file ready zero others n tf is = no_work (function_of unit n) (p.function (function_of unit n))
  WordsFollow-file ready (suc reach) others n tf is = WordsFollow-function (ready.placed reach n tf is (all_follow ready reach
      (λ m t named. WordsFollow-file ready reach (λ fewer less. others fewer (omega (arith, less))) m t named)
      (others reach (omega arith))))

-- So the file is what it is to be, where its functions are ready wherever it is placed.
pub UnitFollows-ready : (typed : Typed) → ((u : Setup) (p : Placing) (unit : ℕ) → IsPlacedIn typed u p unit → AreReady u p unit) →
    UnitFollows typed
UnitFollows-ready typed ready = record {
  follows = λ u p unit reach placed others n tf is. WordsFollow-file u p unit (ready u p unit placed) reach others n tf is;
}
