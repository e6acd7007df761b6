-- One more turn of the loops over slots and functions.
use Rattle.std.proofs.Common.{◌≡◌, ◌⊎◌, ℕ, suc, ◌+◌, ◌<◌, List, [], ◌∷◌, ◌++◌, length, drop, take, get_or, map, flat_map, Some}
use Rattle.std.proofs.Common.{ap, sym, ◌∙◌, subst, inl, inr, arith, append_assoc, drop-cons}
use Rattle.std.proofs.Math.Seq.{take-suc}
use Rattle.std.proofs.lemmas.List.{flat_map_more, map-append}
use Rattle.std.proofs.lemmas.List.Elements.{All-more}
use Rattle.std.proofs.lemmas.Option.{slice_get-get_or}
use Rattle.std.specs.Prelude.{codes, All}
use Rattle.c_type_base.specs.declared.typed.LocalInfo.{LocalInfo}
use Rattle.c_type_base.specs.declared.typed.StructInfo.{StructInfo}
use Rattle.c_type_base.specs.declared.typed.TFunction.{TFunction}
use Rattle.frame_layout.specs.declared.frame.Frame.{Frame}
use Rattle.frame_layout.specs.declared.frame.Slot.{Slot}
use Rattle.frame_layout.specs.Frames.{frame}
use Rattle.frame_layout.specs.Layouts.{IsLaid}
use Rattle.frame_plan.specs.declared.refusal.PlanRefusal.{PlanRefusal}
use Rattle.frame_plan.specs.declared.refusal.PlanRefusal.TheVariants.{NoMemory}
use Rattle.frame_plan.specs.Lines.{slot_lines, slot_line, slot_words, function_lines, lines_of}
use Rattle.frame_plan.specs.Refusal.{Fits, frame_bytes}
use Rattle.frame_plan.specs.Laws.OneText.{slots-of_all, IsLargeRefusal, AreRefused}

drop-here : {A : Type 0} (xs : List A) (i : ℕ) (x : A) → i < length xs → x ≡ get_or xs i x → drop i xs ≡ x ∷ drop (i + 1) xs
drop-here xs i x within is =
    let next : suc i ≡ i + 1 = omega arith in
    drop-cons xs i x within ∙ ap (λ j. get_or xs i x ∷ drop j xs) next ∙ ap (λ y. y ∷ drop (i + 1) xs) (sym is)

pub slots_turn : (ls : List LocalInfo) (ss : List Slot) (i : ℕ) (l : LocalInfo) (s : Slot) (words before after all : List ℕ) →
    i < length ls → i < length ss → l ≡ get_or ls i l → s ≡ get_or ss i s → words ≡ slot_words s s.kind →
    before ++ slot_lines (drop i ls) (drop i ss) ≡ all → after ≡ before ++ (words ++ l.name ++ codes "\n") →
    after ++ slot_lines (drop (i + 1) ls) (drop (i + 1) ss) ≡ all
slots_turn ls ss i l s words before after all first second is1 is2 said passed turn =
    let rest = slot_lines (drop (i + 1) ls) (drop (i + 1) ss) in
    ap (λ t. t ++ rest) turn
    ∙ ap (λ w. before ++ (w ++ l.name ++ codes "\n") ++ rest) said
    ∙ append_assoc before (slot_line l s) rest
    ∙ ap (λ xs. before ++ slot_lines xs (s ∷ drop (i + 1) ss)) (sym (drop-here ls i l first is1))
    ∙ ap (λ ys. before ++ slot_lines (drop i ls) ys) (sym (drop-here ss i s second is2))
    ∙ passed

-- ---- the loop over functions

take-here : {A : Type 0} (xs : List A) (i : ℕ) (x : A) → i < length xs → x ≡ get_or xs i x → take (i + 1) xs ≡ take i xs ++ x ∷ []
take-here xs i x within is =
    let next : i + 1 ≡ suc i = omega arith in
    ap (λ j. take j xs) next ∙ take-suc xs i x within ∙ ap (λ y. take i xs ++ y ∷ []) (sym is)

lines_turn : {A : Type 0} (f : A → List ℕ) (xs : List A) (i : ℕ) (x : A) (before after : List ℕ) → i < length xs → x ≡ get_or xs i x →
    before ≡ flat_map f (take i xs) → after ≡ before ++ f x → after ≡ flat_map f (take (i + 1) xs)
lines_turn f xs i x before after within is passed turn =
    turn ∙ ap (λ b. b ++ f x) passed ∙ flat_map_more f [] (take i xs) x ∙ ap (flat_map f) (sym (take-here xs i x within is))

module _ (structs : List StructInfo) (functions : List TFunction) (i : ℕ) (f : TFunction) (within : i < length functions)
    (is : f ≡ get_or functions i f) where
  -- each parameter and local of the function has a slot
  pub slots_there : (given : Frame) → IsLaid given (frame structs f) → length given.slots ≡ length f.locals
  slots_there given laid = ap (λ (x : Frame). length x.slots) laid.same ∙ slots-of_all structs f

  pub fit_turn : (given : Frame) → IsLaid given (frame structs f) → All (Fits structs) (take i functions) →
      All (Fits structs) (take (i + 1) functions)
  fit_turn given laid fit = All-more (Fits structs) functions i f within fit (subst (Fits structs) is laid.small)

  pub text_turn : (given : Frame) (before after : List ℕ) → IsLaid given (frame structs f) →
      before ≡ flat_map (lines_of structs) (take i functions) → after ≡ before ++ function_lines f given →
      after ≡ flat_map (lines_of structs) (take (i + 1) functions)
  text_turn given before after laid passed turn =
      lines_turn (lines_of structs) functions i f before after within is passed
      (turn ∙ ap (λ x. before ++ function_lines f x) laid.same)

  pub size_turn : (given : Frame) (before after : List ℕ) → IsLaid given (frame structs f) →
      before ≡ map (frame_bytes structs) (take i functions) → after ≡ before ++ given.bytes ∷ [] →
      after ≡ map (frame_bytes structs) (take (i + 1) functions)
  size_turn given before after laid passed turn =
      turn ∙ ap (λ (x : Frame). before ++ x.bytes ∷ []) laid.same
      ∙ ap (λ sizes. sizes ++ frame_bytes structs f ∷ []) passed
      ∙ sym (map-append (frame_bytes structs) (take i functions) (f ∷ []))
      ∙ ap (map (frame_bytes structs)) (sym (take-here functions i f within is))

  -- the first whose frame is too large
  pub first_refused : (fault : PlanRefusal) → All (Fits structs) (take i functions) →
      (fault ≡ NoMemory) ⊎ IsLargeRefusal structs f fault → (fault ≡ NoMemory) ⊎ AreRefused structs functions fault
  first_refused fault fit (inl wanting) = inl wanting
  first_refused fault fit (inr too) = inr (record {
    function = f;
    first = record {
      number = i;
      there = slice_get-get_or functions i f within ∙ ap Some (sym is);
      large = too.large;
      before = fit;
    };
    is = too.is;
  })
