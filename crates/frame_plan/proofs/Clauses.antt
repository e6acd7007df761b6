-- The clauses of `plan`, from what its text or its refusal is.
use Rattle.std.proofs.Common.{◌≡◌, ◌⊎◌, ◌<◌, ◌≤◌, ℕ, List, length, map, flat_map, Result, Ok, Err}
use Rattle.std.proofs.Common.{sym, ap, ◌∙◌, subst, inl, inr}
use Rattle.std.specs.Global.{Global, Vec}
use Rattle.std.specs.String.{string_bytes}
use Rattle.std.specs.Prelude.{IfOk, IfErr, MatchResult, String, All}
use Rattle.c_type_base.specs.declared.typed.StructInfo.{StructInfo}
use Rattle.c_type_base.specs.declared.typed.TFunction.{TFunction}
use Rattle.c_type_base.specs.declared.typed.Typed.{Typed}
use Rattle.frame_plan.specs.declared.refusal.PlanRefusal.{PlanRefusal}
use Rattle.frame_plan.specs.declared.refusal.PlanRefusal.TheVariants.{TooManyFunctions, NoMemory}
use Rattle.frame_plan.specs.Lines.{lines_of}
use Rattle.frame_plan.specs.Refusal.{Fits, frame_bytes, HasSizes, HasText, HasNoText, IsFirstLarge, too_large, many, large, most_functions}
use Rattle.frame_plan.specs.Laws.OneText.{one_text, one_fault, no_fault, ArePlanned, AreMeasured, AreRefused}

abbrev pub IsFound : Typed → Result (Vec ℕ) PlanRefusal → Type 0
IsFound typed result = IfOk result (λ t. HasText typed t.items)

abbrev pub IsSized : Typed → Result (Vec ℕ) PlanRefusal → Type 0
IsSized typed result = IfOk result (λ t. HasSizes typed t.items)

abbrev pub IsRefused : Typed → Result (Vec ℕ) PlanRefusal → Type 0
IsRefused typed result = IfErr result (λ e. (e ≡ NoMemory) ⊎ HasNoText typed e)

abbrev pub Only : Typed → Result (Vec ℕ) PlanRefusal → Type 0
Only typed result = (text : List ℕ) → HasText typed text → MatchResult result (λ t. t.items ≡ text) (λ e. e ≡ NoMemory)

abbrev pub Refuses : Typed → Result (Vec ℕ) PlanRefusal → Type 0
Refuses typed result =
    (fault : PlanRefusal) → HasNoText typed fault → MatchResult result (λ t. ⊥) (λ e. (e ≡ fault) ⊎ (e ≡ NoMemory))

pub only : (typed : Typed) (result : Result (Vec ℕ) PlanRefusal) → IsFound typed result → IsRefused typed result → Only typed result
only typed (Ok t) found refused = λ text h. one_text typed t.items text found h
only typed (Err e) found (inl none) = λ text h. none
only typed (Err e) found (inr fault) = λ text h. absurd (no_fault typed text e h fault)

pub refuses : (typed : Typed) (result : Result (Vec ℕ) PlanRefusal) → IsFound typed result → IsRefused typed result → Refuses typed result
refuses typed (Ok t) found refused = λ fault h. no_fault typed t.items fault found h
refuses typed (Err e) found (inl none) = λ fault h. inr none
refuses typed (Err e) found (inr first) = λ fault h. inl (one_fault typed e fault first h)

-- ---- from the functions to the program

-- too many functions
pub too_many : (typed : Typed) (fs : List TFunction) → fs ≡ typed.functions → most_functions < length fs →
    (TooManyFunctions (length fs) ≡ NoMemory) ⊎ HasNoText typed (TooManyFunctions (length fs))
too_many typed fs is more =
    inr (subst (λ n. HasNoText typed (TooManyFunctions n)) (sym (ap length is))
    (many (subst (λ n. most_functions < n) (ap length is) more)))

module _ (typed : Typed) (ss : List StructInfo) (fs : List TFunction) (structs : ss ≡ typed.structs) (functions : fs ≡ typed.functions)
    (few : length fs ≤ most_functions) where
  few_are : length typed.functions ≤ most_functions
  few_are = subst (λ n. n ≤ most_functions) (ap length functions) few

  pub planned : (result : Result (Vec ℕ) PlanRefusal) → IfOk result (λ t. ArePlanned ss fs t.items) → IsFound typed result
  planned (Ok t) found = record {
    few = few_are;
    fit = subst (λ gs. All (Fits typed.structs) gs) functions (subst (λ s. All (Fits s) fs) structs found.fit);
    is = found.is ∙ ap (λ s. flat_map (lines_of s) fs) structs ∙ ap (flat_map (lines_of typed.structs)) functions;
  }
  planned (Err e) found = found

  pub measured : (result : Result (Vec ℕ) PlanRefusal) → IfOk result (λ t. AreMeasured ss fs t.items) → IsSized typed result
  measured (Ok t) found = record {
    few = few_are;
    fit = subst (λ gs. All (Fits typed.structs) gs) functions (subst (λ s. All (Fits s) fs) structs found.fit);
    is = found.is ∙ ap (λ s. map (frame_bytes s) fs) structs ∙ ap (map (frame_bytes typed.structs)) functions;
  }
  measured (Err e) found = found

  first_there : (f : TFunction) → IsFirstLarge ss fs f → IsFirstLarge typed.structs typed.functions f
  first_there f first =
      subst (λ gs. IsFirstLarge typed.structs gs f) functions (subst (λ s. IsFirstLarge s fs f) structs first)

  pub refused : (result : Result (Vec ℕ) PlanRefusal) → IfErr result (λ e. (e ≡ NoMemory) ⊎ AreRefused ss fs e) → IsRefused typed result
  refused (Ok t) found = found
  refused (Err e) (inl none) = inl none
  refused (Err e) (inr found) =
      let is : e ≡ too_large typed.structs found.function = found.is ∙ ap (λ s. too_large s found.function) structs in
      inr (subst (HasNoText typed) (sym is) (large found.function few_are (first_there found.function found.first)))

-- ---- a text that is spelled otherwise

pub spelled : {E : Type 0} (r : Result (String Global) E) (xs ys : List ℕ) → IfOk r (λ s. string_bytes s ≡ xs) → xs ≡ ys →
    IfOk r (λ s. string_bytes s ≡ ys)
spelled r xs ys h same = subst (λ (l : List ℕ). IfOk r (λ s. string_bytes s ≡ l)) same h
