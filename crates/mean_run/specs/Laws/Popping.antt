-- The last frame is taken from the stack.
use Rattle.std.proofs.Common.{◌≡◌, refl, sym, subst, ap, ◌∙◌, List, [], ◌∷◌, ◌++◌}
use Rattle.block_meaning.specs.Running.{Context}
use Rattle.mean_machine.specs.Frames as machine
use Rattle.mean_expressions.specs.declared.frames.Frame.{Frame}
use Rattle.mean_expressions.specs.Stacked.{World, FrameShown, Stacked}

-- ---- the last of a list, and those before it

abbrev last_of : {A : Type 0} → A → List A → A
last_of d [] = d
last_of d (x ∷ xs) = last_of x xs

last_is : {A : Type 0} (d : A) (xs : List A) (x : A) → last_of d (xs ++ x ∷ []) ≡ x
last_is d [] x = refl
last_is d (y ∷ xs) x = last_is y xs x

abbrev before_last : {A : Type 0} → A → List A → List A
before_last x [] = []
before_last x (y ∷ ys) = x ∷ before_last y ys

abbrev all_before : {A : Type 0} → List A → List A
all_before [] = []
all_before (x ∷ xs) = before_last x xs

before_is : {A : Type 0} (a : A) (xs : List A) (x : A) → before_last a (xs ++ x ∷ []) ≡ a ∷ xs
before_is a [] x = refl
before_is a (b ∷ xs) x = ap (λ l. a ∷ l) (before_is b xs x)

all_before_is : {A : Type 0} (xs : List A) (x : A) → all_before (xs ++ x ∷ []) ≡ xs
all_before_is [] x = refl
all_before_is (a ∷ xs) x = before_is a xs x

same_last : {A : Type 0} (xs ys : List A) (x y : A) → xs ++ x ∷ [] ≡ ys ++ y ∷ [] → x ≡ y
same_last xs ys x y same = sym (last_is x xs x) ∙ ap (last_of x) same ∙ last_is x ys y

same_before : {A : Type 0} (xs ys : List A) (x y : A) → xs ++ x ∷ [] ≡ ys ++ y ∷ [] → xs ≡ ys
same_before xs ys x y same = sym (all_before_is xs x) ∙ ap all_before same ∙ all_before_is ys y

abbrev IsNil : {A : Type 0} → List A → Type 0
IsNil [] = Unit {0}
IsNil (x ∷ xs) = ⊥

not_nil : {A : Type 0} (xs : List A) (x : A) → IsNil (xs ++ x ∷ []) → ⊥
not_nil [] x nil = nil
not_nil (y ∷ xs) x nil = nil

-- ---- frames

-- a frame that was on top, and those below it
pub record Popped (f : Frame) (rest : List Frame) (w : World) (here : Context) (k : List machine.Frame) : Type 0 where
  pub top : machine.Frame
  pub below : List machine.Frame
  pub is : k ≡ top ∷ below
  pub shown : FrameShown f w here top (Stacked below rest)

pub popped : (k : List machine.Frame) (frames rest : List Frame) (f : Frame) (w : World) (here : Context) → frames ≡ rest ++ f ∷ [] →
    Stacked k frames w here → Popped f rest w here k
popped [] frames rest f w here same stacked =
    absurd (not_nil rest f (subst IsNil same (subst IsNil (sym stacked) tt)))
popped (g ∷ k) frames rest f w here same stacked =
    let both = sym stacked.is ∙ same in
    record {
      top = g;
      below = k;
      is = refl;
      shown = subst (λ x. FrameShown f w here g (Stacked k x)) (same_before stacked.front rest stacked.top f both)
          (subst (λ x. FrameShown x w here g (Stacked k stacked.front)) (same_last stacked.front rest stacked.top f both) stacked.shown);
    }
