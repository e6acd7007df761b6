-- A program has one text, or one refusal, and not both. Each parameter and local has its line.
use Rattle.std.proofs.Common.{◌≡◌, ◌⊎◌, ℕ, suc, ◌<◌, ◌≤◌, List, [], ◌∷◌, length, take, get_or, slice_get, Some, arith}
use Rattle.std.proofs.Common.{refl, sym, ap, ◌∙◌, subst, map, flat_map, min, inl, inr}
use Rattle.std.proofs.lemmas.Bool.{cases_lt, cases_order}
use Rattle.std.proofs.lemmas.List.Elements.{All-nil, All-cons, All-get_or}
use Rattle.std.proofs.lemmas.List.{get_or-take, length-take}
use Rattle.std.proofs.lemmas.Option.{get_or_from_slice_get, slice_get_within}
use Rattle.std.specs.Prelude.{All}
use Rattle.c_type_base.specs.declared.typed.StructInfo.{StructInfo}
use Rattle.c_type_base.specs.declared.typed.LocalInfo.{LocalInfo}
use Rattle.c_type_base.specs.declared.typed.TFunction.{TFunction}
use Rattle.c_type_base.specs.declared.typed.Typed.{Typed}
use Rattle.frame_layout.specs.declared.placed.Part.{Part}
use Rattle.frame_layout.specs.Frames.{frame, largest_frame, slots_from, safe_step, tagged_step, count_step}
use Rattle.frame_layout.specs.Frames.{first_safe, first_tagged}
use Rattle.frame_layout.specs.Parts.{parts, parts_from}
use Rattle.frame_layout.specs.StatementNeeds.{stmt_need}
use Rattle.frame_plan.specs.declared.refusal.PlanRefusal.{PlanRefusal}
use Rattle.frame_plan.specs.declared.refusal.PlanRefusal.TheVariants.{TooManyFunctions}
use Rattle.frame_plan.specs.Lines.{lines, lines_of}
use Rattle.frame_plan.specs.Refusal.{Fits, frame_bytes, HasText, HasSizes, IsFirstLarge, too_large, HasNoText, many, large, most_functions}

-- ---- each parameter and local has a slot

slots-length : (safe tagged count : ℕ) (ps : List Part) → length (slots_from safe tagged count ps) ≡ length ps
slots-length safe tagged count [] = refl
slots-length safe tagged count (p ∷ ps) =
    ap suc (slots-length (safe_step safe p p.kind) (tagged_step tagged p p.kind) (count_step count p.kind) ps)

parts-length : (structs : List StructInfo) (f : TFunction) (k : ℕ) (ls : List LocalInfo) → length (parts_from structs f k ls) ≡ length ls
parts-length structs f k [] = refl
parts-length structs f k (l ∷ ls) = ap suc (parts-length structs f (suc k) ls)

-- so each has its line
pub slots-of_all : (structs : List StructInfo) (f : TFunction) → length (frame structs f).slots ≡ length f.locals
slots-of_all structs f =
    slots-length (first_safe (stmt_need f.body)) (first_tagged (stmt_need f.body) (parts structs f)) 0 (parts structs f)
    ∙ parts-length structs f 0 f.locals

-- ---- one answer

-- a program has one text
pub one_text : (typed : Typed) (text other : List ℕ) → HasText typed text → HasText typed other → text ≡ other
one_text typed text other a b = a.is ∙ sym b.is

too_much : (n m : ℕ) → n ≤ m → m < n → ⊥
too_much n m within beyond = omega (arith, within, beyond)

-- a function that is there among those that all fit fits
fits_there : (structs : List StructInfo) (functions : List TFunction) (k : ℕ) (f : TFunction) → All (Fits structs) functions →
    slice_get functions k ≡ Some f → Fits structs f
fits_there structs functions k f fit there =
    subst (Fits structs) (get_or_from_slice_get functions k f f there)
    (All-get_or (Fits structs) functions k f (slice_get_within functions k f there) fit)

-- and so does one that stands before a place before which all fit
fits_before : (structs : List StructInfo) (functions : List TFunction) (k n : ℕ) (f : TFunction) →
    All (Fits structs) (take n functions) → k < n → slice_get functions k ≡ Some f → Fits structs f
fits_before structs functions k n f fit before there =
    let within : k < length functions = slice_get_within functions k f there in
    let long : length (take n functions) ≡ min n (length functions) = length-take n functions in
    let inside : k < length (take n functions) = omega (arith, before, within, long) in
    let same : get_or (take n functions) k f ≡ f =
    get_or-take n functions k f before ∙ get_or_from_slice_get functions k f f there in
    subst (Fits structs) same (All-get_or (Fits structs) (take n functions) k f inside fit)

-- a program has one list of sizes
pub one_sizes : (typed : Typed) (sizes other : List ℕ) → HasSizes typed sizes → HasSizes typed other → sizes ≡ other
one_sizes typed sizes other a b = a.is ∙ sym b.is

-- where it has one it has a text too
pub sized_text : (typed : Typed) (sizes : List ℕ) → HasSizes typed sizes → HasText typed (lines typed)
sized_text typed sizes has = record { few = has.few; fit = has.fit; is = refl }

-- a program that has a text has no refusal
pub no_fault : (typed : Typed) (text : List ℕ) (fault : PlanRefusal) → HasText typed text → HasNoText typed fault → ⊥
no_fault typed text fault has (many more) = too_much (length typed.functions) most_functions has.few more
no_fault typed text fault has (large f few first) =
    let fits : Fits typed.structs f = fits_there typed.structs typed.functions first.number f has.fit first.there in
    too_much (frame typed.structs f).bytes largest_frame fits first.large

module _ (structs : List StructInfo) (functions : List TFunction) where
  none_before : (f g : TFunction) (a : IsFirstLarge structs functions f) (b : IsFirstLarge structs functions g) → a.number < b.number → ⊥
  none_before f g a b before =
      let fits : Fits structs f = fits_before structs functions a.number b.number f b.before before a.there in
      too_much (frame structs f).bytes largest_frame fits a.large

  one_by : (f g : TFunction) (a : IsFirstLarge structs functions f) (b : IsFirstLarge structs functions g) →
      (a.number ≡ b.number) ⊎ ((a.number < b.number) ⊎ (b.number < a.number)) → f ≡ g
  one_by f g a b (inl same) =
      let both : Some f ≡ Some g = sym a.there ∙ ap (slice_get functions) same ∙ b.there in
      cc
  one_by f g a b (inr (inl before)) = absurd (none_before f g a b before)
  one_by f g a b (inr (inr before)) = absurd (none_before g f b a before)

  one_large : (f g : TFunction) → IsFirstLarge structs functions f → IsFirstLarge structs functions g → f ≡ g
  one_large f g a b = one_by f g a b (cases_order a.number b.number)

-- and a program has one refusal
pub one_fault : (typed : Typed) (fault other : PlanRefusal) → HasNoText typed fault → HasNoText typed other → fault ≡ other
one_fault typed fault other (many a) (many b) = refl
one_fault typed fault other (many a) (large f few first) = absurd (too_much (length typed.functions) most_functions few a)
one_fault typed fault other (large f few first) (many b) = absurd (too_much (length typed.functions) most_functions few b)
one_fault typed fault other (large f few a) (large g more b) =
    ap (too_large typed.structs) (one_large typed.structs typed.functions f g a b)

-- ---- some answer

all_or_first : (structs : List StructInfo) (functions : List TFunction) →
    All (Fits structs) functions ⊎ ((f : TFunction) × IsFirstLarge structs functions f)
all_or_first structs [] = inl (All-nil (Fits structs))
all_or_first structs (f ∷ fs) =
    begins_by (cases_lt largest_frame (frame structs f).bytes) (all_or_first structs fs)
  where
    begins_by : (largest_frame < (frame structs f).bytes) ⊎ ((frame structs f).bytes ≤ largest_frame) →
        All (Fits structs) fs ⊎ ((g : TFunction) × IsFirstLarge structs fs g) →
        All (Fits structs) (f ∷ fs) ⊎ ((g : TFunction) × IsFirstLarge structs (f ∷ fs) g)
    begins_by (inl more) rest = inr (f, record { number = 0; there = refl; large = more; before = All-nil (Fits structs) })
    begins_by (inr fits) (inl all) = inl (All-cons (Fits structs) f fs fits all)
    begins_by (inr fits) (inr (g, first)) = inr (
      g,
      record {
        number = suc first.number;
        there = first.there;
        large = first.large;
        before = All-cons (Fits structs) f (take first.number fs) fits first.before;
      },
    )

few_by : (typed : Typed) → length typed.functions ≤ most_functions →
    All (Fits typed.structs) typed.functions ⊎ ((f : TFunction) × IsFirstLarge typed.structs typed.functions f) →
    HasText typed (lines typed) ⊎ ((fault : PlanRefusal) × HasNoText typed fault)
few_by typed few (inl all) = inl (record { few = few; fit = all; is = refl })
few_by typed few (inr (f, first)) = inr (too_large typed.structs f, large f few first)

count_by : (typed : Typed) → (most_functions < length typed.functions) ⊎ (length typed.functions ≤ most_functions) →
    HasText typed (lines typed) ⊎ ((fault : PlanRefusal) × HasNoText typed fault)
count_by typed (inl more) = inr (TooManyFunctions (length typed.functions), many more)
count_by typed (inr few) = few_by typed few (all_or_first typed.structs typed.functions)

-- a program has a text or a refusal
pub one_or_other : (typed : Typed) → HasText typed (lines typed) ⊎ ((fault : PlanRefusal) × HasNoText typed fault)
one_or_other typed = count_by typed (cases_lt most_functions (length typed.functions))

-- ---- some functions

-- the frame of a function is too large, and is refused so
pub record IsLargeRefusal (structs : List StructInfo) (f : TFunction) (fault : PlanRefusal) : Type 0 where
  pub large : largest_frame < (frame structs f).bytes
  pub is : fault ≡ too_large structs f

-- they all fit, and these are their lines
pub record ArePlanned (structs : List StructInfo) (functions : List TFunction) (text : List ℕ) : Type 0 where
  pub fit : All (Fits structs) functions
  pub is : text ≡ flat_map (lines_of structs) functions

-- they all fit, and these are their bytes
pub record AreMeasured (structs : List StructInfo) (functions : List TFunction) (sizes : List ℕ) : Type 0 where
  pub fit : All (Fits structs) functions
  pub is : sizes ≡ map (frame_bytes structs) functions

-- the first whose frame does not fit is refused so
pub record AreRefused (structs : List StructInfo) (functions : List TFunction) (fault : PlanRefusal) : Type 0 where
  pub function : TFunction
  pub first : IsFirstLarge structs functions function
  pub is : fault ≡ too_large structs function
