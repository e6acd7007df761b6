-- Code is linked into one image, or refused for one reason: the link's checks in turn.
use Rattle.std.proofs.Common.{◌≡◌, ◌<◌, ◌≤◌, ℕ, List, [], ◌∷◌, length, refl, sym, ap, ◌∙◌, arith}
use Rattle.std.specs.Prelude.{codes}
use Rattle.elf_image.specs.Image.{Image}
use Rattle.mt_compile.specs.Laws.OneWay.{OneWay, GoesOn, Stops, at_first, behind, in_turn, Fails, check}
use Rattle.mt_pipeline.specs.Built.{Linked, RefusesLink, too_many, twice, no_main, image_with, most_objects}
use Rattle.linker.specs.declared.refusal.LinkRefusal.{LinkRefusal}
use Rattle.linker.specs.declared.refusal.LinkRefusal.TheVariants.{TooManyObjects, Duplicate, NoMain}

module _ (objects : List (List ℕ)) where
  -- they are not too many, then not several, and then there is one

  abbrev AreFew : Unit {0} → Type 0
  AreFew done = length objects ≤ most_objects

  abbrev AreMany : LinkRefusal → ℕ → Type 0
  AreMany = Fails (most_objects < length objects) (TooManyObjects (length objects)) 0

  abbrev AreNotSeveral : Unit {0} → Type 0
  AreNotSeveral done = length objects ≤ 1

  abbrev AreSeveral : LinkRefusal → ℕ → Type 0
  AreSeveral = Fails (1 < length objects) (Duplicate (codes "main")) 0

  abbrev AreNone : LinkRefusal → ℕ → Type 0
  AreNone = Fails (objects ≡ []) NoMain 0

  counting : OneWay AreFew AreMany
  counting = check (length objects ≤ most_objects) (most_objects < length objects) (TooManyObjects (length objects)) 0
      (λ few more. omega (arith, few, more))

  naming : OneWay AreNotSeveral AreSeveral
  naming = check (length objects ≤ 1) (1 < length objects) (Duplicate (codes "main")) 0 (λ few two. omega (arith, few, two))

  first_same : {x y : List ℕ} → x ∷ [] ≡ y ∷ [] → x ≡ y
  first_same e = cc

  one_image : (image other : Image) → Linked objects image → Linked objects other → image ≡ other
  one_image image other x y = x.is ∙ ap image_with (first_same (sym x.one ∙ y.one)) ∙ sym y.is

  none_linked : (image : Image) (r : LinkRefusal) (p : ℕ) → Linked objects image → AreNone r p → ⊥
  none_linked image r p linked none = let e : linked.words ∷ [] ≡ [] = sym linked.one ∙ none.bad in cc

  taking : OneWay (Linked objects) AreNone
  taking = record {
    gives_one = one_image;
    refuses_one = λ r s p q x y. (x.reason_is ∙ sym y.reason_is, x.place_is ∙ sym y.place_is);
    never_both = none_linked;
  }

  -- ---- the three in turn

  abbrev TakesOne : Unit {0} → Image → Type 0
  TakesOne done = GoesOn AreNotSeveral (λ _. Linked objects)

  abbrev TakesNone : Unit {0} → LinkRefusal → ℕ → Type 0
  TakesNone done = Stops AreNotSeveral AreSeveral (λ _. AreNone)

  abbrev pub LinkGives : Image → Type 0
  LinkGives = GoesOn AreFew TakesOne

  abbrev pub LinkStops : LinkRefusal → ℕ → Type 0
  LinkStops = Stops AreFew AreMany TakesNone

  -- A link goes one way.
  pub linking : OneWay LinkGives LinkStops
  linking = in_turn AreFew AreMany TakesOne TakesNone counting
      (λ _. in_turn AreNotSeveral AreSeveral (λ _. Linked objects) (λ _. AreNone) naming (λ _. taking))

  pub link_gives : {image : Image} → Linked objects image → LinkGives image
  link_gives linked =
      let one : length objects ≡ 1 = ap length linked.one in
      record { between = tt; first = omega (arith, one); second = record { between = tt; first = omega (arith, one); second = linked } }

  pub link_stops : {refusal : LinkRefusal} → RefusesLink objects refusal → LinkStops refusal 0
  link_stops (too_many more) = at_first (record { bad = more; reason_is = refl; place_is = refl })
  link_stops (twice two most) = behind tt most (at_first (record { bad = two; reason_is = refl; place_is = refl }))
  link_stops (no_main none) =
      let no : length objects ≡ 0 = ap length none in
      behind tt (omega (arith, no)) (behind tt (omega (arith, no)) (record { bad = none; reason_is = refl; place_is = refl }))
