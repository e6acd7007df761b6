-- Conditions one after the other: which is the first that fails, and that none does exactly where each holds.
use Rattle.std.proofs.Common.{◌≡◌, Bool, true, false, List, [], ◌∷◌, ◌++◌, refl, ◌∙◌, Option, Some, None}
use Rattle.std.specs.Prelude.{if◌then◌else◌}
use Rattle.elf_base.specs.Conditions.{Condition, first_fault}

-- ---- one condition before others

pub holds_is : {R : Type 0} (b : Bool) (e : R) (rest : Option R) → b ≡ true → (if b then rest else Some e) ≡ rest
holds_is b e rest h = rw h refl

pub fails_is : {R : Type 0} (b : Bool) (e : R) (rest : Option R) → b ≡ false → (if b then rest else Some e) ≡ Some e
fails_is b e rest h = rw h refl

-- the first one holds, and none behind it fails
pub head_holds : {R : Type 0} (b : Bool) (e : R) (rest : Option R) → (if b then rest else Some e) ≡ None → (b ≡ true) × (rest ≡ None)
head_holds true e rest h = (refl, h)
head_holds false e rest h = cc

-- ---- each holds

abbrev pub EachHolds : {R : Type 0} → List (Condition R) → Type 0
EachHolds [] = Unit {0}
EachHolds (c ∷ cs) = (c.holds ≡ true) × EachHolds cs

pub each_holds : {R : Type 0} (cs : List (Condition R)) → first_fault cs ≡ None → EachHolds cs
each_holds [] h = tt
each_holds (c ∷ cs) h = let f = head_holds c.holds c.refusal (first_fault cs) h in (f.0, each_holds cs f.1)

pub none_fails : {R : Type 0} (cs : List (Condition R)) → EachHolds cs → first_fault cs ≡ None
none_fails [] h = refl
none_fails (c ∷ cs) h = holds_is c.holds c.refusal (first_fault cs) h.0 ∙ none_fails cs h.1

-- ---- some, and then others

pub holds_front : {R : Type 0} (cs ds : List (Condition R)) → EachHolds (cs ++ ds) → EachHolds cs
holds_front [] ds h = tt
holds_front (c ∷ cs) ds h = (h.0, holds_front cs ds h.1)

pub holds_back : {R : Type 0} (cs ds : List (Condition R)) → EachHolds (cs ++ ds) → EachHolds ds
holds_back [] ds h = h
holds_back (c ∷ cs) ds h = holds_back cs ds h.1

pub holds_append : {R : Type 0} (cs ds : List (Condition R)) → EachHolds cs → EachHolds ds → EachHolds (cs ++ ds)
holds_append [] ds h g = g
holds_append (c ∷ cs) ds h g = (h.0, holds_append cs ds h.1 g)

-- no condition fails in either list
pub split_none : {R : Type 0} (cs ds : List (Condition R)) → first_fault (cs ++ ds) ≡ None
    → (first_fault cs ≡ None) × (first_fault ds ≡ None)
split_none cs ds h =
    let all = each_holds (cs ++ ds) h in
    (none_fails cs (holds_front cs ds all), none_fails ds (holds_back cs ds all))

-- where no condition of the first fails, and where one does
pub first_passes : {R : Type 0} (cs ds : List (Condition R)) → first_fault cs ≡ None → first_fault (cs ++ ds) ≡ first_fault ds
first_passes [] ds h = refl
first_passes (c ∷ cs) ds h =
    let f = head_holds c.holds c.refusal (first_fault cs) h in
    holds_is c.holds c.refusal (first_fault (cs ++ ds)) f.0 ∙ first_passes cs ds f.1

stops : {R : Type 0} (b : Bool) (e f : R) (rest all : Option R) → (rest ≡ Some f → all ≡ Some f) → (if b then rest else Some e) ≡ Some f
    → (if b then all else Some e) ≡ Some f
stops true e f rest all g h = g h
stops false e f rest all g h = h

pub first_stops : {R : Type 0} (cs ds : List (Condition R)) (f : R) → first_fault cs ≡ Some f → first_fault (cs ++ ds) ≡ Some f
first_stops [] ds f h = cc
first_stops (c ∷ cs) ds f h = stops c.holds c.refusal f (first_fault cs) (first_fault (cs ++ ds)) (first_stops cs ds f) h
