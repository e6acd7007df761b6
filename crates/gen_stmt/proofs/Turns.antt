-- A turn of the loop over the parts of a block.
use Rattle.std.proofs.Common.{◌≡◌, ap, sym, ◌∙◌, subst, ℕ, suc, ◌+◌, ◌<◌, ◌≤◌, max, List, ◌∷◌, ◌++◌, length, drop, get_or, map, sum, arith}
use Rattle.std.proofs.Common.{drop-cons}
use Rattle.std.proofs.lemmas.Grind.{common_steps}
use Rattle.std.proofs.lemmas.List.Sums.{sum-map, get_or-le-sum_by}
use Rattle.sym_code.specs.declared.item.SymItem.{SymItem}
use Rattle.frame_layout.specs.StatementNeeds.{most}
use Rattle.gen_stmt.specs.Loops.{Around}
use Rattle.gen_stmt.specs.Statements.{ItemCode, items}

drop-here : {A : Type 0} (xs : List A) (i : ℕ) (x : A) → i < length xs → x ≡ get_or xs i x → drop i xs ≡ x ∷ drop (i + 1) xs
drop-here xs i x within is =
    let next : suc i ≡ i + 1 = omega arith in
    drop-cons xs i x within ∙ ap (λ j. get_or xs i x ∷ drop j xs) next ∙ ap (λ y. y ∷ drop (i + 1) xs) (sym is)

most-split : (n m : ℕ) → max n m ≤ 32765 → (n ≤ 32765) × (m ≤ 32765)
most-split n m room = (omega (arith, room), omega (arith, room))

items_step : (around : Around) (i : ItemCode) (more : List ItemCode) (before after all : List SymItem) →
    before ++ items (i ∷ more) around (length before) ≡ all → after ≡ before ++ i.code around (length before) →
    after ++ items more around (length after) ≡ all
items_step around i more before after all passed here = grind (arith, common_steps)

module _ {A : Type 0} (xs : List A) (i : ℕ) (x : A) (within : i < length xs) (is : x ≡ get_or xs i x) where
  pub within_sum : (f : A → ℕ) → f x ≤ sum (map f xs)
  within_sum f =
      let here : f x ≡ f (get_or xs i x) = ap f is in
      omega (arith, here, get_or-le-sum_by f xs i x within, sum-map f xs)

  pub room : (need : A → ℕ) → most (map need (drop i xs)) ≤ 32765 → (need x ≤ 32765) × (most (map need (drop (i + 1) xs)) ≤ 32765)
  room need enough =
      most-split (need x) (most (map need (drop (i + 1) xs)))
      (subst (λ ys. most (map need ys) ≤ 32765) (drop-here xs i x within is) enough)

  pub items_turn : (code : A → ItemCode) (around : Around) (before after all : List SymItem) →
      before ++ items (map code (drop i xs)) around (length before) ≡ all → after ≡ before ++ (code x).code around (length before) →
      after ++ items (map code (drop (i + 1) xs)) around (length after) ≡ all
  items_turn code around before after all passed here =
      items_step around (code x) (map code (drop (i + 1) xs)) before after all
      (ap (λ ys. before ++ items (map code ys) around (length before)) (sym (drop-here xs i x within is)) ∙ passed) here
