-- A turn of the loops over the arguments of a call.
use Rattle.std.proofs.Common.{◌≡◌, ap, sym, ◌∙◌, ℕ, suc, ◌+◌, ◌-◌, ◌<◌, ◌≤◌}
use Rattle.std.proofs.Common.{List, ◌∷◌, ◌++◌, length, drop, get_or, map, sum, arith, drop-cons}
use Rattle.std.proofs.Common.{append_assoc, subst}
use Rattle.std.proofs.lemmas.Grind.{common_steps}
use Rattle.std.proofs.lemmas.List.{map-append}
use Rattle.std.proofs.lemmas.List.Sums.{sum-map, get_or-le-sum_by}
use Rattle.a64_code.specs.declared.instr.Reg.{Reg}
use Rattle.frame_layout.specs.Needs.{arguments_from, capped_sum}
use Rattle.sym_code.specs.declared.item.SymItem.{SymItem}
use Rattle.sym_code.specs.declared.item.SymItem.TheVariants as item
use Rattle.gen_base.specs.Registers.{argument}
use Rattle.gen_base.specs.Waiting.{keep, fetch}
use Rattle.gen_expr.specs.Coded.{Coded}
use Rattle.gen_expr.specs.Laws.ArgumentLaws.{fetches}
use Rattle.gen_expr.specs.Nodes.{keep_arguments}

drop-here : {A : Type 0} (xs : List A) (i : ℕ) (x : A) → i < length xs → x ≡ get_or xs i x → drop i xs ≡ x ∷ drop (i + 1) xs
drop-here xs i x within is =
    let next : suc i ≡ i + 1 = omega arith in
    drop-cons xs i x within ∙ ap (λ j. get_or xs i x ∷ drop j xs) next ∙ ap (λ y. y ∷ drop (i + 1) xs) (sym is)

-- ---- what one argument takes

pub within_sum : {A : Type 0} (f : A → ℕ) (xs : List A) (i : ℕ) (x : A) → i < length xs → x ≡ get_or xs i x → f x ≤ sum (map f xs)
within_sum f xs i x within is =
    let here : f x ≡ f (get_or xs i x) = ap f is in
    omega (arith, here, get_or-le-sum_by f xs i x within, sum-map f xs)

room_step : (waits a : ℕ) (more : List ℕ) (temp : ℕ) → temp + arguments_from waits (a ∷ more) ≤ 32765 → temp + waits + a ≤ 32765
room_step waits a more temp room = omega (arith, room)

rest_step : (waits a : ℕ) (more : List ℕ) (temp : ℕ) → temp + arguments_from waits (a ∷ more) ≤ 32765 → waits < 32766 →
    temp + arguments_from (waits + 1) more ≤ 32765
rest_step waits a more temp room few =
    let next : capped_sum waits 1 ≡ waits + 1 = omega (arith, few) in
    let rest : temp + arguments_from (capped_sum waits 1) more ≤ 32765 = omega (arith, room) in
    subst (λ n. temp + arguments_from n more ≤ 32765) next rest

module _ {A : Type 0} (f : A → ℕ) (xs : List A) (i : ℕ) (x : A) (within : i < length xs) (is : x ≡ get_or xs i x) (temp : ℕ)
    (room : temp + arguments_from i (map f (drop i xs)) ≤ 32765) where
  here : temp + arguments_from i (f x ∷ map f (drop (i + 1) xs)) ≤ 32765
  here = subst (λ ys. temp + arguments_from i (map f ys) ≤ 32765) (drop-here xs i x within is) room

  pub room_here : temp + i + f x ≤ 32765
  room_here = room_step i (f x) (map f (drop (i + 1) xs)) temp here

  pub room_left : temp + arguments_from (i + 1) (map f (drop (i + 1) xs)) ≤ 32765
  room_left = rest_step i (f x) (map f (drop (i + 1) xs)) temp here (omega (arith, room_here))

-- ---- the code of one argument

keep_step : (t : ℕ) (r : Reg) (e : Coded) (more : List Coded) (before mid after all : List SymItem) →
    before ++ keep_arguments t r (e ∷ more) (length before) ≡ all → mid ≡ before ++ e.value t r (length before) →
    after ≡ mid ++ map item.Plain (keep t r) → after ++ keep_arguments (suc t) r more (length after) ≡ all
keep_step t r e more before mid after all passed valued kept = grind (arith, common_steps)

pub keep_turn : {A : Type 0} (code : A → Coded) (xs : List A) (i : ℕ) (x : A) (t : ℕ) (r : Reg) (before mid after all : List SymItem) →
    i < length xs → x ≡ get_or xs i x →
    before ++ keep_arguments t r (map code (drop i xs)) (length before) ≡ all → mid ≡ before ++ (code x).value t r (length before) →
    after ≡ mid ++ map item.Plain (keep t r) → after ++ keep_arguments (t + 1) r (map code (drop (i + 1) xs)) (length after) ≡ all
keep_turn code xs i x t r before mid after all within is passed valued kept =
    let next : t + 1 ≡ suc t = omega arith in
    ap (λ n. after ++ keep_arguments n r (map code (drop (i + 1) xs)) (length after)) next
    ∙ keep_step t r (code x) (map code (drop (i + 1) xs)) before mid after all
    (ap (λ ys. before ++ keep_arguments t r (map code ys) (length before)) (sym (drop-here xs i x within is)) ∙ passed) valued kept

-- ---- arguments into their registers

fetches-more : (t k n : ℕ) → k < n →
    fetches (t + k) k (n - k) ≡ fetch (t + k) (argument k) ++ fetches (t + (k + 1)) (k + 1) (n - (k + 1))
fetches-more t k n less =
    let left : n - k ≡ suc (n - (k + 1)) = omega (arith, less) in
    let next : suc k ≡ k + 1 = omega arith in
    let higher : suc (t + k) ≡ t + (k + 1) = omega arith in
    ap (fetches (t + k) k) left
    ∙ ap (λ j. fetch (t + k) (argument k) ++ fetches (suc (t + k)) j (n - (k + 1))) next
    ∙ ap (λ u. fetch (t + k) (argument k) ++ fetches u (k + 1) (n - (k + 1))) higher

pub fetches_turn : (t k n : ℕ) (before after all : List SymItem) → k < n →
    before ++ map item.Plain (fetches (t + k) k (n - k)) ≡ all → after ≡ before ++ map item.Plain (fetch (t + k) (argument k)) →
    after ++ map item.Plain (fetches (t + (k + 1)) (k + 1) (n - (k + 1))) ≡ all
fetches_turn t k n before after all less passed turn =
    let more = fetches (t + (k + 1)) (k + 1) (n - (k + 1)) in
    ap (λ is. is ++ map item.Plain more) turn
    ∙ append_assoc before (map item.Plain (fetch (t + k) (argument k))) (map item.Plain more)
    ∙ ap (λ is. before ++ is) (sym (map-append item.Plain (fetch (t + k) (argument k)) more))
    ∙ ap (λ is. before ++ map item.Plain is) (sym (fetches-more t k n less))
    ∙ passed
