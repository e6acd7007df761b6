-- Values at the numbers of their names are those of each name, in the order of the names.
use Rattle.std.proofs.Common.{◌≡◌, refl, sym, ◌∙◌, ap, ℕ, zero, suc, ◌+◌, ◌≤◌, Bool, true, false, ◌||◌, cond, List, [], ◌∷◌, ◌++◌}
use Rattle.std.proofs.Common.{map, flat_map, length, replicate, slice_set, find, Option, Some, None, arith, add-one}
use Rattle.std.specs.List.{list_any, position_from}
use Rattle.std.specs.Str.{bytes_eq}
use Rattle.std.proofs.lemmas.Slice.Eq.{bytes_eq-Decides}
use Rattle.c_types.specs.Files.{number_among}
use Rattle.c_types.specs.Ordered.{option_list, by_names}
use Rattle.c_types.specs.Placed.{put, placed}
use Rattle.c_types.specs.Tables.{IsDistinct}

abbrev Name : Type 0
Name = List ℕ

-- ---- one value

abbrev nothing : (A : Type 0) → Option A
nothing A = None

blank_is : (A : Type 0) (names : List Name) → replicate (length names) (nothing A) ≡ map (λ n. nothing A) names
blank_is A [] = refl
blank_is A (n ∷ ns) = ap (λ l. nothing A ∷ l) (blank_is A ns)

next : Option ℕ → Option ℕ
next None = None
next (Some n) = Some (suc n)

shift : (p : Name → Bool) (i : ℕ) (ns : List Name) → position_from p (i + 1) ns ≡ next (position_from p i ns)
unfolding next
shift p i [] = refl
shift p i (n ∷ ns) = chosen (p n) (shift p (i + 1) ns)
  where
    chosen : (b : Bool) → position_from p (i + 1 + 1) ns ≡ next (position_from p (i + 1) ns) →
        cond b (Some (i + 1)) (position_from p (i + 1 + 1) ns) ≡ next (cond b (Some i) (position_from p (i + 1) ns))
    chosen true rest = ap (λ m. Some m) (add-one i)
    chosen false rest = rest

put_next : {A : Type 0} (y : Option A) (ys : List (Option A)) (o : Option ℕ) (a : A) → put (y ∷ ys) (next o) a ≡ y ∷ put ys o a
unfolding next
put_next y ys None a = refl
put_next y ys (Some n) a = refl

or_first : (a b : Bool) → (a || b) ≡ false → a ≡ false
or_first true b is = is
or_first false b is = refl

or_second : (a b : Bool) → (a || b) ≡ false → b ≡ false
or_second true b is = absurd (cc)
or_second false b is = is

unchanged : {A : Type 0} (ns : List Name) (m : Name) (h : Name → Option A) (a : A) → list_any (bytes_eq m) ns ≡ false →
    map h ns ≡ map (λ n. cond (bytes_eq m n) (Some a) (h n)) ns
unchanged [] m h a none = refl
unchanged {A} (n ∷ ns) m h a none =
    let here : h n ≡ cond (bytes_eq m n) (Some a) (h n) =
    sym (ap (λ b. cond b (Some a) (h n)) (or_first (bytes_eq m n) (list_any (bytes_eq m) ns) none)) in
    let rest = unchanged ns m h a (or_second (bytes_eq m n) (list_any (bytes_eq m) ns) none) in
    λ i. here i ∷ rest i

put_map : {A : Type 0} (ns : List Name) (m : Name) (h : Name → Option A) (a : A) → IsDistinct ns →
    put (map h ns) (number_among ns m) a ≡ map (λ n. cond (bytes_eq m n) (Some a) (h n)) ns
put_map [] m h a distinct = refl
put_map {A} (n ∷ ns) m h a distinct = chosen (bytes_eq m n) refl (put_map ns m h a distinct.1)
  where
    chosen : (b : Bool) → bytes_eq m n ≡ b → put (map h ns) (number_among ns m) a ≡ map (λ n. cond (bytes_eq m n) (Some a) (h n)) ns →
        put (h n ∷ map h ns) (cond b (Some 0) (position_from (bytes_eq m) (0 + 1) ns)) a ≡
        cond b (Some a) (h n) ∷ map (λ n. cond (bytes_eq m n) (Some a) (h n)) ns
    chosen true same rest =
        ap (λ l. Some a ∷ l) (unchanged ns m h a (ap (λ x. list_any (bytes_eq x) ns) ((bytes_eq-Decides m n).0 same) ∙ distinct.0))
    chosen false other rest =
        ap (λ o. put (h n ∷ map h ns) o a) (shift (bytes_eq m) 0 ns) ∙ put_next (h n) (map h ns) (number_among ns m) a ∙
        ap (λ l. h n ∷ l) rest

-- ---- all

placed_is : {A : Type 0} (name_of : A → Name) (names : List Name) (all : List A) → IsDistinct names →
    placed name_of names (map (λ n. None) names) all ≡ map (λ n. find (λ a. bytes_eq (name_of a) n) all) names
placed_is name_of names [] distinct = refl
placed_is name_of names (a ∷ rest) distinct =
    ap (λ places. put places (number_among names (name_of a)) a) (placed_is name_of names rest distinct)
    ∙ put_map names (name_of a) (λ n. find (λ a. bytes_eq (name_of a) n) rest) a distinct

there_of : {A : Type 0} (names : List Name) (h : Name → Option A) → flat_map option_list (map h names) ≡
    flat_map (λ n. option_list (h n)) names
there_of [] h = refl
there_of (n ∷ ns) h = ap (λ l. option_list (h n) ++ l) (there_of ns h)

pub ordered_is : {A : Type 0} (name_of : A → Name) (names : List Name) (all : List A) (places : List (Option A)) (made : List A) →
    IsDistinct names → places ≡ placed name_of names (replicate (length names) None) all → made ≡ flat_map option_list places →
    made ≡ by_names name_of names all
ordered_is {A} name_of names all places made distinct placed_so made_so =
    made_so ∙ ap (flat_map option_list) (placed_so ∙ ap (λ l. placed name_of names l all) (blank_is A names) ∙
    placed_is name_of names all distinct)
    ∙ there_of names (λ n. find (λ a. bytes_eq (name_of a) n) all)

-- from the last on
pub placed_last : {A : Type 0} (name_of : A → Name) (names : List Name) (places : List (Option A)) (all : List A) (a : A) →
    placed name_of names places (all ++ a ∷ []) ≡ placed name_of names (put places (number_among names (name_of a)) a) all
placed_last name_of names places [] a = refl
placed_last name_of names places (x ∷ xs) a =
    ap (λ l. put l (number_among names (name_of x)) x) (placed_last name_of names places xs a)

pub put_outside : {A : Type 0} (places : List (Option A)) (n : ℕ) (a : A) → length places ≤ n → places ≡ slice_set places n (Some a)
put_outside [] n a out = refl
put_outside (x ∷ xs) zero a out = absurd (omega (arith, out))
put_outside (x ∷ xs) (suc n) a out = ap (λ l. x ∷ l) (put_outside xs n a (omega (arith, out)))
