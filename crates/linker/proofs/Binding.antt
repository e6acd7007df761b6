-- Searches over the symbols of all objects, object by object.
use Rattle.std.proofs.Common.{◌≡◌, ℕ, suc, ◌+◌, ◌<◌, ◌≤◌, Bool, true, false, ◌&&◌, ◌||◌, nat_lt, List, [], ◌∷◌, ◌++◌, length, take, drop}
use Rattle.std.proofs.Common.{find, cond, Option, Some, None, get_or, refl, sym, ap, ◌∙◌, arith, append_assoc}
use Rattle.std.specs.List.{list_any}
use Rattle.std.specs.Option.{option_map, option_or}
use Rattle.std.proofs.lemmas.Bool.{true≢false, lt-ltb, le-ltb}
use Rattle.std.proofs.lemmas.List.{take_more, take-append-drop, append-nil, length-map, get_or-map, drop_all, take_all}
use Rattle.std.proofs.lemmas.Option.{none-some, same_Some}
use Rattle.std.proofs.lemmas.List.Folds.{find-append, list_any-append}
use Rattle.elf_obj.specs.declared.parts.Symbol.{Symbol}
use Rattle.elf_obj.specs.declared.parts.ObjectParts.{ObjectParts}
use Rattle.elf_obj.specs.Object.{Object, object_of}
use Rattle.linker.specs.Names.{NumberedSymbol, numbered, numbered_from, all_numbered_from, all_numbered, is_global, defines}
use Rattle.linker.specs.LinkFault.{is_repeated, first_repeated}
use Rattle.linker.specs.Known.{objects_of, is_known}
use Rattle.linker.proofs.Knowing.{length-took, left_is}

-- ---- symbols object by object

pub all_numbered-append : (k : ℕ) (xs ys : List Object)
    → all_numbered_from k (xs ++ ys) ≡ all_numbered_from k xs ++ all_numbered_from (k + length xs) ys
all_numbered-append k [] ys = let e : k ≡ k + 0 = omega arith in ap (λ (m : ℕ). all_numbered_from m ys) e
all_numbered-append k (x ∷ xs) ys =
    let e : (k + 1) + length xs ≡ k + suc (length xs) = omega arith in
    ap (λ (l : List NumberedSymbol). numbered_from k 0 x.symbols ++ l)
    (all_numbered-append (k + 1) xs ys ∙ ap (λ (m : ℕ). all_numbered_from (k + 1) xs ++ all_numbered_from m ys) e)
    ∙ sym (append_assoc (numbered_from k 0 x.symbols) (all_numbered_from (k + 1) xs) (all_numbered_from (k + suc (length xs)) ys))

-- a test of symbols over the numbered ones
pub any_numbered : (p : Symbol → Bool) (k n : ℕ) (ss : List Symbol) → list_any (λ e. p e.symbol) (numbered_from k n ss) ≡ list_any p ss
any_numbered p k n [] = refl
any_numbered p k n (s ∷ ss) = ap (λ (b : Bool). p s || b) (any_numbered p k (n + 1) ss)

pub find_numbered : (q : NumberedSymbol → Bool) (p : Symbol → Bool) (k n : ℕ) (ss : List Symbol)
    → ((m : ℕ) (s : Symbol) → q (numbered k m s) ≡ p s)
    → option_map (λ e. e.symbol) (find q (numbered_from k n ss)) ≡ find p ss
find_numbered q p k n [] h = refl
find_numbered q p k n (s ∷ ss) h = by_test (q (numbered k n s)) (p s) (h n s) (find_numbered q p k (n + 1) ss h)
  where
    by_test : (b c : Bool) → b ≡ c → option_map (λ e. e.symbol) (find q (numbered_from k (n + 1) ss)) ≡ find p ss
        → option_map (λ e. e.symbol) (cond b (Some (numbered k n s)) (find q (numbered_from k (n + 1) ss))) ≡ cond c (Some s) (find p ss)
    by_test true true e g = refl
    by_test true false e g = absurd (true≢false e)
    by_test false true e g = absurd (true≢false (sym e))
    by_test false false e g = g

-- ---- names that are there already

-- symbols of objects from a number on are in none before it
none_earlier : (name : List ℕ) (k at n : ℕ) (ss : List Symbol) → k ≤ at
    → list_any (λ d. nat_lt d.object k && defines name d) (numbered_from at n ss) ≡ false
none_earlier name k at n [] h = refl
none_earlier name k at n (s ∷ ss) h = rw (le-ltb at k h) (none_earlier name k at (n + 1) ss h)

none_earlier_all : (name : List ℕ) (k at : ℕ) (os : List Object) → k ≤ at
    → list_any (λ d. nat_lt d.object k && defines name d) (all_numbered_from at os) ≡ false
none_earlier_all name k at [] h = refl
none_earlier_all name k at (o ∷ os) h =
    list_any-append (λ d. nat_lt d.object k && defines name d) (numbered_from at 0 o.symbols) (all_numbered_from (at + 1) os)
    ∙ rw (none_earlier name k at 0 o.symbols h) (none_earlier_all name k (at + 1) os (omega arith))

-- and those of objects before a number are all before it
all_earlier : (name : List ℕ) (k at n : ℕ) (ss : List Symbol) → at < k
    → list_any (λ d. nat_lt d.object k && defines name d) (numbered_from at n ss) ≡ list_any (defines name) (numbered_from at n ss)
all_earlier name k at n [] h = refl
all_earlier name k at n (s ∷ ss) h = rw (lt-ltb at k h) (ap (λ (b : Bool). defines name (numbered at n s) || b)
    (all_earlier name k at (n + 1) ss h))

all_earlier_all : (name : List ℕ) (k at : ℕ) (os : List Object) → at + length os ≤ k
    → list_any (λ d. nat_lt d.object k && defines name d) (all_numbered_from at os) ≡ list_any (defines name) (all_numbered_from at os)
all_earlier_all name k at [] h = refl
all_earlier_all name k at (o ∷ os) h =
    list_any-append (λ d. nat_lt d.object k && defines name d) (numbered_from at 0 o.symbols) (all_numbered_from (at + 1) os)
    ∙ (λ i. all_earlier name k at 0 o.symbols (omega arith) i || all_earlier_all name k (at + 1) os (omega arith) i)
    ∙ sym (list_any-append (defines name) (numbered_from at 0 o.symbols) (all_numbered_from (at + 1) os))

-- the symbols of the first objects and of the others
pub all_numbered_cut : (os : List Object) (k : ℕ) → k ≤ length os
    → all_numbered os ≡ all_numbered (take k os) ++ all_numbered_from k (drop k os)
all_numbered_cut os k h =
    ap all_numbered (sym (take-append-drop k os)) ∙ all_numbered-append 0 (take k os) (drop k os)
    ∙ ap (λ (m : ℕ). all_numbered (take k os) ++ all_numbered_from m (drop k os)) (omega (arith, length-took os k h))

-- with one object more
pub all_numbered_more : (os : List Object) (k : ℕ) (o : Object) → k < length os → o ≡ get_or os k o
    → all_numbered (take (k + 1) os) ≡ all_numbered (take k os) ++ numbered_from k 0 o.symbols
all_numbered_more os k o h is =
    ap all_numbered (take_more os k o h ∙ ap (λ (t : Object). take k os ++ t ∷ []) (sym is)) ∙ all_numbered-append 0 (take k os) (o ∷ [])
    ∙ ap (λ (m : ℕ). all_numbered (take k os) ++ (numbered_from m 0 o.symbols ++ [])) (omega (arith, length-took os k (omega arith)))
    ∙ ap (λ (l : List NumberedSymbol). all_numbered (take k os) ++ l) (append-nil (numbered_from k 0 o.symbols))

or_none : (b : Bool) → (b || false) ≡ b
or_none true = refl
or_none false = refl

-- a symbol of an object repeats a name exactly where an earlier object has it
pub repeated_is : (os : List Object) (k n : ℕ) (s : Symbol) → k ≤ length os
    → is_repeated (all_numbered os) (numbered k n s) ≡ is_known (all_numbered (take k os)) s
repeated_is os k n s h =
    let test : NumberedSymbol → Bool = λ d. nat_lt d.object k && defines s.name d in
    let all : list_any test (all_numbered os) ≡ list_any (defines s.name) (all_numbered (take k os)) =
    ap (list_any test) (all_numbered_cut os k h) ∙ list_any-append test (all_numbered (take k os)) (all_numbered_from k (drop k os))
    ∙ ap (λ (b : Bool). list_any test (all_numbered (take k os)) || b) (none_earlier_all s.name k k (drop k os) (omega arith))
    ∙ or_none (list_any test (all_numbered (take k os)))
    ∙ all_earlier_all s.name k 0 (take k os) (omega (arith, length-took os k h)) in
    ap (λ (b : Bool). is_global s && b) all

-- ---- the first name that is repeated

none-map : {A B : Type 0} (f : A → B) (o : Option A) → option_map f o ≡ None → o ≡ None
none-map f None e = refl
none-map f (Some x) e = absurd (none-some (f x) (sym e))

-- what a search that gives a symbol finds
pub record FindsSymbol (found : Option NumberedSymbol) (s : Symbol) : Type 0 where
  pub entry : NumberedSymbol
  pub is : found ≡ Some entry
  pub symbol : entry.symbol ≡ s

pub finds_symbol : (o : Option NumberedSymbol) (s : Symbol) → option_map (λ e. e.symbol) o ≡ Some s → FindsSymbol o s
finds_symbol None s e = absurd (none-some s e)
finds_symbol (Some x) s e = record { entry = x; is = refl; symbol = same_Some x.symbol s e }

object_repeats : (os : List Object) (k : ℕ) (o : Object) → k ≤ length os
    → option_map (λ e. e.symbol) (find (is_repeated (all_numbered os)) (numbered_from k 0 o.symbols)) ≡ find
    (is_known (all_numbered (take k os))) o.symbols
object_repeats os k o h =
    find_numbered (is_repeated (all_numbered os)) (is_known (all_numbered (take k os))) k 0 o.symbols (λ m s. repeated_is os k m s h)

-- an object that repeats none
pub none_repeated : (os : List Object) (k : ℕ) (o : Object) → k < length os → o ≡ get_or os k o
    → find (is_known (all_numbered (take k os))) o.symbols ≡ None → find (is_repeated (all_numbered os)) (all_numbered (take k os)) ≡ None
    → find (is_repeated (all_numbered os)) (all_numbered (take (k + 1) os)) ≡ None
none_repeated os k o h is none before =
    let p = is_repeated (all_numbered os) in
    let here : find p (numbered_from k 0 o.symbols) ≡ None = none-map (λ e. e.symbol) _ (object_repeats os k o (omega arith) ∙ none) in
    ap (find p) (all_numbered_more os k o h is) ∙ find-append p (all_numbered (take k os)) (numbered_from k 0 o.symbols)
    ∙ (λ i. option_or (before i) (here i))

-- one that repeats a name first
pub some_repeated : (os : List Object) (k : ℕ) (o : Object) (s : Symbol) → k < length os → o ≡ get_or os k o
    → find (is_known (all_numbered (take k os))) o.symbols ≡ Some s → find (is_repeated (all_numbered os)) (all_numbered (take k os)) ≡ None
    → FindsSymbol (first_repeated os) s
some_repeated os k o s h is some before =
    let p : NumberedSymbol → Bool = is_repeated (all_numbered os) in
    let found : FindsSymbol (find p (numbered_from k 0 o.symbols)) s = finds_symbol _ s (object_repeats os k o (omega arith) ∙ some) in
    let rest : List NumberedSymbol = all_numbered_from (k + 1) (drop (k + 1) os) in
    let all : all_numbered os ≡ all_numbered (take k os) ++ (numbered_from k 0 o.symbols ++ rest) =
    all_numbered_cut os k (omega arith)
    ∙ ap (λ (l : List Object). all_numbered (take k os) ++ all_numbered_from k l) (left_is os k o h is) in
    record {
      entry = found.entry;
      is = ap (find p) all ∙ find-append p (all_numbered (take k os)) (numbered_from k 0 o.symbols ++ rest)
          ∙ ap (λ (x : Option NumberedSymbol). option_or x (find p (numbered_from k 0 o.symbols ++ rest))) before
          ∙ find-append p (numbered_from k 0 o.symbols) rest ∙ ap (λ (x : Option NumberedSymbol). option_or x (find p rest)) found.is;
      symbol = found.symbol;
    }

-- ---- `main`

pub any_objects : (p : Symbol → Bool) (k : ℕ) (os : List Object)
    → list_any (λ (e : NumberedSymbol). p e.symbol) (all_numbered_from k os) ≡ list_any (λ (o : Object). list_any p o.symbols) os
any_objects p k [] = refl
any_objects p k (o ∷ os) =
    list_any-append (λ (e : NumberedSymbol). p e.symbol) (numbered_from k 0 o.symbols) (all_numbered_from (k + 1) os)
    ∙ (λ i. any_numbered p k 0 o.symbols i || any_objects p (k + 1) os i)

-- ---- the first name that is missing

-- the first symbol of objects that passes a test
abbrev pub find_in : (Symbol → Bool) → List Object → Option Symbol
find_in p [] = None
find_in p (o ∷ os) = option_or (find p o.symbols) (find_in p os)

map_or : {A B : Type 0} (f : A → B) (x y : Option A) → option_map f (option_or x y) ≡ option_or (option_map f x) (option_map f y)
map_or f None y = refl
map_or f (Some x) y = refl

pub find_objects : (p : Symbol → Bool) (k : ℕ) (os : List Object)
    → option_map (λ e. e.symbol) (find (λ (e : NumberedSymbol). p e.symbol) (all_numbered_from k os)) ≡ find_in p os
find_objects p k [] = refl
find_objects p k (o ∷ os) =
    let q : NumberedSymbol → Bool = λ e. p e.symbol in
    ap (option_map (λ e. e.symbol)) (find-append q (numbered_from k 0 o.symbols) (all_numbered_from (k + 1) os))
    ∙ map_or (λ e. e.symbol) (find q (numbered_from k 0 o.symbols)) (find q (all_numbered_from (k + 1) os))
    ∙ (λ i. option_or (find_numbered q p k 0 o.symbols (λ m s. refl) i) (find_objects p (k + 1) os i))

-- ---- the objects of parts

pub objects_at : (parts : List ObjectParts) (i : ℕ) (p : ObjectParts) → i < length parts → p ≡ get_or parts i p
    → object_of p ≡ get_or (objects_of parts) i (object_of p)
objects_at parts i p h is = ap object_of is ∙ sym (get_or-map object_of parts i p (object_of p) h)

pub objects_left : (parts : List ObjectParts) (i : ℕ) (p : ObjectParts) → i < length parts → p ≡ get_or parts i p
    → drop i (objects_of parts) ≡ object_of p ∷ drop (i + 1) (objects_of parts)
objects_left parts i p h is =
    left_is (objects_of parts) i (object_of p) (omega (arith, h, length-map parts object_of)) (objects_at parts i p h is)

-- none are left
pub none_left : (parts : List ObjectParts) (i : ℕ) → length parts ≤ i → drop i (objects_of parts) ≡ []
none_left parts i h = drop_all i (objects_of parts) (omega (arith, h, length-map parts object_of))

pub all_taken : (parts : List ObjectParts) (i : ℕ) → length parts ≤ i → take i (objects_of parts) ≡ objects_of parts
all_taken parts i h = take_all i (objects_of parts) (omega (arith, h, length-map parts object_of))

-- ---- a search that goes on, or ends

pub any_here : {A : Type 0} (p : A → Bool) (xs rest : List A) (x : A) → xs ≡ x ∷ rest → p x ≡ true → list_any p xs ≡ true
any_here p xs rest x is h = ap (list_any p) is ∙ ap (λ (b : Bool). b || list_any p rest) h

pub any_later : {A : Type 0} (p : A → Bool) (xs rest : List A) (x : A) → xs ≡ x ∷ rest → p x ≡ false → list_any p rest ≡ list_any p xs
any_later p xs rest x is h = sym (ap (list_any p) is ∙ ap (λ (b : Bool). b || list_any p rest) h)

pub in_here : (p : Symbol → Bool) (os rest : List Object) (o : Object) (s : Symbol) → os ≡ o ∷ rest → find p o.symbols ≡ Some s
    → find_in p os ≡ Some s
in_here p os rest o s is h = ap (find_in p) is ∙ ap (λ (x : Option Symbol). option_or x (find_in p rest)) h

pub in_later : (p : Symbol → Bool) (os rest : List Object) (o : Object) → os ≡ o ∷ rest → find p o.symbols ≡ None
    → find_in p rest ≡ find_in p os
in_later p os rest o is h = sym (ap (find_in p) is ∙ ap (λ (x : Option Symbol). option_or x (find_in p rest)) h)
