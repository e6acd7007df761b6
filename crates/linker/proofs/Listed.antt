-- What a symbol of all objects is, by its numbers.
use Rattle.std.proofs.Common.{◌≡◌, ℕ, pos, suc, ◌+◌, ◌<◌, Bool, true, false, List, [], ◌∷◌, find, cond, Option, Some, None, slice_get}
use Rattle.std.proofs.Common.{get_or, length, refl, sym, ap, subst, ◌∙◌, arith}
use Rattle.std.specs.Option.{option_or, option_map}
use Rattle.std.proofs.lemmas.List.{length-map, get_or-map}
use Rattle.std.proofs.lemmas.List.Folds.{find-append}
use Rattle.std.proofs.lemmas.Option.{none-some, same_Some, slice_get-get_or}
use Rattle.mt_base.specs.Wrapping.{wrap}
use Rattle.elf_obj.specs.declared.parts.ObjectParts.{ObjectParts}
use Rattle.elf_obj.specs.declared.parts.Symbol.{Symbol}
use Rattle.elf_obj.specs.Object.{Object, object_of}
use Rattle.linker.specs.declared.names.Numbers.{Numbers}
use Rattle.linker.specs.declared.bases.Bases.{Bases}
use Rattle.linker.specs.Names.{NumberedSymbol, numbered, numbered_from, all_numbered_from, is_defined}
use Rattle.linker.specs.Names.{defines, definition, stands_for, target, main_name}
use Rattle.linker.specs.Addresses.{symbol_address, address, plus}
use Rattle.linker.specs.Data.{target_size}
use Rattle.linker.specs.Known.{objects_of, numbers_of, number_address_in, number_address, number_size_in, number_size}

-- the symbol of these numbers is this one
pub record IsListed (os : List Object) (e : NumberedSymbol) : Type 0 where
  pub object : Object
  pub there : slice_get os e.object ≡ Some object
  pub symbol : slice_get object.symbols e.number ≡ Some e.symbol

-- one that a search over the numbered symbols of an object finds
record IsNumbered (k n : ℕ) (ss : List Symbol) (e : NumberedSymbol) : Type 0 where
  place : ℕ
  object : e.object ≡ k
  number : e.number ≡ n + place
  symbol : slice_get ss place ≡ Some e.symbol

found_numbered : (p : NumberedSymbol → Bool) (k n : ℕ) (ss : List Symbol) (e : NumberedSymbol) → find p (numbered_from k n ss) ≡ Some e
    → IsNumbered k n ss e
found_numbered p k n [] e h = absurd (none-some e h)
found_numbered p k n (s ∷ ss) e h = by_test (p (numbered k n s)) h (found_numbered p k (n + 1) ss e)
  where
    later : IsNumbered k (n + 1) ss e → IsNumbered k n (s ∷ ss) e
    later r = let m = r.number in record { place = suc r.place; object = r.object; number = omega arith; symbol = r.symbol }

    by_test : (b : Bool) → cond b (Some (numbered k n s)) (find p (numbered_from k (n + 1) ss)) ≡ Some e
        → (find p (numbered_from k (n + 1) ss) ≡ Some e → IsNumbered k (n + 1) ss e) → IsNumbered k n (s ∷ ss) e
    by_test true g rest =
        let is : numbered k n s ≡ e = same_Some (numbered k n s) e g in
        let number : n ≡ e.number = ap (λ (x : NumberedSymbol). x.number) is in
        record {
          place = 0;
          object = sym (ap (λ (x : NumberedSymbol). x.object) is);
          number = omega arith;
          symbol = ap (λ (x : NumberedSymbol). Some x.symbol) is;
        }
    by_test false g rest = later (rest g)

record IsCounted (k : ℕ) (os : List Object) (e : NumberedSymbol) : Type 0 where
  place : ℕ
  object : Object
  number : e.object ≡ k + place
  there : slice_get os place ≡ Some object
  symbol : slice_get object.symbols e.number ≡ Some e.symbol

found_counted : (p : NumberedSymbol → Bool) (k : ℕ) (os : List Object) (e : NumberedSymbol) → find p (all_numbered_from k os) ≡ Some e
    → IsCounted k os e
found_counted p k [] e h = absurd (none-some e h)
found_counted p k (o ∷ os) e h =
    by_case (find p (numbered_from k 0 o.symbols)) refl
    (sym (find-append p (numbered_from k 0 o.symbols) (all_numbered_from (k + 1) os)) ∙ h)
    (found_counted p (k + 1) os e)
  where
    here : IsNumbered k 0 o.symbols e → IsCounted k (o ∷ os) e
    here r =
        let at : e.number ≡ r.place = omega (arith, r.number) in
        let P : ℕ → Type 0 = λ m. slice_get o.symbols m ≡ Some e.symbol in
        record { place = 0; object = o; number = omega (arith, r.object); there = refl; symbol = subst P (sym at) r.symbol }

    later : IsCounted (k + 1) os e → IsCounted k (o ∷ os) e
    later r = record { place = suc r.place; object = r.object; number = omega (arith, r.number); there = r.there; symbol = r.symbol }

    by_case : (x : Option NumberedSymbol) → find p (numbered_from k 0 o.symbols) ≡ x
        → option_or x (find p (all_numbered_from (k + 1) os)) ≡ Some e
        → (find p (all_numbered_from (k + 1) os) ≡ Some e → IsCounted (k + 1) os e) → IsCounted k (o ∷ os) e
    by_case None is g rest = later (rest g)
    by_case (Some x) is g rest = here (found_numbered p k 0 o.symbols e (is ∙ g))

pub definition_listed : (os : List Object) (name : List ℕ) (e : NumberedSymbol) → definition os name ≡ Some e → IsListed os e
definition_listed os name e h =
    let r = found_counted (defines name) 0 os e h in
    let at : e.object ≡ r.place = omega (arith, r.number) in
    let P : ℕ → Type 0 = λ m. slice_get os m ≡ Some r.object in
    record { object = r.object; there = subst P (sym at) r.there; symbol = r.symbol }

-- what a symbol of an object stands for is listed
pub target_listed : (os : List Object) (k number : ℕ) (o : Object) (e : NumberedSymbol) → slice_get os k ≡ Some o
    → target os k o.symbols number ≡ Some e
    → IsListed os e
target_listed os k number o e there h = by_case (slice_get o.symbols number) refl h
  where
    by_test : (s : Symbol) → slice_get o.symbols number ≡ Some s → (b : Bool)
        → cond b (Some (numbered k number s)) (definition os s.name) ≡ Some e → IsListed os e
    by_test s is true g =
        let P : NumberedSymbol → Type 0 = IsListed os in
        subst P (same_Some (numbered k number s) e g) (record { object = o; there = there; symbol = is })
    by_test s is false g = definition_listed os s.name e g

    by_case : (x : Option Symbol) → slice_get o.symbols number ≡ x
        → (elim x as (λ _. Option NumberedSymbol) [ None ↦ None | Some s ↦ stands_for os (numbered k number s) ]) ≡ Some e → IsListed os e
    by_case None is g = absurd (none-some e g)
    by_case (Some s) is g = by_test s is (is_defined s.home) g

-- the address by its numbers is that of the symbol
pub listed_address : (os : List Object) (bases : Bases) (e : NumberedSymbol) → IsListed os e
    → number_address os bases (numbers_of e) ≡ symbol_address os bases e
unfolding number_address
listed_address os bases e r =
    ap (number_address_in os bases (numbers_of e)) r.there
    ∙ ap (λ (x : Option Symbol). elim x as (λ _. ℕ) [ None ↦ 0 | Some s ↦ symbol_address os bases (numbered e.object e.number s) ]) r.symbol

-- ---- what the numbers of a symbol say of it

-- the symbol that has these numbers
pub record Told (os : List Object) (k number : ℕ) (o : Object) (n : Numbers) : Type 0 where
  pub entry : NumberedSymbol
  pub is : target os k o.symbols number ≡ Some entry
  pub numbers : numbers_of entry ≡ n

pub told : (os : List Object) (k number : ℕ) (o : Object) (n : Numbers) → option_map numbers_of (target os k o.symbols number) ≡ Some n
    → Told os k number o n
told os k number o n h = by_case (target os k o.symbols number) refl h
  where
    by_case : (x : Option NumberedSymbol) → target os k o.symbols number ≡ x → option_map numbers_of x ≡ Some n → Told os k number o n
    by_case None is g = absurd (none-some n g)
    by_case (Some e) is g = record { entry = e; is = is; numbers = same_Some (numbers_of e) n g }

pub told_none : (os : List Object) (k number : ℕ) (o : Object) → option_map numbers_of (target os k o.symbols number) ≡ None
    → target os k o.symbols number ≡ None
told_none os k number o h = by_case (target os k o.symbols number) h
  where
    by_case : (x : Option NumberedSymbol) → option_map numbers_of x ≡ None → x ≡ None
    by_case None g = refl
    by_case (Some e) g = absurd (none-some (numbers_of e) (sym g))

-- its address
pub told_address : (os : List Object) (bases : Bases) (k number : ℕ) (o : Object) (n : Numbers) → slice_get os k ≡ Some o
    → option_map numbers_of (target os k o.symbols number) ≡ Some n
    → number_address os bases n ≡ address os bases (target os k o.symbols number)
told_address os bases k number o n there h =
    let t : Told os k number o n = told os k number o n h in
    ap (number_address os bases) (sym t.numbers) ∙ listed_address os bases t.entry (target_listed os k number o t.entry there t.is)
    ∙ sym (ap (address os bases) t.is)

-- its size
listed_size : (os : List Object) (e : NumberedSymbol) → IsListed os e → number_size os (numbers_of e) ≡ e.symbol.size
unfolding number_size
listed_size os e r =
    ap (number_size_in (numbers_of e)) r.there
    ∙ ap (λ (x : Option Symbol). elim x as (λ _. ℕ) [ None ↦ 0 | Some s ↦ s.size ]) r.symbol

pub told_size : (os : List Object) (k number : ℕ) (o : Object) (n : Numbers) → slice_get os k ≡ Some o
    → option_map numbers_of (target os k o.symbols number) ≡ Some n → number_size os n ≡ target_size (target os k o.symbols number)
told_size os k number o n there h =
    let t : Told os k number o n = told os k number o n h in
    ap (number_size os) (sym t.numbers) ∙ listed_size os t.entry (target_listed os k number o t.entry there t.is)
    ∙ sym (ap target_size t.is)

-- ---- the object of parts

-- what an index past the end reads as
abbrev pub blank : Object
blank = record {
  words = [];
  rodata = [];
  init_bytes = [];
  zero_bytes = 0;
  symbols = [];
  text_relocs = [];
  init_relocs = [];
  tagged = [];
}

pub object_is : (parts : List ObjectParts) (k : ℕ) (o : Object) (d : ObjectParts) → k < length parts
    → slice_get (objects_of parts) k ≡ Some o
    → object_of (get_or parts k d) ≡ o
object_is parts k o d h there =
    let within : k < length (objects_of parts) = omega (arith, h, length-map parts object_of) in
    same_Some (object_of (get_or parts k d)) o
    (ap Some (sym (get_or-map object_of parts k d (object_of d) h)) ∙ sym (slice_get-get_or (objects_of parts) k (object_of d) within)
    ∙ there)

-- ---- `main`

pub main_sum : (os : List Object) (bases : Bases) (n : Numbers) → option_map numbers_of (definition os main_name) ≡ Some n
    → wrap 64 (number_address os bases n) ≡ plus (address os bases (definition os main_name)) (pos 0)
main_sum os bases n h = by_case (definition os main_name) refl h
  where
    by_case : (x : Option NumberedSymbol) → definition os main_name ≡ x → option_map numbers_of x ≡ Some n
        → wrap 64 (number_address os bases n) ≡ plus (address os bases x) (pos 0)
    by_case None is g = absurd (none-some n g)
    by_case (Some e) is g =
        let same : number_address os bases n ≡ symbol_address os bases e =
        ap (number_address os bases) (sym (same_Some (numbers_of e) n g))
        ∙ listed_address os bases e (definition_listed os main_name e is) in
        ap (wrap 64) same ∙ omega arith

pub no_main_sum : (os : List Object) (bases : Bases) → option_map numbers_of (definition os main_name) ≡ None
    → 0 ≡ plus (address os bases (definition os main_name)) (pos 0)
no_main_sum os bases h = by_case (definition os main_name) h
  where
    by_case : (x : Option NumberedSymbol) → option_map numbers_of x ≡ None → 0 ≡ plus (address os bases x) (pos 0)
    by_case None g = refl
    by_case (Some e) g = absurd (none-some (numbers_of e) (sym g))
