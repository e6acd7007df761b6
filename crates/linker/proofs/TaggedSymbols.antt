-- The tagged symbols of a valid object: they are there, have places, and share no byte.
use Rattle.std.proofs.Common.{◌≡◌, ℕ, zero, suc, ◌+◌, ◌%◌, ◌<◌, ◌≤◌, ◌==◌, Bool, true, false, not, ◌&&◌, ◌||◌, nat_le, nat_lt}
use Rattle.std.proofs.Common.{List, [], ◌∷◌, ◌++◌, Option, Some, None, slice_get}
use Rattle.std.proofs.Common.{refl, sym, ap, subst, ◌∙◌}
use Rattle.std.specs.Prelude.{if◌then◌else◌}
use Rattle.std.specs.List.{list_any}
use Rattle.std.proofs.lemmas.Bool.{and_parts, true≢false, leb-true, ltb-true, eqb-true}
use Rattle.std.proofs.lemmas.List.Folds.{list_any-append}
use Rattle.std.proofs.lemmas.Option.{none-some, same_Some}
use Rattle.elf_obj.specs.declared.parts.Home.{Home}
use Rattle.elf_obj.specs.declared.parts.Home.TheVariants.{Undef, Text, Rodata, Init, Zero}
use Rattle.elf_obj.specs.declared.parts.Symbol.{Symbol}
use Rattle.elf_obj.specs.declared.sizes.Sizes.{Sizes}
use Rattle.elf_obj.specs.Records.{home_number}
use Rattle.elf_obj.specs.Rules.{is_in_order, is_named, is_new, is_whole, is_within, has_place, symbol_keeps, symbols_keep}
use Rattle.elf_obj.specs.Rules.{shares_byte, shares_found, is_variable, is_apart, can_be_tagged, tag_keeps, tags_keep}
use Rattle.linker.specs.Spans.{is_init}

-- ---- symbols have places

symbol_placed : (z : Sizes) (earlier ss : List Symbol) (n : ℕ) (s : Symbol) → symbols_keep z earlier ss ≡ true → slice_get ss n ≡ Some s
    → has_place z s.home s ≡ true
unfolding symbol_keeps
symbol_placed z earlier [] n s h is = absurd (none-some s is)
symbol_placed z earlier (x ∷ xs) zero s h is =
    let same : x ≡ s = same_Some x s is in
    let keeps = (and_parts (symbol_keeps z earlier x) (symbols_keep z (earlier ++ x ∷ []) xs) h).0 in
    subst (λ (y : Symbol). has_place z y.home y ≡ true) same
    (and_parts (is_in_order earlier x && is_named x && is_new earlier x) (has_place z x.home x) keeps).1
symbol_placed z earlier (x ∷ xs) (suc n) s h is =
    symbol_placed z (earlier ++ x ∷ []) xs n s (and_parts (symbol_keeps z earlier x) (symbols_keep z (earlier ++ x ∷ []) xs) h).1 is

-- a symbol of whole granules within its section, which is one of the two that may be written
pub record IsPlaced (z : Sizes) (s : Symbol) : Type 0 where
  pub start : s.value % 16 ≡ 0
  pub bytes : s.size % 16 ≡ 0
  pub some : 0 < s.size
  pub fits : s.value + s.size ≤ (if is_init s.home then z.init else z.zero)
  pub number : home_number s.home ≡ (if is_init s.home then 3 else 4)

placed : (z : Sizes) (s : Symbol) → has_place z s.home s ≡ true → is_variable s.home ≡ true → s.function ≡ false → IsPlaced z s
placed z s h v f = by_home s.home refl h v
  where
    within : (bytes : ℕ) → is_within bytes s ≡ true
        → (s.value + s.size ≤ bytes) × (s.value % 16 ≡ 0) × (s.size % 16 ≡ 0) × (0 < s.size)
    within bytes g =
        let parts = and_parts (nat_le (s.value + s.size) bytes) (is_whole s) g in
        let whole : ((s.value % 16 == 0) && (s.size % 16 == 0) && nat_lt 0 s.size) ≡ true =
        sym (ap (λ (b : Bool). b || ((s.value % 16 == 0) && (s.size % 16 == 0) && nat_lt 0 s.size)) f) ∙ parts.1 in
        let two = and_parts ((s.value % 16 == 0) && (s.size % 16 == 0)) (nat_lt 0 s.size) whole in
        let one = and_parts (s.value % 16 == 0) (s.size % 16 == 0) two.0 in (
          leb-true (s.value + s.size) bytes parts.0,
          eqb-true (s.value % 16) 0 one.0,
          eqb-true (s.size % 16) 0 one.1,
          ltb-true 0 s.size two.1,
        )

    made : (home : Home) → s.home ≡ home → home_number home ≡ (if is_init home then 3 else 4)
        → is_within (if is_init home then z.init else z.zero) s ≡ true → IsPlaced z s
    made home is number g =
        let w = within (if is_init home then z.init else z.zero) g in record {
          start = w.1;
          bytes = w.2;
          some = w.3;
          fits = subst (λ (x : Home). s.value + s.size ≤ (if is_init x then z.init else z.zero)) (sym is) w.0;
          number = subst (λ (x : Home). home_number x ≡ (if is_init x then 3 else 4)) (sym is) number;
        }

    by_home : (home : Home) → s.home ≡ home → has_place z home s ≡ true → is_variable home ≡ true → IsPlaced z s
    by_home Undef is g e = absurd (true≢false (sym e))
    by_home Text is g e = absurd (true≢false (sym e))
    by_home Rodata is g e = absurd (true≢false (sym e))
    by_home Init is g e = made Init is refl g
    by_home Zero is g e = made Zero is refl g

-- ---- tagged symbols

-- the symbol of a tag behind earlier ones
pub record IsTag (z : Sizes) (symbols : List Symbol) (earlier : List ℕ) (t : ℕ) : Type 0 where
  pub symbol : Symbol
  pub there : slice_get symbols t ≡ Some symbol
  pub place : IsPlaced z symbol
  pub apart : is_apart symbols earlier symbol ≡ true

not_true : (b : Bool) → not b ≡ true → b ≡ false
not_true true h = absurd (true≢false (sym h))
not_true false h = refl

pub tag_is : (z : Sizes) (symbols : List Symbol) (earlier : List ℕ) (least t : ℕ) (ts : List ℕ) → symbols_keep z [] symbols ≡ true
    → tags_keep symbols earlier least (t ∷ ts) ≡ true → IsTag z symbols earlier t
unfolding tag_keeps
tag_is z symbols earlier least t ts keep h =
    let here = (and_parts (tag_keeps symbols earlier least t) (tags_keep symbols (earlier ++ t ∷ []) (t + 1) ts) h).0 in
    by_case (slice_get symbols t) refl (and_parts (nat_le least t) (can_be_tagged symbols earlier (slice_get symbols t)) here).1
  where
    by_case : (x : Option Symbol) → slice_get symbols t ≡ x → can_be_tagged symbols earlier x ≡ true → IsTag z symbols earlier t
    by_case None is g = absurd (true≢false (sym g))
    by_case (Some s) is g =
        let two = and_parts (is_variable s.home && not s.function) (is_apart symbols earlier s) g in
        let one = and_parts (is_variable s.home) (not s.function) two.0 in record {
          symbol = s;
          there = is;
          place = placed z s (symbol_placed z [] symbols t s keep is) one.0 (not_true s.function one.1);
          apart = two.1;
        }

pub tags_left : (symbols : List Symbol) (earlier : List ℕ) (least t : ℕ) (ts : List ℕ) → tags_keep symbols earlier least (t ∷ ts) ≡ true
    → tags_keep symbols (earlier ++ t ∷ []) (t + 1) ts ≡ true
tags_left symbols earlier least t ts h =
    (and_parts (tag_keeps symbols earlier least t) (tags_keep symbols (earlier ++ t ∷ []) (t + 1) ts) h).1

-- ---- apart from earlier ones

-- a symbol that is apart from these tags shares no byte with this one
abbrev pub Keeps : List Symbol → List ℕ → Symbol → Type 0
Keeps symbols earlier e = (s : Symbol) → is_apart symbols earlier s ≡ true → shares_byte s e ≡ false

first_false : (a b : Bool) → (a || b) ≡ false → a ≡ false
first_false true b h = h
first_false false b h = refl

second_false : (a b : Bool) → (a || b) ≡ false → b ≡ false
second_false true b h = absurd (true≢false h)
second_false false b h = h

none_shared : (symbols : List Symbol) (earlier : List ℕ) (t : ℕ) (s : Symbol) → is_apart symbols (earlier ++ t ∷ []) s ≡ true
    → (list_any (λ e. shares_found s (slice_get symbols e)) earlier || (shares_found s (slice_get symbols t) || false)) ≡ false
none_shared symbols earlier t s h =
    sym (list_any-append (λ e. shares_found s (slice_get symbols e)) earlier (t ∷ []))
    ∙ not_true (list_any (λ e. shares_found s (slice_get symbols e)) (earlier ++ t ∷ [])) h

pub keeps_more : (symbols : List Symbol) (earlier : List ℕ) (t : ℕ) (e : Symbol) → Keeps symbols earlier e
    → Keeps symbols (earlier ++ t ∷ []) e
keeps_more symbols earlier t e keeps s h =
    let none = first_false (list_any (λ e. shares_found s (slice_get symbols e)) earlier) (shares_found s (slice_get symbols t) || false)
    (none_shared symbols earlier t s h) in
    keeps s (ap not none)

pub keeps_new : (symbols : List Symbol) (earlier : List ℕ) (t : ℕ) (e : Symbol) → slice_get symbols t ≡ Some e
    → Keeps symbols (earlier ++ t ∷ []) e
keeps_new symbols earlier t e is s h =
    let other = second_false (list_any (λ e. shares_found s (slice_get symbols e)) earlier) (shares_found s (slice_get symbols t) || false)
    (none_shared symbols earlier t s h) in
    sym (ap (shares_found s) is) ∙ first_false (shares_found s (slice_get symbols t)) false other
