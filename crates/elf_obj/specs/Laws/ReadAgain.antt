-- What stands in a file is read again: words, relocations, tagged symbols, names and symbols.
use Rattle.std.proofs.Common.{◌≡◌, ℕ, ◌+◌, ◌-◌, ◌*◌, ◌/◌, ◌%◌, ◌<◌, ◌^◌, Bool, true, false, List, [], ◌∷◌, ◌++◌, length, take, drop, refl}
use Rattle.std.proofs.Common.{sym, ap, ◌∙◌, arith, append_assoc, take_at, drop_at, drop-drop}
use Rattle.std.specs.Prelude.{not, ◌&&◌, ◌||◌, ◌==◌, nat_lt, if◌then◌else◌}
use Rattle.std.specs.List.{AllByRecursion, flat_map, list_any}
use Rattle.std.specs.Int.{w64, cast_signed}
use Rattle.elf_base.specs.Field.{Field, number, signed, bytes_of, FieldsFit, StandsAt}
use Rattle.elf_base.specs.Place.{number_at}
use Rattle.elf_base.specs.Layout.{word_bytes}
use Rattle.elf_base.specs.Records.{sym_fields, rela_fields}
use Rattle.elf_base.specs.Laws.Reads.{fields_like}
use Rattle.elf_base.specs.Laws.RecordsStand.{begins_there, again}
use Rattle.elf_base.specs.Laws.Tests.{both, neither}
use Rattle.elf_base.specs.Laws.Lengths.{length-word_bytes}
use Rattle.elf_obj.specs.declared.parts.Symbol.{Symbol}
use Rattle.elf_obj.specs.declared.parts.Reloc.{Reloc}
use Rattle.elf_obj.specs.declared.parts.Home.{Home}
use Rattle.elf_obj.specs.declared.parts.Home.TheVariants.{Undef, Text, Rodata, Init, Zero}
use Rattle.elf_obj.specs.declared.sizes.Sizes.{Sizes}
use Rattle.elf_obj.specs.Records.{home_number, binding_of, function_type, type_of, symbol_record, tag_record, symbols_bytes, reloc_bytes}
use Rattle.elf_obj.specs.Records.{tag_bytes, name_bytes}
use Rattle.elf_obj.specs.Rules.{is_in_order, is_named, is_empty, is_new, has_place, symbol_keeps, symbols_keep}
use Rattle.elf_obj.specs.ObjectFile.{NamesFit, AllCounted, AllNumbered, SymbolFits, RelocFits}
use Rattle.elf_obj.specs.Claimed.{name_first, after_name, names_in, home_of, symbol_at, symbols_at, reloc_at, relocs_at, tag_at, tags_at}
use Rattle.elf_obj.specs.Claimed.{words_at}
use Rattle.elf_obj.specs.Laws.Lengths.{length-sym, length-reloc_bytes, length-tag_bytes}

-- two parts that stand as one stand one behind the other
pub apart : (file : List ℕ) (at n : ℕ) (a b : List ℕ) → length a ≡ n → StandsAt file at (a ++ b)
    → StandsAt file at a × StandsAt file (at + n) b
apart file at n a b len h =
    let rest : List ℕ = drop (length (a ++ b)) (drop at file) in
    let here : drop at file ≡ a ++ (b ++ rest) = begins_there file at (a ++ b) h ∙ append_assoc a b rest in
    let behind : drop (at + n) file ≡ b ++ rest = sym (drop-drop n at file) ∙ ap (drop n) here ∙ drop_at a (b ++ rest) n len in
    (ap (take (length a)) here ∙ take_at a (b ++ rest) (length a) refl, ap (take (length b)) behind ∙ take_at b rest (length b) refl)

-- ---- words

word_again : (w at : ℕ) (file : List ℕ) → w < 2 ^ 32 → StandsAt file at (word_bytes w) → number_at 4 at file ≡ w
word_again w at file low h =
    let same : (number 4 (number_at 4 at file) ∷ []) ≡ (number 4 w ∷ []) = again (number 4 w ∷ []) at file (omega (arith, low), tt) h in cc

pub words_again : (ws : List ℕ) (at : ℕ) (file : List ℕ) → AllByRecursion (λ w. w < 2 ^ 32) ws → StandsAt file at (flat_map word_bytes ws)
    → words_at (length ws) at file ≡ ws
words_again [] at file fit h = refl
words_again (w ∷ ws) at file fit h =
    let parts = apart file at 4 (word_bytes w) (flat_map word_bytes ws) (length-word_bytes w) h in
    ap (λ (k : ℕ). k ∷ words_at (length ws) (at + 4) file) (word_again w at file fit.0 parts.0)
    ∙ ap (λ (l : List ℕ). w ∷ l) (words_again ws (at + 4) file fit.1 parts.1)

-- ---- relocations

info_fits : (s k : ℕ) → s + 1 < 2 ^ 32 → k < 2 ^ 32 → 4294967296 * (s + 1) + k < 256 ^ 8
info_fits s k hs hk = omega (arith, hs, hk)

kind_is : (s k : ℕ) → k < 2 ^ 32 → (4294967296 * (s + 1) + k) % 4294967296 ≡ k
kind_is s k h = omega (arith, h)

symbol_is : (s k : ℕ) → k < 2 ^ 32 → (4294967296 * (s + 1) + k) / 4294967296 - 1 ≡ s
symbol_is s k h = omega (arith, h)

reloc_again : (r : Reloc) (at : ℕ) (file : List ℕ) → RelocFits r → r.symbol + 1 < 2 ^ 32 → StandsAt file at (reloc_bytes r)
    → reloc_at at file ≡ r
unfolding reloc_bytes
reloc_again r at file fit counted h =
    let info_number : ℕ = 4294967296 * (r.symbol + 1) + r.kind in
    let fields : List Field = number 8 r.offset ∷ number 8 info_number ∷ signed r.addend ∷ [] in
    let offset_fits = fit.offset in
    let fits : FieldsFit fields = (omega (arith, offset_fits), (info_fits r.symbol r.kind counted fit.kind, (fit.addend, tt))) in
    let same : (number 8 (number_at 8 at file) ∷ number 8 (number_at 8 (at + 8) file) ∷ signed
    (cast_signed w64 (number_at 8 (at + 8 + 8) file)) ∷ []) ≡ fields =
    again fields at file fits h in
    let offset : number_at 8 at file ≡ r.offset = cc in
    let info : number_at 8 (at + 8) file ≡ info_number = cc in
    let behind : cast_signed w64 (number_at 8 (at + 8 + 8) file) ≡ r.addend = cc in
    let place : at + 16 ≡ at + 8 + 8 = omega arith in
    let addend : cast_signed w64 (number_at 8 (at + 16) file) ≡ r.addend =
    ap (λ (n : ℕ). cast_signed w64 (number_at 8 n file)) place ∙ behind in
    let kind : number_at 8 (at + 8) file % 4294967296 ≡ r.kind = ap (λ (n : ℕ). n % 4294967296) info ∙ kind_is r.symbol r.kind fit.kind in
    let symbol : number_at 8 (at + 8) file / 4294967296 - 1 ≡ r.symbol =
    ap (λ (n : ℕ). n / 4294967296 - 1) info ∙ symbol_is r.symbol r.kind fit.kind in
    λ i. record { offset = offset i; kind = kind i; symbol = symbol i; addend = addend i }

pub relocs_again : (rs : List Reloc) (at : ℕ) (file : List ℕ) → AllByRecursion RelocFits rs → AllCounted rs
    → StandsAt file at (flat_map reloc_bytes rs)
    → relocs_at (length rs) at file ≡ rs
relocs_again [] at file fit counted h = refl
relocs_again (r ∷ rs) at file fit counted h =
    let parts = apart file at 24 (reloc_bytes r) (flat_map reloc_bytes rs) (length-reloc_bytes r) h in
    ap (λ (k : Reloc). k ∷ relocs_at (length rs) (at + 24) file) (reloc_again r at file fit.0 counted.0 parts.0)
    ∙ ap (λ (l : List Reloc). r ∷ l) (relocs_again rs (at + 24) file fit.1 counted.1 parts.1)

number_is : (t : ℕ) → 4294967296 * (t + 1) / 4294967296 - 1 ≡ t
number_is t = omega arith

tag_again : (t at : ℕ) (file : List ℕ) → t + 1 < 2 ^ 32 → StandsAt file at (tag_bytes t) → tag_at at file ≡ t
unfolding tag_bytes
tag_again t at file low h =
    let fields : List Field = rela_fields (tag_record t) in
    let fits : FieldsFit fields = (omega arith, (omega (arith, low), (search arith, tt))) in
    let same : fields_like fields at file ≡ fields = again fields at file fits h in
    let info : number_at 8 (at + 8) file ≡ 4294967296 * (t + 1) = cc in
    ap (λ (n : ℕ). n / 4294967296 - 1) info ∙ number_is t

pub tags_again : (ts : List ℕ) (at : ℕ) (file : List ℕ) → AllNumbered ts → StandsAt file at (flat_map tag_bytes ts)
    → tags_at (length ts) at file ≡ ts
tags_again [] at file low h = refl
tags_again (t ∷ ts) at file low h =
    let parts = apart file at 24 (tag_bytes t) (flat_map tag_bytes ts) (length-tag_bytes t) h in
    ap (λ (k : ℕ). k ∷ tags_at (length ts) (at + 24) file) (tag_again t at file low.0 parts.0)
    ∙ ap (λ (l : List ℕ). t ∷ l) (tags_again ts (at + 24) file low.1 parts.1)

-- ---- names

not_so : (b : Bool) → not b ≡ true → b ≡ false
not_so false h = refl
not_so true h = cc

first_again : (name rest : List ℕ) → list_any (λ b. b == 0) name ≡ false → name_first ((name ++ 0 ∷ []) ++ rest) ≡ name
first_again [] rest h = refl
first_again (b ∷ bs) rest h =
    let parts = neither (b == 0) (list_any (λ (c : ℕ). c == 0) bs) h in
    ap (λ (t : Bool). if t then [] else b ∷ name_first ((bs ++ 0 ∷ []) ++ rest)) parts.0
    ∙ ap (λ (l : List ℕ). b ∷ l) (first_again bs rest parts.1)

after_again : (name rest : List ℕ) → list_any (λ b. b == 0) name ≡ false → after_name ((name ++ 0 ∷ []) ++ rest) ≡ rest
after_again [] rest h = refl
after_again (b ∷ bs) rest h =
    let parts = neither (b == 0) (list_any (λ (c : ℕ). c == 0) bs) h in
    ap (λ (t : Bool). if t then (bs ++ 0 ∷ []) ++ rest else after_name ((bs ++ 0 ∷ []) ++ rest)) parts.0 ∙ after_again bs rest parts.1

-- what the rules say of a symbol, as far as reading it again needs it
abbrev pub IsPlain : Home → Bool → Type 0
IsPlain Undef function = function ≡ false
IsPlain Text function = Unit {0}
IsPlain Rodata function = Unit {0}
IsPlain Init function = Unit {0}
IsPlain Zero function = Unit {0}

plain : (z : Sizes) (home : Home) (s : Symbol) → has_place z home s ≡ true → IsPlain home s.function
plain z Undef s h =
    let sized = both (not s.local && not s.function && (s.value == 0)) (s.size == 0) h in
    let placed = both (not s.local && not s.function) (s.value == 0) sized.0 in
    not_so s.function (both (not s.local) (not s.function) placed.0).1
plain z Text s h = tt
plain z Rodata s h = tt
plain z Init s h = tt
plain z Zero s h = tt

record Keeps (s : Symbol) : Type 0 where
  plain : IsPlain s.home s.function
  named : list_any (λ b. b == 0) s.name ≡ false

keeps : (z : Sizes) (earlier : List Symbol) (s : Symbol) → symbol_keeps z earlier s ≡ true → Keeps s
unfolding symbol_keeps
keeps z earlier s h =
    let last = both (is_in_order earlier s && is_named s && is_new earlier s) (has_place z s.home s) h in
    let named = both (is_in_order earlier s) (is_named s) (both (is_in_order earlier s && is_named s) (is_new earlier s) last.0).0 in
    let zeros = both (not (list_any (λ (b : ℕ). b == 0) s.name)) (s.local || not (is_empty s.name)) named.1 in
    record { plain = plain z s.home s last.1; named = not_so (list_any (λ (b : ℕ). b == 0) s.name) zeros.0 }

abbrev pub each_name : List Symbol → List (List ℕ)
each_name [] = []
each_name (s ∷ ss) = s.name ∷ each_name ss

pub names_again : (z : Sizes) (earlier ss : List Symbol) → symbols_keep z earlier ss ≡ true
    → names_in (length ss) (flat_map name_bytes ss) ≡ each_name ss
names_again z earlier [] h = refl
names_again z earlier (s ∷ ss) h =
    let parts = both (symbol_keeps z earlier s) (symbols_keep z (earlier ++ s ∷ []) ss) h in
    let k : Keeps s = keeps z earlier s parts.0 in
    let rest : List ℕ = flat_map name_bytes ss in
    ap (λ (l : List ℕ). l ∷ names_in (length ss) (after_name (name_bytes s ++ rest))) (first_again s.name rest k.named)
    ∙ ap (λ (l : List ℕ). s.name ∷ names_in (length ss) l) (after_again s.name rest k.named)
    ∙ ap (λ (ls : List (List ℕ)). s.name ∷ ls) (names_again z (earlier ++ s ∷ []) ss parts.1)

-- ---- symbols

home_again : (h : Home) → home_of (home_number h) ≡ h
home_again Undef = refl
home_again Text = refl
home_again Rodata = refl
home_again Init = refl
home_again Zero = refl

local_again : (l f : Bool) (h : Home) → nat_lt (binding_of l + type_of h f) 16 ≡ l
local_again true f Undef = refl
local_again false f Undef = refl
local_again true true Text = refl
local_again true false Text = refl
local_again false true Text = refl
local_again false false Text = refl
local_again true true Rodata = refl
local_again true false Rodata = refl
local_again false true Rodata = refl
local_again false false Rodata = refl
local_again true true Init = refl
local_again true false Init = refl
local_again false true Init = refl
local_again false false Init = refl
local_again true true Zero = refl
local_again true false Zero = refl
local_again false true Zero = refl
local_again false false Zero = refl

function_again : (l f : Bool) (h : Home) → IsPlain h f → ((binding_of l + type_of h f) % 16 == 2) ≡ f
function_again true f Undef p = sym p
function_again false f Undef p = sym p
function_again true true Text p = refl
function_again true false Text p = refl
function_again false true Text p = refl
function_again false false Text p = refl
function_again true true Rodata p = refl
function_again true false Rodata p = refl
function_again false true Rodata p = refl
function_again false false Rodata p = refl
function_again true true Init p = refl
function_again true false Init p = refl
function_again false true Init p = refl
function_again false false Init p = refl
function_again true true Zero p = refl
function_again true false Zero p = refl
function_again false true Zero p = refl
function_again false false Zero p = refl

binding_low : (l : Bool) → binding_of l < 17
binding_low true = omega arith
binding_low false = omega arith

function_low : (f : Bool) → function_type f < 3
function_low true = omega arith
function_low false = omega arith

type_low : (h : Home) (f : Bool) → type_of h f < 3
type_low Undef f = omega arith
type_low Text f = function_low f
type_low Rodata f = function_low f
type_low Init f = function_low f
type_low Zero f = function_low f

home_low : (h : Home) → home_number h < 256 ^ 2
home_low Undef = omega arith
home_low Text = omega arith
home_low Rodata = omega arith
home_low Init = omega arith
home_low Zero = omega arith

symbol_again : (s : Symbol) (place at : ℕ) (file : List ℕ) → SymbolFits s → place < 2 ^ 32 → IsPlain s.home s.function
    → StandsAt file at (bytes_of (sym_fields (symbol_record place s))) → symbol_at s.name at file ≡ s
symbol_again s place at file fit low plainly h =
    let info_number : ℕ = binding_of s.local + type_of s.home s.function in
    let fields : List Field =
    number 4 place ∷ number 1 info_number ∷ number 1 0 ∷ number 2 (home_number s.home) ∷ number 8 s.value ∷ number 8 s.size ∷ [] in
    let info_low : info_number < 256 ^ 1 = omega (arith, binding_low s.local, type_low s.home s.function) in
    let value_fits = fit.value in
    let size_fits = fit.size in
    let fits : FieldsFit fields =
    (omega (arith, low), (info_low, (omega arith, (home_low s.home, (omega (arith, value_fits), (omega (arith, size_fits), tt)))))) in
    let same : (number 4 (number_at 4 at file) ∷ number 1 (number_at 1 (at + 4) file) ∷ number 1
    (number_at 1 (at + 4 + 1) file) ∷ number 2 (number_at 2 (at + 4 + 1 + 1) file)
    ∷ number 8 (number_at 8 (at + 4 + 1 + 1 + 2) file) ∷ number 8 (number_at 8 (at + 4 + 1 + 1 + 2 + 8) file) ∷ [])
    ≡ fields = again fields at file fits h in
    let info : number_at 1 (at + 4) file ≡ info_number = cc in
    let home_there : number_at 2 (at + 4 + 1 + 1) file ≡ home_number s.home = cc in
    let value_there : number_at 8 (at + 4 + 1 + 1 + 2) file ≡ s.value = cc in
    let size_there : number_at 8 (at + 4 + 1 + 1 + 2 + 8) file ≡ s.size = cc in
    let p6 : at + 6 ≡ at + 4 + 1 + 1 = omega arith in
    let p8 : at + 8 ≡ at + 4 + 1 + 1 + 2 = omega arith in
    let p16 : at + 16 ≡ at + 4 + 1 + 1 + 2 + 8 = omega arith in
    let home : home_of (number_at 2 (at + 6) file) ≡ s.home =
    ap (λ (n : ℕ). home_of (number_at 2 n file)) p6 ∙ ap home_of home_there ∙ home_again s.home in
    let value : number_at 8 (at + 8) file ≡ s.value = ap (λ (n : ℕ). number_at 8 n file) p8 ∙ value_there in
    let size : number_at 8 (at + 16) file ≡ s.size = ap (λ (n : ℕ). number_at 8 n file) p16 ∙ size_there in
    let local : nat_lt (number_at 1 (at + 4) file) 16 ≡ s.local =
    ap (λ (n : ℕ). nat_lt n 16) info ∙ local_again s.local s.function s.home in
    let function : (number_at 1 (at + 4) file % 16 == 2) ≡ s.function =
    ap (λ (n : ℕ). n % 16 == 2) info ∙ function_again s.local s.function s.home plainly in
    λ i. record { name = s.name; home = home i; value = value i; size = size i; local = local i; function = function i }

pub symbols_again : (z : Sizes) (earlier ss : List Symbol) (place at : ℕ) (file : List ℕ) → symbols_keep z earlier ss ≡ true
    → AllByRecursion SymbolFits ss
    → NamesFit place ss → StandsAt file at (symbols_bytes place ss) → symbols_at (each_name ss) at file ≡ ss
symbols_again z earlier [] place at file h fit named stand = refl
symbols_again z earlier (s ∷ ss) place at file h fit named stand =
    let next : ℕ = place + length s.name + 1 in
    let record_bytes : List ℕ = bytes_of (sym_fields (symbol_record place s)) in
    let good = both (symbol_keeps z earlier s) (symbols_keep z (earlier ++ s ∷ []) ss) h in
    let parts = apart file at 24 record_bytes (symbols_bytes next ss) (length-sym (symbol_record place s)) stand in
    let k : Keeps s = keeps z earlier s good.0 in
    ap (λ (t : Symbol). t ∷ symbols_at (each_name ss) (at + 24) file) (symbol_again s place at file fit.0 named.0 k.plain parts.0)
    ∙ ap (λ (l : List Symbol). s ∷ l) (symbols_again z (earlier ++ s ∷ []) ss next (at + 24) file good.1 fit.1 named.1 parts.1)
