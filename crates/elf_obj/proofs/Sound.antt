-- Symbols that keep the rules: the objects among them have bytes, and end by 2^64.
use Rattle.std.proofs.Common.{◌≡◌, ℕ, ◌+◌, ◌<◌, ◌≤◌, ◌^◌, Bool, true, false, List, [], ◌∷◌, ◌++◌, length, None, arith}
use Rattle.std.specs.Prelude.{◌&&◌, ◌||◌, ◌==◌, ◌%◌, nat_le, nat_lt}
use Rattle.std.specs.List.{AllByRecursion}
use Rattle.elf_base.specs.Laws.Lengths.{IsBytes}
use Rattle.elf_base.specs.Laws.Tests.{both, is_le, is_lt}
use Rattle.elf_base.specs.Laws.Conditions.{head_holds}
use Rattle.elf_base.specs.Zeros.{is_zero_between}
use Rattle.elf_base.specs.Conditions.{first_fault}
use Rattle.elf_obj.specs.declared.parts.Symbol.{Symbol}
use Rattle.elf_obj.specs.declared.parts.Home.{Home}
use Rattle.elf_obj.specs.declared.parts.Home.TheVariants.{Undef, Text, Rodata, Init, Zero}
use Rattle.elf_obj.specs.declared.refusal.ObjectRefusal.TheVariants.{BadSymbol}
use Rattle.elf_obj.specs.declared.sizes.Sizes.{Sizes}
use Rattle.elf_obj.specs.Object.{Object}
use Rattle.elf_obj.specs.Sections.{sizes_of}
use Rattle.elf_obj.specs.Records.{home_number}
use Rattle.elf_obj.specs.Rules.{is_in_order, is_named, is_new, is_whole, is_within, has_place, symbol_keeps, symbols_keep}
use Rattle.elf_obj.specs.Apart.{IsSound}
use Rattle.elf_obj.specs.Claimed.{offset_of, claimed}
use Rattle.elf_obj.specs.ObjectFault.{symbol_conditions, table_conditions, symbol_spot}
use Rattle.elf_obj.specs.Laws.RecordsHold.{symbols_hold}
use Rattle.elf_obj.specs.Laws.ClaimedRanges.{size_fits}
use Rattle.elf_obj.specs.Laws.AllHold.{content_low}

abbrev Sound : Symbol → Type 0
Sound s = (1 ≤ s.size) × (s.value + s.size < 2 ^ 64)

not_this : (a b : Bool) → (a || b) ≡ true → a ≡ false → b ≡ true
not_this false b h e = h
not_this true b h e = cc

within-sound : (bytes : ℕ) (s : Symbol) → bytes < 2 ^ 64 → is_within bytes s ≡ true → s.function ≡ false → Sound s
within-sound bytes s low h object =
    let parts = both (nat_le (s.value + s.size) bytes) (is_whole s) h in
    let granules = not_this s.function ((s.value % 16 == 0) && (s.size % 16 == 0) && nat_lt 0 s.size) parts.1 object in
    let some = is_lt 0 s.size (both ((s.value % 16 == 0) && (s.size % 16 == 0)) (nat_lt 0 s.size) granules).1 in
    let high = is_le (s.value + s.size) bytes parts.0 in
    (omega (arith, some), omega (arith, high, low))

in-init : (z : Sizes) (home : Home) (s : Symbol) → z.init < 2 ^ 64 → has_place z home s ≡ true → s.function ≡ false
    → home_number home ≡ 3 → Sound s
in-init z Undef s low h object is = absurd (omega (arith, is))
in-init z Text s low h object is = absurd (omega (arith, is))
in-init z Rodata s low h object is = absurd (omega (arith, is))
in-init z Init s low h object is = within-sound z.init s low h object
in-init z Zero s low h object is = absurd (omega (arith, is))

in-zero : (z : Sizes) (home : Home) (s : Symbol) → z.zero < 2 ^ 64 → has_place z home s ≡ true → s.function ≡ false
    → home_number home ≡ 4 → Sound s
in-zero z Undef s low h object is = absurd (omega (arith, is))
in-zero z Text s low h object is = absurd (omega (arith, is))
in-zero z Rodata s low h object is = absurd (omega (arith, is))
in-zero z Init s low h object is = absurd (omega (arith, is))
in-zero z Zero s low h object is = within-sound z.zero s low h object

placed : (z : Sizes) (earlier : List Symbol) (s : Symbol) → symbol_keeps z earlier s ≡ true → has_place z s.home s ≡ true
unfolding symbol_keeps
placed z earlier s h = (both (is_in_order earlier s && is_named s && is_new earlier s) (has_place z s.home s) h).1

all-init : (z : Sizes) (earlier ss : List Symbol) → z.init < 2 ^ 64 → symbols_keep z earlier ss ≡ true → AllByRecursion (IsSound Init) ss
all-init z earlier [] low h = tt
all-init z earlier (s ∷ ss) low h =
    let parts = both (symbol_keeps z earlier s) (symbols_keep z (earlier ++ s ∷ []) ss) h in
    (in-init z s.home s low (placed z earlier s parts.0), all-init z (earlier ++ s ∷ []) ss low parts.1)

all-zero : (z : Sizes) (earlier ss : List Symbol) → z.zero < 2 ^ 64 → symbols_keep z earlier ss ≡ true → AllByRecursion (IsSound Zero) ss
all-zero z earlier [] low h = tt
all-zero z earlier (s ∷ ss) low h =
    let parts = both (symbol_keeps z earlier s) (symbols_keep z (earlier ++ s ∷ []) ss) h in
    (in-zero z s.home s low (placed z earlier s parts.0), all-zero z (earlier ++ s ∷ []) ss low parts.1)

-- ---- the symbols that a file claims

keep : (file : List ℕ) → first_fault (table_conditions file (claimed file)) ≡ None
    → symbols_keep (sizes_of (claimed file)) [] (claimed file).symbols ≡ true
keep file h =
    let p : Object = claimed file in
    let others = symbol_conditions file (sizes_of p) (symbol_spot (offset_of file 5 + 24) 1 []) 1 p.symbols in
    let parts = head_holds (is_zero_between file (offset_of file 5) (offset_of file 5 + 24)) (BadSymbol 0) (first_fault others) h in
    (symbols_hold file (sizes_of p) (offset_of file 5 + 24) 1 1 [] p.symbols parts.1).keep

pub init-sound : (file : List ℕ) → length file < 2 ^ 63 → first_fault (table_conditions file (claimed file)) ≡ None
    → AllByRecursion (IsSound Init) (claimed file).symbols
init-sound file short h = all-init (sizes_of (claimed file)) [] (claimed file).symbols (omega (arith, content_low file 3, short))
    (keep file h)

pub zero-sound : (file : List ℕ) → IsBytes file → first_fault (table_conditions file (claimed file)) ≡ None
    → AllByRecursion (IsSound Zero) (claimed file).symbols
zero-sound file fits h = all-zero (sizes_of (claimed file)) [] (claimed file).symbols (size_fits file 4 fits) (keep file h)
