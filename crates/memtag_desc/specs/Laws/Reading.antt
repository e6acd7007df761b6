-- Reading from left to right: what stands at a place, or the first fault.
use Rattle.std.specs.Prelude.{ℕ, zero, suc, ◌+◌, ◌*◌, ◌-◌, ◌/◌, ◌%◌, List, [], ◌∷◌, drop, Result, Ok, Err, nat_lt, ◌==◌, if◌then◌else◌}
use Rattle.memtag_desc.specs.declared.number.Number.{Number}
use Rattle.memtag_desc.specs.declared.record.Descriptor.{Descriptor}
use Rattle.memtag_desc.specs.declared.refusal.DescRefusal.{DescRefusal}
use Rattle.memtag_desc.specs.declared.refusal.DescRefusal.TheVariants.{Cut, LongForm, TooFar}
use Rattle.memtag_desc.specs.Descriptors.{interval_at, end_of, address_limit}

abbrev pub ReadNumber : Type 0
ReadNumber = Result Number DescRefusal

abbrev pub ReadDescriptor : Type 0
ReadDescriptor = Result Descriptor DescRefusal

-- a number of a value and of so many bytes
abbrev pub read_as : ℕ → ℕ → ReadNumber
read_as value bytes = Ok (record { value = value; bytes = bytes })

-- seven bits below what stands behind them, which is not 0
unfoldable pub above : ℕ → ℕ → ReadNumber → ReadNumber
above place low (Ok high) = if high.value == 0 then Err (LongForm place) else read_as (low + 128 * high.value) (suc high.bytes)
above place low (Err fault) = Err fault

-- the number that stands at a place, of at most so many bytes
unfoldable pub number_within : ℕ → ℕ → ℕ → List ℕ → ReadNumber
number_within zero place total rest = Err (TooFar place)
number_within (suc left) place total [] = Err (Cut total)
number_within (suc left) place total (b ∷ rest) =
    if nat_lt b 128 then read_as b 1 else above place (b - 128) (number_within left place total rest)

abbrev pub number_at : ℕ → ℕ → List ℕ → ReadNumber
number_at place total rest = number_within 8 place total rest

-- the interval of a distance and a size, where it keeps below the limit
unfoldable pub judged : ℕ → ℕ → ℕ → ℕ → ℕ → ReadDescriptor
judged from place distance size bytes =
    if nat_lt address_limit (end_of (interval_at from distance size)) then Err (TooFar place)
    else Ok (record { interval = interval_at from distance size; bytes = bytes })

-- the size that stands behind the first number of a descriptor
unfoldable pub sized : ℕ → ℕ → Number → ReadNumber → ReadDescriptor
sized from place first (Ok second) =
    if nat_lt second.value 7 then Err (LongForm (place + first.bytes))
    else judged from place (first.value / 8) (second.value + 1) (first.bytes + second.bytes)
sized from place first (Err fault) = Err fault

-- what stands behind the first number of a descriptor
unfoldable pub behind : ℕ → ℕ → ℕ → List ℕ → ReadNumber → ReadDescriptor
behind from place total rest (Ok first) =
    if first.value % 8 == 0 then sized from place first (number_at (place + first.bytes) total (drop first.bytes rest))
    else judged from place (first.value / 8) (first.value % 8) first.bytes
behind from place total rest (Err fault) = Err fault

-- the descriptor that stands at a place, for an interval behind an address
unfoldable pub descriptor_at : ℕ → ℕ → ℕ → List ℕ → ReadDescriptor
descriptor_at from place total rest = behind from place total rest (number_at place total rest)
