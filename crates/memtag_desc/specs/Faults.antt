-- What is wrong with bytes that describe no intervals: the first number or interval that breaks a rule, and its place.
use Rattle.std.specs.Prelude.{◌≡◌, ℕ, ◌+◌, ◌*◌, ◌<◌, ◌≤◌, List, ◌∷◌, ◌++◌, length}
use Rattle.std.specs.List.{AllByRecursion}
use Rattle.memtag_desc.specs.declared.interval.Interval.{Interval}
use Rattle.memtag_desc.specs.declared.refusal.DescRefusal.{DescRefusal}
use Rattle.memtag_desc.specs.declared.refusal.DescRefusal.TheVariants.{Cut, LongForm, TooFar}
use Rattle.memtag_desc.specs.Numbers.{IsNumber}
use Rattle.memtag_desc.specs.Descriptors.{IsDescriptor, interval_at, end_of, end_from, address_limit, Describes}

-- each byte says that another one of its number follows, by its bit 7
abbrev pub AllGoOn : List ℕ → Type 0
AllGoOn bytes = AllByRecursion (λ b. 128 ≤ b) bytes

-- what is wrong with the number at a place, with which the rest of the bytes begins: `total` is how many bytes there are in all,
-- `most` how many a number may have. The bytes end first, none of the first ones is the last, or the last one says nothing.
pub data NumberBreaks (most place total : ℕ) : List ℕ → DescRefusal → Type 0 where
  cut : (rest : List ℕ) → length rest < most → AllGoOn rest → NumberBreaks most place total rest (Cut total)
  wide : (front rest : List ℕ) → length front ≡ most → AllGoOn front → NumberBreaks most place total (front ++ rest) (TooFar place)
  long : (front rest : List ℕ) → 1 ≤ length front → length front < most → AllGoOn front
      → NumberBreaks most place total (front ++ 0 ∷ rest) (LongForm place)

-- what is wrong with the descriptor at a place, or with the interval that it gives behind an address:
-- its first number, its second number, a second number whose size has a short form, an interval that ends over the limit
pub data RecordBreaks (from place total : ℕ) : List ℕ → DescRefusal → Type 0 where
  first : (rest : List ℕ) (fault : DescRefusal) → NumberBreaks 8 place total rest fault → RecordBreaks from place total rest fault
  second : (distance : ℕ) (bytes rest : List ℕ) (fault : DescRefusal) → IsNumber (8 * distance) bytes
      → NumberBreaks 8 (place + length bytes) total rest fault → RecordBreaks from place total (bytes ++ rest) fault
  form : (distance less : ℕ) (bytes others rest : List ℕ) → IsNumber (8 * distance) bytes → IsNumber less others → less < 7
      → RecordBreaks from place total (bytes ++ others ++ rest) (LongForm (place + length bytes))
  past : (distance size : ℕ) (bytes rest : List ℕ) → IsDescriptor distance size bytes
      → address_limit < end_of (interval_at from distance size) → RecordBreaks from place total (bytes ++ rest) (TooFar place)

-- the first fault of the bytes: some bytes describe intervals, and the descriptor behind them breaks a rule
pub record HasFault (bytes : List ℕ) (fault : DescRefusal) : Type 0 where
  pub intervals : List Interval
  pub before : List ℕ
  pub rest : List ℕ
  pub parts : bytes ≡ before ++ rest
  pub some : 1 ≤ length rest
  pub described : Describes intervals before
  pub breaks : RecordBreaks (end_from 0 intervals) (length before) (length bytes) rest fault
