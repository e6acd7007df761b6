-- The lines that say what an ELF file has of memory tagging (this project's own form of what the Memtag ABI's dynamic entries say).
use Rattle.std.specs.Prelude.{◌≡◌, ℕ, List, [], ◌++◌, Option, Some, None, codes, decimal, flat_map, Bool, true, false, is_none, ◌&&◌}
use Rattle.std.specs.Fmt.{digits}
use Rattle.elf_image.specs.declared.memtag.MemtagInfo.{MemtagInfo}
use Rattle.elf_image.specs.MemtagEntries.{Entries}
use Rattle.memtag_desc.specs.declared.interval.Interval.{Interval}
use Rattle.memtag_desc.specs.Descriptors.{Describes}

-- the line of a number, where there is one: its name and its decimal digits
abbrev pub number_line : List ℕ → Option ℕ → List ℕ
number_line name (Some value) = name ++ codes " " ++ decimal value ++ codes "\n"
number_line name None = []

-- the line of an interval: its start in lower-case hexadecimal digits, its bytes in decimal ones
abbrev pub global_line : Interval → List ℕ
global_line i = codes "global 0x" ++ digits 16 false i.start ++ codes " " ++ decimal i.bytes ++ codes "\n"

-- the file gives none of the three numbers
abbrev pub gives_no_number : MemtagInfo → Bool
gives_no_number info = is_none info.mode && is_none info.heap && is_none info.stack

-- where there are descriptors, a line for each interval; where there is no number either, one line says so
abbrev pub global_lines : Bool → Option (List Interval) → List ℕ
global_lines nothing (Some intervals) = flat_map global_line intervals
global_lines true None = codes "no memtag entries\n"
global_lines false None = []

abbrev pub lines : MemtagInfo → Option (List Interval) → List ℕ
lines info globals =
    number_line (codes "memtag-mode") info.mode ++ number_line (codes "memtag-heap") info.heap
    ++ number_line (codes "memtag-stack") info.stack ++ global_lines (gives_no_number info) globals

-- the intervals that the descriptors describe, where there are descriptors
abbrev pub AreGlobals : Option (List ℕ) → Option (List Interval) → Type 0
AreGlobals (Some descriptors) (Some intervals) = Describes intervals descriptors
AreGlobals None None = Unit {0}
AreGlobals _ _ = ⊥

-- the text that says what the file has
pub record HasText (file text : List ℕ) : Type 0 where
  pub info : MemtagInfo
  pub globals : Option (List Interval)
  pub entries : Entries file info
  pub described : AreGlobals info.descriptors globals
  pub is : text ≡ lines info globals
