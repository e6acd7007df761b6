-- What is known of the image of objects before its parts are made.
use Rattle.std.specs.Prelude.{◌≡◌, ℕ, ◌*◌, ◌<◌, ◌^◌, nat_lt, List, Option, Some, None, if◌then◌else◌}
use Rattle.elf_obj.specs.Object.{Object}
use Rattle.linker.specs.declared.bases.Bases.{Bases}
use Rattle.linker.specs.declared.lengths.Lengths.{Lengths}
use Rattle.linker.specs.declared.layout.Starts.{Starts}
use Rattle.linker.specs.declared.totals.Totals.{Totals}
use Rattle.linker.specs.declared.plan.Plan.{Plan}
use Rattle.linker.specs.Sections.{starts}
use Rattle.linker.specs.Tagged.{sized, IsFewest}
use Rattle.linker.specs.Totals.{AreSmall, totals_of, rodata_by, code_by, filled_by, end_by, memory_by}
use Rattle.linker.specs.Spans.{AreSpans}
use Rattle.linker.specs.LinkFault.{AreBound, excess, told_bytes, code_limit, memory_limit}

-- where sections of these lengths begin; the filled data follows a table of so many bytes
pub record AreStartsOf (l : Lengths) (table : ℕ) (s : Starts) : Type 0 where
  pub text : s.text.items ≡ starts 4 2 l.words.items
  pub rodata : s.rodata.items ≡ starts 16 0 l.rodata.items
  pub init : s.init.items ≡ starts 16 table l.init.items
  pub zero : s.zero.items ≡ starts 16 0 l.zero.items

-- where the parts begin in an image with so many descriptor bytes
abbrev pub bases_by : Totals → ℕ → Bases
bases_by t n = record { rodata = rodata_by t n; code = code_by t n; filled = filled_by t n; zeros = end_by t n }

-- how many bytes are told of an image that is too large, by the sizes of its parts
unfoldable pub excess_by : Totals → ℕ → Option ℕ
excess_by t n =
    if nat_lt code_limit (4 * t.words) then Some (told_bytes (4 * t.words))
    else if nat_lt memory_limit (memory_by t n) then Some (told_bytes (memory_by t n))
    else None

-- the sizes of the parts, the tagged objects and the number of descriptor bytes are those of the objects
pub record IsPlan (objects : List Object) (p : Plan) : Type 0 where
  pub totals : p.totals ≡ totals_of objects
  pub small : AreSmall p.totals
  pub spans : AreSpans objects p.spans.items
  pub fewest : IsFewest objects p.count
  pub low : p.count < 2 ^ 80

-- and no condition refuses the objects
pub record IsAccepted (objects : List Object) (p : Plan) : Type 0 where
  pub plan : IsPlan objects p
  pub bound : AreBound objects
  pub fits : excess (sized objects p.count) ≡ None
