-- What comes of an access, by the regions, their rights and the guard.
use Rattle.std.specs.Prelude.{ℕ, ◌*◌, ◌%◌, Bool, not, ◌&&◌, ◌==◌, List, if◌then◌else◌}
use Rattle.mt_base.specs.Granules.{granule_of}
use Rattle.mt_base.specs.Memory.{Span, Extent, is_in_span, is_mapped, is_protected, is_executable, every_byte, some_byte}
use Rattle.tag_mem.specs.declared.access.Access.{Access}
use Rattle.tag_mem.specs.declared.access.Access.TheVariants.{Done, Unmapped, Guard, Protected}

-- so many bytes from an address on are read: the guard comes first, then bytes that no region holds
abbrev pub read_answer : List Extent → Span → ℕ → ℕ → Access
read_answer regions guard at count =
    if some_byte (is_in_span guard) at count then Guard
    else if every_byte (is_mapped regions) at count then Done
    else Unmapped

-- they are written: where reading has nothing against it, a region that is not writable has
abbrev pub write_answer : List Extent → Span → ℕ → ℕ → Access
write_answer regions guard at count =
    if some_byte (is_in_span guard) at count then Guard
    else if not (every_byte (is_mapped regions) at count) then Unmapped
    else if some_byte (is_protected regions) at count then Protected
    else Done

-- the tag of the granule that an address is in is set: its 16 bytes are written to
abbrev pub set_tag_answer : List Extent → Span → ℕ → Access
set_tag_answer regions guard at = write_answer regions guard (granule_of at * 16) 16

-- a word is fetched: the address is a multiple of 4, and each of the four bytes is in an executable region
abbrev pub is_fetchable : List Extent → ℕ → Bool
is_fetchable regions at = at % 4 == 0 && every_byte (is_executable regions) at 4
