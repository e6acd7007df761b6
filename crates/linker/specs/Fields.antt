-- What the fields of relocated instructions hold (ELF for the Arm 64-bit architecture, 5.7.6 and 5.7.10; Arm ARM for the fields).
use Rattle.std.specs.Prelude.{ℕ, ◌+◌, ◌*◌, ◌/◌, ◌%◌, ◌^◌, ◌==◌, ◌||◌, if◌then◌else◌}
use Rattle.mt_base.specs.Wrapping.{wrapping_sub}
use Rattle.linker.specs.declared.fields.Site.{Site}

-- a word with a number in its bits from `low` on, `width` of them; its other bits stay
abbrev pub with_bits : ℕ → ℕ → ℕ → ℕ → ℕ
with_bits low width value word =
    word / 2 ^ (low + width) * 2 ^ (low + width) + value % 2 ^ width * 2 ^ low + word % 2 ^ low

-- the page of an address, Page(x): its low 12 bits are zero
abbrev pub page : ℕ → ℕ
page x = x / 4096 * 4096

-- ADRP: bits 32 to 12 of the distance from the page of P to the page of x, as 2 bits from bit 29 on and 19 from bit 5 on
unfoldable pub with_page : ℕ → ℕ → ℕ → ℕ
with_page x place word =
    let pages = wrapping_sub 64 (page x) (page place) / 4096 in with_bits 29 2 pages (with_bits 5 19 (pages / 4) word)

-- ADD: bits 11 to 0 of x, as 12 bits from bit 10 on
unfoldable pub with_low : ℕ → ℕ → ℕ
with_low x word = with_bits 10 12 x word

-- LDR of 8 bytes: bits 11 to 3 of x, which its 12 bits from bit 10 on count in 8 bytes
unfoldable pub with_low_of_8 : ℕ → ℕ → ℕ
with_low_of_8 x word = with_bits 10 12 (x % 4096 / 8) word

-- B and BL: bits 27 to 2 of the distance from P to x, as 26 bits from bit 0 on
unfoldable pub with_distance : ℕ → ℕ → ℕ → ℕ
with_distance x place word = with_bits 0 26 (wrapping_sub 64 x place / 4) word

-- The word of an instruction with its field, by the kind of the relocation at its place P: S + A is the sum of the symbol's address and
-- the addend, G the address of the symbol's word in the table. The kinds are ADR_PREL_PG_HI21 (275), ADD_ABS_LO12_NC (277), JUMP26 (282),
-- CALL26 (283), ADR_GOT_PAGE (311), LD64_GOT_LO12_NC (312)
abbrev pub relocated : Site → ℕ → ℕ
relocated s word =
    if s.kind == 275 then with_page s.sum s.place word
    else if s.kind == 277 then with_low s.sum word
    else if s.kind == 282 || s.kind == 283 then with_distance s.sum s.place word
    else if s.kind == 311 then with_page s.got s.place word
    else if s.kind == 312 then with_low_of_8 s.got word
    else word
