-- How many bytes the contents of an object's sections have.
use Rattle.std.proofs.Common.{◌≡◌, ℕ, ◌+◌, ◌*◌, List, [], ◌∷◌, ◌++◌, length, replicate, refl, arith, length-append}
use Rattle.std.specs.List.{flat_map}
use Rattle.std.proofs.lemmas.List.{length-replicate}
use Rattle.elf_base.specs.declared.section.Shdr.{Shdr}
use Rattle.elf_base.specs.declared.symbol.Sym.{Sym}
use Rattle.elf_base.specs.declared.relocation.Rela.{Rela}
use Rattle.elf_base.specs.Field.{bytes_of}
use Rattle.elf_base.specs.Records.{sym_fields, rela_fields}
use Rattle.elf_base.specs.Laws.Lengths.{length-number, length-signed, length-words}
use Rattle.elf_obj.specs.declared.parts.Symbol.{Symbol}
use Rattle.elf_obj.specs.declared.parts.Reloc.{Reloc}
use Rattle.elf_obj.specs.declared.section.Section.{Section}
use Rattle.elf_obj.specs.Object.{Object}
use Rattle.elf_obj.specs.Sections.{sections, sizes_of, names_end, header_of, headers_of}
use Rattle.mt_base.specs.Granules.{round16}
use Rattle.elf_obj.specs.Records.{symbol_record, symbols_bytes, reloc_record, reloc_bytes, tag_record, tag_bytes, name_bytes}
use Rattle.elf_obj.specs.Contents.{contents, header_bytes}

-- ---- one record

pub length-sym : (s : Sym) → length (bytes_of (sym_fields s)) ≡ 24
length-sym s = simp (length-append, length-number)

pub length-rela : (r : Rela) → length (bytes_of (rela_fields r)) ≡ 24
length-rela r = simp (length-append, length-number, length-signed)

pub length-header : (h : Shdr) → length (header_bytes h) ≡ 64
length-header h = simp (length-append, length-number)

pub length-reloc_bytes : (r : Reloc) → length (reloc_bytes r) ≡ 24
unfolding reloc_bytes
length-reloc_bytes r = length-rela (reloc_record r)

pub length-tag_bytes : (t : ℕ) → length (tag_bytes t) ≡ 24
unfolding tag_bytes
length-tag_bytes t = length-rela (tag_record t)

-- ---- lists of records

pub length-symbols : (place : ℕ) (ss : List Symbol) → length (symbols_bytes place ss) ≡ 24 * length ss
length-symbols place [] = refl
length-symbols place (s ∷ ss) =
    let rest = symbols_bytes (place + length s.name + 1) ss in
    omega (
      arith,
      length-append (bytes_of (sym_fields (symbol_record place s))) rest,
      length-sym (symbol_record place s),
      length-symbols (place + length s.name + 1) ss,
    )

pub length-relocs : (rs : List Reloc) → length (flat_map reloc_bytes rs) ≡ 24 * length rs
length-relocs [] = refl
length-relocs (r ∷ rs) = omega (arith, length-append (reloc_bytes r) (flat_map reloc_bytes rs), length-reloc_bytes r, length-relocs rs)

pub length-tags : (ts : List ℕ) → length (flat_map tag_bytes ts) ≡ 24 * length ts
length-tags [] = refl
length-tags (t ∷ ts) = omega (arith, length-append (tag_bytes t) (flat_map tag_bytes ts), length-tag_bytes t, length-tags ts)

pub length-names : (place : ℕ) (ss : List Symbol) → place + length (flat_map name_bytes ss) ≡ names_end place ss
length-names place [] = omega arith
length-names place (s ∷ ss) =
    let one : length (name_bytes s) ≡ length s.name + 1 = length-append s.name (0 ∷ []) in
    omega (arith, length-append (name_bytes s) (flat_map name_bytes ss), one, length-names (place + length s.name + 1) ss)

pub length-headers : (at : ℕ) (ss : List Section) → length (flat_map header_bytes (headers_of at ss)) ≡ 64 * length ss
length-headers at [] = refl
length-headers at (s ∷ ss) =
    let rest = flat_map header_bytes (headers_of (round16 at + s.bytes) ss) in
    omega (
      arith,
      length-append (header_bytes (header_of s (round16 at))) rest,
      length-header (header_of s (round16 at)),
      length-headers (round16 at + s.bytes) ss,
    )

-- ---- all contents

-- each content has as many bytes as its section says
abbrev pub AreAsLong : List Section → List (List ℕ) → Type 0
AreAsLong [] [] = Unit {0}
AreAsLong [] (c ∷ cs) = ⊥
AreAsLong (s ∷ ss) [] = ⊥
AreAsLong (s ∷ ss) (c ∷ cs) = (length c ≡ s.bytes) × AreAsLong ss cs

pub contents_are_as_long : (p : Object) → AreAsLong (sections (sizes_of p)) (contents p)
contents_are_as_long p =
    let symbols : length (replicate 24 0 ++ symbols_bytes 1 p.symbols) ≡ 24 * (length p.symbols + 1) =
    omega (arith, length-append (replicate 24 0) (symbols_bytes 1 p.symbols), length-replicate {A = ℕ} 24 0, length-symbols 1 p.symbols) in
    let names : length (0 ∷ flat_map name_bytes p.symbols) ≡ names_end 1 p.symbols = omega (arith, length-names 1 p.symbols) in (
      length-words p.words,
      (
        refl,
        (
          refl,
          (
            refl,
            (
              symbols,
              (
                names,
                (refl, (length-relocs p.text_relocs, (length-relocs p.init_relocs, (refl, (length-tags p.tagged, tt))))),
              ),
            ),
          ),
        ),
      ),
    )
