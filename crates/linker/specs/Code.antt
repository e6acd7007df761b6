-- The code of an image: two words that call `main` and end the run, and the instructions of the objects with their fields relocated.
use Rattle.std.specs.Prelude.{ℕ, pos, ◌+◌, ◌*◌, ◌==◌, List, [], ◌∷◌, Option, Some, None}
use Rattle.std.specs.List.{find}
use Rattle.elf_base.specs.Layout.{Piece, piece}
use Rattle.elf_obj.specs.declared.parts.Reloc.{Reloc}
use Rattle.elf_obj.specs.Object.{Object}
use Rattle.linker.specs.declared.bases.Bases.{Bases}
use Rattle.linker.specs.Names.{target, definition, main_name}
use Rattle.linker.specs.Sections.{laid, ends, word_counts, each_from}
use Rattle.linker.specs.Addresses.{text_address, address, got_address, plus}
use Rattle.linker.specs.declared.fields.Site.{Site}
use Rattle.linker.specs.Fields.{relocated}

-- a relocation of the object of a number, at its place in the image
abbrev pub site : List Object → Bases → ℕ → Object → Reloc → Site
site objects bases k o r = record {
  kind = r.kind;
  place = text_address objects bases k + r.offset;
  sum = plus (address objects bases (target objects k o.symbols r.symbol)) r.addend;
  got = got_address objects bases (target objects k o.symbols r.symbol);
}

-- The word that the image has for one of an object, by the relocation at its place: the object's where there is none, and else the object's
-- with the field of that relocation. Of several at one place, of which valid objects have none, the first would count.
abbrev pub word_with : List Object → Bases → ℕ → Object → Option Reloc → ℕ → ℕ
word_with objects bases k o None word = word
word_with objects bases k o (Some r) word = relocated (site objects bases k o r) word

-- the words of the object of a number; the i-th has its place at 4 i
abbrev pub object_words : List Object → Bases → ℕ → Object → List ℕ
object_words objects bases k o =
    each_from 0 (λ i word. word_with objects bases k o (find (λ r. r.offset == 4 * i) o.text_relocs) word) o.words

-- `bl main`, at the start of the code, by the field of R_AARCH64_CALL26
abbrev pub call_main : List Object → Bases → ℕ
call_main objects bases =
    let main = address objects bases (definition objects main_name) in
    relocated (record { kind = 283; place = bases.code; sum = plus main (pos 0); got = 0 }) 0x94000000

-- `svc #3`, which ends the run with the status in X0 (this project's own)
abbrev pub end_run : ℕ
end_run = 0xD4000061

-- the code in pieces, which are counted in words: the objects begin at the next multiples of 16 bytes
abbrev pub code_pieces : List Object → Bases → List Piece
code_pieces objects bases =
    piece 0 (call_main objects bases ∷ end_run ∷ []) ∷ laid 4 2 (each_from 0 (object_words objects bases) objects)

-- how many words the code has: up to the end of the last object's
abbrev pub code_words : List Object → ℕ
code_words objects = ends 4 2 (word_counts objects)
