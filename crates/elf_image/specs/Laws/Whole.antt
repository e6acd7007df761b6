-- The pieces of an image follow one another up to the end of its file.
use Rattle.std.proofs.Common.{◌≡◌, ℕ, ◌*◌, List, [], ◌∷◌, length, refl, sym, subst, arith, length-append}
use Rattle.std.specs.List.{flat_map}
use Rattle.elf_base.specs.Laws.Lengths.{length-ehdr, length-phdr, length-number, length-signed, length-words}
use Rattle.elf_image.specs.declared.parts.RelativeReloc.{RelativeReloc}
use Rattle.elf_image.specs.Image.{Image}
use Rattle.elf_image.specs.Places.{IsValid, file_end}
use Rattle.elf_base.specs.Layout.{IsLaidOut}
use Rattle.elf_image.specs.Pieces.{header, read_only_part, code_part, writable_part, dynamic_part, reloc_bytes, pieces, header_pieces}
use Rattle.elf_image.specs.Pieces.{table_pieces, loaded_pieces}
use Rattle.elf_base.specs.Laying.{put_all}
use Rattle.elf_image.specs.ImageFile.{ImageFile}
use Rattle.elf_image.specs.Laws.Order.{InOrder, in_order}
use Rattle.elf_image.specs.Laws.Entries.{length-dynamic_entries}
use Rattle.elf_base.specs.Laws.LaidOut.{AreInOrder, end_of, laid_out}

pub length-reloc_bytes : (r : RelativeReloc) → length (reloc_bytes r) ≡ 24
length-reloc_bytes r = simp (length-append, length-number, length-signed)

pub length-relocs : (rs : List RelativeReloc) → length (flat_map reloc_bytes rs) ≡ 24 * length rs
length-relocs [] = refl
length-relocs (r ∷ rs) = omega (arith, length-append (reloc_bytes r) (flat_map reloc_bytes rs), length-reloc_bytes r, length-relocs rs)

pub pieces_in_order : (p : Image) → AreInOrder 0 (pieces p)
pieces_in_order p =
    let o : InOrder p = in_order p in
    let h = length-ehdr (header p) refl in
    let s1 = length-phdr (read_only_part p) in
    let s2 = length-phdr (code_part p) in
    let s3 = length-phdr (writable_part p) in
    let s4 = length-phdr (dynamic_part p) in
    let r = length-relocs p.relocs in
    let w = length-words p.words in
    let d = length-dynamic_entries p in (
      omega arith,
      (
        omega (arith, h),
        (
          omega (arith, s1),
          (
            omega (arith, s2),
            (
              omega (arith, s3),
              (
                omega (arith, s4),
                (
                  omega arith,
                  (omega (arith, r), (omega arith, (omega arith, (omega (arith, w), (omega (arith, d), tt))))),
                ),
              ),
            ),
          ),
        ),
      ),
    )

pieces_end : (p : Image) → end_of 0 (pieces p) ≡ file_end p
pieces_end p = let o : InOrder p = in_order p in sym o.file

-- the file that is written
pub is_file : (p : Image) (file : List ℕ) → IsValid p → file ≡ put_all (loaded_pieces p) (put_all (table_pieces p) (put_all
    (header_pieces p) [])) → ImageFile p file
is_file p file valid e = record {
  valid = valid;
  laid_out = subst (λ (f : List ℕ). IsLaidOut (pieces p) (file_end p) f) (sym e) (laid_out (pieces p) (file_end p)
      (pieces_in_order p) (pieces_end p));
}
