-- The places of an image hang on the sizes of its parts alone.
use Rattle.std.proofs.Common.{◌≡◌, ℕ, suc, ◌+◌, List, [], ◌∷◌, length, map, refl, sym, ap, ◌∙◌, arith, length-append}
use Rattle.std.proofs.lemmas.List.{length-replicate, length-map}
use Rattle.elf_obj.specs.Object.{Object}
use Rattle.elf_image.specs.Image.{Image}
use Rattle.elf_image.specs.Places.{descriptors_place, rodata_place, rodata_end, code_place, code_end, dynamic_place, dynamic_count}
use Rattle.elf_image.specs.Places.{dynamic_end}
use Rattle.elf_image.specs.Places.{filled_place, file_end, memory_end}
use Rattle.linker.specs.declared.bases.Bases.{Bases}
use Rattle.linker.specs.Sections.{each_from}
use Rattle.linker.specs.Got.{got}
use Rattle.linker.specs.Addresses.{bases_of}
use Rattle.linker.specs.Relocations.{relative, got_reloc, data_reloc, data_relocs_from, data_reloc_count, relocations, relocation_count}
use Rattle.linker.specs.Code.{code_words}
use Rattle.linker.specs.Data.{rodata_size, filled_size}
use Rattle.linker.specs.Tagged.{sized}
use Rattle.linker.specs.Linked.{Linked}

pub record AreAsLarge (p q : Image) : Type 0 where
  pub relocs : length p.relocs ≡ length q.relocs
  pub descriptors : length p.descriptors ≡ length q.descriptors
  pub rodata : length p.rodata ≡ length q.rodata
  pub words : length p.words ≡ length q.words
  pub filled : length p.filled ≡ length q.filled

-- ---- places

same_rodata : (p q : Image) → AreAsLarge p q → rodata_place p ≡ rodata_place q
unfolding rodata_place descriptors_place
same_rodata p q h = let r = h.relocs in let d = h.descriptors in rw (r, d) refl

same_code : (p q : Image) → AreAsLarge p q → code_place p ≡ code_place q
unfolding code_place rodata_end
same_code p q h = let r = same_rodata p q h in let s = h.rodata in rw (r, s) refl

same_dynamic : (p q : Image) → AreAsLarge p q → dynamic_place p ≡ dynamic_place q
unfolding dynamic_place code_end
same_dynamic p q h = let r = same_code p q h in let s = h.words in rw (r, s) refl

same_count : (a b : List ℕ) → length a ≡ length b → dynamic_count a ≡ dynamic_count b
same_count [] [] e = refl
same_count [] (y ∷ ys) e = absurd (omega arith)
same_count (x ∷ xs) [] e = absurd (omega arith)
same_count (x ∷ xs) (y ∷ ys) e = refl

same_filled : (p q : Image) → AreAsLarge p q → filled_place p ≡ filled_place q
unfolding filled_place dynamic_end
same_filled p q h = let r = same_dynamic p q h in let s = same_count p.descriptors q.descriptors h.descriptors in rw (r, s) refl

same_end : (p q : Image) → AreAsLarge p q → file_end p ≡ file_end q
unfolding file_end
same_end p q h = let r = same_filled p q h in let s = h.filled in rw (r, s) refl

pub same_memory : (p q : Image) → AreAsLarge p q → p.zero_bytes ≡ q.zero_bytes → memory_end p ≡ memory_end q
unfolding memory_end
same_memory p q h z = let r = same_end p q h in rw (r, z) refl

-- images that are as large have the same places
pub same_bases : (p q : Image) → AreAsLarge p q → bases_of p ≡ bases_of q
same_bases p q h =
    let r = same_rodata p q h in
    let c = same_code p q h in
    let f = same_filled p q h in
    let e = same_end p q h in
    λ i. record { rodata = r i; code = c i; filled = f i; zeros = e i }

-- ---- how many relocations there are

pub length-each_from : {A B : Type 0} (k : ℕ) (f : ℕ → A → B) (xs : List A) → length (each_from k f xs) ≡ length xs
length-each_from k f [] = refl
length-each_from {A} {B} k f (x ∷ xs) = ap suc (length-each_from (k + 1) f xs)

length-data_relocs : (objects : List Object) (bases : Bases) (k : ℕ) (os : List Object)
    → length (data_relocs_from objects bases k os) ≡ data_reloc_count os
length-data_relocs objects bases k [] = refl
length-data_relocs objects bases k (o ∷ os) =
    let front = map (data_reloc objects bases k o) o.init_relocs in
    omega (
      arith,
      length-append front (data_relocs_from objects bases (k + 1) os),
      length-map o.init_relocs (data_reloc objects bases k o),
      length-data_relocs objects bases (k + 1) os,
    )

pub length-relocations : (objects : List Object) (bases : Bases) → length (relocations objects bases) ≡ relocation_count objects
length-relocations objects bases =
    omega (
      arith,
      length-append (each_from 0 (got_reloc objects bases) (got objects)) (data_relocs_from objects bases 0 objects),
      length-each_from 0 (got_reloc objects bases) (got objects),
      length-data_relocs objects bases 0 objects,
    )

-- ---- the image of objects

-- it is as large as they make it
pub linked_sizes : (objects : List Object) (image : Image) → Linked objects image
    → AreAsLarge image (sized objects (length image.descriptors))
unfolding sized
linked_sizes objects image h =
    let count = length image.descriptors in record {
      relocs = ap length h.relocs ∙ length-relocations objects (bases_of image)
          ∙ sym (length-replicate (relocation_count objects) (relative 0 0));
      descriptors = sym (length-replicate count 0);
      rodata = h.rodata.len ∙ sym (length-replicate (rodata_size objects) 0);
      words = h.code.len ∙ sym (length-replicate (code_words objects) 0);
      filled = h.filled.len ∙ sym (length-replicate (filled_size objects) 0);
    }

-- and has the places to which the length of its descriptors leads
pub linked_bases : (objects : List Object) (image : Image) → Linked objects image
    → bases_of image ≡ bases_of (sized objects (length image.descriptors))
linked_bases objects image h = same_bases image (sized objects (length image.descriptors)) (linked_sizes objects image h)
