-- Objects have one image, or are refused, and never both.
use Rattle.std.proofs.Common.{◌≡◌, ℕ, List, length, refl, sym, ap, subst, ◌∙◌, arith}
use Rattle.elf_base.specs.Layout.{IsLaidOut}
use Rattle.elf_base.specs.Laws.OneLayout.{one_layout}
use Rattle.elf_obj.specs.Object.{Object}
use Rattle.elf_image.specs.Image.{Image}
use Rattle.memtag_desc.specs.declared.interval.Interval.{Interval}
use Rattle.memtag_desc.specs.Descriptors.{IsDescriptor, small, large, DescribesFrom, nothing, next, Describes}
use Rattle.memtag_desc.specs.Laws.OneSpelling.{one_spelling}
use Rattle.linker.specs.declared.bases.Bases.{Bases}
use Rattle.linker.specs.Addresses.{bases_of}
use Rattle.linker.specs.Code.{code_pieces, code_words}
use Rattle.linker.specs.Data.{rodata_pieces, rodata_size, filled_pieces, filled_size}
use Rattle.linker.specs.Relocations.{relocations}
use Rattle.linker.specs.Tagged.{SpellsOne, small as spells_small, large as spells_large, SpellsFrom, nothing as spells_nothing}
use Rattle.linker.specs.Tagged.{next as spells_next}
use Rattle.linker.specs.Tagged.{AreTagged, tagged_from, sized, AgreesWithItself}
use Rattle.linker.specs.Linked.{Linked}
use Rattle.linker.specs.Laws.Sizes.{linked_bases}
use Rattle.linker.specs.Laws.OneOrder.{one_order}

-- ---- descriptors without bounds

spells_one : (distance size : ℕ) (bytes : List ℕ) → IsDescriptor distance size bytes → SpellsOne distance size bytes
spells_one distance size bytes (small _ _ _ some few n) = spells_small distance size bytes some few n.shortest
spells_one distance size bytes (large _ _ first second many n m) = spells_large distance size first second many n.shortest m.shortest

-- what describes intervals describes them without bounds
pub described_spells : (from : ℕ) (intervals : List Interval) (bytes : List ℕ) → DescribesFrom from intervals bytes
    → SpellsFrom from intervals bytes
described_spells from intervals bytes (nothing _) = spells_nothing from
described_spells from intervals bytes (next _ d n others first rest one le s) =
    spells_next from d n others first rest (spells_one d n first one) (described_spells _ others rest s)

-- ---- the image

-- the length of its descriptors agrees with itself
pub linked_agrees : (objects : List Object) (image : Image) → Linked objects image → AgreesWithItself objects (length image.descriptors)
linked_agrees objects image h = record {
  intervals = h.descriptors.intervals;
  bytes = image.descriptors;
  tagged = subst (λ (b : Bases). AreTagged objects b h.descriptors.intervals) (linked_bases objects image h) h.descriptors.tagged;
  spelled = described_spells 0 h.descriptors.intervals image.descriptors h.descriptors.described;
  len = refl;
}

-- two images of the same objects have descriptors of one length
one_length : (objects : List Object) (a b : Image) → Linked objects a → Linked objects b → length a.descriptors ≡ length b.descriptors
one_length objects a b h g =
    let one = h.descriptors.fewest (length b.descriptors) (linked_agrees objects b g) in
    let two = g.descriptors.fewest (length a.descriptors) (linked_agrees objects a h) in
    omega arith

one_place : (objects : List Object) (a b : Image) → Linked objects a → Linked objects b → bases_of a ≡ bases_of b
one_place objects a b h g =
    linked_bases objects a h ∙ ap (λ (n : ℕ). bases_of (sized objects n)) (one_length objects a b h g) ∙ sym (linked_bases objects b g)

-- where the parts begin at the same places, the descriptors are the same
one_descriptors : (objects : List Object) (bases : Bases) (xs ys : List Interval) (a b : List ℕ) → AreTagged objects bases xs
    → AreTagged objects bases ys → Describes xs a → Describes ys b → a ≡ b
one_descriptors objects bases xs ys a b h g d e =
    let same : xs ≡ ys = one_order (tagged_from objects bases 0 objects) xs ys a b h.all g.all d e in
    one_spelling ys a b (subst (λ (l : List Interval). Describes l a) same d) e

-- objects have one image
pub one_image : (objects : List Object) (a b : Image) → Linked objects a → Linked objects b → a ≡ b
one_image objects a b h g =
    let places : bases_of a ≡ bases_of b = one_place objects a b h g in
    let entry : a.entry ≡ b.entry = h.entry ∙ ap (λ (x : Bases). x.code) places ∙ sym g.entry in
    let relocs = h.relocs ∙ ap (relocations objects) places ∙ sym g.relocs in
    let tagged = subst (λ (x : Bases). AreTagged objects x h.descriptors.intervals) places h.descriptors.tagged in
    let descriptors : a.descriptors ≡ b.descriptors =
    one_descriptors objects (bases_of b) h.descriptors.intervals g.descriptors.intervals a.descriptors b.descriptors tagged
    g.descriptors.tagged h.descriptors.described g.descriptors.described in
    let rodata : a.rodata ≡ b.rodata = one_layout (rodata_pieces objects) (rodata_size objects) a.rodata b.rodata h.rodata g.rodata in
    let code = subst (λ (x : Bases). IsLaidOut (code_pieces objects x) (code_words objects) a.words) places h.code in
    let words : a.words ≡ b.words = one_layout (code_pieces objects (bases_of b)) (code_words objects) a.words b.words code g.code in
    let filled : a.filled ≡ b.filled = one_layout (filled_pieces objects) (filled_size objects) a.filled b.filled h.filled g.filled in
    let zeros : a.zero_bytes ≡ b.zero_bytes = h.zero_bytes ∙ sym g.zero_bytes in
    λ i. record {
      entry = entry i;
      relocs = relocs i;
      descriptors = descriptors i;
      rodata = rodata i;
      words = words i;
      filled = filled i;
      zero_bytes = zeros i;
    }
