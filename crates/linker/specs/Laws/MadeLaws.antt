-- The image that is made of objects which no condition refuses is theirs.
use Rattle.std.proofs.Common.{◌≡◌, ℕ, ◌+◌, List, [], map, length, None, refl, sym, ap, subst, ◌∙◌, arith}
use Rattle.std.proofs.lemmas.List.{length-replicate}
use Rattle.std.proofs.lemmas.Option.{none-some}
use Rattle.elf_base.specs.Layout.{IsLaidOut}
use Rattle.elf_base.specs.Laying.{pad, put_all}
use Rattle.elf_obj.specs.Object.{Object}
use Rattle.elf_image.specs.Image.{Image}
use Rattle.memtag_desc.specs.declared.interval.Interval.{Interval}
use Rattle.memtag_desc.specs.Descriptors.{Describes}
use Rattle.linker.specs.declared.bases.Bases.{Bases}
use Rattle.linker.specs.declared.spans.Span.{Span}
use Rattle.linker.specs.declared.refusal.LinkRefusal.{LinkRefusal}
use Rattle.linker.specs.Addresses.{bases_of}
use Rattle.linker.specs.Code.{code_pieces, code_words}
use Rattle.linker.specs.Data.{rodata_pieces, rodata_size, filled_pieces, filled_size, zero_size}
use Rattle.linker.specs.Relocations.{relative, relocations, relocation_count}
use Rattle.linker.specs.Tagged.{AreTagged, SpellsFrom, sized, IsFewest}
use Rattle.linker.specs.LinkFault.{LinkFault, too_many, repeated, no_main, missing, too_large, AreBound, excess}
use Rattle.linker.specs.Linked.{Linked}
use Rattle.linker.specs.Totals.{totals_of, filled_by, end_by}
use Rattle.linker.specs.Spans.{at_place, AreSpans, HasLength}
use Rattle.linker.specs.Planned.{bases_by}
use Rattle.linker.specs.Laws.Sizes.{AreAsLarge, same_bases, length-relocations}
use Rattle.linker.specs.Laws.OneFault.{one_count}
use Rattle.linker.specs.Laws.OneImage.{described_spells}
use Rattle.linker.specs.Laws.LaidLaws.{rodata_laid, code_laid}
use Rattle.linker.specs.Laws.FilledLaws.{filled_laid}
use Rattle.linker.specs.Laws.Spelled.{longer}
use Rattle.linker.specs.Laws.FewestLaws.{spans_tagged, agreed}
use Rattle.linker.specs.Laws.PlanLaws.{bases_is}

-- ---- no condition refuses the objects

pub accepted : (objects : List Object) (n : ℕ) → AreBound objects → IsFewest objects n → excess (sized objects n) ≡ None
    → (refusal : LinkRefusal) → LinkFault objects refusal → ⊥
accepted objects n bound fewest fits refusal (too_many many) = let few = bound.few in omega arith
accepted objects n bound fewest fits refusal (repeated e few is) = none-some e (sym bound.once ∙ is)
accepted objects n bound fewest fits refusal (no_main few once is) = let main = bound.main in cc
accepted objects n bound fewest fits refusal (missing e few once main is) = none-some e (sym bound.defined ∙ is)
accepted objects n bound fewest fits refusal (too_large m bytes also least is) =
    let same : n ≡ m = one_count objects n m fewest least in
    none-some bytes (sym fits ∙ ap (λ (k : ℕ). excess (sized objects k)) same ∙ is)

-- ---- the parts

-- the parts of the image with so many descriptor bytes
pub record IsMade (objects : List Object) (n : ℕ) (spans : List Span) (image : Image) : Type 0 where
  pub entry : image.entry ≡ (bases_by (totals_of objects) n).code
  pub relocs : image.relocs ≡ relocations objects (bases_by (totals_of objects) n)
  pub descriptors : Describes (map (at_place (filled_by (totals_of objects) n)) spans) image.descriptors
  pub rodata : image.rodata ≡ put_all (rodata_pieces objects) []
  pub words : image.words ≡ put_all (code_pieces objects (bases_by (totals_of objects) n)) []
  pub filled : image.filled ≡ pad (filled_size objects) (put_all (filled_pieces objects) [])
  pub zero_bytes : image.zero_bytes ≡ zero_size objects

-- the descriptors have so many bytes
as_many : (objects : List Object) (n : ℕ) (spans : List Span) (image : Image) → IsFewest objects n → AreSpans objects spans
    → IsMade objects n spans image → length image.descriptors ≡ n
as_many objects n spans image fewest h made =
    let place : ℕ = filled_by (totals_of objects) n in
    let mine : HasLength (SpellsFrom 0 (map (at_place place) spans)) (length image.descriptors) =
    record {
      bytes = image.descriptors;
      is = described_spells 0 (map (at_place place) spans) image.descriptors made.descriptors;
      len = refl;
    } in
    let theirs : HasLength (SpellsFrom 0 (map (at_place place) spans)) n = agreed objects spans n h fewest.agrees in
    let one = longer place place spans (length image.descriptors) n (omega arith) mine theirs in
    let two = longer place place spans n (length image.descriptors) (omega arith) theirs mine in omega arith

as_large : (objects : List Object) (n : ℕ) (spans : List Span) (image : Image) → length image.descriptors ≡ n
    → IsMade objects n spans image → AreAsLarge image (sized objects n)
unfolding sized
as_large objects n spans image count made =
    let bases : Bases = bases_by (totals_of objects) n in
    record {
      relocs = ap length made.relocs ∙ length-relocations objects bases
          ∙ sym (length-replicate (relocation_count objects) (relative 0 0));
      descriptors = count ∙ sym (length-replicate n 0);
      rodata = (rodata_laid objects image.rodata made.rodata).len ∙ sym (length-replicate (rodata_size objects) 0);
      words = (code_laid objects bases image.words made.words).len ∙ sym (length-replicate (code_words objects) 0);
      filled = (filled_laid objects image.filled made.filled).len ∙ sym (length-replicate (filled_size objects) 0);
    }

follow : (objects : List Object) (n : ℕ) → end_by (totals_of objects) n ≡ filled_by (totals_of objects) n + filled_size objects
unfolding end_by totals_of
follow objects n = refl

-- ---- the image

pub made_linked : (objects : List Object) (n : ℕ) (spans : List Span) (image : Image) → AreBound objects → IsFewest objects n
    → excess (sized objects n) ≡ None → AreSpans objects spans → IsMade objects n spans image → Linked objects image
made_linked objects n spans image bound fewest fits h made =
    let bases : Bases = bases_by (totals_of objects) n in
    let count : length image.descriptors ≡ n = as_many objects n spans image fewest h made in
    let same : bases_of image ≡ bases =
    same_bases image (sized objects n) (as_large objects n spans image count made) ∙ bases_is objects n in
    let intervals : List Interval = map (at_place bases.filled) spans in
    record {
      accepted = accepted objects n bound fewest fits;
      entry = made.entry ∙ sym (ap (λ (b : Bases). b.code) same);
      rodata = rodata_laid objects image.rodata made.rodata;
      code = subst (λ (b : Bases). IsLaidOut (code_pieces objects b) (code_words objects) image.words) (sym same)
          (code_laid objects bases image.words made.words);
      filled = filled_laid objects image.filled made.filled;
      zero_bytes = made.zero_bytes;
      relocs = made.relocs ∙ sym (ap (relocations objects) same);
      descriptors = record {
        intervals = intervals;
        tagged = subst (λ (b : Bases). AreTagged objects b intervals) (sym same) (spans_tagged objects spans bases (follow objects n) h);
        described = made.descriptors;
        fewest = λ other agree. let least = fewest.least other agree in omega arith;
      };
    }
