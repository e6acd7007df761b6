-- The parts of an image follow one another.
use Rattle.std.proofs.Common.{◌≡◌, ℕ, ◌+◌, ◌*◌, ◌≤◌, length, refl, arith}
use Rattle.mt_base.specs.Laws.Granules.{round16-covers}
use Rattle.elf_image.specs.Image.{Image}
use Rattle.elf_image.specs.Places.{IsValid, round_page, dynamic_count, descriptors_place, rodata_place, rodata_end, code_place, code_end}
use Rattle.elf_image.specs.Places.{dynamic_place, dynamic_end, filled_place, file_end, memory_end}

pub le-round_page : (x : ℕ) → x ≤ round_page x
le-round_page x = omega arith

pub record InOrder (p : Image) : Type 0 where
  pub relocs : descriptors_place p ≡ 0x140 + 24 * length p.relocs
  pub descriptors : descriptors_place p + length p.descriptors ≤ rodata_place p
  pub rodata : rodata_end p ≡ rodata_place p + length p.rodata
  pub code : rodata_end p ≤ code_place p
  pub words : code_end p ≡ code_place p + 4 * length p.words
  pub dynamic : code_end p ≤ dynamic_place p
  pub entries : dynamic_end p ≡ dynamic_place p + 16 * dynamic_count p.descriptors
  pub filled : dynamic_end p ≤ filled_place p
  pub file : file_end p ≡ filled_place p + length p.filled
  pub memory : memory_end p ≡ file_end p + p.zero_bytes

pub in_order : (p : Image) → InOrder p
unfolding descriptors_place rodata_place rodata_end code_place code_end dynamic_place dynamic_end filled_place file_end memory_end
in_order p = record {
  relocs = refl;
  descriptors = round16-covers (descriptors_place p + length p.descriptors);
  rodata = refl;
  code = le-round_page (rodata_end p);
  words = refl;
  dynamic = le-round_page (code_end p);
  entries = refl;
  filled = round16-covers (dynamic_end p);
  file = refl;
  memory = refl;
}

-- all that a valid image holds lies below its limit
pub record Within (p : Image) : Type 0 where
  pub relocs : 24 * length p.relocs ≤ 268435456
  pub descriptors : descriptors_place p + length p.descriptors ≤ 268435456
  pub rodata : rodata_place p + length p.rodata ≤ 268435456
  pub rodata_end : rodata_end p ≤ 268435456
  pub words : code_place p + 4 * length p.words ≤ 268435456
  pub code_end : code_end p ≤ 268435456
  pub dynamic : dynamic_place p ≤ 268435456
  pub entries : dynamic_place p + 16 * dynamic_count p.descriptors ≤ 268435456
  pub dynamic_end : dynamic_end p ≤ 268435456
  pub file : filled_place p + length p.filled ≤ 268435456
  pub memory : file_end p + p.zero_bytes ≤ 268435456

pub within : (p : Image) → IsValid p → Within p
within p valid =
    let o : InOrder p = in_order p in
    let limit : memory_end p ≤ 268435456 = valid.memory in
    record {
      relocs = omega arith;
      descriptors = omega arith;
      rodata = omega arith;
      rodata_end = omega arith;
      words = omega arith;
      code_end = omega arith;
      dynamic = omega arith;
      entries = omega arith;
      dynamic_end = omega arith;
      file = omega arith;
      memory = omega arith;
    }
