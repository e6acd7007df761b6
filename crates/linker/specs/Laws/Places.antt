-- The places of the image that is as large as that of objects, by its sizes.
use Rattle.std.proofs.Common.{◌≡◌, ℕ, zero, suc, List, replicate, refl}
use Rattle.std.proofs.lemmas.List.{length-replicate}
use Rattle.elf_obj.specs.Object.{Object}
use Rattle.elf_image.specs.Places.{descriptors_place, rodata_place, rodata_end, code_place, code_end, dynamic_place, dynamic_count}
use Rattle.elf_image.specs.Places.{dynamic_end}
use Rattle.elf_image.specs.Places.{filled_place, file_end, memory_end}
use Rattle.linker.specs.Relocations.{relative, relocation_count}
use Rattle.linker.specs.Code.{code_words}
use Rattle.linker.specs.Data.{rodata_size, filled_size}
use Rattle.linker.specs.Tagged.{sized}
use Rattle.linker.specs.Totals.{totals_of, entry_count, rodata_by, code_by, filled_by, end_by, memory_by}

pub rodata_is : (objects : List Object) (count : ℕ) → rodata_place (sized objects count) ≡ rodata_by (totals_of objects) count
unfolding rodata_place descriptors_place sized rodata_by totals_of
rodata_is objects count = rw (length-replicate (relocation_count objects) (relative 0 0), length-replicate {A = ℕ} count 0) refl

pub code_is : (objects : List Object) (count : ℕ) → code_place (sized objects count) ≡ code_by (totals_of objects) count
unfolding code_place rodata_end sized code_by totals_of
code_is objects count = rw (rodata_is objects count, length-replicate {A = ℕ} (rodata_size objects) 0) refl

count_is : (count : ℕ) → dynamic_count (replicate count 0) ≡ entry_count count
count_is zero = refl
count_is (suc n) = refl

pub filled_is : (objects : List Object) (count : ℕ) → filled_place (sized objects count) ≡ filled_by (totals_of objects) count
unfolding filled_place dynamic_end dynamic_place code_end sized filled_by totals_of
filled_is objects count = rw (code_is objects count, length-replicate {A = ℕ} (code_words objects) 0, count_is count) refl

pub end_is : (objects : List Object) (count : ℕ) → file_end (sized objects count) ≡ end_by (totals_of objects) count
unfolding file_end sized end_by totals_of
end_is objects count = rw (filled_is objects count, length-replicate {A = ℕ} (filled_size objects) 0) refl

pub memory_is : (objects : List Object) (count : ℕ) → memory_end (sized objects count) ≡ memory_by (totals_of objects) count
unfolding memory_end sized memory_by totals_of
memory_is objects count = rw (end_is objects count) refl
