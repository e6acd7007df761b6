-- The bytes behind relocations: pointers put in order, the last one at a place counts, and what is at no place stays.
use Rattle.std.proofs.Common.{◌≡◌, ◌<◌, ℕ, zero, suc, ◌+◌, ◌-◌, true, false, List, [], ◌∷◌, ◌++◌}
use Rattle.std.proofs.Common.{length, get_or, map, pos, reverse, Option, Some, None, slice_index, refl, sym, ap, ◌∙◌, inl, inr, arith}
use mathlib.Core.Path.{fun_ext}
use Rattle.std.specs.List.{find}
use Rattle.std.specs.Option.{option_or}
use Rattle.std.proofs.lemmas.Bool.{cases_Bool}
use Rattle.std.proofs.lemmas.List.{reverse-append}
use Rattle.std.proofs.lemmas.List.Folds.{find-append}
use Rattle.mt_base.specs.Memory.{bytes_of, store, store_bytes}
use Rattle.mt_base.specs.Laws.Memory.{length-bytes_of}
use Rattle.elf_image.specs.declared.parts.RelativeReloc.{RelativeReloc}
use Rattle.tag_startup.specs.Memory.{stored}
use Rattle.tag_startup.specs.Parts.{load_address}
use Rattle.tag_startup.specs.Relocated.{Before, pointer, is_at_place, byte_by, relocated_byte}

-- the last of a list and one before it
reversed : (r : RelativeReloc) (relocs : List RelativeReloc) → reverse (r ∷ relocs) ≡ reverse relocs ++ r ∷ []
reversed r relocs = reverse-append (r ∷ []) relocs

find_last : (at : ℕ) (r : RelativeReloc) (relocs : List RelativeReloc) →
    find (is_at_place at) (reverse (r ∷ relocs)) ≡ option_or (find (is_at_place at) (reverse relocs)) (find (is_at_place at) (r ∷ []))
find_last at r relocs = ap (find (is_at_place at)) (reversed r relocs) ∙ find-append (is_at_place at) (reverse relocs) (r ∷ [])

-- the byte by a relocation, over bytes of its own
by : Before → (ℕ → ℕ) → Option RelativeReloc → ℕ → ℕ
by memory byte None at = byte at
by memory byte (Some r) at = slice_index (bytes_of 8 (pointer memory r)) (at - (load_address + r.place))

one_stored : (memory : Before) (byte : ℕ → ℕ) (r : RelativeReloc) (found : Option RelativeReloc) (at : ℕ) →
    by memory (store 8 byte (load_address + r.place) (pointer memory r)) found at
    ≡ by memory byte (option_or found (find (is_at_place at) (r ∷ []))) at
unfolding by store_bytes
one_stored memory byte r (Some last) at = refl
one_stored memory byte r None at = elim (cases_Bool (is_at_place at r)) [
  | inl here ↦ rw (length-bytes_of 8 (pointer memory r)) (rw here refl)
  | inr other ↦ rw (length-bytes_of 8 (pointer memory r)) (rw other refl)
]

stored_by : (memory : Before) (byte : ℕ → ℕ) (relocs : List RelativeReloc) (at : ℕ) →
    stored byte relocs (map (pointer memory) relocs) at ≡ by memory byte (find (is_at_place at) (reverse relocs)) at
unfolding stored by
stored_by memory byte [] at = refl
stored_by memory byte (r ∷ relocs) at =
    stored_by memory (store 8 byte (load_address + r.place) (pointer memory r)) relocs at
    ∙ one_stored memory byte r (find (is_at_place at) (reverse relocs)) at
    ∙ ap (λ found. by memory byte found at) (sym (find_last at r relocs))

by_is : (memory : Before) (found : Option RelativeReloc) (at : ℕ) → by memory memory.byte found at ≡ byte_by memory found at
unfolding by
by_is memory None at = refl
by_is memory (Some r) at = refl

-- pointers that are put in order, each at its place, are the bytes behind the relocations
pub pointers_stored : (memory : Before) (relocs : List RelativeReloc) →
    stored memory.byte relocs (map (pointer memory) relocs) ≡ relocated_byte memory relocs
unfolding relocated_byte
pointers_stored memory relocs = fun_ext (λ at.
    stored_by memory memory.byte relocs at ∙ by_is memory (find (is_at_place at) (reverse relocs)) at)

-- ---- what is at no place

one_fails : (at : ℕ) (r : RelativeReloc) → is_at_place at r ≡ false → find (is_at_place at) (r ∷ []) ≡ None
one_fails at r other = rw other refl

find_nowhere : (at : ℕ) (relocs : List RelativeReloc) (d : RelativeReloc) →
    ((k : ℕ) → k < length relocs → is_at_place at (get_or relocs k d) ≡ false) → find (is_at_place at) (reverse relocs) ≡ None
find_nowhere at [] d none = refl
find_nowhere at (r ∷ relocs) d none =
    find_last at r relocs
    ∙ ap (λ found. option_or found (find (is_at_place at) (r ∷ [])))
    (find_nowhere at relocs d (λ k inside. none (suc k) (omega (arith, inside))))
    ∙ one_fails at r (none 0 (omega arith))

-- a byte that is at no place stays
pub byte_kept : (memory : Before) (relocs : List RelativeReloc) (at : ℕ) →
    ((k : ℕ) (d : RelativeReloc) → k < length relocs → is_at_place at (get_or relocs k d) ≡ false) →
    relocated_byte memory relocs at ≡ memory.byte at
unfolding relocated_byte
byte_kept memory relocs at none =
    ap (λ found. byte_by memory found at) (find_nowhere at relocs (record { place = 0; addend = pos 0 }) (λ k. none k _))

-- without relocations all bytes stay
pub no_relocations : (memory : Before) → relocated_byte memory [] ≡ memory.byte
unfolding relocated_byte
no_relocations memory = refl

-- ---- the last relocation at a place

-- where one has a byte and none behind it in the list does, the byte is of that one
pub find_that : (at : ℕ) (relocs : List RelativeReloc) (k : ℕ) (d : RelativeReloc) → k < length relocs →
    is_at_place at (get_or relocs k d) ≡ true →
    ((j : ℕ) → k < j → j < length relocs → is_at_place at (get_or relocs j d) ≡ false) →
    find (is_at_place at) (reverse relocs) ≡ Some (get_or relocs k d)
find_that at [] k d inside here last = absurd (omega (arith, inside))
find_that at (r ∷ relocs) zero d inside here last =
    find_last at r relocs
    ∙ ap (λ found. option_or found (find (is_at_place at) (r ∷ [])))
    (find_nowhere at relocs d (λ j below. last (suc j) (omega arith) (omega (arith, below))))
    ∙ rw here refl
find_that at (r ∷ relocs) (suc k) d inside here last =
    find_last at r relocs
    ∙ ap (λ found. option_or found (find (is_at_place at) (r ∷ [])))
    (find_that at relocs k d (omega (arith, inside)) here
    (λ j above below. last (suc j) (omega (arith, above)) (omega (arith, below))))
