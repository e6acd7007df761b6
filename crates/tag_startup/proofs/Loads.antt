-- What memory of zeros shows after the three parts of an image were put into it.
use Rattle.std.proofs.Common.{◌≡◌, ◌<◌, ◌≤◌, ℕ, ◌+◌, ◌-◌, List, length, get_or, replicate, Bool, true, false}
use Rattle.std.proofs.Common.{refl, sym, ap, ap₂, ◌∙◌, inl, inr, arith, if◌then◌else◌, ◌∷◌, []}
use mathlib.Core.Path.{fun_ext}
use Rattle.std.proofs.lemmas.Bool.{cases_Bool, cases_lt}
use Rattle.std.proofs.lemmas.Bool.Decides.{nat_tests}
use Rattle.std.proofs.lemmas.List.{get_or_past, get_or-replicate, get_or_append_left, get_or-append_right}
use Rattle.mt_base.specs.Granules.{round16}
use Rattle.mt_base.specs.Laws.Granules.{round16-covers}
use Rattle.mt_base.specs.Laws.Memory.{every_byte_from, store_bytes_inside, store_bytes_below, store_bytes_above}
use Rattle.mt_base.specs.Memory.{Extent, every_byte, is_between, is_in_extent, is_mapped, store_bytes}
use Rattle.elf_base.specs.Laying.{pad}
use Rattle.elf_image.specs.Image.{Image}
use Rattle.elf_image.specs.Pieces.{pieces}
use Rattle.elf_image.specs.FileByte.{byte_among}
use Rattle.elf_image.specs.Places.{IsValid, rodata_end, code_place, code_end, dynamic_place, memory_end}
use Rattle.elf_image.specs.LoadedBytes.{read_only_bytes, code_bytes, writable_bytes}
use Rattle.elf_image.specs.Laws.CodeBytes.{file_of, file_of-is}
use Rattle.elf_image.specs.Laws.FileBytes.{file_bytes}
use Rattle.elf_image.specs.Laws.Loading.{read_only_held, code_held, writable_held, length-read_only, length-code, length-writable}
use Rattle.tag_pages.specs.declared.bounds.Bounds.{Bounds}
use Rattle.tag_pages.specs.Parts.{extent, extents}
use Rattle.tag_startup.specs.Parts.{IsStack, load_address, stack_end, part, stack_region, loaded_regions, file_byte}
use Rattle.tag_startup.specs.Laws.Placed.{AreInOrder, in_order}

-- ---- bytes put over a byte that is zero

over_zero : (byte : ℕ → ℕ) (start n : ℕ) (bytes : List ℕ) (at : ℕ) → start ≤ at → at - start < n → byte at ≡ 0 →
    store_bytes byte start bytes at ≡ get_or (pad n bytes) (at - start) 0
unfolding pad
over_zero byte start n bytes at from below zero = elim (cases_lt (at - start) (length bytes)) [
  | inl inside ↦
      ap (store_bytes byte start bytes) (let e : at ≡ start + (at - start) = omega (arith, from) in e)
      ∙ store_bytes_inside byte start bytes (at - start) inside
      ∙ sym (get_or_append_left bytes (replicate (n - length bytes) 0) 0 (at - start) inside)
  | inr after ↦
      store_bytes_above byte start bytes at (omega (arith, from, after))
      ∙ zero
      ∙ sym (get_or-append_right bytes (replicate (n - length bytes) 0) (length bytes) (at - start) 0 refl after
      ∙ get_or-replicate (n - length bytes) (at - start - length bytes) 0 0 (omega (arith, after, below)))
]

-- ---- the parts of an image

-- the memory with its parts
abbrev pub with_parts : Image → (ℕ → ℕ) → ℕ → ℕ
with_parts image zero =
    store_bytes
    (store_bytes (store_bytes zero load_address (read_only_bytes image)) (load_address + code_place image) (code_bytes image))
    (load_address + dynamic_place image) (writable_bytes image)

-- where an address lies in an extent, and where it does not
in_extent : (start bytes at : ℕ) → is_between start bytes at ≡ true → (start ≤ at) × (at - start < bytes)
in_extent start bytes at holds = (grind (arith, nat_tests), grind (arith, nat_tests))

-- bytes that do not reach an address leave it
uncovered : (byte : ℕ → ℕ) (start n : ℕ) (bytes : List ℕ) (at : ℕ) → length bytes ≤ n → is_between start n at ≡ false →
    store_bytes byte start bytes at ≡ byte at
uncovered byte start n bytes at most other = elim (cases_lt at start) [
  | inl below ↦ store_bytes_below byte start bytes at below
  | inr from ↦ store_bytes_above byte start bytes at (omega (arith, most, after from))
]
  where
    after : start ≤ at → start + n ≤ at
    after from = grind (arith, nat_tests)

-- the parts put into memory of zeros are what an image's file has there
pub parts_shown : (image : Image) (stack : ℕ) (zero : ℕ → ℕ) → IsValid image → IsStack stack → ((at : ℕ) → zero at ≡ 0) →
    with_parts image zero ≡ file_byte image stack
unfolding file_byte loaded_regions
parts_shown image stack zero valid is none = fun_ext each
  where
    order : AreInOrder image
    order = in_order image valid

    file : List ℕ
    file = file_of image

    first : ℕ → ℕ
    first = store_bytes zero load_address (read_only_bytes image)

    second : ℕ → ℕ
    second = store_bytes first (load_address + code_place image) (code_bytes image)

    in_first : (at : ℕ) → load_address ≤ at → at - load_address < round16 (rodata_end image - 0) →
        with_parts image zero at ≡ get_or file (at - load_address) 0
    in_first at from below =
        store_bytes_below second (load_address + dynamic_place image) (writable_bytes image) at
        (omega (arith, from, below, order.code_from, order.code_within, order.dynamic_from))
        ∙ store_bytes_below first (load_address + code_place image) (code_bytes image) at (omega (arith, from, below, order.code_from))
        ∙ over_zero zero load_address (round16 (rodata_end image - 0)) (read_only_bytes image) at from below (none at)
        ∙ read_only_held image (round16 (rodata_end image - 0)) (at - load_address) (omega (arith, order.code_from)) below

    in_second : (at : ℕ) → load_address + code_place image ≤ at →
        at - (load_address + code_place image) < round16 (code_end image - code_place image) →
        with_parts image zero at ≡ get_or file (at - load_address) 0
    in_second at from below =
        store_bytes_below second (load_address + dynamic_place image) (writable_bytes image) at
        (omega (arith, from, below, order.dynamic_from))
        ∙ over_zero first (load_address + code_place image) (round16 (code_end image - code_place image)) (code_bytes image) at from below
        (store_bytes_above zero load_address (read_only_bytes image) at
        (omega (arith, from, length-read_only image, order.code_from, round16-covers (rodata_end image))) ∙ none at)
        ∙ code_held image (round16 (code_end image - code_place image)) (at - (load_address + code_place image)) order.dynamic_from below
        ∙ ap (λ i. get_or file i 0)
        (let e : code_place image + (at - (load_address + code_place image)) ≡ at - load_address = omega (arith, from) in e)

    in_third : (at : ℕ) → load_address + dynamic_place image ≤ at →
        at - (load_address + dynamic_place image) < round16 (memory_end image - dynamic_place image) →
        with_parts image zero at ≡ get_or file (at - load_address) 0
    in_third at from below =
        over_zero second (load_address + dynamic_place image) (round16 (memory_end image - dynamic_place image)) (writable_bytes image) at
        from below
        (store_bytes_above first (load_address + code_place image) (code_bytes image) at
        (omega (arith, from, length-code image, order.dynamic_from, round16-covers (code_end image - code_place image)))
        ∙ store_bytes_above zero load_address (read_only_bytes image) at
        (omega (
          arith,
          from,
          length-read_only image,
          order.code_from,
          order.code_within,
          order.dynamic_from,
          round16-covers (rodata_end image),
        ))
        ∙ none at)
        ∙ writable_held image (round16 (memory_end image - dynamic_place image)) (at - (load_address + dynamic_place image)) below
        ∙ ap (λ i. get_or file i 0)
        (let e : dynamic_place image + (at - (load_address + dynamic_place image)) ≡ at - load_address = omega (arith, from) in e)

    -- no part reaches an address that none of the three regions has
    nothing : (at : ℕ) → is_in_extent (part 0 (rodata_end image) false false) at ≡ false →
        is_in_extent (part (code_place image) (code_end image) false true) at ≡ false →
        is_in_extent (part (dynamic_place image) (memory_end image) true false) at ≡ false → with_parts image zero at ≡ 0
    nothing at a b c =
        uncovered second (load_address + dynamic_place image) (round16 (memory_end image - dynamic_place image)) (writable_bytes image) at
        (omega (arith, length-writable image, order.file_within, round16-covers (memory_end image - dynamic_place image))) c
        ∙ uncovered first (load_address + code_place image) (round16 (code_end image - code_place image)) (code_bytes image) at
        (omega (arith, length-code image, round16-covers (code_end image - code_place image))) b
        ∙ uncovered zero (load_address + 0) (round16 (rodata_end image - 0)) (read_only_bytes image) at
        (omega (arith, length-read_only image, round16-covers (rodata_end image - 0))) a
        ∙ none at

    -- the stack lies after the file
    past : (at : ℕ) → is_in_extent (stack_region stack) at ≡ true → get_or file (at - load_address) 0 ≡ 0
    past at holds = get_or_past file (at - load_address) 0 (omega (
      arith,
      (in_extent (stack_end - stack) stack at holds).0,
      is.most,
      (file_of-is image valid).laid_out.len,
      order.file_within,
      valid.memory,
    ))

    same : (i : ℕ) → get_or file (i - load_address) 0 ≡ byte_among (pieces image) (i - load_address)
    same i = file_bytes image file (i - load_address) (file_of-is image valid)

    each : (at : ℕ) → with_parts image zero at ≡ file_byte image stack at
    each at = elim (cases_Bool (is_in_extent (part 0 (rodata_end image) false false) at)) [
      | inl a ↦
          let within = in_extent (load_address + 0) (round16 (rodata_end image - 0)) at a in
          rw a (in_first at (omega (arith, within.0)) (omega (arith, within.1)) ∙ same at)
      | inr a ↦ elim (cases_Bool (is_in_extent (part (code_place image) (code_end image) false true) at)) [
        | inl b ↦
            let within = in_extent (load_address + code_place image) (round16 (code_end image - code_place image)) at b in
            rw a (rw b (in_second at within.0 within.1 ∙ same at))
        | inr b ↦ elim (cases_Bool (is_in_extent (part (dynamic_place image) (memory_end image) true false) at)) [
          | inl c ↦
              let within = in_extent (load_address + dynamic_place image) (round16 (memory_end image - dynamic_place image)) at c in
              rw a (rw b (rw c (in_third at within.0 within.1 ∙ same at)))
          | inr c ↦ elim (cases_Bool (is_in_extent (stack_region stack) at)) [
            | inl d ↦ rw a (rw b (rw c (rw d (nothing at a b c ∙ sym (past at d) ∙ same at))))
            | inr d ↦ rw a (rw b (rw c (rw d (nothing at a b c))))
          ]
        ]
      ]
    ]

-- the four regions of an image and its stack
pub four_places : (image : Image) (stack : ℕ) (a b c d : Bounds) → extent a ≡ part 0 (rodata_end image) false false →
    extent b ≡ part (code_place image) (code_end image) false true →
    extent c ≡ part (dynamic_place image) (memory_end image) true false →
    extent d ≡ stack_region stack → extents (a ∷ b ∷ c ∷ d ∷ []) ≡ loaded_regions image stack
unfolding loaded_regions
four_places image stack a b c d read_only code writable last = first read_only (first code (first writable (first last refl)))
  where
    first : {x y : Extent} {xs ys : List Extent} → x ≡ y → xs ≡ ys → x ∷ xs ≡ y ∷ ys
    first same rest = ap₂ (λ z zs. z ∷ zs) same rest

-- ---- the regions have room for the parts

inside_of : (start n at : ℕ) → start ≤ at → at < start + n → is_between start n at ≡ true
inside_of start n at from below = grind (arith, nat_tests)

pub first_mapped : (image : Image) (stack : ℕ) →
    every_byte (is_mapped (loaded_regions image stack)) load_address (length (read_only_bytes image)) ≡ true
unfolding loaded_regions
first_mapped image stack = every_byte_from _ load_address (length (read_only_bytes image)) (λ k below.
    rw (inside_of (load_address + 0) (round16 (rodata_end image - 0)) (load_address + k) (omega arith)
    (omega (arith, below, length-read_only image, round16-covers (rodata_end image - 0)))) refl)

pub second_mapped : (image : Image) (stack : ℕ) →
    every_byte (is_mapped (loaded_regions image stack)) (load_address + code_place image) (length (code_bytes image)) ≡ true
unfolding loaded_regions
second_mapped image stack = every_byte_from _ (load_address + code_place image) (length (code_bytes image)) (λ k below.
    let at : ℕ = load_address + code_place image + k in
    elim (cases_Bool (is_in_extent (part 0 (rodata_end image) false false) at)) [
      | inl a ↦ rw a refl
      | inr a ↦ rw a (rw (inside_of (load_address + code_place image) (round16 (code_end image - code_place image)) at (omega arith)
          (omega (arith, below, length-code image, round16-covers (code_end image - code_place image)))) refl)
    ])

pub third_mapped : (image : Image) (stack : ℕ) → IsValid image →
    every_byte (is_mapped (loaded_regions image stack)) (load_address + dynamic_place image) (length (writable_bytes image)) ≡ true
unfolding loaded_regions
third_mapped image stack valid = every_byte_from _ (load_address + dynamic_place image) (length (writable_bytes image)) (λ k below.
    let at : ℕ = load_address + dynamic_place image + k in
    elim (cases_Bool (is_in_extent (part 0 (rodata_end image) false false) at)) [
      | inl a ↦ rw a refl
      | inr a ↦ elim (cases_Bool (is_in_extent (part (code_place image) (code_end image) false true) at)) [
        | inl b ↦ rw a (rw b refl)
        | inr b ↦ rw a (rw b (rw
            (inside_of (load_address + dynamic_place image) (round16 (memory_end image - dynamic_place image)) at (omega arith)
            (omega (
              arith,
              below,
              length-writable image,
              (in_order image valid).file_within,
              round16-covers (memory_end image - dynamic_place image),
            ))) refl))
      ]
    ])
