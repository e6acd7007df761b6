-- The file of an image is made of the bytes of its loaded parts, with zeros between; each part has the file's bytes from its place on.
use Rattle.std.proofs.Common.{◌≡◌, ℕ, ◌+◌, ◌-◌, ◌≤◌, ◌<◌, List, [], ◌++◌, length, get_or, replicate, refl, sym, ap, ◌∙◌, inl, inr, arith}
use Rattle.std.proofs.Common.{append_assoc, length-append}
use Rattle.std.proofs.lemmas.Bool.{cases_lt}
use Rattle.std.proofs.lemmas.List.{append-nil, length-replicate, get_or-replicate, get_or_append_left, get_or-append_right}
use Rattle.std.proofs.lemmas.List.{get_or-append-add}
use Rattle.elf_base.specs.Layout.{piece}
use Rattle.elf_base.specs.Laying.{pad, put}
use Rattle.elf_base.specs.Laws.LaidOut.{AreInOrder, length-put_all, length-pad}
use Rattle.elf_base.specs.Laws.Lengths.{length-ehdr, length-phdr, length-words}
use Rattle.elf_image.specs.Image.{Image}
use Rattle.elf_image.specs.Places.{rodata_end, code_place, code_end, dynamic_place, dynamic_end, filled_place, file_end}
use Rattle.elf_image.specs.Pieces.{header, read_only_part, code_part, writable_part, dynamic_part, header_pieces, table_pieces}
use Rattle.elf_image.specs.Pieces.{entries_bytes, dynamic_entries}
use Rattle.elf_image.specs.LoadedBytes.{read_only_bytes, code_bytes, writable_bytes}
use Rattle.elf_image.specs.Laws.CodeBytes.{file_of}
use Rattle.elf_image.specs.Laws.Entries.{length-dynamic_entries}
use Rattle.elf_image.specs.Laws.Order.{InOrder, in_order}
use Rattle.elf_image.specs.Laws.Whole.{length-relocs}

-- ---- zeros up to a place

reaches : (place : ℕ) (out : List ℕ) → place ≤ length (pad place out)
unfolding pad
reaches place out = omega (arith, length-append out (replicate (place - length out) 0), length-replicate {A = ℕ} (place - length out) 0)

-- none are needed where the place is no further than the end
pub put_at_end : (place : ℕ) (bytes out : List ℕ) → place ≤ length out → put (piece place bytes) out ≡ out ++ bytes
unfolding put pad
put_at_end place bytes out h =
    let none : place - length out ≡ 0 = omega (arith, h) in
    rw none (ap (λ (l : List ℕ). l ++ bytes) (append-nil out))

-- ---- the whole

filled_follows : (p : Image) → filled_place p ≡ dynamic_end p
unfolding filled_place dynamic_end dynamic_place
filled_follows p = omega arith

pub file_is : (p : Image) → file_of p ≡ pad (dynamic_place p) (pad (code_place p) (read_only_bytes p) ++ code_bytes p) ++ writable_bytes p
unfolding put
file_is p =
    let o : InOrder p = in_order p in
    let out = pad (dynamic_place p) (pad (code_place p) (read_only_bytes p) ++ code_bytes p) in
    let entries = entries_bytes (dynamic_entries p) in
    put_at_end (filled_place p) p.filled (out ++ entries) (omega (
      arith,
      filled_follows p,
      o.entries,
      length-append out entries,
      length-dynamic_entries p,
      reaches (dynamic_place p) (pad (code_place p) (read_only_bytes p) ++ code_bytes p),
    ))
    ∙ append_assoc out entries p.filled

-- ---- the length of each part

read_only_in_order : (p : Image) → AreInOrder 0 (header_pieces p ++ table_pieces p)
read_only_in_order p =
    let o : InOrder p = in_order p in
    let h = length-ehdr (header p) refl in
    let s1 = length-phdr (read_only_part p) in
    let s2 = length-phdr (code_part p) in
    let s3 = length-phdr (writable_part p) in
    let s4 = length-phdr (dynamic_part p) in
    let r = length-relocs p.relocs in (
      omega arith,
      (
        omega (arith, h),
        (
          omega (arith, s1),
          (
            omega (arith, s2),
            (omega (arith, s3), (omega (arith, s4), (omega arith, (omega (arith, r), (omega arith, tt))))),
          ),
        ),
      ),
    )

pub length-read_only : (p : Image) → length (read_only_bytes p) ≡ rodata_end p
length-read_only p =
    let o : InOrder p = in_order p in
    length-put_all (header_pieces p ++ table_pieces p) [] (read_only_in_order p) ∙ sym o.rodata

pub length-code : (p : Image) → code_place p + length (code_bytes p) ≡ code_end p
length-code p = let o : InOrder p = in_order p in omega (arith, o.words, length-words p.words)

pub length-writable : (p : Image) → dynamic_place p + length (writable_bytes p) ≡ file_end p
length-writable p =
    let o : InOrder p = in_order p in
    omega (arith, o.file, o.entries, filled_follows p, length-dynamic_entries p, length-append (entries_bytes (dynamic_entries p)) p.filled)

-- ---- the bytes of each part, with zeros up to its end

-- bytes with zeros behind them, as they stand in a file where zeros follow
within : (before bytes rest : List ℕ) (place n k : ℕ) → length before ≡ place → k < n
    → ((i : ℕ) → i < n - length bytes → get_or rest i 0 ≡ 0) →
    get_or (pad n bytes) k 0 ≡ get_or (before ++ (bytes ++ rest)) (place + k) 0
unfolding pad
within before bytes rest place n k start below zeros =
    here ∙ sym (get_or-append-add before (bytes ++ rest) k 0) ∙ ap (λ i. get_or (before ++ (bytes ++ rest)) (i + k) 0) start
  where
    here : get_or (bytes ++ replicate (n - length bytes) 0) k 0 ≡ get_or (bytes ++ rest) k 0
    here = elim (cases_lt k (length bytes)) [
      | inl inside ↦ get_or_append_left bytes (replicate (n - length bytes) 0) 0 k inside ∙ sym (get_or_append_left bytes rest 0 k inside)
      | inr after ↦
          get_or-append_right bytes (replicate (n - length bytes) 0) (length bytes) k 0 refl after
          ∙ get_or-replicate (n - length bytes) (k - length bytes) 0 0 (omega (arith, after, below))
          ∙ sym (zeros (k - length bytes) (omega (arith, after, below)))
          ∙ sym (get_or-append_right bytes rest (length bytes) k 0 refl after)
    ]

-- zeros that begin the rest
zeros_first : (n m i : ℕ) (rest : List ℕ) → n ≤ m → i < n → get_or (replicate m 0 ++ rest) i 0 ≡ 0
zeros_first n m i rest most below =
    get_or_append_left (replicate m 0) rest 0 i (omega (arith, most, below, length-replicate {A = ℕ} m 0))
    ∙ get_or-replicate m i 0 0 (omega (arith, most, below))

pub read_only_held : (p : Image) (n k : ℕ) → n ≤ code_place p → k < n → get_or (pad n (read_only_bytes p)) k 0 ≡ get_or (file_of p) k 0
unfolding pad
read_only_held p n k most below =
    within [] first (replicate (code_place p - length first) 0 ++ rest) 0 n k refl below
    (λ i small. zeros_first (n - length first) (code_place p - length first) i rest (omega (arith, most)) small)
    ∙ ap (λ (file : List ℕ). get_or file (0 + k) 0) (sym file)
    ∙ ap (λ i. get_or (file_of p) i 0) (let e : 0 + k ≡ k = omega arith in e)
  where
    first : List ℕ
    first = read_only_bytes p

    rest : List ℕ
    rest = code_bytes p ++ (replicate (dynamic_place p - length (pad (code_place p) first ++ code_bytes p)) 0 ++ writable_bytes p)

    file : file_of p ≡ first ++ (replicate (code_place p - length first) 0 ++ rest)
    file = file_is p ∙ simp append_assoc

pub code_held : (p : Image) (n k : ℕ) → code_place p + n ≤ dynamic_place p → k < n
    → get_or (pad n (code_bytes p)) k 0 ≡ get_or (file_of p) (code_place p + k) 0
unfolding pad
code_held p n k most below =
    within before (code_bytes p) rest (code_place p) n k start below
    (λ i small. zeros_first (n - length (code_bytes p)) (dynamic_place p - length (before ++ code_bytes p)) i (writable_bytes p)
    (omega (arith, most, start, length-append before (code_bytes p))) small)
    ∙ ap (λ (file : List ℕ). get_or file (code_place p + k) 0) (sym file)
  where
    before : List ℕ
    before = pad (code_place p) (read_only_bytes p)

    rest : List ℕ
    rest = replicate (dynamic_place p - length (before ++ code_bytes p)) 0 ++ writable_bytes p

    start : length before ≡ code_place p
    start = let o : InOrder p = in_order p in length-pad (code_place p) (read_only_bytes p) (omega (arith, o.code, length-read_only p))

    file : file_of p ≡ before ++ (code_bytes p ++ rest)
    file = file_is p ∙ simp append_assoc

pub writable_held : (p : Image) (n k : ℕ) → k < n → get_or (pad n (writable_bytes p)) k 0 ≡ get_or (file_of p) (dynamic_place p + k) 0
writable_held p n k below =
    within before (writable_bytes p) [] (dynamic_place p) n k (length-pad (dynamic_place p) code short) below (λ i small. refl)
    ∙ ap (λ (file : List ℕ). get_or file (dynamic_place p + k) 0)
    (ap (λ (l : List ℕ). before ++ l) (append-nil (writable_bytes p)) ∙ sym (file_is p))
  where
    code : List ℕ
    code = pad (code_place p) (read_only_bytes p) ++ code_bytes p

    before : List ℕ
    before = pad (dynamic_place p) code

    short : length code ≤ dynamic_place p
    short =
        let o : InOrder p = in_order p in
        let start = length-pad (code_place p) (read_only_bytes p) (omega (arith, o.code, length-read_only p)) in
        omega (arith, o.dynamic, start, length-code p, length-append (pad (code_place p) (read_only_bytes p)) (code_bytes p))
