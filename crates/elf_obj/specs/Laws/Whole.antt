-- The pieces of an object follow one another up to the end of its file.
use Rattle.std.proofs.Common.{◌≡◌, ℕ, ◌+◌, ◌≤◌, List, [], ◌∷◌, ◌++◌, length, replicate, refl, sym, ap, subst, ◌∙◌, arith, append_assoc}
use Rattle.std.proofs.Common.{length-append}
use Rattle.std.specs.List.{flat_map}
use Rattle.std.proofs.lemmas.List.{length-replicate}
use Rattle.mt_base.specs.Granules.{round16}
use Rattle.elf_base.specs.Field.{bytes_of}
use Rattle.elf_base.specs.Layout.{Piece, piece, IsLaidOut}
use Rattle.elf_base.specs.Laying.{pad, put, put_all}
use Rattle.elf_base.specs.Records.{ehdr_fields}
use Rattle.elf_base.specs.Laws.Lengths.{length-ehdr}
use Rattle.elf_base.specs.Laws.LaidOut.{AreInOrder, end_of, length-put_all, laid_out, length-put}
use Rattle.elf_obj.specs.declared.section.Section.{Section}
use Rattle.elf_obj.specs.Object.{Object}
use Rattle.elf_obj.specs.Sections.{sections, sizes_of, contents_end, headers_place, file_size, headers_of}
use Rattle.elf_obj.specs.Records.{header}
use Rattle.elf_obj.specs.Contents.{contents, content_pieces, header_bytes, pieces}
use Rattle.elf_obj.specs.Laying.{put_next, put_contents}
use Rattle.elf_obj.specs.ObjectFile.{IsValid, ObjectFile}
use Rattle.elf_obj.specs.Laws.Lengths.{AreAsLong, contents_are_as_long, length-headers}

-- ---- lists of pieces

in_order-append : (at : ℕ) (ps qs : List Piece) → AreInOrder at ps → AreInOrder (end_of at ps) qs → AreInOrder at (ps ++ qs)
in_order-append at [] qs h g = g
in_order-append at (p ∷ ps) qs h g = (h.0, in_order-append (p.place + length p.bytes) ps qs h.1 g)

end_of-append : (at : ℕ) (ps qs : List Piece) → end_of at (ps ++ qs) ≡ end_of (end_of at ps) qs
end_of-append at [] qs = refl
end_of-append at (p ∷ ps) qs = end_of-append (p.place + length p.bytes) ps qs

put_all-append : (ps qs : List Piece) (out : List ℕ) → put_all (ps ++ qs) out ≡ put_all qs (put_all ps out)
put_all-append [] qs out = refl
put_all-append (p ∷ ps) qs out = put_all-append ps qs (put p out)

-- the first piece is put before all
first_put : (bytes : List ℕ) → put (piece 0 bytes) [] ≡ bytes
unfolding put pad
first_put bytes = refl

-- ---- contents

pub after_round : (at : ℕ) → at ≤ round16 at
after_round at = omega arith

contents_in_order : (at : ℕ) (ss : List Section) (cs : List (List ℕ)) → AreAsLong ss cs → AreInOrder at (content_pieces at ss cs)
contents_in_order at [] cs h = tt
contents_in_order at (s ∷ ss) [] h = absurd h
contents_in_order at (s ∷ ss) (c ∷ cs) h =
    let place : round16 at + s.bytes ≡ round16 at + length c = ap (λ (n : ℕ). round16 at + n) (sym h.0) in (
      after_round at,
      subst (λ (n : ℕ). AreInOrder n (content_pieces (round16 at + s.bytes) ss cs)) place
          (contents_in_order (round16 at + s.bytes) ss cs h.1),
    )

contents_end_is : (at : ℕ) (ss : List Section) (cs : List (List ℕ)) → AreAsLong ss cs
    → end_of at (content_pieces at ss cs) ≡ contents_end at ss
contents_end_is at [] cs h = refl
contents_end_is at (s ∷ ss) [] h = absurd h
contents_end_is at (s ∷ ss) (c ∷ cs) h =
    ap (λ (n : ℕ). end_of (round16 at + n) (content_pieces (round16 at + s.bytes) ss cs)) h.0
    ∙ contents_end_is (round16 at + s.bytes) ss cs h.1

-- contents that are put one after the other are those pieces
contents_put : (at : ℕ) (out : List ℕ) (ss : List Section) (cs : List (List ℕ)) → AreAsLong ss cs → at ≡ length out
    → put_contents cs out ≡ put_all (content_pieces at ss cs) out
unfolding put_next
contents_put at out [] [] h same = refl
contents_put at out [] (c ∷ cs) h same = absurd h
contents_put at out (s ∷ ss) [] h same = absurd h
contents_put at out (s ∷ ss) (c ∷ cs) h same =
    let first : put_next c out ≡ put (piece (round16 at) c) out = ap (λ (n : ℕ). put (piece (round16 n) c) out) (sym same) in
    let len : length (put (piece (round16 at) c) out) ≡ round16 at + length c =
    length-put (piece (round16 at) c) out (omega (arith, same)) in
    let next : round16 at + s.bytes ≡ length (put (piece (round16 at) c) out) = omega (arith, len, h.0) in
    ap (put_contents cs) first ∙ contents_put (round16 at + s.bytes) (put (piece (round16 at) c) out) ss cs h.1 next

-- ---- the whole

-- the section headers, of which the first is empty
abbrev pub last_bytes : Object → List ℕ
last_bytes p = replicate 64 0 ++ flat_map header_bytes (headers_of 64 (sections (sizes_of p)))

pub length-last : (p : Object) → length (last_bytes p) ≡ 768
length-last p =
    let rest = flat_map header_bytes (headers_of 64 (sections (sizes_of p))) in
    let long : length rest ≡ 704 = length-headers 64 (sections (sizes_of p)) in
    omega (arith, length-append (replicate 64 0) rest, length-replicate {A = ℕ} 64 0, long)

abbrev pub first_bytes : Object → List ℕ
first_bytes p = bytes_of (ehdr_fields (header (headers_place (sizes_of p))))

length-first : (p : Object) → length (first_bytes p) ≡ 64
length-first p = length-ehdr (header (headers_place (sizes_of p))) refl

abbrev middle : Object → List Piece
middle p = content_pieces 64 (sections (sizes_of p)) (contents p)

pub pieces_in_order : (p : Object) → AreInOrder 0 (pieces p)
unfolding headers_place
pieces_in_order p =
    let end : end_of 64 (middle p) ≡ contents_end 64 (sections (sizes_of p)) =
    contents_end_is 64 (sections (sizes_of p)) (contents p) (contents_are_as_long p) in
    let last : end_of 64 (middle p) ≤ headers_place (sizes_of p) =
    subst (λ (n : ℕ). n ≤ headers_place (sizes_of p)) (sym end) (after_round (contents_end 64 (sections (sizes_of p)))) in
    let rest : AreInOrder 64 (middle p ++ piece (headers_place (sizes_of p)) (last_bytes p) ∷ []) =
    in_order-append 64 (middle p) (piece (headers_place (sizes_of p)) (last_bytes p) ∷ [])
    (contents_in_order 64 (sections (sizes_of p)) (contents p) (contents_are_as_long p)) (last, tt) in
    let place : 64 ≡ 0 + length (first_bytes p) = omega (arith, length-first p) in
    (omega arith, subst (λ (n : ℕ). AreInOrder n (middle p ++ piece (headers_place (sizes_of p)) (last_bytes p) ∷ [])) place rest)

pub pieces_end : (p : Object) → end_of 0 (pieces p) ≡ file_size (sizes_of p)
unfolding file_size
pieces_end p =
    let ends = end_of-append (0 + length (first_bytes p)) (middle p) (piece (headers_place (sizes_of p)) (last_bytes p) ∷ []) in
    ends ∙ ap (λ (n : ℕ). headers_place (sizes_of p) + n) (length-last p)

-- bytes behind a content are one content with it
content_and_more : (place : ℕ) (bytes rest out : List ℕ) → round16 (length out) ≡ place
    → put_next bytes out ++ rest ≡ put (piece place (bytes ++ rest)) out
unfolding put_next put
content_and_more place bytes rest out same =
    append_assoc (pad (round16 (length out)) out) bytes rest ∙ ap (λ (n : ℕ). pad n out ++ (bytes ++ rest)) same

pub put_more : (bytes rest out : List ℕ) → put_next bytes out ++ rest ≡ put_next (bytes ++ rest) out
unfolding put_next
put_more bytes rest out = content_and_more (round16 (length out)) bytes rest out refl

-- what the writer puts
pub written : (p : Object) (zeros rest out : List ℕ) → zeros ++ rest ≡ last_bytes p
    → out ≡ put_next zeros (put_contents (contents p) (first_bytes p)) ++ rest → out ≡ put_all (pieces p) []
unfolding headers_place
written p zeros rest out all e =
    let z = sections (sizes_of p) in
    let held = contents_are_as_long p in
    let place : 64 ≡ length (first_bytes p) = sym (length-first p) in
    let middle_is : put_contents (contents p) (first_bytes p) ≡ put_all (middle p) (first_bytes p) =
    contents_put 64 (first_bytes p) z (contents p) held place in
    let ordered : AreInOrder (length (first_bytes p)) (middle p) =
    subst (λ (n : ℕ). AreInOrder n (middle p)) place (contents_in_order 64 z (contents p) held) in
    let len : length (put_all (middle p) (first_bytes p)) ≡ contents_end 64 z =
    length-put_all (middle p) (first_bytes p) ordered ∙ ap (λ (n : ℕ). end_of n (middle p)) (sym place)
    ∙ contents_end_is 64 z (contents p) held in
    e ∙ ap (λ (l : List ℕ). put_next zeros l ++ rest) middle_is
    ∙ content_and_more (headers_place (sizes_of p)) zeros rest (put_all (middle p) (first_bytes p)) (ap round16 len)
    ∙ ap (λ (l : List ℕ). put (piece (headers_place (sizes_of p)) l) (put_all (middle p) (first_bytes p))) all
    ∙ sym (put_all-append (middle p) (piece (headers_place (sizes_of p)) (last_bytes p) ∷ []) (first_bytes p))
    ∙ ap (put_all (middle p ++ piece (headers_place (sizes_of p)) (last_bytes p) ∷ [])) (sym (first_put (first_bytes p)))

-- the file that is written
pub is_file : (p : Object) (file : List ℕ) → IsValid p → file ≡ put_all (pieces p) [] → ObjectFile p file
is_file p file valid e = record {
  valid = valid;
  laid_out = subst (λ (f : List ℕ). IsLaidOut (pieces p) (file_size (sizes_of p)) f) (sym e)
      (laid_out (pieces p) (file_size (sizes_of p)) (pieces_in_order p) (pieces_end p));
}
