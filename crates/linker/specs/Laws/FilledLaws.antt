-- The filled data of an image: sections that are laid out one after the other, and zeros up to a whole granule.
use Rattle.std.proofs.Common.{◌≡◌, ℕ, suc, ◌+◌, ◌<◌, ◌≤◌, List, [], ◌∷◌, ◌++◌, length, map, take, find, get_or}
use Rattle.std.proofs.Common.{refl, sym, ap, subst, ◌∙◌, arith, inl, inr}
use Rattle.std.proofs.lemmas.Bool.{cases_lt}
use Rattle.std.proofs.lemmas.List.{append-nil, length-map, get_or-map}
use Rattle.elf_base.specs.Layout.{Piece, piece, AllStand, IsGap, IsLaidOut}
use Rattle.elf_base.specs.Laying.{pad, put, put_all}
use Rattle.elf_base.specs.Laws.LaidOut.{AreInOrder, end_of, length-put_all, all_stand, gaps_zero}
use Rattle.elf_obj.specs.Object.{Object}
use Rattle.linker.specs.Sections.{round_up, starts, ends, laid, init_sizes, each_from}
use Rattle.linker.specs.Got.{got_bytes}
use Rattle.linker.specs.Data.{covers, byte_with, object_bytes, filled_pieces, filled_size}
use Rattle.linker.specs.Laws.Sizes.{length-each_from}
use Rattle.linker.specs.Laws.Starting.{start_is, ends_more}
use Rattle.linker.specs.Laws.LaidLaws.{laid_in_order, laid_end, round_up_16}

-- ---- pieces with zeros behind them

put_all-push : (ps : List Piece) (q : Piece) (out : List ℕ) → put_all (ps ++ q ∷ []) out ≡ put q (put_all ps out)
put_all-push [] q out = refl
put_all-push (p ∷ ps) q out = put_all-push ps q (put p out)

order_push : (ps : List Piece) (q : Piece) (at : ℕ) → AreInOrder at ps → end_of at ps ≤ q.place → AreInOrder at (ps ++ q ∷ [])
order_push [] q at h le = (le, tt)
order_push (p ∷ ps) q at h le = (h.0, order_push ps q (p.place + length p.bytes) h.1 le)

end_push : (ps : List Piece) (q : Piece) (at : ℕ) → end_of at (ps ++ q ∷ []) ≡ q.place + length q.bytes
end_push [] q at = refl
end_push (p ∷ ps) q at = end_push ps q (p.place + length p.bytes)

stand_before : (ps : List Piece) (q : Piece) (file : List ℕ) → AllStand file (ps ++ q ∷ []) → AllStand file ps
stand_before [] q file h = tt
stand_before (p ∷ ps) q file h = (h.0, stand_before ps q file h.1)

gap_push : (ps : List Piece) (place i : ℕ) → IsGap i ps → IsGap i (ps ++ piece place [] ∷ [])
gap_push [] place i h = (elim (cases_lt i place) [ inl lt ↦ inl lt | inr le ↦ inr (omega arith) ], tt)
gap_push (p ∷ ps) place i h = (h.0, gap_push ps place i h.1)

padded : (place : ℕ) (out : List ℕ) → pad place out ≡ put (piece place []) out
unfolding put
padded place out = sym (append-nil (pad place out))

pub laid_padded : (ps : List Piece) (size : ℕ) → AreInOrder 0 ps → end_of 0 ps ≤ size → IsLaidOut ps size (pad size (put_all ps []))
laid_padded ps size h le =
    let q : Piece = piece size [] in
    let order = order_push ps q 0 h le in
    let is : put_all (ps ++ q ∷ []) [] ≡ pad size (put_all ps []) = put_all-push ps q [] ∙ sym (padded size (put_all ps [])) in
    let P : List ℕ → Type 0 = IsLaidOut ps size in
    subst P is (record {
      len = length-put_all (ps ++ q ∷ []) [] order ∙ end_push ps q 0 ∙ omega arith;
      stand = stand_before ps q (put_all (ps ++ q ∷ []) []) (all_stand (ps ++ q ∷ []) [] order);
      gaps = λ i gap. gaps_zero (ps ++ q ∷ []) [] order i (omega arith) (gap_push ps size i gap);
    })

-- ---- the filled data

lower : (ps : List Piece) (low at : ℕ) → low ≤ at → AreInOrder at ps → AreInOrder low ps
lower [] low at le h = tt
lower (p ∷ ps) low at le h = let here = h.0 in (omega arith, h.1)

end_low : (unit at : ℕ) (cs : List (List ℕ)) → end_of 0 (laid unit at cs) ≤ end_of at (laid unit at cs)
end_low unit at [] = omega arith
end_low unit at (c ∷ cs) = omega arith

init_lengths : (objects : List Object) (k : ℕ) (os : List Object)
    → map length (each_from k (object_bytes objects) os) ≡ init_sizes os
init_lengths objects k [] = refl
init_lengths objects k (o ∷ os) =
    let byte = λ (i byte : ℕ). byte_with objects k o (find (covers i) o.init_relocs) i byte in
    let here : length (object_bytes objects k o) ≡ length o.init_bytes = length-each_from 0 byte o.init_bytes in
    let rest : map length (each_from (k + 1) (object_bytes objects) os) ≡ init_sizes os = init_lengths objects (k + 1) os in
    λ i. here i ∷ rest i

pub filled_laid : (objects : List Object) (bytes : List ℕ) → bytes ≡ pad (filled_size objects) (put_all (filled_pieces objects) [])
    → IsLaidOut (filled_pieces objects) (filled_size objects) bytes
filled_laid objects bytes is =
    let cs : List (List ℕ) = each_from 0 (object_bytes objects) objects in
    let at : ℕ = got_bytes objects in
    let end : end_of at (laid 16 at cs) ≡ ends 16 at (init_sizes objects) =
    laid_end 16 at cs ∙ ap (ends 16 at) (init_lengths objects 0 objects) in
    let low = end_low 16 at cs in
    let P : List ℕ → Type 0 = IsLaidOut (filled_pieces objects) (filled_size objects) in
    subst P (sym is)
    (laid_padded (filled_pieces objects) (filled_size objects)
    (lower (laid 16 at cs) 0 at (omega arith) (laid_in_order 16 at cs round_up_16)) (omega arith))

-- ---- one object more

-- where the sections of the first so many objects end
abbrev pub filled_so_far : List Object → ℕ → ℕ
filled_so_far objects k = ends 16 (got_bytes objects) (take k (init_sizes objects))

pub filled_more : (objects : List Object) (k : ℕ) (o d : Object) (rest : List (List ℕ)) (out : List ℕ) (place : ℕ) → k < length objects
    → get_or objects k d ≡ o → place ≡ get_or (starts 16 (got_bytes objects) (init_sizes objects)) k 0
    → put_all (laid 16 (filled_so_far objects (k + 1)) rest) (put (piece place (object_bytes objects k o)) out)
    ≡ put_all (laid 16 (filled_so_far objects k) (object_bytes objects k o ∷ rest)) out
filled_more objects k o d rest out place lt is at =
    let byte = λ (i byte : ℕ). byte_with objects k o (find (covers i) o.init_relocs) i byte in
    let within : k < length (init_sizes objects) = omega (arith, length-map objects (λ (x : Object). length x.init_bytes)) in
    let start : place ≡ round_up 16 (filled_so_far objects k) = at ∙ start_is 16 (got_bytes objects) (init_sizes objects) k within in
    let size : get_or (init_sizes objects) k 0 ≡ length (object_bytes objects k o) =
    get_or-map (λ (x : Object). length x.init_bytes) objects k d 0 lt ∙ ap (λ (x : Object). length x.init_bytes) is
    ∙ sym (length-each_from 0 byte o.init_bytes) in
    let one : k + 1 ≡ suc k = omega arith in
    let next : filled_so_far objects (k + 1) ≡ round_up 16 (filled_so_far objects k) + length (object_bytes objects k o) =
    ap (λ (m : ℕ). ends 16 (got_bytes objects) (take m (init_sizes objects))) one
    ∙ ends_more 16 (got_bytes objects) (init_sizes objects) k within
    ∙ ap (λ (m : ℕ). round_up 16 (filled_so_far objects k) + m) size in
    (λ i. put_all (laid 16 (next i) rest) (put (piece (start i) (object_bytes objects k o)) out))
