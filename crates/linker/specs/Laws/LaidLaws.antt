-- Sections that are laid out one after the other stand in order, and end where their lengths lead.
use Rattle.std.proofs.Common.{◌≡◌, ℕ, ◌+◌, ◌*◌, ◌≤◌, ◌==◌, find, List, [], ◌∷◌, length, map, refl, sym, ap, subst, ◌∙◌, arith}
use Rattle.elf_base.specs.Layout.{Piece, piece, IsLaidOut}
use Rattle.elf_base.specs.Laying.{put, put_all}
use Rattle.elf_base.specs.Laws.LaidOut.{AreInOrder, end_of, laid_out, length-put}
use Rattle.elf_obj.specs.Object.{Object}
use Rattle.linker.specs.declared.bases.Bases.{Bases}
use Rattle.linker.specs.Sections.{round_up, ends, laid, word_counts, rodata_sizes, each_from}
use Rattle.linker.specs.Code.{word_with, object_words, code_pieces, code_words}
use Rattle.linker.specs.Data.{rodata_pieces, rodata_size}
use Rattle.linker.specs.Laws.Sizes.{length-each_from}

-- a unit of a section: 16 bytes, or the 4 words that they are
pub round_up_16 : (n : ℕ) → n ≤ round_up 16 n
round_up_16 n = omega arith

pub round_up_4 : (n : ℕ) → n ≤ round_up 4 n
round_up_4 n = omega arith

pub laid_in_order : (unit at : ℕ) (cs : List (List ℕ)) → ((n : ℕ) → n ≤ round_up unit n) → AreInOrder at (laid unit at cs)
laid_in_order unit at [] h = tt
laid_in_order unit at (c ∷ cs) h = (h at, laid_in_order unit (round_up unit at + length c) cs h)

pub laid_end : (unit at : ℕ) (cs : List (List ℕ)) → end_of at (laid unit at cs) ≡ ends unit at (map length cs)
laid_end unit at [] = refl
laid_end unit at (c ∷ cs) = laid_end unit (round_up unit at + length c) cs

-- ---- data that is only read

rodata_lengths : (objects : List Object) → map length (map (λ o. o.rodata) objects) ≡ rodata_sizes objects
rodata_lengths [] = refl
rodata_lengths (o ∷ os) = ap (λ (l : List ℕ). length o.rodata ∷ l) (rodata_lengths os)

pub rodata_laid : (objects : List Object) (bytes : List ℕ) → bytes ≡ put_all (rodata_pieces objects) []
    → IsLaidOut (rodata_pieces objects) (rodata_size objects) bytes
rodata_laid objects bytes is =
    let cs : List (List ℕ) = map (λ o. o.rodata) objects in
    subst (IsLaidOut (rodata_pieces objects) (rodata_size objects)) (sym is)
    (laid_out (rodata_pieces objects) (rodata_size objects) (laid_in_order 16 0 cs round_up_16)
    (laid_end 16 0 cs ∙ ap (ends 16 0) (rodata_lengths objects)))

-- ---- the code

word_lengths : (objects : List Object) (bases : Bases) (k : ℕ) (os : List Object)
    → map length (each_from k (object_words objects bases) os) ≡ word_counts os
word_lengths objects bases k [] = refl
word_lengths objects bases k (o ∷ os) =
    let word = λ (i word : ℕ). word_with objects bases k o (find (λ r. r.offset == 4 * i) o.text_relocs) word in
    let here : length (object_words objects bases k o) ≡ length o.words = length-each_from 0 word o.words in
    let rest : map length (each_from (k + 1) (object_words objects bases) os) ≡ word_counts os = word_lengths objects bases (k + 1) os in
    λ i. here i ∷ rest i

pub code_laid : (objects : List Object) (bases : Bases) (words : List ℕ) → words ≡ put_all (code_pieces objects bases) []
    → IsLaidOut (code_pieces objects bases) (code_words objects) words
code_laid objects bases words is =
    let cs : List (List ℕ) = each_from 0 (object_words objects bases) objects in
    subst (IsLaidOut (code_pieces objects bases) (code_words objects)) (sym is)
    (laid_out (code_pieces objects bases) (code_words objects) (omega arith, laid_in_order 4 2 cs round_up_4)
    (laid_end 4 2 cs ∙ ap (ends 4 2) (word_lengths objects bases 0 objects)))

-- ---- one section more

-- sections that follow what is there
pub laid_more : (unit : ℕ) (c : List ℕ) (cs : List (List ℕ)) (out : List ℕ) → ((n : ℕ) → n ≤ round_up unit n)
    → put_all (laid unit (length out) (c ∷ cs)) out
    ≡ put_all (laid unit (length (put (piece (round_up unit (length out)) c) out)) cs) (put (piece (round_up unit (length out)) c) out)
laid_more unit c cs out h =
    let p : Piece = piece (round_up unit (length out)) c in
    ap (λ (n : ℕ). put_all (laid unit n cs) (put p out)) (sym (length-put p out (h (length out))))
