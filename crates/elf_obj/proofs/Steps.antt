-- One element more of a list that a loop goes through.
use Rattle.std.proofs.Common.{◌≡◌, ℕ, zero, suc, ◌+◌, ◌<◌, ◌≤◌, ◌^◌, true, false, List, [], ◌∷◌, ◌++◌, length, drop, get_or, refl, sym}
use Rattle.std.proofs.Common.{ap, subst, ◌∙◌, arith, append_assoc, drop-cons, Some}
use Rattle.std.specs.Prelude.{slice_get}
use Rattle.std.specs.List.{flat_map}
use Rattle.mt_base.specs.Granules.{round16}
use Rattle.elf_base.specs.Field.{bytes_of}
use Rattle.elf_base.specs.Records.{sym_fields}
use Rattle.elf_obj.specs.declared.parts.Symbol.{Symbol}
use Rattle.elf_obj.specs.declared.parts.Reloc.{Reloc}
use Rattle.elf_obj.specs.declared.section.Section.{Section}
use Rattle.elf_obj.specs.Sections.{names_end, first_global, contents_end, header_of, headers_of}
use Rattle.elf_obj.specs.Records.{symbol_record, symbols_bytes}
use Rattle.elf_obj.specs.Contents.{header_bytes}
use Rattle.elf_obj.specs.ObjectFile.{NamesFit, AllCounted, AllNumbered}
use Rattle.elf_obj.specs.Laws.Ends.{contents_grow}

-- what is left begins with the element of the turn
pub left : {A : Type 0} (xs : List A) (i : ℕ) (x d : A) → i < length xs → x ≡ get_or xs i d → drop i xs ≡ x ∷ drop (i + 1) xs
left {A} xs i x d h is =
    let next : i + 1 ≡ suc i = omega arith in
    drop-cons xs i d h ∙ ap (λ (y : A). y ∷ drop (suc i) xs) (sym is) ∙ ap (λ (n : ℕ). x ∷ drop n xs) (sym next)

pub left_at : {A : Type 0} (xs : List A) (i : ℕ) (x : A) → slice_get xs i ≡ Some x → drop i xs ≡ x ∷ drop (i + 1) xs
left_at [] i x h = cc
left_at (y ∷ ys) zero x h = ap (λ z. z ∷ ys) (let e : y ≡ x = cc in e)
left_at {A} (y ∷ ys) (suc i) x h =
    let next : suc i + 1 ≡ suc (i + 1) = omega arith in
    left_at ys i x h ∙ ap (λ (n : ℕ). x ∷ drop n (y ∷ ys)) (sym next)

-- ---- names

pub names-step : (ss : List Symbol) (i place end : ℕ) (s : Symbol) → drop i ss ≡ s ∷ drop (i + 1) ss → names_end place (drop i ss) ≡ end
    → names_end (place + length s.name + 1) (drop (i + 1) ss) ≡ end
names-step ss i place end s is h = sym (ap (names_end place) is) ∙ h

pub globals-step : (ss : List Symbol) (i n end : ℕ) (s : Symbol) → drop i ss ≡ s ∷ drop (i + 1) ss → s.local ≡ true
    → first_global n (drop i ss) ≡ end
    → first_global (n + 1) (drop (i + 1) ss) ≡ end
globals-step ss i n end s is local h =
    let here : first_global n (s ∷ drop (i + 1) ss) ≡ first_global (n + 1) (drop (i + 1) ss) = rw local refl in
    sym here ∙ sym (ap (first_global n) is) ∙ h

pub globals-end : (ss : List Symbol) (i n end : ℕ) (s : Symbol) → drop i ss ≡ s ∷ drop (i + 1) ss → s.local ≡ false
    → first_global n (drop i ss) ≡ end → n ≡ end
globals-end ss i n end s is local h =
    let here : first_global n (s ∷ drop (i + 1) ss) ≡ n = rw local refl in
    sym here ∙ sym (ap (first_global n) is) ∙ h

-- ---- bytes of symbols

pub symbols-step : (ss : List Symbol) (i place : ℕ) (s : Symbol) (all out more : List ℕ) → drop i ss ≡ s ∷ drop (i + 1) ss
    → all ≡ out ++ symbols_bytes place (drop i ss) → more ≡ out ++ bytes_of (sym_fields (symbol_record place s))
    → all ≡ more ++ symbols_bytes (place + length s.name + 1) (drop (i + 1) ss)
symbols-step ss i place s all out more is h m =
    let rest = symbols_bytes (place + length s.name + 1) (drop (i + 1) ss) in
    h ∙ ap (λ (l : List Symbol). out ++ symbols_bytes place l) is
    ∙ sym (append_assoc out (bytes_of (sym_fields (symbol_record place s))) rest)
    ∙ ap (λ (l : List ℕ). l ++ rest) (sym m)

pub fit-here : (ss : List Symbol) (i place : ℕ) (s : Symbol) → drop i ss ≡ s ∷ drop (i + 1) ss → NamesFit place (drop i ss) → place < 2 ^ 32
fit-here ss i place s is h = (subst (NamesFit place) is h).0

pub fit-step : (ss : List Symbol) (i place : ℕ) (s : Symbol) → drop i ss ≡ s ∷ drop (i + 1) ss → NamesFit place (drop i ss)
    → NamesFit (place + length s.name + 1) (drop (i + 1) ss)
fit-step ss i place s is h = (subst (NamesFit place) is h).1

-- ---- relocations

pub counted-at : (rs : List Reloc) (i : ℕ) (d : Reloc) → AllCounted rs → i < length rs → (get_or rs i d).symbol + 1 < 2 ^ 32
counted-at [] i d h lt = absurd (omega arith)
counted-at (r ∷ rs) zero d h lt = h.0
counted-at (r ∷ rs) (suc i) d h lt = counted-at rs i d h.1 (omega arith)

pub numbered-at : (ts : List ℕ) (i d : ℕ) → AllNumbered ts → i < length ts → get_or ts i d + 1 < 2 ^ 32
numbered-at [] i d h lt = absurd (omega arith)
numbered-at (t ∷ ts) zero d h lt = h.0
numbered-at (t ∷ ts) (suc i) d h lt = numbered-at ts i d h.1 (omega arith)

-- ---- sections

pub contents-step : (ss : List Section) (i at end : ℕ) (s : Section) → drop i ss ≡ s ∷ drop (i + 1) ss → contents_end at (drop i ss) ≡ end
    → contents_end (round16 at + s.bytes) (drop (i + 1) ss) ≡ end
contents-step ss i at end s is h = sym (ap (contents_end at) is) ∙ h

pub headers-step : (ss : List Section) (i at : ℕ) (s : Section) (all out more : List ℕ) → drop i ss ≡ s ∷ drop (i + 1) ss
    → all ≡ out ++ flat_map header_bytes (headers_of at (drop i ss)) → more ≡ out ++ header_bytes (header_of s (round16 at))
    → all ≡ more ++ flat_map header_bytes (headers_of (round16 at + s.bytes) (drop (i + 1) ss))
headers-step ss i at s all out more is h m =
    let rest = flat_map header_bytes (headers_of (round16 at + s.bytes) (drop (i + 1) ss)) in
    h ∙ ap (λ (l : List Section). out ++ flat_map header_bytes (headers_of at l)) is
    ∙ sym (append_assoc out (header_bytes (header_of s (round16 at))) rest)
    ∙ ap (λ (l : List ℕ). l ++ rest) (sym m)

-- where a turn is, is below where all ends
pub end-low : (ss : List Section) (i at : ℕ) → contents_end at (drop i ss) ≡ contents_end 64 ss → round16 (contents_end 64 ss) < 2 ^ 63
    → at ≤ 2 ^ 63
end-low ss i at h low = omega (arith, contents_grow at (drop i ss), h, low)

pub step-low : (ss : List Section) (i at : ℕ) (s : Section) → drop i ss ≡ s ∷ drop (i + 1) ss
    → contents_end at (drop i ss) ≡ contents_end 64 ss
    → round16 (contents_end 64 ss) < 2 ^ 63 → round16 at + s.bytes < 2 ^ 64
step-low ss i at s is h low =
    let next = contents-step ss i at (contents_end 64 ss) s is h in
    omega (arith, contents_grow (round16 at + s.bytes) (drop (i + 1) ss), next, low)
