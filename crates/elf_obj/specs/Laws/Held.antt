-- What the start of a file says, once it is judged: nothing goes past the end.
use Rattle.std.proofs.Common.{◌≡◌, ℕ, zero, suc, ◌+◌, ◌*◌, ◌<◌, ◌≤◌, ◌^◌, ◌⊎◌, inl, inr, true, List, [], ◌∷◌, length, refl, sym, ap}
use Rattle.std.proofs.Common.{subst, ◌∙◌, arith, Some, length-append}
use Rattle.std.specs.Prelude.{slice_get}
use Rattle.mt_base.specs.Granules.{round16}
use Rattle.elf_base.specs.Field.{Field, number, bytes_of}
use Rattle.elf_base.specs.Place.{number_at}
use Rattle.elf_base.specs.Records.{shdr_fields}
use Rattle.elf_base.specs.Laws.Lengths.{length-number}
use Rattle.elf_base.specs.Laws.Tests.{both, is_le}
use Rattle.elf_obj.specs.declared.section.Section.{Section}
use Rattle.elf_obj.specs.declared.sizes.Sizes.{Sizes}
use Rattle.elf_obj.specs.Sections.{sections, header_of}
use Rattle.elf_obj.specs.Claimed.{headers_at, offset_of, size_of}
use Rattle.elf_obj.specs.ObjectFault.{is_held, all_held, is_section}
use Rattle.elf_obj.specs.Laws.Fields.{stands-is, field_there}

-- the section headers and the contents that have bytes stand within the file
pub record AreHeld (file : List ℕ) : Type 0 where
  pub headers : headers_at file + 768 ≤ length file
  pub text : offset_of file 1 + size_of file 1 ≤ length file
  pub rodata : offset_of file 2 + size_of file 2 ≤ length file
  pub init : offset_of file 3 + size_of file 3 ≤ length file
  pub symbols : offset_of file 5 + size_of file 5 ≤ length file
  pub strings : offset_of file 6 + size_of file 6 ≤ length file
  pub names : offset_of file 7 + size_of file 7 ≤ length file
  pub text_relocs : offset_of file 8 + size_of file 8 ≤ length file
  pub init_relocs : offset_of file 9 + size_of file 9 ≤ length file
  pub tagged : offset_of file 11 + size_of file 11 ≤ length file

held : (file : List ℕ) (k : ℕ) → is_held file k ≡ true → offset_of file k + size_of file k ≤ length file
unfolding is_held
held file k h = is_le (offset_of file k + size_of file k) (length file) h

pub are_held : (file : List ℕ) → all_held file ≡ true → AreHeld file
unfolding all_held
are_held file h =
    let h9 = both _ _ h in
    let h8 = both _ _ h9.0 in
    let h7 = both _ _ h8.0 in
    let h6 = both _ _ h7.0 in
    let h5 = both _ _ h6.0 in
    let h4 = both _ _ h5.0 in
    let h3 = both _ _ h4.0 in
    let h2 = both _ _ h3.0 in
    let h1 = both _ _ h2.0 in
    record {
      headers = is_le (headers_at file + 768) (length file) h1.0;
      text = held file 1 h1.1;
      rodata = held file 2 h2.1;
      init = held file 3 h3.1;
      symbols = held file 5 h4.1;
      strings = held file 6 h5.1;
      names = held file 7 h6.1;
      text_relocs = held file 8 h7.1;
      init_relocs = held file 9 h8.1;
      tagged = held file 11 h9.1;
    }

-- ---- where a section ends

-- a section has no bytes in the file, or its header names them and they do not pass the end
abbrev pub Reaches : List ℕ → ℕ → Section → Type 0
Reaches file i s = (s.bytes ≡ 0) ⊎ ((s.bytes ≡ s.size) × (offset_of file (i + 1) + size_of file (i + 1) ≤ length file))

one : (a b : Section) → Some a ≡ Some b → a ≡ b
one a b h = cc

pub reaches : (file : List ℕ) → AreHeld file → (z : Sizes) (i : ℕ) (s : Section) → slice_get (sections z) i ≡ Some s → Reaches file i s
reaches file h z zero s e = subst (Reaches file 0) (one _ s e) (inr (refl, h.text))
reaches file h z (suc zero) s e = subst (Reaches file 1) (one _ s e) (inr (refl, h.rodata))
reaches file h z (suc (suc zero)) s e = subst (Reaches file 2) (one _ s e) (inr (refl, h.init))
reaches file h z (suc (suc (suc zero))) s e = subst (Reaches file 3) (one _ s e) (inl refl)
reaches file h z (suc (suc (suc (suc zero)))) s e = subst (Reaches file 4) (one _ s e) (inr (refl, h.symbols))
reaches file h z (suc (suc (suc (suc (suc zero))))) s e = subst (Reaches file 5) (one _ s e) (inr (refl, h.strings))
reaches file h z (suc (suc (suc (suc (suc (suc zero)))))) s e = subst (Reaches file 6) (one _ s e) (inr (refl, h.names))
reaches file h z (suc (suc (suc (suc (suc (suc (suc zero))))))) s e = subst (Reaches file 7) (one _ s e) (inr (refl, h.text_relocs))
reaches file h z (suc (suc (suc (suc (suc (suc (suc (suc zero)))))))) s e = subst (Reaches file 8) (one _ s e) (inr (refl, h.init_relocs))
reaches file h z (suc (suc (suc (suc (suc (suc (suc (suc (suc zero))))))))) s e = subst (Reaches file 9) (one _ s e) (inl refl)
reaches file h z (suc (suc (suc (suc (suc (suc (suc (suc (suc (suc zero)))))))))) s e =
    subst (Reaches file 10) (one _ s e) (inr (refl, h.tagged))
reaches file h z (suc (suc (suc (suc (suc (suc (suc (suc (suc (suc (suc n))))))))))) s e = cc

-- the header of a section names its place and its size
pub record Named (file : List ℕ) (k : ℕ) (s : Section) (place : ℕ) : Type 0 where
  pub offset : offset_of file k ≡ place
  pub size : size_of file k ≡ s.size

pub named : (file : List ℕ) (at k : ℕ) (s : Section) → is_section file at k s ≡ true → round16 at < 2 ^ 64 → s.size < 2 ^ 64
    → Named file k s (round16 at)
unfolding is_section offset_of size_of
named file at k s h low small =
    let first = both _ _ h in
    let header = both _ _ first.0 in
    let here = headers_at file + 64 * k in
    let place = round16 at in
    let there = stands-is (shdr_fields (header_of s place)) here file header.1 in
    let before : List Field = number 4 s.name ∷ number 4 s.kind ∷ number 8 s.flags ∷ number 8 0 ∷ [] in
    let wide : length (bytes_of before) ≡ 24 = simp (length-append, length-number) in
    let more : List Field = number 4 s.name ∷ number 4 s.kind ∷ number 8 s.flags ∷ number 8 0 ∷ number 8 place ∷ [] in
    let wider : length (bytes_of more) ≡ 32 = simp (length-append, length-number) in
    let after : List Field = number 4 s.link ∷ number 4 s.info ∷ number 8 16 ∷ number 8 s.entsize ∷ [] in
    record {
      offset = ap (λ (n : ℕ). number_at 8 (here + n) file) (sym wide)
          ∙ field_there before (number 8 s.size ∷ after) 8 place here file low there;
      size = ap (λ (n : ℕ). number_at 8 (here + n) file) (sym wider) ∙ field_there more after 8 s.size here file small there;
    }

pub section_ends : (file : List ℕ) (at i : ℕ) (s : Section) → Reaches file i s → is_section file at (i + 1) s ≡ true → at ≤ 2 ^ 63
    → s.size < 2 ^ 64
    → length file < 2 ^ 63 → round16 at + s.bytes ≤ 2 ^ 63
section_ends file at i s (inl none) h low small short = omega (arith, none, low)
section_ends file at i s (inr some) h low small short =
    let n : Named file (i + 1) s (round16 at) = named file at (i + 1) s h (omega (arith, low)) small in
    omega (arith, some.0, some.1, n.offset, n.size, short)
