-- What bytes of which no condition fails say, part by part.
use Rattle.std.proofs.Common.{◌≡◌, ℕ, ◌+◌, ◌<◌, ◌≤◌, ◌^◌, true, List, [], ◌∷◌, ◌++◌, length, take, drop, refl, sym, ap, subst, ◌∙◌, arith}
use Rattle.std.proofs.Common.{None, length-append, length-take, length-drop}
use Rattle.std.specs.Prelude.{◌&&◌, ◌==◌, nat_le}
use Rattle.std.specs.Str.{bytes_eq}
use Rattle.std.proofs.lemmas.Slice.Eq.{bytes_eq-Decides}
use Rattle.mt_base.specs.Granules.{round16}
use Rattle.elf_base.specs.Field.{Field, number, raw, bytes_of, StandsAt}
use Rattle.elf_base.specs.Place.{number_at}
use Rattle.elf_base.specs.Records.{ehdr_fields, identification}
use Rattle.elf_base.specs.Laws.Lengths.{length-number, length-raw}
use Rattle.elf_base.specs.Laws.Tests.{both, is_le, is_same}
use Rattle.elf_base.specs.Laws.Conditions.{head_holds, split_none}
use Rattle.elf_base.specs.Zeros.{is_zero_between}
use Rattle.elf_base.specs.Conditions.{Condition, condition, first_fault}
use Rattle.elf_obj.specs.declared.refusal.ObjectRefusal.TheVariants.{NotElf, NotThisMachine, Truncated, BadSection}
use Rattle.elf_obj.specs.Object.{Object}
use Rattle.elf_obj.specs.Sections.{names_end}
use Rattle.elf_obj.specs.Records.{header}
use Rattle.elf_obj.specs.Contents.{section_names}
use Rattle.elf_obj.specs.Claimed.{headers_at, offset_of, size_of, content_of, claimed}
use Rattle.elf_obj.specs.Conditions.{stands}
use Rattle.elf_obj.specs.ObjectFault.{all_held, is_headed, is_strings, is_names, sizes_in, is_ended, start_conditions}
use Rattle.elf_obj.specs.ObjectFault.{all_section_conditions, contents_conditions, table_conditions, code_conditions, data_conditions}
use Rattle.elf_obj.specs.ObjectFault.{tagged_conditions, object_conditions, conditions}
use Rattle.elf_obj.specs.Laws.Fields.{stands-is, field_there}
use Rattle.elf_obj.specs.Laws.Held.{AreHeld, are_held}
use Rattle.elf_obj.specs.Laws.Together.{stands-taken}
use Rattle.elf_obj.specs.declared.refusal.ObjectRefusal.{ObjectRefusal}

-- ---- the conditions, one by one

pub record AllHold (file : List ℕ) : Type 0 where
  pub held : AreHeld file
  pub headed : is_headed file ≡ true
  pub contents : first_fault (contents_conditions file (sizes_in file)) ≡ None
  pub ended : is_ended file ≡ true
  pub table : first_fault (table_conditions file (claimed file)) ≡ None
  pub code : first_fault (code_conditions file (claimed file)) ≡ None
  pub data_relocs : first_fault (data_conditions file (claimed file)) ≡ None
  pub tagged : first_fault (tagged_conditions file (claimed file)) ≡ None

starts : (file : List ℕ) → first_fault (start_conditions file) ≡ None → AreHeld file
starts file h =
    let h1 = head_holds (bytes_eq (take 16 file) (take (length file) identification)) NotElf _ h in
    let h2 = head_holds (nat_le 64 (length file)) (Truncated (length file)) _ h1.1 in
    let h3 = head_holds ((number_at 2 16 file == 1) && (number_at 2 18 file == 183)) NotThisMachine _ h2.1 in
    are_held file (head_holds (all_held file) (Truncated (length file)) None h3.1).0

pub all_hold : (file : List ℕ) → first_fault (conditions file) ≡ None → AllHold file
unfolding conditions
all_hold file h =
    let p : Object = claimed file in
    let parts = split_none (start_conditions file ++ all_section_conditions file) (object_conditions file p) h in
    let first = split_none (start_conditions file) (all_section_conditions file) parts.0 in
    let end : List (Condition ObjectRefusal) = condition (is_ended file) (BadSection 12) ∷ [] in
    let headed = head_holds (is_headed file) (BadSection 0) (first_fault (contents_conditions file (sizes_in file) ++ end)) first.1 in
    let sections_and = split_none (contents_conditions file (sizes_in file)) end headed.1 in
    let o3 = split_none (table_conditions file p ++ code_conditions file p ++ data_conditions file p) (tagged_conditions file p) parts.1 in
    let o2 = split_none (table_conditions file p ++ code_conditions file p) (data_conditions file p) o3.0 in
    let o1 = split_none (table_conditions file p) (code_conditions file p) o2.0 in
    record {
      held = starts file first.0;
      headed = headed.0;
      contents = sections_and.0;
      ended = (head_holds (is_ended file) (BadSection 12) None sections_and.1).0;
      table = o1.0;
      code = o1.1;
      data_relocs = o2.1;
      tagged = o3.1;
    }

-- ---- the file's header and the end

pub record Headed (file : List ℕ) (place : ℕ) : Type 0 where
  pub stand : StandsAt file 0 (bytes_of (ehdr_fields (header place)))
  pub there : headers_at file ≡ place
  pub empty : is_zero_between file (headers_at file) (headers_at file + 64) ≡ true

pub headed_at : (file : List ℕ) → is_headed file ≡ true → round16 (offset_of file 11 + size_of file 11) < 2 ^ 64
    → Headed file (round16 (offset_of file 11 + size_of file 11))
unfolding is_headed headers_at
headed_at file h low =
    let place : ℕ = round16 (offset_of file 11 + size_of file 11) in
    let parts = both (stands (ehdr_fields (header place)) 0 file) (is_zero_between file (headers_at file) (headers_at file + 64)) h in
    let standing : StandsAt file 0 (bytes_of (ehdr_fields (header place))) = stands-is (ehdr_fields (header place)) 0 file parts.0 in
    let before : List Field = raw 16 identification ∷ number 2 1 ∷ number 2 183 ∷ number 4 1 ∷ number 8 0 ∷ number 8 0 ∷ [] in
    let after : List Field = number 4 0 ∷ number 2 64 ∷ number 2 0 ∷ number 2 0 ∷ number 2 64 ∷ number 2 12 ∷ number 2 7 ∷ [] in
    let raw_length = length-raw 16 identification refl in
    let wide : length (bytes_of before) ≡ 40 = simp (length-append, length-number, raw_length) in
    record {
      stand = standing;
      there = ap (λ (n : ℕ). number_at 8 (0 + n) file) (sym wide) ∙ field_there before after 8 place 0 file low standing;
      empty = parts.1;
    }

pub record Ended (file : List ℕ) : Type 0 where
  pub gap : is_zero_between file (offset_of file 11 + size_of file 11) (headers_at file) ≡ true
  pub len : length file ≡ headers_at file + 768

pub ended_at : (file : List ℕ) → is_ended file ≡ true → Ended file
unfolding is_ended
ended_at file h =
    let parts = both (is_zero_between file (offset_of file 11 + size_of file 11) (headers_at file))
    (length file == headers_at file + 768) h in
    record { gap = parts.0; len = is_same (length file) (headers_at file + 768) parts.1 }

-- ---- names

pub record StringsHold (file : List ℕ) : Type 0 where
  pub some : 1 ≤ size_of file 6
  pub empty : is_zero_between file (offset_of file 6) (offset_of file 6 + 1) ≡ true
  pub high : size_of file 6 ≤ names_end 1 (claimed file).symbols

pub strings_hold : (file : List ℕ) → is_strings file ≡ true → StringsHold file
unfolding is_strings
strings_hold file h =
    let last = both _ _ h in
    let first = both _ _ last.0 in
    record {
      some = is_le 1 (size_of file 6) first.0;
      empty = first.1;
      high = is_le (size_of file 6) (names_end 1 (claimed file).symbols) last.1;
    }

pub content_stands : (file : List ℕ) (k : ℕ) → offset_of file k + size_of file k ≤ length file
    → StandsAt file (offset_of file k) (content_of file k)
unfolding content_of
content_stands file k within = stands-taken file (offset_of file k) (size_of file k) (content_of file k) refl within

pub content_low : (file : List ℕ) (k : ℕ) → length (content_of file k) ≤ length file
unfolding content_of
content_low file k = omega (arith, length-take (size_of file k) (drop (offset_of file k) file), length-drop (offset_of file k) file)

pub section_names_stand : (file : List ℕ) → is_names file ≡ true → offset_of file 7 + size_of file 7 ≤ length file
    → StandsAt file (offset_of file 7) section_names
unfolding is_names
section_names_stand file h within =
    let same : content_of file 7 ≡ section_names = (bytes_eq-Decides (content_of file 7) section_names).0 h in
    subst (StandsAt file (offset_of file 7)) same (content_stands file 7 within)
