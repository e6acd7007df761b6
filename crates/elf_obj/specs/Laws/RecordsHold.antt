-- Where no condition on symbols and relocations fails, their records stand in the file and they keep the rules.
use Rattle.std.proofs.Common.{◌≡◌, ℕ, ◌+◌, ◌<◌, ◌≤◌, ◌^◌, Bool, true, List, [], ◌∷◌, ◌++◌, length, refl, None}
use Rattle.std.specs.Prelude.{◌&&◌}
use Rattle.std.specs.List.{flat_map}
use Rattle.elf_base.specs.Field.{bytes_of, StandsAt}
use Rattle.elf_base.specs.Records.{sym_fields, rela_fields}
use Rattle.elf_base.specs.Index.{told_index}
use Rattle.elf_base.specs.Laws.Tests.{both, both_hold, is_le, is_lt}
use Rattle.elf_base.specs.Laws.Conditions.{head_holds}
use Rattle.elf_base.specs.Conditions.{first_fault}
use Rattle.elf_obj.specs.declared.parts.Symbol.{Symbol}
use Rattle.elf_obj.specs.declared.parts.Reloc.{Reloc}
use Rattle.elf_obj.specs.declared.refusal.ObjectRefusal.TheVariants.{BadSymbol, BadRelocation}
use Rattle.elf_obj.specs.declared.sizes.Sizes.{Sizes}
use Rattle.elf_obj.specs.Sections.{names_end}
use Rattle.elf_obj.specs.Records.{symbol_record, symbols_bytes, reloc_record, reloc_bytes, tag_record, tag_bytes}
use Rattle.elf_obj.specs.Rules.{symbol_keeps, symbols_keep, relocs_keep, tag_keeps, tags_keep}
use Rattle.elf_obj.specs.Claimed.{size_of}
use Rattle.elf_obj.specs.ObjectFile.{NamesFit}
use Rattle.elf_obj.specs.ObjectFault.{is_symbol, symbol_conditions, is_reloc, reloc_conditions, is_tag, tag_conditions, symbol_spot}
use Rattle.elf_obj.specs.ObjectFault.{reloc_spot, tag_spot}
use Rattle.elf_obj.specs.Laws.Lengths.{length-sym, length-reloc_bytes, length-tag_bytes}
use Rattle.elf_obj.specs.Laws.Fields.{stands-is}
use Rattle.elf_obj.specs.Laws.Together.{stands-both}

-- ---- relocations

reloc_stands : (file : List ℕ) (at : ℕ) (r : Reloc) → is_reloc file at r ≡ true → StandsAt file at (reloc_bytes r)
unfolding is_reloc reloc_bytes
reloc_stands file at r h = stands-is (rela_fields (reloc_record r)) at file h

pub record RelocsHold (file : List ℕ) (rule : ℕ → Reloc → Bool) (at least : ℕ) (rs : List Reloc) : Type 0 where
  pub stand : StandsAt file at (flat_map reloc_bytes rs)
  pub keep : relocs_keep rule least rs ≡ true

pub relocs_hold : (file : List ℕ) (rule : ℕ → Reloc → Bool) (at least k : ℕ) (rs : List Reloc)
    → first_fault (reloc_conditions file rule (reloc_spot at least) k rs) ≡ None
    → RelocsHold file rule at least rs
relocs_hold file rule at least k [] h = record { stand = refl; keep = refl }
relocs_hold file rule at least k (r ∷ rs) h =
    let first = head_holds (is_reloc file at r && rule least r) (BadRelocation (told_index k))
    (first_fault (reloc_conditions file rule (reloc_spot (at + 24) (r.offset + 1)) (k + 1) rs)) h in
    let good = both (is_reloc file at r) (rule least r) first.0 in
    let rest : RelocsHold file rule (at + 24) (r.offset + 1) rs = relocs_hold file rule (at + 24) (r.offset + 1) (k + 1) rs first.1 in
    record {
      stand = stands-both file at 24 (reloc_bytes r) (flat_map reloc_bytes rs) (length-reloc_bytes r)
          (reloc_stands file at r good.0) rest.stand;
      keep = both_hold (rule least r) (relocs_keep rule (r.offset + 1) rs) good.1 rest.keep;
    }

-- ---- tagged symbols

tag_stands : (file : List ℕ) (at t : ℕ) → is_tag file at t ≡ true → StandsAt file at (tag_bytes t)
unfolding is_tag tag_bytes
tag_stands file at t h = stands-is (rela_fields (tag_record t)) at file h

pub record TagsHold (file : List ℕ) (symbols : List Symbol) (at : ℕ) (earlier : List ℕ) (least : ℕ) (ts : List ℕ) : Type 0 where
  pub stand : StandsAt file at (flat_map tag_bytes ts)
  pub keep : tags_keep symbols earlier least ts ≡ true

pub tags_hold : (file : List ℕ) (symbols : List Symbol) (at : ℕ) (earlier : List ℕ) (least k : ℕ) (ts : List ℕ)
    → first_fault (tag_conditions file symbols (tag_spot at earlier least) k ts) ≡ None → TagsHold file symbols at earlier least ts
tags_hold file symbols at earlier least k [] h = record { stand = refl; keep = refl }
tags_hold file symbols at earlier least k (t ∷ ts) h =
    let first = head_holds (is_tag file at t && tag_keeps symbols earlier least t) (BadRelocation (told_index k))
    (first_fault (tag_conditions file symbols (tag_spot (at + 24) (earlier ++ t ∷ []) (t + 1)) (k + 1) ts)) h in
    let good = both (is_tag file at t) (tag_keeps symbols earlier least t) first.0 in
    let rest : TagsHold file symbols (at + 24) (earlier ++ t ∷ []) (t + 1) ts =
    tags_hold file symbols (at + 24) (earlier ++ t ∷ []) (t + 1) (k + 1) ts first.1 in
    record {
      stand = stands-both file at 24 (tag_bytes t) (flat_map tag_bytes ts) (length-tag_bytes t) (tag_stands file at t good.0) rest.stand;
      keep = both_hold (tag_keeps symbols earlier least t) (tags_keep symbols (earlier ++ t ∷ []) (t + 1) ts) good.1 rest.keep;
    }

-- ---- symbols

record SymbolHolds (file : List ℕ) (z : Sizes) (at place : ℕ) (earlier : List Symbol) (s : Symbol) : Type 0 where
  low : place < 2 ^ 32
  stand : StandsAt file at (bytes_of (sym_fields (symbol_record place s)))
  ends : place + length s.name + 1 ≤ size_of file 6
  keeps : symbol_keeps z earlier s ≡ true

symbol_holds : (file : List ℕ) (z : Sizes) (at place : ℕ) (earlier : List Symbol) (s : Symbol)
    → is_symbol file z (symbol_spot at place earlier) s ≡ true
    → SymbolHolds file z at place earlier s
unfolding is_symbol
symbol_holds file z at place earlier s h =
    let h3 = both _ _ h in
    let h2 = both _ _ h3.0 in
    let h1 = both _ _ h2.0 in
    record {
      low = is_lt place 4294967296 h1.0;
      stand = stands-is (sym_fields (symbol_record place s)) at file h1.1;
      ends = is_le (place + length s.name + 1) (size_of file 6) h2.1;
      keeps = h3.1;
    }

pub record SymbolsHold (file : List ℕ) (z : Sizes) (at place : ℕ) (earlier ss : List Symbol) : Type 0 where
  pub stand : StandsAt file at (symbols_bytes place ss)
  pub keep : symbols_keep z earlier ss ≡ true
  pub fit : NamesFit place ss
  pub ends : place ≤ size_of file 6 → names_end place ss ≤ size_of file 6

pub symbols_hold : (file : List ℕ) (z : Sizes) (at place k : ℕ) (earlier ss : List Symbol)
    → first_fault (symbol_conditions file z (symbol_spot at place earlier) k ss) ≡ None
    → SymbolsHold file z at place earlier ss
symbols_hold file z at place k earlier [] h = record { stand = refl; keep = refl; fit = tt; ends = λ e. e }
symbols_hold file z at place k earlier (s ∷ ss) h =
    let next : ℕ = place + length s.name + 1 in
    let first = head_holds (is_symbol file z (symbol_spot at place earlier) s) (BadSymbol (told_index k))
    (first_fault (symbol_conditions file z (symbol_spot (at + 24) next (earlier ++ s ∷ [])) (k + 1) ss)) h in
    let here : SymbolHolds file z at place earlier s = symbol_holds file z at place earlier s first.0 in
    let rest : SymbolsHold file z (at + 24) next (earlier ++ s ∷ []) ss =
    symbols_hold file z (at + 24) next (k + 1) (earlier ++ s ∷ []) ss first.1 in
    record {
      stand = stands-both file at 24 (bytes_of (sym_fields (symbol_record place s))) (symbols_bytes next ss)
          (length-sym (symbol_record place s)) here.stand rest.stand;
      keep = both_hold (symbol_keeps z earlier s) (symbols_keep z (earlier ++ s ∷ []) ss) here.keeps rest.keep;
      fit = (here.low, rest.fit);
      ends = λ e. rest.ends here.ends;
    }
