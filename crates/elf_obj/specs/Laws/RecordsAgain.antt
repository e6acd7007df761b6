-- Where symbols and relocations that keep the rules stand, no condition on them fails.
use Rattle.std.proofs.Common.{◌≡◌, ℕ, ◌+◌, ◌<◌, ◌≤◌, ◌^◌, Bool, true, List, [], ◌∷◌, ◌++◌, length, arith}
use Rattle.std.specs.List.{flat_map}
use Rattle.elf_base.specs.Field.{bytes_of, StandsAt}
use Rattle.elf_base.specs.Records.{sym_fields, rela_fields}
use Rattle.elf_base.specs.Laws.Tests.{both, both_hold, le_is, lt_is}
use Rattle.elf_base.specs.Laws.Conditions.{EachHolds}
use Rattle.elf_obj.specs.declared.parts.Symbol.{Symbol}
use Rattle.elf_obj.specs.declared.parts.Reloc.{Reloc}
use Rattle.elf_obj.specs.declared.sizes.Sizes.{Sizes}
use Rattle.elf_obj.specs.Sections.{names_end}
use Rattle.elf_obj.specs.Records.{symbol_record, symbols_bytes, reloc_record, reloc_bytes, tag_record, tag_bytes}
use Rattle.elf_obj.specs.Rules.{symbol_keeps, symbols_keep, relocs_keep, tag_keeps, tags_keep}
use Rattle.elf_obj.specs.Claimed.{size_of}
use Rattle.elf_obj.specs.Conditions.{stands}
use Rattle.elf_obj.specs.ObjectFile.{NamesFit}
use Rattle.elf_obj.specs.ObjectFault.{is_symbol, symbol_conditions, is_reloc, reloc_conditions, is_tag, tag_conditions, symbol_spot}
use Rattle.elf_obj.specs.ObjectFault.{reloc_spot, tag_spot}
use Rattle.elf_obj.specs.Laws.Lengths.{length-sym, length-reloc_bytes, length-tag_bytes}
use Rattle.elf_obj.specs.Laws.Fields.{is-stands}
use Rattle.elf_obj.specs.Laws.ReadAgain.{apart}
use Rattle.elf_obj.specs.Laws.Ends.{names_grow}

-- ---- relocations

reloc_is : (file : List ℕ) (at : ℕ) (r : Reloc) → StandsAt file at (reloc_bytes r) → is_reloc file at r ≡ true
unfolding is_reloc reloc_bytes
reloc_is file at r h = is-stands (rela_fields (reloc_record r)) at file h

pub relocs_good : (file : List ℕ) (rule : ℕ → Reloc → Bool) (at least k : ℕ) (rs : List Reloc) → StandsAt file at (flat_map reloc_bytes rs)
    → relocs_keep rule least rs ≡ true → EachHolds (reloc_conditions file rule (reloc_spot at least) k rs)
relocs_good file rule at least k [] stand keep = tt
relocs_good file rule at least k (r ∷ rs) stand keep =
    let parts = apart file at 24 (reloc_bytes r) (flat_map reloc_bytes rs) (length-reloc_bytes r) stand in
    let good = both (rule least r) (relocs_keep rule (r.offset + 1) rs) keep in (
      both_hold (is_reloc file at r) (rule least r) (reloc_is file at r parts.0) good.0,
      relocs_good file rule (at + 24) (r.offset + 1) (k + 1) rs parts.1 good.1,
    )

-- ---- tagged symbols

tag_is : (file : List ℕ) (at t : ℕ) → StandsAt file at (tag_bytes t) → is_tag file at t ≡ true
unfolding is_tag tag_bytes
tag_is file at t h = is-stands (rela_fields (tag_record t)) at file h

pub tags_good : (file : List ℕ) (symbols : List Symbol) (at : ℕ) (earlier : List ℕ) (least k : ℕ) (ts : List ℕ)
    → StandsAt file at (flat_map tag_bytes ts)
    → tags_keep symbols earlier least ts ≡ true → EachHolds (tag_conditions file symbols (tag_spot at earlier least) k ts)
tags_good file symbols at earlier least k [] stand keep = tt
tags_good file symbols at earlier least k (t ∷ ts) stand keep =
    let parts = apart file at 24 (tag_bytes t) (flat_map tag_bytes ts) (length-tag_bytes t) stand in
    let good = both (tag_keeps symbols earlier least t) (tags_keep symbols (earlier ++ t ∷ []) (t + 1) ts) keep in (
      both_hold (is_tag file at t) (tag_keeps symbols earlier least t) (tag_is file at t parts.0) good.0,
      tags_good file symbols (at + 24) (earlier ++ t ∷ []) (t + 1) (k + 1) ts parts.1 good.1,
    )

-- ---- symbols

symbol_good : (file : List ℕ) (z : Sizes) (at place : ℕ) (earlier : List Symbol) (s : Symbol) → place < 2 ^ 32
    → StandsAt file at (bytes_of (sym_fields (symbol_record place s))) → place + length s.name + 1 ≤ size_of file 6
    → symbol_keeps z earlier s ≡ true
    → is_symbol file z (symbol_spot at place earlier) s ≡ true
unfolding is_symbol
symbol_good file z at place earlier s low stand ends keep =
    let there : stands (sym_fields (symbol_record place s)) at file ≡ true = is-stands (sym_fields (symbol_record place s)) at file stand in
    both_hold _ _ (both_hold _ _ (both_hold _ _ (lt_is place 4294967296 (omega (arith, low))) there)
    (le_is (place + length s.name + 1) (size_of file 6) ends)) keep

pub symbols_good : (file : List ℕ) (z : Sizes) (at place k : ℕ) (earlier ss : List Symbol) → NamesFit place ss
    → StandsAt file at (symbols_bytes place ss)
    → names_end place ss ≤ size_of file 6 → symbols_keep z earlier ss ≡ true
    → EachHolds (symbol_conditions file z (symbol_spot at place earlier) k ss)
symbols_good file z at place k earlier [] fit stand ends keep = tt
symbols_good file z at place k earlier (s ∷ ss) fit stand ends keep =
    let next : ℕ = place + length s.name + 1 in
    let parts = apart file at 24 (bytes_of (sym_fields (symbol_record place s))) (symbols_bytes next ss)
    (length-sym (symbol_record place s)) stand in
    let good = both (symbol_keeps z earlier s) (symbols_keep z (earlier ++ s ∷ []) ss) keep in
    let low : next ≤ size_of file 6 = omega (arith, names_grow next ss, ends) in (
      symbol_good file z at place earlier s fit.0 parts.0 low good.0,
      symbols_good file z (at + 24) next (k + 1) (earlier ++ s ∷ []) ss fit.1 parts.1 ends good.1,
    )
