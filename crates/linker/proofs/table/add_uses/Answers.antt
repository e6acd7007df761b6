use Rattle.std.proofs.Common.{◌≡◌, ℕ, pos, ◌+◌, Bool, ◌&&◌, ◌==◌, get_or, List, [], ◌∷◌, ◌++◌, take, map, filter_map, sym, ap, ◌∙◌, refl}
use Rattle.std.proofs.lemmas.List.{take_more}
use Rattle.indexmap.specs.IndexSet.{insert_key}
use Rattle.elf_obj.specs.declared.parts.Reloc.{Reloc}
use Rattle.linker.specs.declared.names.Numbers.{Numbers}
use Rattle.linker.specs.Names.{NumberedSymbol}
use Rattle.linker.specs.Got.{used_by, firsts}
use Rattle.linker.specs.Known.{numbers_of}
use Rattle.linker.proofs.Firsts.{words_more, uses_same, uses_one, Uses}
use Rattle.linker.proofs.table.add_uses.Goals as goal
use Rattle.linker.proofs.table.add_uses.Goals.{in-Some+in_ok-insert, in_default}

-- what an index past the end reads as
abbrev no_reloc : Reloc
no_reloc = record { offset = 0; kind = 0; symbol = 0; addend = pos 0 }

pub loop-reloc-preserved : goal.loop-reloc-preserved
loop-reloc-preserved c = λ objects uses knows has.
    let rs : List Reloc = c.args.relocs.now in
    let i : ℕ = c.loop-reloc.reloc-index in
    let r : Reloc = get_or rs i no_reloc in
    let f = used_by objects c.args.object c.args.symbols.now in
    let more : take (i + 1) rs ≡ take i rs ++ r ∷ [] =
    take_more rs i no_reloc c.loop-reloc-test.true in
    let eq : Numbers → Numbers → Bool = λ a b. a.object == b.object && a.number == b.number in
    let before = c.loop-reloc.invariant objects uses knows has in
    let used = sym (c.used_by.ensures objects knows) in
    elim c.match-used_by.branch [
      | in-Some+in_ok-insert w ↦
          let one : Uses f uses (take i rs) (take (i + 1) rs) w.in-Some.numbers =
          uses_one f uses (take i rs) (take (i + 1) rs) r w.in-Some.numbers more (used ∙ w.in-Some.is) in
          let old : List NumberedSymbol = uses ++ filter_map f (take i rs) in
          rw w.table-is (w.in_ok-insert.ensures.keys ∙ ap (λ (l : List Numbers). insert_key eq l w.in-Some.numbers) before
          ∙ ap (insert_key eq (map numbers_of (firsts old))) (sym one.numbers) ∙ words_more eq old one.entry (λ a b. refl)
          ∙ ap (λ (l : List NumberedSymbol). map numbers_of (firsts l)) one.is)
      | in_default w ↦ rw w.table-is (before
          ∙ ap (λ (l : List NumberedSymbol). map numbers_of (firsts l))
          (uses_same f uses (take i rs) (take (i + 1) rs) r more (used ∙ w.in_default.is)))
    ]
