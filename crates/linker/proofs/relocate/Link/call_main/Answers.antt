use Rattle.std.proofs.Common.{◌≡◌, ℕ, pos, List, sym, ap, ◌∙◌}
use Rattle.std.specs.Option.{option_copied}
use Rattle.std.specs.Str.{bytes_eq}
use Rattle.indexmap.specs.IndexMap.{get_by}
use Rattle.elf_obj.specs.Object.{Object}
use Rattle.linker.specs.Names.{definition, main_name}
use Rattle.linker.specs.Addresses.{address, plus}
use Rattle.linker.specs.Fields.{with_distance}
use Rattle.linker.specs.Known.{objects_of}
use Rattle.linker.proofs.Listed.{main_sum, no_main_sum}
use Rattle.linker.proofs.relocate.Link.call_main.Goals as goal
use Rattle.linker.proofs.relocate.Link.call_main.Goals.{in-None, in-Some}

pub returns : goal.returns
returns c =
    let os : List Object = objects_of c.args.self.now.objects.now in
    let bases = c.args.self.now.layout.bases in
    let found = sym (c.requires.names main_name)
    ∙ ap (λ (n : List ℕ). get_by (λ k. bytes_eq n k.now) c.args.self.now.names) (sym c.as_slice.ensures) ∙ sym c.get.ensures.value in
    let sum : c.match-get.sum ≡ plus (address os bases (definition os main_name)) (pos 0) = elim c.match-get.branch [
      | in-None w ↦ w.sum-is ∙ no_main_sum os bases (found ∙ ap option_copied w.in-None.is)
      | in-Some w ↦ w.sum-is ∙ w.symbol_address-sum.ensures
          ∙ main_sum os bases w.in-Some.numbers.now (found ∙ ap option_copied w.in-Some.is)
    ] in
    c.relocated.ensures ∙ ap (λ (s : ℕ). with_distance s bases.code 0x94000000) sum
