use Rattle.std.proofs.Common.{◌≡◌, ℕ, List, [], take, drop}
use Rattle.std.specs.List.{list_any}
use Rattle.std.specs.HashSet.{contains_by}
use Rattle.std.specs.Str.{bytes_eq}
use Rattle.elf_obj.specs.Repeats.{is_seen_as, first_repeat}
use Rattle.elf_obj.proofs.repeats.first_repeat.Given as goal

abbrev pub invariant-loop-index : goal.invariant-loop-index
invariant-loop-index l = record {
  seen : (name : List ℕ) → contains_by (λ k. bytes_eq name k.now) l.names ≡ list_any (is_seen_as name) (take l.index l.symbols);
  rest : first_repeat l.index (take l.index l.symbols) (drop l.index l.symbols) ≡ first_repeat 0 [] l.symbols;
}
