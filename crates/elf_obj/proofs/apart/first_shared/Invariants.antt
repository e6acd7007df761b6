use Rattle.std.proofs.Common.{◌≡◌, [], take, drop}
use Rattle.std.specs.List.{AllByRecursion}
use Rattle.elf_obj.specs.Apart.{IsSound, first_shared}
use Rattle.elf_obj.proofs.Intervals.{Rising}
use Rattle.elf_obj.proofs.Sharing.{Seen}
use Rattle.elf_obj.proofs.apart.first_shared.Given as goal

abbrev pub invariant-loop-index : goal.invariant-loop-index
invariant-loop-index l = record {
  rising : AllByRecursion (IsSound l.home) l.symbols → Rising 0 l.taken.entries;
  seen : AllByRecursion (IsSound l.home) l.symbols → Seen l.home l.symbols l.taken.entries (take l.index l.tagged);
  rest : AllByRecursion (IsSound l.home) l.symbols
      → first_shared l.home l.symbols l.index (take l.index l.tagged) (drop l.index l.tagged) ≡ first_shared l.home l.symbols 0 [] l.tagged;
}
