use Rattle.std.proofs.Common.{◌≡◌, ℕ, ◌+◌, ◌<◌, ◌∷◌, length, drop, ap, arith}
use Rattle.elf_obj.specs.declared.parts.Symbol.{Symbol}
use Rattle.elf_obj.specs.Sections.{names_end}
use Rattle.elf_obj.specs.Laws.Ends.{names_grow}
use Rattle.elf_obj.proofs.Steps.{left, names-step}
use Rattle.elf_obj.proofs.sizes.names_end.Goals as goal

pub overflow_add-place-in-loop-symbol : goal.overflow_add-place-in-loop-symbol
overflow_add-place-in-loop-symbol c =
    let s : Symbol = c.symbol-item.result in
    let i : ℕ = c.loop-symbol.symbol-index in
    let within : i < length c.args.symbols.now = omega arith in
    let is : drop i c.args.symbols.now ≡ s ∷ drop (i + 1) c.args.symbols.now = left c.args.symbols.now i s s within c.symbol-item.is in
    let step : names_end (c.loop-symbol.place + length s.name + 1) (drop (i + 1) c.args.symbols.now) ≡ names_end 1 c.args.symbols.now =
    names-step c.args.symbols.now i c.loop-symbol.place (names_end 1 c.args.symbols.now) s is c.loop-symbol.invariant in
    omega (
      arith,
      names_grow (c.loop-symbol.place + length s.name + 1) (drop (i + 1) c.args.symbols.now),
      step,
      ap length c.as_slice.ensures,
      c.requires,
    )
