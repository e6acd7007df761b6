use Rattle.std.proofs.Common.{◌≡◌, ℕ, ◌+◌, ◌*◌, ◌<◌, true, List, [], ◌∷◌, ◌++◌, length, take, drop, sym, ap, ◌∙◌, arith}
use Rattle.std.proofs.lemmas.List.{take_more}
use Rattle.elf_base.specs.Conditions.{first_fault}
use Rattle.elf_obj.specs.declared.parts.Symbol.{Symbol}
use Rattle.elf_obj.specs.declared.sizes.Sizes.{Sizes}
use Rattle.elf_obj.specs.Sections.{names_end}
use Rattle.elf_obj.specs.Rules.{is_new}
use Rattle.elf_obj.specs.ObjectFault.{is_symbol, symbol_conditions, symbol_spot}
use Rattle.elf_obj.specs.Laws.Ends.{names_grow}
use Rattle.elf_obj.proofs.Steps.{left, names-step}
use Rattle.elf_obj.proofs.Faults.{symbol-holds}
use Rattle.elf_obj.proofs.Names.{new-step, new-is, symbol-new, locals-step}
use Rattle.elf_obj.proofs.symbols.judge_symbols.Goals as goal

pub overflow_add-place-in-loop-index : goal.overflow_add-place-in-loop-index
overflow_add-place-in-loop-index c =
    let s : Symbol = c.index-symbols-index.result in
    let i : ℕ = c.loop-index.index in
    let within : i < length c.args.symbols.now = omega arith in
    let is : drop i c.args.symbols.now ≡ s ∷ drop (i + 1) c.args.symbols.now =
    left c.args.symbols.now i s s within c.index-symbols-index.is in
    let step : names_end (c.loop-index.place + length s.name + 1) (drop (i + 1) c.args.symbols.now) ≡ names_end 1 c.args.symbols.now =
    names-step c.args.symbols.now i c.loop-index.place (names_end 1 c.args.symbols.now) s is c.loop-index.invariant.ends in
    omega (
      arith,
      names_grow (c.loop-index.place + length s.name + 1) (drop (i + 1) c.args.symbols.now),
      step,
      ap length c.as_slice.ensures,
      c.requires.names,
    )

pub is_symbol-requires-clause-new : goal.is_symbol-requires-clause-new
is_symbol-requires-clause-new c =
    let ss : List Symbol = c.args.symbols.now in
    let i : ℕ = c.loop-index.index in
    let s : Symbol = c.index-symbols-index.result in
    let within : i < length ss = omega arith in
    let front : drop i ss ≡ s ∷ drop (i + 1) ss = left ss i s s within c.index-symbols-index.is in
    let more : take (i + 1) ss ≡ take i ss ++ s ∷ [] =
    take_more ss i s within ∙ ap (λ (t : Symbol). take i ss ++ t ∷ []) (sym c.index-symbols-index.is) in
    new-is ss i c.args.repeat s front more c.loop-index.invariant.repeat

pub loop-index-preserved : goal.loop-index-preserved
loop-index-preserved c =
    let ss : List Symbol = c.args.symbols.now in
    let i : ℕ = c.loop-index.index in
    let s : Symbol = c.index-symbols-index.result in
    let file : List ℕ = c.args.file.now in
    let z : Sizes = c.args.sizes.now in
    let at : ℕ = c.args.at + 24 * i in
    let place : ℕ = c.loop-index.place in
    let within : i < length ss = omega arith in
    let rest : List Symbol = drop (i + 1) ss in
    let front : drop i ss ≡ s ∷ rest = left ss i s s within c.index-symbols-index.is in
    let more : take (i + 1) ss ≡ take i ss ++ s ∷ [] =
    take_more ss i s within ∙ ap (λ (t : Symbol). take i ss ++ t ∷ []) (sym c.index-symbols-index.is) in
    let good : is_symbol file z (symbol_spot at place (take i ss)) s ≡ true = sym c.is_symbol.ensures ∙ c.if-not-is_symbol.false in
    let new : is_new (take i ss) s ≡ true = symbol-new file z at place (take i ss) s good in
    let next : place + (length c.as_slice.result.now + 1) ≡ place + length s.name + 1 = omega (arith, ap length c.as_slice.ensures) in
    let there : c.args.at + 24 * (i + 1) ≡ at + 24 = omega arith in
    let place-next : ℕ = place + length s.name + 1 in
    record {
      ends = ap (λ (n : ℕ). names_end n rest) next ∙ names-step ss i place (names_end 1 ss) s front c.loop-index.invariant.ends;
      repeat = sym (new-step ss i s front more new) ∙ c.loop-index.invariant.repeat;
      locals = locals-step ss i s c.loop-index.all_local c.both-all_local.result more c.loop-index.invariant.locals
          c.both-all_local.ensures;
      rest = ap (λ (n : ℕ). first_fault (symbol_conditions file z (symbol_spot (c.args.at + 24 * (i + 1)) n (take (i + 1) ss))
          (i + 1 + 1) rest)) next
          ∙ ap (λ (n : ℕ). first_fault (symbol_conditions file z (symbol_spot n place-next (take (i + 1) ss)) (i + 1 + 1) rest)) there
          ∙ ap (λ (l : List Symbol). first_fault (symbol_conditions file z (symbol_spot (at + 24) place-next l) (i + 1 + 1) rest)) more
          ∙ sym (symbol-holds file z at place (i + 1) (take i ss) s rest good)
          ∙ ap (λ (l : List Symbol). first_fault (symbol_conditions file z (symbol_spot at place (take i ss)) (i + 1) l)) (sym front)
          ∙ c.loop-index.invariant.rest;
    }
