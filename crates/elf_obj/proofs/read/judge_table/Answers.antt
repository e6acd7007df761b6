use Rattle.std.proofs.Common.{◌≡◌, ℕ, ◌+◌, ◌*◌, ◌<◌, ◌≤◌, ◌^◌, true, List, [], length, sym, ap, subst, ◌∙◌, arith}
use Rattle.elf_base.specs.Zeros.{is_zero_between}
use Rattle.elf_obj.specs.declared.parts.Symbol.{Symbol}
use Rattle.elf_obj.specs.declared.refusal.ObjectRefusal.TheVariants.{BadSymbol}
use Rattle.elf_obj.specs.declared.sizes.Sizes.{Sizes}
use Rattle.elf_obj.specs.Object.{Object}
use Rattle.elf_obj.specs.Sections.{names_end, sizes_of}
use Rattle.elf_obj.specs.Claimed.{offset_of, claimed}
use Rattle.elf_obj.specs.ObjectFault.{symbol_conditions, symbol_spot}
use Rattle.elf_obj.specs.Laws.ClaimsFit.{ClaimsFit, claims_fit}
use Rattle.elf_obj.proofs.Faults.{tells-behind, tells-same}
use Rattle.elf_obj.proofs.read.judge_table.Goals as goal

pub judge_symbols-requires-clause-within : goal.judge_symbols-requires-clause-within
judge_symbols-requires-clause-within c =
    let file : List ℕ = c.args.file.now in
    let short : length file < 2 ^ 63 = omega arith in
    let fit : ClaimsFit file = claims_fit file (λ i. omega (arith, c.type_inv.file i)) short c.requires.held in
    let is : c.deref.result.now ≡ (claimed file).symbols = c.deref.ensures.value ∙ ap (λ (o : Object). o.symbols) c.requires.parts in
    subst (λ (ss : List Symbol). 1 ≤ length ss → c.offset_of-place.result + 24 + 24 * length ss ≤ length file) (sym is)
    (rw c.offset_of-place.ensures fit.symbols)

pub judge_symbols-requires-clause-names : goal.judge_symbols-requires-clause-names
judge_symbols-requires-clause-names c =
    let file : List ℕ = c.args.file.now in
    let short : length file < 2 ^ 63 = omega arith in
    let fit : ClaimsFit file = claims_fit file (λ i. omega (arith, c.type_inv.file i)) short c.requires.held in
    let is : c.deref.result.now ≡ (claimed file).symbols = c.deref.ensures.value ∙ ap (λ (o : Object). o.symbols) c.requires.parts in
    subst (λ (ss : List Symbol). names_end 1 ss < 2 ^ 64) (sym is) fit.small.names

pub returns : goal.returns
returns c =
    let file : List ℕ = c.args.file.now in
    let p : Object = claimed file in
    let is : c.deref.result.now ≡ p.symbols = c.deref.ensures.value ∙ ap (λ (o : Object). o.symbols) c.requires.parts in
    let place : ℕ = offset_of file 5 in
    let zero : is_zero_between file place (place + 24) ≡ true =
    ap (λ (n : ℕ). is_zero_between file n (n + 24)) (sym c.offset_of-place.ensures) ∙ sym c.is_zero_between.ensures
    ∙ c.if-not-is_zero_between.false in
    let same : symbol_conditions file c.args.sizes.now (symbol_spot (c.offset_of-place.result + 24) 1 []) 1 c.deref.result.now
    ≡ symbol_conditions file (sizes_of p) (symbol_spot (place + 24) 1 []) 1 p.symbols =
    ap (λ (z : Sizes). symbol_conditions file z (symbol_spot (c.offset_of-place.result + 24) 1 []) 1 c.deref.result.now) c.requires.sizes
    ∙ ap (λ (n : ℕ). symbol_conditions file (sizes_of p) (symbol_spot (n + 24) 1 []) 1 c.deref.result.now) c.offset_of-place.ensures
    ∙ ap (λ (ss : List Symbol). symbol_conditions file (sizes_of p) (symbol_spot (place + 24) 1 []) 1 ss) is in
    tells-behind c.judge_symbols.result (is_zero_between file place (place + 24)) (BadSymbol 0)
    (symbol_conditions file (sizes_of p) (symbol_spot (place + 24) 1 []) 1 p.symbols) zero
    (tells-same c.judge_symbols.result _ _ same c.judge_symbols.ensures)
