use Rattle.std.proofs.Common.{◌≡◌, ℕ, List, length, sym, ap, subst, ◌∙◌, inr, arith}
use Rattle.std.specs.Option.{option_copied}
use Rattle.std.proofs.lemmas.List.{length-map}
use Rattle.elf_obj.specs.declared.parts.ObjectParts.{ObjectParts}
use Rattle.elf_obj.specs.declared.parts.Symbol.{Symbol}
use Rattle.elf_obj.specs.Object.{Object, object_of}
use Rattle.linker.specs.declared.refusal.LinkRefusal.TheVariants.{TooManyObjects, Undefined}
use Rattle.linker.specs.LinkFault.{LinkFault, too_many, no_main, missing, first_missing}
use Rattle.linker.specs.Known.{objects_of}
use Rattle.linker.proofs.Binding.{FindsSymbol, finds_symbol}
use Rattle.linker.proofs.names.bound_names.Goals as goal

pub returns-then-objects-gt16-clause-refused : goal.returns-then-objects-gt16-clause-refused
returns-then-objects-gt16-clause-refused c =
    let ps : List ObjectParts = c.args.objects.now in
    let len : length (objects_of ps) ≡ length ps = length-map ps object_of in
    inr (subst (λ (n : ℕ). LinkFault (objects_of ps) (TooManyObjects n)) len (too_many (omega (arith, len, c.if-objects-gt16.true))))

pub returns-then-not-main_is_there-clause-refused : goal.returns-then-not-main_is_there-clause-refused
returns-then-not-main_is_there-clause-refused c =
    let ps : List ObjectParts = c.args.objects.now in
    inr (no_main (omega (arith, length-map ps object_of, c.if-objects-gt16.false)) c.in_ok-names.ensures.once
    (sym c.main_is_there.ensures ∙ c.if-not-main_is_there.true))

pub returns-in-Some-clause-refused : goal.returns-in-Some-clause-refused
returns-in-Some-clause-refused c =
    let os : List Object = objects_of c.args.objects.now in
    let s : Symbol = c.in-Some.symbol.now in
    let found : FindsSymbol (first_missing os) s =
    finds_symbol (first_missing os) s (sym c.first_missing.ensures ∙ ap option_copied c.in-Some.is) in
    let fault : LinkFault os (Undefined found.entry.symbol.name) =
    missing found.entry (omega (arith, length-map c.args.objects.now object_of, c.if-objects-gt16.false)) c.in_ok-names.ensures.once
    (sym c.main_is_there.ensures ∙ c.if-not-main_is_there.false) found.is in
    let name : found.entry.symbol.name ≡ c.in_ok-name.name = ap (λ (x : Symbol). x.name) found.symbol ∙ sym c.in_ok-name.ensures.same in
    inr (subst (λ (n : List ℕ). LinkFault os (Undefined n)) name fault)
