use Rattle.std.proofs.Common.{◌≡◌, ℕ, ◌+◌, ◌*◌, ◌<◌, Bool, true, nat_eq, List, [], ◌∷◌, ◌++◌, length, take, drop, get_or, refl, sym, ap}
use Rattle.std.proofs.Common.{◌∙◌, arith}
use Rattle.std.specs.Prelude.{◌&&◌, not, slice_get}
use Rattle.std.proofs.lemmas.List.{take_more}
use Rattle.elf_base.specs.Laws.Tests.{both}
use Rattle.elf_base.specs.Conditions.{first_fault}
use Rattle.elf_obj.specs.declared.parts.Symbol.{Symbol}
use Rattle.elf_obj.specs.declared.parts.Home.TheVariants.{Init, Zero}
use Rattle.elf_obj.specs.Rules.{tag_keeps}
use Rattle.elf_obj.specs.Apart.{is_found_apart}
use Rattle.elf_obj.specs.ObjectFault.{is_tag, tag_conditions, tag_spot}
use Rattle.elf_obj.proofs.Steps.{left, numbered-at}
use Rattle.elf_obj.proofs.Faults.{tag-holds}
use Rattle.elf_obj.proofs.Sharing.{apart-step, apart-is, keeps-apart}
use Rattle.elf_obj.proofs.relocs.judge_tags.Goals as goal

pub is_tag-stands-requires-clause-numbered : goal.is_tag-stands-requires-clause-numbered
is_tag-stands-requires-clause-numbered c =
    let within : c.loop-index.index < length c.args.tagged.now = omega arith in
    numbered-at c.args.tagged.now c.loop-index.index 0 c.requires.numbered within

pub tag_keeps-keeps-requires : goal.tag_keeps-keeps-requires
tag_keeps-keeps-requires c =
    let symbols : List Symbol = c.args.symbols.now in
    let ts : List ℕ = c.args.tagged.now in
    let i : ℕ = c.loop-index.index in
    let t : ℕ = get_or ts i 0 in
    let within : i < length ts = omega arith in
    let front : drop i ts ≡ t ∷ drop (i + 1) ts = left ts i t 0 within refl in
    let more : take (i + 1) ts ≡ take i ts ++ t ∷ [] = take_more ts i 0 within in
    let init = apart-is Init symbols ts i c.args.shared.init t front more c.loop-index.invariant.init in
    let zero = apart-is Zero symbols ts i c.args.shared.zero t front more c.loop-index.invariant.zero in
    c.both-apart.ensures ∙ ap (λ (b : Bool). b && not (nat_eq i c.args.shared.zero)) init
    ∙ ap (λ (b : Bool). is_found_apart Init symbols (take i ts) (slice_get symbols t) && b) zero

pub loop-index-preserved : goal.loop-index-preserved
loop-index-preserved c =
    let symbols : List Symbol = c.args.symbols.now in
    let file : List ℕ = c.args.file.now in
    let ts : List ℕ = c.args.tagged.now in
    let i : ℕ = c.loop-index.index in
    let t : ℕ = get_or ts i 0 in
    let at : ℕ = c.args.at + 24 * i in
    let least : ℕ = c.loop-index.least in
    let within : i < length ts = omega arith in
    let rest : List ℕ = drop (i + 1) ts in
    let front : drop i ts ≡ t ∷ rest = left ts i t 0 within refl in
    let more : take (i + 1) ts ≡ take i ts ++ t ∷ [] = take_more ts i 0 within in
    let good : (is_tag file at t && tag_keeps symbols (take i ts) least t) ≡ true =
    ap (λ (b : Bool). b && tag_keeps symbols (take i ts) least t) (sym c.is_tag-stands.ensures)
    ∙ ap (λ (b : Bool). c.is_tag-stands.result && b) (sym c.tag_keeps-keeps.ensures) ∙ sym c.both-good.ensures ∙ c.if-not-good.false in
    let keeps : tag_keeps symbols (take i ts) least t ≡ true = (both (is_tag file at t) (tag_keeps symbols (take i ts) least t) good).1 in
    let there : c.args.at + 24 * (i + 1) ≡ at + 24 = omega arith in
    let number : c.args.first + (i + 1) ≡ c.args.first + i + 1 = omega arith in
    record {
      init = sym (apart-step Init symbols ts i t front more (keeps-apart Init symbols (take i ts) least t keeps))
          ∙ c.loop-index.invariant.init;
      zero = sym (apart-step Zero symbols ts i t front more (keeps-apart Zero symbols (take i ts) least t keeps))
          ∙ c.loop-index.invariant.zero;
      rest = ap (λ (n : ℕ). first_fault (tag_conditions file symbols (tag_spot (c.args.at + 24 * (i + 1)) (take (i + 1) ts) (n + 1))
          (c.args.first + (i + 1)) rest)) c.from-least.ensures
          ∙ ap (λ (n : ℕ). first_fault (tag_conditions file symbols (tag_spot n (take (i + 1) ts) (t + 1))
          (c.args.first + (i + 1)) rest)) there
          ∙ ap (λ (n : ℕ). first_fault (tag_conditions file symbols (tag_spot (at + 24) (take (i + 1) ts) (t + 1)) n rest)) number
          ∙ ap (λ (l : List ℕ). first_fault (tag_conditions file symbols (tag_spot (at + 24) l (t + 1)) (c.args.first + i + 1) rest)) more
          ∙ sym (tag-holds file symbols at (take i ts) least (c.args.first + i) t rest good)
          ∙ ap (λ (l : List ℕ). first_fault (tag_conditions file symbols (tag_spot at (take i ts) least) (c.args.first + i) l)) (sym front)
          ∙ c.loop-index.invariant.rest;
    }
