-- Objects are refused by one condition at most.
use Rattle.std.proofs.Common.{◌≡◌, ℕ, List, refl, sym, ap, ◌∙◌, arith}
use Rattle.std.proofs.lemmas.Option.{same_Some}
use Rattle.elf_obj.specs.Object.{Object}
use Rattle.linker.specs.declared.refusal.LinkRefusal.{LinkRefusal}
use Rattle.linker.specs.declared.refusal.LinkRefusal.TheVariants.{Duplicate, Undefined, ImageTooLarge}
use Rattle.linker.specs.Names.{NumberedSymbol}
use Rattle.linker.specs.Tagged.{sized, IsFewest}
use Rattle.linker.specs.LinkFault.{LinkFault, too_many, repeated, no_main, missing, too_large, excess}

-- the fewest bytes are one number
pub one_count : (objects : List Object) (a b : ℕ) → IsFewest objects a → IsFewest objects b → a ≡ b
one_count objects a b h g = let one = h.least b g.agrees in let two = g.least a h.agrees in omega arith

pub one_fault : (objects : List Object) (a b : LinkRefusal) → LinkFault objects a → LinkFault objects b → a ≡ b
one_fault objects a b (too_many h) (too_many g) = refl
one_fault objects a b (too_many h) (repeated e g i) = absurd (omega arith)
one_fault objects a b (too_many h) (no_main g i j) = absurd (omega arith)
one_fault objects a b (too_many h) (missing e g i j k) = absurd (omega arith)
one_fault objects a b (too_many h) (too_large n m g i j) = let few = g.few in absurd (omega arith)
one_fault objects a b (repeated e h i) (too_many g) = absurd (omega arith)
one_fault objects a b (repeated e h i) (repeated f g j) =
    ap (λ (x : NumberedSymbol). Duplicate x.symbol.name) (same_Some _ _ (sym i ∙ j))
one_fault objects a b (repeated e h i) (no_main g j k) = absurd cc
one_fault objects a b (repeated e h i) (missing f g j k l) = absurd cc
one_fault objects a b (repeated e h i) (too_large n m g j k) = let once = g.once in absurd cc
one_fault objects a b (no_main h i j) (too_many g) = absurd (omega arith)
one_fault objects a b (no_main h i j) (repeated f g k) = absurd cc
one_fault objects a b (no_main h i j) (no_main g k l) = refl
one_fault objects a b (no_main h i j) (missing f g k l m) = absurd cc
one_fault objects a b (no_main h i j) (too_large n m g k l) = let main = g.main in absurd cc
one_fault objects a b (missing e h i j k) (too_many g) = absurd (omega arith)
one_fault objects a b (missing e h i j k) (repeated f g l) = absurd cc
one_fault objects a b (missing e h i j k) (no_main g l m) = absurd cc
one_fault objects a b (missing e h i j k) (missing f g l m n) =
    ap (λ (x : NumberedSymbol). Undefined x.symbol.name) (same_Some _ _ (sym k ∙ n))
one_fault objects a b (missing e h i j k) (too_large n m g l o) = let defined = g.defined in absurd cc
one_fault objects a b (too_large n m h i j) (too_many g) = let few = h.few in absurd (omega arith)
one_fault objects a b (too_large n m h i j) (repeated f g k) = let once = h.once in absurd cc
one_fault objects a b (too_large n m h i j) (no_main g k l) = let main = h.main in absurd cc
one_fault objects a b (too_large n m h i j) (missing f g k l o) = let defined = h.defined in absurd cc
one_fault objects a b (too_large n m h i j) (too_large n2 m2 g k l) =
    let same : n ≡ n2 = one_count objects n n2 i k in
    ap ImageTooLarge (same_Some _ _ (sym j ∙ ap (λ (c : ℕ). excess (sized objects c)) same ∙ l))
