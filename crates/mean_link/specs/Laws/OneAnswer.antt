-- Files link, or have one reason why they do not, and not both.
use Rattle.std.proofs.Common.{◌≡◌, ℕ, List, refl, sym, ap, ◌∙◌, arith}
use Rattle.std.proofs.lemmas.Option.{same_Some}
use Rattle.linker.specs.declared.refusal.LinkRefusal.{LinkRefusal}
use Rattle.linker.specs.declared.refusal.LinkRefusal.TheVariants.{Duplicate, Undefined, NoMemory}
use Rattle.mean_link.specs.LinkFault.{AreLinked, LinkFault, too_many, repeated, no_main, missing}
use Rattle.mean_link.specs.declared.names.FileNames.{FileNames}

pub one_fault : (files : List FileNames) (a b : LinkRefusal) → LinkFault files a → LinkFault files b → a ≡ b
one_fault files a b (too_many h) (too_many g) = refl
one_fault files a b (too_many h) (repeated g i) = absurd (omega arith)
one_fault files a b (too_many h) (no_main g i j) = absurd (omega arith)
one_fault files a b (too_many h) (missing g i j k) = absurd (omega arith)
one_fault files a b (repeated h i) (too_many g) = absurd (omega arith)
one_fault files a b (repeated h i) (repeated g j) = ap Duplicate (same_Some _ _ (sym i ∙ j))
one_fault files a b (repeated h i) (no_main g j k) = absurd cc
one_fault files a b (repeated h i) (missing g j k l) = absurd cc
one_fault files a b (no_main h i j) (too_many g) = absurd (omega arith)
one_fault files a b (no_main h i j) (repeated g k) = absurd cc
one_fault files a b (no_main h i j) (no_main g k l) = refl
one_fault files a b (no_main h i j) (missing g k l m) = absurd cc
one_fault files a b (missing h i j k) (too_many g) = absurd (omega arith)
one_fault files a b (missing h i j k) (repeated g l) = absurd cc
one_fault files a b (missing h i j k) (no_main g l m) = absurd cc
one_fault files a b (missing h i j k) (missing g l m n) = ap Undefined (same_Some _ _ (sym k ∙ n))

pub no_fault : (files : List FileNames) (a : LinkRefusal) → AreLinked files → LinkFault files a → ⊥
no_fault files a linked (too_many h) = let few = linked.few in omega arith
no_fault files a linked (repeated h i) = let once = linked.once in cc
no_fault files a linked (no_main h i j) = let main = linked.main in cc
no_fault files a linked (missing h i j k) = let defined = linked.defined in cc
