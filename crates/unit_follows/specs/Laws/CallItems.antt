-- Items that call a function, where their words stand, and the words of the function follow it (this project's own).
use Rattle.std.specs.Prelude.{◌≡◌, ℕ, ◌+◌, ◌*◌, ◌/◌, ◌%◌, ◌^◌, ◌<◌, ◌≤◌, length}
use Rattle.std.specs.Prelude.{refl}
use Rattle.std.proofs.Common.{arith, sym, subst, ◌∙◌}
use Rattle.c_type_base.specs.declared.expr.Callee.TheVariants as callee
use Rattle.a64_laws.specs.Branches.{Way, Linked, jump_instr, goes_to, IsInReach}
use Rattle.block_meaning.specs.Linkage.{function_of}
use Rattle.block_meaning.specs.Linkage.{function_named}
use Rattle.block_meaning.specs.Running.{Function}
use Rattle.code_relation.specs.Follows.{Code, types_of}
use Rattle.code_relation.specs.Follows.{WordsFollow}
use Rattle.code_relation.specs.Items.{HasInstr, Calls}
use Rattle.code_relation.specs.Sites.{units_of}
use Rattle.code_relation.specs.Stands.{IsThere}
use Rattle.code_relation.specs.Laws.Calling.{Calls-words}
use Rattle.gen_unit.specs.declared.parts.CodeTarget.TheVariants as target
use Rattle.gen_unit.specs.Words.{way, call_words}
use Rattle.unit_follows.specs.Placing.{Placing}
use Rattle.unit_follows.specs.Laws.PlacedWords.{PlacedWords, IsNear}
use Rattle.unit_follows.specs.Laws.Standing.{HasInstr-first}
use Rattle.unit_follows.specs.Laws.Ways.{way-goes, way-reaches}

-- the words of each function of the program follow it, where the placing has them; none has more parameters than registers
pub record AllFollow (c : Code) (p : Placing) : Type 1 where
  pub follow : (f : Function) → IsThere (units_of c.given) f → WordsFollow c f (p.function f)
  pub few : (f : Function) → length (types_of (function_named (units_of c.given) f)) ≤ 30

-- ---- where the branch goes

-- the branch stands there, and reaches a function
pub record Links (c : Code) (from to : ℕ) : Type 0 where
  pub way : Way
  pub has : HasInstr c from (jump_instr Linked way)
  pub reach : IsInReach 26 from way
  pub goes : goes_to from way ≡ to

pub links_by : (c : Code) (p : Placing) (from to : ℕ) (f : Function) → HasInstr c from (jump_instr Linked (way (from / 4) (to / 4))) →
    from % 4 ≡ 0 → to ≡ p.function f → p.load < 2 ^ 55 → IsNear p from 4 f → Links c from to
links_by c p from to f has whole is low near = record {
  way = way (from / 4) (to / 4);
  has = has;
  reach = subst (λ a. IsInReach 26 a (way (from / 4) (to / 4))) (omega (arith, whole))
      (way-reaches 26 0 (from / 4) (to / 4) (omega (arith, is, near.back, near.whole)) (omega (arith, is, near.on, near.whole))
      (omega (arith, is, near.image.to, low)));
  goes = subst (λ a. goes_to a (way (from / 4) (to / 4)) ≡ to) (let e : 0 + 4 * (from / 4) ≡ from = omega (arith, whole) in e)
      (way-goes 0 (from / 4) (to / 4) ∙ (let e : 0 + 4 * (to / 4) ≡ to = omega (arith, is, near.whole) in e));
}

-- ---- a function of the same file

pub Calls-function : {c : Code} {p : Placing} (f : Function) (n from : ℕ) → PlacedWords c p f.unit from (call_words (target.Function n)) →
    IsThere (units_of c.given) (function_of f.unit n) → AllFollow c p → Calls c f from (from + 4) (callee.Function n)
Calls-function {c} {p} f n from placed there all =
    Calls-words c f n from links.way links.has links.reach (all.few (function_of f.unit n))
    (subst (λ a. WordsFollow c (function_of f.unit n) a) (sym links.goes) (all.follow (function_of f.unit n) there))
  where
    links : Links c from (p.function (function_of f.unit n))
    links = links_by c p from (p.function (function_of f.unit n)) (function_of f.unit n) (HasInstr-first placed.stands) placed.whole refl
        placed.load_below (placed.functions (function_of f.unit n) there)
