-- An item that puts the pointer to a block into a register does what it means to name that block (this project's own).
use Rattle.std.specs.Prelude.{ℕ, ◌<◌, true, Option}
use Rattle.std.proofs.Common.{arith, sym, subst, ◌∙◌}
use Rattle.a64_code.specs.declared.instr.Reg.{Reg}
use Rattle.a64_code.specs.State.{State}
use Rattle.block_meaning.specs.Expressions.{starts, start_of}
use Rattle.block_meaning.specs.Running.{Context}
use Rattle.sym_code.specs.declared.item.SymItem.{SymItem}
use Rattle.tag_plan.specs.Effects.{Puts}
use Rattle.code_relation.specs.Items.{Spot, Acts, PutsAddress, PutsPointer}
use Rattle.code_relation.specs.Numbers.{IsNumber}
use Rattle.code_relation.specs.Laws.Outcomes.{spent}
use Rattle.gen_base.specs.Code.{only}
use Rattle.code_follows.specs.Leaves.{place_leaves}
use Rattle.code_follows.specs.Parts.{Part}
use Rattle.code_follows.specs.Scene.{Scene, IsScene, given_in}
use Rattle.code_follows.specs.Steps.{SameMachine, Walks}
use Rattle.code_follows.specs.Values.{PlaceIs}
use Rattle.code_follows.specs.Laws.Coming.{pays}
use Rattle.code_follows.specs.Laws.Going.{Goes-some, Goes-unit, Goes-walks, Goes-done, Part-by}
use Rattle.code_follows.specs.Laws.Lying.{ActsFrom, Lies-only}

puts_same : {r : Reg} {value : ℕ} {s t : State} → r.0 < 28 → Puts r value s t → SameMachine s t
puts_same {r} {s = s} {t = t} low puts = record {
  injected = record {
    sp = puts.same.sp;
    base = puts.registers 28 (λ same. omega (arith, low, same));
    byte = puts.same.byte;
    tag = puts.tags;
    regions = puts.same.regions;
    guard = puts.same.guard;
    choices = puts.same.choices;
    drawn = puts.same.drawn;
  };
  outside = puts.same.outside;
}

-- the item puts the pointer to a block, wherever it stands and into whatever register
pub record Names (k : Scene) (i : Reg → SymItem) (block : Context → Option ℕ) : Type 0 where
  pub names : (reg : Reg) (spot : Spot) → Acts k.code k.function spot (i reg) →
      PutsAddress k.code k.function spot.from spot.to reg block

pub address_part : {k : Scene} {i : Reg → SymItem} {block : Context → Option ℕ} → IsScene k → Names k i block →
    Part k (λ t r. only (i r)) 0 place_leaves true (PlaceIs (given_in k)) (starts (block k.here))
address_part {k} {i} {block} scene names = Part-by (λ first reg from to free lies a now s on.
    let low : reg.0 < 28 = omega (arith, free.high) in
    let there : ActsFrom k (i reg) from to = Lies-only (i reg) lies in
    Goes-unit on (λ owing. Goes-some (block k.here) (λ b is.
    let puts : PutsPointer k.code there.spot.to reg _ _ s =
    (names.names reg there.spot there.acts).puts k.here _ s b owing.came.comes.relates.injects scene.inside
    (owing.came.comes.pc ∙ sym there.from_is) is in
    let walks : Walks k to puts.steps s puts.state =
    record { led = puts.led; pc = puts.pc ∙ there.to_is; same = puts_same low puts.puts } in
    Goes-walks puts.steps place_leaves walks (λ alone r other. puts.puts.registers r other) owing puts.least
    (omega (arith, puts.most, pays scene))
    (λ done. Goes-done (start_of b) done (omega arith)
    (record { is = subst (λ n. IsNumber (given_in k) (spent now) (start_of b) n) (sym puts.puts.is) puts.number_is })))))
