-- The code of a conversion does what it means (this project's own).
use Rattle.std.specs.Prelude.{ℕ, ◌-◌, ◌<◌, [], ◌∷◌, refl}
use Rattle.std.proofs.Common.{arith, ap, sym, subst}
use Rattle.c_type_base.specs.declared.expr.TExpr.{TExpr}
use Rattle.c_type_base.specs.declared.expr.TNode.TheOpen.{TNode-F}
use Rattle.c_type_base.specs.declared.ty.Ty.{Ty}
use Rattle.block_meaning.specs.ExpressionsInOrder.{Converts}
use Rattle.block_meaning.specs.Values.{converted_to}
use Rattle.gen_base.specs.Code.{plain, in_turn}
use Rattle.gen_base.specs.Conversions.{convert}
use Rattle.gen_laws.specs.Laws.Conversions.{convert-computes}
use Rattle.code_follows.specs.Covered.{leaves}
use Rattle.code_follows.specs.Leaves.{bare_leaves}
use Rattle.code_follows.specs.Parts.{ValueFollows, ValueNode, coded_in}
use Rattle.code_follows.specs.Scene.{Scene, IsScene, given_in, structs_in, frame_in, Lies}
use Rattle.code_follows.specs.Values.{ValueIs}
use Rattle.code_follows.specs.Laws.Coming.{pays-some}
use Rattle.code_follows.specs.Laws.Converting.{ValueIs-some, ValueIs-converted, convert_short}
use Rattle.code_follows.specs.Laws.Computing.{Suits-own}
use Rattle.code_follows.specs.Laws.Going.{Goes-part, Goes-list, Goes-done, On-at, Part-by}
use Rattle.code_follows.specs.Laws.Layers.{coded-ty}
use Rattle.code_follows.specs.Laws.Lying.{Lies-turn, Lies-plain, Lies-none}

pub convert_follows : (k : Scene) → IsScene k → (depth : ℕ) (e : TExpr) (t : Ty) → ValueFollows k depth e → Converts e.ty t →
    bare_leaves < leaves e → ValueNode k depth t (TNode-F.Convert e)
convert_follows k scene depth e t follows types enough = record {
  at = λ span around. record {
    part = Part-by (λ first reg from to free lies a now s on.
        let value = (coded_in k e).value first reg in
        let typed : Lies k (in_turn (value ∷ plain (convert e.ty t reg) ∷ [])) from to =
        subst (λ u. Lies k (in_turn (value ∷ plain (convert u t reg) ∷ [])) from to) (coded-ty (structs_in k) (frame_in k) e) lies in
        let parts = Lies-turn value (plain (convert e.ty t reg) ∷ []) typed in
        let rest = Lies-turn (plain (convert e.ty t reg)) [] parts.back in
        let low : reg.0 < 28 = omega (arith, free.high) in
        Goes-part ((follows.around e.span).part.yields first reg from parts.middle free parts.front) (omega arith) (λ alone. (refl, alone))
        (pays-some scene) on (λ v then u n came gave.
        let relates = came.came.comes.relates in
        Goes-list (leaves e - 1) (Lies-plain (convert e.ty t reg) rest.front) (convert_short e.ty t reg)
        (λ w same near. convert-computes reg (u.register reg.0) w (omega (arith, low)) (ap (λ f. f reg.0) same)
        (relates.injects.in_range.registers reg.0) (omega (arith, near)) e.ty t (ValueIs-some e.ty v (u.register reg.0) gave.result_is))
        (Suits-own _ reg low) came (omega arith) (omega (arith, enough))
        (λ w m holds others done. Goes-done (converted_to t v) (On-at (Lies-none rest.back) done) (omega arith)
        (subst (λ x. ValueIs (given_in k) t (converted_to t v) then x) (sym holds)
        (ValueIs-converted v (u.register reg.0) relates.injects types gave.result_is)))));
  };
}
