-- The code of a cast does what it means (this project's own).
use Rattle.std.specs.Prelude.{◌≡◌, ℕ, ◌+◌, ◌^◌, ◌<◌, true, List, [], ◌∷◌, Option, refl}
use Rattle.std.proofs.Common.{arith, ap, sym, subst, ◌∙◌}
use Rattle.c_ast.specs.declared.int_type.IntType.{IntType}
use Rattle.c_type_base.specs.Types.{is_void, is_void_level, int_of, TyLayer}
use Rattle.c_type_base.specs.declared.expr.TExpr.{TExpr}
use Rattle.c_type_base.specs.declared.expr.TNode.TheOpen.{TNode-F}
use Rattle.c_type_base.specs.declared.ty.Ty.{Ty, out-Ty}
use Rattle.c_type_base.specs.declared.ty.Ty.TheOpen.{Ty-F}
use Rattle.a64_code.specs.declared.instr.Instr.{Instr}
use Rattle.a64_code.specs.declared.instr.Reg.{Reg}
use Rattle.a64_code.specs.State.{State}
use Rattle.block_meaning.specs.ExpressionsInOrder.{Converts}
use Rattle.block_meaning.specs.Running.{State as MeaningState}
use Rattle.block_meaning.specs.Values.{converted_to}
use Rattle.block_meaning.specs.declared.value.Value.{Value}
use Rattle.gen_base.specs.Conversions.{convert, into_type}
use Rattle.gen_base.specs.Registers.{paying}
use Rattle.gen_laws.specs.Computes.{Computes, all}
use Rattle.gen_laws.specs.Laws.Conversions.{convert-computes}
use Rattle.gen_laws.specs.Laws.Computing.{Computes-nil}
use Rattle.gen_laws.specs.Laws.Unary.{nop-computes}
use Rattle.gen_laws.specs.Operations.{converted_number}
use Rattle.code_follows.specs.Parts.{ValueFollows, ValueNode, coded_in}
use Rattle.code_follows.specs.Scene.{Scene, IsScene, given_in, structs_in, frame_in}
use Rattle.code_follows.specs.Values.{ValueIs}
use Rattle.code_follows.specs.Laws.Walking.{Short}
use Rattle.code_follows.specs.Laws.Converting.{ValueIs-some, ValueIs-converted, ValueIs-void, convert_short}
use Rattle.code_follows.specs.Laws.Layers.{coded-ty}
use Rattle.code_follows.specs.Laws.Operand.{ValueIs-spent, Listed, Operand, computes_it, operand_part}
use Rattle.code_follows.specs.Laws.Scalars.{ValueIs-lt, Converts-scalar}

-- ---- a list of which there is one instruction at least

paying_listed : (instrs : List Instr) → Short 1 instrs → Listed (paying instrs)
paying_listed [] short = record { quiet = refl; few = record { some = omega arith; few = omega arith } }
paying_listed (i ∷ is) short = record { quiet = short.quiet; few = record { some = omega arith; few = omega (arith, short.few) } }

paying-computes : (instrs : List Instr) (reg : Reg) (n : ℕ) (s : State) → s.pc + 4 < 2 ^ 64 → Computes instrs reg n all s →
    Computes (paying instrs) reg n all s
paying-computes [] reg n s room puts =
    let stays : s ≡ puts.to = puts.runs.steps in
    nop-computes reg n s (ap (λ t. t.register reg.0) stays ∙ puts.holds) room
paying-computes (i ∷ is) reg n s room puts = puts

-- nothing is to do for void
into_void : (o : Option IntType) (l : TyLayer) (reg : Reg) → is_void_level l ≡ true → into_type o l reg ≡ []
into_void o Ty-F.Void reg is = refl
into_void o _ reg is = absurd (cc)

-- ---- casts

module _ (k : Scene) (scene : IsScene k) (depth : ℕ) (t : Ty) (e : TExpr) (follows : ValueFollows k depth e) where
  -- what stands on the value, where a list computes a number that the value has in the other type
  record Converted (v : Value) (now : MeaningState) (s : State) (reg : Reg) : Type 0 where
    number : ℕ
    puts : Computes (convert (coded_in k e).ty t reg) reg number all s
    is : ValueIs (given_in k) t (converted_to t v) now number

  by_converted : ((reg : Reg) (v : Value) (now : MeaningState) (s : State) → Operand k (ValueIs (given_in k) e.ty) reg v now s →
      Converted v now s reg) → ValueNode k depth t (TNode-F.Cast t e)
  by_converted each = record {
    at = λ span around. record {
      part = operand_part scene (follows.around e.span).part (λ v now n is. ValueIs-spent is) (record {
        list = λ reg. paying_listed (convert (coded_in k e).ty t reg) (convert_short (coded_in k e).ty t reg);
        does = λ reg v now s given.
            let made = each reg v now s given in
            computes_it (converted_to t v) made.number refl
            (paying-computes (convert (coded_in k e).ty t reg) reg made.number s (omega (arith, given.room)) made.puts) made.is;
      });
    };
  }

  pub cast_follows : Converts e.ty t → ValueNode k depth t (TNode-F.Cast t e)
  cast_follows types = by_converted (λ reg v now s given.
      let n : ℕ = s.register reg.0 in
      let puts : Computes (convert e.ty t reg) reg (converted_number (int_of e.ty) (out-Ty t) n) all s =
      convert-computes reg n s (omega (arith, given.high)) refl (ValueIs-lt e.ty v n (Converts-scalar types) given.is)
      (omega (arith, given.room))
      e.ty t (ValueIs-some e.ty v n given.is) in
      record {
        number = converted_number (int_of e.ty) (out-Ty t) n;
        puts = subst (λ s'. Computes (convert s' t reg) reg (converted_number (int_of e.ty) (out-Ty t) n) all s)
            (sym (coded-ty (structs_in k) (frame_in k) e)) puts;
        is = ValueIs-converted v n given.relates.injects types given.is;
      })

  pub cast_to_void_follows : is_void t ≡ true → ValueNode k depth t (TNode-F.Cast t e)
  cast_to_void_follows void = by_converted (λ reg v now s given.
      let n : ℕ = s.register reg.0 in
      record {
        number = n;
        puts = subst (λ instrs. Computes instrs reg n all s) (sym (into_void (int_of (coded_in k e).ty) (out-Ty t) reg void))
            (Computes-nil reg n s refl);
        is = ValueIs-void v n void;
      })
