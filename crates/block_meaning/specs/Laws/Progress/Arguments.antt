-- Calls are safe where their arguments are.
use Rattle.std.proofs.Common.{◌≡◌, refl, ap, ◌∙◌, ℕ, suc, ◌+◌, ◌<◌, arith}
use Rattle.std.proofs.Common.{List, [], ◌∷◌, Option, Some, None}
use Rattle.std.proofs.lemmas.List.Elements.{All-nil, All-cons, All-weaker}
use Rattle.c_ast.specs.declared.token.Span.{Span}
use Rattle.c_ast.specs.declared.int_type.IntType.TheVariants as int
use Rattle.c_type_base.specs.declared.ty.Ty.{Ty}
use Rattle.c_type_base.specs.declared.expr.TExpr.{TExpr}
use Rattle.c_type_base.specs.declared.expr.TNode.TheOpen.{TNode-F}
use Rattle.c_type_base.specs.declared.expr.Callee.{Callee}
use Rattle.c_type_base.specs.declared.typed.ExternInfo.{ExternInfo}
use Rattle.block_meaning.specs.Expressions.{take_byte, put_byte, first_number, if_agrees, call_effect}
use Rattle.block_meaning.specs.ExpressionsInOrder as order
use Rattle.block_meaning.specs.ExpressionsInOrder.{Scope, Group, Logical, group_of, is_sign, BinaryTypes, CompoundTypes, Converts}
use Rattle.block_meaning.specs.ExpressionsInOrder.{Callable}
use Rattle.block_meaning.specs.ExpressionsInOrder.{HasMember, IsDefined, HasValue, Designates, Arguments, int_type}
use Rattle.block_meaning.specs.Laws.Progress.Fits.{Fits, ValueWithin, fits-within, fits-more}
use Rattle.block_meaning.specs.Laws.Progress.Fits.{within-more, number-fits, int-is_integer}
use Rattle.block_meaning.specs.Laws.Progress.Linked.{called-as}
use Rattle.block_meaning.specs.Laws.Progress.Safe.{Kept, Ends, Safe, safe-gives, safe-undefined, safe-then, safe-weaker}
use Rattle.block_meaning.specs.Laws.Progress.Safe.{safe-unit}
use Rattle.block_meaning.specs.Laws.Progress.Safe.{safe-some}
use Rattle.block_meaning.specs.Laws.Progress.Scenes.{Passed, Scene, here_of, later}
use Rattle.block_meaning.specs.Linkage.{Definition, function_of, called_as}
use Rattle.block_meaning.specs.Running.{Function, State}
use Rattle.block_meaning.specs.declared.value.Value.{Value}
use Rattle.block_meaning.specs.declared.value.Value.TheVariants.{Number}
use Rattle.block_meaning.specs.Laws.Progress.Nodes.{site_of, ValueSafe, ArgumentsSafe, ValuePart, part-value}

pub no_argument_safe : {s : Scope} → ArgumentsSafe s [] []
no_argument_safe = record {
  depth = 0;
  safe = λ scene levels deep. safe-gives [] (λ k more. record { within = All-nil (ValueWithin k); as_many = refl });
}

pub argument_safe : {s : Scope} {e : TExpr} {es : List TExpr} {ts : List Ty} → ValuePart s e → ArgumentsSafe s es ts →
    ArgumentsSafe s (e ∷ es) (e.ty ∷ ts)
argument_safe {e = e} part rest = record {
  depth = suc (part.depth + rest.depth);
  safe = λ scene levels deep. safe-then (part-value e part scene levels (omega (arith, deep)) e.span) (λ k more v fits.
      safe-then (rest.safe (later k more scene) levels (omega (arith, deep))) (λ j further vs passed.
      safe-gives (v ∷ vs) (λ i last. record {
        within = All-cons (ValueWithin i) v vs (fits-within e.ty i v (fits-more e.ty k i (omega (arith, further, last)) v fits))
            (All-weaker (ValueWithin j) (ValueWithin i) (λ x h. within-more j i last x h) vs passed.within);
        as_many = ap suc passed.as_many;
      })));
}

pub take_ends : (n w : ℕ) (input : List ℕ) (now : State) → Kept n w now →
    Ends (Fits int_type) (record now { input = input }) (take_byte (record now { input = input }))
take_ends n w [] now kept = record {
  blocks = omega arith;
  work = omega arith;
  within = kept.within;
  value = number-fits int_type _ (Number _) (int-is_integer int.Int) tt;
}
take_ends n w (b ∷ bs) now kept = record {
  blocks = omega arith;
  work = omega arith;
  within = kept.within;
  value = number-fits int_type _ (Number b) (int-is_integer int.Int) tt;
}

pub take_safe : {n w : ℕ} → Safe n w take_byte (Fits int_type)
take_safe {n = n} {w = w} = record { ends = λ now kept. take_ends n w now.input now kept }

pub put_safe : {n w : ℕ} (k : ℕ) → Safe n w (put_byte k) (Fits int_type)
put_safe k = record {
  ends = λ now kept. record {
    blocks = omega arith;
    work = omega arith;
    within = kept.within;
    value = number-fits int_type _ (Number _) (int-is_integer int.Int) tt;
  };
}

pub agrees_safe : {s : Scope} {n w v : ℕ} (scene : Scene s n w) (levels : ℕ) (span around : Span) (t : Ty) (e : ExternInfo)
    (d : Definition) (vs : List Value) → v < w → Passed e.params n vs → (o : Option Function) → called_as s.program.units s.unit e d ≡ o →
    Safe n v (if_agrees (site_of scene levels span around t) vs o) (Fits e.result)
agrees_safe scene levels span around t e d vs less passed None is = safe-undefined (here_of scene) span None _
agrees_safe {s = s} scene levels span around t e d vs less passed (Some f) is =
    let called = called-as s.program.units s.unit e d f is in
    safe-weaker (scene.of_calls.safe less scene.enough s.unit scene.opened scene.local f called.function called.function_is vs
    (record { within = passed.within; as_many = passed.as_many ∙ called.as_many }))
    (λ k more r fits. called.fits k r fits)

pub effect_safe : {s : Scope} {n w v : ℕ} {f : Callee} {ts : List Ty} {t : Ty} (scene : Scene s n w) (levels : ℕ) (span around : Span) →
    v < w → Callable s f ts t → (vs : List Value) → Passed ts n vs →
    Safe n v (call_effect (site_of scene levels span around t) f vs) (Fits t)
effect_safe {s = s} scene levels span around less (order.function {k} {f} is) vs passed =
    scene.of_calls.safe less scene.enough s.unit scene.opened scene.local (function_of s.unit k) f is vs passed
effect_safe {s = s} scene levels span around less (order.extern {k} {e} is function defines) vs passed =
    safe-some _ e is (safe-some _ defines.definition defines.is
    (agrees_safe scene levels span around e.result e defines.definition vs less passed _ refl))
effect_safe scene levels span around less order.putchar vs passed = put_safe (first_number vs)
effect_safe scene levels span around less order.getchar vs passed = take_safe

pub call_safe : {s : Scope} {f : Callee} {es : List TExpr} {ts : List Ty} {t : Ty} → Callable s f ts t → ArgumentsSafe s es ts →
    ValueSafe s t (TNode-F.Call f es)
call_safe callable arguments = record {
  depth = arguments.depth;
  safe = λ scene levels deep span around. safe-then (arguments.safe scene levels deep) (λ k more vs passed.
      safe-unit (λ v less. effect_safe (later k more scene) levels span around less callable vs passed));
}
