use Rattle.std.proofs.Common.{sym, arith, length-drop}
use Rattle.std.proofs.lemmas.List.{take_rest}
use Rattle.c_lex.specs.Laws.TextLaws.{text-more, text-closed, text-wrong, text-cut}
use Rattle.c_lex.proofs.quoted.read_text.Goals as goal

pub loop-value-preserved : goal.loop-value-preserved
loop-value-preserved c =
    rw c.in_ok-push-in-Byte.ensures.items
    (text-more _ _ _ c.loop-value.invariant c.in-Byte.value c.in-Byte.bytes (sym (rw take_rest at c.in-Byte.ensures.value))
    (omega (
      arith,
      length-drop c.loop-value.place c.args.text.now,
      (rw take_rest at c.in-Byte.ensures.within).1,
      c.loop-value.invariant.within,
    )))

pub returns-in-Close : goal.returns-in-Close
returns-in-Close c = rw c.from_vec.ensures (sym (text-closed _ _ _ c.loop-value.invariant
    (sym (rw take_rest at c.in-Close.ensures.value))))

pub returns-in-Wrong : goal.returns-in-Wrong
returns-in-Wrong c = sym (text-wrong _ _ _ c.loop-value.invariant c.in-Wrong.fault (sym (rw take_rest at c.in-Wrong.ensures.value)))

pub returns-in-Cut : goal.returns-in-Cut
returns-in-Cut c = sym (text-cut _ _ _ c.loop-value.invariant (sym (rw take_rest at c.in-Cut.ensures.value)))
