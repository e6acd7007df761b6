use Rattle.std.proofs.Common.{◌∙◌, ap}
use Rattle.c_types.specs.Functions.{result_type}
use Rattle.c_types.specs.Redeclarations.{may_stand}
use Rattle.c_types.specs.Units.{with_outcome}
use Rattle.c_types.proofs.FunctionLaws.{head_inside, head_recalls}
use Rattle.c_types.proofs.functions.head.Goals as goal

pub returns : goal.returns
returns c = λ j stands.
    let f = c.args.f.now in
    let names = c.args.names.now in
    let passed = c.in_ok-returns.ensures j stands.walk_stands in
    let entered = c.in_ok-params.ensures (with_outcome j (result_type f j.env)) passed.stands in
    let made = rw c.as_ref.ensures.value at c.in_ok-signature.ensures in
    let this = rw c.as_ref-2.ensures.value at c.in_ok-this.ensures in
    record {
      inside = head_inside names f j c.result_type.new.walk c.enter.new.walk c.ask_head.new.walk c.declare_name.new.walk
          c.in_ok-returns.returns
          c.in_ok-params.params c.in_ok-signature.signature c.may_stand-agrees.result passed entered made
          (c.may_stand-agrees.ensures j.declared stands.recalls ∙ ap (may_stand names j.declared) this)
          (rw c.as_ref-3.ensures.value at c.ask_head.ensures) c.in_ok-declare_name.ensures;
      recalls = head_recalls names f j c.result_type.new.walk c.enter.new.walk c.in_ok-returns.returns c.in_ok-params.params
          c.in_ok-signature.signature c.in_ok-this.this _ passed entered made this (c.in_ok-add.ensures j.declared stands.recalls);
      globals_are = stands.globals_are;
      functions_are = stands.functions_are;
      result_is = passed.known_is;
    }
