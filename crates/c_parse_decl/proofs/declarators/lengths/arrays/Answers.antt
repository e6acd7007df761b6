use Rattle.std.proofs.Common.{sym, ◌∙◌, ap}
use Rattle.c_ast.specs.declared.expr.CType.TheVariants as type
use Rattle.c_grammar.specs.Declarators as grammar
use Rattle.c_parse_decl.specs.Laws.Declarators.Code.{arrays_by, arrays_none}
use Rattle.c_parse_decl.proofs.declarators.lengths.arrays.Goals as goal

pub loop-length-preserved : goal.loop-length-preserved
loop-length-preserved c = record {
  made = ap (λ ty. grammar.arrays (type.Array ty c.in-Some.length) c.pop.new.self) c.in_ok-new.ensures
      ∙ sym (arrays_by c.loop-length.ty c.loop-length.trees c.pop.new.self c.in-Some.length c.in-Some.ensures)
      ∙ c.loop-length.invariant.made;
}

pub returns : goal.returns
returns c = sym (arrays_none c.loop-length.ty c.loop-length.trees c.in_default.ensures.0) ∙ c.loop-length.invariant.made
