use Rattle.std.proofs.Common.{arith, sym, ◌∙◌, ap}
use Rattle.c_parse_base.specs.declared.type_read.TypeRead.{TypeRead}
use Rattle.c_parse_base.specs.Laws.TypeCode.{stars_end, stars_deep, stars_on}
use Rattle.c_parse_base.proofs.type_names.more_stars.Goals as goal

pub returns-then-read-depth-clause-answers : goal.returns-then-read-depth-clause-answers
returns-then-read-depth-clause-answers c = record {
  is = c.loop-place.invariant.reads ∙ stars_deep c.args.depth c.loop-place.read c.loop-place.cursor c.in-Some.place
      (sym c.in-Some.ensures) (omega arith);
}

pub loop-place-preserved : goal.loop-place-preserved
loop-place-preserved c = record {
  reads = c.loop-place.invariant.reads
      ∙ stars_on c.args.depth c.loop-place.read c.in_ok-read.read c.loop-place.cursor c.skip.new.self c.in-Some.place
      (sym c.in-Some.ensures) (omega arith)
      c.in_ok-read.ensures c.skip.ensures;
  low = omega (arith, ap (λ (a : TypeRead). a.height) c.in_ok-read.ensures);
}

pub returns-clause-answers : goal.returns-clause-answers
returns-clause-answers c = record {
  is = c.loop-place.invariant.reads ∙ stars_end c.args.depth c.loop-place.read c.loop-place.cursor
      (sym c.next_star.ensures ∙ c.in_default.is);
}
