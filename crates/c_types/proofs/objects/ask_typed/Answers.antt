use Rattle.std.proofs.Common.{rules, ◌∙◌, ap}
use Rattle.std.specs.Prelude.{leb}
use Rattle.c_type_base.specs.Sizes.{size, largest}
use Rattle.c_types.proofs.ObjectLaws.{typed_asked}
use Rattle.c_types.proofs.objects.ask_typed.Goals as goal

pub returns : goal.returns
returns c =
    typed_asked c.args.walk.now c.ask_both.new.self c.ask_both-2.new.self c.args.span c.args.agrees c.args.other
    c.is_complete-complete.result c.is_small-small.result c.args.t.now c.ask_both.ensures c.ask_both-2.ensures (search rules)
    (c.is_small-small.ensures ∙ ap (λ s. leb (size s c.args.t.now) largest) c.as_slice-2.ensures)
