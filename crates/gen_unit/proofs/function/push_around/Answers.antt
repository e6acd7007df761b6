use Rattle.std.proofs.Common.{◌≡◌, ap, ◌∙◌, map, length, arith}
use Rattle.gen_unit.specs.Appended.{Gains}
use Rattle.gen_unit.specs.Functions.{entry, exit}
use Rattle.gen_unit.specs.Words.{whole}
use Rattle.gen_unit.proofs.Gains.{gains_as}
use Rattle.gen_unit.proofs.Functions.{gains_around, gains_same}
use Rattle.gen_unit.proofs.function.push_around.Goals as goal

pub returns : goal.returns
returns c =
    let f = c.args.frame.now in
    let before = c.in_ok-before.before in
    let place : c.in_ok-at.at ≡ length (entry f) =
    omega (arith, c.in_ok-at.ensures.is, c.len.ensures, before.ok.0, ap length c.in_ok-before.ensures) in
    let entered : Gains c.args.out.now (map whole (entry f)) c.push_all.new.out =
    gains_as (ap (map whole) (c.as_slice.ensures.value ∙ c.in_ok-before.ensures)) c.in_ok-push_all.ensures in
    gains_around c.push_all-2.result f c.args.items.now c.in_ok-at.at c.in_ok-labels.labels c.args.out.now c.push_all.new.out
    c.push_items.new.out c.push_all-2.new.out place c.in_ok-labels.ensures entered c.in_ok-push_items.ensures
    (gains_same c.push_all-2.result c.push_items.new.out c.push_all-2.new.out _ (map whole (exit f))
    (ap (map whole) (c.as_slice-2.ensures.value ∙ c.in_ok-exit.ensures)) c.push_all-2.ensures)
