use Rattle.std.proofs.Common.{arith, ◌≡◌, ◌∙◌, ap₂, bit_or, ◌*◌, ◌%◌, ◌^◌}
use Rattle.mt_base.proofs.Masks.{without_tag, put_tag}
use Rattle.mt_base.proofs.pointer.with_tag.Goals as goal

pub returns : goal.returns
returns c =
    ap₂ bit_or (without_tag c.args.pointer (omega arith)) (let e : c.from.result * 2 ^ 56 % 2 ^ 64 ≡ c.args.tag * 2 ^ 56 = omega arith in
    e)
    ∙ put_tag _ _ c.args.tag (omega arith) (omega arith)
