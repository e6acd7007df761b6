use Rattle.std.proofs.Common.{ap, ◌∙◌}
use Rattle.mt_base.specs.Pointers.{with_tag}
use Rattle.mt_base.specs.Tags.{next_tag, zero_excluded}
use Rattle.a64_code.specs.State.{with_general_or_sp, advanced}
use Rattle.mte_machine.specs.Machine.{state_of}
use Rattle.mte_machine.proofs.machine.Machine.put_with_next_tag.Goals as goal

pub returns : goal.returns
returns g c =
    let value =
    c.with_tag.ensures ∙ ap (with_tag c.args.address)
    (c.next_tag-tag.ensures ∙ ap (λ tag. next_tag tag c.args.offset zero_excluded) c.tag_of.ensures) in
    λ w. (
      c.advance.ensures.ran,
      c.advance.ensures.state w ∙ ap advanced (c.set_general_or_sp.ensures w)
          ∙ ap (λ pointer. advanced (with_general_or_sp c.args.register pointer (state_of g.M.TagMemory c.args.self.now w))) value,
    )
