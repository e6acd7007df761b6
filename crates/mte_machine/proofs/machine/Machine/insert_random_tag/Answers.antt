use Rattle.std.proofs.Common.{◌≡◌, ap, ◌∙◌}
use Rattle.mt_base.specs.Pointers.{with_tag}
use Rattle.mt_base.specs.Tags.{next_tag}
use Rattle.a64_code.specs.State.{general, general_or_sp, with_general_or_sp, advanced}
use Rattle.a64_code.specs.TagInstructions.{next_choice, excluded_by}
use Rattle.mte_machine.specs.Machine.{state_of}
use Rattle.mte_machine.proofs.machine.Machine.insert_random_tag.Goals as goal

pub returns : goal.returns
returns g c = λ w.
    let old = state_of g.M.TagMemory c.args.self.now w in
    let drawn = state_of g.M.TagMemory c.draw.new.self w in
    let excluded = excluded_by c.general.result in
    let tag : c.next_tag-tag.result ≡ next_tag (next_choice old) 0 (excluded_by (general old c.args.rm)) =
    c.next_tag-tag.ensures ∙ ap (λ choice. next_tag choice 0 excluded) (c.draw.ensures.choice w)
    ∙ ap (λ mask. next_tag (next_choice old) 0 (excluded_by mask)) (c.general.ensures w) in
    let pointer : c.general_or_sp.result ≡ general_or_sp old c.args.rn =
    c.general_or_sp.ensures w ∙ ap (λ s. general_or_sp s c.args.rn) (c.draw.ensures.state w) in
    let value = c.with_tag.ensures ∙ ap (λ p. with_tag p c.next_tag-tag.result) pointer
    ∙ ap (with_tag (general_or_sp old c.args.rn)) tag in (
      c.advance.ensures.ran,
      c.advance.ensures.state w ∙ ap advanced (c.set_general_or_sp.ensures w)
          ∙ ap (λ v. advanced (with_general_or_sp c.args.rd v drawn)) value
          ∙ ap
          (λ s. advanced
          (with_general_or_sp c.args.rd
          (with_tag (general_or_sp old c.args.rn) (next_tag (next_choice old) 0 (excluded_by (general old c.args.rm)))) s))
          (c.draw.ensures.state w),
    )
