use Rattle.std.proofs.Common.{◌≡◌, ◌+◌, ◌*◌, ◌∙◌, ap₂, arith}
use Rattle.tag_mem.specs.declared.access.Access.TheVariants.{Done}
use Rattle.tag_mem.specs.Answers.{set_tag_answer}
use Rattle.tag_startup.proofs.Tagging.{none_tagged, granule_tagged, all_tagged}
use Rattle.tag_startup.proofs.tags.tag_object.Goals as goal

pub loop-n-init : goal.loop-n-init
loop-n-init g c = none_tagged g.M.TagMemory c.args.memory.now c.args.object.now c.args.tag

pub loop-n-preserved : goal.loop-n-preserved
loop-n-preserved g c =
    let at = 268435456 + c.args.object.now.start + 16 * c.loop-n.n in
    let done : c.set_tag.result ≡ Done =
    c.set_tag.ensures.answer ∙ ap₂ (λ regions guard. set_tag_answer regions guard at) c.loop-n.invariant.regions c.loop-n.invariant.guard
    ∙ c.requires.each c.loop-n.n (omega (arith, c.loop-n-test.true)) in
    granule_tagged g.M.TagMemory c.args.memory.now c.loop-n.memory c.set_tag.new.self c.args.object.now c.loop-n.n c.args.tag
    c.requires.start_whole c.loop-n.invariant (record {
      tags = c.set_tag.ensures.done done;
      byte = c.set_tag.ensures.same_bytes;
      regions = c.set_tag.ensures.same_regions;
      guard = c.set_tag.ensures.same_guard;
    })

pub returns : goal.returns
returns g c =
    all_tagged g.M.TagMemory c.args.memory.now c.loop-n.memory c.args.object.now c.loop-n.n c.args.tag c.requires.bytes_whole
    (omega (arith, c.loop-n-test.false, c.loop-n.auto.n-end)) c.loop-n.invariant
