use Rattle.std.proofs.Common.{◌^◌, sym, subst, ◌∙◌, arith}
use Rattle.memtag_desc.specs.Descriptors.{HaveDescription}
use Rattle.linker.specs.Laws.Spelled.{apart_described}
use Rattle.linker.proofs.descriptors.descriptors.Goals as goal

pub encode-requires : goal.encode-requires
encode-requires c =
    let low = c.requires.low in
    subst (HaveDescription 0) (sym (c.deref.ensures.value ∙ c.in_ok-intervals.ensures.intervals))
    (apart_described c.args.place 0 0 (2 ^ 32) c.args.spans.now (omega arith) c.requires.whole (omega arith) c.requires.apart)
