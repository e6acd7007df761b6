use Rattle.std.proofs.Common.{◌≡◌, ℕ, ◌*◌, List, sym, ap, ◌∙◌, arith}
use Rattle.std.proofs.lemmas.Result.{IfOk-weaker}
use Rattle.elf_obj.specs.Object.{Object}
use Rattle.elf_image.specs.Image.{image_of}
use Rattle.elf_image.specs.Places.{IsValid}
use Rattle.linker.specs.declared.plan.Plan.{Plan}
use Rattle.linker.specs.Got.{got_bytes}
use Rattle.linker.specs.Linked.{Linked}
use Rattle.linker.specs.Known.{objects_of, AreStarts}
use Rattle.linker.specs.Planned.{IsAccepted}
use Rattle.linker.specs.Laws.Valid.{linked_valid}
use Rattle.linker.proofs.Staged.{starts_are, as_many_words, too_large_refused, accept, memory_low, layout_near, few_keys}
use Rattle.linker.proofs.linking.link.Goals as goal

pub returns-in-Some-clause-refused : goal.returns-in-Some-clause-refused
returns-in-Some-clause-refused c =
    too_large_refused (objects_of c.args.objects.now) c.in_ok-plan.plan c.in-Some.bytes c.in_ok-names.ensures.bound
    c.in_ok-plan.ensures.plan (sym c.excess.ensures ∙ c.in-Some.is)

pub returns-clause-valid : goal.returns-clause-valid
returns-clause-valid c =
    IfOk-weaker c.image.result (λ p. Linked (objects_of c.args.objects.now) (image_of p)) (λ p. IsValid (image_of p))
    (λ p h. linked_valid (objects_of c.args.objects.now) (image_of p) h) c.image.ensures.image

pub bases-bases-requires-clause-near : goal.bases-bases-requires-clause-near
bases-bases-requires-clause-near c =
    let os : List Object = objects_of c.args.objects.now in
    let a : IsAccepted os c.in_ok-plan.plan =
    accept os c.in_ok-plan.plan c.in_ok-names.ensures.bound c.in_ok-plan.ensures.plan (sym c.excess.ensures ∙ c.in_default.is) in
    let low = memory_low os c.in_ok-plan.plan a in omega arith

pub image-requires-clause-accepted : goal.image-requires-clause-accepted
image-requires-clause-accepted c =
    accept (objects_of c.args.objects.now) c.in_ok-plan.plan c.in_ok-names.ensures.bound c.in_ok-plan.ensures.plan
    (sym c.excess.ensures ∙ c.in_default.is)

pub image-requires-clause-ready : goal.image-requires-clause-ready
image-requires-clause-ready c =
    let os : List Object = objects_of c.args.objects.now in
    let p : Plan = c.in_ok-plan.plan in
    let a : IsAccepted os p =
    accept os p c.in_ok-names.ensures.bound c.in_ok-plan.ensures.plan (sym c.excess.ensures ∙ c.in_default.is) in
    let words = c.in_ok-table.ensures.words in
    let bytes : 8 * c.len.result ≡ got_bytes os =
    ap (λ (m : ℕ). 8 * m) (c.len.ensures.len ∙ as_many_words os c.in_ok-table.table.keys words) in
    let at : AreStarts os c.in_ok-starts.starts =
    starts_are os c.in_ok-lengths.lengths (8 * c.len.result) c.in_ok-starts.starts c.in_ok-lengths.ensures.lengths bytes
    c.in_ok-starts.ensures.starts in
    record {
      names = c.in_ok-names.ensures.known;
      words = words;
      few = few_keys os p c.in_ok-table.table.keys a words;
      starts = at;
      near = layout_near os p (record { bases = c.bases-bases.result; starts = c.in_ok-starts.starts }) a c.bases-bases.ensures at;
    }
