use Rattle.std.proofs.Common.{◌≡◌, ℕ, ◌+◌, ◌-◌, ◌<◌, ◌∙◌, Bool, true, Err, ap, arith, rules, add-zero}
use Rattle.mt_base.specs.Memory.{is_mapped, every_byte}
use Rattle.mt_base.specs.Laws.Memory.{every_byte_at}
use Rattle.mt_base.specs.Pointers.{address_of}
use Rattle.mte_machine.specs.Accesses.{with_memory}
use Rattle.mte_machine.proofs.Judgement.{first_compared, one_compared, two_compared}
use Rattle.mte_machine.proofs.memory.judge.compare_tags.Goals as goal

-- a byte of an access that is mapped whole is mapped
mapped_at : (test : ℕ → Bool) (start at count k : ℕ) → start ≡ at → every_byte test at count ≡ true → k < count → test (start + k) ≡ true
mapped_at test start at count k here mapped h = ap (λ a. test (a + k)) here ∙ every_byte_at test at count mapped k h

-- the tag of the first granule differs
pub returns-in_err-compare_tag : goal.returns-in_err-compare_tag
returns-in_err-compare_tag g c s mapped =
    let failed : c.from_residual.result ≡ Err c.in_err-compare_tag.field-0.0 = search rules in
    let on : c.args.checked ≡ true = search rules in
    let there = mapped_at (is_mapped (g.M.TagMemory.regions c.args.memory.now)) c.address_of-first.result
    (address_of c.args.pointer) c.args.count 0 c.address_of-first.ensures mapped (omega arith) in
    failed
    ∙ first_compared (with_memory g.M.TagMemory c.args.memory.now s) c.args.pointer c.address_of-first.result c.args.count c.args.checked
    c.in_err-compare_tag.field-0.0 on c.address_of-first.ensures
    (c.in_err-compare_tag.ensures s (rw add-zero at there))

-- all bytes are in one granule
pub returns-then-first-last : goal.returns-then-first-last
returns-then-first-last g c s mapped =
    let on : c.args.checked ≡ true = search rules in
    let there = mapped_at (is_mapped (g.M.TagMemory.regions c.args.memory.now)) c.address_of-first.result
    (address_of c.args.pointer) c.args.count 0 c.address_of-first.ensures mapped (omega arith) in
    one_compared (with_memory g.M.TagMemory c.args.memory.now s) c.args.pointer c.address_of-first.result c.args.count c.args.checked on
    c.address_of-first.ensures (omega arith) c.if-first-last.true
    (c.in_ok-compare_tag.ensures s (rw add-zero at there))

-- they are in two
pub returns : goal.returns
returns g c s mapped =
    let on : c.args.checked ≡ true = search rules in
    let mapped_first = mapped_at (is_mapped (g.M.TagMemory.regions c.args.memory.now)) c.address_of-first.result
    (address_of c.args.pointer) c.args.count 0 c.address_of-first.ensures mapped (omega arith) in
    let mapped_last = mapped_at (is_mapped (g.M.TagMemory.regions c.args.memory.now)) c.address_of-first.result
    (address_of c.args.pointer) c.args.count (c.args.count - 1) c.address_of-first.ensures mapped (omega arith) in
    two_compared (with_memory g.M.TagMemory c.args.memory.now s) c.args.pointer c.address_of-first.result c.args.count c.args.checked
    c.compare_tag-2.result on c.address_of-first.ensures (omega arith)
    (c.in_ok-compare_tag.ensures s (rw add-zero at mapped_first)) (c.compare_tag-2.ensures s mapped_last)
