use Rattle.std.proofs.Common.{◌≡◌, ◌-◌, ◌^◌, ℕ, List, Option, [], ap, ◌∙◌, sym, refl, ◌≢◌, arith}
use Rattle.std.proofs.lemmas.Bool.{ne_eqb}
use Rattle.mt_outside.specs.Source.{NextGives}
use Rattle.mt_outside.specs.declared.source.NextAnswer.TheVariants.{Byte, End, Failed as NextFailed}
use Rattle.mt_outside.specs.declared.sink.PutAnswer.TheVariants.{Done, Failed as PutFailed}
use Rattle.a64_code.specs.Outside.{outside_of}
use Rattle.a64_code.specs.Stepped.{Ends}
use Rattle.a64_code.specs.declared.end.MachineEnd.TheVariants.{Exited}
use Rattle.a64_code.specs.State.{with_general, advanced}
use Rattle.a64_code.specs.Services.{service_register, low_byte}
use Rattle.mte_machine.specs.Machine.{state_of}
use Rattle.mte_machine.proofs.Told.{goes_telling, told_byte, told_end}
use Rattle.mte_machine.proofs.Asked.{ends_alone, put_answers, put_fails, next_answers, next_fails}
use Rattle.mte_machine.proofs.machine.Machine.serve.Goals as goal

pub returns-in-Done : goal.returns-in-Done
returns-in-Done g c =
    let s = state_of g.M.TagMemory c.args.self.now (outside_of []) in
    let byte : c.low_byte-byte.result ≡ low_byte s = c.low_byte-byte.ensures (outside_of []) in
    let put = rw byte at c.in-Done.ensures.content in
    let number : c.from.result ≡ low_byte s = c.from.ensures ∙ byte in
    rw (c.in-1.is, (c.put-in-Done.ensures (outside_of [])).0)
    (put_answers g.S.Source g.K.Sink c.args.source.now c.args.sink.now _ s _ put
    (c.in-Done.ensures.uncounted (λ is. let differ : Done ≡ PutFailed = is in cc))
    (λ w. (c.put-in-Done.ensures w).1
    ∙ ap (λ (n : ℕ). advanced (with_general service_register n (state_of g.M.TagMemory c.args.self.now w))) number))

pub returns-in-Failed : goal.returns-in-Failed
returns-in-Failed g c =
    let s = state_of g.M.TagMemory c.args.self.now (outside_of []) in
    let byte : c.low_byte-byte.result ≡ low_byte s = c.low_byte-byte.ensures (outside_of []) in
    let put = rw byte at c.in-Failed.ensures.content in
    rw c.in-1.is
    (put_fails g.S.Source g.K.Sink c.args.source.now c.args.sink.now _ s put c.in-Failed.ensures.never_falls
    (c.in-Failed.ensures.failed refl))

pub returns-in-Byte : goal.returns-in-Byte
returns-in-Byte g c =
    let s = state_of g.M.TagMemory c.args.self.now (outside_of []) in
    let told = c.in-Byte.ensures.content in
    rw (c.in-2.is, (c.put-in-Byte.ensures (outside_of [])).0)
    (next_answers g.S.Source g.K.Sink c.args.source.now _ c.args.sink.now s _ c.in-Byte.byte
    (goes_telling _ _ (NextGives (Byte c.in-Byte.byte)) told)
    (λ (answers : List (Option ℕ)) may. told_byte _ _ c.in-Byte.byte answers told may)
    (c.in-Byte.ensures.uncounted (λ is. let differ : Byte c.in-Byte.byte ≡ NextFailed = is in cc))
    (λ w. (c.put-in-Byte.ensures w).1
    ∙ ap (λ (n : ℕ). advanced (with_general service_register n (state_of g.M.TagMemory c.args.self.now w))) c.from-in-Byte.ensures))

pub returns-in-End : goal.returns-in-End
returns-in-End g c =
    let s = state_of g.M.TagMemory c.args.self.now (outside_of []) in
    let told = c.in-End.ensures.content in
    rw (c.in-2.is, (c.put-in-End.ensures (outside_of [])).0)
    (next_answers g.S.Source g.K.Sink c.args.source.now _ c.args.sink.now s _ (2 ^ 64 - 1)
    (goes_telling _ _ (NextGives End) told)
    (λ (answers : List (Option ℕ)) may. told_end _ _ answers told may)
    (c.in-End.ensures.uncounted (λ is. let differ : End ≡ NextFailed = is in cc))
    (λ w. (c.put-in-End.ensures w).1))

pub returns-in-Failed-next : goal.returns-in-Failed-next
returns-in-Failed-next g c =
    let s = state_of g.M.TagMemory c.args.self.now (outside_of []) in
    rw c.in-2.is
    (next_fails g.S.Source g.K.Sink c.args.source.now _ c.args.sink.now s
    c.in-Failed-next.ensures.content c.in-Failed-next.ensures.never_falls (c.in-Failed-next.ensures.failed refl))

pub returns-in-3 : goal.returns-in-3
returns-in-3 g c =
    rw c.in-3.is
    (ends_alone _ _ _ _ _ (λ w. refl) tt (λ w. ap (λ (status : ℕ). Ends (Exited status)) (sym (c.low_byte.ensures w))) (λ w. refl))

pub returns-in-4 : goal.returns-in-4
returns-in-4 g c = rw c.in-4.is (ends_alone _ _ _ _ _ (λ w. refl) tt (λ w. refl) (λ w. refl))

pub returns-in_default : goal.returns-in_default
returns-in_default g c =
    let n = c.args.number in
    let not_put : n ≢ 1 = omega arith in
    let not_next : n ≢ 2 = omega arith in
    let not_exit : n ≢ 3 = omega arith in
    let not_divide : n ≢ 4 = omega arith in
    ends_alone _ _ _ _ _ (λ w. refl) tt
    (λ w. rw (ne_eqb n 1 not_put, ne_eqb n 2 not_next, ne_eqb n 3 not_exit, ne_eqb n 4 not_divide) refl) (λ w. refl)
