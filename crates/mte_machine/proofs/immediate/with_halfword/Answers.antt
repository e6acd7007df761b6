use Rattle.std.proofs.Common.{◌≡◌, ◌+◌, ◌*◌, ◌/◌, ◌%◌, ◌^◌, Fits, w64, arith}
use Rattle.a64_code.specs.Results.{with_halfword}
use Rattle.mte_machine.proofs.Halfword.{each_halfword}
use Rattle.mte_machine.proofs.immediate.with_halfword.Goals as goal

pub overflow_mul-result : goal.overflow_mul-result
overflow_mul-result c =
    let place : c.from.result ≡ c.args.hw = omega arith in
    let bits : c.from-2.result ≡ c.args.halfword = omega arith in
    rw (place, bits) (each_halfword
    (λ h. Fits w64 (c.args.halfword * (1 * 2 ^ (16 * h) % 2 ^ 64)))
    (omega arith) (omega arith) (omega arith) (omega arith) c.args.hw c.requires)

pub overflow_add-result : goal.overflow_add-result
overflow_add-result c =
    let place : c.from.result ≡ c.args.hw = omega arith in
    let bits : c.from-2.result ≡ c.args.halfword = omega arith in
    rw (place, bits) (each_halfword
    (λ h. Fits w64 (c.args.value % (1 * 2 ^ (16 * h) % 2 ^ 64) + c.args.halfword * (1 * 2 ^ (16 * h) % 2 ^ 64)))
    (omega arith) (omega arith) (omega arith) (omega arith) c.args.hw c.requires)

pub overflow_add-result-2 : goal.overflow_add-result-2
overflow_add-result-2 c =
    let place : c.from.result ≡ c.args.hw = omega arith in
    let bits : c.from-2.result ≡ c.args.halfword = omega arith in
    rw (place, bits) (each_halfword
    (λ h. Fits w64 (c.args.value % (1 * 2 ^ (16 * h) % 2 ^ 64) + c.args.halfword * (1 * 2 ^ (16 * h) % 2 ^ 64)
    + c.args.value / (1 * 2 ^ (16 * h) % 2 ^ 64) / 65536 * 65536 * (1 * 2 ^ (16 * h) % 2 ^ 64)))
    (omega arith) (omega arith) (omega arith) (omega arith) c.args.hw c.requires)

pub returns : goal.returns
returns c =
    let place : c.from.result ≡ c.args.hw = omega arith in
    let bits : c.from-2.result ≡ c.args.halfword = omega arith in
    rw (place, bits) (each_halfword
    (λ h. c.args.value % (1 * 2 ^ (16 * h) % 2 ^ 64) + c.args.halfword * (1 * 2 ^ (16 * h) % 2 ^ 64)
    + c.args.value / (1 * 2 ^ (16 * h) % 2 ^ 64) / 65536 * 65536 * (1 * 2 ^ (16 * h) % 2 ^ 64)
    ≡ with_halfword (16 * h) c.args.halfword c.args.value)
    (omega arith) (omega arith) (omega arith) (omega arith) c.args.hw c.requires)
