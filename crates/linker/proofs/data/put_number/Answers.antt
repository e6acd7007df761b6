use Rattle.std.proofs.Common.{ℕ, ◌+◌, set, get_or, length, sym, ap, ◌∙◌, refl, arith}
use Rattle.std.proofs.lemmas.List.{length-set}
use Rattle.linker.proofs.Placed.{bytes_first, bytes_more, bytes_past, none_put}
use Rattle.linker.proofs.data.put_number.Goals as goal
use Rattle.linker.proofs.data.put_number.Goals.{then-index-out, else-index-out}

pub returns-then-place-out : goal.returns-then-place-out
returns-then-place-out c = none_put c.args.place c.args.value c.args.out.now c.if-place-out.true

pub loop-index-init : goal.loop-index-init
loop-index-init c = record { bytes = sym (bytes_first c.args.place c.args.value c.args.out.now); len = refl }

pub loop-index-preserved : goal.loop-index-preserved
loop-index-preserved c =
    let place : ℕ = c.args.place in
    let n : ℕ = c.loop-index.index in
    let len = c.loop-index.invariant.len in
    elim c.if-index-out.branch [
      | then-index-out w ↦
          let lt = w.if-index-out in record {
            bytes = w.out-is
                ∙ (λ i. set (c.loop-index.invariant.bytes i) (place + n) (get_or (c.to_le_bytes-bytes.ensures i) n 0))
                ∙ bytes_more place c.args.value n c.args.out.now (omega arith);
            len = ap length w.out-is ∙ length-set c.loop-index.out (place + n) (get_or c.to_le_bytes-bytes.result n 0) ∙ len;
          }
      | else-index-out w ↦
          let ge = w.if-index-out in record {
            bytes = w.out-is ∙ c.loop-index.invariant.bytes ∙ bytes_past place c.args.value n c.args.out.now (omega arith);
            len = ap length w.out-is ∙ len;
          }
    ]
