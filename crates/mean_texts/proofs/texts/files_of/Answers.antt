use Rattle.std.proofs.Common.{take, subst, sym}
use Rattle.mean_texts.specs.Texts.{texts_of}
use Rattle.mean_texts.proofs.Turns.{texts_more, all_texts, refused_here}
use Rattle.mean_texts.proofs.Wholes.{IsEarly}
use Rattle.mean_texts.proofs.texts.files_of.Goals as goal
use Rattle.mt_compile.specs.Planned.{HasFile, IsPlanCause}

pub returns-in-Err-clause-refused : goal.returns-in-Err-clause-refused
returns-in-Err-clause-refused c =
    subst (IsEarly (texts_of c.args.texts.now)) (sym c.of_source.ensures)
    (refused_here c.args.texts.now c.loop-number.number c.index-texts-number.result c.loop-number.files c.in-Err.refused
    c.loop-number-test.true c.index-texts-number.is c.loop-number.invariant
    (subst (λ text. IsPlanCause text c.in-Err.refused) c.as_slice.ensures.value c.in-Err.ensures.refused))

pub loop-number-preserved : goal.loop-number-preserved
loop-number-preserved c =
    let text = c.index-texts-number.result in
    let file = c.in-Ok.file in
    texts_more c.args.texts.now c.loop-number.number text c.push.new.self c.loop-number-test.true c.index-texts-number.is
    (c.in_ok-push-in-Ok.ensures (texts_of (take c.loop-number.number c.args.texts.now)) text.bytes.items c.loop-number.invariant
    (subst (λ text. HasFile text file.program file.typed file.frames.items) c.as_slice.ensures.value c.in-Ok.ensures.file))

pub returns-clause-files : goal.returns-clause-files
returns-clause-files c =
    all_texts c.args.texts.now c.loop-number.number c.loop-number.files c.loop-number-test.false c.loop-number.invariant
