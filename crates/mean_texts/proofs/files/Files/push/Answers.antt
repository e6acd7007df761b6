use Rattle.mean_texts.proofs.Turns.{pushed}
use Rattle.mean_texts.proofs.files.Files.push.Goals as goal

pub returns : goal.returns
returns c =
    let before = c.args.self.now in
    let file = c.args.file in
    pushed before.trees c.push.new.self before.units c.push-2.new.self before.frames.bytes.items c.push-3.new.self.items file.program
    file.typed file.frames c.in_ok-push.ensures.ok c.in_ok-push-2.ensures.ok c.in_ok-push-3.ensures.items
