-- What a read answers is what the first file of the name holds.
use Rattle.std.proofs.Common.{Some, sym, ap, ◌∙◌}
use Rattle.mt_outside.specs.declared.mem_files.MemFile.{MemFile}
use Rattle.mt_outside.proofs.FirstFiles.{IsFirstAt-from_place, first_bytes-first_at, IsNowhere-from_place, first_bytes-nowhere}
use Rattle.mt_outside.proofs.mem_files.MemFilesFiles.read.Goals as goal

pub returns-in-None-clause-content : goal.returns-in-None-clause-content
returns-in-None-clause-content c =
    first_bytes-nowhere c.args.self.now.files.items c.args.name.now
    (IsNowhere-from_place c.args.self.now.files.items c.args.name.now (sym (rw c.deref.ensures.value at c.in-None.ensures)))

pub returns-in-Ok-clause-content : goal.returns-in-Ok-clause-content
returns-in-Ok-clause-content c =
    first_bytes-first_at c.args.self.now.files.items c.args.name.now c.in-Some.place c.index.result.now
    (IsFirstAt-from_place c.args.self.now.files.items c.args.name.now c.in-Some.place c.index.result.now
    (sym (rw c.deref.ensures.value at c.in-Some.ensures)))
    ∙ ap (λ (file : MemFile). Some file.bytes.items) (sym c.index.ensures)
    ∙ ap Some (sym (c.in-Ok.ensures.items ∙ c.deref-in-Some.ensures.value))
