use Rattle.std.proofs.Common.{refl, subst, ℕ, [], ◌∷◌, take, length, ◌≡◌, Some}
use Rattle.std.specs.Prelude.{slice_get}
use Rattle.std.proofs.lemmas.Option.{slice_get_read}
use Rattle.block_meaning.specs.Blocks.{null_block}
use Rattle.block_meaning.specs.Opening.{opening_from}
use Rattle.mean_memory.specs.Standing.{IsMemory}
use Rattle.mean_start.specs.Laws.Looking.{file_of}
use Rattle.mean_start.proofs.Blocks.{null_pushed, opening_further, all_files}
use Rattle.mean_start.proofs.opening.opened.Goals as goal

pub loop-unit-init : goal.loop-unit-init
loop-unit-init c = λ program is.
    null_pushed c.push.new.self c.new-2.result.items c.new-2.ensures.items ((c.in_ok-push.ensures [] c.in_ok-memory.ensures).1)

pub loop-unit-preserved : goal.loop-unit-preserved
loop-unit-preserved c = λ program is.
    let files = c.args.files.now in
    let i : ℕ = c.loop-unit.unit in
    let f = c.index-files-unit.result in
    let at : slice_get files i ≡ Some f = slice_get_read files (length files) i f refl c.loop-unit-test.true c.index-files-unit.is in
    let file = file_of is i f at in
    subst (IsMemory c.open_file.new.memory) (opening_further program.units i f.typed.now file.typed)
    (c.in_ok-open_file.ensures program (null_block ∷ opening_from program.units 0 (take i program.units)) file
    (c.loop-unit.invariant program is))

pub returns : goal.returns
returns c = λ program is.
    subst (λ l. IsMemory c.loop-unit.memory (null_block ∷ opening_from program.units 0 l))
    (all_files c.args.files.now program is c.loop-unit.unit c.loop-unit-test.false) (c.loop-unit.invariant program is)
