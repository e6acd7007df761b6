use Rattle.std.proofs.Common.{◌≡◌, ℕ, false, List, [], ◌∷◌, ◌++◌, ◌∙◌, length, take, drop, refl, ap, arith, w64, length-take}
use Rattle.std.specs.Int.{from_le_bytes}
use Rattle.mt_base.specs.Memory.{load, bytes_at}
use Rattle.mt_base.specs.Pointers.{address_of}
use Rattle.a64_code.specs.Access.{single, access_end}
use Rattle.mte_machine.specs.Accesses.{with_memory}
use Rattle.mte_machine.proofs.NumberLaws.{given, number_read}
use Rattle.mte_machine.proofs.memory.single.load.Goals as goal

pub returns : goal.returns
returns g c s =
    let now = with_memory g.M.TagMemory c.args.memory.now s in
    let at = address_of c.args.pointer in
    let none : List ℕ = 0 ∷ 0 ∷ 0 ∷ 0 ∷ 0 ∷ 0 ∷ 0 ∷ 0 ∷ [] in
    let long : length (take c.args.bytes none) ≡ c.args.bytes = length-take c.args.bytes none ∙ omega arith in
    let read = c.in_ok-read.ensures.done refl ∙ ap (λ n. bytes_at n now.byte at) long in
    let number : c.from_le_bytes.result ≡ load c.args.bytes now.byte at =
    c.from_le_bytes.ensures ∙ ap (λ xs. from_le_bytes w64 (xs ++ drop c.args.bytes none)) read
    ∙ number_read c.args.bytes now.byte at c.requires.few in
    given (access_end now (single c.args.bytes c.args.pointer false c.args.checked)) c.in_ok-read.field-0 c.from_le_bytes.result
    (load c.args.bytes now.byte at)
    (rw long at (c.in_ok-read.ensures.answer s)) number
