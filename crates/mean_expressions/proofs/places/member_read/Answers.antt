use Rattle.std.specs.Prelude.{Some}
use Rattle.block_meaning.specs.declared.value.Pointer.{Pointer}
use Rattle.block_meaning.specs.Expressions.{member_of}
use Rattle.block_meaning.specs.Memory.{object, read}
use Rattle.mean_machine.specs.Going.{Stand, by, value}
use Rattle.mean_expressions.specs.Laws.Standing.{stands-then, stands-stop, stands-spent}
use Rattle.mean_expressions.proofs.places.member_read.Goals as goal

pub returns-in-Ok-member_of : goal.returns-in-Ok-member_of
returns-in-Ok-member_of c = λ w here k frames now of_here stacked of_now.
    let s = c.args.selected in
    let run = member_of here (Some s.of.now.ty) s.member c.args.p in
    let next : Pointer → Stand = λ q. by (read here s.around (object s.ty.now q)) (value here k) in
    stands-spent (by run next) c.in-Ok.is (c.spend.ensures now of_now) (λ after shown.
    stands-then (run after) next c.in-Ok-member_of.is (c.member_of.ensures here c.spend.new.n after of_here shown) (λ last shown'.
    c.read_at.ensures w here k frames last of_here stacked shown'))

pub returns-in-Err-member_of : goal.returns-in-Err-member_of
returns-in-Err-member_of c = λ w here k frames now of_here stacked of_now.
    let s = c.args.selected in
    let run = member_of here (Some s.of.now.ty) s.member c.args.p in
    let next : Pointer → Stand = λ q. by (read here s.around (object s.ty.now q)) (value here k) in
    stands-spent (by run next) c.in-Ok.is (c.spend.ensures now of_now) (λ after shown.
    stands-stop (run after) next c.in-Err-member_of.is (c.member_of.ensures here c.spend.new.n after of_here shown))
