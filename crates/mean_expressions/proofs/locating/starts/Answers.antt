use Rattle.std.proofs.Common.{◌≡◌, sym, subst, ap, IfSome, Some}
use Rattle.block_meaning.specs.Expressions.{starts}
use Rattle.mean_machine.specs.Going.{by, place}
use Rattle.mean_expressions.proofs.Alike.{machine-is}
use Rattle.mean_expressions.proofs.locating.starts.Goals as goal

pub returns-in-Some : goal.returns-in-Some
returns-in-Some c = λ w here k frames now b is_block stacked of_now.
    machine-is (ap (λ x. by (starts x) (place here k) now) (sym (subst (λ x. IfSome x (λ number. b ≡ Some number)) c.in-Some.is is_block)))
    (c.unit_place.ensures w here k frames now stacked of_now)
