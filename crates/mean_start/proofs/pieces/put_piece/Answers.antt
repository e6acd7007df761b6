use Rattle.std.proofs.Common.{◌≡◌, rules, ap, ◌∙◌, w64}
use Rattle.std.specs.Int.RustNames.{FitsSigned}
use Rattle.std.proofs.lemmas.Int.{to_z-of_z}
use Rattle.std.proofs.lemmas.Result.{on_ok_weaker}
use Rattle.block_meaning.specs.Opening.{unsigned}
use Rattle.mean_start.proofs.Steps.{address_put}
use Rattle.mean_start.proofs.pieces.put_piece.Goals as goal

pub returns-in_ok-block-in-Address : goal.returns-in_ok-block-in-Address
returns-in_ok-block-in-Address c =
    let fits : FitsSigned w64 c.in-Address.offset = search rules in
    let offset : c.unsigned.result ≡ unsigned c.in-Address.offset = c.unsigned.ensures ∙ ap unsigned (to_z-of_z w64 _ fits) in
    on_ok_weaker c.put_pointer_at.result (λ put program unit is. address_put program.units unit c.args.p.now c.in-Address.target
    c.in-Address.offset c.in_ok-block-in-Address.block c.unsigned.result c.args.cells.now.items c.put_pointer_at.new.cells.items
    c.in-Address.is (c.in_ok-block-in-Address.ensures program unit is) offset put) c.put_pointer_at.ensures
