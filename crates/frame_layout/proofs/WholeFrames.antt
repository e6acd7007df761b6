-- What `layout` gives is well formed.
use Rattle.std.proofs.Common.{◌≡◌, ℕ, List, sym, ◌∙◌, ap, subst, ◌≤◌}
use Rattle.c_type_base.specs.declared.typed.StructInfo.{StructInfo}
use Rattle.c_type_base.specs.declared.typed.TFunction.{TFunction}
use Rattle.c_type_base.specs.Layout.{LaidOut}
use Rattle.c_type_base.specs.Sizes.{AreObjects, HaveBytes}
use Rattle.frame_layout.specs.declared.frame.Frame.{Frame}
use Rattle.frame_layout.specs.declared.placed.Part.{Part}
use Rattle.frame_layout.specs.Parts.{parts}
use Rattle.frame_layout.specs.StatementNeeds.{stmt_need}
use Rattle.frame_layout.specs.Frames.{frame_by, frame, largest_frame}
use Rattle.frame_layout.specs.Layouts.{IsLaid}
use Rattle.frame_layout.specs.WellFormed.{IsWellFormed}
use Rattle.frame_layout.specs.Laws.WellFormedLaws.{well_formed}

pub laid_well : (structs : List StructInfo) (f : TFunction) → LaidOut structs → AreObjects structs f.locals → HaveBytes structs →
    (words : ℕ) (ps : List Part) (given : Frame) → words ≡ stmt_need f.body → ps ≡ parts structs f →
    IsLaid given (frame_by words ps) → IsWellFormed given
laid_well structs f laid objects have words ps given is1 is2 found =
    let same : given ≡ frame structs f = found.same ∙ ap (λ n. frame_by n ps) is1 ∙ ap (frame_by (stmt_need f.body)) is2 in
    subst IsWellFormed (sym same)
    (well_formed structs f laid objects have (subst (λ g. g.bytes ≤ largest_frame) (sym found.same ∙ same) found.small))
