use Rattle.c_type_stmt.proofs.FitLaws.{fit_turn, fit_past, fit_end}
use Rattle.std.proofs.Common.{rules, ◌≡◌, sym, ◌∙◌, true, false, ◌&&◌, ◌||◌, map}
use Rattle.std.specs.Prelude.{if◌then◌else◌}
use Rattle.std.proofs.lemmas.Result.{IfOk-weaker}
use Rattle.c_type_stmt.specs.Initials.{initialiser}
use Rattle.c_type_base.specs.Sizes.{is_complete}
use Rattle.c_type_base.specs.Types.{is_array, is_struct}
use Rattle.c_type_stmt.proofs.ListLaws.{list_with_places}
use Rattle.c_type_stmt.proofs.initial.+fitted.Goals.{list_for-else-is_struct-via-then-is_struct+else-not-is_complete}
use Rattle.c_type_stmt.proofs.initial.+fitted.Goals.{list_for-else-is_struct-via-else-is_struct, list_for-then-is_array-via-then-is_array}
use Rattle.c_type_stmt.proofs.initial.+fitted.Goals.{list_for-then-is_array-via-else-is_array+then-is_struct-2}
use Rattle.c_type_stmt.proofs.InitialLaws.{walked_structs}
use Rattle.c_type_stmt.proofs.initial.+fitted.Goals as goal

pub fit_all-loop-k-preserved : goal.fit_all-loop-k-preserved
fit_all-loop-k-preserved t c = record {
  structs = walked_structs _ _ _ _ c.in_ok-known.ensures ∙ c.loop-k.invariant.structs;
  stands = fit_turn c.args.from_start c.args.t.now c.args.inits.now c.loop-k.k c.index-inits-k.result c.in-Some.slot _ _ _ _ _ _
      c.loop-k-test.true c.loop-k.invariant.structs c.loop-k.invariant.stands
      (sym c.in-Some.is ∙ rw (← c.as_slice.ensures) c.in_ok-slot.ensures) (rw (← c.index-inits-k.is) c.in_ok-known.ensures)
      c.in_ok-so_far.ensures;
}

pub fit_all-returns : goal.fit_all-returns
fit_all-returns t c =
    fit_end c.args.from_start c.args.t.now c.args.inits.now c.loop-k.k _ _ _ c.loop-k-test.false c.loop-k.invariant.stands

pub fit_all-returns-in_default : goal.fit_all-returns-in_default
fit_all-returns-in_default t c =
    fit_past c.args.from_start c.args.t.now c.args.inits.now c.loop-k.k c.args.walk.now c.loop-k.walk c.too_many.new.walk _
    c.loop-k-test.true c.loop-k.invariant.structs c.loop-k.invariant.stands
    (sym c.in_default.is ∙ rw (← c.as_slice.ensures) c.in_ok-slot.ensures) c.in_ok-too_many.ensures

pub list_for-returns-then-is_array : goal.list_for-returns-then-is_array
list_for-returns-then-is_array t c =
    let whole : (is_struct c.args.t.now && (if is_complete c.args.walk.now.structs c.args.t.now then false else true)) ≡ false =
    elim c.else-is_struct.branch [
      | list_for-else-is_struct-via-then-is_struct+else-not-is_complete w ↦ search rules
      | list_for-else-is_struct-via-else-is_struct w ↦ search rules
    ] in
    let placed : (is_array c.args.t.now || is_struct c.args.t.now) ≡ true =
    elim c.then-is_array.branch [
      | list_for-then-is_array-via-then-is_array w ↦ search rules
      | list_for-then-is_array-via-else-is_array+then-is_struct-2 w ↦ search rules
    ] in
    IfOk-weaker c.list_in.result _ _
    (λ f walked. list_with_places c.args.span (map initialiser c.args.inits.now) c.args.from_start c.args.t.now _ _ f whole placed walked)
    c.list_in.ensures
