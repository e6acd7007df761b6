-- The body of a function that was entered: its arguments are stored, its items follow it, and its end leads back (this project's own).
use Rattle.std.specs.Prelude.{◌≡◌, ℕ, suc, ◌+◌, ◌*◌, ◌%◌, ◌^◌, ◌<◌, ◌≤◌, true, List, [], ◌∷◌, ◌++◌}
use Rattle.std.specs.Prelude.{length, slice_get, Some, refl}
use Rattle.std.specs.List.{filter}
use Rattle.std.proofs.Common.{arith, ap, sym, subst, ◌∙◌, length-append, append_assoc}
use Rattle.std.proofs.Math.Path.{fun_ext}
use Rattle.a64_code.specs.declared.instr.Instr.TheVariants.{Movz}
use Rattle.a64_code.specs.State.{State, at_pc, with_tags}
use Rattle.a64_laws.specs.Branches.{Always, jump_instr}
use Rattle.a64_laws.specs.Forms.{puts_register}
use Rattle.a64_laws.specs.Laws.Results.{constant_moved}
use Rattle.c_type_base.specs.declared.ty.Ty.{Ty, out-Ty}
use Rattle.c_type_base.specs.declared.ty.Ty.TheOpen.{Ty-F}
use Rattle.c_type_base.specs.Types.{TyLayer, is_void_level}
use Rattle.c_type_base.specs.declared.typed.StructInfo.{StructInfo}
use Rattle.c_type_base.specs.declared.typed.TFunction.{TFunction}
use Rattle.block_meaning.specs.declared.value.Value.{Value}
use Rattle.block_meaning.specs.declared.value.Value.TheVariants.{Number, Address, Struct, NoValue}
use Rattle.block_meaning.specs.Linkage.{structs_of}
use Rattle.block_meaning.specs.Meaning.{result_of}
use Rattle.block_meaning.specs.ProgramsInOrder.{InOrder}
use Rattle.block_meaning.specs.Running.{Function, Call, Context, Goes, State as MeaningState}
use Rattle.block_meaning.specs.Statements.{Flow, Next, Broke, Continued, Returned}
use Rattle.block_meaning.specs.Values.{missing_result, zero_as}
use Rattle.code_runs.specs.Bounded.{Account, later, Bounded}
use Rattle.code_runs.specs.Laws.Bounded.{after}
use Rattle.code_runs.specs.Laws.Ranges.{IsInRange-Steps}
use Rattle.code_runs.specs.Within.{StepsWithin}
use Rattle.code_follows.specs.Laws.Converting.{IsNumber-null}
use Rattle.code_relation.specs.Calls.{frame_of}
use Rattle.code_relation.specs.Follows.{Code, setting, call_room}
use Rattle.code_relation.specs.Injects.{Injects}
use Rattle.code_relation.specs.Items.{IsAt, HasInstr, GoesTo, Place, StandsAt, spot_at, Acts}
use Rattle.code_relation.specs.Kept.{KeepsFrom}
use Rattle.code_relation.specs.Numbers.{Holds}
use Rattle.code_relation.specs.Outcomes.{outcome_of}
use Rattle.code_relation.specs.Relates.{Relates}
use Rattle.code_relation.specs.Sites.{Given, units_of}
use Rattle.code_relation.specs.Trees.{Part, Exits, Comes, ComesBy, ComesToLeave, inner_tagged, is_inner_slot}
use Rattle.code_relation.specs.Laws.Kept.{SameInjected, Injects-same}
use Rattle.code_relation.specs.Laws.Placing.{get_front, get_back, from_item}
use Rattle.code_relation.specs.Laws.Registers.{Relates-register}
use Rattle.frame_layout.specs.declared.frame.Frame.{Frame}
use Rattle.gen_base.specs.Registers.{returned}
use Rattle.gen_unit.specs.Functions.{entry, exit}
use Rattle.gen_unit.specs.Labels.{end_of, form_of}
use Rattle.gen_unit.specs.Words.{Form, item_words, way}
use Rattle.tag_plan.specs.Effects.{NoneHas}
use Rattle.sym_code.specs.declared.item.SymItem.{SymItem}
use Rattle.sym_code.specs.declared.item.SymItem.TheVariants as item
use Rattle.unit_follows.specs.Functions.{IsPlacedFunction, argument_items, body_items, body_part, all_items, function_place, EndsBody}
use Rattle.unit_follows.specs.Placing.{Placing}
use Rattle.unit_follows.specs.Laws.FunctionStands.{function_stands}
use Rattle.unit_follows.specs.Laws.FrameFacts.{frame_some}
use Rattle.unit_follows.specs.Laws.Entering.{IsNewCall}
use Rattle.unit_follows.specs.Laws.Finishing.{InCall, call_finishes}
use Rattle.unit_follows.specs.Laws.InCalls.{InCall-kept, InCall-bytes, Back, Bounded-finished}
use Rattle.unit_follows.specs.Laws.Items.{item_placed, targets}
use Rattle.unit_follows.specs.Laws.Jumps.{GoesTo-jump, StepsWithin-instr}
use Rattle.unit_follows.specs.Laws.Ended.{with_ended}
use Rattle.unit_follows.specs.Laws.Lengths.{place-end, place_of, place-within}
use Rattle.unit_follows.specs.Laws.EntrySteps.{none_tagged}
use Rattle.unit_follows.specs.Laws.PlacedWords.{PlacedWords}
use Rattle.unit_follows.specs.Laws.Standing.{Standing, HasInstr-first}

append-three : (xs ys : List SymItem) (i : SymItem) → xs ++ (ys ++ ((i ∷ []) ++ [])) ≡ xs ++ ys ++ i ∷ []
append-three xs ys i = sym (append_assoc xs ys (i ∷ []))

module _ {c : Code} {p : Placing} {f : Function} {tf : TFunction} {base : ℕ} (fn : IsPlacedFunction c p f tf base) where
  abbrev g : Given
  g = c.given

  abbrev structs : List StructInfo
  structs = structs_of (units_of g) f.unit

  abbrev pub fr : Frame
  fr = frame_of (units_of g) f

  abbrev pub args : List SymItem
  args = argument_items tf fr

  abbrev pub body : List SymItem
  body = body_items structs tf fr

  abbrev pub every : List SymItem
  every = all_items structs tf fr

  abbrev pub spot : Place
  spot = function_place structs tf fr base

  abbrev pub first : ℕ
  first = length (entry fr)

  abbrev form : Form
  form = form_of fr first every

  pub order : InOrder g.program
  order = fn.here.file.meant.in_order

  -- ---- where the parts stand

  abbrev pub zero_item : SymItem
  zero_item = item.Plain (Movz true 0 0 returned)

  pub parts_are : every ≡ args ++ body ++ zero_item ∷ []
  parts_are = append-three args body zero_item

  fits : base + 4 * end_of form first every < 2 ^ 56
  fits = omega (arith, fn.here.words.leaves.below)

  pub all_stand : StandsAt c f spot every
  all_stand = function_stands fn.here

  pub exit_at : spot.at (length every) ≡ base + 4 * end_of form first every
  exit_at = ap (λ n. base + 4 * n) (place-end form first every)

  ended : (inner here : Context) (now done : MeaningState) (call : Call) (v : Value) (vs : List Value) (s t : State) (a : Account) →
      Injects g here now s → IsNewCall g here now call → call.function ≡ f → Relates g inner done t →
      inner.open_calls ≡ call ∷ here.open_calls → t.pc ≡ spot.at (length every) → InCall g here call s t → Holds g done v (t.register 0) →
      a.least ≤ done.work + a.so_far → a.so_far + 12 + c.per * done.work ≤ a.most + length vs →
      Bounded (setting c) a (λ v. call_room vs) t (Back c here now s) (outcome_of (Goes v (with_ended call done)))
  ended inner here now done call v vs s t a injects new of relates open_is pc in_call holds least most =
      Bounded-finished vs (call_finishes (base + 4 * end_of form first every) call v order injects new relates open_is
      (pc ∙ exit_at) (subst (λ x. Standing c (base + 4 * end_of form first every) (exit (frame_of (units_of g) x)))
      (sym of) fn.here.words.leaves)
      (subst (λ x. (frame_of (units_of g) x).bytes < 2 ^ 24) (sym of) (omega (arith, fn.here.most)))
      (subst (λ x. 16 ≤ (frame_of (units_of g) x).bytes) (sym of) (omega (arith, frame_some fn)))
      in_call holds) least most

  -- the value of a function that ends without one
  missing_holds : {here : Context} {now : MeaningState} {s : State} → Injects g here now s → (t : Ty) → Holds g now (missing_result t) 0
  missing_holds {here} {now} {s} injects t = by_level (out-Ty t)
    where
      by_level : (level : TyLayer) → Holds g now (zero_as level) 0
      by_level (Ty-F.Int i) = refl
      by_level (Ty-F.Pointer u) = IsNumber-null injects
      by_level _ = tt

  zero_register_of : (s : State) → (puts_register returned 0 s).register 0 ≡ 0
  unfolding puts_register
  zero_register_of s = refl

  zero_bytes : (s : State) → (puts_register returned 0 s).byte ≡ s.byte
  unfolding puts_register
  zero_bytes s = refl

  zero_pc : (s : State) → (puts_register returned 0 s).pc ≡ (s.pc + 4) % 2 ^ 64
  unfolding puts_register
  zero_pc s = refl

  fell : (inner here : Context) (now done : MeaningState) (call : Call) (vs : List Value) (s t : State) (a : Account) →
      Injects g here now s → IsNewCall g here now call → call.function ≡ f → Relates g inner done t →
      inner.open_calls ≡ call ∷ here.open_calls → t.pc ≡ spot.at (length args + length body) → InCall g here call s t →
      a.least ≤ done.work + a.so_far → a.so_far + 14 + c.per * done.work ≤ a.most + length vs →
      Bounded (setting c) a (λ v. call_room vs) t (Back c here now s)
      (outcome_of (Goes (missing_result tf.result) (with_ended call done)))
  fell inner here now done call vs s t a injects new of relates open_is pc in_call least most =
      after one (ended inner here now done call (missing_result tf.result) vs s u (later 1 a) injects new of
      (Relates-register returned 0 (λ same. omega (arith, same)) (IsInRange-Steps 1 one.steps relates.injects.in_range) relates) open_is
      (zero_pc t ∙ pc_is) (InCall-bytes in_call (zero_bytes t))
      (subst (λ n. Holds g done (missing_result tf.result) n) (sym (zero_register_of t)) (missing_holds relates.injects tf.result))
      (omega (arith, least)) (omega (arith, most)))
    where
      u : State
      u = puts_register returned 0 t

      there : slice_get every (length args + length body) ≡ Some zero_item
      there = ap (λ is. slice_get is (length args + length body)) parts_are
          ∙ ap (λ k. slice_get (args ++ body ++ zero_item ∷ []) k) (let e : length args + length body ≡ length (args ++ body) + 0 =
          omega (arith, length-append args body) in e)
          ∙ get_back (args ++ body) (zero_item ∷ []) 0 zero_item refl

      acts : Acts c f (spot_at spot (length args + length body)) zero_item
      acts = all_stand.acts (length args + length body) zero_item there

      is_at : IsAt c (spot.at (length args + length body)) t
      is_at = record { pc = pc; as_loaded = relates.injects.as_loaded; in_range = relates.injects.in_range }

      one : StepsWithin c.Inside 1 t u
      one = StepsWithin-instr (Movz true 0 0 returned) acts.0 is_at (constant_moved 0 returned t (omega arith))

      count : length every ≡ suc (length args + length body)
      count = omega (arith, ap length parts_are, length-append (args ++ body) (zero_item ∷ []), length-append args body)

      pc_is : (t.pc + 4) % 2 ^ 64 ≡ spot.at (length every)
      pc_is = omega (arith, pc, acts.0.below, acts.1) ∙ ap spot.at (sym count)

  -- ---- where its body has returned

  abbrev pub part : Part
  part = body_part fn.here.file.file structs f tf fr

  abbrev pub body_place : Place
  body_place = from_item (length args) spot

  result_holds : (done : MeaningState) (v : Value) (n : ℕ) → EndsBody tf.result (Returned v) → Holds g done v n →
      Holds g done (result_of tf.result (Returned v)) n
  result_holds done (Number m) n ends holds = holds
  result_holds done (Address q) n ends holds = holds
  result_holds done (Struct q) n ends holds = holds
  result_holds done NoValue n ends holds = by_level (out-Ty tf.result) ends
    where
      by_level : (level : TyLayer) → is_void_level level ≡ true → Holds g done (zero_as level) n
      by_level Ty-F.Void is = tt
      by_level (Ty-F.Int i) is = absurd (cc)
      by_level (Ty-F.Pointer u) is = absurd (cc)
      by_level (Ty-F.Array u k) is = absurd (cc)
      by_level (Ty-F.Struct k) is = absurd (cc)

  -- no slot is tagged, so the tags are as they are
  no_inner : inner_tagged fr.slots ≡ []
  no_inner = ap (filter is_inner_slot) (none_tagged fr.slots fn.here.safe)

  came : {inner : Context} {t u : State} {v : Value} {done : MeaningState} → (leaves : ComesToLeave g part body_place inner t v done u) →
      Comes g 0 (body_place.at leaves.position) inner t done u
  came {inner} {t} {u} {v} {done} leaves =
      subst (λ tags. Comes g 0 (body_place.at leaves.position) inner t done (with_tags tags u)) same leaves.comes
    where
      none : (granule : ℕ) → NoneHas u.sp (inner_tagged fr.slots) granule
      none granule = subst (λ ss. NoneHas u.sp ss granule) (sym no_inner) tt

      same : leaves.tags ≡ u.tag
      same = fun_ext (λ granule. leaves.same granule (none granule))

  moved_same : (to : ℕ) (s : State) → SameInjected s (at_pc to s)
  moved_same to s = record { sp = refl; base = refl; byte = refl; tag = refl; regions = refl; guard = refl; choices = refl; drawn = refl }

  left_by_return : (inner here : Context) (now done : MeaningState) (call : Call) (v : Value) (vs : List Value) (s t u : State)
      (a : Account) → Injects g here now s → IsNewCall g here now call → call.function ≡ f →
      inner.open_calls ≡ call ∷ here.open_calls → InCall g here call s t → EndsBody tf.result (Returned v) →
      ComesToLeave g part body_place inner t v done u →
      a.least ≤ done.work + a.so_far → a.so_far + 14 + c.per * done.work ≤ a.most + length vs →
      Bounded (setting c) a (λ v. call_room vs) u (Back c here now s)
      (outcome_of (Goes (result_of tf.result (Returned v)) (with_ended call done)))
  left_by_return inner here now done call v vs s t u a injects new of open_is in_call ends leaves least most =
      after goes.led (ended inner here now done call (result_of tf.result (Returned v)) vs s w (later goes.steps a) injects new of
      (record {
        injects = Injects-same (moved_same exit_place u) (IsInRange-Steps goes.steps goes.led.steps there.relates.injects.in_range)
            there.relates.injects;
        outside = record {
          output = there.relates.outside.output;
          input = there.relates.outside.input;
          bytes = there.relates.outside.bytes;
          takes = there.relates.outside.takes;
          puts = there.relates.outside.puts;
        };
      }) open_is (sym exit_at)
      (InCall-bytes {t = u} (InCall-kept {u = u} 0 in_call (subst (λ cs. KeepsFrom (units_of g) 0 t u cs) open_is there.kept)) refl)
      (result_holds done v (u.register 0) ends leaves.value)
      (omega (arith, least)) (omega (arith, most, goes.most)))
    where
      there : Comes g 0 (body_place.at leaves.position) inner t done u
      there = came leaves

      exit_place : ℕ
      exit_place = base + 4 * end_of form first every

      w : State
      w = at_pc exit_place u

      k : ℕ
      k = length args + leaves.position

      item_is : slice_get every k ≡ Some item.Leave
      item_is = ap (λ is. slice_get is k) parts_are
          ∙ get_front (args ++ body) (zero_item ∷ []) k item.Leave (get_back args body leaves.position item.Leave leaves.leave)

      q : ℕ
      q = place_of form first every k

      placed : PlacedWords c p f.unit (base + 4 * q) (item_words form (targets form first every) q item.Leave)
      placed = item_placed form (targets form first every) base first every k item.Leave item_is fn.here.words.items

      has : HasInstr c (base + 4 * q) (jump_instr Always (way q (end_of form first every)))
      has = HasInstr-first placed.stands

      is_at : IsAt c (base + 4 * q) u
      is_at = record { pc = there.pc; as_loaded = there.relates.injects.as_loaded; in_range = there.relates.injects.in_range }

      goes : GoesTo c exit_place u
      goes = GoesTo-jump base q (end_of form first every) has is_at
          (omega (arith, fn.here.words.reach.jumps, place-within form first every k)) (omega (arith, fn.here.words.reach.jumps)) (omega
          (arith, fits))

  -- by how the body ends
  pub after_body : (flow : Flow) (inner here : Context) (now done : MeaningState) (call : Call) (vs : List Value) (s t u : State)
      (a : Account) (exits : Exits) (extra : ℕ) → Injects g here now s → IsNewCall g here now call → call.function ≡ f →
      inner.open_calls ≡ call ∷ here.open_calls → InCall g here call s t → EndsBody tf.result flow →
      ComesBy g part body_place exits inner t extra flow done u →
      a.least ≤ done.work + a.so_far → a.so_far + 14 + c.per * done.work ≤ a.most + length vs →
      Bounded (setting c) a (λ v. call_room vs) u (Back c here now s)
      (outcome_of (Goes (result_of tf.result flow) (with_ended call done)))
  after_body Next inner here now done call vs s t u a exits extra injects new of open_is in_call ends comes least most =
      fell inner here now done call vs s u a injects new of comes.relates open_is comes.pc
      (InCall-kept 0 in_call (subst (λ cs. KeepsFrom (units_of g) 0 t u cs) open_is comes.kept)) least most
  after_body (Returned v) inner here now done call vs s t u a exits extra injects new of open_is in_call ends comes least most =
      left_by_return inner here now done call v vs s t u a injects new of open_is in_call ends comes least most
  after_body Broke inner here now done call vs s t u a exits extra injects new of open_is in_call ends comes least most = absurd ends
  after_body Continued inner here now done call vs s t u a exits extra injects new of open_is in_call ends comes least most = absurd ends
