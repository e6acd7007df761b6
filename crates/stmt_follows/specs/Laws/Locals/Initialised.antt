-- The code of the initialiser of a scalar local does what it means: a unit of work, the value, and its store (this project's own).
use Rattle.std.specs.Prelude.{◌≡◌, ℕ, zero, suc, ◌<◌, ◌≤◌, ◌||◌, true, false, [], ◌∷◌, slice_get, Option, Some, None, IfSome, refl}
use Rattle.std.proofs.Common.{arith, ap, sym, subst, ◌∙◌}
use Rattle.c_ast.specs.declared.token.Span.{Span}
use Rattle.c_type_base.specs.Types.{TyLayer, is_scalar, is_array, is_there, element_of_level}
use Rattle.c_type_base.specs.declared.expr.TExpr.{TExpr}
use Rattle.c_type_base.specs.declared.statement.TDecl.{TDecl}
use Rattle.c_type_base.specs.declared.statement.TInit.{TInit}
use Rattle.c_type_base.specs.declared.statement.TInit.TheOpen.{TInit-F}
use Rattle.c_type_base.specs.declared.ty.Ty.{Ty, out-Ty}
use Rattle.c_type_base.specs.declared.ty.Ty.TheOpen.{Ty-F}
use Rattle.c_type_base.specs.declared.typed.LocalInfo.{LocalInfo}
use Rattle.a64_code.specs.declared.instr.Instr.TheVariants.{Nop}
use Rattle.a64_code.specs.State.{State}
use Rattle.a64_code.specs.declared.instr.Reg.{Reg}
use Rattle.block_meaning.specs.Expressions.{ExprParts, start_of, value_of}
use Rattle.block_meaning.specs.Linkage.{function_named}
use Rattle.block_meaning.specs.Locals.{InitParts, latest, local_in, local_info, is_list, after_zero, fill_one, fill_node, fill_at}
use Rattle.block_meaning.specs.Locals.{initialised, declared_with}
use Rattle.block_meaning.specs.Memory.{Object, object, write}
use Rattle.block_meaning.specs.Running.{Call, gives, stuck, and_then, State as MeaningState}
use Rattle.block_meaning.specs.declared.value.Value.{Value}
use Rattle.tag_plan.specs.Effects.{Puts}
use Rattle.code_relation.specs.Items.{PutsPointer}
use Rattle.code_relation.specs.Numbers.{IsNumber}
use Rattle.code_relation.specs.Relates.{Relates}
use Rattle.code_relation.specs.Sites.{units_of}
use Rattle.code_relation.specs.Follows.{setting}
use Rattle.code_runs.specs.Bounded.{Account}
use Rattle.code_runs.specs.Laws.Bounded.{opened}
use Rattle.gen_base.specs.Accesses.{OnStack, Behind, store_scalar, reached}
use Rattle.gen_base.specs.Code.{Code as Items, only, plain}
use Rattle.gen_base.specs.Registers.{scratch}
use Rattle.gen_laws.specs.Computes.{all}
use Rattle.gen_laws.specs.Laws.Numbers.{some_same}
use Rattle.gen_laws.specs.Laws.Unary.{nop-computes}
use Rattle.gen_stmt.specs.Loops.{result}
use Rattle.gen_stmt.specs.Statements.{value, store_local, one_init, init_code, maybe_init}
use Rattle.sym_code.specs.declared.item.SymItem.TheVariants as item
use Rattle.code_follows.specs.Parts.{Result, On, Goes, Yields}
use Rattle.code_follows.specs.Scene.{Scene, IsScene, given_in, structs_in, frame_in, Lies}
use Rattle.code_follows.specs.Steps.{SameMachine, Walks}
use Rattle.code_follows.specs.Values.{ValueIs}
use Rattle.code_follows.specs.Laws.Coming.{Came-start, pays, pays-some}
use Rattle.code_follows.specs.Laws.Computing.{Suits-other}
use Rattle.code_follows.specs.Laws.Going.{Goes-same, Goes-stuck, Goes-unit, Goes-some, Goes-part, Goes-list, Goes-walks, Goes-done}
use Rattle.code_follows.specs.Laws.Going.{On-at}
use Rattle.code_follows.specs.Laws.Here.{and_then-gives}
use Rattle.code_follows.specs.Laws.Lying.{ActsFrom, HasOne, Lies-turn, Lies-plain, Lies-one, Lies-only, Lies-none}
use Rattle.code_follows.specs.Laws.Scalars.{is_scalar_level}
use Rattle.code_follows.specs.Laws.Slots.{SlotPlace, slot_place}
use Rattle.stmt_follows.specs.Declarations.{ScalarInit, InitRuns}
use Rattle.stmt_follows.specs.Expressions.{IsPlace}
use Rattle.stmt_follows.specs.Laws.Locals.Places.{LocalPlace, local_place}
use Rattle.stmt_follows.specs.Laws.Locals.Stored.{Goes-stores, stores_near, stores_behind}

-- it is known where it comes, and no value
abbrev pub Comes-only : Result (Unit {0})
Comes-only x now n = Unit {0}

-- ---- the meaning

pub not_array : (l : TyLayer) → is_scalar_level l ≡ true → is_there (element_of_level l) ≡ false
not_array (Ty-F.Int i) is = refl
not_array (Ty-F.Pointer t) is = refl
not_array _ is = absurd (cc)

one_filled : (init : InitParts) (o : Object) (e : TExpr) (l : TyLayer) (now : MeaningState) → is_scalar_level l ≡ true →
    fill_one init o e l now ≡ and_then (value_of init.parts e) (λ v. write init.here e.span o v) now
one_filled init o e (Ty-F.Int i) now is = refl
one_filled init o e (Ty-F.Pointer t) now is = refl
one_filled init o e _ now is = absurd (cc)

module _ (k : Scene) (d : TDecl) (i : TInit) (init : ScalarInit k.scope d i) (parts : ExprParts) (block : ℕ) (now : MeaningState) where
  abbrev filler : ℕ → InitParts
  filler depth = record { here = k.here; parts = parts; fill = fill_at k.here parts depth }

  scalar_level : is_scalar_level (out-Ty init.e.ty) ≡ true
  scalar_level = init.scalar

  -- the value is written to the local
  initialised-is : (depth : ℕ) (t : Ty) → t ≡ init.e.ty → initialised k.here parts (suc depth) (object t (start_of block)) i now
      ≡ and_then (value_of parts init.e) (λ v. write k.here init.e.span (object init.e.ty (start_of block)) v) now
  initialised-is depth t same =
      let o : Object = object init.e.ty (start_of block) in
      ap (λ (u : Ty). initialised k.here parts (suc depth) (object u (start_of block)) i now) same
      ∙ ap (λ x. after_zero k.here o (is_list x || is_array init.e.ty) (fill_node (filler depth) o x) now) init.is
      ∙ ap (λ b. after_zero k.here o b (fill_node (filler depth) o (TInit-F.One init.e)) now)
      (not_array (out-Ty init.e.ty) scalar_level)
      ∙ one_filled (filler depth) o init.e (out-Ty init.e.ty) now scalar_level

  -- with no level left below it is not
  initialised-stuck : (t : Ty) → t ≡ init.e.ty → initialised k.here parts zero (object t (start_of block)) i now ≡ stuck now
  initialised-stuck t same =
      let o : Object = object init.e.ty (start_of block) in
      ap (λ (u : Ty). initialised k.here parts zero (object u (start_of block)) i now) same
      ∙ ap (λ x. after_zero k.here o (is_list x || is_array init.e.ty) stuck now) init.is
      ∙ ap (λ b. after_zero k.here o b stuck now) (not_array (out-Ty init.e.ty) scalar_level)

-- the call that runs is one of the function
info_here : {k : Scene} {now : MeaningState} {s : State} → IsScene k → Relates (given_in k) k.here now s → (c : Call) →
    latest k.here.open_calls ≡ Some c → (local : ℕ) (info : LocalInfo) → slice_get k.scope.function.locals local ≡ Some info →
    local_info k.here c local ≡ Some info
info_here {k} scene relates c latest_is local info there =
    let same : c ≡ scene.inside.0 = some_same (sym latest_is ∙ scene.inside.1) in
    ap (λ p. local_in (function_named p.units c.function) local) relates.injects.stands.program_is
    ∙ ap (λ (x : Call). local_in (function_named (units_of (given_in k)) x.function) local) same
    ∙ ap (λ f. local_in (function_named (units_of (given_in k)) f) local) scene.inside.2
    ∙ ap (λ o. local_in o local) scene.of_scope.function_is
    ∙ there

-- ---- the store

pub never : {X : Type 0} → false ≡ true → X
never is = absurd (cc)

puts_same : {r : Reg} {value : ℕ} {s t : State} → r.0 < 28 → Puts r value s t → SameMachine s t
puts_same low puts = record {
  injected = record {
    sp = puts.same.sp;
    base = puts.registers 28 (λ same. omega (arith, low, same));
    byte = puts.same.byte;
    tag = puts.tags;
    regions = puts.same.regions;
    guard = puts.same.guard;
    choices = puts.same.choices;
    drawn = puts.same.drawn;
  };
  outside = puts.same.outside;
}

-- an address by another name
Lies-at : {k : Scene} {code : Items} {from to end : ℕ} → to ≡ end → Lies k code from to → Lies k code from end
Lies-at {k} {code} {from} same lies = subst (λ (at : ℕ). Lies k code from at) same lies

-- where it begins, nothing is owed and nothing is to spare
pub starts_on : {k : Scene} {from : ℕ} {now : MeaningState} {s : State} → now.work ≤ k.code.reach → Relates (given_in k) k.here now s →
    s.pc ≡ from → On k 0 result false s from (opened (setting k.code) now.work) 0 0 now s
starts_on within relates at =
    record { came = Came-start relates at; least = omega arith; most = omega arith; within = within }

module _ {k : Scene} (place : IsPlace k) (t : Ty) (scalar : is_scalar t ≡ true) (local number : ℕ) (l : LocalInfo)
    (there : slice_get k.scope.function.locals local ≡ Some l) (type_is : l.ty ≡ t) (named : k.here.local local ≡ Some number) where
  -- the value in the register is written to the local, from SP where that reaches it, and else behind its address
  stored_in : {s : State} {from to : ℕ} {a : Account} {now : MeaningState} {u : State} (o : Option ℕ) →
      reached t (slice_get (frame_in k).slots local) ≡ o → Lies k (store_local local t o result) from to → (span : Span) (v : Value) →
      ValueIs (given_in k) t v now (u.register result.0) → On k 0 result false s from a 0 4 now u →
      Goes k 0 result false Comes-only s to 0 a (write k.here span (object t (start_of number)) v) now u
  stored_in {s} {from} {to} {a} {now} {u} (Some start) reached_is lies span v is on =
      let scene : IsScene k = place.scene in
      let one : HasOne k (store_scalar t (OnStack start) result) from to = Lies-one (store_scalar t (OnStack start) result) lies in
      let p : SlotPlace k t start now u number =
      slot_place scene on.came.comes.relates t start local number l there type_is reached_is named in
      Goes-same (and_then-gives (write k.here span (object t (start_of number)) v) now)
      (Goes-stores {f = gives} scene t scalar 0 p span v result (omega arith)
      (stores_near scene t scalar on.came.comes.relates p result one.has one.to_is) is (omega arith) on (omega arith) (omega arith)
      (λ w registers done. Goes-done tt done (omega arith) tt))
  stored_in {s} {from} {to} {a} {now} {u} None reached_is lies span v is on =
      let scene : IsScene k = place.scene in
      let last = plain (store_scalar t (Behind scratch) result ∷ []) in
      let two = Lies-turn (only (item.SlotAddress local scratch)) (last ∷ []) lies in
      let three = Lies-turn last [] two.back in
      let one : HasOne k (store_scalar t (Behind scratch) result) two.middle three.middle =
      Lies-one (store_scalar t (Behind scratch) result) three.front in
      let address : ActsFrom k (item.SlotAddress local scratch) from two.middle = Lies-only (item.SlotAddress local scratch) two.front in
      let puts : PutsPointer k.code address.spot.to scratch (start_of number) now u =
      address.acts.puts k.here now u number on.came.comes.relates.injects scene.inside (on.came.comes.pc ∙ sym address.from_is) named in
      let walks : Walks k two.middle puts.steps u puts.state =
      record { led = puts.led; pc = puts.pc ∙ address.to_is; same = puts_same (omega arith) puts.puts } in
      Goes-walks puts.steps 1 walks never on (omega arith) (omega (arith, puts.most)) (λ done.
      let p : LocalPlace k t now puts.state number =
      local_place place done.came.comes.relates t local number l there type_is scalar named in
      Goes-same (and_then-gives (write k.here span (object t (start_of number)) v) now)
      (Goes-stores {f = gives} scene t scalar 0 p.place span v result (omega arith)
      (stores_behind scene t scalar done.came.comes.relates p.place scratch result (omega arith)
      (subst (λ n. IsNumber (given_in k) now (start_of number) n) (sym puts.puts.is) puts.number_is) one.has one.to_is)
      (subst (λ n. ValueIs (given_in k) t v now n) (sym (puts.puts.registers result.0 (λ same. omega (arith, same)))) is)
      (omega arith) done (omega arith) (omega arith)
      (λ w registers after. Goes-done tt (On-at (Lies-none three.back) after) (omega arith) tt)))

-- ---- declarations

module _ {k : Scene} (place : IsPlace k) (parts : ExprParts) where
  -- the value, and its store, where a unit of work is owed
  value_goes : {d : TDecl} {i : TInit} {s : State} {from to : ℕ} {a : Account} {spare : ℕ} {now : MeaningState} {t : State} (depth : ℕ)
      (runs : InitRuns k parts d i) (number : ℕ) (ty : Ty) → ty ≡ runs.init.e.ty → k.here.local d.local ≡ Some number →
      Lies k (one_init (structs_in k) (frame_in k) d.local runs.init.e) from to → On k 0 result false s from a 1 spare now t → 1 ≤ spare →
      Goes k 0 result false Comes-only s to 0 a (initialised k.here parts depth (object ty (start_of number)) i) now t
  value_goes {d} {i} {now = now} zero runs number ty same named lies owing enough =
      Goes-same {n = stuck} (initialised-stuck k d i runs.init parts number now ty same) Goes-stuck
  value_goes {d} {i} {now = now} {t} (suc depth) runs number ty same named lies owing enough =
      let init : ScalarInit k.scope d i = runs.init in
      let e : TExpr = init.e in
      let store = store_local d.local e.ty (reached e.ty (slice_get (frame_in k).slots d.local)) result in
      let one = Lies-turn (plain (Nop ∷ [])) (value (structs_in k) (frame_in k) e ∷ store ∷ []) lies in
      let two = Lies-turn (value (structs_in k) (frame_in k) e) (store ∷ []) one.back in
      let three = Lies-turn store [] two.back in
      Goes-same (initialised-is k d i init parts number now depth ty same)
      (Goes-list {most = 1} 0 (Lies-plain (Nop ∷ []) one.front) (record { quiet = refl; few = omega arith })
      (λ w same near. nop-computes result (t.register result.0) w (ap (λ g. g result.0) same) (omega (arith, near)))
      (Suits-other result result all (omega arith) tt) owing (omega arith) (omega (arith, enough))
      (λ w m holds others ready.
      Goes-part (runs.runs.yields one.middle two.middle two.front) (omega arith) never (pays-some place.scene) ready
      (λ v then u n came gave.
      stored_in place e.ty init.scalar d.local number init.info init.info_is init.type_is named
      (reached e.ty (slice_get (frame_in k).slots d.local)) refl (Lies-at (Lies-none three.back) three.front) e.span v gave.result_is
      came)))

  -- by what stands behind the name
  pub init_yields : (d : TDecl) (depth : ℕ) (o : Option TInit) → IfSome o (λ i. InitRuns k parts d i) → (from to : ℕ) →
      Lies k (maybe_init (structs_in k) (frame_in k) d.local o) from to →
      Yields k 0 result false Comes-only from to 0 (declared_with k.here parts depth d o)
  init_yields d depth None runs from to lies = record {
    goes = λ now s within relates at. Goes-done tt (On-at (Lies-none lies) (starts_on within relates at)) (omega arith) tt;
  }
  init_yields d depth (Some i) runs from to lies =
      let init : ScalarInit k.scope d i = runs.init in
      let whole : Lies k (one_init (structs_in k) (frame_in k) d.local init.e) from to =
      subst (λ x. Lies k (init_code (structs_in k) (frame_in k) d.local x) from to) init.is lies in
      record {
        goes = λ now s within relates at.
            Goes-unit (starts_on within relates at) (λ owing.
            Goes-some (latest k.here.open_calls) (λ c latest_is. Goes-some (local_info k.here c d.local) (λ l l_is.
            Goes-some (k.here.local d.local) (λ number named.
            let info : l ≡ init.info =
            some_same (sym l_is ∙ info_here place.scene relates c latest_is d.local init.info init.info_is) in
            value_goes depth runs number l.ty (ap (λ (x : LocalInfo). x.ty) info ∙ init.type_is) named whole owing
            (omega (arith, pays place.scene))))));
      }
