-- Calls are safe where the bound is at least the work that is left and the levels that the bodies of all functions need.
use Rattle.std.proofs.Common.{◌≡◌, refl, sym, subst, ◌∙◌, ℕ, zero, suc, ◌+◌, ◌≤◌, ◌<◌, arith, Bool, true, false, ◌||◌, leb, List, []}
use Rattle.std.proofs.Common.{◌∷◌, ◌++◌, length, take, Option, Some, None, nat_eq}
use Rattle.std.specs.Prelude.{slice_get, if◌then◌else◌}
use Rattle.std.specs.List.{All}
use Rattle.std.proofs.lemmas.List.{length-map}
use Rattle.std.proofs.lemmas.Option.{same_Some}
use Rattle.std.proofs.lemmas.List.Elements.{All-nil, All-cons, All-head, All-tail, All-append, All-map, All-weaker}
use Rattle.c_type_base.specs.declared.ty.Ty.{Ty}
use Rattle.c_type_base.specs.declared.statement.TItem.{TItem}
use Rattle.c_type_base.specs.declared.statement.TItem.TheOpen.{TStmt-F}
use Rattle.c_type_base.specs.declared.statement.TStmt.{out-TStmt}
use Rattle.c_type_base.specs.declared.typed.Typed.{Typed}
use Rattle.c_type_base.specs.declared.typed.LocalInfo.{LocalInfo}
use Rattle.c_type_base.specs.declared.typed.TFunction.{TFunction}
use Rattle.c_type_base.specs.Types.{is_void, is_scalar}
use Rattle.block_meaning.specs.declared.kind.Kind.TheVariants.{Local}
use Rattle.block_meaning.specs.Blocks.{Block, block_of, ended}
use Rattle.block_meaning.specs.Expressions.{Calls}
use Rattle.block_meaning.specs.ProgramsInOrder.{numbered, body_scope, FunctionInOrder, InOrder}
use Rattle.block_meaning.specs.Laws.Progress.Fits.{Fits, ValueWithin, within-more, cells_of-within, missing-fits}
use Rattle.block_meaning.specs.Laws.Progress.Linked.{all_blocks}
use Rattle.block_meaning.specs.Laws.Progress.Locals.{safe-assoc, new_block-safe, with_local-kept, with_local-new}
use Rattle.block_meaning.specs.Laws.Progress.Locals.{HasLocal}
use Rattle.block_meaning.specs.Laws.Progress.Locals.{new_locals-safe}
use Rattle.block_meaning.specs.Laws.Progress.Safe.{CellWithin, BlockWithin, BlocksWithin, Went, further, Safe, Any, safe-gives}
use Rattle.block_meaning.specs.Laws.Progress.Safe.{safe-stops, safe-then, safe-choice, safe-some, Changes, safe-with_blocks}
use Rattle.block_meaning.specs.Laws.Progress.Scenes.{LocalAt, LocalsWithin, inside_of, Passed, SafeCalls, Scene}
use Rattle.block_meaning.specs.Laws.Progress.Statements.{ItemsSafe, items-safe, items-there}
use Rattle.block_meaning.specs.Laws.Progress.Turns.{FlowFits, flow-more}
use Rattle.block_meaning.specs.Linkage.{function_in, function_named, parameter_types, type_of_local}
use Rattle.block_meaning.specs.Meaning.{open_bytes, new_call, new_parameter, with_arguments, is_of_call, end_call, result_of, body_node}
use Rattle.block_meaning.specs.Meaning.{body_of, calls_at}
use Rattle.block_meaning.specs.Running.{Deep, Function, Call, Program, Context, State, Run, gives, and_then, with_blocks}
use Rattle.block_meaning.specs.Statements.{Flow, Returned, StmtParts, declared, items, statements_at}
use Rattle.block_meaning.specs.declared.value.Value.{Value}
use Rattle.block_meaning.specs.declared.value.Value.TheVariants.{Number, Address, Struct, NoValue}
use Rattle.block_meaning.specs.Values.{cells_of}

-- ---- parameters

-- each parameter has a block in what follows, as have the locals before
arguments_safe : {A : Type 0} {n w : ℕ} {P : ℕ → A → Type 0} (f : Context → Run A) (program : Program) (unit : ℕ) (c : Call)
    (opened : List Call) → 0 < n → (k : ℕ) (ls : List LocalInfo) (vs : List Value) → length vs ≡ length ls → All (ValueWithin n) vs →
    (local : ℕ → Option ℕ) (before : List ℕ) → LocalsWithin n local before →
    ((m : ℕ) → n ≤ m → (inner : ℕ → Option ℕ) → LocalsWithin m inner (numbered k ls) → LocalsWithin m inner before →
    Safe m w (f (inside_of program unit (c ∷ opened) inner)) P) →
    Safe n w (and_then (with_arguments (inside_of program unit (c ∷ opened) local) k ls vs) f) P
arguments_safe {n = n} f program unit c opened some k [] [] as_many all local before of_before each =
    let safe = each n (omega arith) local (All-nil (LocalAt n local)) of_before in record { ends = λ now kept. safe.ends now kept }
arguments_safe f program unit c opened some k [] (v ∷ vs) as_many all local before of_before each = absurd (omega (arith, as_many))
arguments_safe f program unit c opened some k (l ∷ ls) [] as_many all local before of_before each = absurd (omega (arith, as_many))
arguments_safe {n = n} f program unit c opened some k (l ∷ ls) (v ∷ vs) as_many all local before of_before each =
    let here = inside_of program unit (c ∷ opened) local in
    let cells = cells_of-within l.ty n v some (All-head (ValueWithin n) v vs all) in
    let next : Context → Run Context = λ inner. with_arguments inner (k + 1) ls vs in
    let rest : Context → Run _ = λ inner. and_then (next inner) f in
    let new : Block = block_of (Local c.number k) (cells_of l.ty v) in
    safe-assoc (new_parameter here k l v) next f (new_block-safe rest here k new cells (λ m more block within.
    let inner : ℕ → Option ℕ = λ j. (if nat_eq j k then Some block else local j) in
    let of_before = with_local-kept n m more local k block within before of_before in
    let of_new = All-cons (LocalAt m inner) k before (with_local-new m local k block within) of_before in
    let of_rest = All-weaker (ValueWithin n) (ValueWithin m) (within-more n m more) vs (All-tail (ValueWithin n) v vs all) in
    arguments_safe f program unit c opened (omega (arith, some, more)) (k + 1) ls vs (omega (arith, as_many)) of_rest inner (k ∷ before)
    of_new
    (λ j further last of_ks of_all. each j (omega (arith, more, further)) last
    (All-cons (LocalAt j last) k (numbered (k + 1) ls) (All-head (LocalAt j last) k before of_all) of_ks)
    (All-tail (LocalAt j last) k before of_all))))

-- ---- the end of a call

ended_or_not : (n call : ℕ) (b : Block) (of_call : Bool) → BlockWithin n b → BlockWithin n (if of_call then ended b else b)
ended_or_not n call b true within = All-nil (CellWithin n)
ended_or_not n call b false within = within

end_changes : (call : ℕ) (blocks : List Block) → BlocksWithin (length blocks) blocks → Changes blocks (end_call call blocks)
end_changes call blocks all =
    let count : ℕ = length blocks in
    let same : length (end_call call blocks) ≡ count = length-map blocks _ in
    let within = All-map (BlockWithin count) (λ (b : Block). (if is_of_call call b.kind then ended b else b)) blocks
    (λ k d less. ended_or_not count call _ (is_of_call call _) (all k d less)) in
    record { longer = omega (arith, same); within = subst (λ n. BlocksWithin n (end_call call blocks)) (sym same) within }

result_fits : (t : Ty) (n : ℕ) (flow : Flow) → 0 < n → (is_void t || is_scalar t) ≡ true → FlowFits t n flow → Fits t n (result_of t flow)
result_fits t n (Returned (Number k)) some is fits = fits
result_fits t n (Returned (Address p)) some is fits = fits
result_fits t n (Returned (Struct p)) some is fits = fits
result_fits t n (Returned NoValue) some is fits = missing-fits t n some is
result_fits t n _ some is fits = missing-fits t n some is

-- ---- bodies

-- a body, with a bound of at least its levels and the work that is left
pub record BodySafe (program : Program) (unit : ℕ) (f : TFunction) (depth : ℕ) : Type 0 where
  pub safe : {n w : ℕ} (calls : Calls) → SafeCalls program w calls → (levels : ℕ) → depth + w ≤ levels → all_blocks program.units ≤ n →
      (c : Call) (opened : List Call) → function_named program.units c.function ≡ Some f → (vs : List Value) →
      Passed (parameter_types f) n vs →
      Safe n w (body_of (statements_at calls levels) f vs (inside_of program unit (c ∷ opened) (λ k. None))) (Fits f.result)

node_safe : {program : Program} {unit : ℕ} {f : TFunction} (is : List TItem)
    (part : ItemsSafe (body_scope program unit f (declared is)) is) → All (HasLocal f) (declared is) →
    {n w : ℕ} (calls : Calls) → SafeCalls program w calls → (levels : ℕ) → part.depth + w ≤ levels →
    all_blocks program.units ≤ n → (c : Call) (opened : List Call) → function_named program.units c.function ≡ Some f →
    (local : ℕ → Option ℕ) → LocalsWithin n local (numbered 0 (take f.params f.locals)) →
    Safe n w (body_node (statements_at calls levels) (inside_of program unit (c ∷ opened) local) (TStmt-F.Block is)) (FlowFits f.result)
node_safe {program = program} {unit = unit} {f = f} is part has {n = n} {w = w} calls of_calls levels deep enough c opened function_is
    local of_params =
    let params = numbered 0 (take f.params f.locals) in
    let scene : Scene (body_scope program unit f []) n w = record {
      calls = calls;
      opened = c ∷ opened;
      local = local;
      call = c;
      call_is = refl;
      function_is = function_is;
      of_locals = of_params;
      of_calls = of_calls;
      enough = enough;
    } in
    let next : Context → Run Flow = λ inner. items (statements_at calls levels) inner is in
    new_locals-safe scene next (declared is) has local params of_params (λ m more inner of_new of_old.
    let body : Scene (body_scope program unit f (declared is)) m w = record {
      calls = calls;
      opened = c ∷ opened;
      local = inner;
      call = c;
      call_is = refl;
      function_is = function_is;
      of_locals = All-append (LocalAt m inner) (declared is) params of_new of_old;
      of_calls = of_calls;
      enough = omega (arith, more, enough);
    } in
    part.safe body levels deep)

-- what follows the parameters in a body
abbrev body_from : StmtParts → TFunction → Call → Context → Run Value
body_from p f c ready = and_then (body_node p ready (out-TStmt f.body)) (λ flow.
    and_then (with_blocks (end_call c.number)) (λ _. gives (result_of f.result flow)))

ended_safe : {n w : ℕ} {m : Run Flow} (t : Ty) (call : ℕ) → 0 < n → (is_void t || is_scalar t) ≡ true → Safe n w m (FlowFits t) →
    Safe n w (and_then m (λ flow. and_then (with_blocks (end_call call)) (λ _. gives (result_of t flow)))) (Fits t)
ended_safe t call some is safe = safe-then safe (λ k more flow fits.
    safe-then (safe-with_blocks (end_call call) (λ blocks so_many all. end_changes call blocks all)) (λ j further a any.
    safe-gives (result_of t flow) (λ i last. result_fits t i flow (omega (arith, some, more, further, last)) is
    (flow-more t k i (omega (arith, further, last)) flow fits))))

pub record BodyNeeds (program : Program) (unit : ℕ) (f : TFunction) : Type 0 where
  pub depth : ℕ
  pub body : (more : ℕ) → depth ≤ more → BodySafe program unit f more

pub function-safe : {program : Program} {unit : ℕ} {f : TFunction} → FunctionInOrder program unit f → BodyNeeds program unit f
function-safe {program = program} {unit = unit} {f = f} d =
    let part = items-safe d.body in
    let has = items-there d.body in record {
      depth = part.depth;
      body = λ more deeper. record {
        safe = λ {n = n} {w = w} calls of_calls levels deep enough c opened function_is vs passed.
            let some : 0 < n = omega (arith, enough) in
            let params = take f.params f.locals in
            let as_many : length vs ≡ length params = passed.as_many ∙ length-map params type_of_local in
            arguments_safe (body_from (statements_at calls levels) f c) program unit c opened some 0 params vs as_many passed.within
            (λ k. None) [] (All-nil (LocalAt n (λ k. None))) (λ m longer inner of_params of_none.
            let here = inside_of program unit (c ∷ opened) inner in
            ended_safe f.result c.number (omega (arith, some, longer)) d.result
            (subst (λ body. Safe m w (body_node (statements_at calls levels) here body) (FlowFits f.result)) (sym d.body_is)
            (node_safe d.items part has calls of_calls levels (omega (arith, deep, deeper)) (omega (arith, enough, longer)) c opened
            function_is inner of_params)));
      };
    }

-- ---- all functions of a program

-- it holds of each number from one on
pub record Eventually (P : ℕ → Type 0) : Type 0 where
  pub enough : ℕ
  pub holds : (e : ℕ) → enough ≤ e → P e

-- of each element of a list
abbrev pub OfEach : {X : Type 0} → (ℕ → ℕ → X → Type 0) → List X → ℕ → Type 0
OfEach {X} P xs e = (k : ℕ) (x : X) → slice_get xs k ≡ Some x → P e k x

both_hold : {X : Type 0} (P : ℕ → ℕ → X → Type 0) (y : X) (xs : List X) (first : Eventually (λ e. P e 0 y))
    (rest : Eventually (OfEach (λ e k. P e (suc k)) xs)) (e : ℕ) → first.enough + rest.enough ≤ e → OfEach P (y ∷ xs) e
both_hold P y xs first rest e le zero x is = subst (P e 0) (same_Some y x is) (first.holds e (omega (arith, le)))
both_hold P y xs first rest e le (suc k) x is = rest.holds e (omega (arith, le)) k x is

-- what holds of each element from some number on holds of all of them from one on
all_at_once : {X : Type 0} (P : ℕ → ℕ → X → Type 0) (xs : List X) →
    ((k : ℕ) (x : X) → slice_get xs k ≡ Some x → Eventually (λ e. P e k x)) → Eventually (OfEach P xs)
all_at_once P [] each = record { enough = 0; holds = λ e le k x is. absurd cc }
all_at_once P (y ∷ xs) each =
    let first = each 0 y refl in
    let rest = all_at_once (λ e k. P e (suc k)) xs (λ k x is. each (suc k) x is) in
    record { enough = first.enough + rest.enough; holds = both_hold P y xs first rest }

-- the levels that all functions need
pub record Needs (program : Program) : Type 0 where
  pub depth : ℕ
  pub bodies : (f : Function) (g : TFunction) → function_named program.units f ≡ Some g → BodySafe program f.unit g depth

module _ (program : Program) (in_order : InOrder program) where
  abbrev FileSafe : ℕ → ℕ → Typed → Type 0
  FileSafe e unit u = OfEach (λ e k f. BodySafe program unit f e) u.functions e

  file_safe : (unit : ℕ) (u : Typed) → slice_get program.units unit ≡ Some u → Eventually (λ e. FileSafe e unit u)
  file_safe unit u is =
      let file = in_order.files unit u is in
      all_at_once (λ e k f. BodySafe program unit f e) u.functions (λ k f there.
      let needs = function-safe (file.functions k f there) in record { enough = needs.depth; holds = needs.body })

  named_safe : (e : ℕ) → OfEach FileSafe program.units e → (f : Function) (g : TFunction) (o : Option Typed) →
      slice_get program.units f.unit ≡ o → function_in o f.number ≡ Some g → BodySafe program f.unit g e
  named_safe e all f g None is there = absurd cc
  named_safe e all f g (Some u) is there = all f.unit u is f.number g there

  pub all-needs : Needs program
  all-needs =
      let all = all_at_once FileSafe program.units file_safe in record {
        depth = all.enough;
        bodies = λ f g is. named_safe all.enough (all.holds all.enough (omega arith)) f g (slice_get program.units f.unit) refl is;
      }

-- ---- calls

new_call_safe : {A : Type 0} {n w : ℕ} {P : ℕ → A → Type 0} (body : Context → Run A) (program : Program) (unit : ℕ) (opened : List Call)
    (local : ℕ → Option ℕ) (f : Function) (place : ℕ) →
    ((number : ℕ) → let c : Call = record { number = number; function = f; place = place } in
    Safe n w (body (inside_of program f.unit (c ∷ opened) (λ k. None))) P) →
    Safe n w (and_then (new_call (inside_of program unit opened local) f place) body) P
new_call_safe {P = P} body program unit opened local f place each = record {
  ends = λ now kept.
      let c : Call = record { number = length now.calls; function = f; place = place } in
      let next : State = record now { calls = now.calls ++ c ∷ [] } in
      let went : Went {A = Unit {0}} Any now tt next =
      record { blocks = omega arith; work = omega arith; within = kept.within; value = tt } in
      further P went (body (inside_of program f.unit (c ∷ opened) (λ k. None)) next)
      ((each (length now.calls)).ends next (record { blocks = kept.blocks; work = kept.work; within = kept.within }));
}

-- a bound of at least the levels that all functions need and the work that is left
pub calls-safe : {program : Program} → InOrder program → (needs : Needs program) (bound w : ℕ) → needs.depth + w ≤ bound →
    SafeCalls program w (calls_at bound)
calls-safe in_order needs zero w deep =
    record { safe = λ less enough unit opened local f g is vs passed. absurd (omega (arith, deep, less)) }
calls-safe {program = program} in_order needs (suc bound) w deep = record {
  safe = λ {n = n} {v = v} less enough unit opened local f g is vs passed.
      let frame = in_order.frames f g is in
      let place : ℕ = open_bytes opened + frame.bytes in
      let below = calls-safe in_order needs bound v (omega (arith, deep, less)) in
      safe-some _ g is (safe-some _ frame.bytes frame.is (safe-choice (leb place program.stack)
      (new_call_safe (body_of (statements_at (calls_at bound) bound) g vs) program unit opened local f place (λ number.
      (needs.bodies f g is).safe (calls_at bound) below bound (omega (arith, deep, less)) enough
      (record { number = number; function = f; place = place }) opened is vs passed))
      (safe-stops Deep tt)));
}
