-- Calls keep the blocks that were there (this project's own).
use Rattle.std.proofs.Common.{◌≡◌, ◌≤◌, ◌<◌, refl, sym, ap, ◌∙◌, leb, ℕ, zero, suc, ◌+◌, arith, List, [], Bool, true, false, length}
use Rattle.std.proofs.Common.{length-append, Option, Some, None}
use Rattle.std.proofs.Common.{◌∷◌, take}
use Rattle.std.specs.Prelude.{nat_eq, if◌then◌else◌, slice_get}
use Rattle.std.proofs.lemmas.Bool.Decides.{nat_tests}
use Rattle.std.proofs.lemmas.List.{length-map}
use Rattle.block_meaning.specs.declared.kind.Kind.{Kind}
use Rattle.block_meaning.specs.declared.kind.Kind.TheVariants.{Local}
use Rattle.block_meaning.specs.Blocks.{Block, ended}
use Rattle.code_relation.specs.Laws.Changing.{SameBlock-same}
use Rattle.unit_follows.specs.Laws.Spares.Runs.{Moment, IsStill, SparesTo, Spares, KeepsBlocks, kept-itself, spares-gives, spares-deep}
use Rattle.unit_follows.specs.Laws.Spares.Runs.{spares-stuck, spares-then, spares-then_to, spares-choice, spares-some, spares-some_to}
use Rattle.unit_follows.specs.Laws.Spares.Runs.{spares-blocks_by}
use Rattle.c_type_base.specs.declared.statement.TItem.TheOpen.{TStmt-F}
use Rattle.c_type_base.specs.declared.statement.TStmt.{out-TStmt}
use Rattle.c_type_base.specs.declared.typed.TFunction.{TFunction}
use Rattle.c_type_base.specs.declared.typed.LocalInfo.{LocalInfo}
use Rattle.block_meaning.specs.Linkage.{function_named}
use Rattle.block_meaning.specs.Locals.{latest}
use Rattle.block_meaning.specs.Meaning.{open_bytes, new_call, with_arguments, body_node, body_of, call_of, calls_at, frame_bytes}
use Rattle.block_meaning.specs.Meaning.{is_of_call, end_call}
use Rattle.block_meaning.specs.Running.{Function, Call, Context}
use Rattle.block_meaning.specs.Statements.{StmtLayer, StmtParts, declared}
use Rattle.block_meaning.specs.declared.value.Value.{Value}
use Rattle.unit_follows.specs.Laws.Spares.Expressions.{SparesCalls}
use Rattle.unit_follows.specs.Laws.Spares.Locals.{IsAbove, new_block_spares, new_locals_spares}
use Rattle.unit_follows.specs.Laws.Spares.Statements.{SparesStmts, items_spares, statements_spares}

arguments_spares : {mark : Moment} (here : Context) (k : ℕ) (ls : List LocalInfo) (vs : List Value) → IsAbove mark here →
    SparesTo mark (IsAbove mark) (with_arguments here k ls vs)
arguments_spares here k [] [] above = record { spares = λ now since. (kept-itself now, above) }
arguments_spares here k (l ∷ ls) (v ∷ vs) above =
    spares-then_to (spares-some_to (latest here.open_calls) (λ c is. new_block_spares here k c.number _ above refl (above.call c is)))
    (λ inner over. arguments_spares inner (k + 1) ls vs over)
arguments_spares here k _ _ above = spares-stuck

body_node_spares : {mark : Moment} {s : StmtParts} → SparesStmts mark s → (here : Context) (body : StmtLayer) → IsAbove mark here →
    Spares mark (body_node s here body)
body_node_spares of here (TStmt-F.Block is) above =
    spares-then_to (new_locals_spares here (declared is) above) (λ inner over. items_spares of inner over is)
body_node_spares of here _ above = spares-stuck

-- the blocks of a later call end
is_of : (call c : ℕ) → nat_eq c call ≡ true → c ≡ call
is_of call c is = grind (arith, nat_tests)

other_kind : (call calls : ℕ) (kind : Kind) → calls ≤ call → ((c k : ℕ) → kind ≡ Local c k → c < calls) → is_of_call call kind ≡ false
other_kind call calls (Local c k) later older = by_test (nat_eq c call) refl
  where
    by_test : (b : Bool) → nat_eq c call ≡ b → nat_eq c call ≡ false
    by_test true is = absurd (omega (arith, later, older c k refl, is_of call c is))
    by_test false is = is
other_kind call calls _ later older = refl

end_still : (call calls : ℕ) (blocks : List Block) (number : ℕ) (b : Block) → calls ≤ call → slice_get blocks number ≡ Some b →
    ((c k : ℕ) → b.kind ≡ Local c k → c < calls) → IsStill (end_call call blocks) number b
end_still call calls [] number b later is older = absurd (cc)
end_still call calls (x ∷ xs) zero b later is older =
    let same : x ≡ b = cc in
    let other : is_of_call call x.kind ≡ false = ap (λ (y : Block). is_of_call call y.kind) same
    ∙ other_kind call calls b.kind later older in
    record {
      block = b;
      is = ap (λ (of : Bool). Some (if of then ended x else x)) other ∙ ap Some same;
      same = SameBlock-same b;
    }
end_still call calls (x ∷ xs) (suc number) b later is older =
    let rest = end_still call calls xs number b later is older in
    record { block = rest.block; is = rest.is; same = rest.same }

kind_kept : (of : Bool) (x : Block) → (if of then ended x else x).kind ≡ x.kind
kind_kept true x = refl
kind_kept false x = refl

end_newer : (call : ℕ) (mark : Moment) (blocks : List Block) (number other k : ℕ) (b : Block) →
    slice_get (end_call call blocks) number ≡ Some b → b.kind ≡ Local other k →
    ((c : Block) → slice_get blocks number ≡ Some c → c.kind ≡ Local other k → mark.calls ≤ other) → mark.calls ≤ other
end_newer call mark [] number other k b is kind h = absurd (cc)
end_newer call mark (x ∷ xs) zero other k b is kind h =
    let same : (if is_of_call call x.kind then ended x else x) ≡ b = cc in
    h x refl (sym (kind_kept (is_of_call call x.kind) x) ∙ ap (λ (y : Block). y.kind) same ∙ kind)
end_newer call mark (x ∷ xs) (suc number) other k b is kind h = end_newer call mark xs number other k b is kind h

end_kept : {mark : Moment} (call : ℕ) → mark.calls ≤ call → KeepsBlocks mark (end_call call)
end_kept {mark} call later = record {
  as_many = λ blocks. length-map blocks (λ (b : Block). (if is_of_call call b.kind then ended b else b));
  each = λ now since number b less is. end_still call mark.calls now.blocks number b later is
      (λ c k kind. since.older number c k b less is kind);
  newer = λ blocks h number other k b more is kind. end_newer call mark blocks number other k b is kind
      (λ c there same. h number other k c more there same);
}

body_spares : {mark : Moment} {s : StmtParts} → SparesStmts mark s → (f : TFunction) (vs : List Value) (here : Context) →
    IsAbove mark here → Spares mark (body_of s f vs here)
body_spares of f vs here above = spares-then_to (arguments_spares here 0 (take f.params f.locals) vs above) (λ ready over.
    spares-then (body_node_spares of ready (out-TStmt f.body) over) (λ flow.
    spares-then (spares-some_to (latest here.open_calls) (λ c is. spares-blocks_by (end_kept c.number (above.call c is))))
    (λ _. spares-gives _)))

abbrev number_in_call : ℕ → Option Call → ℕ
number_in_call other None = other
number_in_call other (Some c) = c.number

new_call_spares : {mark : Moment} (here : Context) (f : Function) (place : ℕ) → SparesTo mark (IsAbove mark) (new_call here f place)
new_call_spares here f place = record {
  spares = λ now since. (
    record {
      blocks = omega arith;
      calls = omega (arith, length-append now.calls (record { number = length now.calls; function = f; place = place } ∷ []));
      each = λ number b less is. record { block = b; is = is; same = SameBlock-same b };
      newer = λ h. h;
    },
    record {
      locals = λ k number is. absurd (cc);
      call = λ c is. let e : length now.calls ≡ c.number = ap (number_in_call 0) is in omega (arith, since.calls, e);
    },
  );
}

call_of_spares : {mark : Moment} {s : StmtParts} → SparesStmts mark s →
    (here : Context) (f : Function) (vs : List Value) (g : TFunction) (bytes : ℕ) →
    Spares mark (call_of s here f vs g bytes)
call_of_spares of here f vs g bytes = spares-choice (leb (open_bytes here.open_calls + bytes) here.program.stack)
    (spares-then_to (new_call_spares here f (open_bytes here.open_calls + bytes))
    (λ inner over. body_spares of g vs inner over)) spares-deep

pub calls_spares : {mark : Moment} (bound : ℕ) → SparesCalls mark (calls_at bound)
calls_spares zero here f vs = spares-stuck
calls_spares (suc bound) here f vs = spares-some (function_named here.program.units f) (λ g.
    spares-some (frame_bytes here.program f) (λ bytes.
    call_of_spares (statements_spares (calls_spares bound) bound) here f vs g bytes))
