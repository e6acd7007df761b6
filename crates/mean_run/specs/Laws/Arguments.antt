-- The parameters of a call, one after another.
use Rattle.std.proofs.Common.{◌≡◌, refl, sym, subst, ap, ◌∙◌, arith, ℕ, ◌+◌, List, [], ◌∷◌, ◌++◌, length, replicate, Option}
use Rattle.std.proofs.Common.{Some, None}
use Rattle.std.proofs.lemmas.List.{take-append-le, length-append}
use Rattle.std.specs.Prelude.{slice_get, slice_set}
use Rattle.c_type_base.specs.declared.typed.LocalInfo.{LocalInfo}
use Rattle.block_meaning.specs.declared.cell.Cell.{Cell}
use Rattle.block_meaning.specs.declared.kind.Kind.TheVariants.{Local}
use Rattle.block_meaning.specs.declared.value.Value.{Value}
use Rattle.block_meaning.specs.Blocks.{Block, block_of}
use Rattle.block_meaning.specs.Locals.{latest, new_block}
use Rattle.block_meaning.specs.Meaning.{inside, new_parameter, with_arguments}
use Rattle.block_meaning.specs.Running.{Function, Call, Context, State, Goes, Stops, Run, and_then, gives, goes_on, with_some}
use Rattle.block_meaning.specs.Running as meaning
use Rattle.block_meaning.specs.Values.{cells_of}
use Rattle.mean_memory.specs.Standing.{IsMemory}
use Rattle.mean_run.specs.declared.entry.Entry.{Entry}
use Rattle.mean_effects.specs.declared.here.Here.{Here}
use Rattle.mean_effects.specs.declared.now.Now.{Now}
use Rattle.mean_run.specs.Calling.{IsEntry, next_call, origin_of}
use Rattle.mean_run.specs.Entering.{Origin, Reached, Passed}
use Rattle.mean_run.specs.Laws.Entering.{call-of, reached-block, on_each, on_both}
use Rattle.mean_run.specs.Laws.Windows.{take-put, window-fresh}
use Rattle.mean_effects.specs.Shown.{IsNow, IsCall, block_at}

parameters_more : (here : Context) (j : ℕ) (ls : List LocalInfo) (vs : List Value) (l : LocalInfo) (v : Value) (now : State) →
    length ls ≡ length vs → with_arguments here j (ls ++ l ∷ []) (vs ++ v ∷ []) now
    ≡ goes_on (with_arguments here j ls vs now) (λ inner. new_parameter inner (j + length ls) l v)
parameters_more here j [] [] l v now same =
    one (new_parameter here j l v now) ∙ ap (λ k. new_parameter here k l v now) (none j) where
      one : (m : meaning.Result Context) → goes_on m (λ inner. gives inner) ≡ m
      one (Goes inner after) = refl
      one (Stops why after) = refl

      none : (j : ℕ) → j ≡ j + 0
      none j = omega arith
parameters_more here j [] (w ∷ vs) l v now same = absurd (omega (arith, same))
parameters_more here j (x ∷ ls) [] l v now same = absurd (omega (arith, same))
parameters_more here j (x ∷ ls) (w ∷ vs) l v now same =
    let m = new_parameter here j x w now in
    let last : ℕ → Context → Run Context = λ k inner. new_parameter inner k l v in
    on_each m (λ inner. with_arguments inner (j + 1) (ls ++ l ∷ []) (vs ++ v ∷ []))
    (λ inner. and_then (with_arguments inner (j + 1) ls vs) (last (j + 1 + length ls)))
    (λ inner after. parameters_more inner (j + 1) ls vs l v after (omega (arith, same)))
    ∙ on_both m (λ inner. with_arguments inner (j + 1) ls vs) (last (j + 1 + length ls))
    ∙ ap (λ k. goes_on (goes_on m (λ inner. with_arguments inner (j + 1) ls vs)) (last k)) (along j ls x) where
      along : (j : ℕ) (ls : List LocalInfo) (x : LocalInfo) → j + 1 + length ls ≡ j + length (x ∷ ls)
      along j ls x = omega arith

one_parameter : (inner : Context) (after : State) (c : Call) (k : ℕ) (l : LocalInfo) (v : Value) → latest inner.open_calls ≡ Some c →
    new_parameter inner k l v after ≡ new_block inner k (block_of (Local c.number k) (cells_of l.ty v)) after
one_parameter inner after c k l v runs =
    ap (λ x. with_some x (λ d. new_block inner k (block_of (Local d.number k) (cells_of l.ty v))) after) runs

-- the code passed one more
pub passed-more : {h : Here} {o : Origin} {n : Now} {locals : List (Option ℕ)} (n' : Now) (k number : ℕ) (cells : List Cell)
    (ls : List LocalInfo) (vs : List Value) (l : LocalInfo) (v : Value) → length ls ≡ k → length vs ≡ k → cells ≡ cells_of l.ty v →
    Passed h o (with_arguments o.here 0 ls vs o.start) n locals → slice_get locals (h.base + k) ≡ Some None →
    ((blocks : List Block) → IsMemory n.memory blocks →
    (number ≡ length blocks) × IsMemory n'.memory (blocks ++ block_of (Local h.call k) cells ∷ [])) →
    n'.work ≡ n.work → n'.calls ≡ n.calls →
    Passed h o (with_arguments o.here 0 (ls ++ l ∷ []) (vs ++ v ∷ []) o.start) n' (slice_set locals (h.base + k) (Some number))
passed-more {h = h} {o = o} {locals = locals} n' k number cells ls vs l v first second filled p at pushed work calls =
    let r = p.reached in
    let c : IsCall h r.inner r.call = call-of h r.inner r.inner.open_calls r.call r.runs r.at.code.runs_in in
    let b : Block = block_of (Local h.call k) cells in
    let done = pushed r.after.blocks r.shown.memory in
    let m = with_arguments o.here 0 ls vs o.start in
    let same : b ≡ block_of (Local r.call.number k) (cells_of l.ty v) =
    ap (λ x. block_of (Local x k) cells) c.number ∙ ap (block_of (Local r.call.number k)) filled in
    let place : 0 + length ls ≡ k = omega (arith, first) in
    let one : goes_on m (λ inner. new_block inner k b)
    ≡ with_arguments o.here 0 (ls ++ l ∷ []) (vs ++ v ∷ []) o.start =
    ap (λ x. goes_on x (λ inner. new_block inner k b)) r.is
    ∙ ap (λ x. new_block r.inner k x r.after) same
    ∙ sym (one_parameter r.inner r.after r.call k l v r.runs)
    ∙ sym (ap (λ x. goes_on x (λ inner. new_parameter inner k l v)) r.is)
    ∙ sym (ap (λ j. goes_on m (λ inner. new_parameter inner j l v)) place)
    ∙ sym (parameters_more o.here 0 ls vs l v o.start (first ∙ sym second)) in
    record {
      reached = subst (λ x. Reached x o.start n' (record { code = h; locals = slice_set locals (h.base + k) (Some number) })) one
          (reached-block n' k number b r at done.0 done.1 work calls);
      kept = take-put h.base k locals (Some number) ∙ p.kept;
    }

-- ---- before the body

-- no parameter yet
pub passed-none : {e : Entry} {here : Context} {f : Function} {n : Now} {now : State} {before : List (Option ℕ)} (n' : Now) (count : ℕ)
    (i : IsEntry e here f n.calls (length before)) → IsNow n now → n'.memory ≡ n.memory → n'.work ≡ n.work → n'.calls ≡ n.calls + 1 →
    let o = origin_of here (next_call here f n.calls i.bytes) before now in
    Passed e.here o (Goes o.here o.start) n' (before ++ replicate count None)
passed-none {e = e} {here = here} {f = f} {n = n} {now = now} {before = before} n' count i shown memory work calls =
    let c = next_call here f n.calls i.bytes in
    record {
      reached = record {
        inner = inside here c;
        after = record now { calls = now.calls ++ c ∷ [] };
        call = c;
        is = refl;
        at = record {
          code = i.code;
          window = record {
            each = λ k. window-fresh before count k
                ∙ sym (ap (λ b. block_at (slice_get (before ++ replicate count None) (b + k))) i.base);
          };
        };
        runs = refl;
        shown = record {
          memory = subst (λ m. IsMemory m now.blocks) (sym memory) shown.memory;
          work = work ∙ shown.work;
          calls = calls ∙ ap (λ x. x + 1) shown.calls ∙ one_more now.calls c;
        };
        quiet = record { input = refl; output = refl };
      };
      kept = take-append-le e.here.base before (replicate count None) (omega (arith, i.base));
    } where
      one_more : (cs : List Call) (c : Call) → length cs + 1 ≡ length (cs ++ c ∷ [])
      one_more cs c = sym (length-append cs (c ∷ []))
