-- Locals one after another: as they come, and as they go.
use Rattle.std.proofs.Common.{◌≡◌, refl, sym, ap, ◌∙◌, subst, ℕ, zero, suc, ◌+◌, List, [], ◌∷◌, ◌++◌, length}
use Rattle.std.proofs.Common.{Option, Some, None}
use Rattle.std.specs.Prelude.{slice_get, slice_set, nat_eq, if◌then◌else◌}
use Rattle.c_type_base.specs.Sizes.{size}
use Rattle.c_type_base.specs.declared.typed.LocalInfo.{LocalInfo}
use Rattle.block_meaning.specs.declared.kind.Kind.TheVariants.{Local}
use Rattle.block_meaning.specs.Blocks.{Block, fresh, ended, changed, with_block}
use Rattle.block_meaning.specs.Locals.{latest, local_info, with_local, new_block, new_local, new_locals, end_locals}
use Rattle.block_meaning.specs.Memory.{bytes_of}
use Rattle.block_meaning.specs.Running.{Call, Context, State, Goes, Stops, Stuck, Run, and_then, goes_on, with_some, with_blocks}
use Rattle.block_meaning.specs.Running as meaning
use Rattle.mean_memory.specs.Laws.Places.{none_not_some, some_same}
use Rattle.mean_memory.specs.Standing.{IsMemory}
use Rattle.mean_effects.specs.declared.here.Here.{Here}
use Rattle.mean_effects.specs.declared.now.Now.{Now}
use Rattle.mean_run.specs.Entering.{Origin, Reached, Made, Closed}
use Rattle.mean_effects.specs.Laws.Giving.{quiet-through}
use Rattle.mean_run.specs.Laws.Windows.{cleared-set, cleared-opened, cleared-some, window-put}
use Rattle.mean_effects.specs.Shown.{IsCall, RunsIn, block_at}

-- ---- the call that runs

pub call-of : (h : Here) (here : Context) (calls : List Call) (c : Call) → latest calls ≡ Some c → RunsIn h here calls → IsCall h here c
call-of h here [] c is runs = absurd (none_not_some is)
call-of h here (d ∷ ds) c is runs = subst (IsCall h here) (some_same is) runs

-- ---- a new block

abbrev either_block : ℕ → ℕ → ℕ → Option ℕ → Option ℕ
either_block j k number before = (if nat_eq j k then Some number else before)

same_call : (h : Here) (here : Context) (k number : ℕ) (calls : List Call) → RunsIn h here calls → RunsIn h (with_local k number here) calls
same_call h here k number [] runs = runs
same_call h here k number (c ∷ cs) runs = record { number = runs.number; place = runs.place; locals = runs.locals }

-- the code made a block for a number that had none
pub reached-block : {m : meaning.Result Context} {start : State} {n : Now} {h : Here} {locals : List (Option ℕ)} (n' : Now) (k number : ℕ)
    (b : Block) (r : Reached m start n (record { code = h; locals = locals })) → slice_get locals (h.base + k) ≡ Some None →
    number ≡ length r.after.blocks → IsMemory n'.memory (r.after.blocks ++ b ∷ []) → n'.work ≡ n.work → n'.calls ≡ n.calls →
    Reached (goes_on m (λ inner. new_block inner k b)) start n'
    (record { code = h; locals = slice_set locals (h.base + k) (Some number) })
reached-block {m = m} {h = h} {locals = locals} n' k number b r at same memory work calls = record {
  inner = with_local k number r.inner;
  after = record r.after { blocks = r.after.blocks ++ b ∷ [] };
  call = r.call;
  is = ap (λ x. goes_on x (λ inner. new_block inner k b)) r.is
      ∙ ap (λ j. Goes (with_local k j r.inner) (record r.after { blocks = r.after.blocks ++ b ∷ [] })) (sym same);
  at = record {
    code = record {
      program = r.at.code.program;
      stack = r.at.code.stack;
      unit = r.at.code.unit;
      structs = r.at.code.structs;
      runs_in = same_call h r.inner k number r.inner.open_calls r.at.code.runs_in;
    };
    window = record {
      each = λ j. ap (either_block j k number) (r.at.window.each j) ∙ window-put h.base j k number locals at;
    };
  };
  runs = r.runs;
  shown = record { memory = memory; work = work ∙ r.shown.work; calls = calls ∙ r.shown.calls };
  quiet = quiet-through r.quiet (record { input = refl; output = refl });
}

-- ---- locals that come

pub on_each : {A B : Type 0} (m : meaning.Result A) (f g : A → Run B) → ((a : A) (now : State) → f a now ≡ g a now) →
    goes_on m f ≡ goes_on m g
on_each (Goes a now) f g each = each a now
on_each (Stops why now) f g each = refl

pub on_both : {A B C : Type 0} (m : meaning.Result A) (f : A → Run B) (g : B → Run C) →
    goes_on m (λ a. and_then (f a) g) ≡ goes_on (goes_on m f) g
on_both (Goes a now) f g = refl
on_both (Stops why now) f g = refl

new_locals_more : (here : Context) (ks : List ℕ) (k : ℕ) (now : State) →
    new_locals here (ks ++ k ∷ []) now ≡ goes_on (new_locals here ks now) (λ inner. new_locals inner (k ∷ []))
new_locals_more here [] k now = refl
new_locals_more here (j ∷ js) k now =
    let m = with_some (latest here.open_calls) (new_local here j) now in
    let last : Context → Run Context = λ inner. new_locals inner (k ∷ []) in
    on_each m (λ inner. new_locals inner (js ++ k ∷ [])) (λ inner. and_then (new_locals inner js) last)
    (λ inner after. new_locals_more inner js k after)
    ∙ on_both m (λ inner. new_locals inner js) last

one_local : (inner : Context) (after : State) (c : Call) (l : LocalInfo) (k : ℕ) → latest inner.open_calls ≡ Some c →
    local_info inner c k ≡ Some l →
    new_locals inner (k ∷ []) after ≡ new_block inner k (fresh (Local c.number k) (bytes_of inner l.ty)) after
one_local inner after c l k runs at =
    ap (λ x. goes_on (with_some x (new_local inner k) after) (λ i. new_locals i [])) runs
    ∙ ap (λ x. goes_on (with_some x (λ i. new_block inner k (fresh (Local c.number k) (bytes_of inner i.ty))) after)
    (λ i. new_locals i [])) at

-- the code made one more
pub made-more : {h : Here} {o : Origin} {ks : List ℕ} {n : Now} {locals : List (Option ℕ)} (n' : Now) (k number bytes : ℕ) (l : LocalInfo)
    (m : Made h o ks n locals) → slice_get h.locals.now k ≡ Some l → bytes ≡ size h.structs.now l.ty →
    slice_get locals (h.base + k) ≡ Some None → ((blocks : List Block) → IsMemory n.memory blocks →
    (number ≡ length blocks) × IsMemory n'.memory (blocks ++ fresh (Local h.call k) bytes ∷ [])) →
    n'.work ≡ n.work → n'.calls ≡ n.calls → Made h o (ks ++ k ∷ []) n' (slice_set locals (h.base + k) (Some number))
made-more {h = h} {o = o} {ks = ks} {n = n} {locals = locals} n' k number bytes l m info sized at pushed work calls =
    let r = m.reached in
    let c : IsCall h r.inner r.call = call-of h r.inner r.inner.open_calls r.call r.runs r.at.code.runs_in in
    let b : Block = fresh (Local h.call k) bytes in
    let done = pushed r.after.blocks r.shown.memory in
    let last : Context → Run Context = λ inner. new_locals inner (k ∷ []) in
    let same : b ≡ fresh (Local r.call.number k) (bytes_of r.inner l.ty) =
    ap (λ x. fresh (Local x k) bytes) c.number
    ∙ ap (λ x. fresh (Local r.call.number k) x) (sized ∙ ap (λ s. size s l.ty) r.at.code.structs) in
    let one : goes_on (new_locals o.here ks o.start) (λ inner. new_block inner k b) ≡ new_locals o.here (ks ++ k ∷ []) o.start =
    ap (λ x. goes_on x (λ inner. new_block inner k b)) r.is
    ∙ ap (λ x. new_block r.inner k x r.after) same
    ∙ sym (one_local r.inner r.after r.call l k r.runs (c.locals k ∙ info))
    ∙ sym (ap (λ x. goes_on x last) r.is)
    ∙ sym (new_locals_more o.here ks k o.start) in
    record {
      reached = subst (λ x. Reached x o.start n' (record { code = h; locals = slice_set locals (h.base + k) (Some number) })) one
          (reached-block n' k number b r at done.0 done.1 work calls);
      back = cleared-opened h.base ks k number locals at ∙ m.back;
    }

-- ---- locals that go

with_head : (x : Block) (xs : List Block) (n : ℕ) (f : Block → Block) → with_block (suc n) f (x ∷ xs) ≡ x ∷ with_block n f xs
with_head x xs n f = head_by (slice_get xs n) x xs n f where
  head_by : (b : Option Block) (x : Block) (xs : List Block) (n : ℕ) (f : Block → Block) →
      changed f b (suc n) (x ∷ xs) ≡ x ∷ changed f b n xs
  head_by None x xs n f = refl
  head_by (Some b) x xs n f = refl

-- the order does not matter
ended_both : (bs : List Block) (m n : ℕ) → with_block m ended (with_block n ended bs) ≡ with_block n ended (with_block m ended bs)
ended_both [] m n = refl
ended_both (x ∷ xs) zero zero = refl
ended_both (x ∷ xs) zero (suc n) =
    ap (with_block zero ended) (with_head x xs n ended) ∙ sym (with_head (ended x) xs n ended)
ended_both (x ∷ xs) (suc m) zero =
    with_head (ended x) xs m ended ∙ sym (ap (with_block zero ended) (with_head x xs m ended))
ended_both (x ∷ xs) (suc m) (suc n) =
    ap (with_block (suc m) ended) (with_head x xs n ended) ∙ with_head x (with_block n ended xs) m ended
    ∙ ap (λ ys. x ∷ ys) (ended_both xs m n)
    ∙ sym (ap (with_block (suc n) ended) (with_head x xs m ended) ∙ with_head x (with_block m ended xs) n ended)

abbrev without : ℕ → State → State
without b now = record now { blocks = with_block b ended now.blocks }

abbrev Ended : Type 0
Ended = meaning.Result (Unit {0})

stop_goes : (why : meaning.Stop) (a b : State) (x y : Ended) → x ≡ y → x ≡ Stops why a → y ≡ Goes tt b → ⊥
stop_goes why a b x y e stops goes = cc

abbrev state_after : ℕ → meaning.Result (Unit {0}) → meaning.Result (Unit {0})
state_after b (Goes u now) = Goes u (without b now)
state_after b (Stops why now) = Stops why now

abbrev end_after : Context → List ℕ → Option ℕ → State → meaning.Result (Unit {0})
end_after here ks x now = goes_on (with_some x (λ b. with_blocks (with_block b ended)) now) (λ u. end_locals here ks)

abbrev Later : Context → List ℕ → ℕ → Type 0
Later here ks b = (now after : State) → end_locals here ks now ≡ Goes tt after →
    end_locals here ks (without b now) ≡ Goes tt (without b after)

end_by : (here : Context) (ks : List ℕ) (x : Option ℕ) (b : ℕ) (now after : State) → Later here ks b →
    end_after here ks x now ≡ Goes tt after → end_after here ks x (without b now) ≡ Goes tt (without b after)
end_by here ks None b now after later is = absurd (stop_goes Stuck now after (Stops Stuck now) (Goes tt after) is refl refl)
end_by here ks (Some c) b now after later is =
    ap (λ bs. end_locals here ks (record now { blocks = bs })) (ended_both now.blocks c b) ∙ later (without c now) after is

-- one more block may end before or after
end_later : (here : Context) (ks : List ℕ) (b : ℕ) → Later here ks b
end_later here [] b now after is = ap (state_after b) is
end_later here (k ∷ ks) b now after is = end_by here ks (here.local k) b now after (end_later here ks b) is

-- the code ended one more
pub closed-more : {h : Here} {o : Origin} {ks : List ℕ} {n : Now} {locals : List (Option ℕ)} (n' : Now) (k b : ℕ) → Closed h o ks n locals →
    slice_get locals (h.base + k) ≡ Some (Some b) →
    ((blocks : List Block) → IsMemory n.memory blocks → IsMemory n'.memory (with_block b ended blocks)) → n'.work ≡ n.work →
    n'.calls ≡ n.calls → Closed h o (k ∷ ks) n' (slice_set locals (h.base + k) None)
closed-more {h = h} {o = o} {ks = ks} {n = n} {locals = locals} n' k b c at popped work calls =
    let there : o.here.local k ≡ Some b =
    c.window.each k ∙ ap block_at (cleared-some h.base ks o.locals (h.base + k) b
    (ap (λ l. slice_get l (h.base + k)) (sym c.cleared) ∙ at)) in
    record {
      after = without b c.after;
      window = c.window;
      is = ap (λ x. end_after o.here ks x o.start) there ∙ end_later o.here ks b o.start c.after c.is;
      cleared = ap (λ l. slice_set l (h.base + k) None) c.cleared ∙ sym (cleared-set h.base ks o.locals (h.base + k));
      shown = record { memory = popped c.after.blocks c.shown.memory; work = work ∙ c.shown.work; calls = calls ∙ c.shown.calls };
      quiet = record { input = c.quiet.input; output = c.quiet.output };
    }
