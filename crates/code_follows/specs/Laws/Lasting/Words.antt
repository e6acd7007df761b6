-- Runs lead to later states: the words that they are made of (this project's own).
use Rattle.std.specs.Prelude.{◌≡◌, ◌≢◌, ◌⊎◌, ℕ, zero, suc, Bool, true, false, List}
use Rattle.std.specs.Prelude.{[], ◌∷◌, ◌++◌, map, slice_get, slice_set, Option, Some, None, refl}
use Rattle.std.proofs.Common.{ap, sym, inl, inr, append_assoc, append-nil, ◌∙◌}
use Rattle.std.proofs.lemmas.Bool.{cases_eq}
use Rattle.c_ast.specs.declared.token.Span.{Span}
use Rattle.block_meaning.specs.declared.access.Access.{Access}
use Rattle.block_meaning.specs.declared.cell.Cell.{Cell}
use Rattle.block_meaning.specs.declared.reason.Reason.{Reason}
use Rattle.block_meaning.specs.declared.value.Pointer.{Pointer}
use Rattle.block_meaning.specs.Blocks.{Block, changed, with_block, with_cells_in, stored, ended}
use Rattle.block_meaning.specs.Laws.Steady.{state_after}
use Rattle.block_meaning.specs.Running.{Stop, Result, Goes, Stops, Run, gives, stops, goes_on, and_then, one_of, unit_then, choice, stuck}
use Rattle.block_meaning.specs.Running.{with_some, by_blocks, with_blocks, all_of, Context, undefined, State as MeaningState}
use Rattle.code_relation.specs.Laws.Lists.{get_set_same, get_set_other}
use Rattle.code_follows.specs.Later.{StaysAt, AllStay, IsLater, Lasts}

-- ---- blocks

pub stays-same : (blocks : List Block) → AllStay blocks blocks
stays-same blocks = record { stays = λ number b is. record { block = b; is = is; kind_is = refl; size_is = refl } }

stays-then : {before between after : List Block} → AllStay before between → AllStay between after → AllStay before after
stays-then first second = record {
  stays = λ number b is.
      let one = first.stays number b is in
      let two = second.stays number one.block one.is in
      record { block = two.block; is = two.is; kind_is = two.kind_is ∙ one.kind_is; size_is = two.size_is ∙ one.size_is };
}

-- a change of a block that keeps its kind and size
pub record KeepsBlocks (f : Block → Block) : Type 0 where
  pub kind : (b : Block) → (f b).kind ≡ b.kind
  pub size : (b : Block) → (f b).size ≡ b.size

stays-set : (f : Block → Block) → KeepsBlocks f → (blocks : List Block) (at : ℕ) (there : Block) → slice_get blocks at ≡ Some there →
    AllStay blocks (slice_set blocks at (f there))
stays-set f keeps blocks at there is_there = record { stays = λ number b is. by_number number b is (cases_eq number at) }
  where
    here : (number : ℕ) (b : Block) → number ≡ at → slice_get blocks number ≡ Some b → StaysAt number b (slice_set blocks at (f there))
    here number b same is =
        let found : slice_get blocks at ≡ Some b = ap (λ n. slice_get blocks n) (sym same) ∙ is in
        let one : there ≡ b = cc in
        record {
          block = f there;
          is = ap (λ n. slice_get (slice_set blocks at (f there)) n) same ∙ get_set_same blocks at there (f there) is_there;
          kind_is = keeps.kind there ∙ ap (λ (c : Block). c.kind) one;
          size_is = keeps.size there ∙ ap (λ (c : Block). c.size) one;
        }

    by_number : (number : ℕ) (b : Block) → slice_get blocks number ≡ Some b → (number ≡ at) ⊎ (number ≢ at) →
        StaysAt number b (slice_set blocks at (f there))
    by_number number b is (inl same) = here number b same is
    by_number number b is (inr other) = record {
      block = b;
      is = get_set_other blocks at number (f there) (λ s. other (sym s)) ∙ is;
      kind_is = refl;
      size_is = refl;
    }

stays-changed : (f : Block → Block) → KeepsBlocks f → (o : Option Block) (number : ℕ) (blocks : List Block) → slice_get blocks number ≡ o →
    AllStay blocks (changed f o number blocks)
stays-changed f keeps None number blocks is = stays-same blocks
stays-changed f keeps (Some b) number blocks is = stays-set f keeps blocks number b is

pub stays-with_block : (f : Block → Block) → KeepsBlocks f → (number : ℕ) (blocks : List Block) →
    AllStay blocks (with_block number f blocks)
stays-with_block f keeps number blocks = stays-changed f keeps (slice_get blocks number) number blocks refl

pub stays-stored : (p : Pointer) (cells : List Cell) (blocks : List Block) → AllStay blocks (stored p cells blocks)
stays-stored p cells blocks =
    stays-with_block (with_cells_in p.offset cells) (record { kind = λ b. refl; size = λ b. refl }) p.block blocks

pub stays-ended : (number : ℕ) (blocks : List Block) → AllStay blocks (with_block number ended blocks)
stays-ended number blocks = stays-with_block ended (record { kind = λ b. refl; size = λ b. refl }) number blocks

stays-cons : (f : Block → Block) → KeepsBlocks f → (c : Block) (cs : List Block) → AllStay cs (map f cs) →
    (number : ℕ) (b : Block) → slice_get (c ∷ cs) number ≡ Some b → StaysAt number b (f c ∷ map f cs)
stays-cons f keeps c cs rest zero b is =
    let one : c ≡ b = cc in
    record {
      block = f c;
      is = refl;
      kind_is = keeps.kind c ∙ ap (λ (d : Block). d.kind) one;
      size_is = keeps.size c ∙ ap (λ (d : Block). d.size) one;
    }
stays-cons f keeps c cs rest (suc number) b is =
    let there = rest.stays number b is in
    record { block = there.block; is = there.is; kind_is = there.kind_is; size_is = there.size_is }

pub stays-map : (f : Block → Block) → KeepsBlocks f → (blocks : List Block) → AllStay blocks (map f blocks)
stays-map f keeps [] = record { stays = λ number b is. absurd (cc) }
stays-map f keeps (c ∷ cs) =
    let rest = stays-map f keeps cs in record { stays = λ number b is. stays-cons f keeps c cs rest number b is }

-- ---- states

pub later-same : (now : MeaningState) → IsLater now now
later-same now = record { blocks = stays-same now.blocks; new_calls = []; calls_are = sym (append-nil now.calls); input = λ bytes. bytes }

pub later-then : {now between later : MeaningState} → IsLater now between → IsLater between later → IsLater now later
later-then {now} first second = record {
  blocks = stays-then first.blocks second.blocks;
  new_calls = first.new_calls ++ second.new_calls;
  calls_are = second.calls_are
      ∙ ap (λ cs. cs ++ second.new_calls) first.calls_are
      ∙ append_assoc now.calls first.new_calls second.new_calls;
  input = λ bytes. second.input (first.input bytes);
}

-- ---- runs

pub lasts-gives : {A : Type 0} (a : A) → Lasts (gives a)
lasts-gives a = record { leads = λ now. later-same now }

pub lasts-stops : {A : Type 0} (why : Stop) → Lasts (stops {A = A} why)
lasts-stops why = record { leads = λ now. later-same now }

pub lasts-stuck : {A : Type 0} → Lasts (stuck {A = A})
lasts-stuck = record { leads = λ now. later-same now }

pub lasts-undefined : {A : Type 0} (here : Context) (span : Span) (access : Option Access) (why : Reason) →
    Lasts (undefined {A = A} here span access why)
lasts-undefined here span access why = record { leads = λ now. later-same now }

pub lasts-with_blocks : (f : List Block → List Block) → ((blocks : List Block) → AllStay blocks (f blocks)) → Lasts (with_blocks f)
lasts-with_blocks f each = record {
  leads = λ now. record { blocks = each now.blocks; new_calls = []; calls_are = sym (append-nil now.calls); input = λ bytes. bytes };
}

goes_later : {A B : Type 0} {f : A → Run B} → ((a : A) → Lasts (f a)) → (now : MeaningState) (r : Result A) →
    IsLater now (state_after r) → IsLater now (state_after (goes_on r f))
goes_later each now (Goes a between) first = later-then first ((each a).leads between)
goes_later each now (Stops why between) first = first

pub lasts-then : {A B : Type 0} {m : Run A} {f : A → Run B} → Lasts m → ((a : A) → Lasts (f a)) → Lasts (and_then m f)
lasts-then {m = m} first each = record { leads = λ now. goes_later each now (m now) (first.leads now) }

one_later : {A : Type 0} {m : Run A} → Lasts m → (work : ℕ) (now : MeaningState) → IsLater now (state_after (one_of work m now))
one_later lasts zero now = later-same now
one_later lasts (suc rest) now =
    let later = lasts.leads (record now { work = rest }) in
    record { blocks = later.blocks; new_calls = later.new_calls; calls_are = later.calls_are; input = later.input }

pub lasts-unit : {A : Type 0} {m : Run A} → Lasts m → Lasts (unit_then m)
lasts-unit lasts = record { leads = λ now. one_later lasts now.work now }

pub lasts-choice : {A : Type 0} {m n : Run A} (b : Bool) → Lasts m → Lasts n → Lasts (choice b m n)
lasts-choice true holds fails = record { leads = λ now. holds.leads now }
lasts-choice false holds fails = record { leads = λ now. fails.leads now }

pub lasts-some : {A B : Type 0} (a : Option A) {f : A → Run B} → ((a : A) → Lasts (f a)) → Lasts (with_some a f)
lasts-some None each = lasts-stuck
lasts-some (Some a) each = each a

pub lasts-blocks : {A : Type 0} {f : List Block → Run A} → ((blocks : List Block) → Lasts (f blocks)) → Lasts (by_blocks f)
lasts-blocks each = record { leads = λ now. (each now.blocks).leads now }

pub lasts-all : {A B : Type 0} {f : B → Run A} → ((b : B) → Lasts (f b)) → (bs : List B) → Lasts (all_of (map f bs))
lasts-all each [] = lasts-gives []
lasts-all each (b ∷ bs) = lasts-then (each b) (λ a. lasts-then (lasts-all each bs) (λ as'. lasts-gives (a ∷ as')))
