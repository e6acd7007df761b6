-- Runs that leave the blocks that were there at some moment as they are, in kind, size and life (this project's own). So the locals of the
-- calls that were open then are alive still.
use Rattle.std.specs.Prelude.{◌≡◌, ℕ, zero, suc, ◌<◌, ◌≤◌, Bool, true, false, List, [], ◌∷◌, length, map, slice_get}
use Rattle.std.specs.Prelude.{slice_set, Option, Some, None, refl}
use Rattle.std.proofs.Common.{arith, ap, sym, subst, ◌∙◌, inl, inr}
use Rattle.std.proofs.lemmas.Bool.{cases_eq}
use Rattle.std.proofs.lemmas.List.{length-set}
use Rattle.c_ast.specs.declared.token.Span.{Span}
use Rattle.block_meaning.specs.declared.access.Access.{Access}
use Rattle.block_meaning.specs.declared.cell.Cell.{Cell}
use Rattle.block_meaning.specs.declared.kind.Kind.TheVariants.{Local}
use Rattle.block_meaning.specs.declared.reason.Reason.{Reason}
use Rattle.block_meaning.specs.declared.value.Pointer.{Pointer}
use Rattle.block_meaning.specs.Blocks.{Block, with_block, changed, with_cells_in, stored, cells_at}
use Rattle.block_meaning.specs.Memory.{copied}
use Rattle.block_meaning.specs.Running.{State, Result, Goes, Stops, Run, Stop, Divide, Deep, gives, stops, goes_on, and_then, one_of}
use Rattle.block_meaning.specs.Running.{unit_then, choice, stuck, with_some, by_blocks, with_blocks, all_of, Context, undefined}
use Rattle.code_relation.specs.Laws.Changing.{SameBlock, SameBlock-same}
use Rattle.code_relation.specs.Laws.Lists.{get_set_same, get_set_other}

-- so many blocks and so many calls, at that moment
pub record Moment : Type 0 where
  pub blocks : ℕ
  pub calls : ℕ

-- a state then, or after
pub record IsSince (t : Moment) (now : State) : Type 0 where
  pub blocks : t.blocks ≤ length now.blocks
  pub calls : t.calls ≤ length now.calls
  -- the blocks that were there are locals of calls that were made
  pub older : (number call k : ℕ) (b : Block) → number < t.blocks → slice_get now.blocks number ≡ Some b → b.kind ≡ Local call k →
      call < t.calls

-- a block is there, with other cells at most
pub record IsStill (blocks : List Block) (number : ℕ) (b : Block) : Type 0 where
  pub block : Block
  pub is : slice_get blocks number ≡ Some block
  pub same : SameBlock b block

-- so is each that was there at the moment
abbrev pub AreStill : Moment → List Block → List Block → Type 0
AreStill t before after = (number : ℕ) (b : Block) → number < t.blocks → slice_get before number ≡ Some b → IsStill after number b

-- those that came later are locals of later calls
abbrev pub AreNewer : Moment → List Block → Type 0
AreNewer t blocks = (number call k : ℕ) (b : Block) → t.blocks ≤ number → slice_get blocks number ≡ Some b → b.kind ≡ Local call k →
    t.calls ≤ call

pub record IsKept (t : Moment) (now later : State) : Type 0 where
  pub blocks : length now.blocks ≤ length later.blocks
  pub calls : length now.calls ≤ length later.calls
  pub each : AreStill t now.blocks later.blocks
  pub newer : AreNewer t now.blocks → AreNewer t later.blocks

abbrev pub OnGoes : {A : Type 0} → Result A → (A → State → Type 0) → Type 0
OnGoes (Goes a now) P = P a now
OnGoes (Stops why now) P = Unit {0}

-- it keeps them, and its value is such
pub record SparesTo {A : Type 0} (t : Moment) (P : A → Type 0) (m : Run A) : Type 0 where
  pub spares : (now : State) → IsSince t now → OnGoes (m now) (λ a later. IsKept t now later × P a)

abbrev pub any : {A : Type 0} → A → Type 0
any a = Unit {0}

abbrev pub Spares : {A : Type 0} → Moment → Run A → Type 0
Spares t m = SparesTo t any m

-- ---- states

still_then : {blocks after : List Block} {number : ℕ} {b : Block} → ((c : Block) → slice_get blocks number ≡ Some c →
    IsStill after number c) →
    IsStill blocks number b → IsStill after number b
still_then more still =
    let next = more still.block still.is in record {
      block = next.block;
      is = next.is;
      same = record {
        kind = next.same.kind ∙ still.same.kind;
        size = next.same.size ∙ still.same.size;
        live = next.same.live ∙ still.same.live;
      };
    }

pub kept-itself : {t : Moment} (now : State) → IsKept t now now
kept-itself now = record {
  blocks = omega arith;
  calls = omega arith;
  each = λ number b less is. record { block = b; is = is; same = SameBlock-same b };
  newer = λ h. h;
}

pub kept-then : {t : Moment} {r s u : State} → IsKept t r s → IsKept t s u → IsKept t r u
kept-then first second = record {
  blocks = omega (arith, first.blocks, second.blocks);
  calls = omega (arith, first.calls, second.calls);
  each = λ number b less is. still_then (λ c there. second.each number c less there) (first.each number b less is);
  newer = λ h. second.newer (first.newer h);
}

get_below : {A : Type 0} (xs : List A) (k : ℕ) → k < length xs → (x : A) × (slice_get xs k ≡ Some x)
get_below [] k within = absurd (omega (arith, within))
get_below (x ∷ xs) zero within = (x, refl)
get_below (x ∷ xs) (suc k) within = get_below xs k (omega (arith, within))

pub since-kept : {t : Moment} {now later : State} → IsSince t now → IsKept t now later → IsSince t later
since-kept {t} {now} {later} since kept = record {
  blocks = omega (arith, since.blocks, kept.blocks);
  calls = omega (arith, since.calls, kept.calls);
  older = λ number call k b less is kind.
      let found = get_below now.blocks number (omega (arith, less, since.blocks)) in
      let still : IsStill later.blocks number found.0 = kept.each number found.0 less found.1 in
      let same : still.block ≡ b = let e : Some still.block ≡ Some b = sym still.is ∙ is in cc in
      since.older number call k found.0 less found.1 (sym still.same.kind ∙ ap (λ (x : Block). x.kind) same ∙ kind);
}

-- work, input and output are another
pub kept-rest : {t : Moment} {now later : State} → later.blocks ≡ now.blocks → later.calls ≡ now.calls → IsKept t now later
kept-rest {t} {now} {later} blocks calls = record {
  blocks = omega (arith, ap length blocks);
  calls = omega (arith, ap length calls);
  each = λ number b less is. record { block = b; is = ap (λ bs. slice_get bs number) blocks ∙ is; same = SameBlock-same b };
  newer = λ h. subst (AreNewer t) (sym blocks) h;
}

-- ---- runs

pub spares-gives : {A : Type 0} {t : Moment} (a : A) → Spares t (gives a)
spares-gives a = record { spares = λ now since. (kept-itself now, tt) }

pub spares-stops : {A : Type 0} {t : Moment} {P : A → Type 0} (why : Stop) → SparesTo t P (stops {A = A} why)
spares-stops why = record { spares = λ now since. tt }

pub spares-divide : {A : Type 0} {t : Moment} → Spares t (stops {A = A} Divide)
spares-divide = spares-stops Divide

pub spares-deep : {A : Type 0} {t : Moment} → Spares t (stops {A = A} Deep)
spares-deep = spares-stops Deep

pub spares-stuck : {A : Type 0} {t : Moment} {P : A → Type 0} → SparesTo t P (stuck {A = A})
spares-stuck = record { spares = λ now since. tt }

pub spares-undefined : {A : Type 0} {t : Moment} (here : Context) (span : Span) (access : Option Access) (why : Reason) →
    Spares t (undefined {A = A} here span access why)
spares-undefined here span access why = record { spares = λ now since. tt }

-- a change of blocks that keeps those
pub record KeepsBlocks (t : Moment) (f : List Block → List Block) : Type 0 where
  pub as_many : (blocks : List Block) → length (f blocks) ≡ length blocks
  pub each : (now : State) → IsSince t now → AreStill t now.blocks (f now.blocks)
  pub newer : (blocks : List Block) → AreNewer t blocks → AreNewer t (f blocks)

pub spares-blocks_by : {t : Moment} {f : List Block → List Block} → KeepsBlocks t f → Spares t (with_blocks f)
spares-blocks_by keeps = record {
  spares = λ now since. (
    record {
      blocks = omega (arith, keeps.as_many now.blocks);
      calls = omega arith;
      each = λ number b less is. keeps.each now since number b less is;
      newer = keeps.newer now.blocks;
    },
    tt,
  );
}

-- ---- one after another

spares_on : {A B : Type 0} {t : Moment} {P : A → Type 0} {Q : B → Type 0} {f : A → Run B} → ((a : A) → P a → SparesTo t Q (f a)) →
    (now : State) → IsSince t now → (r : Result A) → OnGoes r (λ a later. IsKept t now later × P a) →
    OnGoes (goes_on r f) (λ b later. IsKept t now later × Q b)
spares_on {A} {B} {t} {P} {Q} {f} each now since (Goes a then) first =
    weaker (f a then) ((each a first.1).spares then (since-kept since first.0))
  where
    weaker : (r : Result B) → OnGoes r (λ b later. IsKept t then later × Q b) → OnGoes r (λ b later. IsKept t now later × Q b)
    weaker (Goes b later) second = (kept-then first.0 second.0, second.1)
    weaker (Stops why later) second = tt
spares_on each now since (Stops why then) first = tt

pub spares-then_to : {A B : Type 0} {t : Moment} {P : A → Type 0} {Q : B → Type 0} {m : Run A} {f : A → Run B} → SparesTo t P m →
    ((a : A) → P a → SparesTo t Q (f a)) → SparesTo t Q (and_then m f)
spares-then_to {m = m} first each = record {
  spares = λ now since. spares_on each now since (m now) (first.spares now since);
}

pub spares-then : {A B : Type 0} {t : Moment} {m : Run A} {f : A → Run B} → Spares t m → ((a : A) → Spares t (f a)) →
    Spares t (and_then m f)
spares-then first each = spares-then_to first (λ a _. each a)

one_spares : {A : Type 0} {t : Moment} {m : Run A} → Spares t m → (work : ℕ) (now : State) → IsSince t now →
    OnGoes (one_of work m now) (λ a later. IsKept t now later × any a)
one_spares spares zero now since = tt
one_spares {A} {t} {m} spares (suc rest) now since =
    weaker (m (record now { work = rest })) (spares.spares (record now { work = rest })
    (since-kept since (kept-rest refl refl)))
  where
    weaker : (r : Result A) → OnGoes r (λ a later. IsKept t (record now { work = rest }) later × any a) →
        OnGoes r (λ a later. IsKept t now later × any a)
    weaker (Goes b later) second = (kept-then (kept-rest refl refl) second.0, tt)
    weaker (Stops why later) second = tt

pub spares-unit : {A : Type 0} {t : Moment} {m : Run A} → Spares t m → Spares t (unit_then m)
spares-unit spares = record { spares = λ now since. one_spares spares now.work now since }

pub spares-choice : {A : Type 0} {t : Moment} {m n : Run A} (b : Bool) → Spares t m → Spares t n → Spares t (choice b m n)
spares-choice true holds fails = record { spares = λ now since. holds.spares now since }
spares-choice false holds fails = record { spares = λ now since. fails.spares now since }

pub spares-some_to : {A B : Type 0} {t : Moment} {Q : B → Type 0} (a : Option A) {f : A → Run B} →
    ((x : A) → a ≡ Some x → SparesTo t Q (f x)) → SparesTo t Q (with_some a f)
spares-some_to None each = spares-stuck
spares-some_to (Some a) each = each a refl

pub spares-some : {A B : Type 0} {t : Moment} (a : Option A) {f : A → Run B} → ((a : A) → Spares t (f a)) → Spares t (with_some a f)
spares-some a each = spares-some_to a (λ x is. each x)

pub spares-blocks : {A : Type 0} {t : Moment} {f : List Block → Run A} → ((blocks : List Block) → Spares t (f blocks)) →
    Spares t (by_blocks f)
spares-blocks each = record { spares = λ now since. (each now.blocks).spares now since }

pub spares-all : {A B : Type 0} {t : Moment} {f : B → Run A} → ((b : B) → Spares t (f b)) → (bs : List B) → Spares t (all_of (map f bs))
spares-all each [] = spares-gives []
spares-all each (b ∷ bs) = spares-then (each b) (λ a. spares-then (spares-all each bs) (λ as'. spares-gives (a ∷ as')))

-- ---- changes of blocks

pub keeps-with_block : {t : Moment} (number : ℕ) (f : Block → Block) → ((b : Block) → number < t.blocks → SameBlock b (f b)) →
    ((b : Block) → (f b).kind ≡ b.kind) → KeepsBlocks t (with_block number f)
keeps-with_block {t} number f same kinds = record {
  as_many = λ blocks. count blocks (slice_get blocks number);
  each = λ now since i b less is. still now.blocks (slice_get now.blocks number) refl i b less is;
  newer = λ blocks h. newer_by blocks (slice_get blocks number) refl h;
}
  where
    newer_by : (blocks : List Block) (o : Option Block) → slice_get blocks number ≡ o → AreNewer t blocks →
        AreNewer t (changed f o number blocks)
    newer_by blocks None there h = h
    newer_by blocks (Some c) there h = λ i call k b more is kind. elim (cases_eq number i) [
      | inl here ↦
          let equal : f c ≡ b = let e : Some (f c) ≡ Some b = sym (get_set_same blocks number c (f c) there)
          ∙ ap (λ n. slice_get (slice_set blocks number (f c)) n) here ∙ is in cc in
          h number call k c (omega (arith, here, more)) there (sym (kinds c) ∙ ap (λ (x : Block). x.kind) equal ∙ kind)
      | inr other ↦ h i call k b more (sym (get_set_other blocks number i (f c) other) ∙ is) kind
    ]

    count : (blocks : List Block) (o : Option Block) → length (changed f o number blocks) ≡ length blocks
    count blocks None = refl
    count blocks (Some b) = length-set blocks number (f b)

    still : (blocks : List Block) (o : Option Block) → slice_get blocks number ≡ o → (i : ℕ) (b : Block) → i < t.blocks →
        slice_get blocks i ≡ Some b → IsStill (changed f o number blocks) i b
    still blocks None there i b less is = record { block = b; is = is; same = SameBlock-same b }
    still blocks (Some c) there i b less is = elim (cases_eq number i) [
      | inl here ↦
          let equal : c ≡ b = let e : Some c ≡ Some b = sym there ∙ ap (λ n. slice_get blocks n) here ∙ is in cc in
          record {
            block = f c;
            is = ap (λ n. slice_get (slice_set blocks number (f c)) n) (sym here) ∙ get_set_same blocks number c (f c) there;
            same = subst (λ x. SameBlock x (f c)) equal (same c (omega (arith, here, less)));
          }
      | inr other ↦ record { block = b; is = get_set_other blocks number i (f c) other ∙ is; same = SameBlock-same b }
    ]

-- cells are stored
pub keeps-stored : {t : Moment} (p : Pointer) (cells : List Cell) → KeepsBlocks t (stored p cells)
keeps-stored p cells = keeps-with_block p.block (with_cells_in p.offset cells)
    (λ b less. record { kind = refl; size = refl; live = refl }) (λ b. refl)

pub spares-stored : {t : Moment} (p : Pointer) (cells : List Cell) → Spares t (with_blocks (stored p cells))
spares-stored p cells = spares-blocks_by (keeps-stored p cells)

-- and so are those that stand somewhere else
pub keeps-copied : {t : Moment} (source target : Pointer) (bytes : ℕ) → KeepsBlocks t (copied source target bytes)
keeps-copied source target bytes = record {
  as_many = λ blocks. (keeps-stored {t = nowhen} target (cells_at blocks source bytes)).as_many blocks;
  each = λ now since number b less is. (keeps-stored target (cells_at now.blocks source bytes)).each now since number b less is;
  newer = λ blocks h. (keeps-stored target (cells_at blocks source bytes)).newer blocks h;
}
  where
    nowhen : Moment
    nowhen = record { blocks = 0; calls = 0 }
