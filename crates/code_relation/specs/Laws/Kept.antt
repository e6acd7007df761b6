-- The relation holds on where what it speaks of is the same: in the meaning blocks and calls, in the machine memory, SP, X28 and the
-- choices drawn (this project's own).
use Rattle.std.specs.Prelude.{◌≡◌, ℕ, ◌+◌, List, [], ◌∷◌, Option}
use Rattle.std.proofs.Common.{ap, sym, subst, ◌∙◌}
use Rattle.mt_base.specs.Granules.{granule_of}
use Rattle.mt_base.specs.Memory.{load}
use Rattle.a64_code.specs.State.{State}
use Rattle.a64_laws.specs.Laws.Effects.InRange.{IsInRange}
use Rattle.block_meaning.specs.declared.cell.Cell.{Cell}
use Rattle.block_meaning.specs.declared.cell.Cell.TheVariants.{Nothing, Byte, Part}
use Rattle.block_meaning.specs.declared.value.Pointer.{Pointer}
use Rattle.block_meaning.specs.declared.value.Value.{Value}
use Rattle.block_meaning.specs.declared.value.Value.TheVariants.{Number, Address, Struct, NoValue}
use Rattle.block_meaning.specs.Blocks.{Block}
use Rattle.block_meaning.specs.Meaning.{open_bytes}
use Rattle.block_meaning.specs.Running.{Call, Context, State as MeaningState}
use Rattle.tag_plan.specs.Lists.{tagged_base}
use Rattle.code_relation.specs.Apart.{AreTwo}
use Rattle.code_relation.specs.Bases.{HaveBaseWords}
use Rattle.code_relation.specs.Cells.{IsCell}
use Rattle.code_relation.specs.Calls.{lowest}
use Rattle.code_relation.specs.Injects.{Injects}
use Rattle.code_relation.specs.Numbers.{IsNumber, Holds}
use Rattle.code_relation.specs.Sites.{Given, Lives, site_of}
use Rattle.code_relation.specs.Stands.{IsLocal, IsInScope, IsAsOpened, Stands}
use Rattle.code_relation.specs.Tags.{IsAsLoaded}

-- ---- the meaning: work, input and output are another

-- so much work is left, and this input, and this was put
pub record Rest : Type 0 where
  pub work : ℕ
  pub input : List ℕ
  pub output : List ℕ

abbrev pub with_rest : Rest → MeaningState → MeaningState
with_rest r now = record now { work = r.work; input = r.input; output = r.output }

Lives-with : {now : MeaningState} {number : ℕ} {b : Block} (r : Rest) → Lives now number b → Lives (with_rest r now) number b
Lives-with r lives = record { is = lives.is; live = lives.live }

Lives-without : {now : MeaningState} {number : ℕ} {b : Block} (r : Rest) → Lives (with_rest r now) number b → Lives now number b
Lives-without r lives = record { is = lives.is; live = lives.live }

pub IsNumber-with : {g : Given} {now : MeaningState} {p : Pointer} {n : ℕ} (r : Rest) → IsNumber g now p n →
    IsNumber g (with_rest r now) p n
IsNumber-with r is = record { block = is.block; is = is.is; fits = is.fits; number = is.number }

pub Holds-with : (g : Given) (now : MeaningState) (v : Value) (n : ℕ) (r : Rest) → Holds g now v n → Holds g (with_rest r now) v n
Holds-with g now (Number m) n r holds = holds
Holds-with g now (Address p) n r holds = IsNumber-with r holds
Holds-with g now (Struct p) n r holds = IsNumber-with r holds
Holds-with g now NoValue n r holds = tt

AreTwo-without : {now : MeaningState} {i j : ℕ} {b c : Block} (r : Rest) → AreTwo (with_rest r now) i j b c → AreTwo now i j b c
AreTwo-without r two =
    record { different = two.different; first = Lives-without r two.first; second = Lives-without r two.second }

Stands-with : {g : Given} {here : Context} {now : MeaningState} (r : Rest) → Stands g here now → Stands g here (with_rest r now)
Stands-with {g} {now = now} r stands = record {
  program_is = stands.program_is;
  numbers = stands.numbers;
  calls = stands.calls;
  unit_is = stands.unit_is;
  scope = λ k number is. in_scope (stands.scope k number is);
  in_scope = λ c number b k is lives local. stands.in_scope c number b k is (Lives-without r lives) local;
  null_is = stands.null_is;
  null_alone = stands.null_alone;
  opened = λ number b is. as_opened (stands.opened number b is);
  of_files = stands.of_files;
  locals = λ number b call k is local. of_local (stands.locals number b call k is local);
  cells = λ number b lives. stands.cells number b (Lives-without r lives);
}
  where
    in_scope : {call : Option Call} {k number : ℕ} → IsInScope now call k number → IsInScope (with_rest r now) call k number
    in_scope is =
        record { of = is.of; call_is = is.call_is; block = is.block; lives = Lives-with r is.lives; kind_is = is.kind_is }

    as_opened : {number : ℕ} {b : Block} → IsAsOpened now number b → IsAsOpened (with_rest r now) number b
    as_opened is = record { block = is.block; lives = Lives-with r is.lives; kind_is = is.kind_is; size_is = is.size_is }

    of_local : {b : Block} {call k : ℕ} → IsLocal g now b call k → IsLocal g (with_rest r now) b call k
    of_local is = record {
      made_by = is.made_by;
      call_is = is.call_is;
      function = is.function;
      function_is = is.function_is;
      info = is.info;
      info_is = is.info_is;
      size_is = is.size_is;
    }

IsCell-with : (g : Given) (now : MeaningState) (c : Cell) (byte : ℕ) (r : Rest) → IsCell g now c byte →
    IsCell g (with_rest r now) c byte
IsCell-with g now Nothing byte r is = tt
IsCell-with g now (Byte b) byte r is = is
IsCell-with g now (Part k block offset) byte r is = record { number = is.number; is = IsNumber-with r is.is; byte_is = is.byte_is }

-- The relation does not speak of them.
pub Injects-with : {g : Given} {here : Context} {now : MeaningState} {s : State} (r : Rest) → Injects g here now s →
    Injects g here (with_rest r now) s
Injects-with {g} {now = now} r injects = record {
  loaded = injects.loaded;
  files = injects.files;
  stands = Stands-with r injects.stands;
  in_range = injects.in_range;
  apart = record {
    bytes = λ i j b c two. injects.apart.bytes i j b c (AreTwo-without r two);
    granules = λ i j b c two. injects.apart.granules i j b c (AreTwo-without r two);
  };
  frames = record {
    fit = injects.frames.fit;
    owned = λ number b call k lives. injects.frames.owned number b call k (Lives-without r lives);
    sp = injects.frames.sp;
    in_order = injects.frames.in_order;
    drawn = injects.frames.drawn;
    choices = injects.frames.choices;
  };
  tags = record {
    of_blocks = λ number b lives. injects.tags.of_blocks number b (Lives-without r lives);
    of_others = λ granule on none. injects.tags.of_others granule on (λ number b lives. none number b (Lives-with r lives));
    outside = injects.tags.outside;
    without_object = injects.tags.without_object;
  };
  as_loaded = injects.as_loaded;
  cells = record {
    cell = λ number b offset c lives is. IsCell-with g now c _ r (injects.cells.cell number b offset c (Lives-without r lives) is);
  };
  bases = record { register_is = injects.bases.register_is; words = injects.bases.words };
}

-- ---- the machine: registers but X28, flags, PC and the outside are another

-- what the relation speaks of is the same in both states
pub record SameInjected (s t : State) : Type 0 where
  pub sp : t.sp ≡ s.sp
  pub base : t.register tagged_base.0 ≡ s.register tagged_base.0
  pub byte : t.byte ≡ s.byte
  pub tag : t.tag ≡ s.tag
  pub regions : t.regions ≡ s.regions
  pub guard : t.guard ≡ s.guard
  pub choices : t.choices ≡ s.choices
  pub drawn : t.drawn ≡ s.drawn

HaveBaseWords-same : (g : Given) (calls : List Call) (s t : State) (cs : List Call) → t.byte ≡ s.byte → HaveBaseWords g calls s cs →
    HaveBaseWords g calls t cs
HaveBaseWords-same g calls s t [] same words = tt
HaveBaseWords-same g calls s t (c ∷ cs) same words = (
  λ tagged. ap (λ byte. load 8 byte (lowest c + 16)) same ∙ words.0 tagged,
  HaveBaseWords-same g calls s t cs same words.1,
)

pub IsAsLoaded-same : {g : Given} {s t : State} → SameInjected s t → IsAsLoaded g s → IsAsLoaded g t
IsAsLoaded-same same loaded = record {
  regions = same.regions ∙ loaded.regions;
  guard = same.guard ∙ loaded.guard;
  bytes = λ a off none. ap (λ byte. byte a) same.byte ∙ loaded.bytes a off none;
}

pub Injects-same : {g : Given} {here : Context} {now : MeaningState} {s t : State} → SameInjected s t → IsInRange t →
    Injects g here now s →
    Injects g here now t
Injects-same {g} {here} {now} {s} {t} same range injects = record {
  loaded = injects.loaded;
  files = injects.files;
  stands = injects.stands;
  in_range = range;
  apart = injects.apart;
  frames = record {
    fit = injects.frames.fit;
    owned = injects.frames.owned;
    sp = ap (λ sp. sp + open_bytes here.open_calls) same.sp ∙ injects.frames.sp;
    in_order = injects.frames.in_order;
    drawn = same.drawn ∙ injects.frames.drawn;
    choices = same.choices ∙ injects.frames.choices;
  };
  tags = record {
    of_blocks = λ number b lives tagged a has.
        ap (λ tag. tag (granule_of a)) same.tag ∙ injects.tags.of_blocks number b lives tagged a has;
    of_others = λ granule on none. ap (λ tag. tag granule) same.tag ∙ injects.tags.of_others granule on none;
    outside = λ granule off. ap (λ tag. tag granule) same.tag ∙ injects.tags.outside granule off;
    without_object = λ granule off none. ap (λ tag. tag granule) same.tag ∙ injects.tags.without_object granule off none;
  };
  as_loaded = IsAsLoaded-same same injects.as_loaded;
  cells = record {
    cell = λ number b offset c lives is.
        subst (λ (byte : ℕ → ℕ). IsCell g now c (byte ((site_of g now number b).start + offset))) (sym same.byte)
        (injects.cells.cell number b offset c lives is);
  };
  bases = record {
    register_is = same.base ∙ injects.bases.register_is;
    words = HaveBaseWords-same g now.calls s t here.open_calls same.byte injects.bases.words;
  };
}
