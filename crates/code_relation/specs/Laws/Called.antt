-- A call is over that has left no block, of a function without tagged slots: the relation holds on with one call more (this project's own).
use Rattle.std.specs.Prelude.{◌≡◌, ℕ, zero, suc, ◌+◌, ◌%◌, ◌≤◌, false, List, [], ◌∷◌, ◌++◌, length, slice_get}
use Rattle.std.specs.Prelude.{slice_index, Option, Some, None, refl, if◌then◌else◌}
use Rattle.std.proofs.Common.{arith, ap, sym, subst, ◌∙◌}
use Rattle.std.proofs.lemmas.List.{take-append-le}
use Rattle.mt_base.specs.Memory.{is_between}
use Rattle.mt_base.specs.Pointers.{with_tag}
use Rattle.mt_base.specs.Tags.{base, slot_tag}
use Rattle.c_type_base.specs.declared.typed.Typed.{Typed}
use Rattle.frame_layout.specs.declared.frame.Slot.{Slot}
use Rattle.frame_layout.specs.WellFormed.{is_tagged_slot}
use Rattle.a64_code.specs.State.{State}
use Rattle.block_meaning.specs.declared.cell.Cell.{Cell}
use Rattle.block_meaning.specs.declared.cell.Cell.TheVariants.{Nothing, Byte, Part}
use Rattle.block_meaning.specs.declared.kind.Kind.{Kind}
use Rattle.block_meaning.specs.declared.kind.Kind.TheVariants.{NullBlock, Global, Text, Code, Local}
use Rattle.block_meaning.specs.declared.value.Pointer.{Pointer}
use Rattle.block_meaning.specs.Blocks.{Block}
use Rattle.block_meaning.specs.Running.{Call, Context, State as MeaningState}
use Rattle.code_relation.specs.Apart.{AreTwo}
use Rattle.code_relation.specs.Bases.{tagged_base_of, HaveBaseWords}
use Rattle.code_relation.specs.Calls.{lowest, has_tagged, drawn_by}
use Rattle.code_relation.specs.Cells.{IsCell}
use Rattle.code_relation.specs.Injects.{Injects}
use Rattle.code_relation.specs.Numbers.{number_at, IsNumber}
use Rattle.code_relation.specs.Sites.{Given, units_of, Lives, site, choice_of, base_of, site_of_slot, slot_in, site_of_local, site_by}
use Rattle.code_relation.specs.Sites.{site_of, is_tagged_local, is_tagged_block, has_byte}
use Rattle.code_relation.specs.Stands.{AreCalls, IsLocal, IsInScope, IsAsOpened, Stands}
use Rattle.code_relation.specs.Laws.Lists.{get_within, InJoined, front, back, get_joined}
use Rattle.code_relation.specs.Laws.Placing.{get_front}

-- the state with one call more
abbrev pub with_call : Call → MeaningState → MeaningState
with_call c now = record now { calls = now.calls ++ c ∷ [] }

drawn_front : (units : List Typed) (cs : List Call) (c : Call) → has_tagged units c.function ≡ false →
    drawn_by units (cs ++ c ∷ []) ≡ drawn_by units cs
drawn_front units [] c none = ap (λ t. (if t then suc 0 else 0)) none
drawn_front units (d ∷ ds) c none =
    ap (λ n. (if has_tagged units d.function then suc n else n)) (drawn_front units ds c none)

choice_front : (g : Given) (calls : List Call) (c d : Call) → d.number ≤ length calls →
    choice_of g (calls ++ c ∷ []) d ≡ choice_of g calls d
choice_front g calls c d within =
    ap (λ cs. slice_index g.loaded.choices ((g.first + drawn_by (units_of g) cs) % length g.loaded.choices))
    (take-append-le d.number calls (c ∷ []) within)

slot_front : (g : Given) (calls : List Call) (c d : Call) (o : Option Slot) → d.number ≤ length calls →
    site_of_slot g (calls ++ c ∷ []) d o ≡ site_of_slot g calls d o
slot_front g calls c d None within = refl
slot_front g calls c d (Some slot) within =
    ap (λ choice. site (lowest d + slot.start) (if is_tagged_slot slot then slot_tag choice slot.index else 0))
    (choice_front g calls c d within)

module _ {g : Given} {here : Context} {now : MeaningState} (c : Call) (stands : Stands g here now) where
  -- a block is where it was, and tagged where it was
  site_called : (number : ℕ) (b : Block) → slice_get now.blocks number ≡ Some b →
      site_of g (with_call c now) number b ≡ site_of g now number b
  site_called number b there = by_kind b.kind refl
    where
      by_kind : (kind : Kind) → b.kind ≡ kind → site_by g (now.calls ++ c ∷ []) kind number ≡ site_by g now.calls kind number
      by_kind NullBlock is = refl
      by_kind (Global unit k) is = refl
      by_kind (Text unit k) is = refl
      by_kind (Code unit k) is = refl
      by_kind (Local call k) is =
          let l : IsLocal g now b call k = stands.locals number b call k there is in
          ap (λ o. site_of_local g (now.calls ++ c ∷ []) o k) (get_front now.calls (c ∷ []) call l.made_by l.call_is)
          ∙ slot_front g now.calls c l.made_by (slot_in g l.made_by k)
          (omega (arith, stands.numbers call l.made_by l.call_is, get_within now.calls call l.made_by l.call_is))
          ∙ sym (ap (λ o. site_of_local g now.calls o k) l.call_is)

  tagged_called : (number : ℕ) (b : Block) → slice_get now.blocks number ≡ Some b →
      is_tagged_block g (now.calls ++ c ∷ []) b.kind ≡ is_tagged_block g now.calls b.kind
  tagged_called number b there = by_kind b.kind refl
    where
      by_kind : (kind : Kind) → b.kind ≡ kind → is_tagged_block g (now.calls ++ c ∷ []) kind ≡ is_tagged_block g now.calls kind
      by_kind NullBlock is = refl
      by_kind (Global unit k) is = refl
      by_kind (Text unit k) is = refl
      by_kind (Code unit k) is = refl
      by_kind (Local call k) is =
          let l : IsLocal g now b call k = stands.locals number b call k there is in
          ap (λ o. is_tagged_local g o k) (get_front now.calls (c ∷ []) call l.made_by l.call_is ∙ sym l.call_is)

  has_byte_called : (number : ℕ) (b : Block) (a : ℕ) → slice_get now.blocks number ≡ Some b →
      has_byte g (with_call c now) number b a ≡ has_byte g now number b a
  has_byte_called number b a there = ap (λ place. is_between place.start b.size a) (site_called number b there)

  lives_back : {number : ℕ} {b : Block} → Lives (with_call c now) number b → Lives now number b
  lives_back lives = record { is = lives.is; live = lives.live }

  lives_on : {number : ℕ} {b : Block} → Lives now number b → Lives (with_call c now) number b
  lives_on lives = record { is = lives.is; live = lives.live }

  two_back : {i j : ℕ} {b d : Block} → AreTwo (with_call c now) i j b d → AreTwo now i j b d
  two_back two = record { different = two.different; first = lives_back two.first; second = lives_back two.second }

  pub IsNumber-called : {p : Pointer} {n : ℕ} → IsNumber g now p n → IsNumber g (with_call c now) p n
  IsNumber-called {p} is = record {
    block = is.block;
    is = is.is;
    fits = is.fits;
    number = is.number ∙ ap (λ place. number_at place p.offset) (sym (site_called p.block is.block is.is));
  }

  IsCell-called : (cell : Cell) (byte : ℕ) → IsCell g now cell byte → IsCell g (with_call c now) cell byte
  IsCell-called Nothing byte is = tt
  IsCell-called (Byte b) byte is = is
  IsCell-called (Part k block offset) byte is =
      record { number = is.number; is = IsNumber-called is.is; byte_is = is.byte_is }

  calls_called : (cs : List Call) → AreCalls (units_of g) now.calls cs → AreCalls (units_of g) (now.calls ++ c ∷ []) cs
  calls_called [] are = tt
  calls_called (d ∷ ds) are = (get_front now.calls (c ∷ []) d.number d are.0, are.1, calls_called ds are.2)

  base_called : (cs : List Call) → AreCalls (units_of g) now.calls cs →
      tagged_base_of g (now.calls ++ c ∷ []) cs ≡ tagged_base_of g now.calls cs
  base_called [] are = refl
  base_called (d ∷ ds) are =
      ap (λ choice. (if has_tagged (units_of g) d.function then with_tag (lowest d) (base choice) else
      tagged_base_of g (now.calls ++ c ∷ []) ds))
      (choice_front g now.calls c d (omega (arith, get_within now.calls d.number d are.0)))
      ∙ ap (λ rest. (if has_tagged (units_of g) d.function then with_tag (lowest d) (base_of g now.calls d) else rest))
      (base_called ds are.2)

  words_called : (s : State) (cs : List Call) → AreCalls (units_of g) now.calls cs → HaveBaseWords g now.calls s cs →
      HaveBaseWords g (now.calls ++ c ∷ []) s cs
  words_called s [] are words = tt
  words_called s (d ∷ ds) are words =
      (λ tagged. words.0 tagged ∙ sym (base_called ds are.2), words_called s ds are.2 words.1)

  Stands-called : c.number ≡ length now.calls → Stands g here (with_call c now)
  Stands-called number_is = record {
    program_is = stands.program_is;
    numbers = λ number d is. numbered number d (get_joined now.calls (c ∷ []) number d is);
    calls = calls_called here.open_calls stands.calls;
    unit_is = stands.unit_is;
    scope = λ k number is. in_scope (stands.scope k number is);
    in_scope = λ d number b k is lives local. stands.in_scope d number b k is (lives_back lives) local;
    null_is = stands.null_is;
    null_alone = stands.null_alone;
    opened = λ number b is. as_opened (stands.opened number b is);
    of_files = stands.of_files;
    locals = λ number b call k is local. of_local (stands.locals number b call k is local);
    cells = λ number b lives. stands.cells number b (lives_back lives);
  }
    where
      of_new : (j : ℕ) (d : Call) → slice_get (c ∷ []) j ≡ Some d → d.number ≡ length now.calls + j
      of_new zero d is = ap (λ x. x.number) (let e : d ≡ c = cc in e) ∙ number_is ∙ omega arith
      of_new (suc j) d is = absurd (cc)

      numbered : (number : ℕ) (d : Call) → InJoined now.calls (c ∷ []) number d → d.number ≡ number
      numbered number d (front is) = stands.numbers number d is
      numbered number d (back j same is) = of_new j d is ∙ sym same

      in_scope : {call : Option Call} {k number : ℕ} → IsInScope now call k number → IsInScope (with_call c now) call k number
      in_scope is =
          record { of = is.of; call_is = is.call_is; block = is.block; lives = lives_on is.lives; kind_is = is.kind_is }

      as_opened : {number : ℕ} {b : Block} → IsAsOpened now number b → IsAsOpened (with_call c now) number b
      as_opened is = record { block = is.block; lives = lives_on is.lives; kind_is = is.kind_is; size_is = is.size_is }

      of_local : {b : Block} {call k : ℕ} → IsLocal g now b call k → IsLocal g (with_call c now) b call k
      of_local {call = call} is = record {
        made_by = is.made_by;
        call_is = get_front now.calls (c ∷ []) call is.made_by is.call_is;
        function = is.function;
        function_is = is.function_is;
        info = is.info;
        info_is = is.info_is;
        size_is = is.size_is;
      }

-- The relation holds on.
pub Injects-called : {g : Given} {here : Context} {now : MeaningState} {s : State} (c : Call) → c.number ≡ length now.calls →
    has_tagged (units_of g) c.function ≡ false → Injects g here now s → Injects g here (with_call c now) s
Injects-called {g} {here} {now} {s} c number_is untagged injects = record {
  loaded = injects.loaded;
  files = injects.files;
  stands = Stands-called c stands number_is;
  in_range = injects.in_range;
  apart = record {
    bytes = λ i j b d two a first second. injects.apart.bytes i j b d (two_back c stands two) a
        (sym (has_byte_called c stands i b a two.first.is) ∙ first) (sym (has_byte_called c stands j d a two.second.is) ∙ second);
    granules = λ i j b d two tagged x y first second. injects.apart.granules i j b d (two_back c stands two)
        (sym (tagged_called c stands i b two.first.is) ∙ tagged) x y
        (sym (has_byte_called c stands i b x two.first.is) ∙ first) (sym (has_byte_called c stands j d y two.second.is) ∙ second);
  };
  frames = record {
    fit = injects.frames.fit;
    owned = λ number b call k lives local. injects.frames.owned number b call k (lives_back c stands lives) local;
    sp = injects.frames.sp;
    in_order = injects.frames.in_order;
    drawn = injects.frames.drawn
        ∙ ap (λ n. (g.first + n) % length g.loaded.choices) (sym (drawn_front (units_of g) now.calls c untagged));
    choices = injects.frames.choices;
  };
  tags = record {
    of_blocks = λ number b lives tagged a has.
        injects.tags.of_blocks number b (lives_back c stands lives) (sym (tagged_called c stands number b lives.is) ∙ tagged) a
        (sym (has_byte_called c stands number b a lives.is) ∙ has)
        ∙ ap (λ place. place.tag) (sym (site_called c stands number b lives.is));
    of_others = λ granule on none. injects.tags.of_others granule on (λ number b lives tagged a has.
        none number b (lives_on c stands lives) (tagged_called c stands number b lives.is ∙ tagged) a
        (has_byte_called c stands number b a lives.is ∙ has));
    outside = injects.tags.outside;
    without_object = injects.tags.without_object;
  };
  as_loaded = injects.as_loaded;
  cells = record {
    cell = λ number b offset cell lives is.
        subst (λ (place : ℕ). IsCell g (with_call c now) cell (s.byte (place + offset)))
        (sym (ap (λ place. place.start) (site_called c stands number b lives.is)))
        (IsCell-called c stands cell (s.byte ((site_of g now number b).start + offset))
        (injects.cells.cell number b offset cell (lives_back c stands lives) is));
  };
  bases = record {
    register_is = injects.bases.register_is ∙ sym (base_called c stands here.open_calls stands.calls);
    words = words_called c stands s here.open_calls stands.calls injects.bases.words;
  };
}
  where
    stands : Stands g here now
    stands = injects.stands
