-- A function without tagged slots is entered: a call is open, its frame is made below the others, and the relation holds (this project's
-- own).
use Rattle.std.specs.Prelude.{◌≡◌, ℕ, ◌+◌, ◌-◌, ◌<◌, ◌≤◌, Bool, true, false, ◌||◌, nat_eq, nat_lt}
use Rattle.std.specs.Prelude.{List, [], ◌∷◌, ◌++◌, length, slice_get, Some, refl, if◌then◌else◌}
use Rattle.std.proofs.Common.{arith, ap, sym, subst, ◌∙◌}
use Rattle.std.proofs.lemmas.Bool.Decides.{nat_tests}
use Rattle.mt_base.specs.Granules.{granule_of}
use Rattle.mt_base.specs.Memory.{is_between}
use Rattle.a64_code.specs.State.{State}
use Rattle.a64_laws.specs.Laws.Effects.InRange.{IsInRange}
use Rattle.block_meaning.specs.declared.cell.Cell.{Cell}
use Rattle.block_meaning.specs.declared.kind.Kind.{Kind}
use Rattle.block_meaning.specs.declared.kind.Kind.TheVariants.{NullBlock, Global, Text, Code, Local}
use Rattle.block_meaning.specs.Blocks.{Block, null_block}
use Rattle.block_meaning.specs.Meaning.{open_bytes, inside}
use Rattle.block_meaning.specs.ProgramsInOrder.{InOrder}
use Rattle.block_meaning.specs.Running.{Call, Context, State as MeaningState}
use Rattle.code_relation.specs.Bases.{tagged_base_of, HaveBaseWords}
use Rattle.code_relation.specs.Calls.{stack_end, lowest, frame_of, has_tagged, is_among}
use Rattle.code_relation.specs.Cells.{IsCell}
use Rattle.code_relation.specs.Injects.{Injects}
use Rattle.code_relation.specs.Loaded.{on_stack, IsFileBlock}
use Rattle.code_relation.specs.Sites.{Given, units_of, Lives, site_of, site_by, has_byte, is_of_file}
use Rattle.code_relation.specs.Stands.{IsThere, IsLocal, WasOpened, Stands}
use Rattle.code_relation.specs.Laws.Called.{with_call, Injects-called}
use Rattle.code_relation.specs.Laws.Framed.{ChangesWithin, StartFrom, StartFrom-frame, words_above}
use Rattle.code_relation.specs.Laws.Lists.{get_within}
use Rattle.code_relation.specs.Laws.LocalBytes.{InFrame, in_frame}
use Rattle.code_relation.specs.Laws.Untouched.{Among, among_calls, place_within}
use Rattle.tag_plan.specs.Lists.{tagged_base}

-- SP went down by so many bytes, and only bytes between were written
pub record IsEntered (bytes : ℕ) (s t : State) : Type 0 where
  pub sp : t.sp + bytes ≡ s.sp
  pub byte : ChangesWithin t.sp s.sp s t
  pub base : t.register tagged_base.0 ≡ s.register tagged_base.0
  pub tag : t.tag ≡ s.tag
  pub regions : t.regions ≡ s.regions
  pub guard : t.guard ≡ s.guard
  pub choices : t.choices ≡ s.choices
  pub drawn : t.drawn ≡ s.drawn

-- a call of the function, with its frame below those that are open
pub record IsNewCall (g : Given) (here : Context) (now : MeaningState) (c : Call) : Type 0 where
  pub number_is : c.number ≡ length now.calls
  pub place_is : c.place ≡ open_bytes here.open_calls + (frame_of (units_of g) c.function).bytes
  pub fits : c.place ≤ g.program.stack
  pub there : IsThere (units_of g) c.function
  pub safe : has_tagged (units_of g) c.function ≡ false

-- ---- what is not changed

between_is : (start bytes a : ℕ) → is_between start bytes a ≡ true → (start ≤ a) × (a < start + bytes)
between_is start bytes a is = (grind (arith, nat_tests), grind (arith, nat_tests))

off_is : (stack a : ℕ) → is_between (stack_end - stack) stack a ≡ false → stack ≤ stack_end → stack_end ≤ a + stack → stack_end ≤ a
off_is stack a is fits above = grind (arith, nat_tests)

-- nor is a byte off the stack
pub off_kept : {s t : State} (from to stack a : ℕ) → ChangesWithin from to s t → is_between (stack_end - stack) stack a ≡ false →
    stack_end ≤ from + stack → stack ≤ stack_end → to ≤ stack_end → t.byte a ≡ s.byte a
off_kept {s} {t} from to stack a changes off above most below = by_side (nat_lt a from) refl
  where
    less : nat_lt a from ≡ true → a < from
    less is = grind (arith, nat_tests)

    more : nat_lt a from ≡ false → from ≤ a
    more is = grind (arith, nat_tests)

    by_side : (b : Bool) → nat_lt a from ≡ b → t.byte a ≡ s.byte a
    by_side true is = changes.below a (less is)
    by_side false is = changes.above a (omega (arith, off_is stack a off most (omega (arith, more is, above)), below))

-- a live block has no byte below SP, but off the stack
pub block_bytes_kept : {g : Given} {here : Context} {now : MeaningState} {s t : State} (from : ℕ) → InOrder g.program →
    Injects g here now s → ChangesWithin from s.sp s t → stack_end ≤ from + g.program.stack → (number : ℕ) (b : Block) (a : ℕ) →
    Lives now number b → has_byte g now number b a ≡ true → t.byte a ≡ s.byte a
block_bytes_kept {g} {here} {now} {s} {t} from order injects changes above number b a lives has = by_kind b.kind refl
  where
    sp : s.sp + open_bytes here.open_calls ≡ stack_end
    sp = injects.frames.sp

    most : g.program.stack ≤ stack_end
    most = omega (arith, injects.loaded.stack_size.most)

    at_place : (start : ℕ) → (site_of g now number b).start ≡ start → (start ≤ a) × (a < start + b.size)
    at_place start is = between_is start b.size a (ap (λ x. is_between x b.size a) (sym is) ∙ has)

    off_stack : on_stack g a ≡ false → t.byte a ≡ s.byte a
    off_stack off = off_kept from s.sp g.program.stack a changes off above most (omega (arith, sp))

    of_file : is_of_file b.kind ≡ true → site_of g now number b ≡ g.starts number → t.byte a ≡ s.byte a
    of_file is place =
        let was : WasOpened g number b = injects.stands.of_files number b lives.is is in
        let file : IsFileBlock g number was.before = record { is = was.is; of_file = ap is_of_file (sym was.kind_is) ∙ is } in
        off_stack (injects.files.outside number was.before a file
        (ap (λ x. is_between x was.before.size a) (ap (λ y. y.start) (sym place))
        ∙ ap (λ n. is_between (site_of g now number b).start n a) (sym was.size_is) ∙ has))

    by_kind : (kind : Kind) → b.kind ≡ kind → t.byte a ≡ s.byte a
    by_kind NullBlock is =
        let zero_is : number ≡ 0 = injects.stands.null_alone number b lives.is is in
        let null : Some b ≡ Some null_block = sym lives.is ∙ ap (λ n. slice_get now.blocks n) zero_is ∙ injects.stands.null_is in
        let same : b ≡ null_block = cc in
        absurd (let p = at_place (site_of g now number b).start refl in omega (arith, p.0, p.1, ap (λ (x : Block). x.size) same))
    by_kind (Global unit k) is =
        of_file (ap is_of_file is) (ap (λ kind. site_by g now.calls kind number) is)
    by_kind (Text unit k) is = of_file (ap is_of_file is) (ap (λ kind. site_by g now.calls kind number) is)
    by_kind (Code unit k) is = of_file (ap is_of_file is) (ap (λ kind. site_by g now.calls kind number) is)
    by_kind (Local call k) is =
        let at : InFrame injects order number b call k = in_frame injects order number b call k lives.is is in
        let among : Among at.of here.open_calls =
        among_calls (units_of g) now.calls here.open_calls call at.of injects.stands.calls at.of_is
        (injects.frames.owned number b call k lives is) in
        let within : at.of.place ≤ open_bytes here.open_calls =
        place_within (units_of g) at.of here.open_calls injects.frames.in_order among in
        let p = at_place (lowest at.of + at.slot.start) at.start_is in
        changes.above a (omega (arith, p.0, within, sp))

-- ---- the state of the meaning

module _ {g : Given} {here : Context} {now : MeaningState} {s t : State} (c : Call) (order : InOrder g.program)
    (injects : Injects g here now s) (new : IsNewCall g here now c) (entered : IsEntered (frame_of (units_of g) c.function).bytes s t) where
  abbrev called : Injects g here (with_call c now) s
  called = Injects-called c new.number_is new.safe injects

  -- no block is one of the new call
  none_new : (number k : ℕ) (b : Block) → slice_get now.blocks number ≡ Some b → b.kind ≡ Local c.number k → ⊥
  none_new number k b there is =
      let l : IsLocal g now b c.number k = injects.stands.locals number b c.number k there is in
      omega (arith, new.number_is, get_within now.calls c.number l.made_by l.call_is)

  call_there : (calls : List Call) (n : ℕ) → n ≡ length calls → slice_get (calls ++ c ∷ []) n ≡ Some c
  call_there [] n is = ap (λ k. slice_get (c ∷ []) k) is
  call_there (d ∷ ds) n is = ap (λ k. slice_get (d ∷ (ds ++ c ∷ [])) k) is ∙ call_there ds (length ds) refl

  stands_inside : Stands g (inside here c) (with_call c now)
  stands_inside = let st = called.stands in record {
    program_is = st.program_is;
    numbers = st.numbers;
    calls = (call_there now.calls c.number new.number_is, new.there, st.calls);
    unit_is = λ d is. ap (λ (x : Call). x.function.unit) (let e : c ≡ d = cc in e);
    scope = λ k number is. absurd (cc);
    in_scope = λ d number b k is lives kind. absurd (none_new number k b lives.is
        (kind ∙ ap (λ (x : Call). Local x.number k) (let e : d ≡ c = cc in e)));
    null_is = st.null_is;
    null_alone = st.null_alone;
    opened = st.opened;
    of_files = st.of_files;
    locals = st.locals;
    cells = st.cells;
  }

  either : (a b : Bool) → b ≡ true → (a || b) ≡ true
  either true b is = refl
  either false b is = is

  untagged_base : (b : Bool) (x y : ℕ) → b ≡ false → (if b then x else y) ≡ y
  untagged_base true x y is = absurd (cc)
  untagged_base false x y is = refl

  no_tag : {A : Type 0} → has_tagged (units_of g) c.function ≡ true → A
  no_tag is = absurd (let e : true ≡ false = sym is ∙ new.safe in cc)

  sp_is : s.sp + open_bytes here.open_calls ≡ stack_end
  sp_is = injects.frames.sp

  above : stack_end ≤ t.sp + g.program.stack
  above = omega (arith, entered.sp, sp_is, new.place_is, new.fits)

  cell_kept : (number : ℕ) (b : Block) (offset : ℕ) (cell : Cell) → Lives (with_call c now) number b →
      slice_get b.cells offset ≡ Some cell →
      t.byte ((site_of g (with_call c now) number b).start + offset) ≡ s.byte ((site_of g (with_call c now) number b).start + offset)
  cell_kept number b offset cell lives is =
      block_bytes_kept t.sp order called entered.byte above number b ((site_of g (with_call c now) number b).start + offset) lives
      (within (site_of g (with_call c now) number b).start b.size offset
      (omega (arith, get_within b.cells offset cell is, called.stands.cells number b lives)))
    where
      within : (start size k : ℕ) → k < size → is_between start size (start + k) ≡ true
      within start size k less = grind (arith, nat_tests)

  -- ---- the whole

  pub Injects-entered : IsInRange t → Injects g (inside here c) (with_call c now) t
  Injects-entered range = record {
    loaded = injects.loaded;
    files = injects.files;
    stands = stands_inside;
    in_range = range;
    apart = called.apart;
    frames = record {
      fit = new.fits;
      owned = λ number b call k lives is.
          either (nat_eq c.number call) (is_among call here.open_calls) (called.frames.owned number b call k lives is);
      sp = omega (arith, entered.sp, sp_is, new.place_is);
      in_order = (new.place_is, called.frames.in_order);
      drawn = entered.drawn ∙ called.frames.drawn;
      choices = entered.choices ∙ called.frames.choices;
    };
    tags = record {
      of_blocks =
          λ number b lives tagged a has. ap (λ tag. tag (granule_of a)) entered.tag ∙ called.tags.of_blocks number b lives tagged a has;
      of_others = λ granule on none. ap (λ tag. tag granule) entered.tag ∙ called.tags.of_others granule on none;
      outside = λ granule off. ap (λ tag. tag granule) entered.tag ∙ called.tags.outside granule off;
      without_object = λ granule off none. ap (λ tag. tag granule) entered.tag ∙ called.tags.without_object granule off none;
    };
    as_loaded = record {
      regions = entered.regions ∙ injects.as_loaded.regions;
      guard = entered.guard ∙ injects.as_loaded.guard;
      bytes = λ a off none. off_same a off ∙ injects.as_loaded.bytes a off none;
    };
    cells = record {
      cell = λ number b offset cell lives is.
          subst (λ byte. IsCell g (with_call c now) cell byte) (sym (cell_kept number b offset cell lives is))
          (called.cells.cell number b offset cell lives is);
    };
    bases = record {
      register_is = entered.base ∙ called.bases.register_is
          ∙ sym (untagged_base (has_tagged (units_of g) c.function) _ (tagged_base_of g (with_call c now).calls here.open_calls) new.safe);
      words = (no_tag, words_kept);
    };
  }
    where
      off_same : (a : ℕ) → on_stack g a ≡ false → t.byte a ≡ s.byte a
      off_same a off = off_kept t.sp s.sp g.program.stack a entered.byte off above (omega (arith, injects.loaded.stack_size.most))
          (omega (arith, sp_is))

      starts : StartFrom s.sp here.open_calls
      starts = subst (λ to. StartFrom to here.open_calls)
          (omega (arith, sp_is, new.place_is, new.fits, injects.loaded.stack_size.most))
          (StartFrom-frame (units_of g) c here.open_calls (new.place_is, called.frames.in_order)
          (omega (arith, new.fits, injects.loaded.stack_size.most)))

      words_kept : HaveBaseWords g (with_call c now).calls t here.open_calls
      words_kept = words_above g (with_call c now).calls s t here.open_calls entered.byte starts called.bases.words
