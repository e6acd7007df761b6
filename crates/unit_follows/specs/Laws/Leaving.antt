-- A call of a function without tagged slots is over: the blocks of its locals end, its frame goes, and the relation holds for the call
-- around it (this project's own).
use Rattle.std.specs.Prelude.{◌≡◌, ℕ, zero, suc, ◌+◌, ◌<◌, Bool, true, false, ◌||◌, nat_eq}
use Rattle.std.specs.Prelude.{List, [], ◌∷◌, length, slice_get, Option, Some, refl, if◌then◌else◌}
use Rattle.std.proofs.Common.{arith, ap, sym, subst, ◌∙◌, inl, inr}
use Rattle.std.proofs.lemmas.Bool.{cases_lt}
use Rattle.std.proofs.lemmas.Bool.Decides.{nat_tests}
use Rattle.mt_base.specs.Granules.{granule_of}
use Rattle.a64_code.specs.State.{State}
use Rattle.a64_laws.specs.Laws.Effects.InRange.{IsInRange}
use Rattle.block_meaning.specs.declared.kind.Kind.{Kind}
use Rattle.block_meaning.specs.declared.kind.Kind.TheVariants.{Local}
use Rattle.block_meaning.specs.Blocks.{Block, null_block}
use Rattle.block_meaning.specs.Locals.{latest}
use Rattle.block_meaning.specs.Meaning.{open_bytes, is_of_call}
use Rattle.block_meaning.specs.Opening.{opening}
use Rattle.block_meaning.specs.Running.{Call, Context, State as MeaningState}
use Rattle.code_relation.specs.Apart.{AreTwo}
use Rattle.code_relation.specs.Bases.{tagged_base_of, HaveBaseWords}
use Rattle.code_relation.specs.Calls.{frame_of, has_tagged, is_among, LieInOrder}
use Rattle.code_relation.specs.Cells.{IsCell}
use Rattle.code_relation.specs.Injects.{Injects}
use Rattle.code_relation.specs.Sites.{Given, units_of, Lives, site_of, is_of_file, is_tagged_block, is_tagged_local}
use Rattle.code_relation.specs.Stands.{AreCalls, IsLocal, IsInScope, IsAsOpened, WasOpened, Stands}
use Rattle.code_relation.specs.Laws.Framed.{StartFrom, words_above}
use Rattle.code_relation.specs.Laws.Lists.{get_within}
use Rattle.tag_plan.specs.Lists.{tagged_base}
use Rattle.unit_follows.specs.Laws.Entering.{IsNewCall}
use Rattle.unit_follows.specs.Laws.FileBlocks.{opening_of_file}
use Rattle.unit_follows.specs.Laws.Spares.Runs.{IsStill, IsKept, AreNewer}
use Rattle.unit_follows.specs.Laws.Ended.{with_ended, moment, Was, was, becomes, kind_same, size_same, lived, stays}
use Rattle.unit_follows.specs.Laws.Ended.{of_no_call, IsCell-ended, untagged_slot}

-- SP went up by so many bytes, and nothing else is changed that the relation speaks of
pub record IsLeft (bytes : ℕ) (t u : State) : Type 0 where
  pub sp : u.sp ≡ t.sp + bytes
  pub base : u.register tagged_base.0 ≡ t.register tagged_base.0
  pub byte : u.byte ≡ t.byte
  pub tag : u.tag ≡ t.tag
  pub regions : u.regions ≡ t.regions
  pub guard : u.guard ≡ t.guard
  pub choices : u.choices ≡ t.choices
  pub drawn : u.drawn ≡ t.drawn

-- ---- the call around it

-- a block was alive before, and is the same in kind
pub record LivedBefore (now : MeaningState) (number : ℕ) (b : Block) : Type 0 where
  pub block : Block
  pub lives : Lives now number block
  pub kind : b.kind ≡ block.kind

get_below : {A : Type 0} (xs : List A) (k : ℕ) → k < length xs → (x : A) × (slice_get xs k ≡ Some x)
get_below [] k less = absurd (omega (arith, less))
get_below (x ∷ xs) zero less = (x, refl)
get_below (x ∷ xs) (suc k) less = get_below xs k (omega (arith, less))

module _ {g : Given} {here inner : Context} {now done : MeaningState} {s t u : State} (c : Call) (injects : Injects g here now s)
    (new : IsNewCall g here now c) (within : Injects g inner done t) (open_is : inner.open_calls ≡ c ∷ here.open_calls)
    (kept : IsKept (moment now) now (with_ended c done)) (left : IsLeft (frame_of (units_of g) c.function).bytes t u) where
  abbrev last : MeaningState
  last = with_ended c done

  calls_open : AreCalls (units_of g) done.calls (c ∷ here.open_calls)
  calls_open = subst (AreCalls (units_of g) done.calls) open_is within.stands.calls

  -- a block of the call around it, which was alive when the call was made
  in_scope_still : {of : Option Call} (k number : ℕ) → IsInScope now of k number → IsInScope last of k number
  in_scope_still k number is =
      let still : IsStill last.blocks number is.block =
      kept.each number is.block (get_within now.blocks number is.block is.lives.is) is.lives.is in
      record {
        of = is.of;
        call_is = is.call_is;
        block = still.block;
        lives = record { is = still.is; live = still.same.live ∙ is.lives.live };
        kind_is = still.same.kind ∙ is.kind_is;
      }

  -- no block that was there is of a later call
  none_newer : AreNewer (moment now) now.blocks
  none_newer number call k b more there kind = absurd (omega (arith, more, get_within now.blocks number b there))

  -- a live block of a call that was made before was alive when the call was made
  lived_before : (number call k : ℕ) (b : Block) → Lives last number b → b.kind ≡ Local call k → call < length now.calls →
      LivedBefore now number b
  lived_before number call k b lives kind less = elim (cases_lt number (length now.blocks)) [
    | inl early ↦
        let found = get_below now.blocks number early in
        let still : IsStill last.blocks number found.0 = kept.each number found.0 early found.1 in
        let same : still.block ≡ b = let e : Some still.block ≡ Some b = sym still.is ∙ lives.is in cc in
        record {
          block = found.0;
          lives = record { is = found.1; live = sym still.same.live ∙ ap (λ (x : Block). x.live) same ∙ lives.live };
          kind = sym (ap (λ (x : Block). x.kind) same) ∙ still.same.kind;
        }
    | inr late ↦ absurd (omega (arith, less, kept.newer none_newer number call k b late lives.is kind))
  ]

  opened_still : (number : ℕ) (b : Block) → slice_get (opening (units_of g)) number ≡ Some b → IsAsOpened last number b
  opened_still number b is =
      let o : IsAsOpened done number b = within.stands.opened number b is in
      record {
        block = o.block;
        lives = stays c done number o.block o.lives (ap (is_of_call c.number) o.kind_is ∙ of_opening number b is);
        kind_is = o.kind_is;
        size_is = o.size_is;
      }
    where
      of_opening : (number : ℕ) (b : Block) → slice_get (opening (units_of g)) number ≡ Some b → is_of_call c.number b.kind ≡ false
      of_opening zero b is = ap (λ (x : Block). is_of_call c.number x.kind) (let e : b ≡ null_block = cc in e)
      of_opening (suc number) b is =
          of_no_call c.number b.kind (opening_of_file (units_of g) 0 (units_of g) number b is)

  stands_left : Stands g here last
  stands_left = let st = within.stands in record {
    program_is = injects.stands.program_is;
    numbers = st.numbers;
    calls = calls_open.2;
    unit_is = injects.stands.unit_is;
    scope = λ k number is. in_scope_still k number (injects.stands.scope k number is);
    in_scope = λ d number b k is lives kind.
        let b0 : LivedBefore now number b = lived_before number d.number k b lives kind (call_before d is) in
        injects.stands.in_scope d number b0.block k is b0.lives (sym b0.kind ∙ kind);
    null_is = becomes c.number done.blocks 0 null_block st.null_is;
    null_alone = λ number b is kind. let w = was c.number done.blocks number b is in
        st.null_alone number w.block w.is (sym (kind_same (is_of_call c.number w.block.kind) w.block)
        ∙ ap (λ (x : Block). x.kind) w.ended_is ∙ kind);
    opened = opened_still;
    of_files = λ number b is file. let w = was c.number done.blocks number b is in of_file number b w file;
    locals = λ number b call k is kind. let w = was c.number done.blocks number b is in of_local number b call k w kind;
    cells = λ number b lives. st.cells number b (lived c done number b lives).lives;
  }
    where
      call_before : (d : Call) → latest here.open_calls ≡ Some d → d.number < length now.calls
      call_before d is = by_list here.open_calls is injects.stands.calls
        where
          by_list : (cs : List Call) → latest cs ≡ Some d → AreCalls (units_of g) now.calls cs → d.number < length now.calls
          by_list [] none are = absurd (cc)
          by_list (e ∷ es) is are =
              let same : e ≡ d = cc in
              omega (arith, get_within now.calls e.number e are.0, ap (λ (x : Call). x.number) same)

      of_file : (number : ℕ) (b : Block) → Was c.number done.blocks number b → is_of_file b.kind ≡ true → WasOpened g number b
      of_file number b w file =
          let kinds : b.kind ≡ w.block.kind =
          sym (ap (λ (x : Block). x.kind) w.ended_is) ∙ kind_same (is_of_call c.number w.block.kind) w.block in
          let sizes : b.size ≡ w.block.size =
          sym (ap (λ (x : Block). x.size) w.ended_is) ∙ size_same (is_of_call c.number w.block.kind) w.block in
          let before : WasOpened g number w.block = within.stands.of_files number w.block w.is (ap is_of_file (sym kinds) ∙ file) in
          record { before = before.before; is = before.is; kind_is = kinds ∙ before.kind_is; size_is = sizes ∙ before.size_is }

      of_local : (number : ℕ) (b : Block) (call k : ℕ) → Was c.number done.blocks number b → b.kind ≡ Local call k → IsLocal g last b call k
      of_local number b call k w kind =
          let kinds : b.kind ≡ w.block.kind =
          sym (ap (λ (x : Block). x.kind) w.ended_is) ∙ kind_same (is_of_call c.number w.block.kind) w.block in
          let sizes : b.size ≡ w.block.size =
          sym (ap (λ (x : Block). x.size) w.ended_is) ∙ size_same (is_of_call c.number w.block.kind) w.block in
          let l : IsLocal g done w.block call k = within.stands.locals number w.block call k w.is (sym kinds ∙ kind) in
          record {
            made_by = l.made_by;
            call_is = l.call_is;
            function = l.function;
            function_is = l.function_is;
            info = l.info;
            info_is = l.info_is;
            size_is = sizes ∙ l.size_is;
          }

  two_before : {i j : ℕ} {b d : Block} → AreTwo last i j b d → AreTwo done i j b d
  two_before {i} {j} {b} {d} two =
      record { different = two.different; first = (lived c done i b two.first).lives; second = (lived c done j d two.second).lives }

  -- the locals of the call had no tags
  untagged : (call k : ℕ) → is_of_call c.number (Local call k) ≡ true → is_tagged_block g done.calls (Local call k) ≡ false
  untagged call k of =
      let number_is : call ≡ c.number = equal call c.number of in
      ap (λ n. is_tagged_local g (slice_get done.calls n) k) number_is ∙ ap (λ o. is_tagged_local g o k) calls_open.0
      ∙ untagged_slot (frame_of (units_of g) c.function).slots k new.safe
    where
      equal : (m n : ℕ) → nat_eq m n ≡ true → m ≡ n
      equal m n is = grind (arith, nat_tests)

  tagged_other : (b : Block) → is_tagged_block g done.calls b.kind ≡ true → is_of_call c.number b.kind ≡ false
  tagged_other b tagged = by_kind b.kind tagged
    where
      by_test : (call k : ℕ) (of : Bool) → is_of_call c.number (Local call k) ≡ of →
          is_tagged_block g done.calls (Local call k) ≡ true → is_of_call c.number (Local call k) ≡ false
      by_test call k false is tagged = is
      by_test call k true is tagged = absurd (let e : false ≡ true = sym (untagged call k is) ∙ tagged in cc)

      by_kind : (kind : Kind) → is_tagged_block g done.calls kind ≡ true → is_of_call c.number kind ≡ false
      by_kind (Local call k) tagged = by_test call k (is_of_call c.number (Local call k)) refl tagged
      by_kind _ tagged = refl

  among_others : (call k : ℕ) → is_among call (c ∷ here.open_calls) ≡ true → is_of_call c.number (Local call k) ≡ false →
      is_among call here.open_calls ≡ true
  among_others call k among other = second (nat_eq c.number call) (is_among call here.open_calls) (turned other) among
    where
      second : (a b : Bool) → a ≡ false → (a || b) ≡ true → b ≡ true
      second true b none is = absurd (cc)
      second false b none is = is

      turned : nat_eq call c.number ≡ false → nat_eq c.number call ≡ false
      turned other = grind (arith, nat_tests)

  base_left : tagged_base_of g done.calls inner.open_calls ≡ tagged_base_of g done.calls here.open_calls
  base_left = ap (tagged_base_of g done.calls) open_is
      ∙ untagged_base (has_tagged (units_of g) c.function) _ (tagged_base_of g done.calls here.open_calls) new.safe
    where
      untagged_base : (b : Bool) (x y : ℕ) → b ≡ false → (if b then x else y) ≡ y
      untagged_base true x y is = absurd (cc)
      untagged_base false x y is = refl

  words_left : HaveBaseWords g done.calls u here.open_calls
  words_left = words_above {from = 0} {to = 0} g done.calls t u here.open_calls
      (record { below = λ a less. ap (λ byte. byte a) left.byte; above = λ a more. ap (λ byte. byte a) left.byte }) (starts here.open_calls)
      (subst (HaveBaseWords g done.calls t) open_is within.bases.words).1
    where
      starts : (cs : List Call) → StartFrom 0 cs
      starts [] = tt
      starts (d ∷ ds) = (omega arith, starts ds)

  place_now : open_bytes inner.open_calls ≡ c.place
  place_now = ap open_bytes open_is

  order_now : LieInOrder (units_of g) (c ∷ here.open_calls)
  order_now = subst (LieInOrder (units_of g)) open_is within.frames.in_order

  -- ---- the whole

  pub Injects-left : IsInRange u → Injects g here last u
  Injects-left range = record {
    loaded = injects.loaded;
    files = injects.files;
    stands = stands_left;
    in_range = range;
    apart = record {
      bytes = λ i j b d two a first second. within.apart.bytes i j b d (two_before two) a first second;
      granules = λ i j b d two tagged x y first second. within.apart.granules i j b d (two_before two) tagged x y first second;
    };
    frames = record {
      fit = injects.frames.fit;
      owned = λ number b call k lives kind.
          let l = lived c done number b lives in
          among_others call k (ap (is_among call) (sym open_is) ∙ within.frames.owned number b call k l.lives kind)
          (ap (is_of_call c.number) (sym kind) ∙ l.other);
      sp = omega (arith, left.sp, within.frames.sp, place_now, new.place_is);
      in_order = order_now.1;
      drawn = left.drawn ∙ within.frames.drawn;
      choices = left.choices ∙ within.frames.choices;
    };
    tags = record {
      of_blocks = λ number b lives tagged a has.
          ap (λ tag. tag (granule_of a)) left.tag ∙ within.tags.of_blocks number b (lived c done number b lives).lives tagged a has;
      of_others = λ granule on none. ap (λ tag. tag granule) left.tag ∙ within.tags.of_others granule on
          (λ number b lives tagged a has. none number b (stays c done number b lives (tagged_other b tagged)) tagged a has);
      outside = λ granule off. ap (λ tag. tag granule) left.tag ∙ within.tags.outside granule off;
      without_object = λ granule off none. ap (λ tag. tag granule) left.tag ∙ within.tags.without_object granule off none;
    };
    as_loaded = record {
      regions = left.regions ∙ within.as_loaded.regions;
      guard = left.guard ∙ within.as_loaded.guard;
      bytes = λ a off none. ap (λ byte. byte a) left.byte ∙ within.as_loaded.bytes a off none;
    };
    cells = record {
      cell = λ number b offset cell lives is.
          subst (λ byte. IsCell g last cell (byte ((site_of g last number b).start + offset))) (sym left.byte)
          (IsCell-ended g c done cell (t.byte ((site_of g done number b).start + offset))
          (within.cells.cell number b offset cell (lived c done number b lives).lives is));
    };
    bases = record {
      register_is = left.base ∙ within.bases.register_is ∙ base_left;
      words = words_left;
    };
  }
