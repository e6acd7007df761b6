-- A local of the latest call gets a block, which nothing has written: the relation holds on (this project's own).
use Rattle.std.specs.Prelude.{◌≡◌, ◌≢◌, ℕ, zero, suc, ◌+◌, Bool, true, false, ◌||◌, nat_eq, [], ◌∷◌, ◌++◌, length, slice_get}
use Rattle.std.specs.Prelude.{Some, None, refl}
use Rattle.std.proofs.Common.{arith, ap, sym, subst, ◌∙◌}
use Rattle.std.proofs.lemmas.Bool.{eqb-true}
use Rattle.a64_code.specs.State.{State}
use Rattle.block_meaning.specs.declared.cell.Cell.{Cell}
use Rattle.block_meaning.specs.declared.cell.Cell.TheVariants.{Nothing, Byte, Part}
use Rattle.block_meaning.specs.declared.kind.Kind.TheVariants.{NullBlock, Local}
use Rattle.block_meaning.specs.declared.value.Pointer.{Pointer}
use Rattle.block_meaning.specs.Blocks.{Block}
use Rattle.block_meaning.specs.Locals.{latest, with_local}
use Rattle.block_meaning.specs.ProgramsInOrder.{InOrder}
use Rattle.block_meaning.specs.Running.{Call, Context, State as MeaningState}
use Rattle.code_relation.specs.Apart.{AreTwo, AreApart}
use Rattle.code_relation.specs.Calls.{frame_of, is_among}
use Rattle.code_relation.specs.Cells.{IsCell}
use Rattle.code_relation.specs.Injects.{Injects}
use Rattle.code_relation.specs.Numbers.{IsNumber}
use Rattle.code_relation.specs.Relates.{Relates}
use Rattle.code_relation.specs.Sites.{Given, units_of, Lives, site_of, has_byte, is_of_file, is_tagged_local, is_tagged_block}
use Rattle.code_relation.specs.Stands.{AreCalls, IsLocal, IsInScope, IsAsOpened, WasOpened, Stands}
use Rattle.mt_base.specs.Granules.{granule_of}
use Rattle.code_relation.specs.Laws.Lists.{InJoined, front, back, get_joined}
use Rattle.code_relation.specs.Laws.Placing.{get_front, get_back}
use Rattle.stmt_follows.specs.Laws.Locals.Basics.{if_true, if_false, some_none, eq_same, call_in, number_in}
use Rattle.stmt_follows.specs.Laws.Locals.Apart.{NewLocal, none_tagged, new_apart, new_granules}

-- the state with one block more
abbrev pub with_new : Block → MeaningState → MeaningState
with_new b now = record now { blocks = now.blocks ++ b ∷ [] }

-- the block of a local, in which nothing was written
pub record IsBorn (g : Given) (here : Context) (now : MeaningState) (b : Block) (k : ℕ) : Type 0 where
  pub new : NewLocal g here now (length now.blocks) b k
  pub local : IsLocal g now b new.c.number k
  pub live : b.live ≡ true
  pub whole : length b.cells ≡ b.size
  pub nothing : (offset : ℕ) (c : Cell) → slice_get b.cells offset ≡ Some c → c ≡ Nothing

module _ {g : Given} {here : Context} {now : MeaningState} {s : State} (injects : Injects g here now s) (order : InOrder g.program)
    {b : Block} {k : ℕ} (born : IsBorn g here now b k) where
  -- what is there was there before, or is the new one
  data Was (i : ℕ) (d : Block) : Type 0 where
    old : slice_get now.blocks i ≡ Some d → Was i d
    newest : i ≡ length now.blocks → d ≡ b → Was i d

  was : (i : ℕ) (d : Block) → slice_get (now.blocks ++ b ∷ []) i ≡ Some d → Was i d
  was i d is = by_list (get_joined now.blocks (b ∷ []) i d is)
    where
      by_place : (j : ℕ) → i ≡ length now.blocks + j → slice_get (b ∷ []) j ≡ Some d → Was i d
      by_place zero at is = newest (omega (arith, at)) (let e : d ≡ b = cc in e)
      by_place (suc j) at is = absurd (cc)

      by_list : InJoined now.blocks (b ∷ []) i d → Was i d
      by_list (front is) = old is
      by_list (back j at is) = by_place j at is

  there_new : slice_get (now.blocks ++ b ∷ []) (length now.blocks) ≡ Some b
  there_new = subst (λ (n : ℕ). slice_get (now.blocks ++ b ∷ []) n ≡ Some b) (omega arith) (get_back now.blocks (b ∷ []) 0 b refl)

  there_on : (i : ℕ) (d : Block) → slice_get now.blocks i ≡ Some d → slice_get (now.blocks ++ b ∷ []) i ≡ Some d
  there_on i d is = get_front now.blocks (b ∷ []) i d is

  two_were : {i j : ℕ} {c d : Block} → slice_get now.blocks i ≡ Some c → slice_get now.blocks j ≡ Some d →
      AreTwo (with_new b now) i j c d → AreTwo now i j c d
  two_were first second two = record {
    different = two.different;
    first = record { is = first; live = two.first.live };
    second = record { is = second; live = two.second.live };
  }

  lives_on : {i : ℕ} {d : Block} → Lives now i d → Lives (with_new b now) i d
  lives_on {i} {d} lives = record { is = there_on i d lives.is; live = lives.live }

  number_on : {p : Pointer} {n : ℕ} → IsNumber g now p n → IsNumber g (with_new b now) p n
  number_on {p} is = record { block = is.block; is = there_on p.block is.block is.is; fits = is.fits; number = is.number }

  cell_on : (c : Cell) (byte : ℕ) → IsCell g now c byte → IsCell g (with_new b now) c byte
  cell_on Nothing byte is = tt
  cell_on (Byte n) byte is = is
  cell_on (Part j block offset) byte is = record { number = is.number; is = number_on is.is; byte_is = is.byte_is }

  untagged : is_tagged_block g now.calls b.kind ≡ false
  untagged =
      let calls : AreCalls (units_of g) now.calls (born.new.c ∷ born.new.cs) =
      subst (λ cs. AreCalls (units_of g) now.calls cs) born.new.open_is injects.stands.calls in
      ap (λ kind. is_tagged_block g now.calls kind) born.new.kind_is
      ∙ ap (λ call. is_tagged_local g call k) calls.0
      ∙ none_tagged (frame_of (units_of g) born.new.c.function).slots born.new.safe k

  latest_is : latest here.open_calls ≡ Some born.new.c
  latest_is = ap latest born.new.open_is

  -- ---- the meaning's own state

  local_on : {d : Block} {call j : ℕ} → IsLocal g now d call j → IsLocal g (with_new b now) d call j
  local_on is = record {
    made_by = is.made_by;
    call_is = is.call_is;
    function = is.function;
    function_is = is.function_is;
    info = is.info;
    info_is = is.info_is;
    size_is = is.size_is;
  }

  in_new_scope : (j n : ℕ) → (with_local k (length now.blocks) here).local j ≡ Some n →
      IsInScope (with_new b now) (latest here.open_calls) j n
  in_new_scope j n is = by_number (nat_eq j k) refl
    where
      by_number : (same : Bool) → nat_eq j k ≡ same → IsInScope (with_new b now) (latest here.open_calls) j n
      by_number true equal =
          let found : (with_local k (length now.blocks) here).local j ≡ Some (length now.blocks) =
          if_true (nat_eq j k) (Some (length now.blocks)) (here.local j) equal in
          let n_is : length now.blocks ≡ n = cc in
          let j_is : j ≡ k = eqb-true j k equal in
          record {
            of = born.new.c;
            call_is = latest_is;
            block = b;
            lives = record { is = subst (λ (m : ℕ). slice_get (now.blocks ++ b ∷ []) m ≡ Some b) n_is there_new; live = born.live };
            kind_is = born.new.kind_is ∙ ap (λ (m : ℕ). Local born.new.c.number m) (sym j_is);
          }
      by_number false other =
          let before : here.local j ≡ Some n = sym (if_false (nat_eq j k) (Some (length now.blocks)) (here.local j) other) ∙ is in
          let found : IsInScope now (latest here.open_calls) j n = injects.stands.scope j n before in
          record { of = found.of; call_is = found.call_is; block = found.block; lives = lives_on found.lives; kind_is = found.kind_is }

  old_in_scope : (c : Call) (n : ℕ) (d : Block) (j : ℕ) → latest here.open_calls ≡ Some c → Lives now n d → d.kind ≡ Local c.number j →
      (with_local k (length now.blocks) here).local j ≡ Some n
  old_in_scope c n d j is lives kind_is = by_number (nat_eq j k) refl
    where
      before : here.local j ≡ Some n
      before = injects.stands.in_scope c n d j is lives kind_is

      by_number : (same : Bool) → nat_eq j k ≡ same → (with_local k (length now.blocks) here).local j ≡ Some n
      by_number true equal =
          let none : here.local j ≡ None = ap here.local (eqb-true j k equal) ∙ born.new.none in
          absurd (some_none before none)
      by_number false other = if_false (nat_eq j k) (Some (length now.blocks)) (here.local j) other ∙ before

  new_in_scope : (n : ℕ) (j call : ℕ) → n ≡ length now.blocks → b.kind ≡ Local call j →
      (with_local k (length now.blocks) here).local j ≡ Some n
  new_in_scope n j call n_is kind_is =
      let j_is : j ≡ k = ap number_in (sym kind_is ∙ born.new.kind_is) in
      if_true (nat_eq j k) (Some (length now.blocks)) (here.local j) (ap (λ m. nat_eq m k) j_is ∙ eq_same k) ∙ ap Some (sym n_is)

  Stands-born : Stands g (with_local k (length now.blocks) here) (with_new b now)
  Stands-born = record {
    program_is = injects.stands.program_is;
    numbers = injects.stands.numbers;
    calls = injects.stands.calls;
    unit_is = injects.stands.unit_is;
    scope = λ j n is. in_new_scope j n is;
    in_scope = λ c n d j is lives kind_is. in_scope c n d j is lives kind_is (was n d lives.is);
    null_is = there_on 0 _ injects.stands.null_is;
    null_alone = λ n d is null. null_alone n d null (was n d is);
    opened = λ n d is. opened n d (injects.stands.opened n d is);
    of_files = λ n d is of. of_files n d of (was n d is);
    locals = λ n d call j is kind_is. locals n d call j kind_is (was n d is);
    cells = λ n d lives. cells n d lives (was n d lives.is);
  }
    where
      in_scope : (c : Call) (n : ℕ) (d : Block) (j : ℕ) → latest here.open_calls ≡ Some c → Lives (with_new b now) n d →
          d.kind ≡ Local c.number j → Was n d → (with_local k (length now.blocks) here).local j ≡ Some n
      in_scope c n d j is lives kind_is (old there) = old_in_scope c n d j is (record { is = there; live = lives.live }) kind_is
      in_scope c n d j is lives kind_is (newest at same) = new_in_scope n j c.number at (ap (λ y. y.kind) (sym same) ∙ kind_is)

      null_alone : (n : ℕ) (d : Block) → d.kind ≡ NullBlock → Was n d → n ≡ 0
      null_alone n d null (old there) = injects.stands.null_alone n d there null
      null_alone n d null (newest at same) =
          let kinds : NullBlock ≡ Local born.new.c.number k = sym null ∙ ap (λ y. y.kind) same ∙ born.new.kind_is in
          absurd (cc)

      opened : (n : ℕ) (d : Block) → IsAsOpened now n d → IsAsOpened (with_new b now) n d
      opened n d is = record { block = is.block; lives = lives_on is.lives; kind_is = is.kind_is; size_is = is.size_is }

      of_files : (n : ℕ) (d : Block) → is_of_file d.kind ≡ true → Was n d → WasOpened g n d
      of_files n d of (old there) = injects.stands.of_files n d there of
      of_files n d of (newest at same) =
          let none : false ≡ true = ap is_of_file (sym born.new.kind_is) ∙ ap (λ y. is_of_file y.kind) (sym same) ∙ of in
          absurd (cc)

      locals : (n : ℕ) (d : Block) (call j : ℕ) → d.kind ≡ Local call j → Was n d → IsLocal g (with_new b now) d call j
      locals n d call j kind_is (old there) = local_on (injects.stands.locals n d call j there kind_is)
      locals n d call j kind_is (newest at same) =
          let kinds : Local born.new.c.number k ≡ Local call j = sym born.new.kind_is ∙ ap (λ y. y.kind) (sym same) ∙ kind_is in
          subst (λ (y : Block). IsLocal g (with_new b now) y call j) (sym same)
          (subst (λ (m : ℕ). IsLocal g (with_new b now) b m j) (ap call_in kinds)
          (subst (λ (m : ℕ). IsLocal g (with_new b now) b born.new.c.number m) (ap number_in kinds) (local_on born.local)))

      cells : (n : ℕ) (d : Block) → Lives (with_new b now) n d → Was n d → length d.cells ≡ d.size
      cells n d lives (old there) = injects.stands.cells n d (record { is = there; live = lives.live })
      cells n d lives (newest at same) = subst (λ (y : Block). length y.cells ≡ y.size) (sym same) born.whole

  -- ---- blocks are apart

  of_new : (n : ℕ) (d : Block) (a : ℕ) → n ≡ length now.blocks → d ≡ b → has_byte g now n d a ≡ true →
      has_byte g now (length now.blocks) b a ≡ true
  of_new n d a at same has = ap (λ (m : ℕ). has_byte g now m b a) (sym at) ∙ ap (λ (y : Block). has_byte g now n y a) (sym same) ∙ has

  tagged_new : (d : Block) → d ≡ b → is_tagged_block g now.calls d.kind ≡ true → ⊥
  tagged_new d same tagged =
      let is : is_tagged_block g now.calls b.kind ≡ true = ap (λ (y : Block). is_tagged_block g now.calls y.kind) (sym same) ∙ tagged in
      let none : is_tagged_block g now.calls b.kind ≡ false = untagged in
      absurd (cc)

  AreApart-born : AreApart g (with_new b now)
  AreApart-born = record {
    bytes = λ i j c d two a one other. bytes i j c d two a one other (was i c two.first.is) (was j d two.second.is);
    granules = λ i j c d two tagged x y one other. granules i j c d two tagged x y one other (was i c two.first.is) (was j d two.second.is);
  }
    where
      bytes : (i j : ℕ) (c d : Block) → AreTwo (with_new b now) i j c d → (a : ℕ) → has_byte g now i c a ≡ true →
          has_byte g now j d a ≡ true → Was i c → Was j d → ⊥
      bytes i j c d two a one other (old first) (old second) =
          injects.apart.bytes i j c d (two_were first second two) a one other
      bytes i j c d two a one other (old first) (newest at same) =
          new_apart injects order born.new i c (record { is = first; live = two.first.live }) a one (of_new j d a at same other)
      bytes i j c d two a one other (newest at same) (old second) =
          new_apart injects order born.new j d (record { is = second; live = two.second.live }) a other (of_new i c a at same one)
      bytes i j c d two a one other (newest at same) (newest to equal) = two.different (at ∙ sym to)

      granules : (i j : ℕ) (c d : Block) → AreTwo (with_new b now) i j c d → is_tagged_block g now.calls c.kind ≡ true → (x y : ℕ) →
          has_byte g now i c x ≡ true → has_byte g now j d y ≡ true → Was i c → Was j d → granule_of x ≢ granule_of y
      granules i j c d two tagged x y one other (old first) (old second) =
          injects.apart.granules i j c d (two_were first second two) tagged x y one other
      granules i j c d two tagged x y one other (old first) (newest at same) =
          new_granules injects order born.new i c (record { is = first; live = two.first.live }) tagged x y one (of_new j d y at same other)
      granules i j c d two tagged x y one other (newest at same) is = absurd (tagged_new c same tagged)

  -- ---- the whole

  owned_new : is_among born.new.c.number here.open_calls ≡ true
  owned_new =
      ap (λ cs. is_among born.new.c.number cs) born.new.open_is
      ∙ ap (λ (same : Bool). same || is_among born.new.c.number born.new.cs) (eq_same born.new.c.number)

  pub Injects-born : Injects g (with_local k (length now.blocks) here) (with_new b now) s
  Injects-born = record {
    loaded = injects.loaded;
    files = injects.files;
    stands = Stands-born;
    in_range = injects.in_range;
    apart = AreApart-born;
    frames = record {
      fit = injects.frames.fit;
      owned = λ n d call j lives kind_is. owned n d call j lives kind_is (was n d lives.is);
      sp = injects.frames.sp;
      in_order = injects.frames.in_order;
      drawn = injects.frames.drawn;
      choices = injects.frames.choices;
    };
    tags = record {
      of_blocks = λ n d lives tagged a has. of_blocks n d lives tagged a has (was n d lives.is);
      of_others = λ granule on none. injects.tags.of_others granule on (λ n d lives. none n d (lives_on lives));
      outside = injects.tags.outside;
      without_object = injects.tags.without_object;
    };
    as_loaded = injects.as_loaded;
    cells = record { cell = λ n d offset c lives is. cell n d offset c lives is (was n d lives.is) };
    bases = record { register_is = injects.bases.register_is; words = injects.bases.words };
  }
    where
      owned : (n : ℕ) (d : Block) (call j : ℕ) → Lives (with_new b now) n d → d.kind ≡ Local call j → Was n d →
          is_among call here.open_calls ≡ true
      owned n d call j lives kind_is (old there) = injects.frames.owned n d call j (record { is = there; live = lives.live }) kind_is
      owned n d call j lives kind_is (newest at same) =
          let call_is : born.new.c.number ≡ call = ap call_in (sym born.new.kind_is ∙ ap (λ y. y.kind) (sym same) ∙ kind_is) in
          subst (λ (m : ℕ). is_among m here.open_calls ≡ true) call_is owned_new

      of_blocks : (n : ℕ) (d : Block) → Lives (with_new b now) n d → is_tagged_block g now.calls d.kind ≡ true → (a : ℕ) →
          has_byte g now n d a ≡ true → Was n d → s.tag (granule_of a) ≡ (site_of g now n d).tag
      of_blocks n d lives tagged a has (old there) =
          injects.tags.of_blocks n d (record { is = there; live = lives.live }) tagged a has
      of_blocks n d lives tagged a has (newest at same) = absurd (tagged_new d same tagged)

      cell : (n : ℕ) (d : Block) (offset : ℕ) (c : Cell) → Lives (with_new b now) n d → slice_get d.cells offset ≡ Some c → Was n d →
          IsCell g (with_new b now) c (s.byte ((site_of g now n d).start + offset))
      cell n d offset c lives is (old there) =
          cell_on c (s.byte ((site_of g now n d).start + offset))
          (injects.cells.cell n d offset c (record { is = there; live = lives.live }) is)
      cell n d offset c lives is (newest at same) =
          let nothing : c ≡ Nothing = born.nothing offset c (ap (λ (y : Block). slice_get y.cells offset) (sym same) ∙ is) in
          subst (λ x. IsCell g (with_new b now) x (s.byte ((site_of g now n d).start + offset))) (sym nothing) tt

-- and the outside is the same
pub Relates-born : {g : Given} {here : Context} {now : MeaningState} {s : State} {b : Block} {k : ℕ} → InOrder g.program →
    IsBorn g here now b k → Relates g here now s → Relates g (with_local k (length now.blocks) here) (with_new b now) s
Relates-born order born relates = record {
  injects = Injects-born relates.injects order born;
  outside = record {
    output = relates.outside.output;
    input = relates.outside.input;
    bytes = relates.outside.bytes;
    takes = relates.outside.takes;
    puts = relates.outside.puts;
  };
}
