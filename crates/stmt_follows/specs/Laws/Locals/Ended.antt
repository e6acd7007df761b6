-- The life of a local ends: the relation holds on (this project's own).
use Rattle.std.specs.Prelude.{◌≡◌, ◌≢◌, ℕ, ◌+◌, Bool, true, false, nat_eq, slice_get, slice_set}
use Rattle.std.specs.Prelude.{Some, None, refl}
use Rattle.std.proofs.Common.{arith, ap, sym, subst, inl, inr, ◌∙◌}
use Rattle.std.proofs.lemmas.Bool.{cases_eq, eqb-true}
use Rattle.std.proofs.lemmas.Bool.Decides.{nat_tests}
use Rattle.a64_code.specs.State.{State}
use Rattle.block_meaning.specs.declared.cell.Cell.{Cell}
use Rattle.block_meaning.specs.declared.cell.Cell.TheVariants.{Nothing, Byte, Part}
use Rattle.block_meaning.specs.declared.kind.Kind.TheVariants.{NullBlock, Local}
use Rattle.block_meaning.specs.declared.value.Pointer.{Pointer}
use Rattle.block_meaning.specs.declared.value.Value.{Value}
use Rattle.block_meaning.specs.declared.value.Value.TheVariants.{Number, Address, Struct, NoValue}
use Rattle.block_meaning.specs.Blocks.{Block, null_block, ended}
use Rattle.block_meaning.specs.Locals.{latest}
use Rattle.block_meaning.specs.Running.{Call, Context, State as MeaningState}
use Rattle.code_relation.specs.Apart.{AreTwo}
use Rattle.code_relation.specs.Calls.{frame_of, has_tagged}
use Rattle.code_relation.specs.Cells.{IsCell}
use Rattle.code_relation.specs.Injects.{Injects}
use Rattle.code_relation.specs.Numbers.{number_at, IsNumber, Holds}
use Rattle.code_relation.specs.Relates.{Relates}
use Rattle.code_relation.specs.Sites.{Given, units_of, Lives, site_by, site_of, is_of_file, is_tagged_local}
use Rattle.code_relation.specs.Sites.{is_tagged_block}
use Rattle.code_relation.specs.Stands.{IsLocal, IsInScope, IsAsOpened, WasOpened, Stands}
use Rattle.code_relation.specs.Laws.Lists.{get_set_same, get_set_other}
use Rattle.stmt_follows.specs.Laws.Locals.Basics.{if_true, if_false, some_none, same_some, number_in, without}
use Rattle.stmt_follows.specs.Laws.Locals.Apart.{none_tagged}
use Rattle.stmt_follows.specs.Laws.Locals.Opened.{is_local, no_local_opened}

-- the state in which a block is dead
abbrev pub with_dead : ℕ → Block → MeaningState → MeaningState
with_dead number b now = record now { blocks = slice_set now.blocks number (ended b) }

-- a local of the latest call, whose function has no tagged slots
pub record IsEnding (g : Given) (here : Context) (now : MeaningState) (k number : ℕ) : Type 0 where
  pub c : Call
  pub latest_is : latest here.open_calls ≡ Some c
  pub call_is : slice_get now.calls c.number ≡ Some c
  pub safe : has_tagged (units_of g) c.function ≡ false
  pub block : Block
  pub lives : Lives now number block
  pub kind_is : block.kind ≡ Local c.number k
  pub local_is : here.local k ≡ Some number

module _ {g : Given} {here : Context} {now : MeaningState} {s : State} (injects : Injects g here now s) {k number : ℕ}
    (ending : IsEnding g here now k number) where
  -- what is there was there before, or is the dead one
  data Was (i : ℕ) (d : Block) : Type 0 where
    old : i ≢ number → slice_get now.blocks i ≡ Some d → Was i d
    dead : i ≡ number → d ≡ ended ending.block → Was i d

  was : (i : ℕ) (d : Block) → slice_get (slice_set now.blocks number (ended ending.block)) i ≡ Some d → Was i d
  was i d is = elim (cases_eq i number) [
    | inl same ↦
        dead same (same_some (ap (λ n. slice_get (slice_set now.blocks number (ended ending.block)) n) (sym same) ∙ is)
        (get_set_same now.blocks number ending.block (ended ending.block) ending.lives.is))
    | inr other ↦ old other (sym (get_set_other now.blocks number i (ended ending.block) (λ same. other (sym same))) ∙ is)
  ]

  -- one that is alive was so before
  record Alive (i : ℕ) (d : Block) : Type 0 where
    other : i ≢ number
    lives : Lives now i d

  alive : {i : ℕ} {d : Block} → Lives (with_dead number ending.block now) i d → Alive i d
  alive {i} {d} lives = by_was (was i d lives.is)
    where
      by_was : Was i d → Alive i d
      by_was (old other is) = record { other = other; lives = record { is = is; live = lives.live } }
      by_was (dead at same) = let none : false ≡ true = ap (λ y. y.live) (sym same) ∙ lives.live in absurd (cc)

  there_on : (i : ℕ) (d : Block) → i ≢ number → slice_get now.blocks i ≡ Some d →
      slice_get (slice_set now.blocks number (ended ending.block)) i ≡ Some d
  there_on i d other is = get_set_other now.blocks number i (ended ending.block) (λ same. other (sym same)) ∙ is

  -- a pointer keeps its number
  pub IsNumber-ended : {p : Pointer} {n : ℕ} → IsNumber g now p n → IsNumber g (with_dead number ending.block now) p n
  IsNumber-ended {p} {n} is = elim (cases_eq p.block number) [
    | inl same ↦
        let there : slice_get now.blocks number ≡ Some is.block = ap (λ m. slice_get now.blocks m) (sym same) ∙ is.is in
        let block_is : is.block ≡ ending.block = same_some there ending.lives.is in
        record {
          block = ended ending.block;
          is = ap (λ m. slice_get (slice_set now.blocks number (ended ending.block)) m) same
              ∙ get_set_same now.blocks number ending.block (ended ending.block) ending.lives.is;
          fits = is.fits;
          number = is.number ∙ ap (λ (y : Block). number_at (site_by g now.calls y.kind p.block) p.offset) block_is;
        }
    | inr other ↦ record { block = is.block; is = there_on p.block is.block other is.is; fits = is.fits; number = is.number }
  ]

  pub Holds-ended : (v : Value) (n : ℕ) → Holds g now v n → Holds g (with_dead number ending.block now) v n
  Holds-ended (Number m) n holds = holds
  Holds-ended (Address p) n holds = IsNumber-ended holds
  Holds-ended (Struct p) n holds = IsNumber-ended holds
  Holds-ended NoValue n holds = tt

  cell_on : (c : Cell) (byte : ℕ) → IsCell g now c byte → IsCell g (with_dead number ending.block now) c byte
  cell_on Nothing byte is = tt
  cell_on (Byte n) byte is = is
  cell_on (Part j block offset) byte is = record { number = is.number; is = IsNumber-ended is.is; byte_is = is.byte_is }

  untagged : is_tagged_block g now.calls ending.block.kind ≡ false
  untagged =
      ap (λ kind. is_tagged_block g now.calls kind) ending.kind_is ∙ ap (λ call. is_tagged_local g call k) ending.call_is
      ∙ none_tagged (frame_of (units_of g) ending.c.function).slots ending.safe k

  -- ---- the meaning's own state

  still_in_scope : (j n : ℕ) → (without k here).local j ≡ Some n →
      IsInScope (with_dead number ending.block now) (latest here.open_calls) j n
  still_in_scope j n is = by_number (nat_eq j k) refl
    where
      by_number : (same : Bool) → nat_eq j k ≡ same → IsInScope (with_dead number ending.block now) (latest here.open_calls) j n
      by_number true equal = absurd (some_none is (if_true (nat_eq j k) None (here.local j) equal))
      by_number false differs =
          let before : here.local j ≡ Some n = sym (if_false (nat_eq j k) None (here.local j) differs) ∙ is in
          let found : IsInScope now (latest here.open_calls) j n = injects.stands.scope j n before in
          let other : n ≢ number = λ same.
          let there : slice_get now.blocks number ≡ Some found.block = ap (λ m. slice_get now.blocks m) (sym same) ∙ found.lives.is in
          let block_is : found.block ≡ ending.block = same_some there ending.lives.is in
          let j_is : j ≡ k =
          ap number_in (sym found.kind_is ∙ ap (λ (y : Block). y.kind) block_is ∙ ending.kind_is) in
          let equal : nat_eq j k ≡ true = grind (arith, nat_tests, j_is) in
          absurd (cc) in
          record {
            of = found.of;
            call_is = found.call_is;
            block = found.block;
            lives = record { is = there_on n found.block other found.lives.is; live = found.lives.live };
            kind_is = found.kind_is;
          }

  scope_of : (c : Call) (n : ℕ) (d : Block) (j : ℕ) → latest here.open_calls ≡ Some c → Alive n d → d.kind ≡ Local c.number j →
      (without k here).local j ≡ Some n
  scope_of c n d j is at kind_is = by_number (nat_eq j k) refl
    where
      before : here.local j ≡ Some n
      before = injects.stands.in_scope c n d j is at.lives kind_is

      by_number : (same : Bool) → nat_eq j k ≡ same → (without k here).local j ≡ Some n
      by_number true equal = absurd (at.other (same_some (ap here.local (sym (eqb-true j k equal)) ∙ before) ending.local_is))
      by_number false differs = if_false (nat_eq j k) None (here.local j) differs ∙ before

  not_opened : (n : ℕ) (d : Block) → slice_get now.blocks n ≡ Some d → is_local d.kind ≡ false → n ≢ number
  not_opened n d is none same =
      let there : slice_get now.blocks number ≡ Some d = ap (λ m. slice_get now.blocks m) (sym same) ∙ is in
      let block_is : d ≡ ending.block = same_some there ending.lives.is in
      let local : true ≡ false = ap is_local (sym ending.kind_is) ∙ ap (λ (y : Block). is_local y.kind) (sym block_is) ∙ none in
      absurd (cc)

  Stands-ended : Stands g (without k here) (with_dead number ending.block now)
  Stands-ended = record {
    program_is = injects.stands.program_is;
    numbers = injects.stands.numbers;
    calls = injects.stands.calls;
    unit_is = injects.stands.unit_is;
    scope = λ j n is. still_in_scope j n is;
    in_scope = λ c n d j is lives kind_is. scope_of c n d j is (alive lives) kind_is;
    null_is = there_on 0 null_block (not_opened 0 null_block injects.stands.null_is refl) injects.stands.null_is;
    null_alone = λ n d is null. null_alone n d null (was n d is);
    opened = λ n d is. opened n d (no_local_opened (units_of g) n d is) (injects.stands.opened n d is);
    of_files = λ n d is of. of_files n d of (was n d is);
    locals = λ n d call j is kind_is. locals n d call j kind_is (was n d is);
    cells = λ n d lives. injects.stands.cells n d (alive lives).lives;
  }
    where
      null_alone : (n : ℕ) (d : Block) → d.kind ≡ NullBlock → Was n d → n ≡ 0
      null_alone n d null (old other there) = injects.stands.null_alone n d there null
      null_alone n d null (dead at same) =
          let kinds : NullBlock ≡ Local ending.c.number k = sym null ∙ ap (λ y. y.kind) same ∙ ending.kind_is in
          absurd (cc)

      opened : (n : ℕ) (d : Block) → is_local d.kind ≡ false → IsAsOpened now n d →
          IsAsOpened (with_dead number ending.block now) n d
      opened n d none is = record {
        block = is.block;
        lives = record {
          is = there_on n is.block (not_opened n is.block is.lives.is (ap is_local is.kind_is ∙ none)) is.lives.is;
          live = is.lives.live;
        };
        kind_is = is.kind_is;
        size_is = is.size_is;
      }

      of_files : (n : ℕ) (d : Block) → is_of_file d.kind ≡ true → Was n d → WasOpened g n d
      of_files n d of (old other there) = injects.stands.of_files n d there of
      of_files n d of (dead at same) =
          let none : false ≡ true = ap is_of_file (sym ending.kind_is) ∙ ap (λ y. is_of_file y.kind) (sym same) ∙ of in
          absurd (cc)

      local_on : {d : Block} {call j : ℕ} → IsLocal g now d call j → IsLocal g (with_dead number ending.block now) d call j
      local_on is = record {
        made_by = is.made_by;
        call_is = is.call_is;
        function = is.function;
        function_is = is.function_is;
        info = is.info;
        info_is = is.info_is;
        size_is = is.size_is;
      }

      dead_local : {call j : ℕ} → IsLocal g now ending.block call j →
          IsLocal g (with_dead number ending.block now) (ended ending.block) call j
      dead_local is = record {
        made_by = is.made_by;
        call_is = is.call_is;
        function = is.function;
        function_is = is.function_is;
        info = is.info;
        info_is = is.info_is;
        size_is = is.size_is;
      }

      locals : (n : ℕ) (d : Block) (call j : ℕ) → d.kind ≡ Local call j → Was n d →
          IsLocal g (with_dead number ending.block now) d call j
      locals n d call j kind_is (old other there) = local_on (injects.stands.locals n d call j there kind_is)
      locals n d call j kind_is (dead at same) =
          subst (λ (y : Block). IsLocal g (with_dead number ending.block now) y call j) (sym same)
          (dead_local (injects.stands.locals number ending.block call j ending.lives.is (ap (λ (y : Block). y.kind) (sym same) ∙ kind_is)))

  -- ---- the whole

  two_back : {i j : ℕ} {c d : Block} → AreTwo (with_dead number ending.block now) i j c d → AreTwo now i j c d
  two_back two =
      record { different = two.different; first = (alive two.first).lives; second = (alive two.second).lives }

  pub Injects-ended : Injects g (without k here) (with_dead number ending.block now) s
  Injects-ended = record {
    loaded = injects.loaded;
    files = injects.files;
    stands = Stands-ended;
    in_range = injects.in_range;
    apart = record {
      bytes = λ i j c d two. injects.apart.bytes i j c d (two_back two);
      granules = λ i j c d two. injects.apart.granules i j c d (two_back two);
    };
    frames = record {
      fit = injects.frames.fit;
      owned = λ n d call j lives. injects.frames.owned n d call j (alive lives).lives;
      sp = injects.frames.sp;
      in_order = injects.frames.in_order;
      drawn = injects.frames.drawn;
      choices = injects.frames.choices;
    };
    tags = record {
      of_blocks = λ n d lives. injects.tags.of_blocks n d (alive lives).lives;
      of_others = λ granule on none. injects.tags.of_others granule on (λ n d lives tagged a has.
          none n d (still_alive n d lives tagged) tagged a has);
      outside = injects.tags.outside;
      without_object = injects.tags.without_object;
    };
    as_loaded = injects.as_loaded;
    cells = record {
      cell = λ n d offset c lives is. cell_on c (s.byte ((site_of g now n d).start + offset))
          (injects.cells.cell n d offset c (alive lives).lives is);
    };
    bases = record { register_is = injects.bases.register_is; words = injects.bases.words };
  }
    where
      still_alive : (n : ℕ) (d : Block) → Lives now n d → is_tagged_block g now.calls d.kind ≡ true →
          Lives (with_dead number ending.block now) n d
      still_alive n d lives tagged = record {
        is = there_on n d (λ same.
            let there : slice_get now.blocks number ≡ Some d = ap (λ m. slice_get now.blocks m) (sym same) ∙ lives.is in
            let block_is : d ≡ ending.block = same_some there ending.lives.is in
            let both : true ≡ false =
            sym tagged ∙ ap (λ (y : Block). is_tagged_block g now.calls y.kind) block_is ∙ untagged in
            absurd (cc)) lives.is;
        live = lives.live;
      }

-- and the outside is the same
pub Relates-ended : {g : Given} {here : Context} {now : MeaningState} {s : State} {k number : ℕ}
    (ending : IsEnding g here now k number) → Relates g here now s → Relates g (without k here) (with_dead number ending.block now) s
Relates-ended ending relates = record {
  injects = Injects-ended relates.injects ending;
  outside = record {
    output = relates.outside.output;
    input = relates.outside.input;
    bytes = relates.outside.bytes;
    takes = relates.outside.takes;
    puts = relates.outside.puts;
  };
}
