-- These states are related: a function with one int in a safe slot has been called.
use Rattle.std.specs.Prelude.{◌≡◌, ℕ, zero, suc, ◌+◌, ◌-◌, ◌%◌, ◌^◌}
use Rattle.std.specs.Prelude.{◌<◌, ◌≤◌, Bool, true, false, nat_eq, if◌then◌else◌, [], ◌∷◌}
use Rattle.std.specs.Prelude.{length, slice_get, slice_index, Some, None, refl}
use Rattle.std.specs.List.{list_any}
use Rattle.std.proofs.Common.{ap, arith, sym, subst, ◌∙◌, true≢false}
use Rattle.mt_base.specs.Memory.{is_between}
use Rattle.mt_base.specs.Pointers.{with_tag}
use Rattle.c_ast.specs.declared.int_type.IntType.TheVariants as int
use Rattle.c_type_base.specs.declared.typed.TFunction.{TFunction}
use Rattle.c_type_base.specs.Sizes.{size}
use Rattle.c_type_base.specs.Laws.SizeLaws.{size-int}
use Rattle.frame_layout.specs.WellFormed.{is_tagged_slot}
use Rattle.a64_laws.specs.Laws.Effects.InRange.{IsInRange}
use Rattle.block_meaning.specs.declared.cell.Cell.{Cell}
use Rattle.block_meaning.specs.declared.cell.Cell.TheVariants.{Byte}
use Rattle.block_meaning.specs.declared.kind.Kind.TheVariants.{NullBlock, Code, Local}
use Rattle.block_meaning.specs.Access.{is_text}
use Rattle.block_meaning.specs.Blocks.{Block, null_block}
use Rattle.block_meaning.specs.Running.{Call}
use Rattle.block_meaning.specs.Values.{number_cells}
use Rattle.code_relation.specs.Calls.{stack_end, frame_of, has_tagged, is_among}
use Rattle.code_relation.specs.Injects.{Injects}
use Rattle.code_relation.specs.Loaded.{IsLoaded, IsFileBlock, FilesLie}
use Rattle.code_relation.specs.Cells.{IsCell}
use Rattle.code_relation.specs.Sites.{base_of, site, site_of, site_of_slot}
use Rattle.code_relation.specs.Sites.{has_byte, is_of_file, is_object, is_tagged_block, is_tagged_by}
use Rattle.code_relation.specs.Stands.{Stands, IsInScope, IsAsOpened, WasOpened, IsLocal}
use Rattle.code_relation.proofs.Empty.{stack_region, below_stack}
use Rattle.code_relation.proofs.SlotStates.{HasOneSlot, call, place, machine, code_block, local_block, now, program}
use Rattle.code_relation.proofs.SlotStates.{given, block_of_number, here, Each, the_null, the_code, the_local, each, nothing_between}

no_number : (number : ℕ) → None ≡ Some number → ⊥
no_number number is = absurd (cc)

in_scope : (k number : ℕ) → block_of_number k ≡ Some number → IsInScope now (Some call) k number
in_scope zero number is = subst (λ n. IsInScope now (Some call) 0 n) (let e : 2 ≡ number = cc in e)
    (record { of = call; call_is = refl; block = local_block; lives = record { is = refl; live = refl }; kind_is = refl })
in_scope (suc k) number is = absurd (no_number number is)

has_block : (c : Call) (number : ℕ) (b : Block) (k : ℕ) → Each number b → b.kind ≡ Local c.number k → block_of_number k ≡ Some number
has_block c number b k the_null local = absurd (cc)
has_block c number b k the_code local = absurd (cc)
has_block c number b k the_local local = subst (λ j. block_of_number j ≡ Some 2) (let e : 0 ≡ k = cc in e) refl

null_first : (number : ℕ) (b : Block) → Each number b → b.kind ≡ NullBlock → number ≡ 0
null_first number b the_null of_null = refl
null_first number b the_code of_null = absurd (cc)
null_first number b the_local of_null = absurd (cc)

the_call : (number : ℕ) (c : Call) → slice_get (call ∷ []) number ≡ Some c → c.number ≡ number
the_call zero c is = ap (λ x. x.number) (let e : c ≡ call = cc in e)
the_call (suc number) c is = absurd (cc)

as_opened : (number : ℕ) (b : Block) → slice_get (null_block ∷ code_block ∷ []) number ≡ Some b → IsAsOpened now number b
as_opened zero b is = subst (λ c. IsAsOpened now 0 c) (let e : null_block ≡ b = cc in e)
    (record { block = null_block; lives = record { is = refl; live = refl }; kind_is = refl; size_is = refl })
as_opened (suc zero) b is = subst (λ c. IsAsOpened now 1 c) (let e : code_block ≡ b = cc in e)
    (record { block = code_block; lives = record { is = refl; live = refl }; kind_is = refl; size_is = refl })
as_opened (suc (suc number)) b is = absurd (cc)

module _ (f : TFunction) (has : HasOneSlot f) where
  tagged_none : has_tagged (program f).units call.function ≡ false
  tagged_none = ap (λ slots. list_any is_tagged_slot slots) has.slots_are

  local_site : site_of (given f) now 2 local_block ≡ site place 0
  local_site = ap (λ slots. site_of_slot (given f) now.calls call (slice_get slots 0)) has.slots_are

  untagged : (number : ℕ) (b : Block) → Each number b → is_tagged_block (given f) now.calls b.kind ≡ true → ⊥
  untagged number b the_null tagged = absurd (cc)
  untagged number b the_code tagged = absurd (cc)
  untagged number b the_local tagged =
      let none : is_tagged_by (slice_get (frame_of (program f).units call.function).slots 0) ≡ false =
      ap (λ slots. is_tagged_by (slice_get slots 0)) has.slots_are in
      absurd (cc)

  -- only the local has bytes
  only_local : (number : ℕ) (b : Block) → Each number b → (a : ℕ) → has_byte (given f) now number b a ≡ true → number ≡ 2
  only_local number b the_null a in_it = absurd (nothing_between 0 a in_it)
  only_local number b the_code a in_it = absurd (nothing_between 0x10000000 a in_it)
  only_local number b the_local a in_it = refl

  -- ---- what is given

  in_range : IsInRange machine
  in_range = record {
    registers = λ n. omega arith;
    sp = omega arith;
    pc = omega arith;
    bytes = λ a. small (nat_eq a place);
    tags = λ granule. omega arith;
    drawn = omega arith;
    choices = choices;
    answers = tt;
  }
    where
      small : (same : Bool) → (if same then 7 else 0) < 256
      small true = omega arith
      small false = omega arith

      choices : (n : ℕ) → slice_index (5 ∷ []) n < 16
      choices zero = omega arith
      choices (suc n) = omega arith

  loaded : IsLoaded (program f) machine
  loaded = record {
    in_range = in_range;
    apart = λ i j d before below. absurd (omega (arith, before, below));
    guard_apart = below_stack;
    stack_size = record { whole = refl; least = omega arith; most = omega arith };
    stack = record { region = stack_region; there = (0, omega arith, refl); end = refl; bytes_is = refl; writable = refl };
    guard_bytes_is = refl;
    guard_end = refl;
  }

  the_file : (number : ℕ) (b : Block) → IsFileBlock (given f) number b → code_block ≡ b
  the_file zero b block = absurd (not_null b block.is block.of_file)
    where
      not_null : (b : Block) → Some null_block ≡ Some b → is_of_file b.kind ≡ true → ⊥
      not_null b is of =
          let null : null_block ≡ b = cc in
          let of_file : is_of_file NullBlock ≡ true = subst (λ c. is_of_file c.kind ≡ true) (sym null) of in
          absurd (cc)
  the_file (suc zero) b block = the_second b block.is
    where
      the_second : (b : Block) → Some code_block ≡ Some b → code_block ≡ b
      the_second b is = cc
  the_file (suc (suc number)) b block = absurd (none b block.is)
    where
      none : (b : Block) → slice_get [] number ≡ Some b → ⊥
      none b is = absurd (cc)

  no_object : (number : ℕ) (b : Block) → IsFileBlock (given f) number b → is_object b.kind ≡ true → ⊥
  no_object number b block object =
      let of_code : is_object (Code 0 0) ≡ true = subst (λ c. is_object c.kind ≡ true) (sym (the_file number b block)) object in
      absurd (cc)

  no_text : (number : ℕ) (b : Block) → IsFileBlock (given f) number b → is_text b.kind ≡ true → ⊥
  no_text number b block text =
      let of_code : is_text (Code 0 0) ≡ true = subst (λ c. is_text c.kind ≡ true) (sym (the_file number b block)) text in
      absurd (cc)

  files : FilesLie (given f)
  files = record {
    above = λ number b block. omega arith;
    below = λ number b block. subst (λ c. 0x10000000 + c.size ≤ 2 ^ 56) (the_file number b block) (omega arith);
    start_outside = λ number b block. refl;
    outside = λ number b a block in_it. absurd (nothing_between 0x10000000 a
        (subst (λ c. is_between 0x10000000 c.size a ≡ true) (sym (the_file number b block)) in_it));
    objects_whole = λ number b block object. refl;
    texts_whole = λ number b block text. refl;
    objects_writable = λ number b block object. absurd (no_object number b block object);
    texts_constant = λ number b block text. absurd (no_text number b block text);
    tags = λ number b block. omega arith;
    untagged = λ number b block other. refl;
  }

  -- ---- the meaning's own state

  was_opened : (number : ℕ) (b : Block) → Each number b → is_of_file b.kind ≡ true → WasOpened (given f) number b
  was_opened number b the_null of = absurd (cc)
  was_opened number b the_code of = record { before = code_block; is = refl; kind_is = refl; size_is = refl }
  was_opened number b the_local of = absurd (cc)

  of_local : (number : ℕ) (b : Block) (made k : ℕ) → Each number b → b.kind ≡ Local made k → IsLocal (given f) now b made k
  of_local number b made k the_null local = absurd (cc)
  of_local number b made k the_code local = absurd (cc)
  of_local number b made k the_local local =
      subst (λ m. IsLocal (given f) now local_block m k) (let e : 0 ≡ made = cc in e)
      (subst (λ j. IsLocal (given f) now local_block 0 j) (let e : 0 ≡ k = cc in e) (record {
        made_by = call;
        call_is = refl;
        function = f;
        function_is = refl;
        info = has.info;
        info_is = ap (λ ls. slice_get ls 0) has.locals_are;
        size_is = sym (ap (λ t. size [] t) has.int_is ∙ size-int [] int.Int);
      }))

  as_many : (number : ℕ) (b : Block) → Each number b → length b.cells ≡ b.size
  as_many number b the_null = refl
  as_many number b the_code = refl
  as_many number b the_local = refl

  stands : Stands (given f) (here f) now
  stands = record {
    program_is = refl;
    numbers = the_call;
    calls = (refl, record { function = f; is = refl }, tt);
    unit_is = λ c is. of_call c is;
    scope = in_scope;
    in_scope = λ c number b k is lives local. has_block c number b k (each number b lives.is) local;
    null_is = refl;
    null_alone = λ number b is of_null. null_first number b (each number b is) of_null;
    opened = as_opened;
    of_files = λ number b is of. was_opened number b (each number b is) of;
    locals = λ number b made k is local. of_local number b made k (each number b is) local;
    cells = λ number b lives. as_many number b (each number b lives.is);
  }
    where
      of_call : (c : Call) → Some call ≡ Some c → 0 ≡ c.function.unit
      of_call c is = ap (λ x. x.function.unit) (let e : call ≡ c = cc in e)

  -- ---- the relation

  is_open : (number : ℕ) (b : Block) (made k : ℕ) → Each number b → b.kind ≡ Local made k → is_among made (call ∷ []) ≡ true
  is_open number b made k the_null local = absurd (cc)
  is_open number b made k the_code local = absurd (cc)
  is_open number b made k the_local local = ap (λ n. is_among n (call ∷ [])) (let e : made ≡ 0 = cc in e)

  cell_at : (offset : ℕ) (c : Cell) → slice_get (number_cells 4 7) offset ≡ Some c → IsCell (given f) now c (machine.byte (place + offset))
  cell_at zero c is = subst (λ d. IsCell (given f) now d 7) (let e : Byte 7 ≡ c = cc in e) refl
  cell_at (suc zero) c is = subst (λ d. IsCell (given f) now d 0) (let e : Byte 0 ≡ c = cc in e) refl
  cell_at (suc (suc zero)) c is = subst (λ d. IsCell (given f) now d 0) (let e : Byte 0 ≡ c = cc in e) refl
  cell_at (suc (suc (suc zero))) c is = subst (λ d. IsCell (given f) now d 0) (let e : Byte 0 ≡ c = cc in e) refl
  cell_at (suc (suc (suc (suc offset)))) c is = absurd (cc)

  cell : (number : ℕ) (b : Block) (offset : ℕ) (c : Cell) → Each number b → slice_get b.cells offset ≡ Some c →
      IsCell (given f) now c (machine.byte ((site_of (given f) now number b).start + offset))
  cell number b offset c the_null is = absurd (cc)
  cell number b offset c the_code is = absurd (cc)
  cell number b offset c the_local is =
      subst (λ s. IsCell (given f) now c (machine.byte (s.start + offset))) (sym local_site) (cell_at offset c is)

  slot_injects : Injects (given f) (here f) now machine
  slot_injects = record {
    loaded = loaded;
    files = files;
    stands = stands;
    in_range = in_range;
    apart = record {
      bytes = λ i j b c two a first second. two.different
          (only_local i b (each i b two.first.is) a first ∙ sym (only_local j c (each j c two.second.is) a second));
      granules = λ i j b c two tagged x y first second. absurd (untagged i b (each i b two.first.is) tagged);
    };
    frames = record {
      fit = omega arith;
      owned = λ number b made k lives local. is_open number b made k (each number b lives.is) local;
      sp = refl;
      in_order = (sym (ap (λ n. 0 + n) has.bytes_are), tt);
      drawn = sym (ap (λ t. (0 + (if t then 1 else 0)) % 1) tagged_none);
      choices = refl;
    };
    tags = record {
      of_blocks = λ number b lives tagged a in_it. absurd (untagged number b (each number b lives.is) tagged);
      of_others = λ granule on none. refl;
      outside = λ granule off. refl;
      without_object = λ granule off none. refl;
    };
    as_loaded = record { regions = refl; guard = refl; bytes = λ a off none. refl };
    cells = record { cell = λ number b offset c lives is. cell number b offset c (each number b lives.is) is };
    bases = record {
      register_is = sym (ap (λ t. (if t then with_tag (stack_end - 32) (base_of (given f) now.calls call) else 0)) tagged_none);
      words = (λ tagged. absurd (true≢false (sym tagged ∙ tagged_none)), tt);
    };
  }
