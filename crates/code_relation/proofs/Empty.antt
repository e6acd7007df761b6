-- An example: a program without files, before any call. Its states are related.
use Rattle.std.specs.Prelude.{◌≡◌, ℕ, zero, suc, ◌-◌, ◌<◌, true, false, List, [], ◌∷◌, slice_get, slice_index, length, Some, refl}
use Rattle.std.proofs.Common.{ap, arith, sym, subst, ◌∙◌}
use Rattle.std.proofs.lemmas.Bool.Decides.{nat_tests}
use Rattle.mt_base.specs.Memory.{Extent, is_between}
use Rattle.std.specs.List.{All}
use Rattle.tag_mem.specs.Regions.{IsApartFrom}
use Rattle.tag_mem.specs.Laws.Regions.{guard_below}
use Rattle.a64_code.specs.Outside.{outside_of}
use Rattle.a64_code.specs.State.{State}
use Rattle.a64_laws.specs.Laws.Effects.InRange.{IsInRange}
use Rattle.mte_machine.specs.Machine.{clear_flags}
use Rattle.block_meaning.specs.declared.kind.Kind.{Kind}
use Rattle.block_meaning.specs.declared.kind.Kind.TheVariants.{NullBlock, Local}
use Rattle.block_meaning.specs.declared.cell.Cell.{Cell}
use Rattle.block_meaning.specs.Blocks.{Block, null_block}
use Rattle.block_meaning.specs.Meaning.{outside_of_calls, before}
use Rattle.block_meaning.specs.Running.{Call, Program, Context, State as MeaningState}
use Rattle.code_relation.specs.Calls.{stack_end}
use Rattle.code_relation.specs.Injects.{Injects}
use Rattle.code_relation.specs.Loaded.{IsLoaded, IsFileBlock, FilesLie}
use Rattle.code_relation.specs.Sites.{Given, Lives, site, has_byte, is_of_file}
use Rattle.code_relation.specs.Stands.{Stands, IsAsOpened}

-- no file, and 1,024 bytes of stack
abbrev program : Program
program = record { units = []; frames = []; stack = 1024 }

abbrev pub stack_region : Extent
stack_region = record { start = stack_end - 1024; bytes = 1024; writable = true; executable = false }

abbrev pub machine : State
machine = record {
  register = λ i. 0;
  sp = stack_end;
  pc = 0x10000000;
  flags = clear_flags;
  byte = λ a. 0;
  tag = λ granule. 0;
  regions = stack_region ∷ [];
  guard = record { start = stack_end - 1024 - 524288; bytes = 524288 };
  choices = 5 ∷ [];
  drawn = 0;
  outside = outside_of [];
}

abbrev given : Given
given = record { program = program; loaded = machine; starts = λ number. site 0 0; first = 0 }

abbrev here : Context
here = outside_of_calls program

abbrev now : MeaningState
now = before program [] 0

-- ---- the null block alone, which has no bytes and is no file's

null_alone : (number : ℕ) (b : Block) → slice_get (null_block ∷ []) number ≡ Some b → null_block ≡ b
null_alone zero b is = cc
null_alone (suc number) b is = absurd (cc)

first_alone : (number : ℕ) (b : Block) → slice_get (null_block ∷ []) number ≡ Some b → number ≡ 0
first_alone zero b is = refl
first_alone (suc number) b is = absurd (cc)

no_file_block : (number : ℕ) (b : Block) → IsFileBlock given number b → ⊥
no_file_block number b block =
    let null : null_block ≡ b = null_alone number b block.is in
    let kind : NullBlock ≡ b.kind = ap (λ (c : Block). c.kind) null in
    of_file b.kind kind block.of_file
  where
    of_file : (kind : Kind) → NullBlock ≡ kind → is_of_file kind ≡ true → ⊥
    of_file NullBlock is of = absurd (cc)
    of_file kind is of = absurd (cc)

no_local : (number : ℕ) (b : Block) (call k : ℕ) → slice_get (null_block ∷ []) number ≡ Some b → b.kind ≡ Local call k → ⊥
no_local number b call k is local =
    let kind : NullBlock ≡ b.kind = ap (λ (c : Block). c.kind) (null_alone number b is) in absurd (cc)

no_byte : (number : ℕ) (b : Block) (a : ℕ) → Lives now number b → has_byte given now number b a ≡ true → ⊥
no_byte number b a lives has =
    let null : null_block ≡ b = null_alone number b lives.is in
    nothing a (subst (λ (c : Block). has_byte given now number c a ≡ true) (sym null) has)
  where
    nothing : (a : ℕ) → is_between 0 0 a ≡ true → ⊥
    nothing a has = grind (arith, nat_tests)

without_cells : (number : ℕ) (b : Block) → Lives now number b → length b.cells ≡ b.size
without_cells number b lives = subst (λ (c : Block). length c.cells ≡ c.size) (null_alone number b lives.is) refl

none_there : (offset : ℕ) (c : Cell) → slice_get [] offset ≡ Some c → ⊥
none_there offset c is = absurd (cc)

no_cell : (number : ℕ) (b : Block) (offset : ℕ) (c : Cell) → Lives now number b → slice_get b.cells offset ≡ Some c → ⊥
no_cell number b offset c lives is =
    let cells : [] ≡ b.cells = ap (λ (x : Block). x.cells) (null_alone number b lives.is) in
    none_there offset c (ap (λ (xs : List Cell). slice_get xs offset) cells ∙ is)

as_opened : (number : ℕ) (b : Block) → slice_get (null_block ∷ []) number ≡ Some b → IsAsOpened now number b
as_opened zero b is =
    let null : null_block ≡ b = cc in
    record {
      block = null_block;
      lives = record { is = refl; live = refl };
      kind_is = ap (λ (x : Block). x.kind) null;
      size_is = ap (λ (x : Block). x.size) null;
    }
as_opened (suc number) b is = absurd (cc)

-- ---- what is given

pub below_stack : All (IsApartFrom machine.guard) machine.regions
below_stack zero d within = guard_below machine.guard stack_region (omega arith)
below_stack (suc k) d within = absurd (omega (arith, within))

in_range : IsInRange machine
in_range = record {
  registers = λ n. omega arith;
  sp = omega arith;
  pc = omega arith;
  bytes = λ a. omega arith;
  tags = λ granule. omega arith;
  drawn = omega arith;
  choices = small;
  answers = tt;
}
  where
    small : (n : ℕ) → slice_index (5 ∷ []) n < 16
    small zero = omega arith
    small (suc n) = omega arith

loaded : IsLoaded program machine
loaded = record {
  in_range = in_range;
  apart = λ i j d before below. absurd (omega (arith, before, below));
  guard_apart = below_stack;
  stack_size = record { whole = refl; least = omega arith; most = omega arith };
  stack = record { region = stack_region; there = (0, omega arith, refl); end = refl; bytes_is = refl; writable = refl };
  guard_bytes_is = refl;
  guard_end = refl;
}

files : FilesLie given
files = record {
  above = λ number b block. absurd (no_file_block number b block);
  below = λ number b block. absurd (no_file_block number b block);
  start_outside = λ number b block. absurd (no_file_block number b block);
  outside = λ number b a block has. absurd (no_file_block number b block);
  objects_whole = λ number b block object. absurd (no_file_block number b block);
  texts_whole = λ number b block text. absurd (no_file_block number b block);
  objects_writable = λ number b block object. absurd (no_file_block number b block);
  texts_constant = λ number b block text. absurd (no_file_block number b block);
  tags = λ number b block. absurd (no_file_block number b block);
  untagged = λ number b block other. absurd (no_file_block number b block);
}

-- ---- the relation

no_call : (number : ℕ) (c : Call) → slice_get [] number ≡ Some c → ⊥
no_call number c is = absurd (cc)

stands : Stands given here now
stands = record {
  program_is = refl;
  numbers = λ number c is. absurd (no_call number c is);
  calls = tt;
  unit_is = λ c none. absurd (cc);
  scope = λ k number none. absurd (cc);
  in_scope = λ c number b k none lives local. absurd (cc);
  null_is = refl;
  null_alone = λ number b is of_null. first_alone number b is;
  opened = as_opened;
  of_files = λ number b is of. absurd (no_file_block number b (record { is = is; of_file = of }));
  locals = λ number b call k is local. absurd (no_local number b call k is local);
  cells = λ number b lives. without_cells number b lives;
}

empty_injects : Injects given here now machine
empty_injects = record {
  loaded = loaded;
  files = files;
  stands = stands;
  in_range = in_range;
  apart = record {
    bytes = λ i j b c two a first second. no_byte i b a two.first first;
    granules = λ i j b c two tagged x y first second. absurd (no_byte i b x two.first first);
  };
  frames = record {
    fit = omega arith;
    owned = λ number b call k lives local. absurd (no_local number b call k lives.is local);
    sp = refl;
    in_order = tt;
    drawn = refl;
    choices = refl;
  };
  tags = record {
    of_blocks = λ number b lives tagged a has. absurd (no_byte number b a lives has);
    of_others = λ granule on none. refl;
    outside = λ granule off. refl;
    without_object = λ granule off none. refl;
  };
  as_loaded = record { regions = refl; guard = refl; bytes = λ a off none. refl };
  cells = record { cell = λ number b offset c lives is. absurd (no_cell number b offset c lives is) };
  bases = record { register_is = refl; words = tt };
}
