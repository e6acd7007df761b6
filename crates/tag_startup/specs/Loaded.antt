-- The state of an image at its start (this project's own, after the Memtag ABI's start-up).
use Rattle.std.specs.Prelude.{ℕ, ◌+◌, ◌%◌, ◌^◌, List, length}
use Rattle.a64_code.specs.Outside.{Outside}
use Rattle.a64_code.specs.State.{State}
use Rattle.elf_image.specs.Image.{Image}
use Rattle.memtag_desc.specs.declared.interval.Interval.{Interval}
use Rattle.mte_machine.specs.Machine.{clear_flags}
use Rattle.tag_startup.specs.Parts.{load_address, stack_end, loaded_regions, loaded_guard, file_byte}
use Rattle.tag_startup.specs.Tags.{loaded_tag, choices_drawn}
use Rattle.tag_startup.specs.Relocated.{Before, relocated_byte}

-- memory with these tags before the relocations, and its bytes behind them
abbrev pub before_relocations : Image → ℕ → (ℕ → ℕ) → Before
before_relocations image stack tag = record { byte = file_byte image stack; tag = tag; regions = loaded_regions image stack }

unfoldable pub loaded_byte : Image → ℕ → (ℕ → ℕ) → ℕ → ℕ
loaded_byte image stack tag = relocated_byte (before_relocations image stack tag) image.relocs

-- The state of an image with these objects, over this outside: the image and the stack in memory, all registers zero, SP at the
-- end of the stack, PC at the entry.
abbrev pub loaded : Image → List Interval → List ℕ → ℕ → Outside → State
loaded image intervals choices stack outside = record {
  register = λ _. 0;
  sp = stack_end;
  pc = (load_address + image.entry) % 2 ^ 64;
  flags = clear_flags;
  byte = loaded_byte image stack (loaded_tag intervals choices);
  tag = loaded_tag intervals choices;
  regions = loaded_regions image stack;
  guard = loaded_guard stack;
  choices = choices;
  drawn = choices_drawn intervals % length choices;
  outside = outside;
}
