-- Objects of which each part may be counted in bytes.
use Rattle.std.specs.Prelude.{◌+◌, ◌*◌, ◌<◌, ◌^◌, length}
use Rattle.elf_obj.specs.Object.{Object}
use Rattle.elf_obj.specs.Sections.{names_end}

pub record IsSmall (p : Object) : Type 0 where
  pub words : 4 * length p.words < 2 ^ 64
  pub symbols : 24 * (length p.symbols + 1) < 2 ^ 64
  pub names : names_end 1 p.symbols < 2 ^ 64
  pub text_relocs : 24 * length p.text_relocs < 2 ^ 64
  pub init_relocs : 24 * length p.init_relocs < 2 ^ 64
  pub tagged : 24 * length p.tagged < 2 ^ 64
