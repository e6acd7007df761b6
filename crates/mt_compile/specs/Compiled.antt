-- The code of a text (this project's own): today it moves a constant into register 0 and ends the program.
use Rattle.std.specs.Prelude.{◌≡◌, ℕ, List}
use Rattle.elf_image.specs.Constant.{constant_code}
use Rattle.mt_compile.specs.Source.{ReturnsOnly}

-- the words are the code of the one constant that the text returns
pub record Compiled (text code : List ℕ) : Type 0 where
  pub constant : ℕ
  pub returns : ReturnsOnly text constant
  pub is : code ≡ constant_code constant
