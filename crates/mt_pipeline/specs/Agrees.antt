-- What the run of an image has to do with the texts that it was built from (this project's own).
use Rattle.std.specs.Prelude.{◌≡◌, ◌⊎◌, ◌≤◌, ℕ, ◌%◌, List, [], ◌∷◌}
use Rattle.a64_code.specs.Outside.{Outside}
use Rattle.a64_code.specs.declared.end.MachineEnd.{MachineEnd}
use Rattle.a64_code.specs.declared.end.MachineEnd.TheVariants.{Exited, OutOfSteps}
use Rattle.elf_image.specs.Image.{Image}
use Rattle.tag_startup.specs.Machine.{Machine, MachineEnds, Ending, launch}
use Rattle.mt_compile.specs.Source.{ReturnsConstant}

-- The texts return this constant: there is one, and it does.
pub record Return (texts : List (List ℕ)) (n : ℕ) : Type 0 where
  pub text : List ℕ
  pub one : texts ≡ text ∷ []
  pub returns : ReturnsConstant text n

-- A run of so many steps that ended so has exited with this status, where three steps may run, and with it or out of steps where
-- fewer may. It has put nothing on the output and taken nothing of the input.
pub record ExitsWith (status steps : ℕ) (outside : Outside) (e : Ending) : Type 0 where
  pub late : 3 ≤ steps → e.end ≡ Exited status
  pub soon : (e.end ≡ Exited status) ⊎ (e.end ≡ OutOfSteps)
  pub puts_nothing : e.output ≡ outside.output
  pub takes_nothing : e.left ≡ outside.answers

-- Whatever the choices, the stack, the steps and the outside are, there is a run of the image, and it does so. It ends the same way
-- over each outside.
pub record ExitsAlways (image : Image) (status : ℕ) : Type 0 where
  pub starts : (choices : List ℕ) (stack steps : ℕ) (outside : Outside) →
      (end : MachineEnd) × MachineEnds (launch image choices stack steps) outside end
  pub exits : (choices : List ℕ) (stack steps : ℕ) (outside : Outside) (e : Ending) →
      Machine (launch image choices stack steps) outside e → ExitsWith status steps outside e
  pub one_end : (choices : List ℕ) (stack steps : ℕ) (outside other : Outside) (end last : MachineEnd) →
      MachineEnds (launch image choices stack steps) outside end → MachineEnds (launch image choices stack steps) other last → end ≡ last

-- Of each constant that the texts return, the image's run exits with it modulo 256.
abbrev pub Agrees : List (List ℕ) → Image → Type 0
Agrees texts image = (n : ℕ) → Return texts n → ExitsAlways image (n % 256)
