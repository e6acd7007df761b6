-- What the words after the program's name can ask for (this project's own). Texts are lists of bytes.
use Rattle.std.specs.Prelude.{ℕ, List}

-- how a program is run: the random choices, which are cycled, at most so many steps, and so many bytes of stack
pub record RunOptions : Type 0 where
  pub choices : List ℕ
  pub steps : ℕ
  pub stack : ℕ

-- how far the meaning of a program is followed: at most so many units of work, and so many bytes of stack
pub record MeanOptions : Type 0 where
  pub work : ℕ
  pub stack : ℕ

pub data Job : Type 0 where
  -- build these sources in memory and run the image
  Go : (files : List (List ℕ)) (options : RunOptions) → Job
  -- build these sources and write the image
  Build : (files : List (List ℕ)) (out : List ℕ) → Job
  -- link these objects and write the image
  Link : (files : List (List ℕ)) (out : List ℕ) → Job
  -- load this image and run it
  Run : (image : List ℕ) (options : RunOptions) → Job
  -- give the meaning of these sources
  Mean : (files : List (List ℕ)) (options : MeanOptions) → Job
  -- print what this ELF file says of memory tagging
  Dump : (file : List ℕ) → Job
  -- print the frames of the functions of this source
  Plan : (file : List ℕ) → Job
