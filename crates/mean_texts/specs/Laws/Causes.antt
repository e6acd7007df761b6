-- Why typed files have no meaning.
use Rattle.std.specs.Prelude.{List}
use Rattle.mean_link.specs.LinkFault.{AreLinked, LinkFault}
use Rattle.mean_link.specs.declared.names.FileNames.{FileNames}
use Rattle.mean_texts.specs.declared.refusal.MeanRefusal.{MeanRefusal}
use Rattle.mean_texts.specs.declared.refusal.MeanRefusal.TheVariants.{Compile, Link, Fault, NoMemory}

-- their link is refused, or they were run
abbrev pub IsFilesCause : List FileNames → MeanRefusal → Type 0
IsFilesCause files NoMemory = Unit {0}
IsFilesCause files (Fault fault) = AreLinked files
IsFilesCause files (Link refusal) = LinkFault files refusal
IsFilesCause files (Compile file refusal) = ⊥
