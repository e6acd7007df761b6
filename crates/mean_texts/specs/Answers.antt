-- What `mean_texts` answers, by what the texts mean.
use Rattle.std.specs.Prelude.{ℕ, List, Option, Result, Ok, Err}
use Rattle.block_meaning.specs.Meaning.{Outcome}
use Rattle.mean_program.specs.Answers.{EndIs, Leaves, PutPart}
use Rattle.mean_program.specs.declared.end.MeanEnd.{MeanEnd}
use Rattle.mean_texts.specs.Refusal.{AreRefused}
use Rattle.mean_texts.specs.Texts.{AreTogether}
use Rattle.mean_texts.specs.declared.refusal.MeanRefusal.{MeanRefusal}
use Rattle.mean_texts.specs.declared.refusal.MeanRefusal.TheVariants.{Compile, Link, Fault, NoMemory}

-- The answer to something that means this, over what the sink had taken before, and what the source has left and the sink has taken
-- after: it is how the program ends, or want of memory or a fault, after a part of its output.
abbrev pub TextsGive : List ℕ → Outcome → Result MeanEnd MeanRefusal → Option (List ℕ) → Option (List ℕ) → Type 0
TextsGive before o (Ok e) input output = EndIs e o.end × Leaves before o input output
TextsGive before o (Err NoMemory) input output = PutPart before o output
TextsGive before o (Err (Fault fault)) input output = PutPart before o output
TextsGive before o (Err (Link refusal)) input output = ⊥
TextsGive before o (Err (Compile file refusal)) input output = ⊥

-- each refusal has its cause; that of a fault is a count that rose, which other clauses say
abbrev pub IsCause : List (List ℕ) → MeanRefusal → Type 0
IsCause texts NoMemory = Unit {0}
IsCause texts (Fault fault) = AreTogether texts
IsCause texts refusal = AreRefused texts refusal

-- no refusal of the texts or of their link
abbrev pub IsLate : MeanRefusal → Type 0
IsLate NoMemory = Unit {0}
IsLate (Fault fault) = Unit {0}
IsLate _ = ⊥
