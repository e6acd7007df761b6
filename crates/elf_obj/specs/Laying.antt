-- Laying contents out one after the other, each at the next multiple of 16.
use Rattle.std.specs.Prelude.{ℕ, List, [], ◌∷◌, length}
use Rattle.mt_base.specs.Granules.{round16}
use Rattle.elf_base.specs.Layout.{piece}
use Rattle.elf_base.specs.Laying.{put}

-- one content more
unfoldable pub put_next : List ℕ → List ℕ → List ℕ
put_next bytes out = put (piece (round16 (length out)) bytes) out

abbrev pub put_contents : List (List ℕ) → List ℕ → List ℕ
put_contents [] out = out
put_contents (c ∷ cs) out = put_contents cs (put_next c out)
