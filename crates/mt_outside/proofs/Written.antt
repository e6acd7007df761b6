-- A piece that is written in several parts.
use Rattle.std.proofs.Common.{◌≡◌, ℕ, ◌-◌, List, ◌++◌, Option, length, take, drop, sym, ap, ◌∙◌, arith, append_assoc, take-append-drop}
use Rattle.std.proofs.Common.{length-append, subst}
use Rattle.std.proofs.lemmas.List.{take_rest}
use Rattle.std.proofs.Math.Seq.{take-append_seam}
use Rattle.std.specs.Io.KnownBytes.{Appends}
use Rattle.mt_outside.specs.StdSink.{AppendsPart}

-- n more bytes go from the rest to what is done
pub moves_front : (all done rest : List ℕ) (n : ℕ) → all ≡ done ++ rest
    → all ≡ (done ++ take n rest) ++ take (length rest - n) (drop n rest)
moves_front all done rest n split =
    split ∙ ap (λ (l : List ℕ). done ++ l) (sym (take-append-drop n rest)) ∙ sym (append_assoc done (take n rest) (drop n rest))
    ∙ ap (λ (l : List ℕ). (done ++ take n rest) ++ l) (sym (take_rest rest n))

-- what is done is a prefix
pub AppendsPart-from_split : (a b : Option (List ℕ)) (all done rest : List ℕ) → all ≡ done ++ rest → Appends a b done → AppendsPart a b all
AppendsPart-from_split a b all done rest split appended = (
  length done,
  omega (arith, ap length split, length-append done rest),
  subst (λ (l : List ℕ). Appends a b l) (sym (ap (λ (l : List ℕ). take (length done) l) split ∙ take-append_seam done rest)) appended,
)
