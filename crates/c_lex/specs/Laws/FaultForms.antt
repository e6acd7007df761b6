-- The faults of the definitions are those by what the scanner finds.
use Rattle.std.proofs.Common.{◌≡◌, ◌≢◌, ℕ, List, drop, get_or, ◌+◌, eqb, false, refl, subst, sym, ◌∙◌}
use Rattle.std.proofs.lemmas.Bool.{eqb-false}
use Rattle.c_lex.specs.declared.fault.Fault.{Fault}
use Rattle.c_lex.specs.declared.fault.Fault.TheVariants.{BadByte, NumberTooLarge}
use Rattle.c_lex.specs.Faults.{IsWrong, unwritten, large, AreItems, none, more, FaultAt, stray, unclosed_comment, unfit_number}
use Rattle.c_lex.specs.Faults.{wrong_in_text, unclosed_text, empty_character, wrong_in_character, long_character, unclosed_quote}
use Rattle.c_lex.specs.Faults.{large_number, unclosed_character}
use Rattle.c_lex.specs.Scan.Numeral.{numeral_at}
use Rattle.c_lex.specs.Laws.Constants.{numeral-integer}
use Rattle.c_lex.specs.Laws.NumberFaults.{at-digit, digit-at, no-numeral, no-integer, numeral-fits, fits-numeral, integer-found, no-type}
use Rattle.c_lex.specs.Laws.NumberFaults.{no-constant}
use Rattle.c_lex.specs.Laws.ScannedFaults as scanned
use Rattle.c_lex.specs.Laws.ItemFaults.{IsWrongAs, item-wrong, wrong-item}
use Rattle.c_lex.specs.Laws.Items.{byte-written, large-written, bad-unwritten, written-byte, written-large, unwritten-bad}

module _ (quote : ℕ) (usual : eqb 92 quote ≡ false) where
  wrong-scanned : (rest : List ℕ) (what : Fault) → IsWrong quote rest what → scanned.IsWrong quote rest what
  wrong-scanned rest _ (unwritten never other goes) =
      subst (IsWrongAs quote rest) (unwritten-bad quote usual rest never other goes) (item-wrong quote rest)
  wrong-scanned rest _ (large {value = value} {bytes = bytes} written big) =
      subst (IsWrongAs quote rest) (written-large quote usual rest value bytes written big) (item-wrong quote rest)

  bad_by : (rest : List ℕ) → scanned.IsWrong quote rest BadByte → get_or rest 0 0 ≢ quote → IsWrong quote rest BadByte
  bad_by rest bad other = let parts = bad-unwritten quote usual rest (wrong-item quote usual rest BadByte bad) in
      unwritten parts.0 other parts.1

  large_by : (rest : List ℕ) → scanned.IsWrong quote rest NumberTooLarge → IsWrong quote rest NumberTooLarge
  large_by rest bad = let parts = large-written quote usual rest (wrong-item quote usual rest NumberTooLarge bad) in large parts.2 parts.3

  scanned-wrong : (rest : List ℕ) (what : Fault) → scanned.IsWrong quote rest what → IsWrong quote rest what
  scanned-wrong rest _ (scanned.byte line other bare odd) = bad_by rest (scanned.byte line other bare odd) other
  scanned-wrong rest _ (scanned.escape slash letter octals hexes goes) =
      bad_by rest (scanned.escape slash letter octals hexes goes) (λ e. eqb-false 92 quote usual (sym slash ∙ e))
  scanned-wrong rest _ (scanned.octal slash some over) = large_by rest (scanned.octal slash some over)
  scanned-wrong rest _ (scanned.hexadecimal slash begins over) = large_by rest (scanned.hexadecimal slash begins over)

  items-scanned : (rest : List ℕ) (place : ℕ) → AreItems quote rest place → scanned.AreItems quote rest place
  items-scanned rest _ none = scanned.none
  items-scanned rest _ (more {place = place} value bytes items written small) =
      scanned.more value bytes (items-scanned rest place items) (written-byte quote usual (drop place rest) value bytes written small)

  scanned-items : (rest : List ℕ) (place : ℕ) → scanned.AreItems quote rest place → AreItems quote rest place
  scanned-items rest _ scanned.none = none
  scanned-items rest _ (scanned.more {place = place} value bytes items is) =
      let written = byte-written quote usual (drop place rest) value bytes is in
      more value bytes (scanned-items rest place items) written.0 written.1

pub fault-scanned : (rest : List ℕ) (what : Fault) (place : ℕ) → FaultAt rest what place → scanned.FaultAt rest what place
fault-scanned rest _ _ (stray some other apart never) = scanned.stray some other apart never
fault-scanned rest _ _ (unclosed_comment begins open_end) = scanned.unclosed_comment begins open_end
fault-scanned rest _ _ (unfit_number at never fits) =
    subst (scanned.FaultAt rest BadByte) (fits-numeral at fits) (scanned.unfit_number (at-digit at) (no-numeral at never))
fault-scanned rest _ _ (large_number at i never) = scanned.large_number (at-digit at) (integer-found at i) (no-type at i never)
fault-scanned rest _ _ (wrong_in_text {what = what} {place = place} is items bad) =
    scanned.wrong_in_text is (items-scanned 34 refl (drop 1 rest) place items) (wrong-scanned 34 refl (drop (1 + place) rest) what bad)
fault-scanned rest _ _ (unclosed_text {place = place} is items ends) =
    scanned.unclosed_text is (items-scanned 34 refl (drop 1 rest) place items) ends
fault-scanned rest _ _ (empty_character is next) = scanned.empty_character is next
fault-scanned rest _ _ (wrong_in_character {what = what} is bad) = scanned.wrong_in_character is
    (wrong-scanned 39 refl (drop 1 rest) what bad)
fault-scanned rest _ _ (long_character {value = value} {bytes = bytes} is written small other goes) =
    scanned.long_character is (written-byte 39 refl (drop 1 rest) value bytes written small) other goes
fault-scanned rest _ _ (unclosed_quote is ends) = scanned.unclosed_quote is ends
fault-scanned rest _ _ (unclosed_character {value = value} {bytes = bytes} is written small ends) =
    scanned.unclosed_character is (written-byte 39 refl (drop 1 rest) value bytes written small) ends

pub scanned-fault : (rest : List ℕ) (what : Fault) (place : ℕ) → scanned.FaultAt rest what place → FaultAt rest what place
scanned-fault rest _ _ (scanned.stray some other apart never) = stray some other apart never
scanned-fault rest _ _ (scanned.unclosed_comment begins open_end) = unclosed_comment begins open_end
scanned-fault rest _ _ (scanned.unfit_number digit unfit) =
    unfit_number (digit-at rest digit) (no-integer rest unfit) (numeral-fits rest digit)
scanned-fault rest _ _ (scanned.large_number digit numeral over) =
    large_number (digit-at rest digit) (numeral-integer (numeral_at rest) numeral) (no-constant rest over)
scanned-fault rest _ _ (scanned.wrong_in_text {what = what} {place = place} is items bad) =
    wrong_in_text is (scanned-items 34 refl (drop 1 rest) place items) (scanned-wrong 34 refl (drop (1 + place) rest) what bad)
scanned-fault rest _ _ (scanned.unclosed_text {place = place} is items ends) =
    unclosed_text is (scanned-items 34 refl (drop 1 rest) place items) ends
scanned-fault rest _ _ (scanned.empty_character is next) = empty_character is next
scanned-fault rest _ _ (scanned.wrong_in_character {what = what} is bad) = wrong_in_character is
    (scanned-wrong 39 refl (drop 1 rest) what bad)
scanned-fault rest _ _ (scanned.long_character {value = value} {bytes = bytes} is first other goes) =
    let written = byte-written 39 refl (drop 1 rest) value bytes first in long_character is written.0 written.1 other goes
scanned-fault rest _ _ (scanned.unclosed_quote is ends) = unclosed_quote is ends
scanned-fault rest _ _ (scanned.unclosed_character {value = value} {bytes = bytes} is first ends) =
    let written = byte-written 39 refl (drop 1 rest) value bytes first in unclosed_character is written.0 written.1 ends
