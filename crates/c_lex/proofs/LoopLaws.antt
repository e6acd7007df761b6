-- What is read at a place that is reached leads on.
use Rattle.std.proofs.Common.{◌≡◌, ℕ, ◌+◌, ◌<◌, ◌≤◌, List, ◌∷◌, [], ◌++◌, length, take, drop, get_or, refl, arith, length-drop}
use Rattle.c_ast.specs.declared.token.Lexeme.{Lexeme}
use Rattle.c_ast.specs.Seen.{Seen}
use Rattle.c_lex.specs.declared.fault.Fault.{Fault as Faults}
use Rattle.c_lex.specs.declared.reading.Line.{Line}
use Rattle.c_lex.specs.declared.reading.Line.TheVariants.{Clear, Used}
use Rattle.c_lex.specs.declared.reading.Reading.TheVariants.{Gap, Token, Fault}
use Rattle.c_lex.specs.Scan.Words.{line_behind}
use Rattle.c_lex.specs.Scan.Reading.{read}
use Rattle.c_lex.specs.Tokens.{Reaches, start, gap, token, FirstFault}
use Rattle.c_lex.specs.Laws.Standing.{Standing, standing-start, standing-gap, standing-token}
use Rattle.c_lex.specs.Laws.TokenLaws.{sound_token, faulty_read}
use Rattle.c_lex.specs.Laws.ReadLaws.{reads-gap, gap-fits, fault-fits, reads-token}

-- some bytes behind a place, which are there
pub record Goes (text : List ℕ) (place bytes : ℕ) : Type 0 where
  pub some : 0 < bytes
  pub within : place + bytes ≤ length text

-- the text before a place is gaps and these tokens, with this before the place on its line
pub record Arrives (text : List ℕ) (place : ℕ) (line : Line) (tokens : List Seen) : Type 0 where
  pub reached : Reaches text place tokens
  pub standing : Standing text tokens place line

pub arrives-start : (text : List ℕ) → Arrives text 0 Clear []
arrives-start text = record { reached = start; standing = standing-start text }

module _ (text : List ℕ) (place : ℕ) (line : Line) (inside : place < length text) where
  pub rest_some : 0 < length (drop place text)
  rest_some = omega (arith, length-drop place text)

  pub gap-goes : (bytes : ℕ) → read line (drop place text) ≡ Gap bytes → Goes text place bytes
  gap-goes bytes is =
      let fits = gap-fits (drop place text) bytes (reads-gap line (drop place text) bytes rest_some is) in
      record { some = fits.0; within = omega (arith, fits.1, length-drop place text) }

  pub gap-reached : (tokens : List Seen) (bytes : ℕ) → Arrives text place line tokens → read line (drop place text) ≡ Gap bytes
      → Arrives text (place + bytes) (line_behind line (get_or (drop place text) 0 0)) tokens
  gap-reached tokens bytes here is =
      let gap_is = reads-gap line (drop place text) bytes rest_some is in
      record { reached = gap bytes here.reached gap_is; standing = standing-gap text tokens place bytes line here.standing gap_is }

  pub token-goes : (kind : Lexeme) (bytes : ℕ) → read line (drop place text) ≡ Token kind bytes → Goes text place bytes
  token-goes kind bytes is =
      let here = reads-token line (drop place text) kind bytes rest_some is in
      record { some = here.some; within = omega (arith, here.within, length-drop place text) }

  pub token-reached : (tokens : List Seen) (kind : Lexeme) (bytes : ℕ) → Arrives text place line tokens
      → read line (drop place text) ≡ Token kind bytes →
      Arrives text (place + bytes) Used (tokens ++ record { kind = kind; bytes = take bytes (drop place text); start = place } ∷ [])
  token-reached tokens kind bytes here is =
      let token_is = reads-token line (drop place text) kind bytes rest_some is in
      record {
        reached = token kind bytes here.reached token_is (sound_token text tokens place line here.standing kind bytes is);
        standing = standing-token text tokens place bytes kind token_is.within;
      }

  pub fault-within : (what : Faults) (offset : ℕ) → read line (drop place text) ≡ Fault what offset → place + offset ≤ length text
  fault-within what offset is = omega (arith, fault-fits line (drop place text) what offset rest_some is, length-drop place text)

  pub fault-first : (tokens : List Seen) (what : Faults) (offset : ℕ) → Arrives text place line tokens
      → read line (drop place text) ≡ Fault what offset → FirstFault text what (place + offset)
  fault-first tokens what offset here is = record {
    place = place;
    tokens = tokens;
    offset = offset;
    reached = here.reached;
    faulty = faulty_read text tokens place line here.standing what offset rest_some is;
    there = refl;
  }
