-- Some of a file's words where they stand, with what is known of the symbols that they name (this project's own).
use Rattle.std.specs.Prelude.{◌≡◌, ℕ, ◌+◌, ◌*◌, ◌%◌, ◌^◌, ◌<◌, ◌≤◌, List, ◌++◌, length}
use Rattle.std.proofs.Common.{arith, subst, length-append}
use Rattle.block_meaning.specs.Running.{Function}
use Rattle.code_relation.specs.Follows.{Code}
use Rattle.code_relation.specs.Laws.Placing.{get_front, get_back}
use Rattle.code_relation.specs.Sites.{Given, units_of}
use Rattle.code_relation.specs.Stands.{IsThere}
use Rattle.gen_unit.specs.declared.parts.CodeTarget.{CodeTarget}
use Rattle.gen_unit.specs.declared.parts.CodeTarget.TheVariants as target
use Rattle.gen_unit.specs.Words.{Word, page_kind, got_page_kind}
use Rattle.unit_follows.specs.Placing.{Placing, IsInImage, IsWanted, filled, text_at}
use Rattle.unit_follows.specs.Placed.{HasGot}
use Rattle.unit_follows.specs.Laws.Filled.{filled-append, length-filled}
use Rattle.unit_follows.specs.Laws.Standing.{Standing, Standing-front, Standing-back}

-- a word of the table, on a multiple of 8
pub record IsGot (g : Given) (p : Placing) (unit : ℕ) (t : CodeTarget) : Type 0 where
  pub whole : p.got t % 8 ≡ 0
  pub image : IsInImage p (p.got t) 8
  pub has : HasGot g p unit t

-- a call from so many bytes at an address reaches a function
pub record IsNear (p : Placing) (at bytes : ℕ) (f : Function) : Type 0 where
  pub whole : p.function f % 4 ≡ 0
  pub image : IsInImage p (p.function f) 0
  pub on : p.function f < at + 2 ^ 27
  pub back : at + bytes ≤ p.function f + 2 ^ 27

pub record PlacedWords (c : Code) (p : Placing) (unit at : ℕ) (ws : List Word) : Type 0 where
  pub stands : Standing c at (filled c.given p unit at ws)
  pub load_whole : p.load % 4096 ≡ 0
  pub load_below : p.load < 2 ^ 55
  pub whole : at % 4 ≡ 0
  pub image : IsInImage p at (4 * length ws)
  pub gots : (t : CodeTarget) → IsWanted ws got_page_kind t → IsGot c.given p unit t
  pub texts : (n : ℕ) → IsWanted ws page_kind (target.Text n) → IsInImage p (text_at c.given unit n) 0
  pub functions : (f : Function) → IsThere (units_of c.given) f → IsNear p at (4 * length ws) f

-- ---- in pieces

wanted_front : {kind : ℕ} {t : CodeTarget} (ws vs : List Word) → IsWanted ws kind t → IsWanted (ws ++ vs) kind t
wanted_front ws vs w =
    record { position = w.position; word = w.word; there = get_front ws vs w.position w.word w.there; is = w.is }

wanted_back : {kind : ℕ} {t : CodeTarget} (ws vs : List Word) → IsWanted vs kind t → IsWanted (ws ++ vs) kind t
wanted_back ws vs w =
    record { position = length ws + w.position; word = w.word; there = get_back ws vs w.position w.word w.there; is = w.is }

pub PlacedWords-front : {c : Code} {p : Placing} {unit at : ℕ} (ws vs : List Word) → PlacedWords c p unit at (ws ++ vs) →
    PlacedWords c p unit at ws
PlacedWords-front {c} {p} {unit} {at} ws vs placed = record {
  stands = Standing-front (filled c.given p unit at ws) (filled c.given p unit (at + 4 * length ws) vs)
      (subst (λ is. Standing c at is) (filled-append c.given p unit at ws vs) placed.stands);
  load_whole = placed.load_whole;
  load_below = placed.load_below;
  whole = placed.whole;
  image = record { from = placed.image.from; to = omega (arith, placed.image.to, length-append ws vs) };
  gots = λ t wanted. placed.gots t (wanted_front ws vs wanted);
  texts = λ n wanted. placed.texts n (wanted_front ws vs wanted);
  functions = λ f there. let near = placed.functions f there in
      record { whole = near.whole; image = near.image; on = near.on; back = omega (arith, near.back, length-append ws vs) };
}

pub PlacedWords-back : {c : Code} {p : Placing} {unit at : ℕ} (ws vs : List Word) → PlacedWords c p unit at (ws ++ vs) →
    PlacedWords c p unit (at + 4 * length ws) vs
PlacedWords-back {c} {p} {unit} {at} ws vs placed = record {
  stands = subst (λ n. Standing c (at + 4 * n) (filled c.given p unit (at + 4 * length ws) vs)) (length-filled c.given p unit at ws)
      (Standing-back (filled c.given p unit at ws) (filled c.given p unit (at + 4 * length ws) vs)
      (subst (λ is. Standing c at is) (filled-append c.given p unit at ws vs) placed.stands));
  load_whole = placed.load_whole;
  load_below = placed.load_below;
  whole = omega (arith, placed.whole);
  image = record { from = omega (arith, placed.image.from); to = omega (arith, placed.image.to, length-append ws vs) };
  gots = λ t wanted. placed.gots t (wanted_back ws vs wanted);
  texts = λ n wanted. placed.texts n (wanted_back ws vs wanted);
  functions = λ f there. let near = placed.functions f there in record {
    whole = near.whole;
    image = near.image;
    on = omega (arith, near.on);
    back = omega (arith, near.back, length-append ws vs);
  };
}

pub PlacedWords-at : {c : Code} {p : Placing} {unit at to : ℕ} {ws : List Word} → at ≡ to → PlacedWords c p unit at ws →
    PlacedWords c p unit to ws
PlacedWords-at {c} {p} {unit} {ws = ws} same placed = subst (λ a. PlacedWords c p unit a ws) same placed
