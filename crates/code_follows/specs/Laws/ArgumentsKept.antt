-- The arguments of a call are evaluated one by one, and each is kept in a temp of its own (this project's own).
use Rattle.std.specs.Prelude.{◌≡◌, ℕ, suc, ◌+◌, ◌*◌, ◌≤◌, false, List, [], ◌∷◌, length, map, refl}
use Rattle.std.proofs.Common.{arith, ap, sym, ◌∙◌}
use Rattle.c_type_base.specs.declared.expr.TExpr.{TExpr}
use Rattle.a64_code.specs.declared.instr.Reg.{Reg}
use Rattle.a64_code.specs.State.{State}
use Rattle.frame_layout.specs.Needs.{need, capped_sum, arguments_from, arguments}
use Rattle.block_meaning.specs.Expressions.{value_of, parts_at}
use Rattle.block_meaning.specs.Running.{Result as Result', Goes as Goes', Stops, Run, gives, goes_on, and_then, all_of}
use Rattle.block_meaning.specs.Running.{State as MeaningState}
use Rattle.block_meaning.specs.declared.value.Value.{Value}
use Rattle.code_relation.specs.Kept.{KeepsFrom}
use Rattle.code_relation.specs.Laws.Keeps.{KeepsFrom-bytes, KeepsFrom-then}
use Rattle.code_relation.specs.Sites.{units_of}
use Rattle.code_runs.specs.Bounded.{Account, later}
use Rattle.code_runs.specs.Laws.Bounded.{after}
use Rattle.gen_base.specs.Code.{plain}
use Rattle.gen_base.specs.Waiting.{keep}
use Rattle.gen_expr.specs.Nodes.{keep_arguments}
use Rattle.code_follows.specs.Later.{IsLater}
use Rattle.code_follows.specs.Nodes.{AllFollow}
use Rattle.code_follows.specs.Parts.{Result, On, Goes, coded_in}
use Rattle.code_follows.specs.Scene.{Scene, IsScene, given_in, calls_in, frame_in, IsFree, Lies}
use Rattle.code_follows.specs.Values.{ValueIs}
use Rattle.code_follows.specs.Waits.{HasTemp, KeptIn, IsTemp, WaitingLaws}
use Rattle.code_follows.specs.Laws.Coming.{Came-part, pays-some}
use Rattle.code_follows.specs.Laws.Going.{Goes-same, Goes-part-ran, On-at}
use Rattle.code_follows.specs.Laws.Keeping.{value_lasts, leads_to, ValueIs-later}
use Rattle.code_follows.specs.Laws.Lasting.Words.{later-same, later-then}
use Rattle.code_follows.specs.Laws.Lying.{HasInstrs, Lies-turn, Lies-plain, Lies-none}
use Rattle.code_follows.specs.Laws.Nodes.Operated.{value_part}
use Rattle.code_follows.specs.Laws.Waiting.{HasTemp-kept, On-spare, never}

-- from a temp on, the values of some expressions have their numbers there
abbrev pub AreKept : Scene → ℕ → MeaningState → State → List TExpr → List Value → Type 0
AreKept k t now s [] [] = Unit {0}
AreKept k t now s (e ∷ es) (v ∷ vs) =
    (number : ℕ) × HasTemp k t number s × ValueIs (given_in k) e.ty v now number × AreKept k (suc t) now s es vs
AreKept k t now s _ _ = ⊥

-- Some arguments are still to be evaluated, while so many wait in temps from the first one on: there are temps for all of them, and for
-- what they need.
pub record HasTemps (k : Scene) (first : ℕ) (reg : Reg) (waiting : ℕ) (es : List TExpr) : Type 0 where
  pub low : 9 ≤ reg.0
  pub high : reg.0 ≤ 15
  pub within : first + waiting + length es ≤ (frame_in k).temps
  pub near : first + waiting + length es ≤ 4093
  pub needs : first + arguments_from waiting (map need es) ≤ (frame_in k).temps
  pub needs_near : first + arguments_from waiting (map need es) ≤ 4093

length_needs : (es : List TExpr) → length (map need es) ≡ length es
length_needs [] = refl
length_needs (e ∷ es) = ap suc (length_needs es)

-- none waits yet
pub HasTemps-start : {k : Scene} {first : ℕ} {reg : Reg} (es : List TExpr) → IsFree k (arguments (map need es)) first reg →
    HasTemps k first reg 0 es
HasTemps-start es free = record {
  low = free.low;
  high = free.high;
  within = omega (arith, free.temps, length_needs es);
  near = omega (arith, free.near, length_needs es);
  needs = omega (arith, free.temps);
  needs_near = omega (arith, free.near);
}

one_more : {k : Scene} {first : ℕ} {reg : Reg} (waiting : ℕ) (e : TExpr) (es : List TExpr) → HasTemps k first reg waiting (e ∷ es) →
    capped_sum waiting 1 ≡ waiting + 1
one_more waiting e es temps = omega (arith, temps.near)

HasTemps-next : {k : Scene} {first : ℕ} {reg : Reg} (waiting : ℕ) (e : TExpr) (es : List TExpr) → HasTemps k first reg waiting (e ∷ es) →
    HasTemps k first reg (waiting + 1) es
HasTemps-next {k} {first} waiting e es temps =
    let same : arguments_from (capped_sum waiting 1) (map need es) ≡ arguments_from (waiting + 1) (map need es) =
    ap (λ n. arguments_from n (map need es)) (one_more waiting e es temps) in
    record {
      low = temps.low;
      high = temps.high;
      within = omega (arith, temps.within);
      near = omega (arith, temps.near);
      needs = omega (arith, temps.needs, same);
      needs_near = omega (arith, temps.needs_near, same);
    }

IsFree-next : {k : Scene} {first : ℕ} {reg : Reg} (waiting t : ℕ) (e : TExpr) (es : List TExpr) → t ≡ first + waiting →
    HasTemps k first reg waiting (e ∷ es) → IsFree k (need e) t reg
IsFree-next waiting t e es is temps = record {
  low = temps.low;
  high = temps.high;
  temps = omega (arith, is, temps.needs, temps.needs_near);
  near = omega (arith, is, temps.needs_near);
}

-- one run and all that come behind it
all_of-more : {A B : Type 0} (m : Run A) (ms : List (Run A)) (f : List A → Run B) (now : MeaningState) →
    and_then (all_of (m ∷ ms)) f now ≡ and_then m (λ a. and_then (all_of ms) (λ as'. f (a ∷ as'))) now
all_of-more {A} {B} m ms f now = by_first (m now)
  where
    by_rest : (a : A) (r : Result' (List A)) → goes_on (goes_on r (λ as'. gives (a ∷ as'))) f ≡ goes_on r (λ as'. f (a ∷ as'))
    by_rest a (Goes' as' then) = refl
    by_rest a (Stops why then) = refl

    by_first : (r : Result' A) → goes_on (goes_on r (λ a. and_then (all_of ms) (λ as'. gives (a ∷ as')))) f
        ≡ goes_on r (λ a. and_then (all_of ms) (λ as'. f (a ∷ as')))
    by_first (Goes' a then) = by_rest a (all_of ms then)
    by_first (Stops why then) = refl

-- how an argument runs, with so many levels below
abbrev pub run_of : Scene → ℕ → TExpr → Run Value
run_of k depth = value_of (parts_at (calls_in k) k.here depth)

module _ {C : Type 0} {k : Scene} {first : ℕ} {reg : Reg} {result : Result C} {s : State} {to leaves : ℕ} (scene : IsScene k)
    (waits : WaitingLaws k) (depth : ℕ) where
  -- a register is kept in a temp, from the first one on
  Goes-keeps-at : {a : Account} {spare from middle : ℕ} {m : Run C} {now : MeaningState} {t : State} (at left : ℕ) → first ≤ at →
      IsTemp k at → reg.0 ≤ 15 → HasInstrs k (keep at reg) from middle → On k first reg false s from a 0 spare now t → 1 + left ≤ spare →
      ((u : State) (n : ℕ) → HasTemp k at (t.register reg.0) u → KeepsFrom (units_of (given_in k)) at t u k.here.open_calls →
      On k first reg false s middle (later n a) 0 left now u → Goes k first reg false result s to leaves (later n a) m now u) →
      Goes k first reg false result s to leaves a m now t
  Goes-keeps-at {a} {spare} {from} {middle} {m} {now} {t} at left above temp low has on fits more =
      go (waits.keeps at reg from middle now t temp low has on.came.comes.relates on.came.comes.pc)
    where
      go : KeptIn k at reg middle now t → Goes k first reg false result s to leaves a m now t
      go kept = record {
        bounded = after kept.led (more kept.state kept.steps kept.has kept.comes.kept (record {
          came = Came-part {sub_reg = reg} {sub_alone = false} above never
              (record { comes = kept.comes; registers = λ alone. never alone }) on.came;
          least = omega (arith, on.least);
          most = omega (arith, on.most, kept.few, fits);
          within = on.within;
        })).bounded;
      }

  -- Each leaves 3 steps at least, and what waits keeps its number while the others run.
  pub Goes-arguments : (es : List TExpr) (waiting t : ℕ) {a : Account} {spare from middle : ℕ} {f : List Value → Run C} {now : MeaningState}
      {u : State} → AllFollow k depth es → t ≡ first + waiting → HasTemps k first reg waiting es →
      Lies k (keep_arguments t reg (map (coded_in k) es)) from middle → On k first reg false s from a 0 spare now u →
      ((vs : List Value) (last : MeaningState) (w : State) (c : Account) →
      On k first reg false s middle c 0 (spare + 3 * length es) last w →
      AreKept k t last w es vs → KeepsFrom (units_of (given_in k)) t u w k.here.open_calls → IsLater now last →
      Goes k first reg false result s to leaves c (f vs) last w) →
      Goes k first reg false result s to leaves a (and_then (all_of (map (run_of k depth) es)) f) now u
  Goes-arguments [] waiting t {a} {now = now} {u} all is temps lies on more =
      Goes-same refl (more [] now u a (On-at (sym lies.from_is ∙ lies.to_is) (On-spare _ (omega arith) on)) tt
      (KeepsFrom-bytes (units_of (given_in k)) t u u k.here.open_calls refl) (later-same now))
  Goes-arguments (e ∷ es) waiting t {spare = spare} {from} {f = f} {now} {u} all is temps lies on more =
      let value = (coded_in k e).value t reg in
      let others = keep_arguments (suc t) reg (map (coded_in k) es) in
      let one = Lies-turn value (plain (keep t reg) ∷ others ∷ []) lies in
      let two = Lies-turn (plain (keep t reg)) (others ∷ []) one.back in
      let three = Lies-turn others [] two.back in
      let temp : IsTemp k t = record { within = omega (arith, is, temps.within); near = omega (arith, is, temps.near) } in
      Goes-same (all_of-more (run_of k depth e) (map (run_of k depth) es) f now)
      (Goes-part-ran ((value_part e all.0).yields t reg from one.middle (IsFree-next waiting t e es is temps) one.front) (omega (arith, is))
      never (pays-some scene) on
      (λ v then w n came gave ran.
      Goes-keeps-at t (spare + 3) (omega (arith, is)) temp temps.high (Lies-plain (keep t reg) two.front) came (omega arith)
      (λ x q has kept moved_on.
      Goes-arguments es (waiting + 1) (suc t) {f = λ vs. f (v ∷ vs)} all.1 (omega (arith, is)) (HasTemps-next waiting e es temps)
      three.front moved_on
      (λ vs last y c done rest keeps is_later.
      more (v ∷ vs) last y c (On-at (Lies-none three.back) (On-spare _ (omega arith) done))
      (w.register reg.0, HasTemp-kept keeps has, ValueIs-later came.came.comes.relates.injects.stands is_later gave.result_is, rest)
      (KeepsFrom-then (units_of (given_in k)) t t t u w y k.here.open_calls (omega arith) (omega arith) gave.came.comes.kept
      (KeepsFrom-then (units_of (given_in k)) t t (suc t) w x y k.here.open_calls (omega arith) (omega arith) kept keeps))
      (later-then (leads_to (value_lasts k.bound k.here depth e.span e) ran) is_later)))))
