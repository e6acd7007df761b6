-- A value waits for another: in a register that the other's code leaves, or in a temp (this project's own).
use Rattle.std.specs.Prelude.{◌≡◌, ℕ, suc, ◌+◌, ◌*◌, ◌^◌, ◌<◌, ◌≤◌, Bool, true, false, List, [], ◌∷◌, Some, refl, if◌then◌else◌}
use Rattle.std.proofs.Common.{arith, ap, sym, subst, ◌∙◌}
use Rattle.std.proofs.lemmas.Bool.{lt-ltb}
use Rattle.c_type_base.specs.declared.ty.Ty.{Ty}
use Rattle.a64_code.specs.declared.instr.Reg.{Reg}
use Rattle.a64_code.specs.State.{State}
use Rattle.block_meaning.specs.Locals.{latest}
use Rattle.block_meaning.specs.Running.{Call, Run, and_then, State as MeaningState}
use Rattle.code_relation.specs.Kept.{KeepsFrom}
use Rattle.code_relation.specs.Sites.{units_of}
use Rattle.code_relation.specs.Stands.{Stands}
use Rattle.code_runs.specs.Bounded.{Account, later}
use Rattle.code_runs.specs.Laws.Bounded.{after}
use Rattle.gen_base.specs.Code.{plain, in_turn}
use Rattle.gen_base.specs.Registers.{move}
use Rattle.gen_base.specs.Waiting.{keep, fetch}
use Rattle.gen_expr.specs.Coded.{Emits, Coded}
use Rattle.gen_expr.specs.Nodes.{first_waits}
use Rattle.gen_laws.specs.Computes.{Computes, all}
use Rattle.gen_laws.specs.Laws.Computing.{Computes-put, Computes-is}
use Rattle.mt_base.specs.Memory.{load}
use Rattle.code_relation.specs.Calls.{lowest}
use Rattle.a64_laws.specs.Laws.Results.{moved}
use Rattle.code_follows.specs.Later.{IsLater, Lasts, Ran}
use Rattle.code_follows.specs.Parts.{Result, On, Goes, Part}
use Rattle.code_follows.specs.Scene.{Scene, given_in, IsScene, IsFree, Lies}
use Rattle.code_follows.specs.Values.{ValueIs, PlaceIs}
use Rattle.code_follows.specs.Waits.{HasTemp, KeptIn, IsTemp, WaitingLaws}
use Rattle.code_follows.specs.Laws.Coming.{Came-part, pays-some}
use Rattle.code_follows.specs.Laws.Computing.{Suits-other}
use Rattle.code_follows.specs.Laws.Going.{Goes-part, Goes-part-ran, Goes-list, Goes-computes, On-at}
use Rattle.code_follows.specs.Laws.Keeping.{leads_to, ValueIs-later, PlaceIs-later}
use Rattle.code_follows.specs.Laws.Lying.{HasInstrs, Lies-turn, Lies-plain, Lies-none}
use Rattle.code_follows.specs.Laws.Walking.{Short}

-- what keeps the temps before the next one keeps this one
pub HasTemp-kept : {k : Scene} {t value : ℕ} {s u : State} → KeepsFrom (units_of (given_in k)) (suc t) s u k.here.open_calls →
    HasTemp k t value s → HasTemp k t value u
HasTemp-kept {k} {t} {value} {s} {u} kept has = record { is = λ c open_is. by_calls k.here.open_calls kept c open_is (has.is c open_is) }
  where
    by_calls : (cs : List Call) → KeepsFrom (units_of (given_in k)) (suc t) s u cs → (c : Call) → latest cs ≡ Some c →
        load 8 s.byte (lowest c + (24 + 8 * t)) ≡ value → load 8 u.byte (lowest c + (24 + 8 * t)) ≡ value
    by_calls [] kept c is held = absurd (cc)
    by_calls (d ∷ ds) kept c is held =
        let same : d ≡ c = cc in
        subst (λ x. load 8 s.byte (lowest x + (24 + 8 * t)) ≡ value → load 8 u.byte (lowest x + (24 + 8 * t)) ≡ value) same
        (λ there. kept.1 t (omega arith) ∙ there) held

pub fetch_short : (t : ℕ) (r : Reg) → t ≤ 4092 → Short 1 (fetch t r)
fetch_short t r near = rw (lt-ltb (3 + t) 4096 (let e : 3 + t < 4096 = omega (arith, near) in e))
    (record { quiet = refl; few = omega arith })

pub move_computes : (from into : Reg) (s : State) → from.0 < 31 → into.0 < 31 → s.pc < 2 ^ 56 →
    Computes (move from into ∷ []) into (s.register from.0) all s
move_computes from into s first small near =
    Computes-put (move from into) into (s.register from.0) s (moved from into s first small) (omega (arith, near))

pub never : {X : Type 0} → false ≡ true → X
never is = absurd (cc)

-- ---- the words of a run

pub On-spare : {k : Scene} {first : ℕ} {reg : Reg} {alone : Bool} {s : State} {a : Account} {owes spare at : ℕ} {now : MeaningState}
    {t : State} (less : ℕ) → less ≤ spare → On k first reg alone s at a owes spare now t → On k first reg alone s at a owes less now t
On-spare less fits on = record { came = on.came; least = on.least; most = omega (arith, on.most, fits); within = on.within }

-- what a run gives is the same in later states
pub record IsLasting {A : Type 0} (k : Scene) (result : Result A) : Type 0 where
  pub lasts : (now later : MeaningState) (v : A) (n : ℕ) → Stands (given_in k) k.here now → IsLater now later → result v now n →
      result v later n

pub values_last : (k : Scene) (t : Ty) → IsLasting k (ValueIs (given_in k) t)
values_last k t = record { lasts = λ now later v n stands is_later is. ValueIs-later stands is_later is }

pub places_last : (k : Scene) → IsLasting k (PlaceIs (given_in k))
places_last k = record { lasts = λ now later p n stands is_later is. PlaceIs-later stands is_later is }

module _ {C : Type 0} {k : Scene} {first : ℕ} {reg : Reg} {result : Result C} {s : State} {to leaves : ℕ} (scene : IsScene k)
    (waits : WaitingLaws k) where
  -- a register is kept in a temp
  Goes-keeps : {a : Account} {spare from middle : ℕ} {m : Run C} {now : MeaningState} {t : State} (left : ℕ) → IsTemp k first →
      reg.0 ≤ 15 → HasInstrs k (keep first reg) from middle → On k first reg false s from a 0 spare now t → 1 + left ≤ spare →
      ((u : State) (n : ℕ) → HasTemp k first (t.register reg.0) u → u.register ≡ t.register →
      On k first reg false s middle (later n a) 0 left now u → Goes k first reg false result s to leaves (later n a) m now u) →
      Goes k first reg false result s to leaves a m now t
  Goes-keeps {a} {spare} {from} {middle} {m} {now} {t} left temp low has on fits more =
      go (waits.keeps first reg from middle now t temp low has on.came.comes.relates on.came.comes.pc)
    where
      go : KeptIn k first reg middle now t → Goes k first reg false result s to leaves a m now t
      go kept = record {
        bounded = after kept.led (more kept.state kept.steps kept.has kept.registers (record {
          came = Came-part {sub_reg = reg} {sub_alone = false} (omega arith) never
              (record { comes = kept.comes; registers = λ alone. never alone }) on.came;
          least = omega (arith, on.least);
          most = omega (arith, on.most, kept.few, fits);
          within = on.within;
        })).bounded;
      }

  -- The first value waits while the second is evaluated, and then both are in registers. It is known that the second run gave its value.
  pub Goes-waits-ran : {A B : Type 0} {a : Account} {spare from middle needs_a needs_b : ℕ} {alone_a : Bool} {result_a : Result A}
      {result_b : Result B} {m : Run A} {n : Run B} {f : A → B → Run C} {now : MeaningState} {t : State} (into : Reg) (e : Emits)
      (b : Coded) → 16 ≤ into.0 → into.0 ≤ 17 → Part k e needs_a 4 alone_a result_a m → Part k b.value needs_b 4 b.alone result_b n →
      IsFree k needs_a first reg → IsFree k (needs_b + 1) first reg → Lies k (first_waits into e b first reg) from middle →
      On k first reg false s from a 0 spare now t →
      ((x : A) (between : MeaningState) (y : B) (behind : MeaningState) (u : State) (c : Account) (number : ℕ) →
      On k first reg false s middle c 0 6 behind u → result_a x between number → u.register into.0 ≡ number →
      result_b y behind (u.register reg.0) → Stands (given_in k) k.here between → Ran n between y behind →
      Goes k first reg false result s to leaves c (f x y) behind u) →
      Goes k first reg false result s to leaves a (and_then m (λ x. and_then n (f x))) now t
  Goes-waits-ran {a = a} {spare} {from} {middle} {needs_b = needs_b} {result_b = result_b} {m} {n} {f} {now} {t} into e b high top
      pa pb free_a free_b lies on more =
      by_alone b.alone lies pb
    where
      by_alone : (flag : Bool) → Lies k (if flag then in_turn (e first reg ∷ plain (move reg into ∷ []) ∷ b.value first reg ∷ []) else
          in_turn (e first reg ∷ plain (keep first reg) ∷ b.value (suc first) reg ∷ plain (fetch first into) ∷ [])) from middle →
          Part k b.value needs_b 4 flag result_b n → Goes k first reg false result s to leaves a (and_then m (λ x. and_then n (f x))) now t
      by_alone true lies pb =
          let one = Lies-turn (e first reg) (plain (move reg into ∷ []) ∷ b.value first reg ∷ []) lies in
          let two = Lies-turn (plain (move reg into ∷ [])) (b.value first reg ∷ []) one.back in
          let three = Lies-turn (b.value first reg) [] two.back in
          let free : IsFree k needs_b first reg = record {
            low = free_b.low;
            high = free_b.high;
            temps = omega (arith, free_b.temps);
            near = omega (arith, free_b.near);
          } in
          Goes-part (pa.yields first reg from one.middle free_a one.front) (omega arith) never (pays-some scene) on
          (λ x between u p came gave.
          Goes-list {most = 1} 3 (Lies-plain (move reg into ∷ []) two.front) (record { quiet = refl; few = omega arith })
          (λ w same near. Computes-is (ap (λ g. g reg.0) same) (move_computes reg into w (omega (arith, free_a.high)) (omega
          (arith, top)) near))
          (Suits-other reg into all (omega (arith, top)) tt) came (omega arith) (omega arith)
          (λ w q holds others moved_on.
          Goes-part-ran (pb.yields first reg two.middle three.middle free three.front) (omega arith) never (pays-some scene) moved_on
          (λ y behind z r came_b gave_b ran.
          more x between y behind z _ (u.register reg.0) (On-at (Lies-none three.back) (On-spare 6 (omega arith) came_b)) gave.result_is
          (gave_b.came.registers refl into.0 (λ same. omega (arith, same, high, free_a.high)) ∙ holds) gave_b.result_is
          came.came.comes.relates.injects.stands ran)))
      by_alone false lies pb =
          let one = Lies-turn (e first reg) (plain (keep first reg) ∷ b.value (suc first) reg ∷ plain (fetch first into) ∷ []) lies in
          let two = Lies-turn (plain (keep first reg)) (b.value (suc first) reg ∷ plain (fetch first into) ∷ []) one.back in
          let three = Lies-turn (b.value (suc first) reg) (plain (fetch first into) ∷ []) two.back in
          let four = Lies-turn (plain (fetch first into)) [] three.back in
          let temp : IsTemp k first =
          record { within = omega (arith, free_b.temps); near = omega (arith, free_b.near) } in
          let free : IsFree k needs_b (suc first) reg = record {
            low = free_b.low;
            high = free_b.high;
            temps = omega (arith, free_b.temps);
            near = omega (arith, free_b.near);
          } in
          Goes-part (pa.yields first reg from one.middle free_a one.front) (omega arith) never (pays-some scene) on
          (λ x between u p came gave.
          Goes-keeps 3 temp free_a.high (Lies-plain (keep first reg) two.front) came (omega arith) (λ w q has same moved_on.
          Goes-part-ran (pb.yields (suc first) reg two.middle three.middle free three.front) (omega arith) never
          (pays-some scene) moved_on
          (λ y behind z r came_b gave_b ran.
          let held : HasTemp k first (u.register reg.0) z = HasTemp-kept gave_b.came.comes.kept has in
          let fetched : Computes (fetch first into) into (u.register reg.0) all z =
          waits.fetches first (u.register reg.0) into three.middle four.middle behind z temp (omega (arith, top))
          (Lies-plain (fetch first into) four.front) came_b.came.comes.relates came_b.came.comes.pc held in
          Goes-computes 6 (Lies-plain (fetch first into) four.front) (fetch_short first into temp.near).quiet fetched
          (Suits-other reg into all (omega (arith, top)) tt) came_b (omega arith)
          (omega (arith, (fetch_short first into temp.near).few))
          (λ done. more x between y behind fetched.to _ (u.register reg.0) (On-at (Lies-none four.back) done) gave.result_is fetched.holds
          (subst (λ number. result_b y behind number)
          (sym (fetched.registers reg.0 (λ same. omega (arith, same, high, free_a.high)) tt)) gave_b.result_is)
          came.came.comes.relates.injects.stands ran))))

  -- the same, where that does not count
  pub Goes-waits : {A B : Type 0} {a : Account} {spare from middle needs_a needs_b : ℕ} {alone_a : Bool} {result_a : Result A}
      {result_b : Result B} {m : Run A} {n : Run B} {f : A → B → Run C} {now : MeaningState} {t : State} (into : Reg) (e : Emits)
      (b : Coded) → 16 ≤ into.0 → into.0 ≤ 17 → Part k e needs_a 4 alone_a result_a m → Part k b.value needs_b 4 b.alone result_b n →
      IsFree k needs_a first reg → IsFree k (needs_b + 1) first reg → Lies k (first_waits into e b first reg) from middle →
      On k first reg false s from a 0 spare now t →
      ((x : A) (between : MeaningState) (y : B) (behind : MeaningState) (u : State) (c : Account) (number : ℕ) →
      On k first reg false s middle c 0 6 behind u → result_a x between number → u.register into.0 ≡ number →
      result_b y behind (u.register reg.0) → Goes k first reg false result s to leaves c (f x y) behind u) →
      Goes k first reg false result s to leaves a (and_then m (λ x. and_then n (f x))) now t
  Goes-waits {f = f} into e b high top pa pb free_a free_b lies on more =
      Goes-waits-ran {f = f} into e b high top pa pb free_a free_b lies on
      (λ x between y behind u c number came first into_is second stands ran. more x between y behind u c number came first into_is second)

  -- The second run leads to a later state, in which the first value has the number that it had.
  pub Goes-waits-kept : {A B : Type 0} {a : Account} {spare from middle needs_a needs_b : ℕ} {alone_a : Bool} {result_a : Result A}
      {result_b : Result B} {m : Run A} {n : Run B} {f : A → B → Run C} {now : MeaningState} {t : State} (into : Reg) (e : Emits)
      (b : Coded) → 16 ≤ into.0 → into.0 ≤ 17 → Lasts n → IsLasting k result_a → Part k e needs_a 4 alone_a result_a m →
      Part k b.value needs_b 4 b.alone result_b n →
      IsFree k needs_a first reg → IsFree k (needs_b + 1) first reg → Lies k (first_waits into e b first reg) from middle →
      On k first reg false s from a 0 spare now t →
      ((x : A) (y : B) (behind : MeaningState) (u : State) (c : Account) (number : ℕ) →
      On k first reg false s middle c 0 6 behind u → result_a x behind number → u.register into.0 ≡ number →
      result_b y behind (u.register reg.0) → Goes k first reg false result s to leaves c (f x y) behind u) →
      Goes k first reg false result s to leaves a (and_then m (λ x. and_then n (f x))) now t
  Goes-waits-kept {result_a = result_a} {f = f} into e b high top lasts kept pa pb free_a free_b lies on more =
      Goes-waits-ran {f = f} into e b high top pa pb free_a free_b lies on
      (λ x between y behind u c number came first into_is second stands ran.
      more x y behind u c number came (kept.lasts between behind x number stands (leads_to lasts ran) first) into_is second)
