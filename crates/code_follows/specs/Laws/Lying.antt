-- The pieces of code, where the whole stands (this project's own).
use Rattle.std.specs.Prelude.{◌≡◌, ℕ, zero, suc, ◌+◌, ◌*◌, List, [], ◌∷◌, length, map, Some, refl}
use Rattle.std.proofs.Common.{arith, ap, sym, subst, ◌∙◌}
use Rattle.a64_code.specs.declared.instr.Instr.{Instr}
use Rattle.a64_laws.specs.Runs.{instr_at}
use Rattle.code_relation.specs.Items.{Spot, spot_at, Acts, HasInstr}
use Rattle.code_relation.specs.Laws.Placing.{from_item, from_item-start, from_item-end, StandsAt-front, StandsAt-back}
use Rattle.gen_base.specs.Code.{Code as Items, only, plain, in_turn, labelled}
use Rattle.sym_code.specs.declared.item.SymItem.{SymItem}
use Rattle.sym_code.specs.declared.item.SymItem.TheVariants as item
use Rattle.code_follows.specs.Scene.{Scene, Lies}

-- ---- one after another

-- the first piece, and the others behind it
pub record LiesBy (k : Scene) (first rest : Items) (from to : ℕ) : Type 0 where
  pub middle : ℕ
  pub front : Lies k first from middle
  pub back : Lies k rest middle to

pub Lies-turn : {k : Scene} {from to : ℕ} (x : Items) (xs : List Items) → Lies k (in_turn (x ∷ xs)) from to →
    LiesBy k x (in_turn xs) from to
Lies-turn {k} {from} {to} x xs lies = record {
  middle = lies.place.at (length first);
  front = record {
    position = lies.position;
    place = lies.place;
    label_is = lies.label_is;
    stands = StandsAt-front first rest lies.stands;
    from_is = lies.from_is;
    to_is = refl;
  };
  back = record {
    position = lies.position + length first;
    place = from_item (length first) lies.place;
    label_is = lies.label_is;
    stands = StandsAt-back first rest lies.stands;
    from_is = from_item-start (length first) lies.place;
    to_is = from_item-end lies.place first rest ∙ lies.to_is;
  };
}
  where
    first : List SymItem
    first = x lies.position

    rest : List SymItem
    rest = in_turn xs (lies.position + length first)

pub Lies-none : {k : Scene} {from to : ℕ} → Lies k (in_turn []) from to → from ≡ to
Lies-none lies = sym lies.from_is ∙ lies.to_is

-- code with labels of its own, whose numbers are some number and those behind it
pub record LiesLabelled (k : Scene) (code : ℕ → Items) (from to : ℕ) : Type 0 where
  pub number : ℕ
  pub lies : Lies k (code number) from to

pub Lies-labelled : {k : Scene} {from to : ℕ} (code : ℕ → Items) → Lies k (labelled code) from to → LiesLabelled k code from to
Lies-labelled code lies = record {
  number = 4 * lies.position;
  lies = record {
    position = lies.position;
    place = lies.place;
    label_is = lies.label_is;
    stands = lies.stands;
    from_is = lies.from_is;
    to_is = lies.to_is;
  };
}

-- ---- one item

-- what one item does there, in however many steps
pub record ActsFrom (k : Scene) (i : SymItem) (from to : ℕ) : Type 0 where
  pub spot : Spot
  pub acts : Acts k.code k.function spot i
  pub from_is : spot.from ≡ from
  pub to_is : spot.to ≡ to
  pub label_is : spot.label ≡ k.label

pub Lies-only : {k : Scene} {from to : ℕ} (i : SymItem) → Lies k (only i) from to → ActsFrom k i from to
Lies-only i lies = record {
  spot = spot_at lies.place 0;
  acts = lies.stands.acts 0 i refl;
  from_is = lies.from_is;
  to_is = lies.to_is;
  label_is = lies.label_is;
}

-- ---- instructions

-- instructions stand there, one behind another
pub record HasInstrs (k : Scene) (instrs : List Instr) (from to : ℕ) : Type 0 where
  pub each : (j : ℕ) (instr : Instr) → instr_at instrs j ≡ Some instr → HasInstr k.code (from + 4 * j) instr
  pub to_is : to ≡ from + 4 * length instrs

no_instr : (k : Scene) (from to : ℕ) → from ≡ to → HasInstrs k [] from to
no_instr k from to same = record { each = λ j instr is. absurd (cc); to_is = omega (arith, same) }

rest_has : {k : Scene} {instr : Instr} {instrs : List Instr} {from to : ℕ} → HasInstr k.code from instr →
    HasInstrs k instrs (from + 4) to → HasInstrs k (instr ∷ instrs) from to
rest_has {k} {instr} {instrs} {from} {to} first rest = record { each = each_of; to_is = omega (arith, rest.to_is) }
  where
    each_of : (j : ℕ) (x : Instr) → instr_at (instr ∷ instrs) j ≡ Some x → HasInstr k.code (from + 4 * j) x
    each_of zero x is =
        let same : instr ≡ x = cc in
        subst (λ y. HasInstr k.code (from + 4 * zero) y) same
        (subst (λ (at : ℕ). HasInstr k.code at instr) (omega arith) first)
    each_of (suc j) x is = subst (λ (at : ℕ). HasInstr k.code at x) (omega arith) (rest.each j x is)

-- the first of several, and the others
record LiesAt (k : Scene) (instr : Instr) (instrs : List Instr) (from to : ℕ) : Type 0 where
  first : HasInstr k.code from instr
  rest : Lies k (plain instrs) (from + 4) to

lies_first : {k : Scene} {from to : ℕ} (instr : Instr) (instrs : List Instr) → Lies k (plain (instr ∷ instrs)) from to →
    LiesAt k instr instrs from to
lies_first {k} {from} {to} instr instrs lies =
    let one : HasInstr k.code (lies.place.at 0) instr × (lies.place.at 1 ≡ lies.place.at 0 + 4) =
    lies.stands.acts 0 (item.Plain instr) refl in
    record {
      first = subst (λ (at : ℕ). HasInstr k.code at instr) lies.from_is one.0;
      rest = record {
        position = lies.position;
        place = from_item 1 lies.place;
        label_is = lies.label_is;
        stands = StandsAt-back (item.Plain instr ∷ []) (map item.Plain instrs) lies.stands;
        from_is = from_item-start 1 lies.place ∙ one.1 ∙ ap (λ at. at + 4) lies.from_is;
        to_is = from_item-end lies.place (item.Plain instr ∷ []) (map item.Plain instrs) ∙ lies.to_is;
      };
    }

pub Lies-plain : {k : Scene} {from to : ℕ} (instrs : List Instr) → Lies k (plain instrs) from to → HasInstrs k instrs from to
Lies-plain {k} {from} {to} instrs lies = by_list instrs from lies
  where
    by_list : (instrs : List Instr) (from : ℕ) → Lies k (plain instrs) from to → HasInstrs k instrs from to
    by_list [] from lies = no_instr k from to (sym lies.from_is ∙ lies.to_is)
    by_list (x ∷ xs) from lies = let parts = lies_first x xs lies in rest_has parts.first (by_list xs (from + 4) parts.rest)

-- just one
pub record HasOne (k : Scene) (instr : Instr) (from to : ℕ) : Type 0 where
  pub has : HasInstr k.code from instr
  pub to_is : to ≡ from + 4

pub Lies-one : {k : Scene} {from to : ℕ} (instr : Instr) → Lies k (plain (instr ∷ [])) from to → HasOne k instr from to
Lies-one instr lies =
    let parts = lies_first instr [] lies in
    record { has = parts.first; to_is = sym (sym parts.rest.from_is ∙ parts.rest.to_is) }
