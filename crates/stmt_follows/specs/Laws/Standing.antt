-- The pieces of a statement's code, where the whole stands (this project's own).
use Rattle.std.specs.Prelude.{◌≡◌, ℕ, ◌+◌, ◌*◌, List, [], ◌∷◌, length, refl}
use Rattle.std.proofs.Common.{sym, subst, ◌∙◌}
use Rattle.code_follows.specs.Scene.{Scene}
use Rattle.code_relation.specs.Laws.Placing.{from_item, from_item-start, from_item-end, StandsAt-front, StandsAt-back, get_front, get_back}
use Rattle.gen_base.specs.Code.{Code as Items, in_turn, labelled}
use Rattle.sym_code.specs.declared.item.SymItem.{SymItem}
use Rattle.sym_code.specs.declared.item.SymItem.TheVariants as item
use Rattle.stmt_follows.specs.Parts.{Standing}

-- ---- one after another

-- the first piece, and the others behind it
pub record StandingBy (k : Scene) (Leaving : ℕ → Type 0) (first rest : Items) (from to : ℕ) : Type 0 where
  pub middle : ℕ
  pub front : Standing k Leaving first from middle
  pub back : Standing k Leaving rest middle to

pub Standing-turn : {k : Scene} {Leaving : ℕ → Type 0} {from to : ℕ} (x : Items) (xs : List Items) →
    Standing k Leaving (in_turn (x ∷ xs)) from to → StandingBy k Leaving x (in_turn xs) from to
Standing-turn {k} {Leaving} {from} {to} x xs stands = record {
  middle = stands.lies.place.at (length first);
  front = record {
    lies = record {
      position = stands.lies.position;
      place = stands.lies.place;
      label_is = stands.lies.label_is;
      stands = StandsAt-front first rest stands.lies.stands;
      from_is = stands.lies.from_is;
      to_is = refl;
    };
    leaving = λ n is. stands.leaving n (get_front first rest n item.Leave is);
  };
  back = record {
    lies = record {
      position = stands.lies.position + length first;
      place = from_item (length first) stands.lies.place;
      label_is = stands.lies.label_is;
      stands = StandsAt-back first rest stands.lies.stands;
      from_is = from_item-start (length first) stands.lies.place;
      to_is = from_item-end stands.lies.place first rest ∙ stands.lies.to_is;
    };
    leaving = λ n is. stands.leaving (length first + n) (get_back first rest n item.Leave is);
  };
}
  where
    first : List SymItem
    first = x stands.lies.position

    rest : List SymItem
    rest = in_turn xs (stands.lies.position + length first)

pub Standing-none : {k : Scene} {Leaving : ℕ → Type 0} {from to : ℕ} → Standing k Leaving (in_turn []) from to → from ≡ to
Standing-none stands = sym stands.lies.from_is ∙ stands.lies.to_is

-- an address by another name
pub Standing-at : {k : Scene} {Leaving : ℕ → Type 0} {code : Items} {from to start end : ℕ} → from ≡ start → to ≡ end →
    Standing k Leaving code from to → Standing k Leaving code start end
Standing-at {k} {Leaving} {code} {from} {to} {start} {end} first last stands =
    subst (λ (x : ℕ). Standing k Leaving code x end) first (subst (λ (x : ℕ). Standing k Leaving code from x) last stands)

-- two pieces
pub Standing-two : {k : Scene} {Leaving : ℕ → Type 0} {from to : ℕ} (x y : Items) → Standing k Leaving (in_turn (x ∷ y ∷ [])) from to →
    StandingBy k Leaving x y from to
Standing-two {k} {Leaving} {from} {to} x y stands = record {
  middle = parts.middle;
  front = parts.front;
  back = Standing-at refl (Standing-none rest.back) rest.front;
}
  where
    parts : StandingBy k Leaving x (in_turn (y ∷ [])) from to
    parts = Standing-turn x (y ∷ []) stands

    rest : StandingBy k Leaving y (in_turn []) parts.middle to
    rest = Standing-turn y [] parts.back

-- code with labels of its own, whose numbers are some number and those behind it
pub record StandingLabelled (k : Scene) (Leaving : ℕ → Type 0) (code : ℕ → Items) (from to : ℕ) : Type 0 where
  pub number : ℕ
  pub stands : Standing k Leaving (code number) from to

pub Standing-labelled : {k : Scene} {Leaving : ℕ → Type 0} {from to : ℕ} (code : ℕ → Items) →
    Standing k Leaving (labelled code) from to → StandingLabelled k Leaving code from to
Standing-labelled code stands = record {
  number = 4 * stands.lies.position;
  stands = record {
    lies = record {
      position = stands.lies.position;
      place = stands.lies.place;
      label_is = stands.lies.label_is;
      stands = stands.lies.stands;
      from_is = stands.lies.from_is;
      to_is = stands.lies.to_is;
    };
    leaving = λ n is. stands.leaving n is;
  };
}
