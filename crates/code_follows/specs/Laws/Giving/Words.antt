-- What runs give: the words that they are made of (this project's own).
use Rattle.std.specs.Prelude.{◌≡◌, ℕ, zero, suc, Bool, true, false, List, Option, Some, None, refl}
use Rattle.std.proofs.Common.{subst}
use Rattle.c_ast.specs.declared.token.Span.{Span}
use Rattle.block_meaning.specs.declared.access.Access.{Access}
use Rattle.block_meaning.specs.declared.reason.Reason.{Reason}
use Rattle.block_meaning.specs.Blocks.{Block}
use Rattle.block_meaning.specs.Running.{Stop, Result, Goes, Stops, Run, gives, stops, goes_on, and_then, one_of, unit_then, choice}
use Rattle.block_meaning.specs.Running.{with_some, by_blocks, Context, undefined, State as MeaningState}
use Rattle.code_follows.specs.Giving.{Gives}
use Rattle.code_follows.specs.Later.{AreBytes, Lasts}
use Rattle.code_follows.specs.Laws.Keeping.{leads_to}

-- anything
abbrev pub Any : {A : Type 0} → A → Type 0
Any a = Unit {0}

pub goes_value : {A : Type 0} {a b : A} {now later : MeaningState} → Goes a now ≡ Goes b later → a ≡ b
goes_value is = cc

pub goes_state : {A : Type 0} {a b : A} {now later : MeaningState} → Goes a now ≡ Goes b later → now ≡ later
goes_state is = cc

pub gives-gives : {A : Type 0} {P : A → Type 0} (a : A) → P a → Gives (gives a) P
gives-gives {P = P} a holds = record {
  gives = λ now later b bytes ran.
      (subst P (goes_value ran.is) holds, subst (λ (s : MeaningState). AreBytes s.input) (goes_state ran.is) bytes);
}

pub gives-stops : {A : Type 0} {P : A → Type 0} (why : Stop) → Gives (stops {A = A} why) P
gives-stops why = record { gives = λ now later b bytes ran. absurd (let is = ran.is in cc) }

pub gives-undefined : {A : Type 0} {P : A → Type 0} (here : Context) (span : Span) (access : Option Access) (why : Reason) →
    Gives (undefined {A = A} here span access why) P
gives-undefined here span access why = record { gives = λ now later b bytes ran. absurd (let is = ran.is in cc) }

-- of what lasts, only the input is known
pub gives-any : {A : Type 0} {m : Run A} → Lasts m → Gives m Any
gives-any lasts = record { gives = λ now later a bytes ran. (tt, (leads_to lasts ran).input bytes) }

pub gives-weaker : {A : Type 0} {m : Run A} {P Q : A → Type 0} → ((a : A) → P a → Q a) → Gives m P → Gives m Q
gives-weaker weaker given = record {
  gives = λ now later a bytes ran. let two = given.gives now later a bytes ran in (weaker a two.0, two.1);
}

pub gives-then : {A B : Type 0} {m : Run A} {f : A → Run B} {P : A → Type 0} {Q : B → Type 0} → Gives m P →
    ((a : A) → P a → Gives (f a) Q) → Gives (and_then m f) Q
gives-then {A} {B} {m} {f} {P} {Q} first each = record {
  gives = λ now later b bytes ran. by_result now later b bytes (m now) refl ran.is;
}
  where
    by_result : (now later : MeaningState) (b : B) → AreBytes now.input → (r : Result A) → m now ≡ r → goes_on r f ≡ Goes b later →
        Q b × AreBytes later.input
    by_result now later b bytes (Goes a between) is ran =
        let two = first.gives now between a bytes (record { is = is }) in
        (each a two.0).gives between later b two.1 (record { is = ran })
    by_result now later b bytes (Stops why between) is ran = absurd (cc)

gives_one : {A : Type 0} {m : Run A} {P : A → Type 0} → Gives m P → (work : ℕ) (now later : MeaningState) (a : A) → AreBytes now.input →
    one_of work m now ≡ Goes a later → P a × AreBytes later.input
gives_one given zero now later a bytes is = absurd (cc)
gives_one given (suc rest) now later a bytes is = given.gives (record now { work = rest }) later a bytes (record { is = is })

pub gives-unit : {A : Type 0} {m : Run A} {P : A → Type 0} → Gives m P → Gives (unit_then m) P
gives-unit given = record { gives = λ now later a bytes ran. gives_one given now.work now later a bytes ran.is }

pub gives-choice : {A : Type 0} {m n : Run A} {P : A → Type 0} (b : Bool) → Gives m P → Gives n P → Gives (choice b m n) P
gives-choice true one other = record { gives = λ now later a bytes ran. one.gives now later a bytes (record { is = ran.is }) }
gives-choice false one other = record { gives = λ now later a bytes ran. other.gives now later a bytes (record { is = ran.is }) }

pub gives-some : {A B : Type 0} (o : Option A) {f : A → Run B} {P : B → Type 0} → ((a : A) → o ≡ Some a → Gives (f a) P) →
    Gives (with_some o f) P
gives-some None each = gives-stops _
gives-some (Some a) each = each a refl

pub gives-blocks : {A : Type 0} {f : List Block → Run A} {P : A → Type 0} → ((blocks : List Block) → Gives (f blocks) P) →
    Gives (by_blocks f) P
gives-blocks each = record {
  gives = λ now later a bytes ran. (each now.blocks).gives now later a bytes (record { is = ran.is });
}
