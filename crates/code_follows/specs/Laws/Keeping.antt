-- A run leads to a later state, and there a pointer has the number that it had (this project's own).
use Rattle.std.specs.Prelude.{◌≡◌, ℕ, ◌+◌, ◌%◌, ◌≤◌, length, List, ◌++◌, slice_get, slice_index, Option, Some, None, refl, if◌then◌else◌}
use Rattle.std.proofs.Common.{arith, ap, sym, subst, ◌∙◌}
use Rattle.std.proofs.lemmas.List.{take-append-le}
use Rattle.mt_base.specs.Tags.{slot_tag}
use Rattle.c_ast.specs.declared.token.Span.{Span}
use Rattle.c_type_base.specs.declared.expr.TExpr.{TExpr}
use Rattle.c_type_base.specs.declared.ty.Ty.{Ty}
use Rattle.frame_layout.specs.declared.frame.Slot.{Slot}
use Rattle.frame_layout.specs.WellFormed.{is_tagged_slot}
use Rattle.block_meaning.specs.Blocks.{Block}
use Rattle.block_meaning.specs.Expressions.{parts_at}
use Rattle.block_meaning.specs.Meaning.{calls_at}
use Rattle.block_meaning.specs.Running.{Call, Context, Run, State as MeaningState}
use Rattle.block_meaning.specs.declared.kind.Kind.{Kind}
use Rattle.block_meaning.specs.declared.kind.Kind.TheVariants.{NullBlock, Global, Text, Code, Local}
use Rattle.block_meaning.specs.declared.value.Pointer.{Pointer}
use Rattle.block_meaning.specs.declared.value.Value.{Value}
use Rattle.block_meaning.specs.declared.value.Value.TheVariants.{Number, Address, Struct, NoValue}
use Rattle.block_meaning.specs.Laws.Steady.{state_after}
use Rattle.code_relation.specs.Calls.{drawn_by, lowest}
use Rattle.code_relation.specs.Laws.Lists.{get_within}
use Rattle.code_relation.specs.Laws.Placing.{get_front}
use Rattle.code_relation.specs.Numbers.{number_at, IsNumber, Holds}
use Rattle.code_relation.specs.Sites.{Given, units_of, site, choice_of, site_of_slot, slot_in, site_of_local, site_by}
use Rattle.code_relation.specs.Stands.{IsLocal, Stands}
use Rattle.code_follows.specs.Later.{StaysAt, IsLater, Lasts, Ran}
use Rattle.code_follows.specs.Values.{ValueIs, PlaceIs}
use Rattle.code_follows.specs.Laws.Lasting.Expressions.{parts_lasts}
use Rattle.code_follows.specs.Laws.Lasting.Meaning.{calls_lasts}

-- ---- runs of expressions

pub value_lasts : (bound : ℕ) (here : Context) (depth : ℕ) (around : Span) (e : TExpr) →
    Lasts ((parts_at (calls_at bound) here depth).value_in around e)
value_lasts bound here depth around e = (parts_lasts (calls_lasts bound) here depth).value around e

pub place_lasts : (bound : ℕ) (here : Context) (depth : ℕ) (e : TExpr) → Lasts ((parts_at (calls_at bound) here depth).place e)
place_lasts bound here depth e = (parts_lasts (calls_lasts bound) here depth).place e

-- where it completes
pub leads_to : {A : Type 0} {m : Run A} {a : A} {now later : MeaningState} → Lasts m → Ran m now a later → IsLater now later
leads_to {m = m} {now = now} lasts ran = subst (λ r. IsLater now (state_after r)) ran.is (lasts.leads now)

-- ---- numbers

choice_later : (g : Given) (calls new : List Call) (c : Call) → c.number ≤ length calls →
    choice_of g (calls ++ new) c ≡ choice_of g calls c
choice_later g calls new c within =
    ap (λ cs. slice_index g.loaded.choices ((g.first + drawn_by (units_of g) cs) % length g.loaded.choices))
    (take-append-le c.number calls new within)

slot_later : (g : Given) (calls new : List Call) (c : Call) (o : Option Slot) → c.number ≤ length calls →
    site_of_slot g (calls ++ new) c o ≡ site_of_slot g calls c o
slot_later g calls new c None within = refl
slot_later g calls new c (Some slot) within =
    ap (λ choice. site (lowest c + slot.start) (if is_tagged_slot slot then slot_tag choice slot.index else 0))
    (choice_later g calls new c within)

module _ {g : Given} {here : Context} {now later : MeaningState} (stands : Stands g here now) (is_later : IsLater now later) where
  -- a block is where it was
  pub site_later : (number : ℕ) (b : Block) → slice_get now.blocks number ≡ Some b →
      site_by g later.calls b.kind number ≡ site_by g now.calls b.kind number
  site_later number b there = ap (λ calls. site_by g calls b.kind number) is_later.calls_are ∙ by_kind b.kind refl
    where
      by_kind : (kind : Kind) → b.kind ≡ kind → site_by g (now.calls ++ is_later.new_calls) kind number ≡ site_by g now.calls kind number
      by_kind NullBlock is = refl
      by_kind (Global unit k) is = refl
      by_kind (Text unit k) is = refl
      by_kind (Code unit k) is = refl
      by_kind (Local call k) is =
          let l : IsLocal g now b call k = stands.locals number b call k there is in
          ap (λ o. site_of_local g (now.calls ++ is_later.new_calls) o k)
          (get_front now.calls is_later.new_calls call l.made_by l.call_is)
          ∙ slot_later g now.calls is_later.new_calls l.made_by (slot_in g l.made_by k)
          (omega (arith, stands.numbers call l.made_by l.call_is, get_within now.calls call l.made_by l.call_is))
          ∙ sym (ap (λ o. site_of_local g now.calls o k) l.call_is)

  pub IsNumber-later : {p : Pointer} {n : ℕ} → IsNumber g now p n → IsNumber g later p n
  IsNumber-later {p} is =
      let there : StaysAt p.block is.block later.blocks = is_later.blocks.stays p.block is.block is.is in
      record {
        block = there.block;
        is = there.is;
        fits = is.fits;
        number = is.number
            ∙ ap (λ at. number_at at p.offset) (sym (site_later p.block is.block is.is))
            ∙ ap (λ kind. number_at (site_by g later.calls kind p.block) p.offset) (sym there.kind_is);
      }

  pub Holds-later : (v : Value) (n : ℕ) → Holds g now v n → Holds g later v n
  Holds-later (Number m) n holds = holds
  Holds-later (Address p) n holds = IsNumber-later holds
  Holds-later (Struct p) n holds = IsNumber-later holds
  Holds-later NoValue n holds = tt

  pub ValueIs-later : {t : Ty} {v : Value} {n : ℕ} → ValueIs g t v now n → ValueIs g t v later n
  ValueIs-later {v = v} {n} is = record { of = is.of; holds = Holds-later v n is.holds }

  pub PlaceIs-later : {p : Pointer} {n : ℕ} → PlaceIs g p now n → PlaceIs g p later n
  PlaceIs-later is = record { is = IsNumber-later is.is }
