-- The code of every kind of node does what it means (this project's own): in each scene of a program whose safe slots are aligned, and
-- whose calls give values of their types.
use Rattle.std.specs.Prelude.{ℕ, length}
use Rattle.c_ast.specs.declared.int_type.IntType.TheVariants as int
use Rattle.c_type_base.specs.declared.ty.Ty.TheVariants as ty
use Rattle.code_relation.specs.Sites.{units_of}
use Rattle.code_follows.specs.Aligned.{AlignedSlots}
use Rattle.code_follows.specs.CallsGive.{CallsGive}
use Rattle.code_follows.specs.Nodes.{ValueNodes, PlaceNodes, Nodes}
use Rattle.code_follows.specs.Scene.{Scene, IsScene, given_in}
use Rattle.code_follows.specs.Waits.{WaitingLaws}
use Rattle.code_follows.specs.Laws.LocalSites.{pointers_of}
use Rattle.code_follows.specs.Laws.Temps.{waiting_laws}
use Rattle.code_follows.specs.Laws.Truth.{PointersTrue}
use Rattle.code_follows.specs.Laws.Nodes.Address.{address_follows}
use Rattle.code_follows.specs.Laws.Nodes.AnyOperator.{operated_follows}
use Rattle.code_follows.specs.Laws.Nodes.Assigned.{assigned_follows}
use Rattle.code_follows.specs.Laws.Nodes.Call.{call_follows}
use Rattle.code_follows.specs.Laws.Nodes.Cast.{cast_follows, cast_to_void_follows}
use Rattle.code_follows.specs.Laws.Nodes.Chosen.{chosen_follows}
use Rattle.code_follows.specs.Laws.Nodes.Compound.{compound_follows}
use Rattle.code_follows.specs.Laws.Nodes.Constant.{constant_follows}
use Rattle.code_follows.specs.Laws.Nodes.Convert.{convert_follows}
use Rattle.code_follows.specs.Laws.Nodes.Decay.{decay_follows}
use Rattle.code_follows.specs.Laws.Nodes.Denied.{denied_follows}
use Rattle.code_follows.specs.Laws.Nodes.Element.{element_follows, element_of_second_follows}
use Rattle.code_follows.specs.Laws.Nodes.Local.{local_follows}
use Rattle.code_follows.specs.Laws.Nodes.Logical.{logical_follows}
use Rattle.code_follows.specs.Laws.Nodes.Named.{global_follows, text_follows, extern_follows}
use Rattle.code_follows.specs.Laws.Nodes.Paren.{paren_follows, paren_place_follows}
use Rattle.code_follows.specs.Laws.Nodes.Read.{read_follows}
use Rattle.code_follows.specs.Laws.Nodes.Signed.{signed_follows}
use Rattle.code_follows.specs.Laws.Nodes.SizeOf.{size_of_follows, size_of_type_follows}
use Rattle.code_follows.specs.Laws.Nodes.Stepped.{stepped_follows}
use Rattle.code_follows.specs.Laws.Nodes.Target.{target_follows}

module _ (k : Scene) (scene : IsScene k) (slots : AlignedSlots (units_of (given_in k))) (give : CallsGive
    (given_in k).program k.bound) where
  pointers : PointersTrue k
  pointers = pointers_of scene

  waits : WaitingLaws k
  waits = waiting_laws scene

  values : (depth : ℕ) → ValueNodes k depth
  values depth = record {
    constant = constant_follows k scene depth;
    paren = paren_follows k depth;
    address = address_follows k scene depth;
    denied = denied_follows k scene pointers depth;
    signed = signed_follows k scene depth;
    logical = logical_follows k scene pointers depth;
    operated = operated_follows k scene depth;
    assigned = assigned_follows k scene slots depth;
    compound = compound_follows k scene slots depth;
    chosen = λ c a b t condition is one one_is other other_is.
        chosen_follows k scene pointers depth c a b t condition is one one_is other other_is;
    cast = λ t e follows types. cast_follows k scene depth t e follows types;
    cast_to_void = λ t e follows is. cast_to_void_follows k scene depth t e follows is;
    size_of = size_of_follows k scene depth;
    size_of_type = size_of_type_follows k scene depth;
    call = call_follows k scene waits give depth;
    step = stepped_follows k scene slots depth;
    read = read_follows k scene slots depth;
    decay = decay_follows k scene depth;
    convert = convert_follows k scene depth;
  }

  places : (depth : ℕ) → PlaceNodes k depth
  places depth = record {
    text = λ n bytes is. text_follows scene depth n (ty.Array (ty.Int int.Char) (length bytes));
    local = λ n l among is. local_follows k scene depth n l is;
    global = λ n g is. global_follows scene depth n g.ty;
    extern_object = λ n e t is its defines. extern_follows scene depth n t;
    paren = paren_place_follows k depth;
    target = target_follows k scene depth;
    element = element_follows k scene waits depth;
    element_of_second = element_of_second_follows k scene waits depth;
  }

  pub nodes_follow : Nodes k
  nodes_follow = record { values = values; places = places }
