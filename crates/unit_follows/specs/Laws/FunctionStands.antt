-- The items of a function stand where its words do, and those that store its arguments (this project's own).
use Rattle.std.specs.Prelude.{ℕ, ◌+◌, ◌*◌, ◌^◌, ◌<◌, true, List, [], ◌∷◌, ◌++◌, length, refl}
use Rattle.std.proofs.Common.{arith}
use Rattle.a64_code.specs.declared.instr.Instr.TheVariants.{Movz}
use Rattle.block_meaning.specs.Linkage.{structs_of}
use Rattle.block_meaning.specs.Running.{Function}
use Rattle.c_type_base.specs.declared.typed.StructInfo.{StructInfo}
use Rattle.c_type_base.specs.declared.typed.TFunction.{TFunction}
use Rattle.code_relation.specs.Calls.{frame_of}
use Rattle.code_relation.specs.Follows.{Code}
use Rattle.code_relation.specs.Items.{StandsAt}
use Rattle.code_relation.specs.Sites.{units_of}
use Rattle.code_relation.specs.Laws.Placing.{StandsAt-front}
use Rattle.frame_layout.specs.declared.frame.Frame.{Frame}
use Rattle.gen_base.specs.Registers.{returned}
use Rattle.gen_unit.specs.Functions.{entry}
use Rattle.gen_unit.specs.Labels.{end_of, form_of}
use Rattle.gen_unit.specs.Words.{Form}
use Rattle.sym_code.specs.declared.item.SymItem.TheVariants as item
use Rattle.unit_follows.specs.Functions.{IsFunctionAt, argument_items, body_items, all_items, function_place}
use Rattle.unit_follows.specs.Placing.{Placing}
use Rattle.unit_follows.specs.Laws.Items.{StandsAt-words}

module _ {c : Code} {p : Placing} {f : Function} {tf : TFunction} {base : ℕ} (fn : IsFunctionAt c p f tf base) where
  abbrev structs : List StructInfo
  structs = structs_of (units_of c.given) f.unit

  abbrev fr : Frame
  fr = frame_of (units_of c.given) f

  abbrev first : ℕ
  first = length (entry fr)

  abbrev form : Form
  form = form_of fr first (all_items structs tf fr)

  fits : base + 4 * end_of form first (all_items structs tf fr) < 2 ^ 56
  fits = omega (arith, fn.words.leaves.below)

  pub function_stands : StandsAt c f (function_place structs tf fr base) (all_items structs tf fr)
  function_stands = StandsAt-words f form base first (all_items structs tf fr) refl fn.all (omega (arith, fn.file.pays)) fn.words.reach fits
      fn.sound fn.words.items

  -- its arguments are stored first
  pub arguments_stand : StandsAt c f (function_place structs tf fr base) (argument_items tf fr)
  arguments_stand = StandsAt-front (argument_items tf fr)
      (body_items structs tf fr ++ ((item.Plain (Movz true 0 0 returned) ∷ []) ++ [])) function_stands
