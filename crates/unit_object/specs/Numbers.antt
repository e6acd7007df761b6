-- The numbers that functions, objects and externs of a file have among the symbols of its object, by their own.
use Rattle.std.specs.Prelude.{ℕ, slice_index}
use Rattle.c_type_base.specs.declared.typed.Target.{Target}
use Rattle.c_type_base.specs.declared.typed.Target.TheVariants as target
use Rattle.gen_unit.specs.declared.parts.CodeTarget.{CodeTarget}
use Rattle.gen_unit.specs.declared.parts.CodeTarget.TheVariants as code_target
use Rattle.unit_object.specs.declared.numbers.Numbers.{Numbers}

-- texts come first
abbrev pub code_number : Numbers → CodeTarget → ℕ
code_number n (code_target.Function k) = slice_index n.functions.items k
code_number n (code_target.Extern k) = slice_index n.externs.items k
code_number n (code_target.Global k) = slice_index n.globals.items k
code_number n (code_target.Text k) = k

abbrev pub data_number : Numbers → Target → ℕ
data_number n (target.Global k) = slice_index n.globals.items k
data_number n (target.Extern k) = slice_index n.externs.items k
data_number n (target.Text k) = k
