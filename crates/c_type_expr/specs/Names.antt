-- The declarations in scope, with the innermost scope apart: there is always one.
use Rattle.std.specs.Prelude.{List}
use Rattle.c_type_expr.specs.declared.scopes.Binding.{Binding}

pub record Names : Type 0 where
  -- the latest first
  pub inner : List Binding
  -- the scopes around, from the inside out
  pub outer : List (List Binding)
