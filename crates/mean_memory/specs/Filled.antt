-- How many cells a value of a type fills.
use Rattle.std.specs.Prelude.{◌≡◌, ◌≤◌, ℕ}
use Rattle.c_type_base.specs.declared.ty.Ty.{Ty, out-Ty}
use Rattle.c_type_base.specs.declared.ty.Ty.TheOpen.{Ty-F}
use Rattle.c_type_base.specs.Sizes.{int_bytes}
use Rattle.c_type_base.specs.Types.{TyLayer}

abbrev pub fills_level : TyLayer → ℕ → Type 0
fills_level (Ty-F.Int t) n = n ≡ int_bytes t
fills_level (Ty-F.Pointer t) n = n ≡ 8
fills_level _ n = n ≡ 0

-- so many cells hold a scalar of a type
abbrev pub Fills : Ty → ℕ → Type 0
Fills t n = fills_level (out-Ty t) n

abbrev pub fits_level : TyLayer → ℕ → Type 0
fits_level (Ty-F.Int t) n = n ≤ 8
fits_level (Ty-F.Pointer t) n = n ≤ 8
fits_level _ n = Unit {0}

-- so many cells are read as a scalar of a type, if it is one
abbrev pub Reads : Ty → ℕ → Type 0
Reads t n = fits_level (out-Ty t) n
