-- Lists of names as tables hold them.
use Rattle.std.proofs.Common.{◌≡◌, refl, sym, ◌∙◌, ap, ℕ, Bool, not, ◌||◌, List, [], ◌∷◌, ◌++◌}
use Rattle.std.specs.Prelude.{if◌then◌else◌}
use Rattle.c_type_base.specs.declared.typed.ExternInfo.{ExternInfo}
use Rattle.mean_link.specs.Names.{is_among}

-- with a name at the end, where it is not there yet
abbrev pub with_name : List (List ℕ) → List ℕ → List (List ℕ)
with_name names name = (if is_among names name then names else names ++ name ∷ [])

-- the same names are there
abbrev pub HaveSame : List (List ℕ) → List (List ℕ) → Type 0
HaveSame these those = (name : List ℕ) → is_among these name ≡ is_among those name

-- these names more
abbrev pub Adds : List (List ℕ) → List (List ℕ) → List (List ℕ) → Type 0
Adds before after names = (name : List ℕ) → is_among after name ≡ (is_among before name || is_among names name)

abbrev pub is_unknown : List (List ℕ) → List ℕ → Bool
is_unknown known name = not (is_among known name)

-- the names of the externs that are marked
abbrev pub used_by : List Bool → List ExternInfo → List (List ℕ)
used_by (b ∷ bs) (e ∷ es) = (if b then e.name ∷ used_by bs es else used_by bs es)
used_by _ _ = []
