-- What the link of given files is judged to be.
use Rattle.std.proofs.Common.{◌≡◌, refl, List, ℕ, [], ◌∷◌, codes, true, false, Some, None}
use Rattle.mean_link.specs.LinkFault.{first_repeated, has_main, first_missing}
use Rattle.mean_link.specs.declared.names.FileNames.{FileNames}

-- int f(void){return 1;} int main(void){return 0;}
abbrev both : FileNames
both = record { defined = codes "f" ∷ codes "main" ∷ []; has_main = true; undefined = [] }

-- int f(void){return 2;}
abbrev again : FileNames
again = record { defined = codes "f" ∷ []; has_main = false; undefined = [] }

-- int f(int x); int main(void){return f(41);}
abbrev caller : FileNames
caller = record { defined = codes "main" ∷ []; has_main = true; undefined = codes "f" ∷ [] }

f_twice : first_repeated (both ∷ again ∷ []) ≡ Some (codes "f")
f_twice = refl

f_once : first_repeated (caller ∷ again ∷ []) ≡ None
f_once = refl

no_main : has_main (again ∷ []) ≡ false
no_main = refl

f_missing : first_missing (caller ∷ []) ≡ Some (codes "f")
f_missing = refl

f_there : first_missing (caller ∷ again ∷ []) ≡ None
f_there = refl
