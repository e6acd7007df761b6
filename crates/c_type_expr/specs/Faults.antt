-- The rules that are broken, and which of them comes first.
use Rattle.std.specs.Prelude.{◌≡◌, ◌<◌, ◌≤◌, ℕ, Bool, true, ◌&&◌, List, [], ◌∷◌, All, if◌then◌else◌}
use Rattle.std.specs.List.{Contains}
use Rattle.c_ast.specs.declared.token.Span.{Span}
use Rattle.c_type_expr.specs.declared.fault.Fault.{Fault}

-- a rule of a construct: its number, and whether the construct keeps it
pub record Rule : Type 0 where
  pub number : ℕ
  pub kept : Bool

abbrev pub rule : ℕ → Bool → Rule
rule number kept = record { number = number; kept = kept }

abbrev pub fault : ℕ → Span → Fault
fault number span = record { number = number; span = span }

abbrev pub all_kept : List Rule → Bool
all_kept [] = true
all_kept (r ∷ rs) = r.kept && all_kept rs

-- the faults of a construct with these rules
abbrev pub broken : Span → List Rule → List Fault
broken span [] = []
broken span (r ∷ rs) = (if r.kept then broken span rs else fault r.number span ∷ broken span rs)

-- Of two faults the one whose construct ends first comes first, of those with one end the one that starts last, and of one place the
-- one with the smaller number: nodes of one span are one construct. (This project's own.)
pub data NoLater (f g : Fault) : Type 0 where
  ends_first : f.span.end < g.span.end → NoLater f g
  starts_last : f.span.end ≡ g.span.end → g.span.start < f.span.start → NoLater f g
  smaller : f.span.end ≡ g.span.end → f.span.start ≡ g.span.start → f.number ≤ g.number → NoLater f g

-- the first of some faults
pub record IsFirst (faults : List Fault) (f : Fault) : Type 0 where
  pub among : Contains faults f
  pub least : All (NoLater f) faults
