-- Where parameters and locals occur in an expression (this project's own). An occurrence is harmless where it is the whole of a scalar that
-- is read, written, or changed by `++` or `--`, or where it starts a path that ends at such a scalar. What stands below `sizeof` is not
-- evaluated (ISO C11 6.5.3.4 paragraph 2).
use Rattle.std.specs.Prelude.{ℕ, ◌++◌, ◌%◌, ◌^◌, List, [], flat_map}
use Rattle.c_type_base.specs.declared.ty.Ty.{Ty}
use Rattle.c_type_base.specs.declared.expr.TExpr.{TExpr}
use Rattle.c_type_base.specs.declared.expr.TNode.TheOpen.{TNode-F, TExpr-F}
use Rattle.c_type_base.specs.declared.expr.TNode.TheFolds.{fold-TNode, fold-TExpr}
use Rattle.c_type_base.specs.declared.expr.TNode.{TNode}
use Rattle.c_type_base.specs.declared.known.Constancy.{Constancy}
use Rattle.c_type_base.specs.declared.known.Constancy.TheVariants.{Varies, Is}
use Rattle.c_type_base.specs.declared.typed.StructInfo.{StructInfo}
use Rattle.c_type_base.specs.Sizes.{size}
use Rattle.c_type_base.specs.Types.{int_of}
use Rattle.c_type_base.specs.Known.{wrapped}
use Rattle.c_type_base.specs.Constants.{chosen}
use Rattle.slot_safety.specs.declared.seen.Path.{Path}
use Rattle.slot_safety.specs.declared.seen.Path.TheVariants.{Nowhere, Object}
use Rattle.slot_safety.specs.declared.seen.Seen.{Seen}
use Rattle.slot_safety.specs.Constants.{unary_constant, binary_constant}
use Rattle.slot_safety.specs.Paths.{start_of, decayed, member, element, ended, misused}

-- what is said of an expression
pub record Uses : Type 0 where
  pub ty : Ty
  -- whether it is a constant, and the path that it is
  pub seen : Seen
  -- the locals with an occurrence in it that is not harmless, that at the start of its own path aside
  pub harmed : List ℕ

-- the same of a node
pub record Found : Type 0 where
  pub seen : Seen
  pub harmed : List ℕ

-- by the type of its expression
abbrev pub NodeUses : Type 0
NodeUses = Ty → Found

-- a node of which this is known, whatever the type of its expression
abbrev pub uses_of : Constancy → Path → List ℕ → NodeUses
uses_of constant path harmed t = record { seen = record { constant = constant; path = path }; harmed = harmed }

-- an expression that is no path, with the locals that are harmed in it
abbrev pub computes : Constancy → List ℕ → NodeUses
computes constant harmed = uses_of constant Nowhere harmed

-- the locals that are harmed where it is used in another way than as a scalar or as the start of a path
abbrev pub all : Uses → List ℕ
all e = e.harmed ++ start_of e.seen.path

-- those that are harmed where it is read, written or changed
abbrev pub touched : Uses → List ℕ
touched e = e.harmed ++ misused e.ty e.seen.path

-- a step along its path
abbrev pub steps_to : Uses → List ℕ → Path → NodeUses
steps_to e harmed path = uses_of Varies path (e.harmed ++ (harmed ++ ended e.seen.path path))

-- what is said of a node, by what is said of its parts
abbrev pub node_step : List StructInfo → TNode-F NodeUses Uses → NodeUses
node_step structs (TNode-F.Constant n t) = computes (Is n) []
node_step structs (TNode-F.Text number) = computes Varies []
node_step structs (TNode-F.Local k) = uses_of Varies (Object k) []
node_step structs (TNode-F.Global number) = computes Varies []
node_step structs (TNode-F.Extern number) = computes Varies []
node_step structs (TNode-F.Paren e) = uses_of e.seen.constant e.seen.path e.harmed
node_step structs (TNode-F.Unary o e) = computes (unary_constant o e.ty e.seen.constant) (all e)
node_step structs (TNode-F.Binary o a b) = computes (binary_constant o a.ty a.seen.constant b.seen.constant) (all a ++ all b)
node_step structs (TNode-F.Assign o a b) = computes Varies (touched a ++ all b)
node_step structs (TNode-F.Cond c a b) =
    computes (chosen c.seen.constant a.seen.constant b.seen.constant) (all c ++ (all a ++ all b))
node_step structs (TNode-F.Cast t e) = computes (wrapped (int_of t) e.seen.constant) (all e)
node_step structs (TNode-F.SizeofExpr e) = computes (Is (size structs e.ty % 2 ^ 64)) []
node_step structs (TNode-F.SizeofName t) = computes (Is (size structs t % 2 ^ 64)) []
node_step structs (TNode-F.Call callee arguments) = computes Varies (flat_map all arguments)
node_step structs (TNode-F.Index a i) = steps_to a (all i) (element a.seen.path i.seen.constant)
node_step structs (TNode-F.Member e number) = steps_to e [] (member e.seen.path)
node_step structs (TNode-F.Arrow e number) = computes Varies (all e)
node_step structs (TNode-F.Step s e) = computes Varies (touched e)
node_step structs (TNode-F.Read e) = computes Varies (touched e)
node_step structs (TNode-F.Decay e) = steps_to e [] (decayed e.ty e.seen.path)
node_step structs (TNode-F.Convert e) = λ t. computes (wrapped (int_of t) e.seen.constant) (all e) t

abbrev pub expr_step : TExpr-F NodeUses Uses → Uses
expr_step e = record { ty = e.ty; seen = (e.node e.ty).seen; harmed = (e.node e.ty).harmed }

-- what is said of an expression
abbrev pub uses : List StructInfo → TExpr → Uses
uses structs = fold-TExpr NodeUses Uses (node_step structs) expr_step

abbrev pub node_uses : List StructInfo → TNode → NodeUses
node_uses structs = fold-TNode NodeUses Uses (node_step structs) expr_step

-- the locals with an occurrence in an expression that is not harmless, where its value is used
abbrev pub harmed_in : List StructInfo → TExpr → List ℕ
harmed_in structs e = all (uses structs e)
